pub mod Ledger
pub mod History
pub mod Tallies
pub mod Intakes
pub mod Calls
pub mod Batches
