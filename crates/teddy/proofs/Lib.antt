mod Constants
pub mod LookUps
pub mod Exact
pub mod Fronts
pub mod Marking
pub mod Standing
pub mod Clears
pub mod Lanes64
pub mod Hits
pub mod Made
pub mod Examples
