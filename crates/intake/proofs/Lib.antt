mod Constants
pub mod Raises
pub mod Scans
pub mod Histories
pub mod Runs
pub mod Laws
