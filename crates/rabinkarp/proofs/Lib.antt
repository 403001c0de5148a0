mod Constants
pub mod Filling
pub mod Slices
pub mod Members
pub mod Windows
pub mod Prefixes
pub mod Bucket
pub mod Found
