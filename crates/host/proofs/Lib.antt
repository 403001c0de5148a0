pub mod Texts
pub mod Sizes
pub mod Unchanged
mod Constants
