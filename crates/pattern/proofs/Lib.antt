mod Constants
pub mod Entering
pub mod Longest
pub mod Tables
pub mod Trying
pub mod Shortest
