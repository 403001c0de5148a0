pub mod Rows
pub mod Numbers
pub mod Words
pub mod Simd
pub mod WordLanes
pub mod Halves
pub mod Loops
