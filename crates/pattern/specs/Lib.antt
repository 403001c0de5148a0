pub mod Order
pub mod Contents
pub mod Entering
