mod Constants
pub mod Rule
pub mod Listings
pub mod Enters
