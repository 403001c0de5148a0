pub mod Choosing
pub mod Places
