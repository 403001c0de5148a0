pub mod Buckets
pub mod Hash
pub mod Prefixes
pub mod Prepared
