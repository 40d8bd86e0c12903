pub mod Limits
pub mod Letters
pub mod Version
