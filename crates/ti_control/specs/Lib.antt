pub mod Capabilities
pub mod Entries
pub mod Parts
pub mod Places
