pub mod Effects
pub mod Harmless
pub mod Names
pub mod Narrow
pub mod Plain
pub mod Rows
