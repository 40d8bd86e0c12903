pub mod Layout
pub mod Table
pub mod Content
pub mod Checks
pub mod LastNul
pub mod Refusal
pub mod Stages
pub mod Faults
