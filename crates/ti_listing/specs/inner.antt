-- What private clauses alone cite.
pub mod Differences
pub mod Names
pub mod Plain
