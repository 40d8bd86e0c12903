-- What private clauses alone cite.
pub mod Command
pub mod Errors
pub mod Matches
