-- What private clauses alone cite.
pub mod Rate
pub mod Rows
pub mod Underway
pub mod Rising
