-- What private clauses alone cite.
pub mod Growing
pub mod Held
pub mod Lent
pub mod Neighbours
