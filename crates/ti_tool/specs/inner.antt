-- What private clauses alone cite.
pub mod Dues
pub mod Files
pub mod Answered
pub mod ReadsInto
pub mod Several
