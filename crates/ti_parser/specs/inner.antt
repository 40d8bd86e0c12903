-- What private clauses alone cite.
pub mod Colors
pub mod Forms
pub mod Paths
pub mod Receivers
pub mod Texts
