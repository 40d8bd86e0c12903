-- What private clauses alone cite.
pub mod Analysis
pub mod Scan
pub mod Lexer
pub mod Gathering
pub mod Reading
