-- What private clauses alone cite.
pub mod Conditionals
pub mod Facts
pub mod Rows
pub mod Found
pub mod Outlook
pub mod Pass
pub mod Values
