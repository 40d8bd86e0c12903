-- What private clauses alone cite.
pub mod Underway
pub mod Held
pub mod Decimal
pub mod Slots
pub mod Numbers
pub mod Running
