-- What private clauses alone cite.
pub mod Decimals
pub mod Mark
pub mod Stretch
