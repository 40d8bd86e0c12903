pub mod BlocksLemmas
pub mod Examples
