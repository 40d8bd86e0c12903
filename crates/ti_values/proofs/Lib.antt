pub mod Examples
pub mod NegativeLemmas
pub mod NumbersLemmas
pub mod OneSentLemmas
pub mod RenditionLemmas
pub mod SameLemmas
pub mod SentLemmas
pub mod ShownLemmas
