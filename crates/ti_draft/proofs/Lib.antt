pub mod NamedLemmas
pub mod JoinLemmas
pub mod LengthLemmas
pub mod EncodeFaultLemmas
pub mod EncodedSpellsLemmas
