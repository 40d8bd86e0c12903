pub mod IsLeastIndexLemmas
pub mod TokensLemmas
pub mod DifferencesLemmas
pub mod ExtendedNamesLemmas
pub mod NamesLemmas
pub mod PlainNameLemmas
pub mod AreAlikeLemmas
pub mod Examples
