pub mod HeldNamesLemmas
pub mod HintLemmas
pub mod NamesLemmas
pub mod Examples
