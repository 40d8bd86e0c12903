pub mod BeyondLemmas
pub mod CoveredLemmas
pub mod NarrowLemmas
pub mod PlainLemmas
