pub mod Labels
pub mod Listing
pub mod Differences
pub mod Values
pub mod inner
