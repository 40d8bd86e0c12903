pub mod Canonical
pub mod Lists
pub mod Sources
pub mod Lengths
pub mod EncodeFaults
pub mod Sizes
pub mod Additions
