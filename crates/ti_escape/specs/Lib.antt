pub mod Notation
pub mod Reading
pub mod FaultNames
pub mod Forms
pub mod Colors
pub mod Laws
pub mod inner
