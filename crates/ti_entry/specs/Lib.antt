pub mod Finding
pub mod Items
pub mod Drafts
pub mod Reading
pub mod Laws
