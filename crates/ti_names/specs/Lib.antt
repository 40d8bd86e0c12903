pub mod NameLists
pub mod AllNames
pub mod inner
