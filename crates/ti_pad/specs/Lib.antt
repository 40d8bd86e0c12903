pub mod Delays
pub mod Setting
pub mod Marks
pub mod Padded
pub mod Stops
pub mod Into
pub mod Laws
pub mod inner
