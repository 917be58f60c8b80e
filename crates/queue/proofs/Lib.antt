pub mod Many
pub mod Order
pub mod Shift
pub mod Take
