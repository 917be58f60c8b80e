pub mod Worker
pub mod Lent
