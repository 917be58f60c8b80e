pub mod Rests
pub mod Form
