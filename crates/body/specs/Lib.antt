pub mod Code
pub mod Play
pub mod Encode
