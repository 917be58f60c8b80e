pub mod Words
pub mod Acts
pub mod Blocks
pub mod Bridge
pub mod Events
pub mod Encode
