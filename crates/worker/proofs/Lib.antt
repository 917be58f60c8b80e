pub mod Kept
pub mod Played
pub mod Few
pub mod Ends
