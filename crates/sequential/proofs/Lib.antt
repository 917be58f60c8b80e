pub mod Stored
pub mod Steps
pub mod Runs
pub mod Starts
