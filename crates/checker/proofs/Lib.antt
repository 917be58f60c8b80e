pub mod Terms
pub mod Longs
pub mod Heads
pub mod Blocks
pub mod Tables
pub mod Rows
pub mod Lengths
pub mod Wholes
