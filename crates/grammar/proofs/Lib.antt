pub mod Reading
pub mod Words
pub mod Full
pub mod Leaves
pub mod Trees
pub mod Parts
pub mod Texts
mod Follow
mod Heads
mod Short
mod Blocks
mod Fresh
mod Rows
pub mod Taken
mod Takes
pub mod Exact
mod Faulty
mod Edges
mod Line
mod Joined
mod Within
mod Rest
pub mod Wrong
