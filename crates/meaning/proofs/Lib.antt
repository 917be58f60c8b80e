mod Worked
pub mod Members
pub mod Order
pub mod Ordered
pub mod Exec
pub mod Numbered
pub mod States
pub mod Commute
pub mod Replay
pub mod Runs
pub mod Certificate
pub mod Forget
pub mod Agree
