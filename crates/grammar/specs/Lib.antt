pub mod Syntax
pub mod Parse
pub mod Check
pub mod Rules
pub mod Promise
pub mod Faults
