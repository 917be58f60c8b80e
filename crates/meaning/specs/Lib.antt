pub mod Model
pub mod Promise
pub mod Law
pub mod Worked
pub mod Agree
pub mod Printed
