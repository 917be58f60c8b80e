pub mod Refusals
pub mod Printed
pub mod Lines
pub mod Texts
