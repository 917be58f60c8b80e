pub mod Letters
pub mod Promise
pub mod Back
