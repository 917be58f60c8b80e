pub mod Net
pub mod Promise
