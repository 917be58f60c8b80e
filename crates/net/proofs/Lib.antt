pub mod Turns
pub mod Rooms
pub mod Told
pub mod Ends
