pub mod Decimals
pub mod Fronts
pub mod Packs
