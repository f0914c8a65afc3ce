pub mod Growth
pub mod Sight
