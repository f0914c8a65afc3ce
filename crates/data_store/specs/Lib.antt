pub mod Arrays
pub mod Data
pub mod Filled
pub mod Held
pub mod Stores
