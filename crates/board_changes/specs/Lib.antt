pub mod Blocks
pub mod Data
pub mod Filled
pub mod Opened
pub mod Room
pub mod World
