pub mod Few
pub mod Into
pub mod Numbers
pub mod Outers
pub mod Owns
mod Puts
pub mod Starts
mod Bounds
mod Entries
mod Layings
mod Merged
