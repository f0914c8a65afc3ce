pub mod Seeing
pub mod Waiting
