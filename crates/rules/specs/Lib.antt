pub mod Inputs
pub mod Many
pub mod Missing
pub mod Places
pub mod Slots
pub mod Waiting
