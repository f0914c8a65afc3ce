pub mod Blocking
pub mod Inputs
pub mod Missing
