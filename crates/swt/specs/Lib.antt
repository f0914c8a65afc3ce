pub mod Outputs
pub mod Keepers
