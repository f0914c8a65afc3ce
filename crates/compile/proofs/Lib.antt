pub mod Whole
pub mod Flows
pub mod Runs
pub mod Scripts
pub mod Sizes
pub mod Alike
pub mod Left
