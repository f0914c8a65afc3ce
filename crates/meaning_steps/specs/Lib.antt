pub mod Taken
pub mod Environment
pub mod News
pub mod Kept
