pub mod Actions
pub mod Blocks
pub mod Forms
pub mod Lists
