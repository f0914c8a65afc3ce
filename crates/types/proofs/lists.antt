pub mod ByText
pub mod Free
pub mod Places
pub mod Rest
pub mod Turns
