pub mod Held
pub mod Active
pub mod Never
pub mod Turns
pub mod Opened
pub mod Listed
