pub mod Turned
pub mod Itself
pub mod Listed
mod Valued
pub mod Kept
pub mod Rounds
pub mod Views
