pub mod Accepted
pub mod Gives
pub mod Checked
pub mod Stated
pub mod Typing
