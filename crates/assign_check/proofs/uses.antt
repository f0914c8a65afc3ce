pub mod Seeing
pub mod Visible
pub mod Reading
pub mod Statements
pub mod Calls
