pub mod Ends
pub mod Marked
