pub mod Candidates
pub mod Noted
pub mod Sites
pub mod Waits
