pub mod Reads
pub mod Places
pub mod Each
pub mod Ends
pub mod Warned
pub mod Process
