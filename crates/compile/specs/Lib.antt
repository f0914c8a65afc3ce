pub mod Accepted
pub mod Compiled
pub mod FaultNames
pub mod Listed
pub mod Places
