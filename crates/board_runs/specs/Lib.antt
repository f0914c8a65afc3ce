pub mod Report
pub mod Same
pub mod Turns
pub mod Stopped
