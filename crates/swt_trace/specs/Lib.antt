pub mod Trace
pub mod Report
pub mod Faults
pub mod Replay
pub mod Refused
