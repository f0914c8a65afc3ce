pub mod Refused
pub mod Traced
