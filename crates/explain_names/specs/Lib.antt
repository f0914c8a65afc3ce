pub mod Lookups
pub mod Mentions
pub mod Ways
