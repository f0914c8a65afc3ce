pub mod Beginnings
pub mod Prefixes
pub mod Viable
