pub mod Bare
pub mod Giving
pub mod Granting
