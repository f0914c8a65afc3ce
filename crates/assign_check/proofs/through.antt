pub mod Ways
pub mod WayNumbers
pub mod Clean
pub mod Faultless
pub mod BrokenWays
pub mod FoundWays
