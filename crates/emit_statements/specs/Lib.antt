pub mod Doing
pub mod Into
pub mod Seen
pub mod Blocks
