pub mod Like
pub mod CoreBlocks
pub mod LikeWays
pub mod LikeSteps
pub mod LikeUses
pub mod LikeReads
