pub mod InOrder
pub mod Merging
pub mod Moves
pub mod OrderLaws
pub mod Rising
pub mod Sharing
