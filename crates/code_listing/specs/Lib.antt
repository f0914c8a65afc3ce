pub mod Blocks
pub mod Buffers
pub mod Finding
pub mod Labels
pub mod Listed
pub mod Listing
pub mod Order
