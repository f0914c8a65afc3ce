pub mod Both
pub mod Entries
pub mod Merged
pub mod Node
pub mod Order
pub mod Slots
pub mod Waiting
