pub mod Numbers
pub mod Walks
pub mod Members
pub mod Blocks
pub mod Tested
pub mod Rows
pub mod TreeNumbers
