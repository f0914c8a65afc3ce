pub mod Folded
pub mod Made
pub mod Literals
