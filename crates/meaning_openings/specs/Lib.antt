pub mod Closing
pub mod Insides
pub mod Larger
pub mod Opening
