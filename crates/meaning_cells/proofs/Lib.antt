pub mod Aims
pub mod Choosing
pub mod Ending
pub mod Looping
pub mod Parting
pub mod Readying
pub mod Seeing
