pub mod Effects
pub mod Ended
pub mod Fits
