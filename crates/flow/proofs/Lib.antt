pub mod Times
pub mod Outwards
pub mod Fits
pub mod Decided
pub mod Growing
pub mod Anchors
