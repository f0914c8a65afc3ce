pub mod SingleOutline
pub mod Claims
pub mod ByOutlines
