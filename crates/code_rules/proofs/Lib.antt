pub mod Members
pub mod Given
