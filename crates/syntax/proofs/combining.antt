pub mod Collected
pub mod Combine
pub mod Heights
pub mod Views
