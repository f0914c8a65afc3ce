pub mod Orders
pub mod Points
