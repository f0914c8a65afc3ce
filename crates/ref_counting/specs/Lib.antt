pub mod Leads
pub mod Rows
pub mod Rights
pub mod Passing
pub mod Makes
pub mod Openings
pub mod Uses
