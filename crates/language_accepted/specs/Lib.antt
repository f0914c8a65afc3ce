pub mod Always
pub mod Assigning
pub mod Types
pub mod Statements
pub mod Placed
