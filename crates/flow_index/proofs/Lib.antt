pub mod Adding
pub mod Finding
pub mod Noting
pub mod Walking
