pub mod accepted
pub mod answered
pub mod lists
pub mod steps
pub mod visible
pub mod settled
