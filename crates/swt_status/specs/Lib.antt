pub mod Names
pub mod Verdicts
pub mod Statuses
pub mod Traces
pub mod Troubles
