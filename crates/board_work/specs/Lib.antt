pub mod Assigned
pub mod Chains
pub mod View
pub mod Outcome
pub mod Same
