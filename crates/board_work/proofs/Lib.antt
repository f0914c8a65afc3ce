mod Jobs
mod Meanings
mod Chains
mod Answered
pub mod Comparisons
