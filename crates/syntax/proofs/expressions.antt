pub mod Chains
pub mod Climbing
pub mod Expressions
pub mod Forms
