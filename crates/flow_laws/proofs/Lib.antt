mod Known
mod Expressions
mod Statements
mod Blocks
mod Few
pub mod Accepted
