pub mod Forms
pub mod Expressions
pub mod Scripts
pub mod Typed
pub mod Singly
pub mod Placed
pub mod Smaller
pub mod Declared
mod Sublists
mod Literals
mod Steps
mod Views
