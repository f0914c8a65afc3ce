pub mod Parts
pub mod Scripts
pub mod Texts
pub mod Trees
pub mod Verdicts
