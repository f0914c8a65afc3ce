pub mod Equal
pub mod Places
pub mod Chunks
pub mod Listed
pub mod Opens
pub mod Rights
pub mod Kept
pub mod Counted
pub mod Crosses
pub mod Checked
pub mod Decided
pub mod Exactly
pub mod WorkedRuns
pub mod Faults
pub mod Blocks
mod Numbers
