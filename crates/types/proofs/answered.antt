pub mod Answered
pub mod Breaks
pub mod BreaksStated
pub mod BreaksScript
pub mod Unbroken
pub mod UnbrokenScript
