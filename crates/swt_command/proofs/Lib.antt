pub mod Causes
pub mod Checking
pub mod Endings
pub mod Enough
pub mod Halts
pub mod Meanings
pub mod Meant
pub mod Printed
pub mod Refused
pub mod Reported
pub mod Sinks
pub mod Stops
mod Alike
mod Texts
mod ReplayPrinted
