pub mod Counting
pub mod Learning
pub mod Linking
pub mod Marking
pub mod Noting
pub mod Settling
pub mod Splicing
pub mod Walking
