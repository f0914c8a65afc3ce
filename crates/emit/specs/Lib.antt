pub mod Bodies
pub mod Emits
pub mod Marks
