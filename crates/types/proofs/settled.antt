pub mod Numbered
pub mod Rising
pub mod Settling
pub mod Table
