pub mod Chosen
pub mod Ending
pub mod Listed
pub mod Taking
pub mod Targeted
