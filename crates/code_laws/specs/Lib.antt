pub mod Alike
pub mod Worked
pub mod Sources
pub mod Tested
pub mod Described
pub mod Standing
pub mod Within
