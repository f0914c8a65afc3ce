pub mod View
pub mod Shapes
pub mod Names
pub mod Whole
pub mod Tests
pub mod Viewed
pub mod Listed
pub mod Cells
