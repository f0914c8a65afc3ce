pub mod Commands
pub mod Declarations
pub mod Statements
