pub mod Broken
pub mod Variables
pub mod Bodies
pub mod NoFault
pub mod NotSingle
pub mod Found
pub mod Exact
pub mod Answered
