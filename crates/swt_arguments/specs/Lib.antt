pub mod Commands
pub mod Words
pub mod Forms
pub mod Lines
pub mod Requests
pub mod Reader
pub mod Numbers
