pub mod Systems
pub mod Streams
