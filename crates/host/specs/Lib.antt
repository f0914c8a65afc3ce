pub mod Identities
pub mod Events
pub mod Files
pub mod Traces
pub mod TraceFiles
pub mod Notes
