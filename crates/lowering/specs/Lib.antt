pub mod View
pub mod Shapes
pub mod Listed
pub mod Nodes
