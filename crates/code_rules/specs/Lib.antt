pub mod CodeNames
pub mod IsCodeOf
pub mod NodesOnce
pub mod Room
pub mod Laying
pub mod Laid
pub mod Emitted
