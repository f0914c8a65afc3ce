pub mod ExampleTrees
pub mod Examples
pub mod Scoped
pub mod TypedValues
pub mod ArrayExamples
pub mod HeaderExamples
pub mod Offsets
pub mod Trees
