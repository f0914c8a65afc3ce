pub mod Before
pub mod PlainNeeds
pub mod Chunk
pub mod Made
pub mod Marks
