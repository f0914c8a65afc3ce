-- The nodes and offsets of the entries of cells, for the crates above.
pub use Rattle.emit_cells.specs.Marks.{marks_of}
