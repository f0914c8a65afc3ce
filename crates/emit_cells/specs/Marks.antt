-- The nodes and offsets that a listing shows for the entries of cells.
use Rattle.std.specs.Prelude.{◌≡◌, ℕ, List, [], ◌∷◌, map}
use Rattle.std.specs.List.{flat_map}
use Rattle.flow.specs.Cells.{Anchor, AnchorsGrow}
use Rattle.task_code.specs.Code.{Act, Cell, Read, Entry}
use Rattle.task_code.specs.View.{entry_view}
use Rattle.task_code.specs.declared.entry.Entry.{Entry as Made}

-- the node and the offset of an entry that evaluates a cell or reads an element, and of no other
abbrev pub marked : Act → ℕ → ℕ → List Anchor
marked (Cell e) node offset = record { node = node; at = offset } ∷ []
marked Read node offset = record { node = node; at = offset } ∷ []
marked _ node offset = []

abbrev pub entry_marks : Entry → List Anchor
entry_marks e = marked e.act e.node e.offset

abbrev pub marks_of : List Entry → List Anchor
marks_of es = flat_map entry_marks es

-- an entry with this act is not the entry of a cell
abbrev pub IsUnmarked : Act → Type 0
IsUnmarked a = (node offset : ℕ) → marked a node offset ≡ []

-- the appended entries of cells have these nodes and marks
abbrev pub MarksGrow : List Made → List Made → List Anchor → Type 0
MarksGrow old new more = AnchorsGrow (marks_of (map entry_view old)) (marks_of (map entry_view new)) more
