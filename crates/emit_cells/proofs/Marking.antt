-- How the marks of cells grow by an entry, and by those of parts.
use Rattle.std.proofs.Common.{◌≡◌, ◌<◌, ℕ, List, [], ◌∷◌, ◌++◌, map, length, get_or, refl, ap, sym, subst, ◌∙◌}
use Rattle.std.specs.List.{flat_map}
use Rattle.std.proofs.lemmas.List.{append-nil}
use Rattle.std.proofs.lemmas.List.Concat.{flat_map-append}
use Rattle.flow.specs.declared.cell.Cell.{Cell}
use Rattle.flow.specs.declared.cell.CellPart.{CellPart}
use Rattle.flow.specs.Cells.{Anchor, AreAmong, AnchorsGrow, anchor_of, part_anchors, parts_anchors}
use Rattle.flow.proofs.Growing.{among_all, grows_by}
use Rattle.task_code.specs.Code.{Entry}
use Rattle.task_code.specs.View.{entry_view}
use Rattle.task_code.specs.declared.entry.Entry.{Entry as Made}
use Rattle.emit_cells.specs.Marks.{MarksGrow, entry_marks, marks_of}

-- one more entry
pub marked_one : (old new : List Made) (e : Entry) → map entry_view new ≡ map entry_view old ++ e ∷ [] → MarksGrow old new (entry_marks e)
marked_one old new e is =
    grows_by (marks_of (map entry_view old)) (marks_of (map entry_view new)) (entry_marks e)
    (ap marks_of is ∙ flat_map-append entry_marks (map entry_view old) (e ∷ []) ∙ ap (λ (ys : List Anchor). marks_of (map entry_view old) ++ ys) (append-nil (entry_marks e)))

-- one that is of no cell
pub marked_none : (old new : List Made) (e : Entry) → map entry_view new ≡ map entry_view old ++ e ∷ [] → entry_marks e ≡ [] → MarksGrow old new []
marked_none old new e is none = subst (λ (xs : List Anchor). MarksGrow old new xs) none (marked_one old new e is)

-- a cell that stands among parts
pub part_among : {A : Type 0} (ps : List (CellPart A)) (i : ℕ) (x : CellPart A) (c : Cell A) → i < length ps → x ≡ get_or ps i x → part_anchors x ≡ anchor_of c ∷ []
    → AreAmong (anchor_of c ∷ []) (parts_anchors ps)
part_among ps i x c below is cell = subst (λ (xs : List Anchor). AreAmong xs (parts_anchors ps)) cell (among_all part_anchors ps i x below is)
