-- How the entries of the cells of a script are marked.
use Rattle.std.proofs.Common.{◌≡◌, List, [], ◌∷◌, ◌++◌, map, refl, ap, sym, subst, ◌∙◌}
use Rattle.flow.specs.Cells.{Anchor, AreAmong, AnchorsGrow}
use Rattle.flow.proofs.Growing.{grows_both}
use Rattle.task_code.specs.Code.{Entry}
use Rattle.task_code.specs.View.{entry_view}
use Rattle.task_code.specs.declared.entry.Entry.{Entry as Made}
use Rattle.code_rules.specs.Laying.{bare}
use Rattle.emit_cells.specs.Marks.{MarksGrow, entry_marks, marks_of}

-- rights change no offset
bare_marks : (es : List Entry) → marks_of (map bare es) ≡ marks_of es
bare_marks [] = refl
bare_marks (e ∷ es) = ap (λ (ys : List Anchor). entry_marks e ++ ys) (bare_marks es)

pub same_marks : (es ds : List Entry) → map bare es ≡ map bare ds → marks_of es ≡ marks_of ds
same_marks es ds same = sym (bare_marks es) ∙ ap marks_of same ∙ bare_marks ds

-- what is laid from nothing on
pub all_marked : (first mid last : List Made) (xs ys : List Anchor) → first ≡ [] → MarksGrow first mid xs → MarksGrow mid last ys → AreAmong (marks_of (map entry_view last)) (xs ++ ys)
all_marked first mid last xs ys empty one two =
    (subst (λ (es : List Made). AnchorsGrow (marks_of (map entry_view es)) (marks_of (map entry_view last)) (xs ++ ys)) empty (grows_both xs ys one two)).each
