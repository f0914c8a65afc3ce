use Rattle.std.proofs.Common.{[], ◌∷◌, ℕ, List}
use Rattle.task_code.specs.Code.{Way, Through}
use Rattle.ref_counting.proofs.Noting.{noted_both}
use Rattle.ref_counting.proofs.openings.note_branches.Goals as goal

pub returns : goal.returns
returns c =
    let first : List (Way × ℕ) = (Through, c.args.then) ∷ [] in
    let second : List (Way × ℕ) = (Through, c.args.other) ∷ [] in
    noted_both c.args.entry first second c.args.openings.now c.note.new.openings c.note-2.new.openings c.in_ok-note.ensures c.in_ok-note-2.ensures
