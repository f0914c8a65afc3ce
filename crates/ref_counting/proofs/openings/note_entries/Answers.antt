use Rattle.std.proofs.Common.{◌≡◌, ◌∙◌, length, subst, sym, arith}
use Rattle.std.proofs.lemmas.Grind.{common_steps}
use Rattle.std.proofs.lemmas.List.{nil_from_length}
use Rattle.task_code.specs.Code.{Body}
use Rattle.ref_counting.specs.Openings.{NotesHomes}
use Rattle.ref_counting.proofs.Noting.{notes_opened, notes_unopened}
use Rattle.ref_counting.proofs.openings.note_entries.Goals as goal

pub returns-then-is_empty : goal.returns-then-is_empty
returns-then-is_empty c =
    let none : length c.at.result.now ≡ 0 = grind (arith, common_steps) in
    notes_unopened c.args.code.now c.args.openings.now c.args.number c.args.homes.now c.requires.openings c.requires.number
    (sym c.at.ensures ∙ nil_from_length c.at.result.now none)

pub returns-in_ok-note_body-in-Some : goal.returns-in_ok-note_body-in-Some
returns-in_ok-note_body-in-Some c =
    notes_opened c.args.code.now c.args.number c.args.homes.now c.note_body.new.homes
    (subst (λ (b : Body). NotesHomes c.args.number b.entries c.args.homes.now c.note_body.new.homes) c.in-Some.ensures.1 c.in_ok-note_body-in-Some.ensures)
