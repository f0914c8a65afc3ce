use Rattle.std.proofs.Common.{subst, sym}
use Rattle.dataflow.specs.System.{In}
use Rattle.task_code.specs.Code.{Body}
use Rattle.ref_counting.specs.Makes.{NotesMade}
use Rattle.ref_counting.proofs.Making.{notes_unwaited, notes_waited}
use Rattle.ref_counting.proofs.declarations.note_body.Goals as goal

pub returns-then-not-is_in_place : goal.returns-then-not-is_in_place
returns-then-not-is_in_place c =
    notes_unwaited c.args.code.now c.args.openings.now c.args.number c.args.made.now.keys c.requires.openings c.requires.number
    (λ o t. c.is_in_place.ensures c.if-not-is_in_place.true o (subst (λ os. In o os) (sym c.at.ensures) t))

pub returns-in_ok-note_makes-in-Some : goal.returns-in_ok-note_makes-in-Some
returns-in_ok-note_makes-in-Some c =
    notes_waited c.args.code.now c.args.number c.args.made.now.keys c.note_makes.new.made.keys
    (subst (λ (b : Body). NotesMade c.args.number b.makes c.args.made.now.keys c.note_makes.new.made.keys) c.in-Some.ensures.1 c.in_ok-note_makes-in-Some.ensures)
