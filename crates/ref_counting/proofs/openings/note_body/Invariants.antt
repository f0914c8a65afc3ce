use Rattle.std.proofs.Common.{take}
use Rattle.ref_counting.specs.Openings.{NotesHomes}
use Rattle.ref_counting.proofs.openings.note_body.Given as goal

abbrev pub invariant-loop-number : goal.invariant-loop-number
invariant-loop-number l = NotesHomes l.body (take l.number-index l.entries.items) l.fn.homes l.homes
