use Rattle.std.proofs.Common.{take, map}
use Rattle.task_code.specs.View.{variable_view}
use Rattle.ref_counting.specs.Makes.{NotesMade}
use Rattle.ref_counting.proofs.declarations.note_makes.Given as goal

abbrev pub invariant-loop-variable : goal.invariant-loop-variable
invariant-loop-variable l = NotesMade l.body (map variable_view (take l.variable-index l.makes.items)) l.fn.made.keys l.made.keys
