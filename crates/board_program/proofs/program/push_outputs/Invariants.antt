use Rattle.std.proofs.Common.{◌≡◌, ◌++◌, map, take}
use Rattle.task_code.specs.Code.{Named}
use Rattle.task_code.specs.View.{name_view}
use Rattle.board_program.specs.Tables.{passed_in}
use Rattle.board_program.proofs.program.push_outputs.Given as goal

abbrev pub invariant-loop-output : goal.invariant-loop-output
invariant-loop-output l = l.passed.items ≡ l.fn.passed.items ++ map (passed_in l.code l.body) (map Named (map name_view (take l.output-index l.outputs)))
