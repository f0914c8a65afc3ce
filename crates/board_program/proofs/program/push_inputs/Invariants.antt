use Rattle.std.proofs.Common.{◌≡◌, ◌++◌, map, take}
use Rattle.task_code.specs.View.{argument_view}
use Rattle.board_program.specs.Tables.{passed_in}
use Rattle.board_program.proofs.program.push_inputs.Given as goal

abbrev pub invariant-loop-input : goal.invariant-loop-input
invariant-loop-input l = l.passed.items ≡ l.fn.passed.items ++ map (passed_in l.code l.body) (map argument_view (take l.input-index l.inputs))
