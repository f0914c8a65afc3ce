use Rattle.std.proofs.Common.{◌≡◌, ◌+◌, ◌*◌, map, drop}
use Rattle.std.specs.List.{sum_by}
use Rattle.std.specs.Prelude.{option_map}
use Rattle.language.specs.Tree.{statements_of}
use Rattle.syntax_trees.specs.View.{statement_view, command_view, body_view}
use Rattle.language.specs.Numbered.{option_size, statement_size, command_size, body_size}
use Rattle.types.specs.Known.{around_of}
use Rattle.types.specs.Functions.{signatures_of}
use Rattle.types.specs.Statements as steps
use Rattle.types.specs.Growth.{Grown}
use Rattle.types.proofs.statements.+stmt.Given as goal

abbrev pub decreases-stmt : goal.decreases-stmt
decreases-stmt g l = 6 * statement_size (statement_view l.stmt.now)

abbrev pub decreases-command : goal.decreases-command
decreases-command g l = 6 * command_size (command_view l.kind.now) + 5

abbrev pub decreases-choice : goal.decreases-choice
decreases-choice g l = 6 * (body_size (body_view l.then.now) + option_size body_size (option_map (λ it. body_view it.value) l.other.now)) + 4

abbrev pub decreases-repetition : goal.decreases-repetition
decreases-repetition g l = 6 * body_size (body_view l.body.now) + 4

abbrev pub decreases-waiting : goal.decreases-waiting
decreases-waiting g l = 6 * body_size (body_view l.body.now) + 4

abbrev pub decreases-branch : goal.decreases-branch
decreases-branch g l = 6 * body_size (body_view l.body.now) + 3

abbrev pub decreases-block : goal.decreases-block
decreases-block g l = 6 * body_size (body_view l.body.now) + 2

abbrev pub decreases-each : goal.decreases-each
decreases-each g l = 6 * sum_by statement_size (map statement_view l.statements.now.items) + 1

abbrev pub invariant-each-loop-inner : goal.invariant-each-loop-inner
invariant-each-loop-inner g l = record {
  walks : steps.in_order (signatures_of l.functions) (around_of l.fn.scope) (statements_of (map statement_view l.statements.items)) l.fn.settled.items
      ≡ steps.in_order (signatures_of l.functions) (around_of l.scope) (statements_of (map statement_view (drop l.inner-index l.statements.items))) l.settled.items;
  grown : Grown (around_of l.fn.scope) (around_of l.scope);
}
