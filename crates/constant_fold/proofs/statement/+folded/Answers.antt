use Rattle.std.proofs.Common.{rules, sym, ◌∙◌, arith}
use Rattle.std.proofs.lemmas.Grind.{common_steps}
use Rattle.syntax_trees.specs.View.{statement_view}
use Rattle.constant_fold.specs.Folded.{folded_statement}
use Rattle.constant_fold.proofs.Steps.{half_step}
use Rattle.constant_fold.proofs.Views.{block_folded, statement_folded}
use Rattle.constant_fold.proofs.statement.+folded.Goals as goal

pub block-returns : goal.block-returns
block-returns g t c = block_folded g.row.A.Denot c.args.block.now c.statements.new.statements c.in_ok-statements.ensures

pub statements-loop-i-preserved : goal.statements-loop-i-preserved
statements-loop-i-preserved g t c =
    let A = g.row.A.Denot in
    let xs = c.loop-i.statements.items in
    let x = c.index_mut-one.result.now in (
      search rules,
      c.loop-i.invariant.1 ∙ sym (half_step (statement_view {A = A}) folded_statement xs c.loop-i.i x _ (grind (arith, common_steps)) c.index_mut-one.ensures.value (statement_folded A x c.command.new.kind c.in_ok-command.ensures)),
    )
