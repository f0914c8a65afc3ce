use Rattle.std.proofs.Common.{◌≡◌, ◌++◌, take}
use Rattle.flow.specs.View.{exprs_view}
use Rattle.meaning_round.specs.Reads.{exprs_reads}
use Rattle.meaning_round.proofs.reads.+reads.Given as goal

abbrev pub invariant-add_exprs-loop-expr : goal.invariant-add_exprs-loop-expr
invariant-add_exprs-loop-expr g l = l.events.items ≡ l.fn.events.items ++ exprs_reads l.fact_base l.instance (exprs_view (take l.expr-index l.exprs.items))
