use Rattle.std.proofs.Common.{◌≡◌, drop}
use Rattle.flow.specs.View.{exprs_view}
use Rattle.meaning_steps.specs.Environment.{worked_all}
use Rattle.meaning_facts.specs.Sighted.{in_front, sight_of}
use Rattle.meaning_facts.proofs.fact_base.FactBase.+value.Given as goal

abbrev pub invariant-operands-loop-expr : goal.invariant-operands-loop-expr
invariant-operands-loop-expr g l =
    worked_all (sight_of l.self l.instance) (exprs_view l.exprs.items)
    ≡ in_front l.values.items (worked_all (sight_of l.self l.instance) (exprs_view (drop l.expr-index l.exprs.items)))
