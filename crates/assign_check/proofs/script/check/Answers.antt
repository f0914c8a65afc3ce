use Rattle.std.proofs.Common.{sym, ◌∙◌}
use Rattle.syntax_trees.specs.View.{tree_of}
use Rattle.types.specs.Typed.{table_of}
use Rattle.assign_check.specs.Faults.{faults}
use Rattle.assign_check.proofs.faults.Exact.{is_single, is_not_single, is_broken, is_first}
use Rattle.assign_check.proofs.outlines.Outlined.{none_answered}
use Rattle.assign_check.proofs.script.check.Goals as goal

pub returns-in-None-clause-accepted : goal.returns-in-None-clause-accepted
returns-in-None-clause-accepted g c =
    none_answered (faults (table_of c.args.typed.now) (tree_of {A = g.row.A.Denot} c.args.script.now)) (sym c.in_ok-answer.ensures ∙ c.in-None.is)

pub returns-in-None-clause-single : goal.returns-in-None-clause-single
returns-in-None-clause-single g c = λ typed.
    let t = table_of c.args.typed.now in
    let tree = tree_of {A = g.row.A.Denot} c.args.script.now in
    is_single t tree (none_answered (faults t tree) (sym c.in_ok-answer.ensures ∙ c.in-None.is)) typed

pub returns-in-Some-clause-not_single : goal.returns-in-Some-clause-not_single
returns-in-Some-clause-not_single g c = λ real.
    is_not_single (table_of c.args.typed.now) (tree_of {A = g.row.A.Denot} c.args.script.now) c.in-Some.fault (sym c.in_ok-answer.ensures ∙ c.in-Some.is)

pub returns-in-Some-clause-broken : goal.returns-in-Some-clause-broken
returns-in-Some-clause-broken g c = λ real.
    is_broken (table_of c.args.typed.now) (tree_of {A = g.row.A.Denot} c.args.script.now) c.in-Some.fault (sym c.in_ok-answer.ensures ∙ c.in-Some.is)

pub returns-in-Some-clause-none_before : goal.returns-in-Some-clause-none_before
returns-in-Some-clause-none_before g c = λ real.
    is_first (table_of c.args.typed.now) (tree_of {A = g.row.A.Denot} c.args.script.now) c.in-Some.fault (sym c.in_ok-answer.ensures ∙ c.in-Some.is)
