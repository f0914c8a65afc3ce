use Rattle.std.proofs.Common.{◌≡◌, ◌<◌, ◌∙◌, IfOk, List, ap, subst, sym}
use Rattle.flow.specs.declared.statement.Action.{Action}
use Rattle.flow.specs.View.{action_view}
use Rattle.meaning_facts.specs.declared.instances.LoopVariable.{LoopVariable}
use Rattle.meaning_cells.specs.Chosen.{choice_view, count_in}
use Rattle.meaning_invariants.specs.Turns.{turn_variables}
use Rattle.meaning_openings.proofs.Loops.{each_variables, range_variables}
use Rattle.meaning_openings.proofs.turns.variables_of.Goals as goal

pub returns-in-Range : goal.returns-in-Range
returns-in-Range g c =
    let x = choice_view c.args.choice.now in
    subst (λ (z : List LoopVariable). IfOk c.turn_of.result (λ vs. c.args.i < count_in (choice_view c.args.choice.now) → vs.items ≡ z))
    (sym (ap (λ (z : Action g.row.A.Denot). turn_variables (action_view z) x c.args.i) c.in-Range.is ∙ range_variables c.in-Range.range c.in-Range.value c.in-Range.turn c.in-Range.body x c.args.i))
    c.turn_of.ensures

pub returns-in-Each : goal.returns-in-Each
returns-in-Each g c =
    let x = choice_view c.args.choice.now in
    subst (λ (z : List LoopVariable). IfOk c.turn_of-in-Each.result (λ vs. c.args.i < count_in (choice_view c.args.choice.now) → vs.items ≡ z))
    (sym (ap (λ (z : Action g.row.A.Denot). turn_variables (action_view z) x c.args.i) c.in-Each.is ∙ each_variables c.in-Each.array c.in-Each.value c.in-Each.key c.in-Each.body x c.args.i))
    c.turn_of-in-Each.ensures
