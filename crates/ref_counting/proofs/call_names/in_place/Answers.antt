use Rattle.std.proofs.Common.{◌≡◌, subst, sym, arith, None}
use Rattle.task_code.specs.Code.{here}
use Rattle.task_code.specs.View.{name_view, variable_view, owned_view}
use Rattle.ref_counting.specs.Passing.{Answers, Outlives}
use Rattle.ref_counting.proofs.Handing.{outlives_not}
use Rattle.ref_counting.proofs.call_names.in_place.Goals as goal

pub returns-then-declares : goal.returns-then-declares
returns-then-declares c =
    let up : c.args.name.up ≡ 0 = omega arith in
    let is : here (variable_view c.in-Local.variable) ≡ name_view c.args.name = λ i. record { up = sym up i; owned = owned_view (sym c.in-Local.is i) } in
    subst (λ q. Answers None (Outlives c.args.made.now.keys c.args.body q)) is (outlives_not c.args.made.now.keys c.args.body (variable_view c.in-Local.variable) (c.declares.ensures.yes c.if-declares.true))
