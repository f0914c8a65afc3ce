use Rattle.std.proofs.Common.{arith, ◌≡◌, [], drop, ap, sym, ◌∙◌}
use Rattle.std.proofs.lemmas.Grind.{common_steps}
use Rattle.std.proofs.lemmas.List.{drop_all}
use Rattle.task_code.specs.View.{exprs_view}
use Rattle.board_work.specs.Same.{exprs_eq}
use Rattle.board_work.proofs.Comparisons.{no_exprs}
use Rattle.board_work.proofs.view_eq.+same.Goals as goal

pub are_same_exprs-returns : goal.are_same_exprs-returns
are_same_exprs-returns t c =
    let gone : drop c.loop-one.one-index c.args.ones.now.items ≡ [] = drop_all c.loop-one.one-index c.args.ones.now.items (grind (arith, common_steps)) in
    c.is_empty.ensures
    ∙ sym (no_exprs c.loop-one.rest.now)
    ∙ ap (λ es. exprs_eq (exprs_view es) (exprs_view c.loop-one.rest.now)) (sym gone)
    ∙ sym c.loop-one.invariant
