use Rattle.std.proofs.Common.{◌≡◌, rules}
use Rattle.std.proofs.lemmas.Fn.{always_returns_same}
use Rattle.std.proofs.lemmas.Result.{IfOk-weaker}
use Rattle.std.specs.List.Sorted.{IsSortedBy}
use Rattle.std.specs.Ordering.{is_lt}
use Rattle.paths.specs.Order.{statement_below}
use Rattle.meaning_outcomes.proofs.Told.{lists_statements, statement_weak}
use Rattle.meaning_outcomes.proofs.lists.in_order.Goals as goal

pub returns : goal.returns
returns c =
    let sorted : IsSortedBy statement_below c.sort_by.new.self.items = c.in_ok-sort_by.ensures.sorted statement_below statement_weak (always_returns_same _ (λ a r. is_lt r ≡ statement_below a.0.now a.1.0.now) _ (λ a r q k. search rules)) in
    IfOk-weaker c.each_once.result _ _ (λ found is. lists_statements c.args.statements.items c.sort_by.new.self.items found.items (search rules) sorted is) c.each_once.ensures
