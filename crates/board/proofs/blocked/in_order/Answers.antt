use Rattle.std.proofs.Common.{◌≡◌, rules}
use Rattle.std.proofs.lemmas.Fn.{always_returns_same}
use Rattle.std.proofs.lemmas.Result.{IfOk-weaker}
use Rattle.std.specs.List.Sorted.{IsSortedBy}
use Rattle.std.specs.Ordering.{is_lt}
use Rattle.paths.specs.Order.{statement_below}
use Rattle.board.proofs.Ranked.{before_order, listed_in_order, listed_places}
use Rattle.board.proofs.blocked.in_order.Goals as goal

pub returns-clause-order : goal.returns-clause-order
returns-clause-order c =
    let sorted : IsSortedBy statement_below c.sort_by.new.self.items = c.in_ok-sort_by.ensures.sorted statement_below before_order (always_returns_same _ (λ a r. is_lt r ≡ statement_below a.0.now a.1.0.now) _ (λ a r q k. search rules)) in
    IfOk-weaker c.each_once.result _ _ (λ found is. listed_in_order c.args.statements.items c.sort_by.new.self.items (search rules) sorted found.items is) c.each_once.ensures

pub returns-clause-places : goal.returns-clause-places
returns-clause-places c =
    let sorted : IsSortedBy statement_below c.sort_by.new.self.items = c.in_ok-sort_by.ensures.sorted statement_below before_order (always_returns_same _ (λ a r. is_lt r ≡ statement_below a.0.now a.1.0.now) _ (λ a r q k. search rules)) in
    IfOk-weaker c.each_once.result _ _ (λ found is. listed_places c.args.statements.items c.sort_by.new.self.items (search rules) sorted found.items is) c.each_once.ensures
