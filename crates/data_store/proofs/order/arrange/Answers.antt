use Rattle.std.proofs.Common.{rules, ◌≡◌}
use Rattle.std.specs.Ordering.{is_lt}
use Rattle.std.proofs.lemmas.List.Sorted.{answers_always}
use Rattle.values.specs.Keys.{key_below}
use Rattle.data_store.proofs.Arranged.{sorted_is_arranged, comes_before_orders}
use Rattle.data_store.proofs.order.arrange.Goals as goal

pub returns : goal.returns
returns c =
    let up = c.sort_unstable_by.ensures.sorted (λ a b. key_below a.key b.key) comes_before_orders (answers_always _ (λ a r. is_lt r ≡ key_below a.0.now.key a.1.0.now.key) _ (λ f a r g k. search rules)) in
    sorted_is_arranged c.args.list.now.items c.sort_unstable_by.new.self.items c.sort_unstable_by.ensures.permutation up c.requires
