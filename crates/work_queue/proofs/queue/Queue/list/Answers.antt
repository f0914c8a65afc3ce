use Rattle.std.proofs.Common.{rules, ◌≡◌, map}
use Rattle.std.proofs.lemmas.List.Sorted.{answers_always, IsPermutation-append_left, IsPermutation-trans}
use Rattle.work_queue.specs.declared.entry.Kind.TheVariants.{Leaf}
use Rattle.work_queue.specs.Entries.{entry_of, listed}
use Rattle.work_queue.proofs.queue.Queue.list.Goals as goal

pub returns-clause-all : goal.returns-clause-all
returns-clause-all c =
    let control = c.in_ok-list.ensures in
    let both = c.in_ok-append_to.ensures in
    rw (← c.self.view_is) (IsPermutation-trans _ _ _ (IsPermutation-append_left (map (listed Leaf) c.self.inside.leaf.entries) _ _ control) (IsPermutation-trans _ _ _ both c.sort_by_key.ensures.permutation))

pub returns-clause-in_order : goal.returns-clause-in_order
returns-clause-in_order c =
    c.in_ok-sort_by_key.ensures.sorted entry_of (answers_always _ (λ a r. r ≡ entry_of a.0.now) _ (λ f a r g q. search rules))
