use Rattle.std.proofs.Common.{rules, ◌≡◌, ℕ}
use Rattle.std.specs.Prelude.{Some, cond}
use Rattle.std.specs.HashMap.{get}
use Rattle.meaning_round.specs.Hearing.{event_key, same_event}
use Rattle.meaning_round.proofs.Called.{one_more}
use Rattle.meaning_round.proofs.worklist.Worklist.put.Goals as goal

pub returns-in_ok-insert-in-Some-clause-called : goal.returns-in_ok-insert-in-Some-clause-called
returns-in_ok-insert-in-Some-clause-called c =
    let there : get same_event c.args.self.now.called (event_key c.args.event) ≡ Some c.in-Some.numbers.now = search rules in
    let put : (q : ℕ × ℕ × ℕ) → get same_event (c.get_mut.follows.lender c.insert.new.self) q ≡ cond (same_event (event_key c.args.event) q) (Some c.insert.new.self) (get same_event c.args.self.now.called q) = λ q. (let h = ((c.get_mut.follows.holds c.insert.new.self).3 (search rules)).0 q in search rules) in
    λ e k. one_more (λ q. get same_event c.args.self.now.called q) (event_key c.args.event) (event_key e) c.in-Some.numbers.now c.insert.new.self c.args.number k
    (get same_event (c.get_mut.follows.lender c.insert.new.self) (event_key e)) there (put (event_key e)) (c.in_ok-insert-in-Some.ensures.updates.0 k)
