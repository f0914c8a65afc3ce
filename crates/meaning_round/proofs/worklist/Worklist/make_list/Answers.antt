use Rattle.std.proofs.Common.{rules, ◌≡◌, ℕ, false}
use Rattle.std.specs.Prelude.{Some, cond, is_some, nat_eq}
use Rattle.std.specs.HashMap.{get}
use Rattle.std.specs.HashSet.{contains}
use Rattle.meaning_round.specs.Hearing.{event_key, same_event}
use Rattle.meaning_round.proofs.Called.{none_more, none_of}
use Rattle.meaning_round.proofs.worklist.Worklist.make_list.Goals as goal

pub returns-in_ok-insert-clause-called : goal.returns-in_ok-insert-clause-called
returns-in_ok-insert-clause-called c =
    let absent : is_some (get same_event c.args.self.now.called (event_key c.args.event)) ≡ false = search rules in
    let put : (q : ℕ × ℕ × ℕ) → get same_event c.insert.new.self q ≡ cond (same_event (event_key c.args.event) q) (Some c.new.result) (get same_event c.args.self.now.called q) = λ q. search rules in
    let empty : (k : ℕ) → contains nat_eq c.new.result k ≡ false = λ k. search rules in
    λ e k. none_more (λ q. get same_event c.args.self.now.called q) (event_key c.args.event) (event_key e) c.new.result k (get same_event c.insert.new.self (event_key e))
    (none_of (get same_event c.args.self.now.called (event_key c.args.event)) absent) (put (event_key e)) (empty k)
