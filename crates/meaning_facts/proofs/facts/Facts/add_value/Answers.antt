use Rattle.std.proofs.Common.{rules, ◌≡◌, ℕ, false, refl}
use Rattle.std.specs.Prelude.{Some, cond, is_some}
use Rattle.std.specs.HashMap.{get}
use Rattle.meaning_facts.specs.Store.{same_pair, value_at}
use Rattle.meaning_facts.proofs.Adding.{value_added}
use Rattle.meaning_facts.proofs.facts.Facts.add_value.Goals as goal

pub returns-clause-added : goal.returns-clause-added
returns-clause-added c =
    let k = c.args.self.now in
    let p = c.args.place in
    let absent : is_some (value_at c.args.self.now c.args.place) ≡ false = search rules in
    let put : (q : ℕ × ℕ) → get same_pair c.insert.new.self q ≡ cond (same_pair (c.args.place.instance, c.args.place.node) q) (Some c.args.value) (get same_pair c.args.self.now.values q) = λ q. search rules in
    value_added k (record { values = c.insert.new.self; writes = k.writes; lines = k.lines; faults = k.faults }) p c.args.value absent put refl refl refl
