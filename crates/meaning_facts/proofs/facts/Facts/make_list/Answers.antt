use Rattle.std.proofs.Common.{rules, ◌≡◌, ℕ, false, [], refl}
use Rattle.std.specs.Prelude.{Some, cond, is_some}
use Rattle.std.specs.HashMap.{get}
use Rattle.meaning_facts.specs.Store.{same_pair}
use Rattle.meaning_facts.proofs.Adding.{list_made}
use Rattle.meaning_facts.proofs.facts.Facts.make_list.Goals as goal

pub returns-in_ok-insert-clause-same : goal.returns-in_ok-insert-clause-same
returns-in_ok-insert-clause-same c =
    let k = c.args.self.now in
    let absent : is_some (get same_pair c.args.self.now.writes (c.args.array.instance, c.args.array.node)) ≡ false = search rules in
    let none : c.new.result ≡ [] = search rules in
    let put : (q : ℕ × ℕ) → get same_pair c.insert.new.self q ≡ cond (same_pair (c.args.array.instance, c.args.array.node) q) (Some c.new.result) (get same_pair c.args.self.now.writes q) = λ q. search rules in
    list_made k (record { values = k.values; writes = c.insert.new.self; lines = k.lines; faults = k.faults }) c.args.array c.new.result absent none put refl refl refl
