use Rattle.std.proofs.Common.{rules, ◌≡◌, ℕ, false, refl}
use Rattle.std.specs.Prelude.{Some, cond, is_some}
use Rattle.std.specs.HashMap.{get}
use Rattle.meaning_facts.specs.Store.{same_pair, line_at}
use Rattle.meaning_facts.proofs.Adding.{line_added}
use Rattle.meaning_facts.proofs.facts.Facts.add_line.Goals as goal

pub returns-clause-added : goal.returns-clause-added
returns-clause-added c =
    let k = c.args.self.now in
    let p = c.args.writer in
    let absent : is_some (line_at c.args.self.now c.args.writer) ≡ false = search rules in
    let put : (q : ℕ × ℕ) → get same_pair c.insert.new.self q ≡ cond (same_pair (c.args.writer.instance, c.args.writer.node) q) (Some c.args.text) (get same_pair c.args.self.now.lines q) = λ q. search rules in
    line_added k (record { values = k.values; writes = k.writes; lines = c.insert.new.self; faults = k.faults }) p c.args.text absent put refl refl refl
