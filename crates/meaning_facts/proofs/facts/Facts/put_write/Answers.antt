use Rattle.std.proofs.Common.{rules, ◌≡◌, ℕ, not, refl, ap, sym, ◌∙◌}
use Rattle.std.proofs.lemmas.Result.{IfOk-weaker}
use Rattle.std.specs.Prelude.{Bool, List, Some, Option, cond}
use Rattle.std.specs.HashMap.{get}
use Rattle.meaning_facts.specs.declared.facts.Fact.TheVariants as Is
use Rattle.meaning_facts.specs.declared.facts.Write.{Write}
use Rattle.meaning_facts.specs.Added.{IsAdded, with_write}
use Rattle.meaning_facts.specs.Store.{listed_writes, same_pair, is_written_in, writes_at}
use Rattle.meaning_facts.proofs.Adding.{write_added}
use Rattle.meaning_facts.proofs.facts.Facts.put_write.Goals as goal

pub returns-in-Some-clause-added : goal.returns-in-Some-clause-added
returns-in-Some-clause-added c =
    let k = c.args.self.now in
    let u = c.put.new.self in
    let there : get same_pair c.args.self.now.writes (c.args.array.instance, c.args.array.node) ≡ Some c.in-Some.writes.now = search rules in
    let put : (q : ℕ × ℕ) → get same_pair (c.get_mut.follows.lender c.put.new.self) q ≡ cond (same_pair (c.args.array.instance, c.args.array.node) q) (Some c.put.new.self) (get same_pair c.args.self.now.writes q) = λ q. (let h = ((c.get_mut.follows.holds c.put.new.self).3 (search rules)).0 q in search rules) in
    IfOk-weaker c.put.result (λ (r : Bool). u ≡ with_write c.in-Some.writes.now c.args.write) (λ (r : Bool). IsAdded k (Is.Element c.args.array c.args.write) (record { values = k.values; writes = c.get_mut.follows.lender u; lines = k.lines; faults = k.faults }))
    (λ r e. write_added k (record { values = k.values; writes = c.get_mut.follows.lender u; lines = k.lines; faults = k.faults }) c.args.array c.args.write c.in-Some.writes.now u there e put refl refl refl)
    c.put.ensures.put

pub returns-in-Some-clause-new : goal.returns-in-Some-clause-new
returns-in-Some-clause-new c =
    let there : get same_pair c.args.self.now.writes (c.args.array.instance, c.args.array.node) ≡ Some c.in-Some.writes.now = search rules in
    IfOk-weaker c.put.result (λ (r : Bool). r ≡ not (is_written_in c.in-Some.writes.now c.args.write.key c.args.write.writer)) (λ (r : Bool). r ≡ not (is_written_in (writes_at c.args.self.now c.args.array) c.args.write.key c.args.write.writer))
    (λ r e. e ∙ sym (ap (λ (o : Option (List Write)). not (is_written_in (listed_writes o) c.args.write.key c.args.write.writer)) there))
    c.put.ensures.new
