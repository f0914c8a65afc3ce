use Rattle.std.proofs.Common.{◌≡◌, ◌∙◌, ◌++◌, ◌∷◌, [], ℕ, List, length, arith, sym, ap, subst}
use Rattle.std.specs.Prelude.{Bool, Option}
use Rattle.meaning_facts.specs.declared.facts.Write.{Write}
use Rattle.meaning_facts.specs.declared.first_writes.FirstWrite.{FirstWrite}
use Rattle.meaning_facts.specs.Indexed.{again, first_at, IsIndexed}
use Rattle.meaning_facts.proofs.Indexed.{indexed_more}
use Rattle.meaning_facts.proofs.writes.Writes.push.Goals as goal

pub invariant_of-self-2 : goal.invariant_of-self-2
invariant_of-self-2 c =
    let ws = c.self.inside.all.items in
    let w = c.args.write in
    let fs = c.self.inside.firsts in
    let pushed : c.push.new.self.items ≡ c.self.inside.all.items ++ c.args.write ∷ [] = c.in_ok-push.ensures.items ∙ ap (λ (z : List Write). z ++ c.args.write ∷ []) c.reserve.ensures.items in
    let len : c.len.result ≡ length c.self.inside.all.items = omega (arith, c.len.ensures, c.reserve.ensures.len, c.self.inside.all.ok.0) in
    let got : c.get.result ≡ first_at c.self.inside.firsts c.args.write.key = c.get.ensures ∙ ap (first_at c.self.inside.firsts) c.as_ref.ensures in
    let is : c.with_another-first.result ≡ again (length c.self.inside.all.items) (first_at c.self.inside.firsts c.args.write.key) =
    c.with_another-first.ensures ∙ ap (λ (n : ℕ). again n c.get.result) len ∙ ap (λ (o : Option FirstWrite). again (length c.self.inside.all.items) o) got in
    subst (λ (z : List Write). IsIndexed z c.put.new.self c.stays_apart-self-inside.result) (sym pushed)
    (subst (λ (b : Bool). IsIndexed (c.self.inside.all.items ++ c.args.write ∷ []) c.put.new.self b) (sym c.stays_apart-self-inside.ensures)
    (indexed_more ws w fs c.put.new.self c.self.inside.is_apart c.with_another-first.result c.self.invariant is c.in_ok-put.ensures.put))
