use Rattle.std.proofs.Common.{rules, ◌≡◌, ℕ, ℤ, refl, subst, sym}
use Rattle.std.specs.Prelude.{Some, cond, if◌then◌else◌}
use Rattle.std.specs.HashMap.{get}
use Rattle.values.specs.declared.key.Key.{Key}
use Rattle.meaning_facts.specs.declared.instances.Instances.{Instances}
use Rattle.meaning_facts.specs.Paths.{child_at, same_step, same_turn}
use Rattle.meaning_facts.proofs.Tree.{turn_noted}
use Rattle.meaning_facts.proofs.instances.Instances.note.Goals as goal

pub returns-in_ok-insert-in-Number-clause-found : goal.returns-in_ok-insert-in-Number-clause-found
returns-in_ok-insert-in-Number-clause-found c = λ i a k.
    let t = c.args.self.now in
    let u : Instances = record { all = c.args.self.now.all; opened = c.insert.new.self; named = c.args.self.now.named } in
    let put : (q : ℕ × ℕ × ℤ) → get same_turn c.insert.new.self q ≡ cond (same_turn (c.args.parent, c.args.at, c.in-Number.turn) q) (Some c.args.number) (get same_turn c.args.self.now.opened q) = λ q. search rules in
    subst (λ (z : Key). child_at u i a k ≡ (if same_step (c.args.parent, c.args.at, z) (i, a, k) then Some c.args.number else child_at t i a k)) (sym c.in-Number.is)
    (turn_noted t u c.args.parent c.args.at c.args.number c.in-Number.turn put refl i a k)
