use Rattle.std.proofs.Common.{rules, ◌≡◌, ◌++◌, ◌∷◌, [], ℕ, List, subst, sym}
use Rattle.language.specs.Members.{◌∈◌, first}
use Rattle.language.proofs.Members.{to_left, to_right}
use Rattle.meaning_round.proofs.worklist.wake_one.Goals as goal

pub returns-clause-woken : goal.returns-clause-woken
returns-clause-woken c =
    let pushed : c.push.new.self.items ≡ c.args.awake.now.items ++ c.args.number.now ∷ [] = search rules in
    λ e. subst (λ (z : List ℕ). c.args.number.now ∈ z) (sym pushed) (to_right c.args.awake.now.items (c.args.number.now ∷ []) first)

pub returns-clause-still : goal.returns-clause-still
returns-clause-still c =
    let pushed : c.push.new.self.items ≡ c.args.awake.now.items ++ c.args.number.now ∷ [] = search rules in
    λ k i. subst (λ (z : List ℕ). k ∈ z) (sym pushed) (to_left c.args.awake.now.items (c.args.number.now ∷ []) i)
