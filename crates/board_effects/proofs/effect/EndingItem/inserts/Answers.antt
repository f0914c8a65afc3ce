use Rattle.std.proofs.Common.{◌≡◌, ◌∙◌, refl, sym, ap, subst, false}
use Rattle.std.specs.List.{list_any}
use Rattle.task_code.specs.Compute.{pairs, Inserts as Elements_}
use Rattle.board_effects.specs.Ended.{cells_of}
use Rattle.board_effects.specs.declared.effect.Effect.TheVariants.{Inserts}
use Rattle.board_effects.proofs.Stores.{inserts_clash, inserts_ends}
use Rattle.board_effects.proofs.Values.{ok_map, there}
use Rattle.board_effects.proofs.effect.EndingItem.inserts.Goals as goal
use Rattle.board_effects.proofs.effect.EndingItem.inserts.Goals.{in-Some+else-has_any, in_default}

pub returns-then-has_any : goal.returns-then-has_any
returns-then-has_any c = λ w g r. ok_map _ _ c.fails.result (inserts_clash c.args.self w c.in-Some.d c.args.elements.now (sym c.target-target.ensures ∙ c.in-Some.is) g (sym c.has_any.ensures ∙ c.if-has_any.true)) (c.fails.ensures w)

pub returns : goal.returns
returns c = λ w g r.
    inserts_ends c.args.self w c.match-target.target c.args.elements.now (Inserts c.match-target.target c.in_ok-copied.field-0)
    (ap (λ es. Elements_ (pairs es)) (sym c.in_ok-copied.ensures))
    (elim c.match-target.branch [ in-Some+else-has_any x ↦ x.target-is ∙ sym x.in-Some.is ∙ c.target-target.ensures | in_default x ↦ x.target-is ∙ c.target-target.ensures ])
    refl (ap pairs c.in_ok-copied.ensures) refl g r
    (λ d s. elim c.match-target.branch [
      | in-Some+else-has_any x ↦ (let n : d ≡ x.in-Some.d = cc (s, x.target-is) in subst (λ m. list_any (there (cells_of c.args.self) m) c.args.elements.now ≡ false) (sym n) (sym x.has_any.ensures ∙ x.if-has_any.false))
      | in_default x ↦ absurd (x.in_default.not-Some d (sym x.target-is ∙ s))
    ])
    (λ o. o)
