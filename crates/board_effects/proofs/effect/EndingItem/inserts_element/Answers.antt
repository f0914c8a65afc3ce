use Rattle.std.proofs.Common.{◌≡◌, ◌∙◌, refl, sym, subst, false}
use Rattle.board_history.specs.Fields.{slot_at}
use Rattle.board_history.specs.Needs.{cell_element, has}
use Rattle.board_effects.specs.Ended.{cells_of}
use Rattle.board_effects.proofs.Stores.{puts_clash, puts_ends}
use Rattle.board_effects.proofs.Values.{ok_map}
use Rattle.board_effects.proofs.effect.EndingItem.inserts_element.Goals as goal
use Rattle.board_effects.proofs.effect.EndingItem.inserts_element.Goals.{in-Some+else-has_key, in_default}

pub returns-then-has_key : goal.returns-then-has_key
returns-then-has_key c = λ w g. ok_map _ _ c.fails.result (puts_clash c.args.self w c.in-Some.d c.args.key c.args.value (sym c.target-target.ensures ∙ c.in-Some.is) g (sym c.has_key.ensures ∙ c.if-has_key.true)) (c.fails.ensures w)

pub returns : goal.returns
returns c = λ w g.
    puts_ends c.args.self w c.match-target.target c.args.key c.args.key c.args.value c.args.value
    (elim c.match-target.branch [ in-Some+else-has_key x ↦ x.target-is ∙ sym x.in-Some.is ∙ c.target-target.ensures | in_default x ↦ x.target-is ∙ c.target-target.ensures ])
    refl refl g
    (λ d s. elim c.match-target.branch [
      | in-Some+else-has_key x ↦ (let n : d ≡ x.in-Some.d = cc (s, x.target-is) in subst (λ m. has (cell_element c.args.key (slot_at (cells_of c.args.self) m)) ≡ false) (sym n) (sym x.has_key.ensures ∙ x.if-has_key.false))
      | in_default x ↦ absurd (x.in_default.not-Some d (sym x.target-is ∙ s))
    ])
