use Rattle.std.proofs.Common.{◌≡◌, ◌∙◌, ◌∷◌, [], ℕ, sym, subst, Option, Some}
use Rattle.values.specs.Maps.{element}
use Rattle.board_data.specs.Stored.{StoresIn, Takes}
use Rattle.board_changes.proofs.data_state.DataState.store_element.Goals as goal
use Rattle.board_changes.proofs.data_state.DataState.store_element.Goals.{in-Some+in_ok-push, in_default}

pub returns-clause-stores : goal.returns-clause-stores
returns-clause-stores c =
    let same : c.match-target.target ≡ c.args.target = elim c.match-target.branch [ in-Some+in_ok-push w ↦ w.target-is ∙ sym w.in-Some.is | in_default w ↦ w.target-is ] in
    subst (λ (t : Option ℕ). ((n : ℕ) → t ≡ Some n → Takes n (element c.args.key c.args.value ∷ []) c.args.self.now.store) → StoresIn t ((c.args.key, c.args.value) ∷ []) c.args.self.now.store c.store_element.new.store) same c.store_element.ensures.stores
