-- Values that are seen, one after another.
use Rattle.std.specs.Prelude.{◌≡◌, ℕ, ◌+◌, ◌<◌, List, [], ◌∷◌, ◌++◌, length, drop, map, Option, Some, None, refl}
use Rattle.std.specs.Borrow.{Bor}
use Rattle.std.proofs.Common.{sym, ap, ◌∙◌, get_or}
use Rattle.std.proofs.lemmas.List.{append_assoc, append-nil, drop_more}
use Rattle.values.specs.declared.value.Value.{Value}
use Rattle.language.specs.Core as core
use Rattle.flow.specs.declared.cell.OuterCell.{OuterCell}
use Rattle.meaning_steps.specs.Environment.{Sight}
use Rattle.meaning_steps.specs.News.{with_value}
use Rattle.meaning_cells.specs.Chosen.{all_seen}
use Rattle.meaning_cells.specs.Listed.{outers_listed}

-- values in front of those that are seen
abbrev pub before : List Value → Option (List Value) → Option (List Value)
before vs (Some us) = Some (vs ++ us)
before vs None = None

abbrev pub cells_listed : {A : Type 0} → List (Bor (OuterCell A)) → List core.Cell
cells_listed os = map (λ o. o.cell) (outers_listed os)

pub before_all : (vs : List Value) → before vs (Some []) ≡ Some vs
before_all vs = ap Some (append-nil vs)

before_more : (vs : List Value) (v : Value) (o : Option (List Value)) → before vs (with_value (Some v) o) ≡ before (vs ++ v ∷ []) o
before_more vs v (Some us) = ap Some (sym (append_assoc vs (v ∷ []) us))
before_more vs v None = refl

module _ {A : Type 0} (g : Sight) (whole : Option (List Value)) (vs : List Value) (os : List (Bor (OuterCell A))) (i : ℕ) (o : Bor (OuterCell A)) (l : i < length os) (at : get_or os i o ≡ o)
    (e : whole ≡ before vs (all_seen g (cells_listed (drop i os)))) where
  here : whole ≡ before vs (with_value (g.cell o.now.cell.node) (all_seen g (cells_listed (drop (i + 1) os))))
  here = e ∙ ap (λ (z : List (Bor (OuterCell A))). before vs (all_seen g (cells_listed z))) (drop_more os i o l ∙ ap (λ (z : Bor (OuterCell A)). z ∷ drop (i + 1) os) at)

  pub seen_more : (v : Value) → g.cell o.now.cell.node ≡ Some v → whole ≡ before (vs ++ v ∷ []) (all_seen g (cells_listed (drop (i + 1) os)))
  seen_more v h =
      here ∙ ap (λ (z : Option Value). before vs (with_value z (all_seen g (cells_listed (drop (i + 1) os))))) h
      ∙ before_more vs v (all_seen g (cells_listed (drop (i + 1) os)))

  pub seen_none : g.cell o.now.cell.node ≡ None → whole ≡ None
  seen_none h = here ∙ ap (λ (z : Option Value). before vs (with_value z (all_seen g (cells_listed (drop (i + 1) os))))) h
