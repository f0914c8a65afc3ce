-- Outputs and inputs, one after another.
use Rattle.std.proofs.Common.{◌≡◌, ℕ, ◌+◌, ◌<◌, List, [], ◌∷◌, ◌++◌, map, drop, length, get_or, append_assoc, ap, sym, ◌∙◌}
use Rattle.std.proofs.lemmas.List.{drop_more}
use Rattle.language.specs.Core.{Owned}
use Rattle.language.specs.Tree.{Declaration}
use Rattle.assign_check.specs.Outline.{Role, Step, declared_as, parameters}

-- one more of them
pub parameters_more : {X : Type 0} (r : Role) (owned : ℕ → Owned) (view : X → Declaration) (total front after : List Step) (xs : List X) (i : ℕ) (x : X)
    → total ≡ front ++ parameters r owned i (map view (drop i xs)) → i < length xs → x ≡ get_or xs i x → after ≡ front ++ declared_as r (owned i) (view x) ∷ []
    → total ≡ after ++ parameters r owned (i + 1) (map view (drop (i + 1) xs))
parameters_more {X = X} r owned view total front after xs i x before below is adds =
    let rest = parameters r owned (i + 1) (map view (drop (i + 1) xs)) in
    before
    ∙ ap (λ ys. front ++ parameters r owned i (map view ys)) (drop_more xs i x below)
    ∙ ap (λ (y : X). front ++ declared_as r (owned i) (view y) ∷ rest) (sym is)
    ∙ sym (append_assoc front (declared_as r (owned i) (view x) ∷ []) rest)
    ∙ ap (λ (w : List Step). w ++ rest) (sym adds)
