-- Expressions that need a variable, one after another.
use Rattle.std.proofs.Common.{◌≡◌, ℕ, ◌<◌, ◌≤◌, ◌+◌, List, map, drop, length, get_or, ap, sym, ◌∙◌}
use Rattle.std.specs.Prelude.{Bool, true, false, ◌||◌}
use Rattle.std.proofs.lemmas.List.{drop_more, drop_all}
use Rattle.language.specs.Tree.{Expression, expressions_of}
use Rattle.explain_warnings.specs.Forms.{needs, some_needs}

-- what is left of them, from the next one on
needs_split : {X : Type 0} (view : X → Expression) (name : List ℕ) (total : Bool) (xs : List X) (i : ℕ) (x : X)
    → total ≡ some_needs name (expressions_of (map view (drop i xs))) → i < length xs → x ≡ get_or xs i x
    → total ≡ (needs name (view x) || some_needs name (expressions_of (map view (drop (i + 1) xs))))
needs_split {X = X} view name total xs i x before below is =
    before
    ∙ ap (λ ys. some_needs name (expressions_of (map view ys))) (drop_more xs i x below)
    ∙ ap (λ (y : X). needs name (view y) || some_needs name (expressions_of (map view (drop (i + 1) xs)))) (sym is)

-- the next one does not need it
pub needs_more : {X : Type 0} (view : X → Expression) (name : List ℕ) (total : Bool) (xs : List X) (i : ℕ) (x : X)
    → total ≡ some_needs name (expressions_of (map view (drop i xs))) → i < length xs → x ≡ get_or xs i x → needs name (view x) ≡ false
    → total ≡ some_needs name (expressions_of (map view (drop (i + 1) xs)))
needs_more view name total xs i x before below is lacks =
    needs_split view name total xs i x before below is
    ∙ ap (λ (b : Bool). b || some_needs name (expressions_of (map view (drop (i + 1) xs)))) lacks

-- the next one needs it
pub needs_found : {X : Type 0} (view : X → Expression) (name : List ℕ) (total : Bool) (xs : List X) (i : ℕ) (x : X)
    → total ≡ some_needs name (expressions_of (map view (drop i xs))) → i < length xs → x ≡ get_or xs i x → needs name (view x) ≡ true → true ≡ total
needs_found view name total xs i x before below is needed =
    sym (needs_split view name total xs i x before below is
    ∙ ap (λ (b : Bool). b || some_needs name (expressions_of (map view (drop (i + 1) xs)))) needed)

-- none is left
pub needs_none : {X : Type 0} (view : X → Expression) (name : List ℕ) (total : Bool) (xs : List X) (i : ℕ)
    → total ≡ some_needs name (expressions_of (map view (drop i xs))) → length xs ≤ i → false ≡ total
needs_none view name total xs i before done =
    sym (before ∙ ap (λ ys. some_needs name (expressions_of (map view ys))) (drop_all i xs done))
