-- Walks over lists that ask for one element of a kind.
use Rattle.std.proofs.Common.{◌≡◌, ℕ, ◌<◌, ◌+◌, ◌≤◌, List, [], ◌∷◌, map, drop, length, get_or, ap, sym, ◌∙◌}
use Rattle.std.specs.Prelude.{Bool, true, false, if◌then◌else◌}
use Rattle.std.proofs.lemmas.List.{drop_more, drop_all}

-- what is asked of the elements that are left, by the first of them
any_split : {X Y : Type 0} (view : X → Y) (is_one : Y → Bool) (any : List Y → Bool) → ((y : Y) (ys : List Y) → any (y ∷ ys) ≡ (if is_one y then true else any ys))
    → (total : Bool) (xs : List X) (i : ℕ) (x : X) (it : Bool)
    → total ≡ any (map view (drop i xs)) → i < length xs → x ≡ get_or xs i x → is_one (view x) ≡ it
    → total ≡ (if it then true else any (map view (drop (i + 1) xs)))
any_split view is_one any split total xs i x it before below is tells =
    before
    ∙ ap (λ ys. any (map view ys)) (drop_more xs i x below)
    ∙ split (view (get_or xs i x)) (map view (drop (i + 1) xs))
    ∙ ap (λ (y : _). if is_one (view y) then true else any (map view (drop (i + 1) xs))) (sym is)
    ∙ ap (λ (b : Bool). if b then true else any (map view (drop (i + 1) xs))) tells

-- the element is one
pub any_found : {X Y : Type 0} (view : X → Y) (is_one : Y → Bool) (any : List Y → Bool) → ((y : Y) (ys : List Y) → any (y ∷ ys) ≡ (if is_one y then true else any ys))
    → (total : Bool) (xs : List X) (i : ℕ) (x : X)
    → total ≡ any (map view (drop i xs)) → i < length xs → x ≡ get_or xs i x → is_one (view x) ≡ true → true ≡ total
any_found view is_one any split total xs i x before below is tells = sym (any_split view is_one any split total xs i x true before below is tells)

-- the element is none
pub any_later : {X Y : Type 0} (view : X → Y) (is_one : Y → Bool) (any : List Y → Bool) → ((y : Y) (ys : List Y) → any (y ∷ ys) ≡ (if is_one y then true else any ys))
    → (total : Bool) (xs : List X) (i : ℕ) (x : X)
    → total ≡ any (map view (drop i xs)) → i < length xs → x ≡ get_or xs i x → is_one (view x) ≡ false → total ≡ any (map view (drop (i + 1) xs))
any_later view is_one any split total xs i x before below is tells = any_split view is_one any split total xs i x false before below is tells

-- no element is left
pub any_none : {X Y : Type 0} (view : X → Y) (any : List Y → Bool) → any [] ≡ false → (total : Bool) (xs : List X) (i : ℕ)
    → total ≡ any (map view (drop i xs)) → length xs ≤ i → false ≡ total
any_none view any none total xs i before done = sym (before ∙ ap (λ ys. any (map view ys)) (drop_all i xs done) ∙ none)
