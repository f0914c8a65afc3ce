-- Walks over lists that add something for each element.
use Rattle.std.proofs.Common.{◌≡◌, ℕ, ◌<◌, ◌+◌, List, [], ◌∷◌, ◌++◌, map, drop, length, get_or, append_assoc, ap, sym, ◌∙◌, ◌≤◌}
use Rattle.std.proofs.lemmas.List.{drop_more, drop_all, append-nil}

-- one more step of a walk
pub walked_more : {X Y Z : Type 0} (view : X → Y) (one : Y → List Z) (all : List Y → List Z) → ((y : Y) (ys : List Y) → all (y ∷ ys) ≡ one y ++ all ys)
    → (total front after : List Z) (xs : List X) (i : ℕ) (x : X)
    → total ≡ front ++ all (map view (drop i xs)) → i < length xs → x ≡ get_or xs i x → after ≡ front ++ one (view x) → total ≡ after ++ all (map view (drop (i + 1) xs))
walked_more view one all split total front after xs i x before below is adds =
    before
    ∙ ap (λ ys. front ++ all (map view ys)) (drop_more xs i x below)
    ∙ ap (λ (w : _). front ++ w) (split (view (get_or xs i x)) (map view (drop (i + 1) xs)))
    ∙ sym (append_assoc front (one (view (get_or xs i x))) (all (map view (drop (i + 1) xs))))
    ∙ ap (λ (y : _). (front ++ one (view y)) ++ all (map view (drop (i + 1) xs))) (sym is)
    ∙ ap (λ (w : _). w ++ all (map view (drop (i + 1) xs))) (sym adds)

-- the end of a walk
pub walked_all : {X Y Z : Type 0} (view : X → Y) (all : List Y → List Z) → all [] ≡ [] → (total front : List Z) (xs : List X) (i : ℕ)
    → total ≡ front ++ all (map view (drop i xs)) → length xs ≤ i → front ≡ total
walked_all view all none total front xs i before done =
    sym (before ∙ ap (λ ys. front ++ all (map view ys)) (drop_all i xs done) ∙ ap (λ (w : _). front ++ w) none ∙ append-nil front)
