-- Lists whose elements are folded one after another, in their places.
use Rattle.std.proofs.Common.{◌≡◌, ℕ, ◌<◌, ◌≤◌, ◌+◌, List, [], ◌∷◌, ◌++◌, map, take, drop, length, slice_set, slice_index_or, ap, sym, ◌∙◌, arith}
use Rattle.std.proofs.lemmas.List.{append_assoc, append-nil, drop_more, drop_all, take_more_set, drop-set-lt, map-append, take_all}

module _ {X Y : Type 0} (view : X → Y) (f : Y → Y) where
  -- what is folded already, and the fold of the rest
  abbrev pub half : List X → ℕ → List Y
  half xs i = map view (take i xs) ++ map f (map view (drop i xs))

  pub half_step : (xs : List X) (i : ℕ) (x y : X) → i < length xs → x ≡ slice_index_or xs i x → view y ≡ f (view x) → half (slice_set xs i y) (i + 1) ≡ half xs i
  half_step xs i x y below is changed =
      ap (λ (zs : List X). map view zs ++ map f (map view (drop (i + 1) (slice_set xs i y)))) (take_more_set xs i y below)
      ∙ ap (λ (zs : List X). map view (take i xs ++ y ∷ []) ++ map f (map view zs)) (drop-set-lt (i + 1) xs i y (omega (arith)))
      ∙ ap (λ (zs : List Y). zs ++ map f (map view (drop (i + 1) xs))) (map-append view (take i xs) (y ∷ []))
      ∙ append_assoc (map view (take i xs)) (view y ∷ []) (map f (map view (drop (i + 1) xs)))
      ∙ ap (λ (v : Y). map view (take i xs) ++ (v ∷ map f (map view (drop (i + 1) xs)))) (changed ∙ ap (λ (z : X). f (view z)) is)
      ∙ ap (λ (zs : List X). map view (take i xs) ++ map f (map view zs)) (sym (drop_more xs i x below))

  pub half_all : (xs : List X) (i : ℕ) → length xs ≤ i → map view xs ≡ half xs i
  half_all xs i over = sym (ap (λ (zs : List X). map view (take i xs) ++ map f (map view zs)) (drop_all i xs over) ∙ append-nil (map view (take i xs)) ∙ ap (map view) (take_all i xs over))
