-- Lists whose elements are numbered one after another, in their places.
use Rattle.std.proofs.Common.{◌≡◌, ℕ, ◌<◌, ◌≤◌, ◌+◌, List, [], ◌∷◌, ◌++◌, map, take, drop, length, slice_set, slice_index_or, ap, sym, ◌∙◌, arith}
use Rattle.std.proofs.lemmas.List.{append_assoc, append-nil, drop_more, drop_all, take_more_set, drop-set-lt, map-append, take_all}
use Rattle.std.proofs.lemmas.List.Sums.{sum_by-cons}
use Rattle.std.specs.List.{sum_by}
use Rattle.language.specs.Numbered.{numbered_each}

module _ {X Y : Type 0} (view : X → Y) (f : ℕ → Y → Y) (size : Y → ℕ) where
  -- what is numbered already, and the numbers of the rest
  abbrev pub half : List X → ℕ → ℕ → List Y
  half xs i n = map view (take i xs) ++ numbered_each f size n (map view (drop i xs))

  -- how many numbers the rest takes
  abbrev pub left : List X → ℕ → ℕ
  left xs i = sum_by size (map view (drop i xs))

  pub half_step : (xs : List X) (i n : ℕ) (x y : X) → i < length xs → x ≡ slice_index_or xs i x → view y ≡ f n (view x)
      → half (slice_set xs i y) (i + 1) (n + size (view x)) ≡ half xs i n
  half_step xs i n x y below is changed =
      ap (λ (zs : List X). map view zs ++ numbered_each f size (n + size (view x)) (map view (drop (i + 1) (slice_set xs i y)))) (take_more_set xs i y below)
      ∙ ap (λ (zs : List X). map view (take i xs ++ y ∷ []) ++ numbered_each f size (n + size (view x)) (map view zs)) (drop-set-lt (i + 1) xs i y (omega (arith)))
      ∙ ap (λ (zs : List Y). zs ++ numbered_each f size (n + size (view x)) (map view (drop (i + 1) xs))) (map-append view (take i xs) (y ∷ []))
      ∙ append_assoc (map view (take i xs)) (view y ∷ []) (numbered_each f size (n + size (view x)) (map view (drop (i + 1) xs)))
      ∙ ap (λ (v : Y). map view (take i xs) ++ (v ∷ numbered_each f size (n + size (view x)) (map view (drop (i + 1) xs)))) changed
      ∙ ap (λ (z : X). map view (take i xs) ++ (f n (view z) ∷ numbered_each f size (n + size (view z)) (map view (drop (i + 1) xs)))) is
      ∙ ap (λ (zs : List X). map view (take i xs) ++ numbered_each f size n (map view zs)) (sym (drop_more xs i x below))

  pub left_here : (xs : List X) (i : ℕ) (x : X) → i < length xs → x ≡ slice_index_or xs i x → left xs i ≡ size (view x) + left xs (i + 1)
  left_here xs i x below is =
      ap (λ (zs : List X). sum_by size (map view zs)) (drop_more xs i x below)
      ∙ sum_by-cons size (view (slice_index_or xs i x)) (map view (drop (i + 1) xs))
      ∙ ap (λ (z : X). size (view z) + left xs (i + 1)) (sym is)

  pub left_step : (xs : List X) (i : ℕ) (x y : X) → i < length xs → x ≡ slice_index_or xs i x → size (view x) + left (slice_set xs i y) (i + 1) ≡ left xs i
  left_step xs i x y below is =
      ap (λ (zs : List X). size (view x) + sum_by size (map view zs)) (drop-set-lt (i + 1) xs i y (omega (arith)))
      ∙ sym (left_here xs i x below is)

  pub half_all : (xs : List X) (i n : ℕ) → length xs ≤ i → half xs i n ≡ map view xs
  half_all xs i n over = ap (λ (zs : List X). map view (take i xs) ++ numbered_each f size n (map view zs)) (drop_all i xs over) ∙ append-nil (map view (take i xs)) ∙ ap (map view) (take_all i xs over)

  pub left_all : (xs : List X) (i : ℕ) → length xs ≤ i → left xs i ≡ 0
  left_all xs i over = ap (λ (zs : List X). sum_by size (map view zs)) (drop_all i xs over)
