-- Beginnings of one list.
use Rattle.std.proofs.Common.{◌≡◌, ◌⊎◌, inl, inr, ◌≤◌, List, [], ◌∷◌, ◌++◌, length, refl, sym, subst, ◌∙◌, arith}
use mathlib.Core.List.{IsPrefix}
use Rattle.board_work.specs.Assigned.{Assigned}
use Rattle.dataflow.specs.System.{In}
use Rattle.board.specs.Board.{IsItems, Seen}
use Rattle.workers.specs.StartLog.{AreItems}

-- of two beginnings of one list the shorter begins the longer
pub prefix_shorter : {A : Type 0} (xs ys zs : List A) → IsPrefix xs zs → IsPrefix ys zs → length xs ≤ length ys → IsPrefix xs ys
prefix_shorter [] ys zs p q le = (ys, refl)
prefix_shorter (x ∷ xs) [] zs p q le = absurd (omega arith)
prefix_shorter (x ∷ xs) (y ∷ ys) [] p q le = absurd (cc (p.1))
prefix_shorter (x ∷ xs) (y ∷ ys) (z ∷ zs) p q le =
    let heads : x ≡ y = cc (p.1, q.1) in
    let rest = prefix_shorter xs ys zs (p.0, cc (p.1)) (q.0, cc (q.1)) (omega arith) in
    (rest.0, cc (heads, rest.1))

-- a beginning as long as the whole is the whole
pub prefix_of_same_length : {A : Type 0} (xs ys : List A) → IsPrefix xs ys → length ys ≤ length xs → xs ≡ ys
prefix_of_same_length [] [] p le = refl
prefix_of_same_length [] (y ∷ ys) p le = absurd (omega arith)
prefix_of_same_length (x ∷ xs) [] p le = absurd (cc (p.1))
prefix_of_same_length (x ∷ xs) (y ∷ ys) p le =
    let rest = prefix_of_same_length xs ys (p.0, cc (p.1)) (omega arith) in cc (p.1, rest)

-- what is in a beginning is in the whole
pub prefix_in : (w : Assigned) (xs ys : List Assigned) → IsPrefix xs ys → In w xs → In w ys
prefix_in w [] ys p h = absurd h
prefix_in w (x ∷ xs) [] p h = absurd (cc (p.1))
prefix_in w (x ∷ xs) (y ∷ ys) p (inl e) = inl (let q : x ≡ y = cc (p.1) in e ∙ q)
prefix_in w (x ∷ xs) (y ∷ ys) p (inr h) = inr (prefix_in w xs ys (p.0, cc (p.1)) h)

pub in_last : (w : Assigned) (xs : List Assigned) → In w (xs ++ w ∷ [])
in_last w [] = inl refl
in_last w (x ∷ xs) = inr (in_last w xs)

in_or_last : (v w : Assigned) (xs : List Assigned) → In v (xs ++ w ∷ []) → In v xs ⊎ (v ≡ w)
in_or_last v w [] (inl e) = inr e
in_or_last v w [] (inr h) = absurd h
in_or_last v w (x ∷ xs) (inl e) = inl (inl e)
in_or_last v w (x ∷ xs) (inr h) = by (in_or_last v w xs h)
  where
    by : In v xs ⊎ (v ≡ w) → In v (x ∷ xs) ⊎ (v ≡ w)
    by (inl a) = inl (inr a)
    by (inr e) = inr e

-- work more that is its item's own
pub items_more : (b : Seen) (xs : List Assigned) (w : Assigned) → AreItems b xs → IsItems b w → AreItems b (xs ++ w ∷ [])
items_more b xs w all here v h = by (in_or_last v w xs h)
  where
    by : In v xs ⊎ (v ≡ w) → IsItems b v
    by (inl a) = all v a
    by (inr e) = subst (λ (u : Assigned). IsItems b u) (sym e) here
