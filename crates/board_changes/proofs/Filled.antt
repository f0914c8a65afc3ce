-- Data of instances that are made one after the other.
use Rattle.std.proofs.Common.{◌≡◌, refl, sym, ap, subst, ℕ, zero, suc, ◌+◌, ◌*◌, ◌<◌, ◌≤◌, List, [], ◌∷◌, length, take, drop, get_or, add-one, inl, inr, arith}
use Rattle.std.specs.Prelude.{slice_set}
use Rattle.dataflow.specs.System.{In}
use Rattle.data_store.specs.Stores.{Store}
use Rattle.board_program.specs.declared.program.LocalVariable.{LocalVariable}
use Rattle.board_instances.specs.declared.pending.PendingInstance.{PendingInstance}
use Rattle.board_changes.specs.declared.instance_data.TurnSlots.{TurnSlots}
use Rattle.board_changes.specs.Filled.{AreFilled, Fills, HasSlots}

module _ (own : List LocalVariable) (at : TurnSlots) where
  -- those before a place are filled, and the others are as they were
  pub record Filling (n : ℕ) (os : List PendingInstance) (s : Store) (ps : List PendingInstance) (t : Store) : Type 0 where
    pub rest : drop n ps ≡ drop n os
    pub filled : AreFilled own at (take n os) s (take n ps) t

  next : (n : ℕ) (os ps : List PendingInstance) (s m t : Store) (o p : PendingInstance) → n < length ps → o ≡ get_or ps n o → drop n ps ≡ drop n os → AreFilled own at (take n os) s (take n ps) m → Fills own at o m p t →
      AreFilled own at (take (suc n) os) s (take (suc n) (slice_set ps n p)) t × (drop (suc n) (slice_set ps n p) ≡ drop (suc n) os)
  next n os [] s m t o p h g e f w = absurd (omega (arith, h))
  next zero [] (q ∷ ps) s m t o p h g e f w = absurd (cc)
  next zero (x ∷ os) (q ∷ ps) s m t o p h g e f w =
      let x_is : o ≡ x = cc in
      let rest : ps ≡ os = cc in
      ((t, subst (λ (z : PendingInstance). Fills own at z s p t) x_is (subst (λ (z : Store). Fills own at o z p t) f w), refl), rest)
  next (suc n) [] (q ∷ ps) s m t o p h g e f w = absurd f
  next (suc n) (x ∷ os) (q ∷ ps) s m t o p h g e f w =
      let r = next n os ps f.0 m t o p (omega (arith, h)) g e f.2 w in
      ((f.0, f.1, r.0), r.1)

  -- one more is filled
  pub fill_next : (n : ℕ) (os ps qs : List PendingInstance) (s m t : Store) (o p : PendingInstance) → n < length ps → o ≡ get_or ps n o → qs ≡ slice_set ps n p → Filling n os s ps m → Fills own at o m p t → Filling (n + 1) os s qs t
  fill_next n os ps qs s m t o p h g e f w =
      let r = next n os ps s m t o p h g f.rest f.filled w in
      subst (λ (zs : List PendingInstance). Filling (n + 1) os s zs t) (sym e) (record { rest = rw add-one r.1; filled = rw add-one r.0 })

  -- all are filled
  pub fill_last : (n : ℕ) (os ps : List PendingInstance) (s t : Store) → length ps ≤ n → length os ≤ n → Filling n os s ps t → AreFilled own at os s ps t
  fill_last n os ps s t h g f = whole os ps n h g f.filled
    where
      whole : (os ps : List PendingInstance) (n : ℕ) → length ps ≤ n → length os ≤ n → AreFilled own at (take n os) s (take n ps) t → AreFilled own at os s ps t
      whole os ps n h g x = subst (λ (zs : List PendingInstance). AreFilled own at os s zs t) (all n ps h) (subst (λ (zs : List PendingInstance). AreFilled own at zs s (take n ps) t) (all n os g) x)
        where
          all : (n : ℕ) (xs : List PendingInstance) → length xs ≤ n → take n xs ≡ xs
          all zero [] h = refl
          all (suc n) [] h = refl
          all zero (x ∷ xs) h = absurd (omega (arith, h))
          all (suc n) (x ∷ xs) h = ap (λ ys. x ∷ ys) (all n xs (omega (arith, h)))

-- what stands at a place of a list is in it
pub in_at : {X : Type 0} (n : ℕ) (xs : List X) (x : X) → n < length xs → x ≡ get_or xs n x → In x xs
in_at n [] x h e = absurd (omega (arith, h))
in_at zero (y ∷ xs) x h e = inl e
in_at (suc n) (y ∷ xs) x h e = inr (in_at n xs x (omega (arith, h)) e)

-- what stands at the front of what is left is in the list
pub in_rest : {X : Type 0} (n : ℕ) (xs ys : List X) (x : X) → n < length ys → x ≡ get_or ys n x → drop n ys ≡ drop n xs → In x xs
in_rest n xs [] x h e d = absurd (omega (arith, h))
in_rest zero xs (y ∷ ys) x h e d = subst (λ zs. In x zs) d (inl e)
in_rest {X} (suc n) [] (y ∷ ys) x h e d = absurd (empty n ys (omega (arith, h)) d)
  where
    empty : (n : ℕ) (zs : List X) → n < length zs → drop n zs ≡ [] → ⊥
    empty n [] h e = omega (arith, h)
    empty zero (z ∷ zs) h e = absurd (cc)
    empty (suc n) (z ∷ zs) h e = empty n zs (omega (arith, h)) e
in_rest (suc n) (z ∷ xs) (y ∷ ys) x h e d = inr (in_rest n xs ys x (omega (arith, h)) e d)

pub more_room : (a b c n k : ℕ) → a ≤ b + n * k → b ≤ c + k → a ≤ c + (n + 1) * k
more_room a b c n k h g = omega (arith, h, g)

-- before a place there is room for one more
pub still_room : (most room i n k : ℕ) → n * k ≤ most → most ≤ room + i * k → i < n → k ≤ room
still_room most room i n k h g l = omega (arith, h, g, times)
  where
    times : i * k + k ≤ n * k
    times = less i n l
      where
        less : (i n : ℕ) → i < n → i * k + k ≤ n * k
        less i zero l = absurd (omega (arith, l))
        less zero (suc n) l = omega arith
        less (suc i) (suc n) l = omega (arith, less i n (omega (arith, l)))

pub long_enough : (k : ℕ) (n : ℕ) (os ps : List PendingInstance) (o : PendingInstance) → ((x : PendingInstance) → In x os → HasSlots k x) → n < length ps → o ≡ get_or ps n o → drop n ps ≡ drop n os → HasSlots k o
long_enough k n os ps o all h g e = all o (in_rest n os ps o h g e)
