-- Where names lead, one body at a time.
use Rattle.std.proofs.Common.{◌≡◌, ◌∙◌, refl, ap, ℕ, zero, suc, ◌+◌, ◌-◌, ◌<◌, ◌≤◌, List, [], ◌∷◌, length, map, drop, Option, Some, None, Bool, true, false, arith}
use Rattle.std.specs.Prelude.{slice_index_or, if◌then◌else◌}
use Rattle.task_code.specs.Code.{blank_body, body, Body, Code, Local, nth, Owned, Parameter}
use Rattle.task_code.specs.Places.{variable_eq}
use Rattle.task_code.specs.View.{variable_view}
use Rattle.task_code.specs.declared.entry.Variable.{Variable}
use Rattle.board_program.specs.Spots.{around, found_or, further, go_out, own_if, place_from, spot_from}
use Rattle.board_program.specs.declared.lexical_address.LexicalAddress.{LexicalAddress}

next : (n : ℕ) → suc n ≡ n + 1
next n = omega arith

module _ (v : Variable) where
  -- a variable that is there is found, and another one is passed over
  place_at : (xs : List Variable) (i : ℕ) (n : ℕ) (d : Variable) → i < length xs → place_from n (variable_view v) (map variable_view (drop i xs)) ≡ place_from n (variable_view v) (variable_view (slice_index_or xs i d) ∷ map variable_view (drop (suc i) xs))
  place_at [] i n d h = absurd (omega (arith, h))
  place_at (x ∷ xs) zero n d h = refl
  place_at (x ∷ xs) (suc i) n d h = place_at xs i n d (omega (arith, h))

otherwise : (b : Bool) (r s : Option ℕ) → b ≡ false → (if b then r else s) ≡ s
otherwise b r s e = ap (λ (c : Bool). if c then r else s) e

chosen : (b : Bool) (r s : Option ℕ) → b ≡ true → (if b then r else s) ≡ r
chosen b r s e = ap (λ (c : Bool). if c then r else s) e

pub place_next : (v : Variable) (xs : List Variable) (i : ℕ) (d : Variable) → i < length xs → variable_eq (variable_view (slice_index_or xs i d)) (variable_view v) ≡ false → place_from i (variable_view v) (map variable_view (drop i xs)) ≡ place_from (i + 1) (variable_view v) (map variable_view (drop (i + 1) xs))
place_next v xs i d h e = place_at v xs i i d h ∙ (otherwise _ (Some i) (place_from (suc i) (variable_view v) (map variable_view (drop (suc i) xs))) e ∙ ap (λ n. place_from n (variable_view v) (map variable_view (drop n xs))) (next i))

pub place_here : (v : Variable) (xs : List Variable) (i : ℕ) (d : Variable) → i < length xs → variable_eq (variable_view (slice_index_or xs i d)) (variable_view v) ≡ true → place_from i (variable_view v) (map variable_view (drop i xs)) ≡ Some i
place_here v xs i d h e = place_at v xs i i d h ∙ chosen _ (Some i) (place_from (suc i) (variable_view v) (map variable_view (drop (suc i) xs))) e

pub place_end : (v : Variable) (xs : List Variable) (i : ℕ) → length xs ≤ i → place_from i (variable_view v) (map variable_view (drop i xs)) ≡ None
place_end v [] zero h = refl
place_end v [] (suc i) h = refl
place_end v (x ∷ xs) zero h = absurd (omega (arith, h))
place_end v (x ∷ xs) (suc i) h = shift v xs i (suc i) (omega (arith, h))
  where
    shift : (v : Variable) (xs : List Variable) (i n : ℕ) → length xs ≤ i → place_from n (variable_view v) (map variable_view (drop i xs)) ≡ None
    shift v [] zero n h = refl
    shift v [] (suc i) n h = refl
    shift v (x ∷ xs) zero n h = absurd (omega (arith, h))
    shift v (x ∷ xs) (suc i) n h = shift v xs i n (omega (arith, h))

-- a body that is not there leads nowhere
pub blank : (bs : List Body) (b : ℕ) → length bs ≤ b → nth blank_body bs b ≡ blank_body
blank [] b h = refl
blank (x ∷ bs) zero h = absurd (omega (arith, h))
blank (x ∷ bs) (suc b) h = blank bs b (omega (arith, h))

module _ (C : Code) (hs : List (Option ℕ)) (x : Owned) where
  step : (n m b up : ℕ) → m ≡ suc n → spot_from C hs m b up x ≡ found_or (own_if up (body C b) x) (around (go_out hs (body C b).opener up) (λ c k. spot_from C hs n c k x))
  step n m b up e = ap (λ k. spot_from C hs k b up x) e

further_more : (n : ℕ) (r : Option LexicalAddress) → further n (further 1 r) ≡ further (n + 1) r
further_more n None = refl
further_more n (Some s) = ap (λ k. Some (record { levels = k; slot = s.slot })) (sums n s.levels)
  where
    sums : (n m : ℕ) → n + (1 + m) ≡ n + 1 + m
    sums n m = omega arith

module _ (C : Code) (hs : List (Option ℕ)) (x : Owned) where
  -- what the body has as its own
  pub spot_own : (n l b up slot : ℕ) → l < n → own_if up (body C b) x ≡ Some slot → further l (spot_from C hs (n - l) b up x) ≡ Some (record { levels = l; slot = slot })
  spot_own n l b up slot h e =
      ap (further l) (step C hs x (n - (l + 1)) (n - l) b up (omega (arith, h)) ∙ ap (λ o. found_or o (around (go_out hs (body C b).opener up) (λ c k. spot_from C hs (n - (l + 1)) c k x))) e)
      ∙ ap (λ k. Some (record { levels = k; slot = slot })) (omega arith)

  -- nothing is around it
  pub spot_none : (n l b up : ℕ) → l < n → own_if up (body C b) x ≡ None → go_out hs (body C b).opener up ≡ None → further l (spot_from C hs (n - l) b up x) ≡ None
  spot_none n l b up h e o =
      ap (further l) (step C hs x (n - (l + 1)) (n - l) b up (omega (arith, h)) ∙ ap (λ r. found_or r (around (go_out hs (body C b).opener up) (λ c k. spot_from C hs (n - (l + 1)) c k x))) e ∙ ap (λ r. around r (λ c k. spot_from C hs (n - (l + 1)) c k x)) o)

  -- where it leads from the body around
  pub spot_out : (n l b up c k : ℕ) → l < n → own_if up (body C b) x ≡ None → go_out hs (body C b).opener up ≡ Some (c, k) → further l (spot_from C hs (n - l) b up x) ≡ further (l + 1) (spot_from C hs (n - (l + 1)) c k x)
  spot_out n l b up c k h e o =
      ap (further l) (step C hs x (n - (l + 1)) (n - l) b up (omega (arith, h)) ∙ ap (λ r. found_or r (around (go_out hs (body C b).opener up) (λ c k. spot_from C hs (n - (l + 1)) c k x))) e ∙ ap (λ r. around r (λ c k. spot_from C hs (n - (l + 1)) c k x)) o)
      ∙ further_more l (spot_from C hs (n - (l + 1)) c k x)

  own_none : (up : ℕ) → own_if up blank_body x ≡ None
  own_none zero = by x
    where
      by : (x : Owned) → own_if 0 blank_body x ≡ None
      by (Local v) = refl
      by (Parameter k a) = refl
  own_none (suc up) = refl

  -- nowhere from a body that is not there, and nowhere once all are passed
  pub spot_past : (l m b up : ℕ) → length C.bodies ≤ b → further l (spot_from C hs m b up x) ≡ None
  spot_past l zero b up h = refl
  spot_past l (suc m) b up h =
      ap (λ y. further l (found_or (own_if up y x) (around (go_out hs y.opener up) (λ c k. spot_from C hs m c k x)))) (blank C.bodies b h)
      ∙ ap (λ r. further l (found_or r None)) (own_none up)

  pub spot_end : (n l b up : ℕ) → n ≤ l → further l (spot_from C hs (n - l) b up x) ≡ None
  spot_end n l b up h = ap (λ k. further l (spot_from C hs k b up x)) (zeroed n l h)
    where
      zeroed : (n l : ℕ) → n ≤ l → n - l ≡ 0
      zeroed n l h = omega (arith, h)
