-- The body that has an entry is found, and a name that is found is found with more steps too.
use Rattle.std.proofs.Common.{◌≡◌, ◌∙◌, refl, sym, ap, subst, inl, inr, ℕ, zero, suc, ◌+◌, ◌-◌, ◌<◌, ◌≤◌, List, [], ◌∷◌, length, Option, Some, None, arith}
use Rattle.std.specs.Prelude.{replicate, set}
use Rattle.dataflow.specs.System.{In}
use Rattle.board_history.proofs.Tests.{none_some, some_same}
use Rattle.task_code.specs.Code.{blank_body, Body, body, Code, nth, Owned}
use Rattle.task_code.specs.Whole.{IsCode}
use Rattle.board_program.specs.Spots.{around, found_or, further, go_out, home_of, homes_of, note, noted, own_if, spot_from}
use Rattle.board_program.specs.declared.lexical_address.LexicalAddress.{LexicalAddress}

-- one list of homes
set_same : (hs : List (Option ℕ)) (i j b : ℕ) → home_of hs i ≡ Some b → home_of (set hs j (Some b)) i ≡ Some b
set_same [] i j b h = none_some h
set_same (y ∷ hs) zero zero b h = refl
set_same (y ∷ hs) zero (suc j) b h = h
set_same (y ∷ hs) (suc i) zero b h = h
set_same (y ∷ hs) (suc i) (suc j) b h = set_same hs i j b h

set_here : (hs : List (Option ℕ)) (i b : ℕ) → i < length hs → home_of (set hs i (Some b)) i ≡ Some b
set_here [] i b h = absurd (omega (arith, h))
set_here (y ∷ hs) zero b h = refl
set_here (y ∷ hs) (suc i) b h = set_here hs i b (omega (arith, h))

set_other : (hs : List (Option ℕ)) (i j b : ℕ) → (i ≡ j → ⊥) → home_of (set hs j (Some b)) i ≡ home_of hs i
set_other [] i j b n = refl
set_other (y ∷ hs) zero zero b n = absurd (n refl)
set_other (y ∷ hs) zero (suc j) b n = refl
set_other (y ∷ hs) (suc i) zero b n = refl
set_other (y ∷ hs) (suc i) (suc j) b n = set_other hs i j b (λ e. n (ap suc e))

set_length : (hs : List (Option ℕ)) (j b : ℕ) → length (set hs j (Some b)) ≡ length hs
set_length [] j b = refl
set_length (y ∷ hs) zero b = refl
set_length (y ∷ hs) (suc j) b = ap suc (set_length hs j b)

-- one body's entries
note_keeps : (b : ℕ) (is : List ℕ) (hs : List (Option ℕ)) (i : ℕ) → home_of hs i ≡ Some b → home_of (note b is hs) i ≡ Some b
note_keeps b [] hs i h = h
note_keeps b (j ∷ is) hs i h = note_keeps b is (set hs j (Some b)) i (set_same hs i j b h)

note_length : (b : ℕ) (is : List ℕ) (hs : List (Option ℕ)) → length (note b is hs) ≡ length hs
note_length b [] hs = refl
note_length b (j ∷ is) hs = note_length b is (set hs j (Some b)) ∙ set_length hs j b

note_has : (b : ℕ) (is : List ℕ) (hs : List (Option ℕ)) (i : ℕ) → In i is → i < length hs → home_of (note b is hs) i ≡ Some b
note_has b [] hs i h l = absurd h
note_has b (j ∷ is) hs i (inl e) l = note_keeps b is (set hs j (Some b)) i (subst (λ k. home_of (set hs k (Some b)) i ≡ Some b) e (set_here hs i b l))
note_has b (j ∷ is) hs i (inr h) l = note_has b is (set hs j (Some b)) i h (subst (λ n. i < n) (sym (set_length hs j b)) l)

note_other : (b : ℕ) (is : List ℕ) (hs : List (Option ℕ)) (i : ℕ) → (In i is → ⊥) → home_of (note b is hs) i ≡ home_of hs i
note_other b [] hs i n = refl
note_other b (j ∷ is) hs i n = note_other b is (set hs j (Some b)) i (λ h. n (inr h)) ∙ set_other hs i j b (λ e. n (inl e))

-- all bodies
noted_other : (n : ℕ) (xs : List Body) (hs : List (Option ℕ)) (i : ℕ) → ((k : ℕ) → In i (nth blank_body xs k).entries → ⊥) → home_of (noted n xs hs) i ≡ home_of hs i
noted_other n [] hs i no_body = refl
noted_other n (x ∷ xs) hs i no_body = noted_other (suc n) xs (note n x.entries hs) i (λ k h. no_body (suc k) h) ∙ note_other n x.entries hs i (no_body zero)

zero_suc : {A : Type 0} {n : ℕ} → suc n ≡ zero → A
zero_suc h = absurd (cc)

less : {n m : ℕ} → suc n ≡ suc m → n ≡ m
less h = cc

noted_home : (n : ℕ) (xs : List Body) (hs : List (Option ℕ)) (i c : ℕ) → i < length hs → In i (nth blank_body xs c).entries → ((k : ℕ) → In i (nth blank_body xs k).entries → k ≡ c) → home_of (noted n xs hs) i ≡ Some (n + c)
noted_home n [] hs i c l h once = absurd h
noted_home n (x ∷ xs) hs i zero l h once =
    noted_other (suc n) xs (note n x.entries hs) i (λ k g. zero_suc (once (suc k) g))
    ∙ note_has n x.entries hs i h l
    ∙ ap Some (same n)
  where
    same : (n : ℕ) → n ≡ n + 0
    same n = omega arith
noted_home n (x ∷ xs) hs i (suc c) l h once =
    noted_home (suc n) xs (note n x.entries hs) i c (subst (λ m. i < m) (sym (note_length n x.entries hs)) l) h (λ k g. less (once (suc k) g))
    ∙ ap Some (later n c)
  where
    later : (n c : ℕ) → suc n + c ≡ n + suc c
    later n c = omega arith

many : (n : ℕ) → length (replicate {A = Option ℕ} n None) ≡ n
many zero = refl
many (suc n) = ap suc (many n)

module _ (C : Code) (I : IsCode C) where
  pub home_found : (c i : ℕ) → In i (body C c).entries → home_of (homes_of C) i ≡ Some c
  home_found c i h =
      noted_home 0 C.bodies (replicate (length C.entries) None) i c (subst (λ n. i < n) (sym (many (length C.entries))) (I.there c i h)) h (λ k g. I.entries_once k c i g h)
      ∙ ap Some (same c)
    where
      same : (n : ℕ) → 0 + n ≡ n
      same n = omega arith

-- with more steps
around_more : (o : Option (ℕ × ℕ)) (f g : ℕ → ℕ → Option LexicalAddress) → ((c k : ℕ) (s : LexicalAddress) → f c k ≡ Some s → g c k ≡ Some s) → (s : LexicalAddress) → around o f ≡ Some s → around o g ≡ Some s
around_more None f g m s h = none_some h
around_more (Some p) f g m s h = by (f p.0 p.1) refl h
  where
    by : (r : Option LexicalAddress) → f p.0 p.1 ≡ r → further 1 (f p.0 p.1) ≡ Some s → further 1 (g p.0 p.1) ≡ Some s
    by None e h = none_some (sym (ap (further 1) e) ∙ h)
    by (Some t) e h = ap (further 1) (m p.0 p.1 t e) ∙ sym (ap (further 1) e) ∙ h

found_more : (n : Option ℕ) (q r : Option LexicalAddress) → ((s : LexicalAddress) → q ≡ Some s → r ≡ Some s) → (s : LexicalAddress) → found_or n q ≡ Some s → found_or n r ≡ Some s
found_more (Some n) q r m s h = h
found_more None q r m s h = m s h

module _ (C : Code) (hs : List (Option ℕ)) (x : Owned) where
  one_more : (m b up : ℕ) (s : LexicalAddress) → spot_from C hs m b up x ≡ Some s → spot_from C hs (suc m) b up x ≡ Some s
  one_more zero b up s h = none_some h
  one_more (suc m) b up s h =
      found_more (own_if up (body C b) x) (around (go_out hs (body C b).opener up) (λ c n. spot_from C hs m c n x)) (around (go_out hs (body C b).opener up) (λ c n. spot_from C hs (suc m) c n x))
      (around_more (go_out hs (body C b).opener up) (λ c n. spot_from C hs m c n x) (λ c n. spot_from C hs (suc m) c n x) (λ c k t e. one_more m c k t e)) s h

  more : (k m b up : ℕ) (s : LexicalAddress) → spot_from C hs m b up x ≡ Some s → spot_from C hs (k + m) b up x ≡ Some s
  more zero m b up s h = subst (λ n. spot_from C hs n b up x ≡ Some s) (plus m) h
    where
      plus : (m : ℕ) → m ≡ 0 + m
      plus m = omega arith
  more (suc k) m b up s h = subst (λ n. spot_from C hs n b up x ≡ Some s) (plus k m) (one_more (k + m) b up s (more k m b up s h))
    where
      plus : (k m : ℕ) → suc (k + m) ≡ suc k + m
      plus k m = omega arith

  pub found_to : (m n b up : ℕ) (s : LexicalAddress) → m ≤ n → spot_from C hs m b up x ≡ Some s → spot_from C hs n b up x ≡ Some s
  found_to m n b up s h e = subst (λ k. spot_from C hs k b up x ≡ Some s) (omega (arith, h)) (more (n - m) m b up s e)

  -- from a body into the one around it
  pub record Outward (s : LexicalAddress) (c k n : ℕ) : Type 0 where
    pub spot : LexicalAddress
    pub found : spot_from C hs n c k x ≡ Some spot
    pub levels : s.levels ≡ suc spot.levels
    pub slot : s.slot ≡ spot.slot

  pub outward_from : (n b up c k : ℕ) (s : LexicalAddress) → own_if up (body C b) x ≡ None → go_out hs (body C b).opener up ≡ Some (c, k) → spot_from C hs n b up x ≡ Some s → Outward s c k n
  outward_from zero b up c k s o g h = none_some h
  outward_from (suc n) b up c k s o g h =
      by (spot_from C hs n c k x) refl (sym (ap (λ r. found_or r (around (go_out hs (body C b).opener up) (λ c n'. spot_from C hs n c n' x))) o ∙ ap (λ r. around r (λ c n'. spot_from C hs n c n' x)) g) ∙ h)
    where
      by : (r : Option LexicalAddress) → spot_from C hs n c k x ≡ r → further 1 (spot_from C hs n c k x) ≡ Some s → Outward s c k (suc n)
      by None e q = none_some (sym (ap (further 1) e) ∙ q)
      by (Some t) e q =
          let same : record { levels = 1 + t.levels; slot = t.slot } ≡ s = some_same (sym (ap (further 1) e) ∙ q) in
          record {
            spot = t;
            found = one_more n c k t e;
            levels = sym (ap (λ (y : LexicalAddress). y.levels) same) ∙ one t.levels;
            slot = sym (ap (λ (y : LexicalAddress). y.slot) same);
          }
        where
          one : (m : ℕ) → 1 + m ≡ suc m
          one m = omega arith
