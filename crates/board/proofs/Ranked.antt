-- The order of statements, and lists in it.
use Rattle.std.proofs.Common.{◌≡◌, ◌↔◌, ◌⊎◌, inl, inr, ℕ, zero, suc, ◌+◌, ◌-◌, ◌<◌, Bool, true, false, ◌&&◌, List, [], ◌∷◌, ◌++◌, length, map, Option, None, Some, refl, sym, ap, ◌∙◌, subst, arith}
use Rattle.std.specs.Prelude.{if◌then◌else◌, nat_eq, nat_lt, reverse, slice_get, slice_index_or}
use Rattle.std.specs.Cmp.{IsStrictWeakOrder}
use Rattle.std.specs.List.Sorted.{IsPermutation, IsSortedBy}
use Rattle.dataflow.specs.System.{In}
use Rattle.dataflow.proofs.Lists.{in_left, in_map, in_right, in_split, in_unmap}
use Rattle.paths.specs.declared.statements.StatementInstance.{StatementInstance}
use Rattle.task_code.proofs.Equal.{nat_sound}
use Rattle.board_items.proofs.Lists.{in_back, in_moved}
use Rattle.board_history.proofs.Tests.{none_some, some_same}
use Rattle.paths.specs.Order.{path_below, same_path, same_statement, statement_below}
use Rattle.paths.proofs.Orders.{path_order}
use Rattle.board.specs.Blocked.{InTextOrder, comes_before}
use Rattle.board.specs.Stuck.{Place, place_of}
use Rattle.board.specs.Sorting.{each_once, is_last}
use Rattle.board.specs.View.{path_view}
use Rattle.std.proofs.lemmas.Bool.{or_parts, false_from_ne_true, or_cases, or_right, or_left, and_from, and_parts}

lt_sound : (n m : ℕ) → nat_lt n m ≡ true → n < m
lt_sound n m h = grind arith

lt_complete : (n m : ℕ) → n < m → nat_lt n m ≡ true
lt_complete n m h = grind arith

other : (n m : ℕ) → nat_lt n m ≡ false → nat_eq n m ≡ false → m < n
other n m h g = grind arith

and_none : (a b : Bool) → a ≡ true → (a && b) ≡ false → b ≡ false
and_none true b h g = g
and_none false b h g = absurd (cc (h))

-- statements
abbrev Before : StatementInstance → StatementInstance → Type 0
Before s t = (path_below s.path.items t.path.items ≡ true) ⊎ ((s.path.items ≡ t.path.items) × (s.at < t.at))

before_sound : (s t : StatementInstance) → statement_below s t ≡ true → Before s t
before_sound s t h = by (or_cases (path_below s.path.items t.path.items) _ h)
  where
    by : (path_below s.path.items t.path.items ≡ true) ⊎ ((same_path s.path.items t.path.items && nat_lt s.at t.at) ≡ true) → Before s t
    by (inl a) = inl a
    by (inr a) = (let x = and_parts (same_path s.path.items t.path.items) _ a in inr (path_order.is s.path.items t.path.items x.0, lt_sound s.at t.at x.1))

before_trans : (s t u : StatementInstance) → Before s t → Before t u → Before s u
before_trans s t u (inl a) (inl b) = inl (path_order.chain s.path.items t.path.items u.path.items a b)
before_trans s t u (inl a) (inr b) = inl (subst (λ z. path_below s.path.items z ≡ true) b.0 a)
before_trans s t u (inr a) (inl b) = inl (subst (λ z. path_below z u.path.items ≡ true) (sym a.0) b)
before_trans s t u (inr a) (inr b) = (let x = a.1 in let y = b.1 in inr (a.0 ∙ b.0, omega (arith, x, y)))

before_total : (s t : StatementInstance) → statement_below s t ≡ false → same_statement s t ≡ false → Before t s
before_total s t h g = (let x = or_parts (path_below s.path.items t.path.items) _ h in by (same_path s.path.items t.path.items) refl x.0 x.1)
  where
    by : (b : Bool) → same_path s.path.items t.path.items ≡ b → path_below s.path.items t.path.items ≡ false → (same_path s.path.items t.path.items && nat_lt s.at t.at) ≡ false → Before t s
    by true e l k = inr (sym (path_order.is s.path.items t.path.items e), other s.at t.at (and_none (same_path s.path.items t.path.items) _ e k) (and_none (same_path s.path.items t.path.items) _ e g))
    by false e l k = inl (path_order.other s.path.items t.path.items l e)

text_before : (s t : StatementInstance) → Before s t → comes_before s t
text_before s t (inl a) = inl a
text_before s t (inr a) = inr (ap (λ p. reverse (path_view p)) a.0, lt_complete s.at t.at a.1)

same_place : (s t : StatementInstance) → same_statement s t ≡ true → place_of s ≡ place_of t
same_place s t h =
    let x = and_parts (same_path s.path.items t.path.items) _ h in
    let a = nat_sound s.at t.at x.1 in
    let b = ap (λ p. reverse (path_view p)) (path_order.is s.path.items t.path.items x.0) in
    λ i. record { at = a i; path = b i }

false_true : false ≡ true → ⊥
false_true e = absurd (cc (e))

-- it is an order with the same statements as ties
before_is : (s t : StatementInstance) → Before s t → statement_below s t ≡ true
before_is s t (inl a) = or_left (path_below s.path.items t.path.items) _ a
before_is s t (inr a) = or_right (path_below s.path.items t.path.items) _ (and_from (same_path s.path.items t.path.items) _ (subst (λ p. same_path s.path.items p ≡ true) a.0 (path_order.own s.path.items)) (lt_complete s.at t.at a.1))

before_not : (s t : StatementInstance) → Before s t → Before t s → ⊥
before_not s t a b = by (before_trans s t s a b)
  where
    by : Before s s → ⊥
    by (inl h) = path_order.not_own s.path.items h
    by (inr h) = let x = h.1 in omega arith

same_before : (s t : StatementInstance) → same_statement s t ≡ true → (s.path.items ≡ t.path.items) × (s.at ≡ t.at)
same_before s t h = let x = and_parts (same_path s.path.items t.path.items) _ h in (path_order.is s.path.items t.path.items x.0, nat_sound s.at t.at x.1)

pub before_order : IsStrictWeakOrder statement_below
before_order =
    record {
      one_way = λ s t h. false_from_ne_true (statement_below t s) (λ g. before_not s t (before_sound s t h) (before_sound t s g));
      chain = λ s t u h g. false_from_ne_true (statement_below s u) (λ k. chained s t u h g (before_sound s u k));
    }
  where
    chained : (s t u : StatementInstance) → statement_below s t ≡ false → statement_below t u ≡ false → Before s u → ⊥
    chained s t u h g k = by (same_statement s t) refl
      where
        by : (x : Bool) → same_statement s t ≡ x → ⊥
        by true e =
            let q = same_before s t e in
            false_true (sym g ∙ before_is t u (moved q.0 q.1 k))
          where
            moved : s.path.items ≡ t.path.items → s.at ≡ t.at → Before s u → Before t u
            moved a b (inl c) = inl (subst (λ p. path_below p u.path.items ≡ true) a c)
            moved a b (inr c) = inr (sym a ∙ c.0, subst (λ n. n < u.at) b c.1)
        by false e = false_true (sym g ∙ before_is t u (before_trans t s u (before_total s t h e) k))

-- lists in order
abbrev Ordered : List StatementInstance → Type 0
Ordered [] = Unit {0}
Ordered (s ∷ ss) = ((t : StatementInstance) → In t ss → Before s t) × Ordered ss

got : (ts : List StatementInstance) (k : ℕ) (x : StatementInstance) → slice_get ts k ≡ Some x → In x ts
got [] k x h = none_some h
got (t ∷ ts) zero x h = inl (sym (some_same h))
got (t ∷ ts) (suc k) x h = inr (got ts k x h)

-- each element of a list in order is before the last, or is it
record IsLast (x : StatementInstance) (ts : List StatementInstance) : Type 0 where
  there : In x ts
  after : (t : StatementInstance) → In t ts → (t ≡ x) ⊎ Before t x

last_of : (ts : List StatementInstance) → Ordered ts → (x : StatementInstance) → slice_get ts (length ts - 1) ≡ Some x → IsLast x ts
last_of [] r x h = none_some h
last_of (t ∷ []) r x h = record { there = inl (sym (some_same h)); after = λ u i. elim i [ inl p ↦ inl (p ∙ some_same h) | inr j ↦ absurd j ] }
last_of (t ∷ u ∷ us) r x h =
    let l = last_of (u ∷ us) r.1 x (moved h) in
    record {
      there = inr l.there;
      after = λ v i. elim i [ inl p ↦ inr (subst (λ z. Before z x) (sym p) (r.0 x l.there)) | inr j ↦ l.after v j ];
    }
  where
    moved : slice_get (t ∷ u ∷ us) (length (t ∷ u ∷ us) - 1) ≡ Some x → slice_get (u ∷ us) (length (u ∷ us) - 1) ≡ Some x
    moved g =
        let e : length (t ∷ u ∷ us) - 1 ≡ suc (length (u ∷ us) - 1) = omega arith in
        subst (λ k. slice_get (t ∷ u ∷ us) k ≡ Some x) e g

-- lists in which none is before an earlier one
abbrev NoneBefore : List StatementInstance → Type 0
NoneBefore [] = Unit {0}
NoneBefore (s ∷ ss) = ((t : StatementInstance) → In t ss → statement_below t s ≡ false) × NoneBefore ss

abbrev AreBehind : List StatementInstance → List StatementInstance → Type 0
AreBehind found ss = (t s : StatementInstance) → In t found → In s ss → statement_below s t ≡ false

put_ordered : (found : List StatementInstance) (s : StatementInstance) → Ordered found → ((t : StatementInstance) → In t found → Before t s) → Ordered (found ++ s ∷ [])
put_ordered [] s r f = ((λ t i. absurd i), tt)
put_ordered (t ∷ ts) s r f = (
  (λ u i. elim (in_split u ts (s ∷ []) i) [ inl j ↦ r.0 u j | inr j ↦ elim j [ inl p ↦ subst (λ z. Before t z) (sym p) (f t (inl refl)) | inr k ↦ absurd k ] ]),
  put_ordered ts s r.1 (λ u j. f u (inr j)),
)

last_before : (found : List StatementInstance) (s : StatementInstance) → Ordered found → ((t : StatementInstance) → In t found → statement_below s t ≡ false) → is_last found s ≡ false → (t : StatementInstance) → In t found → Before t s
last_before found s r f h t i = by (slice_get found (length found - 1)) refl h
  where
    none_in : (ts : List StatementInstance) → slice_get ts (length ts - 1) ≡ None → (u : StatementInstance) → In u ts → ⊥
    none_in [] e u j = j
    none_in (v ∷ []) e u j = none_some (sym e)
    none_in (v ∷ w ∷ ws) e u j =
        let k : length (v ∷ w ∷ ws) - 1 ≡ suc (length (w ∷ ws) - 1) = omega arith in
        none_in (w ∷ ws) (subst (λ n. slice_get (v ∷ w ∷ ws) n ≡ None) k e) w (inl refl)

    by : (o : Option StatementInstance) → slice_get found (length found - 1) ≡ o → elim o [ None ↦ false | Some x ↦ same_statement s x ] ≡ false → Before t s
    by None e g = absurd (none_in found e t i)
    by (Some x) e g =
        let l = last_of found r x e in
        let y = before_total s x (f x l.there) g in
        elim (l.after t i) [ inl p ↦ subst (λ z. Before z s) (sym p) y | inr b ↦ before_trans t x s b y ]

-- so each stands once, in order
once_ordered : (found ss : List StatementInstance) → Ordered found → NoneBefore ss → AreBehind found ss → Ordered (each_once found ss)
once_ordered found [] r n b = r
once_ordered found (s ∷ ss) r n b = by (is_last found s) refl (λ q c. once_ordered found ss q n.1 c) (λ q c. once_ordered (found ++ s ∷ []) ss q n.1 c)
  where
    by : (x : Bool) → is_last found s ≡ x → (Ordered found → AreBehind found ss → Ordered (each_once found ss)) → (Ordered (found ++ s ∷ []) → AreBehind (found ++ s ∷ []) ss → Ordered (each_once (found ++ s ∷ []) ss)) → Ordered (each_once (if x then found else found ++ s ∷ []) ss)
    by true e here more = here r (λ t u i j. b t u i (inr j))
    by false e here more =
        more (put_ordered found s r (last_before found s r (λ t i. b t s i (inl refl)) e))
        (λ t u i j. elim (in_split t found (s ∷ []) i) [
          | inl k ↦ b t u k (inr j)
          | inr k ↦ elim k [ inl p ↦ subst (λ z. statement_below u z ≡ false) (sym p) (n.0 u j) | inr m ↦ absurd m ]
        ])

-- and all are there
once_in : (found ss : List StatementInstance) (p : Place) → In p (map place_of ss) ⊎ In p (map place_of found) → In p (map place_of (each_once found ss))
once_in found [] p (inl i) = absurd i
once_in found [] p (inr i) = i
once_in found (s ∷ ss) p i = once_in (if is_last found s then found else found ++ s ∷ []) ss p (elim i [
  | inl j ↦ elim j [ inl e ↦ inr (new (is_last found s) refl e) | inr k ↦ inl k ]
  | inr j ↦ inr (old (is_last found s) j)
])
  where
    old : (x : Bool) → In p (map place_of found) → In p (map place_of (if x then found else found ++ s ∷ []))
    old true j = j
    old false j = let u = in_unmap place_of p found j in subst (λ z. In z (map place_of (found ++ s ∷ []))) u.2 (in_map place_of u.0 (found ++ s ∷ []) (in_left u.0 found (s ∷ []) u.1))

    last_is : (o : Option StatementInstance) → slice_get found (length found - 1) ≡ o → elim o [ None ↦ false | Some x ↦ same_statement s x ] ≡ true → p ≡ place_of s → In p (map place_of found)
    last_is None h g e = absurd (cc (g))
    last_is (Some x) h g e = subst (λ z. In z (map place_of found)) (sym (e ∙ same_place s x g)) (in_map place_of x found (got found (length found - 1) x h))

    new : (x : Bool) → is_last found s ≡ x → p ≡ place_of s → In p (map place_of (if x then found else found ++ s ∷ []))
    new true h e = last_is (slice_get found (length found - 1)) refl h e
    new false h e = subst (λ z. In z (map place_of (found ++ s ∷ []))) (sym e) (in_map place_of s (found ++ s ∷ []) (in_right s found (s ∷ []) (inl refl)))

in_once : (found ss : List StatementInstance) (p : Place) → In p (map place_of (each_once found ss)) → In p (map place_of ss) ⊎ In p (map place_of found)
in_once found [] p i = inr i
in_once found (s ∷ ss) p i = by (is_last found s) (in_once (if is_last found s then found else found ++ s ∷ []) ss p i)
  where
    by : (x : Bool) → In p (map place_of ss) ⊎ In p (map place_of (if x then found else found ++ s ∷ [])) → In p (map place_of (s ∷ ss)) ⊎ In p (map place_of found)
    by x (inl j) = inl (inr j)
    by true (inr j) = inr j
    by false (inr j) =
        let u = in_unmap place_of p (found ++ s ∷ []) j in
        elim (in_split u.0 found (s ∷ []) u.1) [
          | inl k ↦ inr (subst (λ z. In z (map place_of found)) u.2 (in_map place_of u.0 found k))
          | inr k ↦ elim k [ inl e ↦ inl (inl (sym u.2 ∙ ap place_of e)) | inr m ↦ absurd m ]
        ]

-- a sorted list
behind : (s : StatementInstance) (ss : List StatementInstance) → IsSortedBy statement_below (s ∷ ss) → IsSortedBy statement_below ss
behind s ss f = λ k d l h.
    let e : suc k + 1 ≡ suc (k + 1) = omega arith in
    subst (λ n. statement_below (slice_index_or (s ∷ ss) n d) (slice_index_or ss k d) ≡ false) e (f (suc k) d (omega arith) (omega arith))

none_earlier : (s : StatementInstance) (ss : List StatementInstance) → IsSortedBy statement_below (s ∷ ss) → (t : StatementInstance) → In t ss → statement_below t s ≡ false
none_earlier s [] f t i = absurd i
none_earlier s (u ∷ us) f t (inl e) = subst (λ z. statement_below z s ≡ false) (sym e) (f 0 s (omega arith) (omega arith))
none_earlier s (u ∷ us) f t (inr i) = before_order.chain t u s (none_earlier u us (behind s (u ∷ us) f) t i) (f 0 s (omega arith) (omega arith))

sorted_none : (ss : List StatementInstance) → IsSortedBy statement_below ss → NoneBefore ss
sorted_none [] f = tt
sorted_none (s ∷ ss) f = (none_earlier s ss f, sorted_none ss (behind s ss f))

text_order : (ss : List StatementInstance) → Ordered ss → InTextOrder ss
text_order [] r = tt
text_order (s ∷ ss) r = ((λ t i. text_before s t (r.0 t i)), text_order ss r.1)

-- all statements, in their order
module _ (ss sorted : List StatementInstance) (same : IsPermutation ss sorted) (order : IsSortedBy statement_below sorted) (all : List StatementInstance) (is : all ≡ each_once [] sorted) where
  pub listed_in_order : InTextOrder all
  listed_in_order = subst (λ z. InTextOrder z) (sym is) (text_order (each_once [] sorted) (once_ordered [] sorted tt (sorted_none sorted order) (λ t s i. absurd i)))

  pub listed_places : (p : Place) → In p (map place_of all) ↔ In p (map place_of ss)
  listed_places p = (
    λ i. elim (in_once [] sorted p (subst (λ z. In p (map place_of z)) is i)) [
      | inl j ↦ (let u = in_unmap place_of p sorted j in subst (λ z. In z (map place_of ss)) u.2 (in_map place_of u.0 ss (in_back ss sorted u.0 same u.1)))
      | inr j ↦ absurd j
    ],
    λ i.
        let u = in_unmap place_of p ss i in
        subst (λ z. In p (map place_of z)) (sym is) (once_in [] sorted p (inl (subst (λ z. In z (map place_of sorted)) u.2 (in_map place_of u.0 sorted (in_moved ss sorted u.0 same u.1))))),
  )
