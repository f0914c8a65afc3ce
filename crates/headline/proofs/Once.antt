-- Lists of bodies and of loops in which none stands twice.
use Rattle.std.proofs.Common.{◌≡◌, ◌⊎◌, inl, inr, ℕ, zero, suc, ◌≤◌, arith, List, [], ◌∷◌, map, refl, sym, ap, subst}
use Rattle.dataflow.specs.System.{Distinct, In}
use Rattle.task_code.specs.Count.{rest_from, rests_of}
use Rattle.task_code.specs.Effects.{Task, Item}
use Rattle.task_code.specs.Places.{Step}
use Rattle.task_code.proofs.Equal.{task_is}
use Rattle.headline.specs.Live.{loop_at}

abbrev pub Instance : Type 0
Instance = ℕ × List Step

abbrev pub Looped : Type 0
Looped = ℕ × List Step × ℕ

pub item_parts : {i j c d : ℕ} {p q : List Step} → Item i p c ≡ Item j q d → (i ≡ j) × (p ≡ q) × (c ≡ d)
item_parts h = (cc (h), cc (h), cc (h))

-- two of them can be told apart
instance_is : (x y : Instance) → (x ≡ y) ⊎ (x ≡ y → ⊥)
instance_is x y = elim (task_is (Item x.0 x.1 0) (Item y.0 y.1 0)) [
  | inl e ↦ inl (let r = item_parts e in λ k. (r.0 k, r.1 k))
  | inr n ↦ inr (λ e. n (ap (λ (z : Instance). Item z.0 z.1 0) e))
]

pub among : (x : Instance) (xs : List Instance) → In x xs ⊎ (In x xs → ⊥)
among x [] = inr (λ h. h)
among x (y ∷ ys) = by (instance_is x y) (among x ys)
  where
    by : ((x ≡ y) ⊎ (x ≡ y → ⊥)) → (In x ys ⊎ (In x ys → ⊥)) → In x (y ∷ ys) ⊎ (In x (y ∷ ys) → ⊥)
    by (inl e) r = inl (inl e)
    by (inr n) (inl i) = inl (inr i)
    by (inr n) (inr m) = inr (λ h. elim h [ inl e ↦ n e | inr i ↦ m i ])

-- THE RESTS OF LOOPS

abbrev pub rest_items : Looped → List Task
rest_items l = rest_from l.0 l.1 (rests_of l.2)

-- it is of the rest of one of these loops
pub record IsRest (u : Task) (ls : List Looped) : Type 0 where
  pub loop : Looped
  pub there : In loop ls
  pub of_it : In u (rest_items loop)

last_or : (c k : ℕ) → suc c ≤ suc k → (c ≡ k) ⊎ (suc c ≤ k)
last_or c k h = grind arith

pub in_rests : (i : ℕ) (p : List Step) (c k : ℕ) → suc c ≤ k → In (Item i p (suc c)) (rest_from i p k)
in_rests i p c zero h = absurd (omega arith)
in_rests i p c (suc k) h = elim (last_or c k h) [ inl e ↦ inl (ap (λ (n : ℕ). Item i p (suc n)) e) | inr l ↦ inr (in_rests i p c k l) ]

rest_grows : (i : ℕ) (p : List Step) (k n : ℕ) → k ≤ n → (u : Task) → In u (rest_from i p k) → In u (rest_from i p n)
rest_grows i p zero n h u m = absurd m
rest_grows i p (suc k) n h u (inl e) = subst (λ (x : Task). In x (rest_from i p n)) (sym e) (in_rests i p k n h)
rest_grows i p (suc k) n h u (inr m) = rest_grows i p k n (omega arith) u m

-- of two loops at one place the one with more turns has the rest of the other
longer : (x y : Looped) → loop_at x ≡ loop_at y → rests_of x.2 ≤ rests_of y.2 → (u : Task) → In u (rest_items x) → In u (rest_items y)
longer x y e h u m = subst (λ (k : Instance). In u (rest_from k.0 k.1 (rests_of y.2))) e (rest_grows x.0 x.1 (rests_of x.2) (rests_of y.2) h u m)

one_is_more : (a b : ℕ) → (a ≤ b) ⊎ (b ≤ a)
one_is_more a b = grind arith

-- the list with one more loop, or with the longer one of two at one place
pub record Put (x : Looped) (ls : List Looped) : Type 0 where
  pub after : List Looped
  pub from : (y : Looped) → In y after → (y ≡ x) ⊎ In y ls
  pub has : (u : Task) → In u (rest_items x) → IsRest u after
  pub keeps : (u : Task) → IsRest u ls → IsRest u after
  pub places : (k : Instance) → In k (map loop_at after) → (k ≡ loop_at x) ⊎ In k (map loop_at ls)
  pub once : Distinct (map loop_at ls) → Distinct (map loop_at after)

pub put : (x : Looped) (ls : List Looped) → Put x ls
put x [] = record {
  after = x ∷ [];
  from = λ y h. elim h [ inl e ↦ inl e | inr z ↦ absurd z ];
  has = λ u h. record { loop = x; there = inl refl; of_it = h };
  keeps = λ u h. absurd h.there;
  places = λ k h. elim h [ inl e ↦ inl e | inr z ↦ absurd z ];
  once = λ d. (λ h. h, tt);
}
put x (y ∷ ys) = by (instance_is (loop_at x) (loop_at y)) (one_is_more (rests_of x.2) (rests_of y.2)) (put x ys)
  where
    by : ((loop_at x ≡ loop_at y) ⊎ (loop_at x ≡ loop_at y → ⊥)) → ((rests_of x.2 ≤ rests_of y.2) ⊎ (rests_of y.2 ≤ rests_of x.2)) → Put x ys → Put x (y ∷ ys)
    by (inl e) (inl h) r = record {
      after = y ∷ ys;
      from = λ z m. inr m;
      has = λ u m. record { loop = y; there = inl refl; of_it = longer x y e h u m };
      keeps = λ u m. m;
      places = λ k m. inr m;
      once = λ d. d;
    }
    by (inl e) (inr h) r = record {
      after = x ∷ ys;
      from = λ z m. elim m [ inl q ↦ inl q | inr i ↦ inr (inr i) ];
      has = λ u m. record { loop = x; there = inl refl; of_it = m };
      keeps = λ u m. kept u m m.there;
      places = λ k m. elim m [ inl q ↦ inl q | inr i ↦ inr (inr i) ];
      once = λ d. (λ m. d.0 (subst (λ (k : Instance). In k (map loop_at ys)) e m), d.1);
    }
      where
        kept : (u : Task) (m : IsRest u (y ∷ ys)) → In m.loop (y ∷ ys) → IsRest u (x ∷ ys)
        kept u m (inl q) = record { loop = x; there = inl refl; of_it = longer y x (sym e) h u (subst (λ (l : Looped). In u (rest_items l)) q m.of_it) }
        kept u m (inr i) = record { loop = m.loop; there = inr i; of_it = m.of_it }
    by (inr n) h r = record {
      after = y ∷ r.after;
      from = λ z m. elim m [ inl q ↦ inr (inl q) | inr i ↦ elim (r.from z i) [ inl q ↦ inl q | inr j ↦ inr (inr j) ] ];
      has = λ u m. (let g = r.has u m in record { loop = g.loop; there = inr g.there; of_it = g.of_it });
      keeps = λ u m. kept u m m.there;
      places = λ k m. elim m [ inl q ↦ inr (inl q) | inr i ↦ elim (r.places k i) [ inl q ↦ inl q | inr j ↦ inr (inr j) ] ];
      once = λ d. (λ m. elim (r.places (loop_at y) m) [ inl q ↦ n (sym q) | inr j ↦ d.0 j ], r.once d.1);
    }
      where
        kept : (u : Task) (m : IsRest u (y ∷ ys)) → In m.loop (y ∷ ys) → IsRest u (y ∷ r.after)
        kept u m (inl q) = record { loop = m.loop; there = inl q; of_it = m.of_it }
        kept u m (inr i) =
            let g = r.keeps u (record { loop = m.loop; there = i; of_it = m.of_it }) in
            record { loop = g.loop; there = inr g.there; of_it = g.of_it }
