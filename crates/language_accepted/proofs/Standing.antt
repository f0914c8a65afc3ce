-- What follows from a block being placed: where its names stand, and what its statements and the blocks inside it keep.
use Rattle.std.specs.Prelude.{◌≡◌, ◌⊎◌, ℕ, suc, ◌<◌, ◌≤◌, Bool, true, false, List, [], ◌∷◌, ◌++◌, refl}
use Rattle.std.proofs.Common.{inl, inr, sym, ap, ap₂, ◌∙◌, subst, arith}
use Rattle.language.specs.Core.{Owned, local, input, output, Name, here, Stmt, stmt, Action, declare, call_alone, assign, fill, insert, print, assert, when, choose, range, each, wait, Block, stmts}
use Rattle.language.specs.Members.{◌∈◌, first}
use Rattle.language.specs.Parts.{by_name, by_element}
use Rattle.language.specs.Scopes.{Visible, Scope, deeper, further, Signature}
use Rattle.language.proofs.Members.{split_in, to_left, to_right, either}
use Rattle.language.proofs.Tested.{has_in, in_has, declared_of}
use Rattle.language_laws.proofs.TestedNames.{used, used_in, used_below, lowered, declares, declared_by, declared_in}
use Rattle.language_accepted.proofs.Placed.{Sees, Fits, IsPlain, Loops, over_range, over_each, LoopSees, Placed, placed_end, placed_declaration, placed_plain, placed_when, placed_choose, placed_loop, placed_wait}
use Rattle.language_accepted.proofs.Placing.{deeper_of}
use Rattle.language_accepted.proofs.Given.{of_lowered, of_undeclared}

-- NAMES

-- a name of a block is visible at its beginning, or the block declares it
abbrev pub Stood : Scope → Block → Name → Type 0
Stood g b x = Sees g x ⊎ ((x.up ≡ 0) × (declares b x.what ≡ true))

pub declares_more : (s : Stmt) (b : Block) (what : Owned) → declares b what ≡ true → declares (stmts s b) what ≡ true
declares_more s b (local n) h = has_in (to_right (declared_by s) (declared_in b) (in_has n (declared_in b) h))
declares_more s b (input i) h = absurd (cc (h))
declares_more s b (output j) h = absurd (cc (h))

pub declares_first : (at n v : ℕ) (b : Block) → declares (stmts (stmt at n (declare v)) b) (local v) ≡ true
declares_first at n v b = has_in (to_left (v ∷ []) (declared_in b) first)

stood_more : {g : Scope} (b : Block) (x : Name) (s : Stmt) → Stood g b x → Stood g (stmts s b) x
stood_more b x s h = elim h [ inl i ↦ inl i | inr r ↦ inr (r.0, declares_more s b x.what r.1) ]

-- names of an inner block, as seen from the one round it
lowered_seen : (g : Scope) (x : Name) (d : Block) → Stood (deeper g) d (record { up = suc x.up; what = x.what }) → Sees g x
lowered_seen g x d h = elim h [
  | inl s ↦ (let r = deeper_of g s.variable s.visible in record { variable = r.0; visible = r.1; is = unfurther x r.0.refers_to (s.is ∙ r.2) })
  | inr r ↦ absurd (no_zero x.up r.0)
]
  where
    unfurther : (x y : Name) → further x ≡ further y → x ≡ y
    unfurther x y e =
        let u : suc x.up ≡ suc y.up = ap (λ (z : Name). z.up) e in
        let a : x.up ≡ y.up = omega arith in
        let b : x.what ≡ y.what = ap (λ (z : Name). z.what) e in
        ap₂ (λ (i : ℕ) (o : Owned). record { up = i; what = o }) a b

    no_zero : (n : ℕ) → suc n ≡ 0 → ⊥
    no_zero n e = absurd (omega arith)

loop_seen : (g h : Scope) (a : Action) (to : ℕ) (x : Name) (d : Block) → LoopSees g a to h → Stood h d (record { up = suc x.up; what = x.what }) → Sees g x
loop_seen g h a to x d l st = elim st [
  | inl s ↦ elim (l s.variable s.visible) [
    | inl i ↦ lowered_seen g x d (inl (record { variable = s.variable; visible = i; is = s.is }))
    | inr r ↦ absurd (no_zero x.up (ap (λ (z : Name). z.up) (s.is ∙ r.is)))
  ]
  | inr r ↦ absurd (no_zero x.up r.0)
]
  where
    no_zero : (n : ℕ) → suc n ≡ 0 → ⊥
    no_zero n e = absurd (omega arith)

no_truth : {A : Type 0} {b : Bool} → b ≡ true → b ≡ false → A
no_truth h k = absurd (cc (h, k))

plain_below : (a : Action) → IsPlain a → used_below a ≡ []
plain_below (declare v) h = absurd h
plain_below (call_alone p ps c) h = refl
plain_below (assign x e) h = refl
plain_below (fill a e) h = refl
plain_below (insert a k e) h = refl
plain_below (print p e) h = refl
plain_below (assert p e) h = refl
plain_below (when c b) h = absurd h
plain_below (choose c b d) h = absurd h
plain_below (range lo hi st v t b) h = absurd h
plain_below (each a v t b) h = absurd h
plain_below (wait ns b) h = absurd h

loop_below : {a : Action} {d : Block} → Loops a d → used_below a ≡ lowered (used d)
loop_below over_range = refl
loop_below over_each = refl

module _ (fs : List Signature) (k : ℕ) where
  -- the names of a statement and of the blocks inside it, those of the rest, and what the rest is in
  front : {g : Scope} (at n : ℕ) (a : Action) (b : Block) {x : Name} → Fits fs k g a → (x ∈ used_below a → Sees g x) → (x ∈ used b → Stood g b x)
      → x ∈ used (stmts (stmt at n a) b) → Stood g (stmts (stmt at n a) b) x
  front at n a b {x} f inner rest m = elim (either (used_in (stmt at n a)) (used b) m) [
    | inl i ↦ elim (either (by_name a) (by_element a ++ used_below a) i) [
      | inl j ↦ inl (f.named x j)
      | inr j ↦ elim (either (by_element a) (used_below a) j) [ inl l ↦ inl (f.written x l) | inr l ↦ inl (inner l) ]
    ]
    | inr i ↦ stood_more b x (stmt at n a) (rest i)
  ]

  none_below : {g : Scope} {x : Name} (a : Action) → used_below a ≡ [] → x ∈ used_below a → Sees g x
  none_below {x = x} a e m = let i : x ∈ [] = subst (λ (z : List Name). x ∈ z) e m in elim i [ ]

  pub used_stands : {g : Scope} {from to : ℕ} {b : Block} {x : Name} → Placed fs k g from b to → x ∈ used b → Stood g b x
  used_stands (placed_end e) m = elim m [ ]
  used_stands {g} {x = x} (placed_declaration {v = v} {at = at} {n = n} {w = w} {b = b} f e l p) m =
      elim (used_stands p m) [
        | inl s ↦ elim (split_in s.visible) [
          | inl q ↦ (let same : x ≡ here v = s.is ∙ (ap (λ (z : Visible). z.refers_to) q ∙ e) in
              inr (ap (λ (z : Name). z.up) same, subst (λ (z : Owned). declares (stmts (stmt at n (declare v)) b) z ≡ true) (sym (ap (λ (z : Name). z.what) same)) (declares_first at n v b)))
          | inr i ↦ inl (record { variable = s.variable; visible = i; is = s.is })
        ]
        | inr r ↦ inr (r.0, declares_more (stmt at n (declare v)) b x.what r.1)
      ]
  used_stands {g} (placed_plain {at = at} {n = n} {a = a} {b = b} h f l p) m = front at n a b f (none_below a (plain_below a h)) (λ i. used_stands p i) m
  used_stands {g} {x = x} (placed_when {at = at} {n = n} {c = c} {d = d} {b = b} f l p e q) m =
      front at n (when c d) b f (λ i. lowered_seen g x d (used_stands p (of_lowered (used d) i))) (λ i. used_stands q i) m
  used_stands {g} {x = x} (placed_choose {at = at} {n = n} {c = c} {d = d} {e = o} {b = b} f l p r e q) m =
      front at n (choose c d o) b f (λ i. elim (either (lowered (used d)) (lowered (used o)) i) [
        | inl j ↦ lowered_seen g x d (used_stands p (of_lowered (used d) j))
        | inr j ↦ lowered_seen g x o (used_stands r (of_lowered (used o) j))
      ]) (λ i. used_stands q i) m
  used_stands {g} {x = x} (placed_loop {h = h} {m = o} {at = at} {n = n} {a = a} {d = d} {b = b} i f s l p e q) m =
      front at n a b f (λ j. loop_seen g h a o x d s (used_stands p (of_lowered (used d) (subst (λ (z : List Name). x ∈ z) (loop_below i) j)))) (λ j. used_stands q j) m
  used_stands {g} {x = x} (placed_wait {at = at} {n = n} {ns = ns} {d = d} {b = b} f l p e q) m =
      front at n (wait ns d) b f (λ i. (let r = of_undeclared d (used d) i in elim (used_stands p r.0) [ inl s ↦ s | inr t ↦ no_truth t.1 r.1 ])) (λ i. used_stands q i) m

  -- NUMBERS

  pub rises : {g : Scope} {from to : ℕ} {b : Block} → Placed fs k g from b to → from ≤ to
  rises (placed_end e) = e
  rises (placed_declaration f e l p) = let r = rises p in omega arith
  rises (placed_plain h f l p) = let r = rises p in omega arith
  rises (placed_when f l p e q) = let r = rises p in let u = rises q in omega arith
  rises (placed_choose f l p r e q) = let u = rises p in let v = rises r in let w = rises q in omega arith
  rises (placed_loop i f s l p e q) = let r = rises p in let u = rises q in omega arith
  rises (placed_wait f l p e q) = let r = rises p in let u = rises q in omega arith

  plain_declared : (a : Action) → IsPlain a → declared_of a ≡ []
  plain_declared (declare v) h = absurd h
  plain_declared (call_alone p ps c) h = refl
  plain_declared (assign x e) h = refl
  plain_declared (fill a e) h = refl
  plain_declared (insert a k e) h = refl
  plain_declared (print p e) h = refl
  plain_declared (assert p e) h = refl
  plain_declared (when c b) h = refl
  plain_declared (choose c b d) h = refl
  plain_declared (range lo hi st v t b) h = refl
  plain_declared (each a v t b) h = refl
  plain_declared (wait ns b) h = refl

  loop_declared : {a : Action} {d : Block} → Loops a d → declared_of a ≡ []
  loop_declared over_range = refl
  loop_declared over_each = refl

  skip : (b : Block) {o : ℕ} (at n : ℕ) (a : Action) → declared_of a ≡ [] → o ∈ declared_in (stmts (stmt at n a) b) → o ∈ declared_in b
  skip b {o} at n a e m = elim (either (declared_of a) (declared_in b) m) [
    | inl i ↦ (let j : o ∈ [] = subst (λ (z : List ℕ). o ∈ z) e i in elim j [ ])
    | inr i ↦ i
  ]

  -- what a block declares has numbers from its first on
  pub declared_from : {g : Scope} {from to o : ℕ} {b : Block} → Placed fs k g from b to → o ∈ declared_in b → from ≤ o
  declared_from (placed_end e) m = elim m [ ]
  declared_from (placed_declaration {v = v} {b = b} f e l p) m = elim (either (v ∷ []) (declared_in b) m) [
    | inl i ↦ elim (split_in i) [ inl q ↦ omega arith | inr j ↦ elim j [ ] ]
    | inr i ↦ (let r = declared_from p i in omega arith)
  ]
  declared_from (placed_plain {at = at} {n = n} {a = a} {b = b} h f l p) m = let r = declared_from p (skip b at n a (plain_declared a h) m) in omega arith
  declared_from (placed_when {at = at} {n = n} {c = c} {d = d} {b = b} f l p e q) m = let r = declared_from q (skip b at n (when c d) refl m) in let u = rises p in omega arith
  declared_from (placed_choose {at = at} {n = n} {c = c} {d = d} {e = o} {b = b} f l p w e q) m = let r = declared_from q (skip b at n (choose c d o) refl m) in let u = rises p in let v = rises w in omega arith
  declared_from (placed_loop {at = at} {n = n} {a = a} {b = b} i f s l p e q) m = let r = declared_from q (skip b at n a (loop_declared i) m) in let u = rises p in omega arith
  declared_from (placed_wait {at = at} {n = n} {ns = ns} {d = d} {b = b} f l p e q) m = let r = declared_from q (skip b at n (wait ns d) refl m) in let u = rises p in omega arith

  -- the variables of a scope have numbers below this one
  abbrev pub Below : ℕ → Scope → Type 0
  Below n g = (v : Visible) (m : ℕ) → v ∈ g → v.refers_to.what ≡ local m → m < n

  -- what a block declares is visible in it from there on alone: a name that is visible before it is another
  pub declared_here : {g : Scope} {from to : ℕ} {b : Block} {x : Name} → Placed fs k g from b to → Below from g → x ∈ used b → declares b x.what ≡ true → x.up ≡ 0
  declared_here {g} {from} {to} {b} {x} p below m h = elim (used_stands p m) [
    | inl s ↦ absurd (apart x.what refl h s)
    | inr r ↦ r.0
  ]
    where
      apart : (what : Owned) → x.what ≡ what → declares b what ≡ true → Sees g x → ⊥
      apart (local n) e h s =
          let l = below s.variable n s.visible (ap (λ (z : Name). z.what) (sym s.is) ∙ e) in
          let u = declared_from p (in_has n (declared_in b) h) in
          absurd (omega arith)
      apart (input i) e h s = absurd (cc (h))
      apart (output j) e h s = absurd (cc (h))
