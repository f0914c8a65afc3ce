-- Where the uses of a variable stand: in the block that declares it.
use Rattle.std.specs.Prelude.{◌≡◌, ◌⊎◌, ℕ, suc, ◌≤◌, Bool, true, false, List, ◌∷◌, refl}
use Rattle.std.proofs.Common.{inl, inr, sym, ap, ◌∙◌, subst, arith}
use Rattle.std.proofs.lemmas.Bool.{ltb-true, ltb-false, lt-ltb, le-ltb}
use Rattle.lexer.specs.declared.token.Span.{Span}
use Rattle.language.specs.declared.tree.Keys.{Keys}
use Rattle.language.specs.declared.tree.Shape.{Shape}
use Rattle.language.specs.declared.tree.Shape.TheVariants.{Array}
use Rattle.language.specs.Core.{Owned, local, input, output}
use Rattle.language.specs.Members.{◌∈◌, first, later}
use Rattle.language.proofs.Members.{split_in, either}
use Rattle.assign_check.specs.Outline.{read, Use, Declared, Outline, nothing, followed, Step, declares, uses, splits, repeats, encloses}
use Rattle.assign_check.specs.Faults.{is_before, uses_in, uses_at}
use Rattle.assign_check.specs.Through.{HasStep, first_step, later_step, BlockIn, the_block, in_a_step, BlockOf, in_first, in_other, in_loop, in_wait}
use Rattle.assign_check.proofs.outlines.Scoped.{Seen, Sees, seen, Scoped, scoped_end, scoped_declaration, scoped_use, scoped_split, scoped_loop, scoped_wait, IsLocal, ScopedBody, behind_parameters, a_parameter}

-- NUMBERS

pub before_up : (x : Owned) (m n : ℕ) → is_before m x ≡ true → m ≤ n → is_before n x ≡ true
before_up (local k) m n h le = let less = ltb-true k m h in lt-ltb k n (omega arith)
before_up (input k) m n h le = refl
before_up (output k) m n h le = refl

pub not_before : (x : Owned) (m n : ℕ) → is_before n x ≡ false → m ≤ n → is_before m x ≡ false
not_before (local k) m n h le = let less = ltb-false k n h in le-ltb k m (omega arith)
not_before (input k) m n h le = absurd (cc (h))
not_before (output k) m n h le = absurd (cc (h))

pub apart_by : {x y : Owned} (n : ℕ) → is_before n x ≡ true → is_before n y ≡ false → x ≡ y → ⊥
apart_by {x} {y} n h k e = let both : true ≡ false = sym h ∙ ap (is_before n) e ∙ k in absurd (cc (both))

-- VISIBLE VARIABLES

pub record Among (x : Owned) (vs : List Seen) : Type 0 where
  pub variable : Seen
  pub visible : variable ∈ vs
  pub is : variable.what ≡ x

abbrev pub Apart : Owned → List Seen → Type 0
Apart x vs = Among x vs → ⊥

-- all are declared before the statement of a number
abbrev pub AllBefore : ℕ → List Seen → Type 0
AllBefore n vs = (v : Seen) → v ∈ vs → is_before n v.what ≡ true

pub all_up : {vs : List Seen} (m n : ℕ) → AllBefore m vs → m ≤ n → AllBefore n vs
all_up m n all le v i = before_up v.what m n (all v i) le

pub among_before : {x : Owned} {vs : List Seen} (n : ℕ) → AllBefore n vs → Among x vs → is_before n x ≡ true
among_before n all a = subst (λ (z : Owned). is_before n z ≡ true) a.is (all a.variable a.visible)

pub among_more : {x : Owned} {vs : List Seen} {v : Seen} → Among x vs → Among x (v ∷ vs)
among_more a = record { variable = a.variable; visible = later a.visible; is = a.is }

pub among_first : {x : Owned} {vs : List Seen} {v : Seen} → v.what ≡ x → Among x (v ∷ vs)
among_first {v = v} e = record { variable = v; visible = first; is = e }

pub among_rest : {x : Owned} {vs : List Seen} {v : Seen} → Among x (v ∷ vs) → (v.what ≡ x) ⊎ Among x vs
among_rest {v = v} a = elim (split_in a.visible) [
  | inl e ↦ inl (ap (λ (z : Seen). z.what) (sym e) ∙ a.is)
  | inr i ↦ inr (record { variable = a.variable; visible = i; is = a.is })
]

-- SCOPED BLOCKS, BY STEPS

mutual
  -- a block behind variables and a number, up to a number
  pub data Placed : List Seen → ℕ → Outline → ℕ → Type 0 where
    placed_end : {vs : List Seen} {from to : ℕ} → from ≤ to → Placed vs from nothing to
    placed_on : {vs ws : List Seen} {from k to : ℕ} {s : Step} {o : Outline} → StepPlaced vs from s ws k → Placed ws k o to → Placed vs from (followed s o) to

  -- a step, with the variables that are visible behind it, and the number there
  pub data StepPlaced : List Seen → ℕ → Step → List Seen → ℕ → Type 0 where
    placed_declaration : {vs : List Seen} {from k : ℕ} {d : Declared} → is_before from d.what ≡ false → is_before k d.what ≡ true → from ≤ k → Apart d.what vs
        → StepPlaced vs from (declares d) (seen d ∷ vs) k
    placed_use : {vs : List Seen} {from : ℕ} {u : Use} → Sees vs u → is_before from u.of ≡ true → StepPlaced vs from (uses u) vs from
    placed_split : {vs : List Seen} {from n m k : ℕ} {at : Span} {p q : Outline} → from ≤ n → AllBefore n vs → Placed vs (suc n) p m → Placed vs m q k
        → StepPlaced vs from (splits n at p q) vs k
    placed_loop : {vs : List Seen} {from n k : ℕ} {p : Outline} → from ≤ n → AllBefore n vs → Placed vs (suc n) p k → StepPlaced vs from (repeats n p) vs k
    placed_wait : {vs : List Seen} {from k : ℕ} {p : Outline} → AllBefore from vs → Placed vs from p k → StepPlaced vs from (encloses p) vs k

pub scoped_rises : {vs : List Seen} {from to : ℕ} {o : Outline} → Scoped vs from o to → from ≤ to
scoped_rises (scoped_end le) = le
scoped_rises (scoped_declaration e r le s) = let a = scoped_rises s in omega arith
scoped_rises (scoped_use h s) = scoped_rises s
scoped_rises (scoped_split le p q s) = let a = scoped_rises p in let b = scoped_rises q in let c = scoped_rises s in omega arith
scoped_rises (scoped_loop le p s) = let a = scoped_rises p in let c = scoped_rises s in omega arith
scoped_rises (scoped_wait p s) = let a = scoped_rises p in let c = scoped_rises s in omega arith

sees_before : {vs : List Seen} {u : Use} (n : ℕ) → AllBefore n vs → Sees vs u → is_before n u.of ≡ true
sees_before n all h = among_before n all (record { variable = h.variable; visible = h.visible; is = h.is })

all_behind : {vs : List Seen} (from n : ℕ) (d : Declared) → AllBefore from vs → d.what ≡ local n → from ≤ n → AllBefore (suc n) (seen d ∷ vs)
all_behind from n d all e le v i = elim (split_in i) [
  | inl q ↦ subst (λ (z : Owned). is_before (suc n) z ≡ true) (sym e ∙ sym (ap (λ (z : Seen). z.what) q)) (lt-ltb n (suc n) (omega arith))
  | inr j ↦ before_up v.what from (suc n) (all v j) (omega arith)
]

pub placed : {vs : List Seen} {from to : ℕ} {o : Outline} → AllBefore from vs → Scoped vs from o to → Placed vs from o to
placed all (scoped_end le) = placed_end le
placed all (scoped_declaration {from = from} {n = n} {d = d} e r le s) =
    let behind : is_before from d.what ≡ false = subst (λ (z : Owned). is_before from z ≡ false) (sym e) (le-ltb n from le) in
    let ahead : is_before (suc n) d.what ≡ true = subst (λ (z : Owned). is_before (suc n) z ≡ true) (sym e) (lt-ltb n (suc n) (omega arith)) in
    placed_on (placed_declaration behind ahead (omega arith) (λ a. apart_by from (among_before from all a) behind refl)) (placed (all_behind from n d all e le) s)
placed all (scoped_use {from = from} h s) = placed_on (placed_use h (sees_before from all h)) (placed all s)
placed all (scoped_split {from = from} {n = n} {m = m} {k = k} le p q s) =
    let a = scoped_rises p in
    let b = scoped_rises q in
    placed_on (placed_split le (all_up from n all le) (placed (all_up from (suc n) all (omega arith)) p) (placed (all_up from m all (omega arith)) q)) (placed (all_up from k all (omega arith)) s)
placed all (scoped_loop {from = from} {n = n} {m = m} le p s) =
    let a = scoped_rises p in
    placed_on (placed_loop le (all_up from n all le) (placed (all_up from (suc n) all (omega arith)) p)) (placed (all_up from m all (omega arith)) s)
placed all (scoped_wait {from = from} {m = m} p s) =
    let a = scoped_rises p in
    placed_on (placed_wait all (placed all p)) (placed (all_up from m all a) s)

mutual
  pub rises : {vs : List Seen} {from to : ℕ} {o : Outline} → Placed vs from o to → from ≤ to
  rises (placed_end le) = le
  rises (placed_on s o) = let a = step_rises s in let b = rises o in omega arith

  pub step_rises : {vs ws : List Seen} {from k : ℕ} {s : Step} → StepPlaced vs from s ws k → from ≤ k
  step_rises (placed_declaration h g le a) = le
  step_rises (placed_use h g) = omega arith
  step_rises (placed_split le all p q) = let a = rises p in let b = rises q in omega arith
  step_rises (placed_loop le all p) = let a = rises p in omega arith
  step_rises (placed_wait all p) = rises p

-- what is visible stays so
pub among_on : {vs ws : List Seen} {from k : ℕ} {s : Step} {x : Owned} → StepPlaced vs from s ws k → Among x vs → Among x ws
among_on (placed_declaration h g le n) a = among_more a
among_on (placed_use h g) a = a
among_on (placed_split le all p q) a = a
among_on (placed_loop le all p) a = a
among_on (placed_wait all p) a = a

-- USES

-- a variable is visible, or its number is in a range
abbrev pub Stands : List Seen → ℕ → ℕ → Owned → Type 0
Stands vs from to x = (Among x vs × (is_before from x ≡ true)) ⊎ ((is_before from x ≡ false) × (is_before to x ≡ true))

settle : {vs : List Seen} (x : Owned) (from to : ℕ) → Among x vs → is_before to x ≡ true → Stands vs from to x
settle {vs} x from to a h = by (is_before from x) refl
  where
    by : (b : Bool) → is_before from x ≡ b → Stands vs from to x
    by true e = inl (a, e)
    by false e = inr (e, h)

pub stand_up : {vs : List Seen} (x : Owned) (from a b to : ℕ) → Stands vs a b x → from ≤ a → a ≤ to → b ≤ to → Stands vs from to x
stand_up x from a b to (inl h) le more most = settle x from to h.0 (before_up x a to h.1 more)
stand_up x from a b to (inr h) le more most = inr (not_before x from a h.0 le, before_up x b to h.1 most)

pub stand_before : {vs : List Seen} (x : Owned) (from to : ℕ) → Stands vs from to x → from ≤ to → is_before to x ≡ true
stand_before x from to (inl h) le = before_up x from to h.1 le
stand_before x from to (inr h) le = h.1

pub stand_among : {vs : List Seen} (x : Owned) (from to : ℕ) → Stands vs from to x → is_before from x ≡ true → Among x vs
stand_among x from to (inl h) e = h.0
stand_among x from to (inr h) e = absurd (apart_by {x = x} {y = x} from e h.0 refl)

pub stand_behind : {vs ws : List Seen} {from k to : ℕ} {s : Step} (x : Owned) → StepPlaced vs from s ws k → k ≤ to → Stands ws k to x → Stands vs from to x
stand_behind {vs = vs} {from = from} {k = k} {to = to} x (placed_declaration {d = d} h g le n) more st = by st
  where
    by : Stands (seen d ∷ vs) k to x → Stands vs from to x
    by (inl i) = elim (among_rest i.0) [
      | inl e ↦ inr (subst (λ (z : Owned). is_before from z ≡ false) e h, before_up x k to i.1 more)
      | inr a ↦ settle x from to a (before_up x k to i.1 more)
    ]
    by (inr i) = inr (not_before x from k i.0 le, i.1)
stand_behind {to = to} x (placed_use {from = from} h g) more st = st
stand_behind {from = from} {k = k} {to = to} x (placed_split le all p q) more st = let a = rises p in let b = rises q in stand_up x from k to to st (omega arith) more (omega arith)
stand_behind {from = from} {k = k} {to = to} x (placed_loop le all p) more st = let a = rises p in stand_up x from k to to st (omega arith) more (omega arith)
stand_behind {from = from} {k = k} {to = to} x (placed_wait all p) more st = stand_up x from k to to st (rises p) more (omega arith)

mutual
  pub use_stands : {vs : List Seen} {from to : ℕ} {o : Outline} {u : Use} → Placed vs from o to → u ∈ uses_in o → Stands vs from to u.of
  use_stands (placed_end le) i = elim i [ ]
  use_stands {to = to} {u = u} (placed_on {from = from} {k = k} {s = s} {o = o} ps po) i = elim (either (uses_at s) (uses_in o) i) [
    | inl j ↦ (let a = step_rises ps in let b = rises po in stand_up u.of from from k to (step_use_stands ps j) (omega arith) (omega arith) b)
    | inr j ↦ stand_behind u.of ps (rises po) (use_stands po j)
  ]

  pub step_use_stands : {vs ws : List Seen} {from k : ℕ} {s : Step} {u : Use} → StepPlaced vs from s ws k → u ∈ uses_at s → Stands vs from k u.of
  step_use_stands (placed_declaration h g le n) i = elim i [ ]
  step_use_stands {u = u} (placed_use {vs = vs} {from = from} {u = y} h g) i = elim (split_in i) [
    | inl e ↦ subst (λ (z : Use). Stands vs from from z.of) (sym e) (inl (record { variable = h.variable; visible = h.visible; is = h.is }, g))
    | inr j ↦ elim j [ ]
  ]
  step_use_stands {u = u} (placed_split {from = from} {n = n} {m = m} {k = k} {p = p} {q = q} le all pp pq) i =
      let a = rises pp in
      let b = rises pq in
      elim (either (uses_in p) (uses_in q) i) [
        | inl j ↦ stand_up u.of from (suc n) m k (use_stands pp j) (omega arith) (omega arith) b
        | inr j ↦ stand_up u.of from m k k (use_stands pq j) (omega arith) b (omega arith)
      ]
  step_use_stands {u = u} (placed_loop {from = from} {n = n} {k = k} le all p) i = let a = rises p in stand_up u.of from (suc n) k k (use_stands p i) (omega arith) a (omega arith)
  step_use_stands (placed_wait all p) i = use_stands p i

-- what is used in a step is declared before the next
pub step_apart : {vs ws : List Seen} {from k : ℕ} {s : Step} {u : Use} {x : Owned} → StepPlaced vs from s ws k → is_before k x ≡ false → u ∈ uses_at s → u.of ≡ x → ⊥
step_apart {from = from} {k = k} {u = u} ps h i e = apart_by k (stand_before u.of from k (step_use_stands ps i) (step_rises ps)) h e

-- DECLARATIONS

pub nothing_in : {s : Step} {b : Outline} → BlockIn b nothing → HasStep s b → ⊥
nothing_in the_block h = elim h [ ]
nothing_in (in_a_step i j) h = elim i [ ]

mutual
  pub declared_range : {vs : List Seen} {from to : ℕ} {o b : Outline} {d : Declared} → Placed vs from o to → BlockIn b o → HasStep (declares d) b
      → (is_before from d.what ≡ false) × (is_before to d.what ≡ true)
  declared_range (placed_end le) j i = absurd (nothing_in j i)
  declared_range {to = to} {d = d} (placed_on (placed_declaration {k = k} h g le a) po) the_block first_step = (h, before_up d.what k to g (rises po))
  declared_range {from = from} {d = d} (placed_on {k = k} ps po) the_block (later_step i) = let r = declared_range po the_block i in (not_before d.what from k r.0 (step_rises ps), r.1)
  declared_range {to = to} {d = d} (placed_on {k = k} ps po) (in_a_step first_step j) i = let r = step_declared_range ps j i in (r.0, before_up d.what k to r.1 (rises po))
  declared_range {from = from} {d = d} (placed_on {k = k} ps po) (in_a_step (later_step l) j) i =
      let r = declared_range po (in_a_step l j) i in (not_before d.what from k r.0 (step_rises ps), r.1)

  pub step_declared_range : {vs ws : List Seen} {from k : ℕ} {s : Step} {b : Outline} {d : Declared} → StepPlaced vs from s ws k → BlockOf b s → HasStep (declares d) b
      → (is_before from d.what ≡ false) × (is_before k d.what ≡ true)
  step_declared_range (placed_declaration h g le a) j i = elim j [ ]
  step_declared_range (placed_use h g) j i = elim j [ ]
  step_declared_range {from = from} {k = k} {d = d} (placed_split {n = n} {m = m} le all p q) (in_first j) i =
      let r = declared_range p j i in (not_before d.what from (suc n) r.0 (omega arith), before_up d.what m k r.1 (rises q))
  step_declared_range {from = from} {d = d} (placed_split {n = n} {m = m} le all p q) (in_other j) i =
      let r = declared_range q j i in let a = rises p in (not_before d.what from m r.0 (omega arith), r.1)
  step_declared_range {from = from} {d = d} (placed_loop {n = n} le all p) (in_loop j) i = let r = declared_range p j i in (not_before d.what from (suc n) r.0 (omega arith), r.1)
  step_declared_range (placed_wait all p) (in_wait j) i = declared_range p j i

-- a variable that is declared inside a step is not visible at it
inner_apart : {vs ws : List Seen} {from k : ℕ} {s : Step} {b : Outline} {d : Declared} → StepPlaced vs from s ws k → BlockOf b s → HasStep (declares d) b → Apart d.what ws
inner_apart (placed_declaration h g le n) j i a = elim j [ ]
inner_apart (placed_use h g) j i a = elim j [ ]
inner_apart {d = d} (placed_split {n = n} {m = m} le all p q) (in_first j) i a =
    let r = declared_range p j i in apart_by {x = d.what} {y = d.what} n (among_before n all a) (not_before d.what n (suc n) r.0 (omega arith)) refl
inner_apart {d = d} (placed_split {n = n} {m = m} le all p q) (in_other j) i a =
    let r = declared_range q j i in let b = rises p in apart_by {x = d.what} {y = d.what} n (among_before n all a) (not_before d.what n m r.0 (omega arith)) refl
inner_apart {d = d} (placed_loop {n = n} le all p) (in_loop j) i a =
    let r = declared_range p j i in apart_by {x = d.what} {y = d.what} n (among_before n all a) (not_before d.what n (suc n) r.0 (omega arith)) refl
inner_apart {d = d} (placed_wait {from = from} all p) (in_wait j) i a = let r = declared_range p j i in apart_by {x = d.what} {y = d.what} from (among_before from all a) r.0 refl

-- a use behind the step in which its variable would be declared
behind_apart : {vs ws : List Seen} {from k to : ℕ} {s : Step} {o : Outline} {u : Use} {x : Owned} → StepPlaced vs from s ws k → Placed ws k o to → is_before k x ≡ true → Apart x ws
    → u ∈ uses_in o → u.of ≡ x → ⊥
behind_apart {ws = ws} {k = k} {to = to} {u = u} ps po h n i e =
    n (subst (λ (z : Owned). Among z ws) e (stand_among u.of k to (use_stands po i) (subst (λ (z : Owned). is_before k z ≡ true) (sym e) h)))

mutual
  -- all uses of a variable stand in the block that declares it
  pub uses_home : {vs : List Seen} {from to : ℕ} {o b : Outline} {d : Declared} {u : Use} → Placed vs from o to → BlockIn b o → HasStep (declares d) b → u ∈ uses_in o → u.of ≡ d.what
      → u ∈ uses_in b
  uses_home p the_block h i e = i
  uses_home (placed_end le) (in_a_step g j) h i e = elim i [ ]
  uses_home (placed_on {s = s} {o = o} ps po) (in_a_step first_step j) h i e = elim (either (uses_at s) (uses_in o) i) [
    | inl l ↦ step_home ps j h l e
    | inr l ↦ absurd (behind_apart ps po (step_declared_range ps j h).1 (inner_apart ps j h) l e)
  ]
  uses_home (placed_on {s = s} {o = o} ps po) (in_a_step (later_step g) j) h i e = elim (either (uses_at s) (uses_in o) i) [
    | inl l ↦ absurd (step_apart ps (declared_range po (in_a_step g j) h).0 l e)
    | inr l ↦ uses_home po (in_a_step g j) h l e
  ]

  step_home : {vs ws : List Seen} {from k : ℕ} {s : Step} {b : Outline} {d : Declared} {u : Use} → StepPlaced vs from s ws k → BlockOf b s → HasStep (declares d) b → u ∈ uses_at s
      → u.of ≡ d.what → u ∈ uses_in b
  step_home (placed_declaration h g le n) j l i e = elim j [ ]
  step_home (placed_use h g) j l i e = elim j [ ]
  step_home {d = d} {u = u} (placed_split {vs = vs} {n = n} {m = m} {k = k} {p = p} {q = q} le all pp pq) (in_first j) h i e = elim (either (uses_in p) (uses_in q) i) [
    | inl l ↦ uses_home pp j h l e
    | inr l ↦ absurd (
        let r = declared_range pp j h in
        let a = stand_among u.of m k (use_stands pq l) (subst (λ (z : Owned). is_before m z ≡ true) (sym e) r.1) in
        apart_by n (among_before n all a) (not_before d.what n (suc n) r.0 (omega arith)) e
        )
  ]
  step_home {d = d} {u = u} (placed_split {n = n} {m = m} {p = p} {q = q} le all pp pq) (in_other j) h i e = elim (either (uses_in p) (uses_in q) i) [
    | inl l ↦ absurd (apart_by m (stand_before u.of (suc n) m (use_stands pp l) (rises pp)) (declared_range pq j h).0 e)
    | inr l ↦ uses_home pq j h l e
  ]
  step_home (placed_loop le all p) (in_loop j) h i e = uses_home p j h i e
  step_home (placed_wait all p) (in_wait j) h i e = uses_home p j h i e

-- ARRAYS ARE NOT READ

-- the visible variable has this shape
abbrev Shaped : Owned → Shape → List Seen → Type 0
Shaped x s vs = (v : Seen) → v ∈ vs → v.what ≡ x → v.shape ≡ s

shaped_first : {vs : List Seen} (d : Declared) → Apart d.what vs → Shaped d.what d.shape (seen d ∷ vs)
shaped_first d n v i e = elim (split_in i) [
  | inl q ↦ ap (λ (z : Seen). z.shape) q
  | inr j ↦ absurd (n (record { variable = v; visible = j; is = e }))
]

shaped_more : {vs : List Seen} {x : Owned} {s : Shape} (d : Declared) → Apart d.what vs → Among x vs → Shaped x s vs → Shaped x s (seen d ∷ vs)
shaped_more {vs} {x} d n a h v i e = elim (split_in i) [
  | inl q ↦ absurd (n (subst (λ (z : Owned). Among z vs) (sym e ∙ ap (λ (z : Seen). z.what) q) a))
  | inr j ↦ h v j e
]

shaped_on : {vs ws : List Seen} {from k : ℕ} {s : Step} {x : Owned} {t : Shape} → StepPlaced vs from s ws k → Among x vs → Shaped x t vs → Shaped x t ws
shaped_on (placed_declaration {d = d} h g le n) a sh = shaped_more d n a sh
shaped_on (placed_use h g) a sh = sh
shaped_on (placed_split le all p q) a sh = sh
shaped_on (placed_loop le all p) a sh = sh
shaped_on (placed_wait all p) a sh = sh

mutual
  seen_unread : {vs : List Seen} {from to : ℕ} {o : Outline} {u : Use} {x : Owned} {κ : Keys} → Placed vs from o to → Among x vs → Shaped x (Array κ) vs → u ∈ uses_in o → u.of ≡ x → u.kind ≡ read → ⊥
  seen_unread (placed_end le) a sh i e k = elim i [ ]
  seen_unread (placed_on {s = s} {o = o} ps po) a sh i e k = elim (either (uses_at s) (uses_in o) i) [
    | inl j ↦ step_unread ps a sh j e k
    | inr j ↦ seen_unread po (among_on ps a) (shaped_on ps a sh) j e k
  ]

  step_unread : {vs ws : List Seen} {from k : ℕ} {s : Step} {u : Use} {x : Owned} {κ : Keys} → StepPlaced vs from s ws k → Among x vs → Shaped x (Array κ) vs → u ∈ uses_at s → u.of ≡ x → u.kind ≡ read → ⊥
  step_unread (placed_declaration h g le n) a sh i e k = elim i [ ]
  step_unread (placed_use h g) a sh i e k = elim (split_in i) [
    | inl q ↦ h.scalar _ (sh h.variable h.visible (h.is ∙ ap (λ (z : Use). z.of) (sym q) ∙ e)) (ap (λ (z : Use). z.kind) (sym q) ∙ k)
    | inr j ↦ elim j [ ]
  ]
  step_unread (placed_split {p = p} {q = q} le all pp pq) a sh i e k = elim (either (uses_in p) (uses_in q) i) [
    | inl j ↦ seen_unread pp a sh j e k
    | inr j ↦ seen_unread pq a sh j e k
  ]
  step_unread (placed_loop le all p) a sh i e k = seen_unread p a sh i e k
  step_unread (placed_wait all p) a sh i e k = seen_unread p a sh i e k

array_here : {vs : List Seen} {κ : Keys} (d : Declared) → Apart d.what vs → d.shape ≡ Array κ → Shaped d.what (Array κ) (seen d ∷ vs)
array_here d n e v i q = shaped_first d n v i q ∙ e

mutual
  -- a declared array is not read in its block
  unread : {vs : List Seen} {from to : ℕ} {o b : Outline} {d : Declared} {u : Use} {κ : Keys} → Placed vs from o to → BlockIn b o → HasStep (declares d) b → d.shape ≡ Array κ → u ∈ uses_in b
      → u.of ≡ d.what → u.kind ≡ read → ⊥
  unread (placed_end le) j h t i e k = absurd (nothing_in j h)
  unread (placed_on (placed_declaration {d = d} f g le n) po) the_block first_step t i e k = seen_unread po (among_first refl) (array_here d n t) i e k
  unread (placed_on {s = s} {o = o} ps po) the_block (later_step h) t i e k = elim (either (uses_at s) (uses_in o) i) [
    | inl j ↦ step_apart ps (declared_range po the_block h).0 j e
    | inr j ↦ unread po the_block h t j e k
  ]
  unread (placed_on ps po) (in_a_step first_step j) h t i e k = step_array_unread ps j h t i e k
  unread (placed_on ps po) (in_a_step (later_step l) j) h t i e k = unread po (in_a_step l j) h t i e k

  step_array_unread : {vs ws : List Seen} {from k : ℕ} {s : Step} {b : Outline} {d : Declared} {u : Use} {κ : Keys} → StepPlaced vs from s ws k → BlockOf b s → HasStep (declares d) b → d.shape ≡ Array κ
      → u ∈ uses_in b → u.of ≡ d.what → u.kind ≡ read → ⊥
  step_array_unread (placed_declaration f g le n) j h t i e k = elim j [ ]
  step_array_unread (placed_use f g) j h t i e k = elim j [ ]
  step_array_unread (placed_split le all p q) (in_first j) h t i e k = unread p j h t i e k
  step_array_unread (placed_split le all p q) (in_other j) h t i e k = unread q j h t i e k
  step_array_unread (placed_loop le all p) (in_loop j) h t i e k = unread p j h t i e k
  step_array_unread (placed_wait all p) (in_wait j) h t i e k = unread p j h t i e k

-- BODIES

abbrev pub NoLocals : List Seen → Type 0
NoLocals vs = (v : Seen) → v ∈ vs → ¬ IsLocal v.what

never_local : (x : Owned) (n : ℕ) → ¬ IsLocal x → is_before n x ≡ true
never_local (local m) n h = absurd (h tt)
never_local (input i) n h = refl
never_local (output i) n h = refl

pub no_locals : {vs : List Seen} (n : ℕ) → NoLocals vs → AllBefore n vs
no_locals n h v i = never_local v.what n (h v i)

pub no_locals_more : {vs : List Seen} (d : Declared) → ¬ IsLocal d.what → NoLocals vs → NoLocals (seen d ∷ vs)
no_locals_more d n h v i l = elim (split_in i) [
  | inl q ↦ n (subst (λ (z : Owned). IsLocal z) (ap (λ (z : Seen). z.what) q) l)
  | inr j ↦ h v j l
]

pub apart_from : {vs : List Seen} {x : Owned} → ((v : Seen) → v ∈ vs → v.what ≡ x → ⊥) → Apart x vs
apart_from h a = h a.variable a.visible a.is

pub body_home : {vs : List Seen} {o b : Outline} {d : Declared} {u : Use} → ScopedBody vs o → NoLocals vs → BlockIn b o → HasStep (declares d) b → u ∈ uses_in o → u.of ≡ d.what → u ∈ uses_in b
body_home s n the_block h i e = i
body_home (behind_parameters {from = from} s) n (in_a_step g j) h i e = uses_home (placed (no_locals from n) s) (in_a_step g j) h i e
body_home (a_parameter l r f s) n (in_a_step first_step j) h i e = elim j [ ]
body_home (a_parameter {d = d} l r f s) n (in_a_step (later_step g) j) h i e = body_home s (no_locals_more d l n) (in_a_step g j) h i e

seen_body_unread : {vs : List Seen} {o : Outline} {u : Use} {x : Owned} {κ : Keys} → ScopedBody vs o → NoLocals vs → Among x vs → Shaped x (Array κ) vs → u ∈ uses_in o → u.of ≡ x → u.kind ≡ read → ⊥
seen_body_unread (behind_parameters {from = from} s) n a sh i e k = seen_unread (placed (no_locals from n) s) a sh i e k
seen_body_unread (a_parameter {d = d} l r f s) n a sh i e k = seen_body_unread s (no_locals_more d l n) (among_more a) (shaped_more d (apart_from f) a sh) i e k

pub body_unread : {vs : List Seen} {o b : Outline} {d : Declared} {u : Use} {κ : Keys} → ScopedBody vs o → NoLocals vs → BlockIn b o → HasStep (declares d) b → d.shape ≡ Array κ → u ∈ uses_in b
    → u.of ≡ d.what → u.kind ≡ read → ⊥
body_unread (behind_parameters {from = from} s) n j h t i e k = unread (placed (no_locals from n) s) j h t i e k
body_unread (a_parameter {d = d} l r f s) n the_block first_step t i e k = seen_body_unread s (no_locals_more d l n) (among_first refl) (array_here d (apart_from f) t) i e k
body_unread (a_parameter {d = d} l r f s) n the_block (later_step h) t i e k = body_unread s (no_locals_more d l n) the_block h t i e k
body_unread (a_parameter l r f s) n (in_a_step first_step j) h t i e k = elim j [ ]
body_unread (a_parameter {d = d} l r f s) n (in_a_step (later_step g) j) h t i e k = body_unread s (no_locals_more d l n) (in_a_step g j) h t i e k
