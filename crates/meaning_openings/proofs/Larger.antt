-- Where a program counts more turns or statements than so many, more blocks or statements are live.
use Rattle.std.specs.Prelude.{◌≡◌, ◌⊎◌, ℕ, zero, suc, ◌+◌, ◌<◌, ◌≤◌, Bool, true, false, cond, nat_eq, ◌||◌, List, [], ◌∷◌, length, map, drop, Some, None, if◌then◌else◌, refl, Ok, Err, IfErr, IsErrAnd, Result}
use Rattle.std.proofs.Common.{inl, inr, sym, ap, ◌∙◌, subst, arith, get_or}
use Rattle.std.proofs.lemmas.Bool.{and_parts, eqb-true}
use Rattle.std.specs.List.{AllByRecursion, IsDistinct, list_any}
use Rattle.values.specs.declared.key.Key.{Key}
use Rattle.language.specs.Core.{Block, Core, Stmt}
use Rattle.language.specs.Facts.{Knowledge}
use Rattle.language.specs.Meaning.{in_block, opened, Known, Live, LiveStmt}
use Rattle.language.specs.Members.{◌∈◌}
use Rattle.language.specs.Parts.{stmt_node}
use Rattle.language.specs.Places.{Path, Place, max_path_steps}
use Rattle.language.proofs.Members.{split_in}
use Rattle.paths.proofs.Orders.{number_order}
use Rattle.meaning_facts.specs.declared.facts.Place.{Place as Spot}
use Rattle.meaning_facts.specs.declared.instances.Instance.{Instance}
use Rattle.meaning_facts.specs.declared.instances.LoopVariable.{LoopVariable}
use Rattle.meaning_facts.specs.declared.fact_base.FactBase.{FactBase}
use Rattle.meaning_facts.specs.Keeping.{place_view}
use Rattle.meaning_facts.specs.Paths.{path_of}
use Rattle.meaning_facts.specs.Store.{parent_of, same_place, variable_in, variables_of}
use Rattle.meaning_facts.proofs.Keeping.{one_instance}
use Rattle.meaning_invariants.specs.Active.{Active, Candidate}
use Rattle.meaning_invariants.specs.Opened.{IsSoFar, Origin, of_call, of_header}
use Rattle.meaning_round.specs.declared.state.RoundState.{RoundState}
use Rattle.meaning_round.specs.declared.state.LiveTask.{LiveTask}
use Rattle.meaning_round.specs.Made.{arrays_of, tasks_of}
use Rattle.meaning_round.specs.Standing.{active_of}
use Rattle.meaning_round.proofs.Listed.{mapped_in, nth_in}
use Rattle.meaning_openings.specs.declared.fault.MeaningError.{MeaningError}
use Rattle.meaning_openings.specs.declared.fault.MeaningError.TheVariants.{Memory, TooLarge}
use Rattle.meaning_openings.specs.Larger.{turns_from, IsLarger, IsOwn, OwnsMore}
use Rattle.meaning_openings.specs.Opening.{IsGood}

clash : {X : Type 0} {b : Bool} → b ≡ true → b ≡ false → X
clash p q = let e : true ≡ false = sym p ∙ q in absurd (cc (e))

number_own : (n : ℕ) → nat_eq n n ≡ true
number_own n = number_order.own n

-- LISTS IN WHICH NO TWO ARE ALIKE

module _ {X : Type 0} (eq : X → X → Bool) (own : (x : X) → eq x x ≡ true) (d : X) where
  none_alike : (x : X) (xs : List X) → AllByRecursion (λ y. eq x y ≡ false) xs → (i : ℕ) → i < length xs → x ≡ get_or xs i d → ⊥
  none_alike x [] h i l e = absurd (omega (arith, l))
  none_alike x (y ∷ ys) h zero l e = clash (own x) (ap (λ (z : X). eq x z) e ∙ h.0)
  none_alike x (y ∷ ys) h (suc i) l e = none_alike x ys h.1 i (omega (arith, l)) e

  pub apart_at : (xs : List X) → IsDistinct eq xs → (i j : ℕ) → i < length xs → j < length xs → get_or xs i d ≡ get_or xs j d → i ≡ j
  unfolding IsDistinct
  apart_at [] h i j a b e = absurd (omega (arith, a))
  apart_at (x ∷ xs) h zero zero a b e = refl
  apart_at (x ∷ xs) h zero (suc j) a b e = absurd (none_alike x xs h.0 j (omega (arith, b)) e)
  apart_at (x ∷ xs) h (suc i) zero a b e = absurd (none_alike x xs h.0 i (omega (arith, a)) (sym e))
  apart_at (x ∷ xs) h (suc i) (suc j) a b e = ap suc (apart_at xs h.1 i j (omega (arith, a)) (omega (arith, b)) e)

-- TURNS OF LOOPS

all_weaker : (i : ℕ) (js : List ℕ) → AllByRecursion (λ j. suc i ≤ j) js → AllByRecursion (λ j. i ≤ j) js
all_weaker i [] h = tt
all_weaker i (j ∷ js) h = (omega (arith, h.0), all_weaker i js h.1)

not_greater : (i j : ℕ) → suc i ≤ j → (b : Bool) → nat_eq i j ≡ b → nat_eq i j ≡ false
not_greater i j l true e = let same = eqb-true i j e in absurd (omega (arith, l, same))
not_greater i j l false e = e

none_before : (i : ℕ) (js : List ℕ) → AllByRecursion (λ j. suc i ≤ j) js → AllByRecursion (λ j. nat_eq i j ≡ false) js
none_before i [] h = tt
none_before i (j ∷ js) h = (not_greater i j h.0 (nat_eq i j) refl, none_before i js h.1)

from_one : (b : Bool) (i : ℕ) (js : List ℕ) → AllByRecursion (λ j. suc i ≤ j) js → AllByRecursion (λ j. i ≤ j) (cond b js (i ∷ js))
from_one true i js h = all_weaker i js h
from_one false i js h = (omega arith, all_weaker i js h)

from_on : (i : ℕ) (ns : List Instance) → AllByRecursion (λ j. i ≤ j) (turns_from i ns)
from_on i [] = tt
from_on i (x ∷ xs) = from_one (nat_eq (length x.given.variables.items) 0) i (turns_from (suc i) xs) (from_on (suc i) xs)

one_apart : (b : Bool) (i : ℕ) (js : List ℕ) → AllByRecursion (λ j. suc i ≤ j) js → IsDistinct nat_eq js → IsDistinct nat_eq (cond b js (i ∷ js))
unfolding IsDistinct
one_apart true i js h d = d
one_apart false i js h d = (none_before i js h, d)

turns_distinct : (i : ℕ) (ns : List Instance) → IsDistinct nat_eq (turns_from i ns)
unfolding IsDistinct
turns_distinct i [] = tt
turns_distinct i (x ∷ xs) = one_apart (nat_eq (length x.given.variables.items) 0) i (turns_from (suc i) xs) (from_on (suc i) xs) (turns_distinct (suc i) xs)

-- an instance has variables
record IsTurn (ns : List Instance) (j : ℕ) : Type 0 where
  within : j < length ns
  has : nat_eq (length (variables_of ns j)) 0 ≡ false

record IsTurnBehind (i : ℕ) (ns : List Instance) (j : ℕ) : Type 0 where
  k : ℕ
  number : j ≡ i + k
  turn : IsTurn ns k

behind_one : (i : ℕ) (x : Instance) (xs : List Instance) (j : ℕ) → IsTurnBehind (suc i) xs j → IsTurnBehind i (x ∷ xs) j
behind_one i x xs j h = record {
  k = suc h.k;
  number = (let e = h.number in omega (arith, e));
  turn = record { within = (let l = h.turn.within in omega (arith, l)); has = h.turn.has };
}

turn_there : (i : ℕ) (ns : List Instance) (j : ℕ) → j ∈ turns_from i ns → IsTurnBehind i ns j
turn_there i [] j m = elim m [ ]
turn_there i (x ∷ xs) j m = by (nat_eq (length x.given.variables.items) 0) refl m (λ k. turn_there (suc i) xs j k)
  where
    by : (b : Bool) → nat_eq (length x.given.variables.items) 0 ≡ b → j ∈ cond b (turns_from (suc i) xs) (i ∷ turns_from (suc i) xs)
        → (j ∈ turns_from (suc i) xs → IsTurnBehind (suc i) xs j) → IsTurnBehind i (x ∷ xs) j
    by true e k rec = behind_one i x xs j (rec k)
    by false e k rec = elim (split_in k) [
      | inl same ↦ record { k = 0; number = omega (arith, same); turn = record { within = omega arith; has = e } }
      | inr l ↦ behind_one i x xs j (rec l)
    ]

is_turn : (ns : List Instance) (j : ℕ) → j ∈ turns_from 0 ns → IsTurn ns j
is_turn ns j m =
    let h = turn_there 0 ns j m in
    let same : h.k ≡ j = (let e = h.number in omega (arith, e)) in
    subst (λ (z : ℕ). IsTurn ns z) same h.turn

-- what opens a turn opens a live block
origin_live : (s : Core) (K : Knowledge) (path : Path) (at : ℕ) (k : Key) (vs : List LoopVariable) → Origin s K path at k (variable_in vs) → length path < max_path_steps
    → nat_eq (length vs) 0 ≡ false → (b : Block) × Live s K ((at, k) ∷ path) b
origin_live s K path at k vs (of_header {b = b} (in_block live there) ready opens f g) short has = (b, opened live there ready opens short)
origin_live s K path at k [] (of_call live c same none) short has = absurd (cc (has))
origin_live s K path at k (v ∷ vs) (of_call live c same none) short has = absurd (cc (lost))
  where
    found : variable_in (v ∷ vs) v.node ≡ Some v.value
    found = ap (λ (z : Bool). if z then Some v.value else variable_in vs v.node) (number_own v.node)

    lost : Some v.value ≡ None
    lost = sym found ∙ none v.node

module _ (s : Core) (K : Knowledge) (l : FactBase) (ls : List Active) (cs : List Candidate) (good : IsSoFar s K 0 l ls cs) where
  turn_live : (j : ℕ) → IsTurn l.instances.all.items j → (b : Block) × Live s K (path_of l.instances.all.items j) b
  turn_live zero t = clash (ap (λ (z : List LoopVariable). nat_eq (length z) 0) good.placed.tree.root_variables) t.has
  turn_live (suc j) t =
      let tree = good.placed.tree in
      let up = parent_of l.instances.all.items (suc j) in
      let o = tree.opened (suc j) (omega arith) t.within in
      let c = tree.opens up o.at o.key (suc j) o.opened in
      let fits : suc (length (path_of l.instances.all.items (parent_of l.instances.all.items (suc j)))) ≤ max_path_steps
      = subst (λ (p : Path). length p ≤ max_path_steps) c.path_is (tree.short (suc j)) in
      let short : length (path_of l.instances.all.items (parent_of l.instances.all.items (suc j))) < max_path_steps = omega (arith, fits) in
      subst (λ (p : Path). (b : Block) × Live s K p b) (sym c.path_is)
      (origin_live s K (path_of l.instances.all.items up) o.at o.key (variables_of l.instances.all.items (suc j)) (good.origins up o.at o.key (suc j) o.opened) short t.has)

pub larger_by_turns : {A : Type 0} (s : Core) (n : ℕ) (state : RoundState A) (most : ℕ) → most < length (turns_from 0 state.fact_base.instances.all.items) → IsGood s n state → IsLarger s n most
larger_by_turns s n state most more good =
    let ns = state.fact_base.instances.all.items in
    let js = turns_from 0 ns in
    let turn : (i : ℕ) → i ≤ most → IsTurn state.fact_base.instances.all.items (get_or (turns_from 0 state.fact_base.instances.all.items) i 0)
    = λ i h. is_turn ns (get_or js i 0) (nth_in js i 0 (omega (arith, h, more))) in
    inl (record {
      path = λ i. path_of ns (get_or js i 0);
      live = λ i h. turn_live s (Known s n) state.fact_base (tasks_of state) (arrays_of state) good (get_or js i 0) (turn i h);
      apart = λ i j a b e. apart_at nat_eq number_own 0 js (turns_distinct 0 ns) i j (omega (arith, a, more)) (omega (arith, b, more))
          (one_instance state.fact_base.instances good.placed.tree (get_or js i 0) (get_or js j 0) (turn i a).within (turn j b).within e);
    })

-- a loop over instances counts them
counted_one : (b : Bool) (m : ℕ) (js : List ℕ) → length (cond b js (m ∷ js)) ≡ cond b 0 1 + length js
counted_one true m js = let e : length js ≡ 0 + length js = omega arith in e
counted_one false m js = let e : suc (length js) ≡ 1 + length js = omega arith in e

counted_at : (m : ℕ) (ns : List Instance) (i : ℕ) (d : Instance) → i < length ns
    → length (turns_from m (drop i ns)) ≡ cond (nat_eq (length (get_or ns i d).given.variables.items) 0) 0 1 + length (turns_from (suc m) (drop (suc i) ns))
counted_at m [] i d l = absurd (omega (arith, l))
counted_at m (x ∷ xs) zero d l = counted_one (nat_eq (length x.given.variables.items) 0) m (turns_from (suc m) xs)
counted_at m (x ∷ xs) (suc i) d l = counted_at m xs i d (omega (arith, l))

pub counted_next : (ns : List Instance) (i : ℕ) (x : Instance) → i < length ns → x ≡ get_or ns i x
    → length (turns_from i (drop i ns)) ≡ cond (nat_eq (length x.given.variables.items) 0) 0 1 + length (turns_from (i + 1) (drop (i + 1) ns))
counted_next ns i x l e =
    let one : suc i ≡ i + 1 = omega arith in
    subst (λ (k : ℕ). length (turns_from i (drop i ns)) ≡ cond (nat_eq (length x.given.variables.items) 0) 0 1 + length (turns_from k (drop k ns))) one
    (subst (λ (y : Instance). length (turns_from i (drop i ns)) ≡ cond (nat_eq (length y.given.variables.items) 0) 0 1 + length (turns_from (suc i) (drop (suc i) ns))) (sym e)
    (counted_at i ns i x l))

pub counted_all : (m : ℕ) (ns : List Instance) (i : ℕ) → length ns ≤ i → length (turns_from m (drop i ns)) ≡ 0
counted_all m [] zero l = refl
counted_all m [] (suc i) l = refl
counted_all m (x ∷ xs) zero l = absurd (omega (arith, l))
counted_all m (x ∷ xs) (suc i) l = counted_all m xs i (omega (arith, l))

-- STATEMENTS

spot_own : (p : Spot) → same_place p p ≡ true
spot_own p = rw (number_own p.instance) (rw (number_own p.node) refl)

pub spot_parts : (p q : Spot) → same_place p q ≡ true → p ≡ q
spot_parts p q h =
    let b = and_parts _ _ h in
    let e = eqb-true p.instance q.instance b.0 in
    let f = eqb-true p.node q.node b.1 in
    λ i. record { instance = e i; node = f i }

any_of : (b r : Bool) → (b ≡ true) ⊎ (r ≡ true) → (b || r) ≡ true
any_of true r h = refl
any_of false r (inl e) = clash e refl
any_of false r (inr e) = e

pub key_contained : (ps : List Spot) (p : Spot) → p ∈ ps → list_any (same_place p) ps ≡ true
key_contained [] p m = elim m [ ]
key_contained (q ∷ ps) p m = any_of (same_place p q) (list_any (same_place p) ps) (elim (split_in m) [
  | inl e ↦ inl (subst (λ (z : Spot). same_place p z ≡ true) e (spot_own p))
  | inr i ↦ inr (key_contained ps p i)
])

-- a loop over live statements puts their places into a set
pub task_own : {A : Type 0} (ts : List (LiveTask A)) (i : ℕ) (t : LiveTask A) → i < length ts → t ≡ get_or ts i t → IsOwn (map active_of ts) (record { instance = t.site.instance; node = t.site.node })
task_own {A} ts i t l e = record {
  active = active_of t;
  there = subst (λ (z : LiveTask A). active_of z ∈ map active_of ts) (sym e) (mapped_in active_of ts (nth_in ts i t l));
  instance_is = refl;
  node_is = refl;
}

pub own_next : (ls : List Active) (old new : Spot → Bool) (k : Spot) → ((p : Spot) → new p ≡ cond (same_place k p) true (old p)) → IsOwn ls k
    → ((p : Spot) → old p ≡ true → IsOwn ls p) → (p : Spot) → new p ≡ true → IsOwn ls p
own_next ls old new k updates own was p h = by (same_place k p) refl (sym (updates p) ∙ h)
  where
    by : (b : Bool) → same_place k p ≡ b → cond b true (old p) ≡ true → IsOwn ls p
    by true e q = subst (λ (z : Spot). IsOwn ls z) (spot_parts k p e) own
    by false e q = was p q

module _ {A : Type 0} (s : Core) (n : ℕ) (state : RoundState A) (most : ℕ) (good : IsGood s n state) (owns : OwnsMore (tasks_of state) most) where
  abbrev zero_spot : Spot
  zero_spot = record { instance = 0; node = 0 }

  abbrev nth_spot : ℕ → Spot
  nth_spot i = get_or owns.places i zero_spot

  owner : (i : ℕ) → i ≤ most → IsOwn (tasks_of state) (nth_spot i)
  owner i h = let more = owns.many in owns.own (nth_spot i) (nth_in owns.places i zero_spot (omega (arith, h, more)))

  spot_within : (i : ℕ) → i ≤ most → (nth_spot i).instance < length state.fact_base.instances.all.items
  spot_within i h = let o = owner i h in subst (λ (z : ℕ). z < length state.fact_base.instances.all.items) o.instance_is (good.live o.active o.there).within

  spot_live : (i : ℕ) → i ≤ most → (st : Stmt) × LiveStmt s (Known s n) (path_of state.fact_base.instances.all.items (nth_spot i).instance) st × (stmt_node st ≡ (nth_spot i).node)
  spot_live i h =
      let o = owner i h in (
        o.active.statement,
        subst (λ (z : ℕ). LiveStmt s (Known s n) (path_of state.fact_base.instances.all.items z) o.active.statement) o.instance_is (good.live o.active o.there).so,
        o.node_is,
      )

  spots_apart : (i j : ℕ) → i ≤ most → j ≤ most → ◌≡◌ {A = Place} (place_view state.fact_base.instances.all.items (nth_spot i)) (place_view state.fact_base.instances.all.items (nth_spot j)) → i ≡ j
  spots_apart i j a b e =
      let more = owns.many in
      let p = nth_spot i in
      let q = nth_spot j in
      let where_is : (nth_spot i).instance ≡ (nth_spot j).instance
      = one_instance state.fact_base.instances good.placed.tree p.instance q.instance (spot_within i a) (spot_within j b) (ap (λ (z : Place). z.0) e) in
      let node_is : (nth_spot i).node ≡ (nth_spot j).node = ap (λ (z : Place). z.1) e in
      apart_at same_place spot_own zero_spot owns.places owns.distinct i j (omega (arith, a, more)) (omega (arith, b, more)) (λ k. record { instance = where_is k; node = node_is k })

  pub larger_by_statements : IsLarger s n most
  larger_by_statements = inr (record { place = λ i. place_view state.fact_base.instances.all.items (nth_spot i); live = spot_live; apart = spots_apart })

-- WHERE A CALL ENDS

abbrev is_large : MeaningError → Bool
is_large Memory = false
is_large TooLarge = true

-- want of memory is no answer on what is live
pub memory_is_small : {T : Type 0} (X : Type 0) (r : Result T MeaningError) → IsErrAnd r (λ f. f ≡ Memory) → IfErr r (λ f. f ≡ TooLarge → X)
memory_is_small X (Ok x) h = tt
memory_is_small X (Err f) h = λ e. clash (ap is_large e) (ap is_large h)

-- an answer is passed on
pub answer_passes : {T X : Type 0} (g : MeaningError) (r : Result T MeaningError) → IsErrAnd r (λ f. f ≡ g) → (g ≡ TooLarge → X) → IfErr r (λ f. f ≡ TooLarge → X)
answer_passes g (Ok x) h so = tt
answer_passes g (Err f) h so = λ e. so (sym h ∙ e)
