-- What the variables of a loop are in a turn is what they are given.
use Rattle.std.specs.Prelude.{◌≡◌, ◌⊎◌, ℕ, ◌<◌, pos, Bool, true, false, IsTrue, List, [], ◌∷◌, length, nat_eq, Option, Some, None, Result, Ok, Err, slice_get, if◌then◌else◌, refl}
use Rattle.std.proofs.Common.{inl, inr, sym, ap, ◌∙◌, subst}
use Rattle.std.proofs.lemmas.Bool.{cases_Bool, eqb-true, eq-eqb}
use Rattle.values.specs.declared.fault.OpFault.{OpFault}
use Rattle.values.specs.declared.key.Key.{Key}
use Rattle.values.specs.declared.map.Element.{Element}
use Rattle.values.specs.declared.value.Scalar.{Scalar}
use Rattle.values.specs.declared.value.Scalar.TheVariants.{Number}
use Rattle.values.specs.declared.value.Value.{Value}
use Rattle.values.specs.declared.value.Value.TheVariants.{Many}
use Rattle.values.specs.Keys.{key_scalar}
use Rattle.values.specs.Maps.{rising, element as entry}
use Rattle.values.specs.Ranges.{range_count, value_in}
use Rattle.language.specs.Core.{Name, Outer, Stmt, stmt, Action, range, each, Block, Core}
use Rattle.language.specs.Facts.{key_value, Knowledge}
use Rattle.language.specs.Members.{◌∈◌}
use Rattle.language.specs.Openings.{Bounds, bounds, InTurn, range_value, range_turn, each_value, each_key}
use Rattle.language.specs.Parts.{outer_cells, script_stmts}
use Rattle.language.specs.Places.{Path}
use Rattle.language.specs.WellFormed.{LoopsApart, Role, range_value_role, range_turn_role, each_value_role, each_key_role}
use Rattle.language_laws.proofs.Rising.{rising_once}
use Rattle.language_accepted.proofs.Values.{key_same}
use Rattle.meaning_steps.specs.Environment.{Sight}
use Rattle.meaning_steps.specs.Taken.{Taken, ReadyBy, by_cells, by_source}
use Rattle.meaning_facts.specs.declared.instances.LoopVariable.{LoopVariable}
use Rattle.meaning_cells.specs.Chosen.{Chosen, chosen_from, chosen_in, count_in, item_key, item_value, items, items_seen, key_in, turns, turns_by, turns_of}
use Rattle.meaning_facts.specs.Store.{variable_in}
use Rattle.meaning_cells.specs.Taking.{SeesBy}
use Rattle.meaning_cells.proofs.Looping.{each_turn, has_at}
use Rattle.meaning_cells.proofs.Readying.{cells_all}
use Rattle.meaning_invariants.specs.Turns.{key_variable, turn_variables}

found_first : (x : ℕ) (v : Scalar) (vs : List LoopVariable) → variable_in (record { node = x; value = v } ∷ vs) x ≡ Some v
found_first x v vs = ap (λ (z : Bool). if z then Some v else variable_in vs x) (eq-eqb x x refl)

found_next : (x t : ℕ) (v u : Scalar) → (x ≡ t → ⊥) → variable_in (record { node = x; value = v } ∷ record { node = t; value = u } ∷ []) t ≡ Some u
found_next x t v u apart = elim (cases_Bool (nat_eq x t)) [
  | inl e ↦ absurd (apart (eqb-true x t e))
  | inr e ↦ ap (λ (z : Bool). if z then Some v else variable_in (record { node = t; value = u } ∷ []) t) e ∙ found_first t u []
]

-- TURNS OF A RANGE

-- what is chosen of a range is by its bounds
record Turned (vs : List Value) (c : Chosen) : Type 0 where
  range_is : Bounds
  number : ℕ
  bounds_are : bounds vs ≡ Some range_is
  chosen_is : turns range_is.low range_is.step number ≡ c

turned : (vs : List Value) (c : Chosen) → turns_of (bounds vs) ≡ Some c → Turned vs c
turned vs c e = by (bounds vs) refl e
  where
    counted : (r : Bounds) → bounds vs ≡ Some r → (n : Result ℕ OpFault) → turns_by r n ≡ Some c → Turned vs c
    counted r p (Ok n) f = record { range_is = r; number = n; bounds_are = p; chosen_is = cc (f) }
    counted r p (Err f) g = absurd (cc (g))

    by : (o : Option Bounds) → bounds vs ≡ o → turns_of o ≡ Some c → Turned vs c
    by (Some r) p f = counted r p (range_count r.low r.high r.step) f
    by None p f = absurd (cc (f))

range_turn_is : (vs : List Value) (r r' : Bounds) (i j : ℕ) (v : Scalar) (k : Key) → bounds vs ≡ Some r → bounds vs ≡ Some r' → Key.Number (pos i) ≡ k → Key.Number (pos j) ≡ k → v ≡ Number (value_in r'.low r'.step j)
    → v ≡ Number (value_in r.low r.step i)
range_turn_is vs r r' i j v k p q e f h =
    let same : r' ≡ r = cc (p, q) in
    let numbers : Key.Number (pos j) ≡ Key.Number (pos i) = f ∙ sym e in
    let turn : j ≡ i = cc (numbers) in
    h ∙ ap (λ (z : Bounds). Number (value_in z.low z.step j)) same ∙ ap (λ (z : ℕ). Number (value_in r.low r.step z)) turn

module _ (s : Core) (loops : LoopsApart s) (at n : ℕ) where
  -- the two variables of a loop are not one
  apart_range : (lo hi : Outer) (st : Option Outer) (x t : ℕ) (b : Block) → stmt at n (range lo hi st x (Some t) b) ∈ script_stmts s → x ≡ t → ⊥
  apart_range lo hi st x t b m e =
      let header : Stmt = stmt at n (range lo hi st x (Some t) b) in
      let two : Role (stmt at n (range lo hi st x (Some t) b)) x false = subst (λ (z : ℕ). Role (stmt at n (range lo hi st x (Some t) b)) z false) (sym e) range_turn_role in
      let clash : true ≡ false = (loops.role_once (stmt at n (range lo hi st x (Some t) b)) (stmt at n (range lo hi st x (Some t) b)) x true false m m range_value_role two).1 in
      cc (clash)

  apart_each : (a : Name) (x t : ℕ) (b : Block) → stmt at n (each a x (Some t) b) ∈ script_stmts s → x ≡ t → ⊥
  apart_each a x t b m e =
      let two : Role (stmt at n (each a x (Some t) b)) x false = subst (λ (z : ℕ). Role (stmt at n (each a x (Some t) b)) z false) (sym e) each_key_role in
      let clash : true ≡ false = (loops.role_once (stmt at n (each a x (Some t) b)) (stmt at n (each a x (Some t) b)) x true false m m each_value_role two).1 in
      cc (clash)

  in_range : (lo hi : Outer) (st : Option Outer) (x : ℕ) (t : Option ℕ) (b : Block) (vs : List Value) (r : Bounds) (count : ℕ) → stmt at n (range lo hi st x t b) ∈ script_stmts s → bounds vs ≡ Some r
      → (i : ℕ) (k : Key) → Key.Number (pos i) ≡ k → (y : ℕ) (v : Scalar) → InTurn (range lo hi st x t b) vs k y v
      → variable_in (turn_variables (range lo hi st x t b) (turns r.low r.step count) i) y ≡ Some v
  in_range lo hi st x t b vs r count m p i k e y v (range_value {r = r'} {i = j} q h) =
      found_first y (Number (value_in r.low r.step i)) (key_variable t (Key.Number (pos i))) ∙ ap Some (sym (range_turn_is vs r r' i j v (Key.Number (pos j)) p q e refl h))
  in_range lo hi st x t b vs r count m p i k e y v (range_turn h) =
      found_next x y (Number (value_in r.low r.step i)) (key_scalar (Key.Number (pos i))) (apart_range lo hi st x y b m) ∙ ap (λ (z : Key). Some (key_scalar z)) e ∙ ap Some (key_same k ∙ sym h)

  in_each : (a : Name) (x : ℕ) (t : Option ℕ) (b : Block) (es : List Element) → stmt at n (each a x t b) ∈ script_stmts s → IsTrue (rising es)
      → (i : ℕ) → i < length es → (k : Key) → key_in (items es) i ≡ k → (y : ℕ) (v : Scalar) → InTurn (each a x t b) (Many es ∷ []) k y v
      → variable_in (turn_variables (each a x t b) (items es) i) y ≡ Some v
  in_each a x t b es m order i l k e y v (each_value w) =
      let r = has_at es i l in
      let key : k ≡ r.found.key = sym e ∙ ap item_key r.there in
      let other : entry r.found.key v ∈ es = subst (λ (z : Key). entry z v ∈ es) key w in
      let same : r.found.value ≡ v = rising_once es order r.found.key r.found.value v r.among other in
      found_first y (item_value (slice_get es i)) (key_variable t (item_key (slice_get es i))) ∙ ap (λ (z : Option Element). Some (item_value z)) r.there ∙ ap Some same
  in_each a x t b es m order i l k e y v (each_key h) =
      found_next x y (item_value (slice_get es i)) (key_scalar (item_key (slice_get es i))) (apart_each a x y b m) ∙ ap (λ (z : Key). Some (key_scalar z)) e ∙ ap Some (key_same k ∙ sym h)

  -- WHAT A VARIABLE IS IN A TURN
  module _ (K : Knowledge) (T : Taken) (path : Path) (g : Sight) (sees : SeesBy s K T path g) where
    pub by_ready : (header : Action) (vs : List Value) → stmt at n header ∈ script_stmts s → (c : Chosen) → chosen_in g header ≡ Some c → ReadyBy s K T path header vs
        → (i : ℕ) → i < count_in c → (k : Key) → key_in c i ≡ k → (y : ℕ) (v : Scalar) → InTurn header vs k y v → variable_in (turn_variables header c i) y ≡ Some v
    by_ready (range lo hi st x t b) vs m c e (by_cells known decides) i l k q y v turn =
        let seen = cells_all s K T path g sees (outer_cells (range lo hi st x t b)) vs known in
        let chosen : turns_of (bounds vs) ≡ Some c = sym (ap (chosen_from (range lo hi st x t b)) seen) ∙ e in
        let r = turned vs c chosen in
        let is : Key.Number (pos i) ≡ k = ap (λ (z : Chosen). key_in z i) r.chosen_is ∙ q in
        subst (λ (z : Chosen). variable_in (turn_variables (range lo hi st x t b) z i) y ≡ Some v) r.chosen_is (in_range lo hi st x t b vs r.range_is r.number m r.bounds_are i k is y v turn)
    by_ready (each a x t b) vs m c e (by_source {es = es} closed elements) i l k q y v turn =
        let same : es ≡ g.elements a = sees.elements_all a es closed elements in
        let chosen : Some (items es) ≡ Some c = ap (λ (z : List Element). Some (items z)) same ∙ sym (ap (λ (z : Bool). items_seen z (g.elements a)) (sees.closed_all a closed)) ∙ e in
        let is : items es ≡ c = cc (chosen) in
        let below : i < length es = subst (λ (z : Chosen). i < count_in z) (sym is) l in
        let key : key_in (items es) i ≡ k = ap (λ (z : Chosen). key_in z i) is ∙ q in
        subst (λ (z : Chosen). variable_in (turn_variables (each a x t b) z i) y ≡ Some v) is (in_each a x t b es m elements.in_order i below k key y v turn)
    by_ready (each a x t b) vs m c e (by_cells known decides) i l k q y v turn = elim decides [ ]
    by_ready _ vs m c e ready i l k q y v turn = elim turn [ ]

-- AND WHAT THEY ARE GIVEN THEY ARE

-- a variable that is found is the one for the value, or the one for the key
record GivenAt (x y : ℕ) (u v : Scalar) : Type 0 where
  node_is : x ≡ y
  value_is : u ≡ v

record KeyAt (t : Option ℕ) (k : Key) (y : ℕ) (v : Scalar) : Type 0 where
  key_node : ℕ
  key_is : t ≡ Some key_node
  node_is : key_node ≡ y
  value_is : key_value k ≡ v

found_one : (x y : ℕ) (u v : Scalar) (vs : List LoopVariable) → variable_in (record { node = x; value = u } ∷ vs) y ≡ Some v → GivenAt x y u v ⊎ (variable_in vs y ≡ Some v)
found_one x y u v vs h = by (nat_eq x y) refl h
  where
    by : (b : Bool) → nat_eq x y ≡ b → (if b then Some u else variable_in vs y) ≡ Some v → GivenAt x y u v ⊎ (variable_in vs y ≡ Some v)
    by true e q = inl (record { node_is = eqb-true x y e; value_is = cc (q) })
    by false e q = inr q

key_found : (t : Option ℕ) (k : Key) (y : ℕ) (v : Scalar) → variable_in (key_variable t k) y ≡ Some v → KeyAt t k y v
key_found (Some t) k y v h = elim (found_one t y (key_scalar k) v [] h) [
  | inl g ↦ record { key_node = t; key_is = refl; node_is = g.node_is; value_is = sym (key_same k) ∙ g.value_is }
  | inr q ↦ absurd (cc (q))
]
key_found None k y v h = absurd (cc (h))

given_range : (lo hi : Outer) (st : Option Outer) (x : ℕ) (t : Option ℕ) (b : Block) (vs : List Value) (r : Bounds) (count : ℕ) → bounds vs ≡ Some r → (i : ℕ) (y : ℕ) (v : Scalar)
    → variable_in (turn_variables (range lo hi st x t b) (turns r.low r.step count) i) y ≡ Some v → InTurn (range lo hi st x t b) vs (Key.Number (pos i)) y v
given_range lo hi st x t b vs r count p i y v h = elim (found_one x y (Number (value_in r.low r.step i)) v (key_variable t (Key.Number (pos i))) h) [
  | inl g ↦ subst (λ (z : ℕ). InTurn (range lo hi st x t b) vs (Key.Number (pos i)) z v) g.node_is (range_value p (sym g.value_is))
  | inr q ↦
      let k = key_found t (Key.Number (pos i)) y v q in
      subst (λ (z : Option ℕ). InTurn (range lo hi st x z b) vs (Key.Number (pos i)) y v) (sym k.key_is)
      (subst (λ (z : ℕ). InTurn (range lo hi st x (Some k.key_node) b) vs (Key.Number (pos i)) z v) k.node_is (range_turn (sym k.value_is)))
]

given_each : (a : Name) (x : ℕ) (t : Option ℕ) (b : Block) (es : List Element) (i : ℕ) → i < length es → (y : ℕ) (v : Scalar)
    → variable_in (turn_variables (each a x t b) (items es) i) y ≡ Some v → InTurn (each a x t b) (Many es ∷ []) (key_in (items es) i) y v
given_each a x t b es i l y v h = elim (found_one x y (item_value (slice_get es i)) v (key_variable t (item_key (slice_get es i))) h) [
  | inl g ↦
      subst (λ (z : ℕ). InTurn (each a x t b) (Many es ∷ []) (key_in (items es) i) z v) g.node_is
      (subst (λ (z : Scalar). InTurn (each a x t b) (Many es ∷ []) (key_in (items es) i) x z) g.value_is (each_turn a x t b es i l))
  | inr q ↦
      let k = key_found t (item_key (slice_get es i)) y v q in
      subst (λ (z : Option ℕ). InTurn (each a x z b) (Many es ∷ []) (key_in (items es) i) y v) (sym k.key_is)
      (subst (λ (z : ℕ). InTurn (each a x (Some k.key_node) b) (Many es ∷ []) (key_in (items es) i) z v) k.node_is (each_key (sym k.value_is)))
]

module _ (s : Core) (K : Knowledge) (T : Taken) (path : Path) (g : Sight) (sees : SeesBy s K T path g) where
  pub by_given : (header : Action) (vs : List Value) → (c : Chosen) → chosen_in g header ≡ Some c → ReadyBy s K T path header vs → (i : ℕ) → i < count_in c → (y : ℕ) (v : Scalar)
      → variable_in (turn_variables header c i) y ≡ Some v → InTurn header vs (key_in c i) y v
  by_given (range lo hi st x t b) vs c e (by_cells known decides) i l y v h =
      let seen = cells_all s K T path g sees (outer_cells (range lo hi st x t b)) vs known in
      let chosen : turns_of (bounds vs) ≡ Some c = sym (ap (chosen_from (range lo hi st x t b)) seen) ∙ e in
      let r = turned vs c chosen in
      let found = subst (λ (z : Chosen). variable_in (turn_variables (range lo hi st x t b) z i) y ≡ Some v) (sym r.chosen_is) h in
      subst (λ (z : Chosen). InTurn (range lo hi st x t b) vs (key_in z i) y v) r.chosen_is (given_range lo hi st x t b vs r.range_is r.number r.bounds_are i y v found)
  by_given (each a x t b) vs c e (by_source {es = es} closed elements) i l y v h =
      let same : es ≡ g.elements a = sees.elements_all a es closed elements in
      let chosen : Some (items es) ≡ Some c = ap (λ (z : List Element). Some (items z)) same ∙ sym (ap (λ (z : Bool). items_seen z (g.elements a)) (sees.closed_all a closed)) ∙ e in
      let is : items es ≡ c = cc (chosen) in
      let below : i < length es = subst (λ (z : Chosen). i < count_in z) (sym is) l in
      let found = subst (λ (z : Chosen). variable_in (turn_variables (each a x t b) z i) y ≡ Some v) (sym is) h in
      subst (λ (z : Chosen). InTurn (each a x t b) (Many es ∷ []) (key_in z i) y v) is (given_each a x t b es i below y v found)
  by_given (each a x t b) vs c e (by_cells known decides) i l y v h = elim decides [ ]
  by_given _ vs c e ready i l y v h = absurd (cc (h))
