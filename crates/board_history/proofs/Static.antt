-- The static counts of a body are what its items hold.
use Rattle.std.proofs.Common.{◌≡◌, inl, inr, ℕ, zero, suc, ◌+◌, Bool, true, false, not, List, [], ◌∷◌, ◌++◌, map, refl, sym, ap, ◌∙◌, subst, if◌then◌else◌, arith}
use Rattle.std.specs.Prelude.{cond}
use Rattle.std.specs.List.{flat_map, filter}
use Rattle.std.proofs.lemmas.Bool.{or_cases, false_from_ne_true}
use Rattle.dataflow.specs.System.{In}
use Rattle.board_history.specs.Counts.{times, holds}
use Rattle.board_history.specs.Elements.{code_tests}
use Rattle.board_history.specs.Static.{Hold, name_times, add_hold, counted_names, names_in, held_by, AddsHolds}
use Rattle.board_history.proofs.Tests.{choose, yes_no}
use Rattle.task_code.proofs.Equal.{name_sound, name_same, place_sound, place_same, variable_sound}
use Rattle.task_code.proofs.Places.{only_here, declared_at, spot_path, spot_variable}
use Rattle.task_code.specs.Check.{is_declared, variable_in}
use Rattle.task_code.specs.Code.{Code, Local, Name, Owned, Parameter, Variable, body, entry, here}
use Rattle.task_code.specs.Effects.{Item}
use Rattle.task_code.specs.Places.{Constant, Datum, Nowhere, Place, Step, name_eq, place_at, place_eq, variable_eq}
use Rattle.task_code.specs.System.{code_system, data_among, task_reads, task_writes}

same_bool : (a b : Bool) → (a ≡ true → b ≡ true) → (b ≡ true → a ≡ true) → a ≡ b
same_bool true b f g = sym (f refl)
same_bool false true f g = g refl
same_bool false false f g = refl

one_more : (b : Bool) (n m : ℕ) → (if b then suc n else 0) + m ≡ (if b then 1 else 0) + ((if b then n else 0) + m)
one_more true n m = omega arith
one_more false n m = omega arith

behind : (x y n m : ℕ) → n ≡ y + m → x + n ≡ y + (x + m)
behind x y n m h = omega arith

module _ (C : Code) where
  -- so often these names mean the place
  abbrev pointing : List Step → Place → List Name → ℕ
  pointing p a rs = times (code_system C) code_tests a (map (place_at C p) rs)

  pointing_append : (p : List Step) (a : Place) (xs ys : List Name) → pointing p a (xs ++ ys) ≡ pointing p a xs + pointing p a ys
  pointing_append p a [] ys = omega arith
  pointing_append p a (x ∷ xs) ys = let r = pointing_append p a xs ys in omega arith

  -- literals are no data
  pub among_times : (q : List Step) (v : Variable) (ds : List Place) → times (code_system C) code_tests (Datum q v) (data_among ds) ≡ times (code_system C) code_tests (Datum q v) ds
  among_times q v [] = refl
  among_times q v (Datum p w ∷ ds) = let r = among_times q v ds in omega arith
  among_times q v (Constant c ∷ ds) = let r = among_times q v ds in omega arith
  among_times q v (Nowhere ∷ ds) = let r = among_times q v ds in omega arith

  -- the tasks of a block hold what the names of its entries mean
  writes_held : (p : List Step) (a : Place) (js : List ℕ) → holds (code_system C) code_tests (task_writes C) a (map (λ j. Item j p 0) js) ≡ pointing p a (flat_map (λ j. (entry C j).writes) js)
  writes_held p a [] = refl
  writes_held p a (j ∷ js) =
      let r = writes_held p a js in
      let x = pointing_append p a (entry C j).writes (flat_map (λ j. (entry C j).writes) js) in
      omega arith

  reads_held : (p : List Step) (q : List Step) (v : Variable) (js : List ℕ) → holds (code_system C) code_tests (task_reads C) (Datum q v) (map (λ j. Item j p 0) js) ≡ pointing p (Datum q v) (flat_map (λ j. (entry C j).reads) js)
  reads_held p q v [] = refl
  reads_held p q v (j ∷ js) =
      let r = reads_held p q v js in
      let x = pointing_append p (Datum q v) (entry C j).reads (flat_map (λ j. (entry C j).reads) js) in
      let y = among_times q v (map (place_at C p) (entry C j).reads) in
      omega arith

  -- a datum of the block itself is meant by its own name alone
  own_test : (p : List Step) (v : Variable) (r : Name) → place_eq (Datum p v) (place_at C p r) ≡ name_eq (here v) r
  own_test p v r = same_bool (place_eq (Datum p v) (place_at C p r)) (name_eq (here v) r) to from
    where
      to : place_eq (Datum p v) (place_at C p r) ≡ true → name_eq (here v) r ≡ true
      to h =
          let e : r ≡ here v = only_here C p r.up r.owned v (sym (place_sound (Datum p v) (place_at C p r) h)) in
          subst (λ (x : Name). name_eq (here v) x ≡ true) (sym e) (name_same (here v))

      from : name_eq (here v) r ≡ true → place_eq (Datum p v) (place_at C p r) ≡ true
      from h =
          let e : here v ≡ r = name_sound (here v) r h in
          subst (λ (a : Place). place_eq (Datum p v) a ≡ true) (sym (declared_at C p v) ∙ ap (place_at C p) e) (place_same (Datum p v))

  own_pointing : (p : List Step) (v : Variable) (rs : List Name) → pointing p (Datum p v) rs ≡ name_times (here v) rs
  own_pointing p v [] = refl
  own_pointing p v (r ∷ rs) = let e = own_test p v r in let ih = own_pointing p v rs in λ k. (if e k then 1 else 0) + ih k

  -- what is declared is a variable of the body
  in_variables : (v : Variable) (vs : List Variable) → variable_in v vs ≡ true → In v vs
  in_variables v [] h = yes_no h refl
  in_variables v (w ∷ vs) h = elim (or_cases (variable_eq v w) (variable_in v vs) h) [ inl p ↦ inl (variable_sound v w p) | inr i ↦ inr (in_variables v vs i) ]

  pub declared_of : (b up : ℕ) (x : Owned) → is_declared C b (record { up = up; owned = x }) ≡ true → (v : Variable) × In v (body C b).makes × (record { up = up; owned = x } ≡ here v)
  declared_of b zero (Local v) h = (v, in_variables v (body C b).makes h, refl)
  declared_of b zero (Parameter k a) h = yes_no h refl
  declared_of b (suc up) x h = yes_no h refl

  -- other data are meant by the other names alone
  others_pointing : (b : ℕ) (p q : List Step) (v : Variable) → (In v (body C b).makes → q ≡ p → ⊥) → (rs : List Name) → pointing p (Datum q v) rs ≡ pointing p (Datum q v) (filter (λ r. not (is_declared C b r)) rs)
  others_pointing b p q v apart [] = refl
  others_pointing b p q v apart (r ∷ rs) = by (is_declared C b r) refl (others_pointing b p q v apart rs)
    where
      by : (t : Bool) → is_declared C b r ≡ t → pointing p (Datum q v) rs ≡ pointing p (Datum q v) (filter (λ r. not (is_declared C b r)) rs) → pointing p (Datum q v) (r ∷ rs) ≡ pointing p (Datum q v) (cond (not (is_declared C b r)) (r ∷ filter (λ r. not (is_declared C b r)) rs) (filter (λ r. not (is_declared C b r)) rs))
      by false h ih =
          subst (λ (t : Bool). pointing p (Datum q v) (r ∷ rs) ≡ pointing p (Datum q v) (cond (not t) (r ∷ filter (λ r. not (is_declared C b r)) rs) (filter (λ r. not (is_declared C b r)) rs))) (sym h)
          (λ k. (if place_eq (Datum q v) (place_at C p r) then 1 else 0) + ih k)
      by true h ih =
          let d = declared_of b r.up r.owned h in
          let at : place_at C p r ≡ Datum p d.0 = ap (place_at C p) d.2 ∙ declared_at C p d.0 in
          let no : place_eq (Datum q v) (place_at C p r) ≡ false = false_from_ne_true (place_eq (Datum q v) (place_at C p r)) (λ t.
          let e : Datum q v ≡ Datum p d.0 = place_sound (Datum q v) (place_at C p r) t ∙ at in
          apart (subst (λ (w : Variable). In w (body C b).makes) (sym (spot_variable e)) d.1) (spot_path e)) in
          let zero_more : pointing p (Datum q v) (r ∷ rs) ≡ 0 + pointing p (Datum q v) rs = λ k. (if no k then 1 else 0) + pointing p (Datum q v) rs in
          let add : 0 + pointing p (Datum q v) rs ≡ pointing p (Datum q v) rs = omega arith in
          subst (λ (t : Bool). pointing p (Datum q v) (r ∷ rs) ≡ pointing p (Datum q v) (cond (not t) (r ∷ filter (λ r. not (is_declared C b r)) rs) (filter (λ r. not (is_declared C b r)) rs))) (sym h)
          (zero_more ∙ add ∙ ih)

  -- the same by a list that has each name once
  added : (p : List Step) (a : Place) (r : Name) (hs : List Hold) → held_by C p a (add_hold r hs) ≡ (if place_eq a (place_at C p r) then 1 else 0) + held_by C p a hs
  added p a r [] = refl
  added p a r (h ∷ hs) =
      choose (λ (l : List Hold). held_by C p a l ≡ (if place_eq a (place_at C p r) then 1 else 0) + held_by C p a (h ∷ hs)) (name_eq r h.name) (record { name = h.name; count = suc h.count } ∷ hs) (h ∷ add_hold r hs)
      (λ t. let e : r ≡ h.name = name_sound r h.name t in
      subst (λ (x : Name). held_by C p a (record { name = h.name; count = suc h.count } ∷ hs) ≡ (if place_eq a (place_at C p x) then 1 else 0) + held_by C p a (h ∷ hs)) (sym e)
      (one_more (place_eq a (place_at C p h.name)) h.count (held_by C p a hs)))
      (λ t. let ih = added p a r hs in
      behind (if place_eq a (place_at C p h.name) then h.count else 0) (if place_eq a (place_at C p r) then 1 else 0) (held_by C p a (add_hold r hs)) (held_by C p a hs) ih)

  tallied : (p : List Step) (a : Place) (rs : List Name) → pointing p a rs ≡ held_by C p a (counted_names rs)
  tallied p a [] = refl
  tallied p a (r ∷ rs) = let ih = tallied p a rs in let x = added p a r (counted_names rs) in (λ k. (if place_eq a (place_at C p r) then 1 else 0) + ih k) ∙ sym x

  -- opening a body adds exactly the holds of its entries
  pub adds_holds : (b : ℕ) (p : List Step) → AddsHolds C b p
  adds_holds b p = record {
    own_reads = λ v. reads_held p p v (body C b).entries ∙ own_pointing p v (names_in C (λ e. e.reads) b);
    own_writes = λ v. writes_held p (Datum p v) (body C b).entries ∙ own_pointing p v (names_in C (λ e. e.writes) b);
    outer_reads = λ q v apart. reads_held p q v (body C b).entries ∙ others_pointing b p q v apart (names_in C (λ e. e.reads) b) ∙ tallied p (Datum q v) (filter (λ r. not (is_declared C b r)) (names_in C (λ e. e.reads) b));
    outer_writes = λ q v apart. writes_held p (Datum q v) (body C b).entries ∙ others_pointing b p q v apart (names_in C (λ e. e.writes) b) ∙ tallied p (Datum q v) (filter (λ r. not (is_declared C b r)) (names_in C (λ e. e.writes) b));
  }
