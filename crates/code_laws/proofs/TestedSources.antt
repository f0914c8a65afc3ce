-- The test of sources and of cells is right.
use Rattle.std.proofs.Common.{◌≡◌, ◌⊎◌, inl, inr, ℕ, zero, suc, ◌<◌, true, false, List, [], ◌∷◌, refl, sym, ◌∙◌, subst, Option, None, Some, arith}
use Rattle.std.specs.Prelude.{◌&&◌, ◌||◌, not, nat_lt}
use Rattle.std.specs.List.{list_all, list_any}
use Rattle.std.proofs.lemmas.Bool.{or_cases, and_parts}
use Rattle.dataflow.specs.System.{In}
use Rattle.task_code.specs.Code.{Argument, Body, ByCalls, ByMain, ByStep, ByWait, Calling, Code, Entry, Fixed, InPlace, Local, Loop, Name, Named, Opener, Owned, Parameter, Through, Variable, Way, argument, blank_body, blank_entry, body, entry, here, is_array_name, loop_of, loop_variables, scalar, stored_of, ways}
use Rattle.task_code.specs.Check.{every_at, is_seen, name_in}
use Rattle.task_code.specs.Exact.{needs_of}
use Rattle.task_code.specs.Whole.{Seen}
use Rattle.task_code.proofs.Checked.{every_at_sound, in_name_in, name_in_sound, not_true, variable_in_sound}
use Rattle.task_code.proofs.Equal.{every_in}
use Rattle.code_laws.specs.Sources.{CellsFollow, FindsSources, HandsOn, IsAssigned, IsTurns, always_opens, is_cell}
use Rattle.code_laws.specs.Tested.{hands_on, has_sources, in_loop, is_behind, is_handed, is_supplied, is_turn}
use Rattle.code_laws.proofs.Left.{any_in}

below : (a b : ℕ) → nat_lt a b ≡ true → a < b
below a b h = grind arith

module _ (C : Code) where
  -- what the name means outside, among these
  record Outside (names : List Name) (offset : ℕ) (w : Way) (r : Name) : Type 0 where
    name : Name
    there : In name names
    seen : Seen C offset w r name

  seen_named : (names : List Name) (offset : ℕ) (w : Way) (up : ℕ) (x : Owned) → is_seen C names offset w (record { up = up; owned = x }) ≡ true → Outside names offset w (record { up = up; owned = x })
  seen_named names offset InPlace up x h = record { name = record { up = up; owned = x }; there = name_in_sound _ names h; seen = refl }
  seen_named names offset Through zero x h = absurd (cc)
  seen_named names offset Through (suc up) x h = record { name = record { up = up; owned = x }; there = name_in_sound _ names h; seen = refl }
  seen_named names offset Calling zero (Local v) h = absurd (cc)
  seen_named names offset Calling zero (Parameter k a) h = by (argument C offset k a) refl h
    where
      by : (o : Option Argument) → argument C offset k a ≡ o → elim o [ None ↦ false | Some x ↦ elim x [ Named s ↦ name_in s names | Fixed v ↦ false ] ] ≡ true → Outside names offset Calling (record { up = 0; owned = Parameter k a })
      by None e h = absurd (cc)
      by (Some (Fixed v)) e h = absurd (cc)
      by (Some (Named s)) e h = record { name = s; there = name_in_sound s names h; seen = (k, a, refl, e) }
  seen_named names offset Calling (suc up) x h = absurd (cc)

  handed_on : (i : ℕ) (r : Name) (w : Way) (b : ℕ) → hands_on C (entry C i) r (w, b) ≡ true → HandsOn C i w b r
  handed_on i r w b h =
      let j = any_in (λ j. list_any (is_seen C (r ∷ []) (entry C i).offset w) (entry C j).writes) (body C b).entries h in
      let n = any_in (is_seen C (r ∷ []) (entry C i).offset w) (entry C j.0).writes j.2 in
      let o = seen_named (r ∷ []) (entry C i).offset w n.0.up n.0.owned n.2 in
      let same : o.name ≡ r = elim o.there [ inl q ↦ q | inr z ↦ absurd z ] in
      record { holder = j.0; there = j.1; inside = n.0; seen = subst (λ (x : Name). Seen C (entry C i).offset w n.0 x) same o.seen; right = n.1 }

  turned : (b : ℕ) (v : Variable) (o : Opener) → (body C b).opener ≡ o → is_turn C v o ≡ true → IsTurns C b v
  turned b v ByMain e h = absurd (cc)
  turned b v (ByWait i) e h = absurd (cc)
  turned b v ByCalls e h = absurd (cc)
  turned b v (ByStep i) e h = by (loop_of (entry C i).act) refl h
    where
      by : (l : Option Loop) → loop_of (entry C i).act ≡ l → in_loop v l ≡ true → IsTurns C b v
      by None q h = absurd (cc)
      by (Some l) q h = record { opener = i; opens = e; loop = l; loops = q; variable = variable_in_sound v (loop_variables l) h }

  module _ (t : has_sources C ≡ true) where
    first : every_at (λ b x. list_all (is_supplied C x) x.makes) C.bodies ≡ true
    first = (and_parts (every_at (λ b x. list_all (is_supplied C x) x.makes) C.bodies) _ t).0

    others : (every_at (λ i e. list_all (is_handed C e) e.writes) C.entries ≡ true) × (every_at (λ i e. every_at (is_behind C i e) C.entries) C.entries ≡ true)
    others = and_parts (every_at (λ i e. list_all (is_handed C e) e.writes) C.entries) _ (and_parts (every_at (λ b x. list_all (is_supplied C x) x.makes) C.bodies) _ t).1

    assigned : (b j : ℕ) (v : Variable) → In v (body C b).makes → v.array ≡ false → In j (body C b).entries → In (here v) (entry C j).reads → IsTurns C b v ⊎ IsAssigned C b v
    assigned b j v im sc ij ir = by (every_at_sound blank_body (λ b x. list_all (is_supplied C x) x.makes) C.bodies first b)
      where
        read : list_all (λ j. not (name_in (here v) (entry C j).reads)) (body C b).entries ≡ true → ⊥
        read h = not_true (name_in (here v) (entry C j).reads) (every_in (λ j. not (name_in (here v) (entry C j).reads)) (body C b).entries h j ij) (in_name_in (here v) (entry C j).reads ir)

        written : list_any (λ k. name_in (here v) (entry C k).writes) (body C b).entries ≡ true → IsAssigned C b v
        written h =
            let k = any_in (λ k. name_in (here v) (entry C k).writes) (body C b).entries h in
            record { assigner = k.0; there = k.1; right = name_in_sound (here v) (entry C k.0).writes k.2 }

        by_source : (list_any (λ k. name_in (here v) (entry C k).writes) (body C b).entries ≡ true) ⊎ (list_all (λ j. not (name_in (here v) (entry C j).reads)) (body C b).entries ≡ true) → IsTurns C b v ⊎ IsAssigned C b v
        by_source (inl h) = inr (written h)
        by_source (inr h) = absurd (read h)

        by_turn : (is_turn C v (body C b).opener ≡ true) ⊎ ((list_any (λ k. name_in (here v) (entry C k).writes) (body C b).entries || list_all (λ j. not (name_in (here v) (entry C j).reads)) (body C b).entries) ≡ true) → IsTurns C b v ⊎ IsAssigned C b v
        by_turn (inl h) = inl (turned b v (body C b).opener refl h)
        by_turn (inr h) = by_source (or_cases (list_any (λ k. name_in (here v) (entry C k).writes) (body C b).entries) _ h)

        by_array : (v.array ≡ true) ⊎ ((is_turn C v (body C b).opener || (list_any (λ k. name_in (here v) (entry C k).writes) (body C b).entries || list_all (λ j. not (name_in (here v) (entry C j).reads)) (body C b).entries)) ≡ true) → IsTurns C b v ⊎ IsAssigned C b v
        by_array (inl h) = (let q = sym h ∙ sc in absurd (cc))
        by_array (inr h) = by_turn (or_cases (is_turn C v (body C b).opener) _ h)

        by : (list_all (is_supplied C (body C b)) (body C b).makes ≡ true) ⊎ (body C b ≡ blank_body) → IsTurns C b v ⊎ IsAssigned C b v
        by (inl h) = by_array (or_cases v.array _ (every_in (is_supplied C (body C b)) (body C b).makes h v im))
        by (inr e) = absurd (subst (λ (x : Body). In v x.makes) e im)

    abbrev Handed : ℕ → Name → Type 0
    Handed i r = In r (stored_of (entry C i).node (entry C i).act) ⊎ ((always_opens (entry C i).act ≡ true) × ((w : Way) (b : ℕ) → In (w, b) (ways (entry C i).act) → HandsOn C i w b r))

    handed : (i : ℕ) (r : Name) → In r (entry C i).writes → is_array_name r ≡ false → Handed i r
    handed i r ir n = by (every_at_sound blank_entry (λ i e. list_all (is_handed C e) e.writes) C.entries others.0 i)
      where
        further : (always_opens (entry C i).act && list_all (hands_on C (entry C i) r) (ways (entry C i).act)) ≡ true → Handed i r
        further h =
            let g = and_parts (always_opens (entry C i).act) (list_all (hands_on C (entry C i) r) (ways (entry C i).act)) h in
            inr (g.0, λ w b iw. handed_on i r w b (every_in (hands_on C (entry C i) r) (ways (entry C i).act) g.1 (w, b) iw))

        by_store : (name_in r (stored_of (entry C i).node (entry C i).act) ≡ true) ⊎ ((always_opens (entry C i).act && list_all (hands_on C (entry C i) r) (ways (entry C i).act)) ≡ true) → Handed i r
        by_store (inl h) = inl (name_in_sound r (stored_of (entry C i).node (entry C i).act) h)
        by_store (inr h) = further h

        by_array : (is_array_name r ≡ true) ⊎ ((name_in r (stored_of (entry C i).node (entry C i).act) || (always_opens (entry C i).act && list_all (hands_on C (entry C i) r) (ways (entry C i).act))) ≡ true) → Handed i r
        by_array (inl h) = (let q = sym h ∙ n in absurd (cc))
        by_array (inr h) = by_store (or_cases (name_in r (stored_of (entry C i).node (entry C i).act)) _ h)

        by : (list_all (is_handed C (entry C i)) (entry C i).writes ≡ true) ⊎ (entry C i ≡ blank_entry) → Handed i r
        by (inl h) = by_array (or_cases (is_array_name r) _ (every_in (is_handed C (entry C i)) (entry C i).writes h r ir))
        by (inr e) = absurd (subst (λ (x : Entry). In r x.writes) e ir)

    blank_cell : (x : Entry) → x ≡ blank_entry → is_cell x.act ≡ true → ⊥
    blank_cell x e h = (let q = subst (λ (y : Entry). is_cell y.act ≡ true) e h in absurd (cc))

    follow : CellsFollow C
    follow i j ci cj m = by (every_at_sound blank_entry (λ i e. every_at (is_behind C i e) C.entries) C.entries others.1 i)
      where
        by_need : (not (name_in (here (scalar (entry C j).node)) (needs_of (entry C i))) ≡ true) ⊎ (nat_lt j i ≡ true) → j < i
        by_need (inl h) = absurd (not_true (name_in (here (scalar (entry C j).node)) (needs_of (entry C i))) h (in_name_in (here (scalar (entry C j).node)) (needs_of (entry C i)) m))
        by_need (inr h) = below j i h

        by_other : (not (is_cell (entry C j).act) ≡ true) ⊎ ((not (name_in (here (scalar (entry C j).node)) (needs_of (entry C i))) || nat_lt j i) ≡ true) → j < i
        by_other (inl h) = absurd (not_true (is_cell (entry C j).act) h cj)
        by_other (inr h) = by_need (or_cases (not (name_in (here (scalar (entry C j).node)) (needs_of (entry C i)))) (nat_lt j i) h)

        by_cell : (not (is_cell (entry C i).act) ≡ true) ⊎ ((not (is_cell (entry C j).act) || (not (name_in (here (scalar (entry C j).node)) (needs_of (entry C i))) || nat_lt j i)) ≡ true) → j < i
        by_cell (inl h) = absurd (not_true (is_cell (entry C i).act) h ci)
        by_cell (inr h) = by_other (or_cases (not (is_cell (entry C j).act)) _ h)

        by_second : (is_behind C i (entry C i) j (entry C j) ≡ true) ⊎ (entry C j ≡ blank_entry) → j < i
        by_second (inl h) = by_cell (or_cases (not (is_cell (entry C i).act)) _ h)
        by_second (inr e) = absurd (blank_cell (entry C j) e cj)

        by : (every_at (is_behind C i (entry C i)) C.entries ≡ true) ⊎ (entry C i ≡ blank_entry) → j < i
        by (inl h) = by_second (every_at_sound blank_entry (is_behind C i (entry C i)) C.entries h j)
        by (inr e) = absurd (blank_cell (entry C i) e ci)

    pub sources_found : FindsSources C × CellsFollow C
    sources_found = (record { assigned = λ b j v x. assigned b j v; handed = λ b i r x ij. handed i r }, follow)
