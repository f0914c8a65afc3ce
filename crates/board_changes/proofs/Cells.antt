-- New data, in the words of an End.
use Rattle.std.proofs.Common.{◌≡◌, ◌∙◌, refl, sym, ap, subst, inl, inr, ℕ, zero, suc, ◌+◌, ◌<◌, Bool, true, false, List, [], ◌∷◌, length, Option, Some, None, arith}
use Rattle.std.specs.Prelude.{if◌then◌else◌}
use Rattle.std.specs.List.{slice_get}
use Rattle.std.proofs.lemmas.Bool.{cases_Bool}
use Rattle.std.proofs.lemmas.Option.{slice_get_within}
use Rattle.dataflow.specs.System.{In}
use Rattle.board_history.specs.Static.{name_times, names_in, own_count}
use Rattle.board_history.proofs.Next.{nat_same, nat_sound}
use Rattle.task_code.proofs.Equal.{variable_sound}
use Rattle.task_code.specs.Code.{Code, Name, Variable, body, here}
use Rattle.task_code.specs.Places.{variable_eq}
use Rattle.board_program.specs.Spots.{place_from}
use Rattle.board_program.specs.Tables.{first_count, is_place, own_from, own_row}
use Rattle.board_program.specs.declared.program.LocalVariable.{LocalVariable}
use Rattle.board_changes.specs.Opened.{own_of}

-- the place of a variable among some, counted from a number on
pub record PlaceAt (n : ℕ) (v : Variable) (vs : List Variable) (k : ℕ) : Type 0 where
  pub after : ℕ
  pub is : k ≡ n + after
  pub there : slice_get vs after ≡ Some v

pub place_is : (n : ℕ) (v : Variable) (vs : List Variable) (k : ℕ) → place_from n v vs ≡ Some k → PlaceAt n v vs k
place_is n v [] k e = absurd (cc)
place_is n v (w ∷ vs) k e = by (variable_eq w v) refl (λ h. place_is (suc n) v vs k h)
  where
    by : (b : Bool) → variable_eq w v ≡ b → (place_from (suc n) v vs ≡ Some k → PlaceAt (suc n) v vs k) → PlaceAt n v (w ∷ vs) k
    by true q f =
        let z : Some n ≡ Some k = sym (ap (λ b. if b then Some n else place_from (suc n) v vs) q) ∙ e in
        let h : n ≡ k = cc in
        record { after = 0; is = omega (arith, h); there = ap Some (variable_sound w v q) }
    by false q f =
        let r = f (sym (ap (λ b. if b then Some n else place_from (suc n) v vs) q) ∙ e) in
        record { after = suc r.after; is = omega (arith, r.is); there = r.there }

-- the data of variables, one after the other
own_at : (makes : List Variable) (rs ws : List Name) (n : ℕ) (vs : List Variable) (i : ℕ) (v : Variable) → slice_get vs i ≡ Some v → slice_get (own_from makes rs ws n vs) i ≡ Some (own_row makes rs ws (n + i) v)
own_at makes rs ws n [] i v e = absurd (cc)
own_at makes rs ws n (w ∷ vs) zero v e = let h : w ≡ v = cc in (ap (λ u. Some (own_row makes rs ws n u)) h ∙ ap (λ k. Some (own_row makes rs ws k v)) (plus n))
  where
    plus : (n : ℕ) → n ≡ n + 0
    plus n = omega arith
own_at makes rs ws n (w ∷ vs) (suc i) v e = own_at makes rs ws (suc n) vs i v e ∙ ap (λ k. Some (own_row makes rs ws k v)) (next n i)
  where
    next : (n i : ℕ) → suc n + i ≡ n + suc i
    next n i = omega arith

own_first : (makes : List Variable) (rs ws : List Name) (vs : List Variable) (i : ℕ) (v : Variable) → slice_get vs i ≡ Some v → slice_get (own_from makes rs ws 0 vs) i ≡ Some (own_row makes rs ws i v)
own_first makes rs ws vs i v e = own_at makes rs ws 0 vs i v e ∙ ap (λ k. Some (own_row makes rs ws k v)) (zero_plus i)
  where
    zero_plus : (i : ℕ) → 0 + i ≡ i
    zero_plus i = omega arith

own_length : (makes : List Variable) (rs ws : List Name) (n : ℕ) (vs : List Variable) → length (own_from makes rs ws n vs) ≡ length vs
own_length makes rs ws n [] = refl
own_length makes rs ws n (v ∷ vs) = ap suc (own_length makes rs ws (suc n) vs)

-- two variables at one place are one
pub same_at : (vs : List Variable) (i : ℕ) (v w : Variable) → slice_get vs i ≡ Some v → slice_get vs i ≡ Some w → v ≡ w
same_at vs i v w a b = let e : Some v ≡ Some w = sym a ∙ b in cc

module _ (C : Code) (b : ℕ) where
  pub own_count_of : length (own_of C b) ≡ length (body C b).makes
  own_count_of = own_length (body C b).makes (names_in C (λ e. e.reads) b) (names_in C (λ e. e.writes) b) 0 (body C b).makes

  -- a variable's datum, at its first place
  pub record OwnAt (v : Variable) (k : ℕ) (o : LocalVariable) : Type 0 where
    pub within : k < length (own_of C b)
    pub there : slice_get (own_of C b) k ≡ Some o
    pub variable : slice_get (body C b).makes k ≡ Some v
    pub is : o ≡ own_row (body C b).makes (names_in C (λ e. e.reads) b) (names_in C (λ e. e.writes) b) k v
    pub reads : o.reads ≡ own_count C (λ e. e.reads) b v
    pub writes : o.writes ≡ own_count C (λ e. e.writes) b v

  pub own_found : (v : Variable) (k : ℕ) → place_from 0 v (body C b).makes ≡ Some k → (o : LocalVariable) × OwnAt v k o
  own_found v k e =
      let p = place_is 0 v (body C b).makes k e in
      let there : slice_get (body C b).makes k ≡ Some v = subst (λ i. slice_get (body C b).makes i ≡ Some v) (same_place k p.after p.is) p.there in (
        own_row (body C b).makes rs ws k v,
        record {
          within = subst (λ n. k < n) (sym own_count_of) (slice_get_within (body C b).makes k v there);
          there = own_first (body C b).makes rs ws (body C b).makes k v there;
          variable = there;
          is = refl;
          reads = ap (λ q. if is_place k q then name_times (here v) rs else 0) e ∙ ap (λ t. if t then name_times (here v) rs else 0) (nat_same k);
          writes = ap (λ q. if is_place k q then name_times (here v) ws else 0) e ∙ ap (λ t. if t then name_times (here v) ws else 0) (nat_same k);
        },
      )
    where
      rs : List Name
      rs = names_in C (λ e. e.reads) b

      ws : List Name
      ws = names_in C (λ e. e.writes) b

      same_place : (k a : ℕ) → k ≡ 0 + a → a ≡ k
      same_place k a h = omega (arith, h)

  -- a datum that some entry names is one of a variable at its first place
  pub record OwnOf (i : ℕ) : Type 0 where
    pub variable : Variable
    pub declared : In variable (body C b).makes
    pub place : place_from 0 variable (body C b).makes ≡ Some i
    pub named : 0 < own_count C (λ e. e.reads) b variable + own_count C (λ e. e.writes) b variable

  pub own_back : (i : ℕ) (o : LocalVariable) → slice_get (own_of C b) i ≡ Some o → 0 < o.reads + o.writes → OwnOf i
  own_back i o e h = of (variable_at (body C b).makes i (subst (λ n. i < n) own_count_of (slice_get_within (own_of C b) i o e)))
    where
      rs : List Name
      rs = names_in C (λ e. e.reads) b

      ws : List Name
      ws = names_in C (λ e. e.writes) b

      variable_at : (vs : List Variable) (i : ℕ) → i < length vs → (v : Variable) × (slice_get vs i ≡ Some v) × In v vs
      variable_at [] i l = absurd (omega (arith, l))
      variable_at (v ∷ vs) zero l = (v, refl, inl refl)
      variable_at (v ∷ vs) (suc i) l = let r = variable_at vs i (omega (arith, l)) in (r.0, r.1, inr r.2)

      first : (v : Variable) (ns : List Name) → is_place i (place_from 0 v (body C b).makes) ≡ false → first_count (body C b).makes i v ns ≡ 0
      first v ns q = ap (λ t. if t then name_times (here v) ns else 0) q

      at_place : (r : Option ℕ) → is_place i r ≡ true → r ≡ Some i
      at_place None q = absurd (cc)
      at_place (Some k) q = ap Some (sym (nat_sound i k q))

      of : (v : Variable) × (slice_get (body C b).makes i ≡ Some v) × In v (body C b).makes → OwnOf i
      of r =
          let z : Some (own_row (body C b).makes rs ws i r.0) ≡ Some o = sym (own_first (body C b).makes rs ws (body C b).makes i r.0 r.1) ∙ e in
          let same : own_row (body C b).makes rs ws i r.0 ≡ o = cc in
          let reads : first_count (body C b).makes i r.0 rs ≡ o.reads = ap (λ (y : LocalVariable). y.reads) same in
          let writes : first_count (body C b).makes i r.0 ws ≡ o.writes = ap (λ (y : LocalVariable). y.writes) same in
          elim (cases_Bool (is_place i (place_from 0 r.0 (body C b).makes))) [
            | inl t ↦ record {
              variable = r.0;
              declared = r.2;
              place = at_place (place_from 0 r.0 (body C b).makes) t;
              named = omega (arith, h, reads, writes, ap (λ t. if t then name_times (here r.0) rs else 0) t, ap (λ t. if t then name_times (here r.0) ws else 0) t);
            }
            | inr f ↦ absurd (omega (arith, h, reads, writes, first r.0 rs f, first r.0 ws f))
          ]
