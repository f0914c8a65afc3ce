-- Rights that cover are all that entries lead to, and exact ones are no more.
use Rattle.std.proofs.Common.{◌≡◌, ◌⊎◌, inl, inr, ℕ, zero, suc, Bool, true, false, List, [], ◌∷◌, refl, sym, ap, ◌∙◌, subst, Option, None, Some, arith}
use Rattle.std.specs.Prelude.{if◌then◌else◌, ◌&&◌}
use Rattle.std.specs.List.{list_all, flat_map}
use Rattle.std.proofs.lemmas.Bool.{and_parts}
use Rattle.dataflow.specs.System.{In}
use Rattle.dataflow.proofs.Lists.{in_split}
use Rattle.values.specs.declared.value.Scalar.{Scalar}
use Rattle.task_code.specs.Code.{Argument, Named, Fixed, Owned, Local, Parameter, Name, Entry, Code, Way, InPlace, Through, Calling, blank_entry, entry, body, argument, here, scalar, ways, targets, needed}
use Rattle.task_code.specs.Whole.{Seen, Declared, SeenFrom, Fixes, IsCode}
use Rattle.task_code.specs.Check.{name_in, is_declared}
use Rattle.task_code.specs.Exact.{needs_of, Leads, itself, through, IsExact, outward, led_to, is_exact}
use Rattle.task_code.specs.Worked.{right_without_use}
use Rattle.task_code.proofs.Equal.{every_in}
use Rattle.task_code.proofs.Rights.{in_gather}
use Rattle.task_code.proofs.Checked.{name_in_sound, every_at_sound}
use Rattle.task_code.proofs.Decided.{declared_is}

some_one : {A B : Type 0} {x : A} → ◌≡◌ {A = Option A} None (Some x) → B
some_one h = absurd (cc)

named_same : {r s : Name} → ◌≡◌ {A = Option Argument} (Some (Named r)) (Some (Named s)) → r ≡ s
named_same h = cc

named_fixed : {r : Name} {v : Scalar} {B : Type 0} → ◌≡◌ {A = Option Argument} (Some (Fixed v)) (Some (Named r)) → B
named_fixed h = absurd (cc)

up_same : {r s : Name} → ◌≡◌ {A = Name} (record { up = suc r.up; owned = r.owned }) (record { up = suc s.up; owned = s.owned }) → r ≡ s
up_same {r} {s} h =
    let a : suc r.up ≡ suc s.up = ap (λ (x : Name). x.up) h in
    let b : r.up ≡ s.up = omega arith in
    let c : r.owned ≡ s.owned = ap (λ (x : Name). x.owned) h in
    λ k. record { up = b k; owned = c k }

param_same : {k l : ℕ} {a b : Bool} → ◌≡◌ {A = Name} (record { up = 0; owned = Parameter k a }) (record { up = 0; owned = Parameter l b }) → (k ≡ l) × (a ≡ b)
param_same {k} {l} {a} {b} h =
    let o : Parameter k a ≡ Parameter l b = ap (λ (x : Name). x.owned) h in
    ((cc), (cc))

module _ (C : Code) where
  -- a name of a body has one name outside
  one_outside : (offset : ℕ) (w : Way) (q r s : Name) → Seen C offset w q r → Seen C offset w q s → r ≡ s
  one_outside offset InPlace q r s h g = sym h ∙ g
  one_outside offset Through q r s h g = up_same (sym h ∙ g)
  one_outside offset Calling q r s h g =
      let e = param_same (sym h.2 ∙ g.2) in
      let x : argument C offset g.0 g.1 ≡ Some (Named r) = subst (λ (n : ℕ). argument C offset n g.1 ≡ Some (Named r)) e.0 (subst (λ (b : Bool). argument C offset h.0 b ≡ Some (Named r)) e.1 h.3) in
      named_same (sym x ∙ g.3)

  not_fixed : (offset : ℕ) (w : Way) (q r : Name) → Seen C offset w q r → Fixes C offset w q → ⊥
  not_fixed offset InPlace q r h g = g
  not_fixed offset Through q r h g = g
  not_fixed offset Calling q r h g =
      let e = param_same (sym h.2 ∙ g.3) in
      let x : argument C offset g.0 g.1 ≡ Some (Named r) = subst (λ (n : ℕ). argument C offset n g.1 ≡ Some (Named r)) e.0 (subst (λ (b : Bool). argument C offset h.0 b ≡ Some (Named r)) e.1 h.3) in
      named_fixed (sym g.4 ∙ x)

  module _ (I : IsCode C) where
    -- whole code has each right that it has a use for
    pub reads_led : (i : ℕ) (r : Name) → Leads C needs_of i r → In r (entry C i).reads
    reads_led i r (itself _ _ h) = (let n = in_gather C needed (entry C i).needs r h in I.needs i n.0 r n.1 n.2)
    reads_led i r (through _ j b w _ q iw ij l out seen) = by ((I.fits i w b iw).reads j q ij (reads_led j q l))
      where
        by : (Declared C b q ⊎ SeenFrom C (λ e. e.reads) i w q) ⊎ Fixes C (entry C i).offset w q → In r (entry C i).reads
        by (inl (inl d)) = absurd (out d)
        by (inl (inr s)) = subst (λ (x : Name). In x (entry C i).reads) (one_outside (entry C i).offset w q s.outside r s.seen seen) s.right
        by (inr f) = absurd (not_fixed (entry C i).offset w q r seen f)

    pub writes_led : (i : ℕ) (r : Name) → Leads C targets i r → In r (entry C i).writes
    writes_led i r (itself _ _ h) = I.stores i r h
    writes_led i r (through _ j b w _ q iw ij l out seen) = by ((I.fits i w b iw).writes j q ij (writes_led j q l))
      where
        by : Declared C b q ⊎ SeenFrom C (λ e. e.writes) i w q → In r (entry C i).writes
        by (inl d) = absurd (out d)
        by (inr s) = subst (λ (x : Name). In x (entry C i).writes) (one_outside (entry C i).offset w q s.outside r s.seen seen) s.right

  -- what is found outside is seen there
  outward_sound : (offset : ℕ) (w : Way) (b : ℕ) (q r : Name) → In r (outward C offset w b q) → (Declared C b q → ⊥) × Seen C offset w q r
  outward_sound offset InPlace b q r h = by (is_declared C b q) refl h
    where
      by : (t : Bool) → is_declared C b q ≡ t → In r (if t then [] else q ∷ []) → (Declared C b q → ⊥) × (q ≡ r)
      by true e h = absurd h
      by false e h = ((λ d. (let n : true ≡ false = sym (declared_is C b q d) ∙ e in absurd (cc))), elim h [ inl p ↦ sym p | inr n ↦ absurd n ])
  outward_sound offset Through b q r h = by q.up q.owned h
    where
      by : (up : ℕ) (x : Owned) → In r (outward C offset Through b (record { up = up; owned = x })) → (Declared C b (record { up = up; owned = x }) → ⊥) × (◌≡◌ {A = Name} (record { up = up; owned = x }) (record { up = suc r.up; owned = r.owned }))
      by zero x h = absurd h
      by (suc up) x h =
          let p : r ≡ record { up = up; owned = x } = elim h [ inl p ↦ p | inr n ↦ absurd n ] in
          ((λ d. (let e : suc up ≡ 0 = ap (λ (y : Name). y.up) d.is in absurd (omega arith))), (λ k. record { up = suc (sym p k).up; owned = (sym p k).owned }))
  outward_sound offset Calling b q r h = by q.up q.owned h
    where
      by_argument : (k : ℕ) (a : Bool) (o : Option Argument) → argument C offset k a ≡ o → In r (elim o [ None ↦ [] | Some x ↦ elim x [ Named s ↦ s ∷ [] | Fixed v ↦ [] ] ]) → argument C offset k a ≡ Some (Named r)
      by_argument k a None e h = absurd h
      by_argument k a (Some (Fixed v)) e h = absurd h
      by_argument k a (Some (Named s)) e h = e ∙ ap (λ (x : Name). Some (Named x)) (sym (elim h [ inl p ↦ p | inr n ↦ absurd n ]))

      by : (up : ℕ) (x : Owned) → In r (outward C offset Calling b (record { up = up; owned = x })) → (Declared C b (record { up = up; owned = x }) → ⊥) × Seen C offset Calling (record { up = up; owned = x }) r
      by zero (Local v) h = absurd h
      by zero (Parameter k a) h =
          ((λ d. (let e : Parameter k a ≡ Local d.variable = ap (λ (y : Name). y.owned) d.is in absurd (cc))), (k, a, refl, by_argument k a (argument C offset k a) refl h))
      by (suc up) x h = absurd h

  led_sound : (own : Entry → List Name) (depth i : ℕ) (r : Name) → In r (led_to C own depth i) → Leads C own i r
  led_sound own zero i r h = itself i r h
  led_sound own (suc depth) i r h =
      elim (in_split r (own (entry C i)) _ h) [
        | inl g ↦ itself i r g
        | inr g ↦ (let s = in_gather C (λ s. flat_map (λ j. flat_map (outward C (entry C i).offset s.0 s.1) (led_to C own depth j)) (body C s.1).entries) (ways (entry C i).act) r g in
            let j = in_gather C (λ j. flat_map (outward C (entry C i).offset s.0.0 s.0.1) (led_to C own depth j)) (body C s.0.1).entries r s.2 in
            let q = in_gather C (outward C (entry C i).offset s.0.0 s.0.1) (led_to C own depth j.0) r j.2 in
            let o = outward_sound (entry C i).offset s.0.0 s.0.1 q.0 r q.2 in
            through i j.0 s.0.1 s.0.0 r q.0 s.1 j.1 (led_sound own depth j.0 q.0 q.1) o.0 o.1)
      ]

  pub exact_checked : (depth : ℕ) → is_exact C depth ≡ true → IsExact C
  exact_checked depth h = record { reads = reads; writes = writes }
    where
      test : ℕ → Entry → Bool
      test i e = list_all (λ r. name_in r (led_to C needs_of depth i)) e.reads && list_all (λ r. name_in r (led_to C targets depth i)) e.writes

      parts : (i : ℕ) → ((list_all (λ r. name_in r (led_to C needs_of depth i)) (entry C i).reads ≡ true) × (list_all (λ r. name_in r (led_to C targets depth i)) (entry C i).writes ≡ true)) ⊎ (entry C i ≡ blank_entry)
      parts i =
          elim (every_at_sound blank_entry (λ i e. list_all (λ r. name_in r (led_to C needs_of depth i)) e.reads && list_all (λ r. name_in r (led_to C targets depth i)) e.writes) C.entries h i) [
            | inl t ↦ inl (and_parts (list_all (λ r. name_in r (led_to C needs_of depth i)) (entry C i).reads) _ t)
            | inr e ↦ inr e
          ]

      reads : (i : ℕ) (r : Name) → In r (entry C i).reads → Leads C needs_of i r
      reads i r ir =
          elim (parts i) [
            | inl x ↦ led_sound needs_of depth i r (name_in_sound r (led_to C needs_of depth i) (every_in (λ r. name_in r (led_to C needs_of depth i)) (entry C i).reads x.0 r ir))
            | inr e ↦ absurd (subst (λ (x : Entry). In r x.reads) e ir)
          ]

      writes : (i : ℕ) (r : Name) → In r (entry C i).writes → Leads C targets i r
      writes i r ir =
          elim (parts i) [
            | inl x ↦ led_sound targets depth i r (name_in_sound r (led_to C targets depth i) (every_in (λ r. name_in r (led_to C targets depth i)) (entry C i).writes x.1 r ir))
            | inr e ↦ absurd (subst (λ (x : Entry). In r x.writes) e ir)
          ]

-- an entry that opens nothing leads to nothing
pub has_no_use : IsExact right_without_use → ⊥
has_no_use X = by (X.reads 0 (here (scalar 1)) (inl refl)) refl
  where
    by : {i : ℕ} {r : Name} → Leads right_without_use needs_of i r → i ≡ 0 → ⊥
    by (itself i r h) e = subst (λ (n : ℕ). In r (needs_of (entry right_without_use n))) e h
    by (through i j b w r q iw ij l out seen) e = subst (λ (n : ℕ). In (w, b) (ways (entry right_without_use n).act)) e iw
