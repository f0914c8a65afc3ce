-- Code that passes the test is whole.
use Rattle.std.proofs.Common.{◌≡◌, ◌⊎◌, inl, inr, ℕ, zero, suc, Bool, true, false, not, ◌&&◌, ◌||◌, List, [], ◌∷◌, refl, sym, ap, ◌∙◌, subst, Option, None, Some, arith}
use Rattle.std.specs.Prelude.{nat_eq, nat_lt, ◌<◌, length}
use Rattle.dataflow.specs.System.{Distinct, In}
use Rattle.std.specs.List.{list_all}
use Rattle.std.proofs.lemmas.Bool.{or_cases, and_parts}
use Rattle.task_code.proofs.Equal.{every_in, name_same, name_sound, nat_same, nat_sound, variable_same, variable_sound}
use Rattle.task_code.specs.Check.{distinct_numbers, distinct_variables, every_at, has_outputs, is_body, is_code, is_covered, is_declared, is_entry, is_fit, is_fit_if_loop, is_fit_loop, is_fixed, is_inside, is_main, is_opened_by, is_script, is_seen, name_in, number_in, outputs_apart, reads_covered, same_argument, variable_in}
use Rattle.task_code.specs.Code.{Argument, Body, ByCalls, ByMain, ByStep, ByWait, Calling, Code, Entry, Fixed, InPlace, Local, Loop, Name, Named, Need, Opener, Owned, Parameter, Through, Variable, Way, argument, blank_body, blank_entry, body, call_at, entry, here, is_array_name, loop_of, loop_variables, needed, nth, targets, ways}
use Rattle.task_code.specs.Places.{name_eq, variable_eq}
use Rattle.task_code.specs.Shape.{is_shaped}
use Rattle.task_code.specs.Whole.{Declared, Fits, FitsLoop, Fixes, IsCode, OpenedBy, SeenFrom}

below_sound : (a b : ℕ) → nat_lt a b ≡ true → a < b
below_sound a b h = grind arith

pub true_or : (a b : Bool) → (a ≡ true) ⊎ (b ≡ true) → (a || b) ≡ true
true_or true b h = refl
true_or false b (inl h) = absurd (cc)
true_or false b (inr h) = h

pub not_true : (a : Bool) → not a ≡ true → a ≡ true → ⊥
not_true true h k = absurd (cc)
not_true false h k = absurd (cc)

not_both : (a : Bool) → a ≡ true → a ≡ false → ⊥
not_both a h k = (let n : true ≡ false = sym h ∙ k in absurd (cc))

pub name_in_sound : (r : Name) (rs : List Name) → name_in r rs ≡ true → In r rs
name_in_sound r [] h = absurd (cc)
name_in_sound r (s ∷ ss) h = elim (or_cases (name_eq r s) (name_in r ss) h) [ inl p ↦ inl (name_sound r s p) | inr q ↦ inr (name_in_sound r ss q) ]

pub in_name_in : (r : Name) (rs : List Name) → In r rs → name_in r rs ≡ true
in_name_in r [] h = absurd h
in_name_in r (s ∷ ss) h =
    true_or (name_eq r s) (name_in r ss) (elim h [ inl p ↦ inl (subst (λ (x : Name). name_eq r x ≡ true) p (name_same r)) | inr i ↦ inr (in_name_in r ss i) ])

pub variable_in_sound : (v : Variable) (vs : List Variable) → variable_in v vs ≡ true → In v vs
variable_in_sound v [] h = absurd (cc)
variable_in_sound v (w ∷ ws) h = elim (or_cases (variable_eq v w) (variable_in v ws) h) [ inl p ↦ inl (variable_sound v w p) | inr q ↦ inr (variable_in_sound v ws q) ]

pub in_variable_in : (v : Variable) (vs : List Variable) → In v vs → variable_in v vs ≡ true
in_variable_in v [] h = absurd h
in_variable_in v (w ∷ ws) h =
    true_or (variable_eq v w) (variable_in v ws) (elim h [ inl p ↦ inl (subst (λ (x : Variable). variable_eq v x ≡ true) p (variable_same v)) | inr i ↦ inr (in_variable_in v ws i) ])

pub in_number_in : (n : ℕ) (ns : List ℕ) → In n ns → number_in n ns ≡ true
in_number_in n [] h = absurd h
in_number_in n (m ∷ ms) h =
    true_or (nat_eq n m) (number_in n ms) (elim h [ inl p ↦ inl (subst (λ (x : ℕ). nat_eq n x ≡ true) p (nat_same n)) | inr i ↦ inr (in_number_in n ms i) ])

distinct_numbers_sound : (ns : List ℕ) → distinct_numbers ns ≡ true → Distinct ns
distinct_numbers_sound [] h = tt
distinct_numbers_sound (n ∷ ns) h =
    let x = and_parts (not (number_in n ns)) (distinct_numbers ns) h in
    (λ i. not_true (number_in n ns) x.0 (in_number_in n ns i), distinct_numbers_sound ns x.1)

distinct_variables_sound : (vs : List Variable) → distinct_variables vs ≡ true → Distinct vs
distinct_variables_sound [] h = tt
distinct_variables_sound (v ∷ vs) h =
    let x = and_parts (not (variable_in v vs)) (distinct_variables vs) h in
    (λ i. not_true (variable_in v vs) x.0 (in_variable_in v vs i), distinct_variables_sound vs x.1)

pub every_at_sound : {X : Type 0} (d : X) (f : ℕ → X → Bool) (xs : List X) → every_at f xs ≡ true → (i : ℕ) → (f i (nth d xs i) ≡ true) ⊎ (nth d xs i ≡ d)
every_at_sound d f [] h i = inr refl
every_at_sound d f (x ∷ xs) h zero = inl (and_parts (f 0 x) (every_at (λ i. f (suc i)) xs) h).0
every_at_sound d f (x ∷ xs) h (suc i) = every_at_sound d (λ i. f (suc i)) xs (and_parts (f 0 x) (every_at (λ i. f (suc i)) xs) h).1 i

module _ (C : Code) where
  declared_named : (b up : ℕ) (x : Owned) → is_declared C b (record { up = up; owned = x }) ≡ true → Declared C b (record { up = up; owned = x })
  declared_named b zero (Local v) h = record { variable = v; is = refl; made = variable_in_sound v (body C b).makes h }
  declared_named b zero (Parameter k a) h = absurd (cc)
  declared_named b (suc up) x h = absurd (cc)

  declared_sound : (b : ℕ) (r : Name) → is_declared C b r ≡ true → Declared C b r
  declared_sound b r h = declared_named b r.up r.owned h

  seen_named : (rights : Entry → List Name) (i : ℕ) (w : Way) (up : ℕ) (x : Owned) → is_seen C (rights (entry C i)) (entry C i).offset w (record { up = up; owned = x }) ≡ true → SeenFrom C rights i w (record { up = up; owned = x })
  seen_named rights i InPlace up x h = record { outside = record { up = up; owned = x }; seen = refl; right = name_in_sound _ (rights (entry C i)) h }
  seen_named rights i Through zero x h = absurd (cc)
  seen_named rights i Through (suc up) x h = record { outside = record { up = up; owned = x }; seen = refl; right = name_in_sound _ (rights (entry C i)) h }
  seen_named rights i Calling zero (Local v) h = absurd (cc)
  seen_named rights i Calling zero (Parameter k a) h = by (argument C (entry C i).offset k a) refl h
    where
      by : (o : Option Argument) → argument C (entry C i).offset k a ≡ o → elim o [ None ↦ false | Some x ↦ elim x [ Named s ↦ name_in s (rights (entry C i)) | Fixed v ↦ false ] ] ≡ true → SeenFrom C rights i Calling (record { up = 0; owned = Parameter k a })
      by None e h = absurd (cc)
      by (Some (Fixed v)) e h = absurd (cc)
      by (Some (Named s)) e h = record { outside = s; seen = (k, a, refl, e); right = name_in_sound s (rights (entry C i)) h }
  seen_named rights i Calling (suc up) x h = absurd (cc)

  covered_sound : (rights : Entry → List Name) (i : ℕ) (w : Way) (b : ℕ) → is_covered C rights (entry C i) w b ≡ true → (j : ℕ) (r : Name) → In j (body C b).entries → In r (rights (entry C j)) → Declared C b r ⊎ SeenFrom C rights i w r
  covered_sound rights i w b h j r ij ir =
      let x = every_in (λ j. list_all (λ r. is_declared C b r || is_seen C (rights (entry C i)) (entry C i).offset w r) (rights (entry C j))) (body C b).entries h j ij in
      let y = every_in (λ r. is_declared C b r || is_seen C (rights (entry C i)) (entry C i).offset w r) (rights (entry C j)) x r ir in
      elim (or_cases (is_declared C b r) (is_seen C (rights (entry C i)) (entry C i).offset w r) y) [
        | inl d ↦ inl (declared_sound b r d)
        | inr s ↦ inr (seen_named rights i w r.up r.owned s)
      ]

  fixed_named : (i : ℕ) (w : Way) (up : ℕ) (x : Owned) → is_fixed C (entry C i).offset w (record { up = up; owned = x }) ≡ true → Fixes C (entry C i).offset w (record { up = up; owned = x })
  fixed_named i InPlace up x h = absurd (cc)
  fixed_named i Through up x h = absurd (cc)
  fixed_named i Calling zero (Local v) h = absurd (cc)
  fixed_named i Calling zero (Parameter k a) h = by (argument C (entry C i).offset k a) refl h
    where
      by : (o : Option Argument) → argument C (entry C i).offset k a ≡ o → elim o [ None ↦ false | Some x ↦ elim x [ Named s ↦ false | Fixed v ↦ true ] ] ≡ true → Fixes C (entry C i).offset Calling (record { up = 0; owned = Parameter k a })
      by None e h = absurd (cc)
      by (Some (Named s)) e h = absurd (cc)
      by (Some (Fixed v)) e h = (k, a, v, refl, e)
  fixed_named i Calling (suc up) x h = absurd (cc)

  reads_sound : (i : ℕ) (w : Way) (b : ℕ) → reads_covered C (entry C i) w b ≡ true → (j : ℕ) (r : Name) → In j (body C b).entries → In r (entry C j).reads → (Declared C b r ⊎ SeenFrom C (λ e. e.reads) i w r) ⊎ Fixes C (entry C i).offset w r
  reads_sound i w b h j r ij ir =
      let m = (entry C i).offset in
      let x = every_in (λ j. list_all (λ r. (is_declared C b r || is_seen C (entry C i).reads m w r) || is_fixed C m w r) (entry C j).reads) (body C b).entries h j ij in
      let y = every_in (λ r. (is_declared C b r || is_seen C (entry C i).reads m w r) || is_fixed C m w r) (entry C j).reads x r ir in
      elim (or_cases (is_declared C b r || is_seen C (entry C i).reads m w r) (is_fixed C m w r) y) [
        | inl z ↦ elim (or_cases (is_declared C b r) (is_seen C (entry C i).reads m w r) z) [
          | inl d ↦ inl (inl (declared_sound b r d))
          | inr s ↦ inl (inr (seen_named (λ e. e.reads) i w r.up r.owned s))
        ]
        | inr f ↦ inr (fixed_named i w r.up r.owned f)
      ]

  opened_sound : (i : ℕ) (w : Way) (o : Opener) → is_opened_by C i (entry C i) w o ≡ true → OpenedBy C i w o
  opened_sound i InPlace ByMain h = absurd (cc)
  opened_sound i InPlace (ByWait n) h = ap ByWait (nat_sound n i h)
  opened_sound i InPlace (ByStep n) h = absurd (cc)
  opened_sound i InPlace ByCalls h = absurd (cc)
  opened_sound i Through ByMain h = absurd (cc)
  opened_sound i Through (ByWait n) h = absurd (cc)
  opened_sound i Through (ByStep n) h = ap ByStep (nat_sound n i h)
  opened_sound i Through ByCalls h = absurd (cc)
  opened_sound i Calling ByMain h = absurd (cc)
  opened_sound i Calling (ByWait n) h = absurd (cc)
  opened_sound i Calling (ByStep n) h = absurd (cc)
  opened_sound i Calling ByCalls h = (refl, nat_sound (call_at C (entry C i).offset) i h)

  inside_sound : (i : ℕ) (w : Way) (b : ℕ) → is_inside C (entry C i) w b ≡ true → w ≡ InPlace → (v : Variable) → In v (body C b).makes → In (here v) (entry C i).writes → ⊥
  inside_sound i InPlace b h e v iv iw =
      not_true (name_in (here v) (entry C i).writes) (every_in (λ v. not (name_in (here v) (entry C i).writes)) (body C b).makes h v iv) (in_name_in (here v) (entry C i).writes iw)
  inside_sound i Through b h e v iv iw = absurd (cc)
  inside_sound i Calling b h e v iv iw = absurd (cc)

  outputs_sound : (i : ℕ) (w : Way) (b : ℕ) → has_outputs C (entry C i) w b ≡ true → w ≡ Calling → (j j' k k' : ℕ) (r : Name) → In j (body C b).entries → In j' (body C b).entries → In (record { up = 0; owned = Parameter k false }) (entry C j).writes → In (record { up = 0; owned = Parameter k' false }) (entry C j').writes → argument C (entry C i).offset k false ≡ Some (Named r) → argument C (entry C i).offset k' false ≡ Some (Named r) → k ≡ k'
  outputs_sound i InPlace b h e j j' k k' r ij ij' ik ik' ak ak' = absurd (cc)
  outputs_sound i Through b h e j j' k k' r ij ij' ik ik' ak ak' = absurd (cc)
  outputs_sound i Calling b h e j j' k k' r ij ij' ik ik' ak ak' =
      let es = (body C b).entries in
      let m = (entry C i).offset in
      let x1 = every_in (λ j. list_all (λ j'. list_all (λ r. list_all (λ s. outputs_apart C m r s) (entry C j').writes) (entry C j).writes) es) es h j ij in
      let x2 = every_in (λ j'. list_all (λ r. list_all (λ s. outputs_apart C m r s) (entry C j').writes) (entry C j).writes) es x1 j' ij' in
      let x3 = every_in (λ r. list_all (λ s. outputs_apart C m r s) (entry C j').writes) (entry C j).writes x2 (record { up = 0; owned = Parameter k false }) ik in
      let x4 = every_in (λ s. outputs_apart C m (record { up = 0; owned = Parameter k false }) s) (entry C j').writes x3 (record { up = 0; owned = Parameter k' false }) ik' in
      elim (or_cases (nat_eq k k') (not (same_argument (argument C m k false) (argument C m k' false))) x4) [
        | inl p ↦ nat_sound k k' p
        | inr n ↦ absurd (not_true (same_argument (argument C m k false) (argument C m k' false)) n (subst (λ (o : Option Argument). same_argument o (argument C m k' false) ≡ true) (sym ak) (subst (λ (o : Option Argument). same_argument (Some (Named r)) o ≡ true) (sym ak') (name_same r))))
      ]

  fits_sound : (i : ℕ) (w : Way) (b : ℕ) → is_fit C i (entry C i) (w, b) ≡ true → Fits C i w b
  fits_sound i w b h =
      let e = entry C i in
      let x = and_parts (is_opened_by C i e w (body C b).opener) _ h in
      let y = and_parts (reads_covered C e w b) _ x.1 in
      let z = and_parts (is_covered C (λ e. e.writes) e w b) _ y.1 in
      let u = and_parts (is_inside C e w b) (has_outputs C e w b) z.1 in
      record {
        opened = opened_sound i w (body C b).opener x.0;
        reads = reads_sound i w b y.0;
        writes = covered_sound (λ e. e.writes) i w b z.0;
        inside = inside_sound i w b u.0;
        outputs = outputs_sound i w b u.1;
      }

  loop_sound : (i : ℕ) (l : Loop) → is_fit_loop C (entry C i) l ≡ true → FitsLoop C i l
  loop_sound i l h =
      let x = and_parts (list_all is_array_name (entry C i).writes) _ h in
      let y = and_parts (list_all (λ v. variable_in v (body C l.body).makes) (loop_variables l)) _ x.1 in
      let z = and_parts (distinct_variables (loop_variables l)) _ y.1 in
      record {
        arrays = λ r ir sc. not_both (is_array_name r) (every_in is_array_name (entry C i).writes x.0 r ir) sc;
        made = λ v iv. variable_in_sound v (body C l.body).makes (every_in (λ v. variable_in v (body C l.body).makes) (loop_variables l) y.0 v iv);
        distinct = distinct_variables_sound (loop_variables l) z.0;
        kept = λ v j iv ij iw. not_true (name_in (here v) (entry C j).writes) (every_in (λ j. not (name_in (here v) (entry C j).writes)) (body C l.body).entries (every_in (λ v. list_all (λ j. not (name_in (here v) (entry C j).writes)) (body C l.body).entries) (loop_variables l) z.1 v iv) j ij) (in_name_in (here v) (entry C j).writes iw);
      }

  main_sound : (o : Opener) → is_main o ≡ true → o ≡ ByMain
  main_sound ByMain h = refl
  main_sound (ByWait i) h = absurd (cc)
  main_sound (ByStep i) h = absurd (cc)
  main_sound ByCalls h = absurd (cc)

  module _ (h : is_code C ≡ true) where
    parts : (is_script C ≡ true) × (every_at (is_entry C) C.entries ≡ true) × (every_at (is_body C) C.bodies ≡ true)
    parts =
        let x = and_parts (is_script C) _ h in
        let y = and_parts (every_at (is_entry C) C.entries) (every_at (is_body C) C.bodies) x.1 in
        (x.0, y.0, y.1)

    script : (is_main (body C 0).opener ≡ true) × (list_all (λ j. list_all (is_declared C 0) (entry C j).reads) (body C 0).entries ≡ true) × (list_all (λ j. list_all (is_declared C 0) (entry C j).writes) (body C 0).entries ≡ true)
    script =
        let x = and_parts (is_main (body C 0).opener) _ parts.0 in
        let y = and_parts (list_all (λ j. list_all (is_declared C 0) (entry C j).reads) (body C 0).entries) _ x.1 in
        (x.0, y.0, y.1)

    entry_is : (i : ℕ) → (is_entry C i (entry C i) ≡ true) ⊎ (entry C i ≡ blank_entry)
    entry_is i = every_at_sound blank_entry (is_entry C) C.entries parts.1 i

    body_is : (b : ℕ) → (is_body C b (body C b) ≡ true) ⊎ (body C b ≡ blank_body)
    body_is b = every_at_sound blank_body (is_body C) C.bodies parts.2 b

    needs : (i : ℕ) (n : Need) (r : Name) → In n (entry C i).needs → In r (needed n) → In r (entry C i).reads
    needs i n r ni ri = by (entry_is i)
      where
        by : (is_entry C i (entry C i) ≡ true) ⊎ (entry C i ≡ blank_entry) → In r (entry C i).reads
        by (inl t) =
            let x = and_parts (list_all (λ n. list_all (λ r. name_in r (entry C i).reads) (needed n)) (entry C i).needs) _ (and_parts (is_shaped (entry C i)) _ t).1 in
            name_in_sound r (entry C i).reads (every_in (λ r. name_in r (entry C i).reads) (needed n) (every_in (λ n. list_all (λ r. name_in r (entry C i).reads) (needed n)) (entry C i).needs x.0 n ni) r ri)
        by (inr e) = absurd (subst (λ (x : Entry). In n x.needs) e ni)

    shape : (i : ℕ) → is_shaped (entry C i) ≡ true
    shape i = by (entry_is i)
      where
        by : (is_entry C i (entry C i) ≡ true) ⊎ (entry C i ≡ blank_entry) → is_shaped (entry C i) ≡ true
        by (inl t) = (and_parts (is_shaped (entry C i)) _ t).0
        by (inr e) = subst (λ (x : Entry). is_shaped x ≡ true) (sym e) refl

    there : (b j : ℕ) → In j (body C b).entries → j < length C.entries
    there b j ij = by (body_is b)
      where
        by : (is_body C b (body C b) ≡ true) ⊎ (body C b ≡ blank_body) → j < length C.entries
        by (inr e) = absurd (subst (λ (x : Body). In j x.entries) e ij)
        by (inl t) =
            let es = (body C b).entries in
            let x = and_parts (distinct_numbers es && list_all (λ j. nat_lt j (length C.entries)) es) _ t in
            let y = and_parts (distinct_numbers es) _ x.0 in
            let z = every_in (λ j. nat_lt j (length C.entries)) es y.1 j ij in
            below_sound j (length C.entries) z

    stores : (i : ℕ) (r : Name) → In r (targets (entry C i)) → In r (entry C i).writes
    stores i r ri = by (entry_is i)
      where
        by : (is_entry C i (entry C i) ≡ true) ⊎ (entry C i ≡ blank_entry) → In r (entry C i).writes
        by (inl t) =
            let x = and_parts (list_all (λ n. list_all (λ r. name_in r (entry C i).reads) (needed n)) (entry C i).needs) _ (and_parts (is_shaped (entry C i)) _ t).1 in
            let y = and_parts (list_all (λ r. name_in r (entry C i).writes) (targets (entry C i))) _ x.1 in
            name_in_sound r (entry C i).writes (every_in (λ r. name_in r (entry C i).writes) (targets (entry C i)) y.0 r ri)
        by (inr e) = absurd (subst (λ (x : Entry). In r (targets x)) e ri)

    fits : (i : ℕ) (w : Way) (b : ℕ) → In (w, b) (ways (entry C i).act) → Fits C i w b
    fits i w b iw = by (entry_is i)
      where
        by : (is_entry C i (entry C i) ≡ true) ⊎ (entry C i ≡ blank_entry) → Fits C i w b
        by (inl t) =
            let x = and_parts (list_all (λ n. list_all (λ r. name_in r (entry C i).reads) (needed n)) (entry C i).needs) _ (and_parts (is_shaped (entry C i)) _ t).1 in
            let y = and_parts (list_all (λ r. name_in r (entry C i).writes) (targets (entry C i))) _ x.1 in
            let z = and_parts (list_all (is_fit C i (entry C i)) (ways (entry C i).act)) _ y.1 in
            fits_sound i w b (every_in (is_fit C i (entry C i)) (ways (entry C i).act) z.0 (w, b) iw)
        by (inr e) = absurd (subst (λ (x : Entry). In (w, b) (ways x.act)) e iw)

    loops : (i : ℕ) (l : Loop) → loop_of (entry C i).act ≡ Some l → FitsLoop C i l
    loops i l el = by (entry_is i)
      where
        by : (is_entry C i (entry C i) ≡ true) ⊎ (entry C i ≡ blank_entry) → FitsLoop C i l
        by (inl t) =
            let x = and_parts (list_all (λ n. list_all (λ r. name_in r (entry C i).reads) (needed n)) (entry C i).needs) _ (and_parts (is_shaped (entry C i)) _ t).1 in
            let y = and_parts (list_all (λ r. name_in r (entry C i).writes) (targets (entry C i))) _ x.1 in
            let z = and_parts (list_all (is_fit C i (entry C i)) (ways (entry C i).act)) (is_fit_if_loop C (entry C i) (loop_of (entry C i).act)) y.1 in
            loop_sound i l (subst (λ (o : Option Loop). is_fit_if_loop C (entry C i) o ≡ true) el z.1)
        by (inr e) = (let n : ◌≡◌ {A = Option Loop} None (Some l) = sym (ap (λ (x : Entry). loop_of x.act) e) ∙ el in absurd (cc))

    distinct : (b : ℕ) → Distinct (body C b).entries
    distinct b = by (body_is b)
      where
        by : (is_body C b (body C b) ≡ true) ⊎ (body C b ≡ blank_body) → Distinct (body C b).entries
        by (inl t) = distinct_numbers_sound (body C b).entries (and_parts (distinct_numbers (body C b).entries) _ (and_parts (distinct_numbers (body C b).entries && list_all (λ j. nat_lt j (length C.entries)) (body C b).entries) _ t).0).0
        by (inr e) = subst (λ (x : Body). Distinct x.entries) (sym e) tt

    one_assigner : (b j j' : ℕ) (r : Name) → In j (body C b).entries → In j' (body C b).entries → In r (entry C j).writes → In r (entry C j').writes → is_array_name r ≡ false → j ≡ j'
    one_assigner b j j' r ij ij' ir ir' sc = by (body_is b)
      where
        by : (is_body C b (body C b) ≡ true) ⊎ (body C b ≡ blank_body) → j ≡ j'
        by (inr e) = absurd (subst (λ (x : Body). In j x.entries) e ij)
        by (inl t) =
            let es = (body C b).entries in
            let x = and_parts (distinct_numbers es && list_all (λ j. nat_lt j (length C.entries)) es) _ t in
            let y = and_parts (list_all (λ j. list_all (λ j'. list_all (λ r. nat_eq j j' || (is_array_name r || not (name_in r (entry C j').writes))) (entry C j).writes) es) es) _ x.1 in
            let x1 = every_in (λ j. list_all (λ j'. list_all (λ r. nat_eq j j' || (is_array_name r || not (name_in r (entry C j').writes))) (entry C j).writes) es) es y.0 j ij in
            let x2 = every_in (λ j'. list_all (λ r. nat_eq j j' || (is_array_name r || not (name_in r (entry C j').writes))) (entry C j).writes) es x1 j' ij' in
            let x3 = every_in (λ r. nat_eq j j' || (is_array_name r || not (name_in r (entry C j').writes))) (entry C j).writes x2 r ir in
            elim (or_cases (nat_eq j j') (is_array_name r || not (name_in r (entry C j').writes)) x3) [
              | inl p ↦ nat_sound j j' p
              | inr q ↦ elim (or_cases (is_array_name r) (not (name_in r (entry C j').writes)) q) [
                | inl a ↦ absurd (not_both (is_array_name r) a sc)
                | inr n ↦ absurd (not_true (name_in r (entry C j').writes) n (in_name_in r (entry C j').writes ir'))
              ]
            ]

    abbrev test : ℕ → Body → ℕ → Body → Bool
    test b x n y = nat_eq b n || (list_all (λ v. not (variable_in v y.makes)) x.makes && list_all (λ j. not (number_in j y.entries)) x.entries)

    -- what two bodies have in common
    bodies_apart : (b b' : ℕ) → (b ≡ b') ⊎ ((list_all (λ v. not (variable_in v (body C b').makes)) (body C b).makes ≡ true) × (list_all (λ j. not (number_in j (body C b').entries)) (body C b).entries ≡ true)) ⊎ ((body C b ≡ blank_body) ⊎ (body C b' ≡ blank_body))
    bodies_apart b b' = by (body_is b)
      where
        by_other : (test b (body C b) b' (body C b') ≡ true) ⊎ (body C b' ≡ blank_body) → (b ≡ b') ⊎ ((list_all (λ v. not (variable_in v (body C b').makes)) (body C b).makes ≡ true) × (list_all (λ j. not (number_in j (body C b').entries)) (body C b).entries ≡ true)) ⊎ ((body C b ≡ blank_body) ⊎ (body C b' ≡ blank_body))
        by_other (inr e) = inr (inr (inr e))
        by_other (inl t) =
            elim (or_cases (nat_eq b b') _ t) [
              | inl p ↦ inl (nat_sound b b' p)
              | inr q ↦ inr (inl (and_parts (list_all (λ v. not (variable_in v (body C b').makes)) (body C b).makes) _ q))
            ]

        by : (is_body C b (body C b) ≡ true) ⊎ (body C b ≡ blank_body) → (b ≡ b') ⊎ ((list_all (λ v. not (variable_in v (body C b').makes)) (body C b).makes ≡ true) × (list_all (λ j. not (number_in j (body C b').entries)) (body C b).entries ≡ true)) ⊎ ((body C b ≡ blank_body) ⊎ (body C b' ≡ blank_body))
        by (inr e) = inr (inr (inl e))
        by (inl t) =
            let es = (body C b).entries in
            let x = and_parts (distinct_numbers es && list_all (λ j. nat_lt j (length C.entries)) es) _ t in
            let y = and_parts (list_all (λ j. list_all (λ j'. list_all (λ r. nat_eq j j' || (is_array_name r || not (name_in r (entry C j').writes))) (entry C j).writes) es) es) _ x.1 in
            by_other (every_at_sound blank_body (test b (body C b)) C.bodies y.1 b')

    makes_once : (b b' : ℕ) (v : Variable) → In v (body C b).makes → In v (body C b').makes → b ≡ b'
    makes_once b b' v iv iv' =
        elim (bodies_apart b b') [
          | inl p ↦ p
          | inr (inl x) ↦ absurd (not_true (variable_in v (body C b').makes) (every_in (λ v. not (variable_in v (body C b').makes)) (body C b).makes x.0 v iv) (in_variable_in v (body C b').makes iv'))
          | inr (inr (inl e)) ↦ absurd (subst (λ (x : Body). In v x.makes) e iv)
          | inr (inr (inr e)) ↦ absurd (subst (λ (x : Body). In v x.makes) e iv')
        ]

    entries_once : (b b' j : ℕ) → In j (body C b).entries → In j (body C b').entries → b ≡ b'
    entries_once b b' j ij ij' =
        elim (bodies_apart b b') [
          | inl p ↦ p
          | inr (inl x) ↦ absurd (not_true (number_in j (body C b').entries) (every_in (λ j. not (number_in j (body C b').entries)) (body C b).entries x.1 j ij) (in_number_in j (body C b').entries ij'))
          | inr (inr (inl e)) ↦ absurd (subst (λ (x : Body). In j x.entries) e ij)
          | inr (inr (inr e)) ↦ absurd (subst (λ (x : Body). In j x.entries) e ij')
        ]

    pub code_checked : IsCode C
    code_checked = record {
      script = main_sound (body C 0).opener script.0;
      script_reads = λ j r ij ir. declared_sound 0 r (every_in (is_declared C 0) (entry C j).reads (every_in (λ j. list_all (is_declared C 0) (entry C j).reads) (body C 0).entries script.1 j ij) r ir);
      script_writes = λ j r ij ir. declared_sound 0 r (every_in (is_declared C 0) (entry C j).writes (every_in (λ j. list_all (is_declared C 0) (entry C j).writes) (body C 0).entries script.2 j ij) r ir);
      shape = shape;
      there = there;
      needs = needs;
      stores = stores;
      fits = fits;
      loops = loops;
      makes_once = makes_once;
      entries_once = entries_once;
      entries_distinct = distinct;
      one_assigner = one_assigner;
    }
