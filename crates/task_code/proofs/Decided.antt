-- Whole code passes the test.
use Rattle.std.proofs.Common.{◌≡◌, ◌⊎◌, inl, inr, ℕ, zero, suc, ◌<◌, Bool, true, false, not, ◌&&◌, ◌||◌, List, [], ◌∷◌, refl, sym, ap, ◌∙◌, subst, Option, None, Some, length, arith}
use Rattle.std.specs.Prelude.{nat_eq, nat_lt}
use Rattle.dataflow.specs.System.{Distinct, In}
use Rattle.task_code.specs.Code.{Argument, ByMain, Calling, Code, Entry, Fixed, InPlace, Local, Loop, Name, Named, Opener, Owned, Parameter, Through, Variable, Way, argument, blank_body, blank_entry, body, call_at, entry, here, is_array_name, loop_of, loop_variables, needed, nth, targets, ways}
use Rattle.std.specs.List.{list_all}
use Rattle.std.proofs.lemmas.Bool.{and_from, or_cases, or_left, or_right}
use Rattle.task_code.specs.Shape.{is_shaped}
use Rattle.task_code.specs.Whole.{Declared, Fits, FitsLoop, Fixes, IsCode, OpenedBy, Seen, SeenFrom}
use Rattle.task_code.specs.Check.{distinct_numbers, distinct_variables, every_at, has_outputs, is_body, is_code, is_covered, is_declared, is_entry, is_fit, is_fit_if_loop, is_fit_loop, is_fixed, is_inside, is_main, is_opened_by, is_script, is_seen, name_in, number_in, outputs_apart, reads_covered, same_argument, variable_in}
use Rattle.task_code.proofs.Equal.{in_every, name_sound, nat_same, nat_sound}
use Rattle.task_code.proofs.Checked.{true_or, name_in_sound, in_name_in, variable_in_sound, in_variable_in}

-- what does not hold is not found
not_by : (a : Bool) → (a ≡ true → ⊥) → not a ≡ true
not_by true h = absurd (h refl)
not_by false h = refl

number_in_sound : (n : ℕ) (ns : List ℕ) → number_in n ns ≡ true → In n ns
number_in_sound n [] h = absurd (cc)
number_in_sound n (m ∷ ms) h = elim (or_cases (nat_eq n m) (number_in n ms) h) [ inl p ↦ inl (nat_sound n m p) | inr q ↦ inr (number_in_sound n ms q) ]

distinct_is_numbers : (ns : List ℕ) → Distinct ns → distinct_numbers ns ≡ true
distinct_is_numbers [] d = refl
distinct_is_numbers (n ∷ ns) d = and_from (not (number_in n ns)) (distinct_numbers ns) (not_by (number_in n ns) (λ h. d.0 (number_in_sound n ns h))) (distinct_is_numbers ns d.1)

distinct_is_variables : (vs : List Variable) → Distinct vs → distinct_variables vs ≡ true
distinct_is_variables [] d = refl
distinct_is_variables (v ∷ vs) d = and_from (not (variable_in v vs)) (distinct_variables vs) (not_by (variable_in v vs) (λ h. d.0 (variable_in_sound v vs h))) (distinct_is_variables vs d.1)

-- what holds of each place of a list
at_every : {X : Type 0} (d : X) (f : ℕ → X → Bool) (xs : List X) → ((i : ℕ) → f i (nth d xs i) ≡ true) → every_at f xs ≡ true
at_every d f [] h = refl
at_every d f (x ∷ xs) h = and_from (f 0 x) (every_at (λ i. f (suc i)) xs) (h 0) (at_every d (λ i. f (suc i)) xs (λ i. h (suc i)))

below_is : (a b : ℕ) → a < b → nat_lt a b ≡ true
below_is a b h = grind arith

module _ (C : Code) where
  pub declared_is : (b : ℕ) (r : Name) → Declared C b r → is_declared C b r ≡ true
  declared_is b r d = subst (λ (x : Name). is_declared C b x ≡ true) (sym d.is) (in_variable_in d.variable (body C b).makes d.made)

  seen_is : (rights : List Name) (offset : ℕ) (w : Way) (r s : Name) → Seen C offset w r s → In s rights → is_seen C rights offset w r ≡ true
  seen_is rights offset InPlace r s h i = subst (λ (x : Name). name_in x rights ≡ true) (sym h) (in_name_in s rights i)
  seen_is rights offset Through r s h i = subst (λ (x : Name). is_seen C rights offset Through x ≡ true) (sym h) (in_name_in s rights i)
  seen_is rights offset Calling r s h i = subst (λ (x : Name). is_seen C rights offset Calling x ≡ true) (sym h.2) (by (argument C offset h.0 h.1) h.3)
    where
      by : (o : Option Argument) → o ≡ Some (Named s) → elim o [ None ↦ false | Some x ↦ elim x [ Named t ↦ name_in t rights | Fixed v ↦ false ] ] ≡ true
      by None e = absurd (cc)
      by (Some (Fixed v)) e = absurd (cc)
      by (Some (Named t)) e = (let q : t ≡ s = cc in subst (λ (x : Name). name_in x rights ≡ true) (sym q) (in_name_in s rights i))

  fixes_is : (offset : ℕ) (w : Way) (r : Name) → Fixes C offset w r → is_fixed C offset w r ≡ true
  fixes_is offset InPlace r h = absurd h
  fixes_is offset Through r h = absurd h
  fixes_is offset Calling r h = subst (λ (x : Name). is_fixed C offset Calling x ≡ true) (sym h.3) (by (argument C offset h.0 h.1) h.4)
    where
      by : (o : Option Argument) → o ≡ Some (Fixed h.2) → elim o [ None ↦ false | Some x ↦ elim x [ Named t ↦ false | Fixed v ↦ true ] ] ≡ true
      by None e = absurd (cc)
      by (Some (Fixed v)) e = refl
      by (Some (Named t)) e = absurd (cc)

  opened_is : (i : ℕ) (w : Way) (o : Opener) → OpenedBy C i w o → is_opened_by C i (entry C i) w o ≡ true
  opened_is i InPlace o h = subst (λ (x : Opener). is_opened_by C i (entry C i) InPlace x ≡ true) (sym h) (nat_same i)
  opened_is i Through o h = subst (λ (x : Opener). is_opened_by C i (entry C i) Through x ≡ true) (sym h) (nat_same i)
  opened_is i Calling o h = subst (λ (x : Opener). is_opened_by C i (entry C i) Calling x ≡ true) (sym h.0) (subst (λ (n : ℕ). nat_eq (call_at C (entry C i).offset) n ≡ true) h.1 (nat_same (call_at C (entry C i).offset)))

  covered_is : (rights : Entry → List Name) (i : ℕ) (w : Way) (b : ℕ) → ((j : ℕ) (r : Name) → In j (body C b).entries → In r (rights (entry C j)) → Declared C b r ⊎ SeenFrom C rights i w r) → is_covered C rights (entry C i) w b ≡ true
  covered_is rights i w b h =
      in_every _ (body C b).entries (λ j ij. in_every _ (rights (entry C j)) (λ r ir. elim (h j r ij ir) [
        | inl d ↦ or_left (is_declared C b r) (is_seen C (rights (entry C i)) (entry C i).offset w r) (declared_is b r d)
        | inr s ↦ or_right (is_declared C b r) (is_seen C (rights (entry C i)) (entry C i).offset w r) (seen_is (rights (entry C i)) (entry C i).offset w r s.outside s.seen s.right)
      ]))

  reads_is : (i : ℕ) (w : Way) (b : ℕ) → Fits C i w b → reads_covered C (entry C i) w b ≡ true
  reads_is i w b f =
      in_every _ (body C b).entries (λ j ij. in_every _ (entry C j).reads (λ r ir. by r (f.reads j r ij ir)))
    where
      by : (r : Name) → (Declared C b r ⊎ SeenFrom C (λ e. e.reads) i w r) ⊎ Fixes C (entry C i).offset w r → ((is_declared C b r || is_seen C (entry C i).reads (entry C i).offset w r) || is_fixed C (entry C i).offset w r) ≡ true
      by r (inl (inl d)) = or_left _ _ (or_left (is_declared C b r) _ (declared_is b r d))
      by r (inl (inr s)) = or_left _ _ (or_right (is_declared C b r) _ (seen_is (entry C i).reads (entry C i).offset w r s.outside s.seen s.right))
      by r (inr x) = or_right (is_declared C b r || is_seen C (entry C i).reads (entry C i).offset w r) _ (fixes_is (entry C i).offset w r x)

  inside_is : (i : ℕ) (w : Way) (b : ℕ) → Fits C i w b → is_inside C (entry C i) w b ≡ true
  inside_is i InPlace b f = in_every _ (body C b).makes (λ v iv. not_by (name_in (here v) (entry C i).writes) (λ h. f.inside refl v iv (name_in_sound (here v) (entry C i).writes h)))
  inside_is i Through b f = refl
  inside_is i Calling b f = refl

  -- two outputs of one call are two variables, or one output
  same_named : (o p : Option Argument) → same_argument o p ≡ true → (r : Name) × (o ≡ Some (Named r)) × (p ≡ Some (Named r))
  same_named None p h = absurd (cc)
  same_named (Some (Fixed v)) p h = absurd (cc)
  same_named (Some (Named r)) None h = absurd (cc)
  same_named (Some (Named r)) (Some (Fixed v)) h = absurd (cc)
  same_named (Some (Named r)) (Some (Named s)) h = (r, refl, ap (λ (x : Name). Some (Named x)) (sym (name_sound r s h)))

  nat_by : (k l : ℕ) (c : Bool) → (c ≡ true → k ≡ l) → (nat_eq k l || not c) ≡ true
  nat_by k l true h = or_left (nat_eq k l) false (subst (λ (n : ℕ). nat_eq k n ≡ true) (h refl) (nat_same k))
  nat_by k l false h = or_right (nat_eq k l) true refl

  outputs_is : (i : ℕ) (w : Way) (b : ℕ) → Fits C i w b → has_outputs C (entry C i) w b ≡ true
  outputs_is i InPlace b f = refl
  outputs_is i Through b f = refl
  outputs_is i Calling b f =
      in_every _ es (λ j ij. in_every _ es (λ j' ij'. in_every _ (entry C j).writes (λ r ir. in_every _ (entry C j').writes (λ s is. by j j' ij ij' r.up r.owned s.up s.owned ir is))))
    where
      es : List ℕ
      es = (body C b).entries

      by : (j j' : ℕ) → In j (body C b).entries → In j' (body C b).entries → (up : ℕ) (x : Owned) (up' : ℕ) (y : Owned) → In (record { up = up; owned = x }) (entry C j).writes → In (record { up = up'; owned = y }) (entry C j').writes → outputs_apart C (entry C i).offset (record { up = up; owned = x }) (record { up = up'; owned = y }) ≡ true
      by j j' ij ij' zero (Parameter k false) zero (Parameter l false) ir is =
          nat_by k l (same_argument (argument C (entry C i).offset k false) (argument C (entry C i).offset l false)) (λ h.
          (let n = same_named (argument C (entry C i).offset k false) (argument C (entry C i).offset l false) h in
          f.outputs refl j j' k l n.0 ij ij' ir is n.1 n.2))
      by j j' ij ij' zero (Parameter k true) up' y ir is = refl
      by j j' ij ij' zero (Local v) up' y ir is = refl
      by j j' ij ij' (suc up) x up' y ir is = refl
      by j j' ij ij' zero (Parameter k false) zero (Parameter l true) ir is = refl
      by j j' ij ij' zero (Parameter k false) zero (Local v) ir is = refl
      by j j' ij ij' zero (Parameter k false) (suc up') y ir is = refl

  fits_is : (i : ℕ) (w : Way) (b : ℕ) → Fits C i w b → is_fit C i (entry C i) (w, b) ≡ true
  fits_is i w b f =
      and_from (is_opened_by C i (entry C i) w (body C b).opener) _ (opened_is i w (body C b).opener f.opened)
      (and_from (reads_covered C (entry C i) w b) _ (reads_is i w b f)
      (and_from (is_covered C (λ e. e.writes) (entry C i) w b) _ (covered_is (λ e. e.writes) i w b f.writes)
      (and_from (is_inside C (entry C i) w b) _ (inside_is i w b f) (outputs_is i w b f))))

  array_by : (a : Bool) → (a ≡ false → ⊥) → a ≡ true
  array_by true h = refl
  array_by false h = absurd (h refl)

  loop_is : (i : ℕ) (l : Loop) → FitsLoop C i l → is_fit_loop C (entry C i) l ≡ true
  loop_is i l f =
      and_from (list_all is_array_name (entry C i).writes) _ (in_every is_array_name (entry C i).writes (λ r ir. array_by (is_array_name r) (f.arrays r ir)))
      (and_from (list_all (λ v. variable_in v (body C l.body).makes) (loop_variables l)) _ (in_every _ (loop_variables l) (λ v iv. in_variable_in v (body C l.body).makes (f.made v iv)))
      (and_from (distinct_variables (loop_variables l)) _ (distinct_is_variables (loop_variables l) f.distinct)
      (in_every _ (loop_variables l) (λ v iv. in_every _ (body C l.body).entries (λ j ij. not_by (name_in (here v) (entry C j).writes) (λ h. f.kept v j iv ij (name_in_sound (here v) (entry C j).writes h)))))))

  if_loop_is : (i : ℕ) (o : Option Loop) → ((l : Loop) → o ≡ Some l → FitsLoop C i l) → is_fit_if_loop C (entry C i) o ≡ true
  if_loop_is i None h = refl
  if_loop_is i (Some l) h = loop_is i l (h l refl)

  main_is : (o : Opener) → o ≡ ByMain → is_main o ≡ true
  main_is o h = subst (λ (x : Opener). is_main x ≡ true) (sym h) refl

  module _ (I : IsCode C) where
    entry_is : (i : ℕ) → is_entry C i (entry C i) ≡ true
    entry_is i =
        and_from (is_shaped (entry C i)) _ (I.shape i)
        (and_from (list_all (λ n. list_all (λ r. name_in r (entry C i).reads) (needed n)) (entry C i).needs) _ (in_every _ (entry C i).needs (λ n ni. in_every _ (needed n) (λ r ri. in_name_in r (entry C i).reads (I.needs i n r ni ri))))
        (and_from (list_all (λ r. name_in r (entry C i).writes) (targets (entry C i))) _ (in_every _ (targets (entry C i)) (λ r ri. in_name_in r (entry C i).writes (I.stores i r ri)))
        (and_from (list_all (is_fit C i (entry C i)) (ways (entry C i).act)) _ (in_every (is_fit C i (entry C i)) (ways (entry C i).act) (λ s is. fits_is i s.0 s.1 (I.fits i s.0 s.1 is)))
        (if_loop_is i (loop_of (entry C i).act) (I.loops i)))))

    one_by : (j j' : ℕ) (a c : Bool) → (a ≡ false → c ≡ true → j ≡ j') → (nat_eq j j' || (a || not c)) ≡ true
    one_by j j' true c h = or_right (nat_eq j j') true refl
    one_by j j' false c h = nat_by j j' c (h refl)

    apart_is : (b b' : ℕ) → (nat_eq b b' || (list_all (λ v. not (variable_in v (body C b').makes)) (body C b).makes && list_all (λ j. not (number_in j (body C b').entries)) (body C b).entries)) ≡ true
    apart_is b b' = by (nat_eq b b') refl
      where
        by : (t : Bool) → nat_eq b b' ≡ t → (nat_eq b b' || (list_all (λ v. not (variable_in v (body C b').makes)) (body C b).makes && list_all (λ j. not (number_in j (body C b').entries)) (body C b).entries)) ≡ true
        by true h = or_left (nat_eq b b') _ h
        by false h =
            or_right (nat_eq b b') _ (and_from (list_all (λ v. not (variable_in v (body C b').makes)) (body C b).makes) _
            (in_every _ (body C b).makes (λ v iv. not_by (variable_in v (body C b').makes) (λ x. differ (I.makes_once b b' v iv (variable_in_sound v (body C b').makes x)))))
            (in_every _ (body C b).entries (λ j ij. not_by (number_in j (body C b').entries) (λ x. differ (I.entries_once b b' j ij (number_in_sound j (body C b').entries x))))))
          where
            differ : b ≡ b' → ⊥
            differ e = (let n : true ≡ false = sym (subst (λ (x : ℕ). nat_eq b x ≡ true) e (nat_same b)) ∙ h in absurd (cc))

    body_is : (b : ℕ) → is_body C b (body C b) ≡ true
    body_is b =
        and_from (distinct_numbers es && list_all (λ j. nat_lt j (length C.entries)) es) _
        (and_from (distinct_numbers es) _ (distinct_is_numbers es (I.entries_distinct b)) (in_every _ es (λ j ij. below_is j (length C.entries) (I.there b j ij))))
        (and_from (list_all (λ j. list_all (λ j'. list_all (λ r. nat_eq j j' || (is_array_name r || not (name_in r (entry C j').writes))) (entry C j).writes) es) es) _
        (in_every _ es (λ j ij. in_every _ es (λ j' ij'. in_every _ (entry C j).writes (λ r ir. one_by j j' (is_array_name r) (name_in r (entry C j').writes) (λ sc h. I.one_assigner b j j' r ij ij' ir (name_in_sound r (entry C j').writes h) sc)))))
        (at_every blank_body _ C.bodies (λ b'. apart_is b b')))
      where
        es : List ℕ
        es = (body C b).entries

    script_is : is_script C ≡ true
    script_is =
        and_from (is_main (body C 0).opener) _ (main_is (body C 0).opener I.script)
        (and_from (list_all (λ j. list_all (is_declared C 0) (entry C j).reads) (body C 0).entries) _
        (in_every _ (body C 0).entries (λ j ij. in_every (is_declared C 0) (entry C j).reads (λ r ir. declared_is 0 r (I.script_reads j r ij ir))))
        (in_every _ (body C 0).entries (λ j ij. in_every (is_declared C 0) (entry C j).writes (λ r ir. declared_is 0 r (I.script_writes j r ij ir)))))

    pub whole_checked : is_code C ≡ true
    whole_checked =
        and_from (is_script C) _ script_is
        (and_from (every_at (is_entry C) C.entries) _ (at_every blank_entry (is_entry C) C.entries entry_is) (at_every blank_body (is_body C) C.bodies body_is))

-- so code that does not pass is not whole
pub not_whole : (C : Code) → IsCode C → is_code C ≡ false → ⊥
not_whole C I h = (let n : true ≡ false = sym (whole_checked C I) ∙ h in absurd (cc))
