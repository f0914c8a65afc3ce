-- What a call hands over stands where the layout puts the parameters.
use Rattle.std.proofs.Common.{◌≡◌, ◌∙◌, refl, sym, ap, ℕ, zero, suc, ◌+◌, ◌-◌, ◌<◌, ◌^◌, min, Bool, true, false, List, [], ◌∷◌, ◌++◌, map, length, Option, Some, None, arith}
use Rattle.std.proofs.lemmas.List.{length-append}
use Rattle.board_history.specs.Ending.{Instance, job_slot}
use Rattle.board_history.specs.Fields.{Absent, Does, Frame, Slot, frame_up, slot_for}
use Rattle.board_history.specs.Layouts.{Passes, parameter}
use Rattle.task_code.specs.Code.{Argument, ByCalls, Code, Fixed, Name, Named, Opener, Parameter, argument, argument_in, arguments, body, entry, is_array_name, nth}
use Rattle.values.specs.Values.{same_truth}
use Rattle.board_program.specs.Spots.{around, found_or, go_out, homes_of, layout_of, levels_of, parameter_slot, slot_of, spot_from, spot_in}
use Rattle.board_program.specs.Tables.{passed_in}
use Rattle.board_program.specs.declared.program.PassedArgument.{PassedArgument}
use Rattle.board_program.specs.declared.program.PassedArgument.TheVariants as Handed
use Rattle.board_program.specs.declared.lexical_address.LexicalAddress.{LexicalAddress}
use Rattle.board_instances.specs.Names.{slot_in}
use Rattle.board_instances.specs.Openings.{passed_from, passed_slot}
use Rattle.board_instances.specs.Passing.{HandsOver}

-- a parameter's slot, where there are few
parameter_at : (C : Code) (b n : ℕ) (a : Bool) → 0 < length C.bodies → (body C b).opener ≡ ByCalls → length (body C b).makes + n < 2 ^ 64 → slot_of (spot_in C b (parameter n a)) ≡ length (body C b).makes + n
parameter_at C b n a some opener few = by (length C.bodies) some
  where
    least : (m : ℕ) → m < 2 ^ 64 → min m (2 ^ 64 - 1) ≡ m
    least m h = omega (arith, h)

    by : (most : ℕ) → 0 < most → slot_of (spot_from C (homes_of C) most b 0 (Parameter n a)) ≡ length (body C b).makes + n
    by zero h = absurd (omega (arith, h))
    by (suc most) h = ap (λ (o : Opener). slot_of (found_or (parameter_slot (length (body C b).makes) n o) (around (go_out (homes_of C) (body C b).opener 0) (λ c j. spot_from C (homes_of C) most c j (Parameter n a))))) opener ∙ least (length (body C b).makes + n) few

-- behind others
nth_behind : (own xs : List Slot) (n : ℕ) → nth Absent (own ++ xs) (length own + n) ≡ nth Absent xs n
nth_behind [] xs n = ap (nth Absent xs) (none n)
  where
    none : (n : ℕ) → 0 + n ≡ n
    none n = omega arith
nth_behind (x ∷ own) xs n = ap (nth Absent (x ∷ (own ++ xs))) (one (length own) n) ∙ nth_behind own xs n
  where
    one : (m n : ℕ) → suc m + n ≡ suc (m + n)
    one m n = omega arith

module _ (fs : List (Option Frame)) (k e : ℕ) (p : Argument → PassedArgument) where
  same_argument : (x y : Argument) → Some x ≡ Some y → x ≡ y
  same_argument x y h = cc h

  handed_next : (i n : ℕ) (y : Argument) → passed_slot fs k e (suc i + n) (p y) ≡ passed_slot fs k e (i + suc n) (p y)
  handed_next i n y = ap (λ m. passed_slot fs k e m (p y)) (one i n)
    where
      one : (i n : ℕ) → suc i + n ≡ i + suc n
      one i n = omega arith

  handed_here : (i : ℕ) (x y : Argument) → x ≡ y → passed_slot fs k e i (p x) ≡ passed_slot fs k e (i + 0) (p y)
  handed_here i x y h = ap (λ z. passed_slot fs k e i (p z)) h ∙ ap (λ m. passed_slot fs k e m (p y)) (one i)
    where
      one : (i : ℕ) → i ≡ i + 0
      one i = omega arith

  -- the argument of a place stands there
  argument_at : (xs : List Argument) (i n : ℕ) (a : Bool) (y : Argument) → argument_in xs n a ≡ Some y → nth Absent (passed_from fs k e i (map p xs)) n ≡ passed_slot fs k e (i + n) (p y)
  argument_at [] i n a y h = absurd (cc (h))
  argument_at (Named r ∷ xs) i zero a y h = by (same_truth (is_array_name r) a) h
    where
      by : (t : Bool) → elim t [ true ↦ Some (Named r) | false ↦ None ] ≡ Some y → passed_slot fs k e i (p (Named r)) ≡ passed_slot fs k e (i + 0) (p y)
      by true h = handed_here i (Named r) y (same_argument (Named r) y h)
      by false h = absurd (cc (h))
  argument_at (Fixed v ∷ xs) i zero a y h = by a h
    where
      by : (t : Bool) → elim t [ true ↦ None | false ↦ Some (Fixed v) ] ≡ Some y → passed_slot fs k e i (p (Fixed v)) ≡ passed_slot fs k e (i + 0) (p y)
      by false h = handed_here i (Fixed v) y (same_argument (Fixed v) y h)
      by true h = absurd (cc (h))
  argument_at (Named r ∷ xs) i (suc n) a y h = argument_at xs (suc i) n a y h ∙ handed_next i n y
  argument_at (Fixed v ∷ xs) i (suc n) a y h = argument_at xs (suc i) n a y h ∙ handed_next i n y

  handed_count : (xs : List Argument) (i : ℕ) → length (passed_from fs k e i (map p xs)) ≡ length xs
  handed_count [] i = refl
  handed_count (x ∷ xs) i = ap suc (handed_count xs (suc i))

-- its place is among them
argument_within : (xs : List Argument) (n : ℕ) (a : Bool) (y : Argument) → argument_in xs n a ≡ Some y → n < length xs
argument_within [] n a y h = absurd (cc (h))
argument_within (x ∷ xs) zero a y h = omega arith
argument_within (Named r ∷ xs) (suc n) a y h = (let q = argument_within xs n a y h in omega (arith, q))
argument_within (Fixed v ∷ xs) (suc n) a y h = (let q = argument_within xs n a y h in omega (arith, q))

module _ (C : Code) (fs : List (Option Frame)) (k e chunk : ℕ) (m : Instance) (f : Frame) (some : 0 < length C.bodies) (x : HandsOver C fs k e m f) where
  abbrev all : List Argument
  all = arguments (entry C e).act

  here_at : (n : ℕ) (a : Bool) (y : Argument) → argument C (entry C e).offset n a ≡ Some y → nth Absent f.slots (slot_of (spot_in C m.body (parameter n a))) ≡ passed_slot fs k e n (passed_in C x.outer.body y)
  here_at n a y h =
      ap (nth Absent f.slots) (parameter_at C m.body n a some x.function few ∙ ap (λ l. l + n) (sym x.own_are))
      ∙ ap (λ ss. nth Absent ss (length x.own + n)) x.slots
      ∙ nth_behind x.own (passed_from fs k e 0 (map (passed_in C x.outer.body) all)) n
      ∙ argument_at fs k e (passed_in C x.outer.body) all 0 n a y there
      ∙ ap (λ i. passed_slot fs k e i (passed_in C x.outer.body y)) (zero_more n)
    where
      there : argument_in all n a ≡ Some y
      there = ap (λ i. argument_in (arguments (entry C i).act) n a) (sym x.call) ∙ h

      zero_more : (n : ℕ) → 0 + n ≡ n
      zero_more n = omega arith

      few : length (body C m.body).makes + n < 2 ^ 64
      few = (
          let slots : length f.slots ≡ length x.own + length all = ap length x.slots ∙ length-append x.own (passed_from fs k e 0 (map (passed_in C x.outer.body) all)) ∙ ap (λ l. length x.own + l) (handed_count fs k e (passed_in C x.outer.body) all 0) in
          let below = argument_within all n a y there in
          omega (arith, slots, below, x.own_are, x.few))

  slot_is : (o : Option Frame) (n : ℕ) → slot_in o n ≡ elim o [ None ↦ Absent | Some f ↦ nth Absent f.slots n ]
  slot_is None n = refl
  slot_is (Some f) n = refl

  -- what stands there is what the caller's name stands for
  seen_there : (n : ℕ) (s : Name) → (spot_in C x.outer.body s ≡ None → ⊥) → passed_slot fs k e n (passed_in C x.outer.body (Named s)) ≡ job_slot C (layout_of C) fs (Does k e chunk) s
  seen_there n s leads = by (spot_in C x.outer.body s) refl ∙ sym (ap (λ (o : Option Frame). elim o [ None ↦ Absent | Some g ↦ slot_for (layout_of C) fs k g.body s ]) x.there)
    where
      by : (o : Option LexicalAddress) → spot_in C x.outer.body s ≡ o → passed_slot fs k e n (passed_in C x.outer.body (Named s)) ≡ slot_for (layout_of C) fs k x.outer.body s
      by None q = absurd (leads q)
      by (Some sp) q = ap (λ (o : Option LexicalAddress). passed_slot fs k e n (Handed.Named o)) q ∙ slot_is (frame_up fs sp.levels k) sp.slot ∙ sym (ap (λ (o : Option LexicalAddress). elim (frame_up fs (levels_of o) k) [ None ↦ Absent | Some g ↦ nth Absent g.slots (slot_of o) ]) q)

  pub passes_over : Passes C (layout_of C) fs k e chunk m f
  passes_over = record {
    named = λ n a s h is there. here_at n a (Named s) is ∙ seen_there n s (x.leads s there);
    fixed = λ n a v h is. here_at n a (Fixed v) is;
  }
