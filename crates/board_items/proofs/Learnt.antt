-- What items learn of several inputs, one after the other.
use Rattle.std.proofs.Common.{◌≡◌, ◌∙◌, inl, inr, ℕ, suc, ◌+◌, arith, length-append, Bool, true, false, not, ◌||◌, List, [], ◌∷◌, ◌++◌, map, length, refl, sym, ap, subst, None, Some}
use Rattle.std.specs.Prelude.{◌==◌, if◌then◌else◌, IsPermutation}
use Rattle.std.specs.List.{cons_option, filter}
use Rattle.std.proofs.lemmas.Bool.Decides.{nat_tests}
use Rattle.std.proofs.lemmas.List.Sorted.{IsPermutation-append, IsPermutation-cons, IsPermutation-middle, IsPermutation-refl, IsPermutation-sym, IsPermutation-trans, length_permutation}
use Rattle.dataflow.specs.System.{In}
use Rattle.board_history.specs.Fields.{Waiter, Want}
use Rattle.board_history.specs.Needs.{is_covered, still_missed}
use Rattle.board_history.specs.Needs as needs
use Rattle.rules.specs.Inputs.{covers}
use Rattle.rules.specs.Waiting.{IsListed, Waiting, is_ready, still_waiting, with_known, woken}
use Rattle.rules.specs.declared.input.Input.{Input}
use Rattle.rules.specs.declared.input.Input.TheVariants as Inputs
use Rattle.board_data.specs.View.{want_view}
use Rattle.board_data.specs.Wanted.{is_nil}
use Rattle.board_items.specs.Learnt.{HaveLearnt, left_to, served, waiting_on}
use Rattle.board_items.specs.View.{waiter_view, waiters_view}

covers_view : (i j : Input) → covers i j ≡ needs.covers (want_view i) (want_view j)
covers_view (Inputs.Whole a) (Inputs.Whole b) = refl
covers_view (Inputs.Whole a) (Inputs.Element b k) = refl
covers_view (Inputs.Element a k) (Inputs.Whole b) = refl
covers_view (Inputs.Element a k) (Inputs.Element b l) = refl

-- what is known of two lists
or_each : (a b c : Bool) → ((a || b) || c) ≡ (a || (b || c))
or_each true b c = refl
or_each false b c = refl

covered_both : (k l : List (Want ℕ)) (w : Want ℕ) → is_covered (k ++ l) w ≡ (is_covered k w || is_covered l w)
covered_both [] l w = refl
covered_both (v ∷ k) l w = ap (λ (b : Bool). needs.covers v w || b) (covered_both k l w) ∙ sym (or_each (needs.covers v w) (is_covered k w) (is_covered l w))

pub missed_both : (k l : List (Want ℕ)) (ws : List (Want ℕ)) → still_missed l (still_missed k ws) ≡ still_missed (k ++ l) ws
missed_both k l [] = refl
missed_both k l (w ∷ ws) = by (is_covered k w) refl (missed_both k l ws) ∙ ap (λ (b : Bool). if not b then w ∷ still_missed (k ++ l) ws else still_missed (k ++ l) ws) (sym (covered_both k l w))
  where
    of : (b : Bool) → still_missed l (still_missed k ws) ≡ still_missed (k ++ l) ws → (if not b then w ∷ still_missed l (still_missed k ws) else still_missed l (still_missed k ws)) ≡ (if not b then w ∷ still_missed (k ++ l) ws else still_missed (k ++ l) ws)
    of true rest = rest
    of false rest = ap (λ (xs : List (Want ℕ)). w ∷ xs) rest

    by : (a : Bool) → is_covered k w ≡ a → still_missed l (still_missed k ws) ≡ still_missed (k ++ l) ws → still_missed l (if not (is_covered k w) then w ∷ still_missed k ws else still_missed k ws) ≡ (if not (is_covered k w || is_covered l w) then w ∷ still_missed (k ++ l) ws else still_missed (k ++ l) ws)
    by true e rest = subst (λ (b : Bool). still_missed l (if not b then w ∷ still_missed k ws else still_missed k ws) ≡ (if not (b || is_covered l w) then w ∷ still_missed (k ++ l) ws else still_missed (k ++ l) ws)) (sym e) rest
    by false e rest = subst (λ (b : Bool). still_missed l (if not b then w ∷ still_missed k ws else still_missed k ws) ≡ (if not (b || is_covered l w) then w ∷ still_missed (k ++ l) ws else still_missed (k ++ l) ws)) (sym e) (of (is_covered l w) rest)

abbrev SameWaiting : (k l : List (Want ℕ)) → Waiter → List Waiter → List (Want ℕ) → Type 0
SameWaiting k l w ws us = waiting_on l (if is_nil us then waiting_on k ws else record { item = w.item; missing = us } ∷ waiting_on k ws) ≡ (if is_nil (still_missed l us) then waiting_on (k ++ l) ws else record { item = w.item; missing = still_missed l us } ∷ waiting_on (k ++ l) ws)

-- what is still missed where the first list left something, or nothing
waiting_both : (k l : List (Want ℕ)) (ws : List Waiter) → waiting_on l (waiting_on k ws) ≡ waiting_on (k ++ l) ws
waiting_both k l [] = refl
waiting_both k l (w ∷ ws) = by (left_to k w) refl (waiting_both k l ws)
  where
    end : SameWaiting k l w ws (left_to k w) → waiting_on l (waiting_on k (w ∷ ws)) ≡ waiting_on (k ++ l) (w ∷ ws)
    end h = h ∙ ap (λ (us : List (Want ℕ)). if is_nil us then waiting_on (k ++ l) ws else record { item = w.item; missing = us } ∷ waiting_on (k ++ l) ws) (missed_both k l w.missing)

    of : (b : Bool) (us : List (Want ℕ)) → waiting_on l (waiting_on k ws) ≡ waiting_on (k ++ l) ws → (if b then waiting_on l (waiting_on k ws) else record { item = w.item; missing = us } ∷ waiting_on l (waiting_on k ws)) ≡ (if b then waiting_on (k ++ l) ws else record { item = w.item; missing = us } ∷ waiting_on (k ++ l) ws)
    of true us rest = rest
    of false us rest = ap (λ (xs : List Waiter). record { item = w.item; missing = us } ∷ xs) rest

    by : (us : List (Want ℕ)) → left_to k w ≡ us → waiting_on l (waiting_on k ws) ≡ waiting_on (k ++ l) ws → waiting_on l (waiting_on k (w ∷ ws)) ≡ waiting_on (k ++ l) (w ∷ ws)
    by [] e rest = end (subst (λ (us : List (Want ℕ)). SameWaiting k l w ws us) (sym e) rest)
    by (u ∷ us) e rest = end (subst (λ (us : List (Want ℕ)). SameWaiting k l w ws us) (sym e) (of (is_nil (still_missed l (u ∷ us))) (still_missed l (u ∷ us)) rest))

abbrev SameServed : (k l : List (Want ℕ)) → Waiter → List Waiter → List (Want ℕ) → Type 0
SameServed k l w ws us = IsPermutation (if is_nil (still_missed l us) then w.item ∷ served (k ++ l) ws else served (k ++ l) ws) ((if is_nil us then w.item ∷ served k ws else served k ws) ++ served l (if is_nil us then waiting_on k ws else record { item = w.item; missing = us } ∷ waiting_on k ws))

served_both : (k l : List (Want ℕ)) (ws : List Waiter) → IsPermutation (served (k ++ l) ws) (served k ws ++ served l (waiting_on k ws))
served_both k l [] = IsPermutation-refl []
served_both k l (w ∷ ws) = by (left_to k w) refl (served_both k l ws)
  where
    end : SameServed k l w ws (left_to k w) → IsPermutation (served (k ++ l) (w ∷ ws)) (served k (w ∷ ws) ++ served l (waiting_on k (w ∷ ws)))
    end h = subst (λ (us : List (Want ℕ)). IsPermutation (if is_nil us then w.item ∷ served (k ++ l) ws else served (k ++ l) ws) (served k (w ∷ ws) ++ served l (waiting_on k (w ∷ ws)))) (missed_both k l w.missing) h

    of : (b : Bool) → IsPermutation (served (k ++ l) ws) (served k ws ++ served l (waiting_on k ws)) → IsPermutation (if b then w.item ∷ served (k ++ l) ws else served (k ++ l) ws) (served k ws ++ (if b then w.item ∷ served l (waiting_on k ws) else served l (waiting_on k ws)))
    of true rest = IsPermutation-trans _ _ _ (IsPermutation-cons w.item _ _ rest) (IsPermutation-sym _ _ (IsPermutation-middle (served k ws) w.item (served l (waiting_on k ws))))
    of false rest = rest

    by : (us : List (Want ℕ)) → left_to k w ≡ us → IsPermutation (served (k ++ l) ws) (served k ws ++ served l (waiting_on k ws)) → IsPermutation (served (k ++ l) (w ∷ ws)) (served k (w ∷ ws) ++ served l (waiting_on k (w ∷ ws)))
    by [] e rest = end (subst (λ (us : List (Want ℕ)). SameServed k l w ws us) (sym e) (IsPermutation-cons w.item _ _ rest))
    by (u ∷ us) e rest = end (subst (λ (us : List (Want ℕ)). SameServed k l w ws us) (sym e) (of (is_nil (still_missed l (u ∷ us))) rest))

-- one input, as rules have it
or_none : (b : Bool) → b ≡ (b || false)
or_none true = refl
or_none false = refl

one_missed : (i : Input) (ms : List Input) → map want_view (filter (λ j. not (covers i j)) ms) ≡ still_missed (want_view i ∷ []) (map want_view ms)
one_missed i [] = refl
one_missed i (j ∷ ms) =
    of (covers i j) (one_missed i ms)
    ∙ ap (λ (b : Bool). if not b then want_view j ∷ still_missed (want_view i ∷ []) (map want_view ms) else still_missed (want_view i ∷ []) (map want_view ms)) (covers_view i j ∙ or_none (needs.covers (want_view i) (want_view j)))
  where
    of : (b : Bool) → map want_view (filter (λ j. not (covers i j)) ms) ≡ still_missed (want_view i ∷ []) (map want_view ms) → map want_view (if not b then j ∷ filter (λ j. not (covers i j)) ms else filter (λ j. not (covers i j)) ms) ≡ (if not b then want_view j ∷ still_missed (want_view i ∷ []) (map want_view ms) else still_missed (want_view i ∷ []) (map want_view ms))
    of true rest = rest
    of false rest = ap (λ (xs : List (Want ℕ)). want_view j ∷ xs) rest

not_zero : (n : ℕ) → (suc n == 0) ≡ false
not_zero n = grind (arith, nat_tests)

nil_view : (ms : List Input) → (length ms == 0) ≡ is_nil (map want_view ms)
nil_view [] = refl
nil_view (j ∷ ms) = not_zero (length ms)

ready_view : (i : Input) (w : Waiting) → is_ready (with_known i w) ≡ is_nil (left_to (want_view i ∷ []) (waiter_view w))
ready_view i w = nil_view (filter (λ j. not (covers i j)) w.missing) ∙ ap is_nil (one_missed i w.missing)

one_waits : (i : Input) (ws : List Waiting) → waiters_view (still_waiting i ws) ≡ waiting_on (want_view i ∷ []) (waiters_view ws)
one_waits i [] = refl
one_waits i (w ∷ ws) =
    of (is_ready (with_known i w)) (one_waits i ws)
    ∙ (λ k. if ready_view i w k then waiting_on (want_view i ∷ []) (waiters_view ws) else record { item = w.item; missing = one_missed i w.missing k } ∷ waiting_on (want_view i ∷ []) (waiters_view ws))
  where
    of : (b : Bool) → waiters_view (still_waiting i ws) ≡ waiting_on (want_view i ∷ []) (waiters_view ws) → waiters_view (cons_option (if b then None else Some (with_known i w)) (still_waiting i ws)) ≡ (if b then waiting_on (want_view i ∷ []) (waiters_view ws) else waiter_view (with_known i w) ∷ waiting_on (want_view i ∷ []) (waiters_view ws))
    of true rest = rest
    of false rest = ap (λ (xs : List Waiter). waiter_view (with_known i w) ∷ xs) rest

one_served : (i : Input) (ws : List Waiting) → woken i ws ≡ served (want_view i ∷ []) (waiters_view ws)
one_served i [] = refl
one_served i (w ∷ ws) =
    of (is_ready (with_known i w)) (one_served i ws)
    ∙ (λ k. if ready_view i w k then w.item ∷ served (want_view i ∷ []) (waiters_view ws) else served (want_view i ∷ []) (waiters_view ws))
  where
    of : (b : Bool) → woken i ws ≡ served (want_view i ∷ []) (waiters_view ws) → map (λ v. v.item) (if b then w ∷ filter (λ v. is_ready (with_known i v)) ws else filter (λ v. is_ready (with_known i v)) ws) ≡ (if b then w.item ∷ served (want_view i ∷ []) (waiters_view ws) else served (want_view i ∷ []) (waiters_view ws))
    of true rest = ap (λ (xs : List ℕ). w.item ∷ xs) rest
    of false rest = rest

-- one input more is known
pub learnt_more : (known : List (Want ℕ)) (start : List Waiter) (old new : List Waiting) (a b : List ℕ) (i : Input) → HaveLearnt known start old a → new ≡ still_waiting i old → IsListed (woken i old) a b → HaveLearnt (known ++ want_view i ∷ []) start new b
learnt_more known start old new a b i h e l =
    record {
      waiting = ap waiters_view e ∙ one_waits i old ∙ ap (waiting_on (want_view i ∷ [])) h.waiting ∙ waiting_both known (want_view i ∷ []) start;
      noted =
          subst (λ (xs : List ℕ). IsPermutation (served (known ++ want_view i ∷ []) start) xs) (sym l.is)
          (IsPermutation-trans _ _ _ (served_both known (want_view i ∷ []) start)
          (IsPermutation-append _ _ _ _ h.noted
          (subst (λ (xs : List ℕ). IsPermutation xs l.said) (one_served i old ∙ ap (served (want_view i ∷ [])) h.waiting) l.all)));
    }

-- nothing is known yet
pub nothing_learnt : (ws : List Waiting) → ((w : Waiter) → In w (waiters_view ws) → w.missing ≡ [] → ⊥) → HaveLearnt [] (waiters_view ws) ws []
nothing_learnt ws h = record { waiting = sym (all (waiters_view ws) h); noted = subst (λ (xs : List ℕ). IsPermutation xs []) (sym (none (waiters_view ws) h)) (IsPermutation-refl []) }
  where
    same : (us : List (Want ℕ)) → still_missed [] us ≡ us
    same [] = refl
    same (u ∷ us) = ap (λ (xs : List (Want ℕ)). u ∷ xs) (same us)

    some : (us : List (Want ℕ)) → (us ≡ [] → ⊥) → is_nil us ≡ false
    some [] h = absurd (h refl)
    some (u ∷ us) h = refl

    all : (vs : List Waiter) → ((w : Waiter) → In w vs → w.missing ≡ [] → ⊥) → waiting_on [] vs ≡ vs
    all [] h = refl
    all (v ∷ vs) h =
        (λ k. if (ap is_nil (same v.missing) ∙ some v.missing (h v (inl refl))) k then waiting_on [] vs else record { item = v.item; missing = same v.missing k } ∷ waiting_on [] vs)
        ∙ ap (λ (xs : List Waiter). v ∷ xs) (all vs (λ w i. h w (inr i)))

    none : (vs : List Waiter) → ((w : Waiter) → In w vs → w.missing ≡ [] → ⊥) → served [] vs ≡ []
    none [] h = refl
    none (v ∷ vs) h =
        (λ k. if (ap is_nil (same v.missing) ∙ some v.missing (h v (inl refl))) k then v.item ∷ served [] vs else served [] vs)
        ∙ none vs (λ w i. h w (inr i))

pub nothing_learnt_of : (vs : List Waiter) (ws : List Waiting) → vs ≡ waiters_view ws → ((w : Waiter) → In w vs → w.missing ≡ [] → ⊥) → HaveLearnt [] vs ws []
nothing_learnt_of vs ws e h = subst (λ (l : List Waiter). HaveLearnt [] l ws []) (sym e) (nothing_learnt ws (λ w i. h w (subst (λ (l : List Waiter). In w l) (sym e) i)))

-- none is lost
counted : (i : Input) (ws : List Waiting) → length (still_waiting i ws) + length (woken i ws) ≡ length ws
counted i [] = refl
counted i (w ∷ ws) = of (is_ready (with_known i w)) (counted i ws)
  where
    of : (b : Bool) → length (still_waiting i ws) + length (woken i ws) ≡ length ws → length (cons_option (if b then None else Some (with_known i w)) (still_waiting i ws)) + length (map (λ v. v.item) (if b then w ∷ filter (λ v. is_ready (with_known i v)) ws else filter (λ v. is_ready (with_known i v)) ws)) ≡ suc (length ws)
    of true rest = omega arith
    of false rest = omega arith

pub told_count : (i : Input) (old new : List Waiting) (a b : List ℕ) → new ≡ still_waiting i old → IsListed (woken i old) a b → length new + length b ≡ length old + length a
told_count i old new a b e l =
    let p = length_permutation (woken i old) l.said l.all in
    let q = ap length l.is ∙ length-append a l.said in
    let r = ap length e in
    let s = counted i old in
    omega arith
