-- One item more is settled.
use Rattle.std.proofs.Common.{◌≡◌, ◌∙◌, ℕ, Bool, true, false, not, List, [], ◌∷◌, ◌++◌, map, refl, sym, ap, subst, append_assoc, append-nil, Option, Some}
use Rattle.std.specs.Prelude.{ℤ, if◌then◌else◌, IsPermutation}
use Rattle.std.specs.List.{filter}
use Rattle.std.proofs.lemmas.List.Elements.{filter-append}
use Rattle.std.proofs.lemmas.List.Sorted.{IsPermutation-append_comm, IsPermutation-append_left, IsPermutation-refl, IsPermutation-trans}
use Rattle.std.proofs.lemmas.List.{map-append}
use Rattle.board_history.specs.Fields.{Counted, Frame, Over, Ready, Row, Waiter, row_of}
use Rattle.board_history.specs.Marking.{with_status}
use Rattle.task_code.specs.Code.{Code, Kind}
use Rattle.board_items.specs.Ended.{AreSettled, can_begin, missed_at, runs_so, waiter_at}
use Rattle.board_data.specs.Wanted.{is_nil}
use Rattle.board_items.proofs.Rows.{over_first, ready_more, ready_moved}

pub nil_is : {X : Type 0} (xs : List X) → (xs ≡ [] → ⊥) → is_nil xs ≡ false
nil_is [] h = absurd (h refl)
nil_is (x ∷ xs) h = refl

kept_more : {X : Type 0} (p : X → Bool) (xs : List X) (x : X) → p x ≡ true → filter p (xs ++ x ∷ []) ≡ filter p xs ++ x ∷ []
kept_more p xs x h = filter-append p xs (x ∷ []) ∙ (λ i. filter p xs ++ (if h i then x ∷ [] else []))

left_out : {X : Type 0} (p : X → Bool) (xs : List X) (x : X) → p x ≡ false → filter p (xs ++ x ∷ []) ≡ filter p xs
left_out p xs x h = filter-append p xs (x ∷ []) ∙ (λ i. filter p xs ++ (if h i then x ∷ [] else [])) ∙ append-nil (filter p xs)

module _ (C : Code) (fs : List (Option Frame)) (cs : List (Option Counted)) (rows : List Row) (first number : ℕ) (before : List Waiter) (queued : Kind → ℤ → List ℕ) where
  abbrev waits_on : ℕ → Bool
  waits_on m = not (can_begin C fs cs rows first m)

  -- nothing is settled yet, but that the item is over
  pub settled_none : (new : List Row) (r : Row) → row_of rows number ≡ Some r → new ≡ with_status rows number Over → AreSettled C fs cs rows first number before queued [] new before queued []
  settled_none new r h e =
      record {
        rows_are = e ∙ over_first number rows r h;
        newly_are = IsPermutation-refl [];
        waits = subst (λ (l : List Waiter). IsPermutation l before) (sym (append-nil before)) (IsPermutation-refl before);
        queue_is = λ k z. subst (λ (l : List ℕ). IsPermutation l (queued k z)) (sym (append-nil (queued k z))) (IsPermutation-refl (queued k z));
      }

  module _ (done : List ℕ) (new : List Row) (waiting : List Waiter) (queue : Kind → ℤ → List ℕ) (newly : List ℕ) (a : AreSettled C fs cs rows first number before queued done new waiting queue newly) (m : ℕ) where
    -- it waits
    pub settled_waits : (later : List Waiter) → (missed_at C fs cs rows first m ≡ [] → ⊥) → IsPermutation (waiter_at C fs cs rows first m ∷ waiting) later → AreSettled C fs cs rows first number before queued (done ++ m ∷ []) new later queue newly
    settled_waits later ne p =
        let n = nil_is (missed_at C fs cs rows first m) ne in
        record {
          rows_are = a.rows_are;
          newly_are = subst (λ (l : List ℕ). IsPermutation l newly) (sym (left_out (can_begin C fs cs rows first) done m n)) a.newly_are;
          waits = subst (λ (l : List Waiter). IsPermutation (before ++ l) later) (sym (ap (map (waiter_at C fs cs rows first)) (kept_more waits_on done m (ap not n)) ∙ map-append (waiter_at C fs cs rows first) (filter waits_on done) (m ∷ [])))
              (subst (λ (l : List Waiter). IsPermutation l later) (append_assoc before (map (waiter_at C fs cs rows first) (filter waits_on done)) (waiter_at C fs cs rows first m ∷ []))
              (IsPermutation-trans _ _ _ (IsPermutation-append_left (waiter_at C fs cs rows first m ∷ []) _ _ a.waits)
              (IsPermutation-trans _ _ _ (IsPermutation-append_comm waiting (waiter_at C fs cs rows first m ∷ [])) p)));
          queue_is = λ k z. subst (λ (l : List ℕ). IsPermutation (queued k z ++ filter (λ m. runs_so C k z (row_of rows m)) l) (queue k z)) (sym (left_out (can_begin C fs cs rows first) done m n)) (a.queue_is k z);
        }

    -- it can begin
    pub settled_ready : (rows' : List Row) (queue' : Kind → ℤ → List ℕ) (r : Row) → row_of rows m ≡ Some r → (m ≡ number → ⊥) → missed_at C fs cs rows first m ≡ [] → rows' ≡ with_status new m Ready → ((k : Kind) (z : ℤ) → IsPermutation (queue k z ++ (if runs_so C k z (row_of rows m) then m ∷ [] else [])) (queue' k z)) → AreSettled C fs cs rows first number before queued (done ++ m ∷ []) rows' waiting queue' (newly ++ m ∷ [])
    settled_ready rows' queue' r h d z e q =
        let n : is_nil (missed_at C fs cs rows first m) ≡ true = ap is_nil z in
        record {
          rows_are = e ∙ ap (λ (l : List Row). with_status l m Ready) a.rows_are ∙ ready_more number newly m rows r h d;
          newly_are = subst (λ (l : List ℕ). IsPermutation l (newly ++ m ∷ [])) (sym (kept_more (can_begin C fs cs rows first) done m n)) (IsPermutation-append_left (m ∷ []) _ _ a.newly_are);
          waits = subst (λ (l : List ℕ). IsPermutation (before ++ map (waiter_at C fs cs rows first) l) waiting) (sym (left_out waits_on done m (ap not n))) a.waits;
          queue_is = λ k y.
              subst (λ (l : List ℕ). IsPermutation (queued k y ++ filter (λ m. runs_so C k y (row_of rows m)) l) (queue' k y)) (sym (kept_more (can_begin C fs cs rows first) done m n))
              (subst (λ (l : List ℕ). IsPermutation (queued k y ++ l) (queue' k y)) (sym (filter-append (λ m. runs_so C k y (row_of rows m)) (filter (can_begin C fs cs rows first) done) (m ∷ [])))
              (subst (λ (l : List ℕ). IsPermutation l (queue' k y)) (append_assoc (queued k y) (filter (λ m. runs_so C k y (row_of rows m)) (filter (can_begin C fs cs rows first) done)) (if runs_so C k y (row_of rows m) then m ∷ [] else []))
              (IsPermutation-trans _ _ _ (IsPermutation-append_left _ _ _ (a.queue_is k y)) (q k y))));
        }

    -- in another order
    pub settled_moved : (newly' : List ℕ) → IsPermutation newly newly' → AreSettled C fs cs rows first number before queued done new waiting queue newly'
    settled_moved newly' p =
        record {
          rows_are = a.rows_are ∙ ready_moved number newly newly' rows p;
          newly_are = IsPermutation-trans _ _ _ a.newly_are p;
          waits = a.waits;
          queue_is = a.queue_is;
        }
