-- What is known of data after an End, told by the fields.
use Rattle.std.proofs.Common.{◌≡◌, inl, inr, ℕ, zero, suc, ◌<◌, Bool, true, false, ◌||◌, List, [], ◌∷◌, ◌++◌, map, refl, sym, ap, ◌∙◌, subst, Option, None, Some, arith}
use Rattle.std.specs.Prelude.{nat_eq}
use Rattle.std.proofs.lemmas.Bool.{and_from, or_cases, or_left, or_right}
use Rattle.dataflow.specs.System.{In, tasks_of}
use Rattle.dataflow.specs.Machine.{ClosedByRights, Event, Free, Holds, new_items}
use Rattle.dataflow.proofs.Lists.{in_split, in_tasks, makes_in, new_tasks, seam_in, in_map}
use Rattle.board_history.specs.Elements.{code_tests}
use Rattle.board_history.specs.Ending.{job_stores}
use Rattle.board_history.specs.Fields.{AnElement, Content, Counted, Fields, Holding, Layout, Mapping, Unset, Want, Whole, slot_at}
use Rattle.board_history.specs.Needs.{cell_element, cell_known, cell_value, covers, elements_in, found, is_array_content, is_covered, is_known, is_shut, value_in}
use Rattle.board_history.specs.Replay.{is_closed, value_at}
use Rattle.board_history.specs.Stands.{CellStands, ContentStands}
use Rattle.board_history.proofs.Counts.{closed_counts, counts_closed}
use Rattle.board_history.proofs.Elements.{code_told}
use Rattle.board_history.proofs.EndedBase.{Ending, can, computed, here, made_is, made_new, o, old_place, one_t}
use Rattle.board_history.proofs.EndedCells.{names_after, old_cell, old_cell_there, old_name}
use Rattle.board_history.proofs.EndedContents.{data_after, held_on, held_was, to_stored}
use Rattle.board_history.proofs.Next.{nat_same, nat_sound}
use Rattle.board_history.proofs.Tests.{choose, closed_sound, closed_told, held_value, none_some, value_held, yes_no, some_same}
use Rattle.task_code.proofs.Kept.{code_laws}
use Rattle.task_code.specs.Code.{Code, Variable, body}
use Rattle.task_code.specs.Compute.{Elements}
use Rattle.task_code.specs.Effects.{Task, only}
use Rattle.task_code.specs.Machine.{CodeItem, CodeState}
use Rattle.task_code.specs.Places.{Datum, Place, Step}
use Rattle.task_code.specs.System.{code_system}
use Rattle.task_code.specs.Whole.{IsCode}
use Rattle.values.proofs.Keys.{same_key-eq, same_key-refl}
use Rattle.values.specs.Keys.{hash_of, same_key}
use Rattle.values.specs.declared.key.Key.{Key}
use Rattle.values.specs.declared.value.Scalar.{Scalar}

-- two options that tell of the same thing
same_option : (H : Scalar → Type 0) → ((v w : Scalar) → H v → H w → v ≡ w) → (a b : Option Scalar) → ((v : Scalar) → a ≡ Some v → H v) → ((v : Scalar) → H v → a ≡ None → ⊥) → ((v : Scalar) → b ≡ Some v → H v) → ((v : Scalar) → H v → b ≡ None → ⊥) → a ≡ b
same_option H one None None p q r s = refl
same_option H one None (Some v) p q r s = absurd (q v (r v refl) refl)
same_option H one (Some v) None p q r s = absurd (s v (p v refl) refl)
same_option H one (Some v) (Some u) p q r s = ap Some (one v u (p v refl) (r u refl))

same_truths : (a b : Bool) → (a ≡ true → b ≡ true) → (b ≡ true → a ≡ true) → a ≡ b
same_truths true b f g = sym (f refl)
same_truths false true f g = g refl
same_truths false false f g = refl

-- an element that is found
found_in : (k : Key) (xs : Elements) (v : Scalar) → found k xs ≡ Some v → In (k, v) xs
found_in k [] v = λ h. none_some h
found_in k (x ∷ xs) v =
    choose (λ (r : Option Scalar). r ≡ Some v → In (k, v) (x ∷ xs)) (same_key k x.0) (Some x.1) (found k xs)
    (λ t h. let e = same_key-eq k x.0 t in let u = some_same h in inl (λ i. (e i, sym u i)))
    (λ t h. inr (found_in k xs v h))

in_found : (k : Key) (xs : Elements) (v : Scalar) → In (k, v) xs → found k xs ≡ None → ⊥
in_found k [] v i = λ h. i
in_found k (x ∷ xs) v i =
    choose (λ (r : Option Scalar). r ≡ None → ⊥) (same_key k x.0) (Some x.1) (found k xs)
    (λ t h. none_some (sym h))
    (λ t h. elim i [ inl p ↦ yes_no (subst (λ (l : Key). same_key k l ≡ true) (ap (λ (z : Key × Scalar). z.0) p) (same_key-refl k)) t | inr g ↦ in_found k xs v g h ])

zero_test : (n : ℕ) → n ≡ 0 → nat_eq n 0 ≡ true
zero_test n h = grind arith

test_zero : (n : ℕ) → nat_eq n 0 ≡ true → n ≡ 0
test_zero n h = grind arith

module _ (C : Code) (I : IsCode C) (L : Layout) (es : List Event) (F : Fields) (w n : ℕ) (t : CodeState) (G : Fields) (P : Ending C L es F w n t G) where
  abbrev names : List (ℕ × Place)
  names = P.x.names

  abbrev later : List (ℕ × Place)
  later = names_after C I L es F w n t G P

  -- what the fields tell of a datum that is there afterwards
  module _ (d : ℕ) (q : List Step) (v : Variable) (h : In (d, Datum q v) later) where
    abbrev a : Place
    a = Datum q v

    cell : (c : Counted) × (slot_at G.cells d ≡ Some c) × CellStands C t (Datum q v) c
    cell = (data_after C I L es F w n t G P).there d (Datum q v) h

    there : In (Datum q v) t.places
    there = (data_after C I L es F w n t G P).naming.there d (Datum q v) h

    abbrev Same : Key → Scalar → Type 0
    Same k u = Holds (code_system C) t (Datum q v) k u

    one : (k : Key) (u x : Scalar) → Same k u → Same k x → u ≡ x
    one k u x g i = one_t C I L es F w n t G P (Datum q v) k u x g i

    from_value : (k : Key) (u : Scalar) → value_at (code_system C) code_tests t.stored (Datum q v) k ≡ Some u → Same k u
    from_value k u g = value_held (code_system C) code_tests (code_told C) t.stored (Datum q v) k u g

    value_some : (k : Key) (u : Scalar) → Same k u → value_at (code_system C) code_tests t.stored (Datum q v) k ≡ None → ⊥
    value_some k u g e = let z = held_value (code_system C) code_tests (code_told C) t.stored (Datum q v) k u g in none_some (sym e ∙ z.1)

    pub scalar_told : v.array ≡ false → cell_value (slot_at G.cells d) ≡ value_at (code_system C) code_tests t.stored (Datum q v) only
    scalar_told na =
        ap cell_value cell.1
        ∙ same_option (Same only) (one only) (value_in cell.0.content) (value_at (code_system C) code_tests t.stored (Datum q v) only)
        (λ u g. of cell.0.content v.array na cell.2.content u g)
        (λ u g. no cell.0.content v.array na cell.2.content u g)
        (from_value only) (value_some only)
      where
        of : (c : Content) (b : Bool) → b ≡ false → ContentStands C t (Datum q v) b c → (u : Scalar) → value_in c ≡ Some u → Same only u
        of Unset b e st u g = none_some g
        of (Holding x) false e st u g = subst (λ (y : Scalar). Same only y) (some_same g) st
        of (Holding x) true e st u g = absurd st
        of (Mapping xs) b e st u g = none_some g

        no : (c : Content) (b : Bool) → b ≡ false → ContentStands C t (Datum q v) b c → (u : Scalar) → Same only u → value_in c ≡ None → ⊥
        no Unset false e st u g z = st u g
        no Unset true e st u g z = st
        no (Holding x) b e st u g z = none_some (sym z)
        no (Mapping xs) false e st u g z = st
        no (Mapping xs) true e st u g z = yes_no refl e

    pub shut_told : is_shut (slot_at G.cells d) ≡ is_closed (code_system C) code_tests t (Datum q v)
    shut_told =
        ap is_shut cell.1
        ∙ same_truths (nat_eq cell.0.writes 0) (is_closed (code_system C) code_tests t (Datum q v))
        (λ e. closed_told (code_system C) code_tests (code_told C) t (Datum q v) (counts_closed (code_system C) code_tests (code_told C) t (Datum q v) there (sym cell.2.writes ∙ test_zero cell.0.writes e)))
        (λ e. zero_test cell.0.writes (cell.2.writes ∙ closed_counts (code_system C) code_tests (code_told C) t (Datum q v) (closed_sound (code_system C) code_tests (code_told C) t (Datum q v) e)))

    pub element_told : v.array ≡ true → (k : Key) → cell_element k (slot_at G.cells d) ≡ value_at (code_system C) code_tests t.stored (Datum q v) k
    element_told na k =
        ap (cell_element k) cell.1
        ∙ same_option (Same k) (one k) (found k (elements_in cell.0.content)) (value_at (code_system C) code_tests t.stored (Datum q v) k)
        (λ u g. of cell.0.content v.array na cell.2.content u g)
        (λ u g. no cell.0.content v.array na cell.2.content u g)
        (from_value k) (value_some k)
      where
        of : (c : Content) (b : Bool) → b ≡ true → ContentStands C t (Datum q v) b c → (u : Scalar) → found k (elements_in c) ≡ Some u → Same k u
        of Unset b e st u g = none_some g
        of (Holding x) b e st u g = none_some g
        of (Mapping xs) true e st u g = st.1 k u (found_in k xs u g)
        of (Mapping xs) false e st u g = absurd st

        no : (c : Content) (b : Bool) → b ≡ true → ContentStands C t (Datum q v) b c → (u : Scalar) → Same k u → found k (elements_in c) ≡ None → ⊥
        no Unset true e st u g z = st
        no Unset false e st u g z = yes_no e refl
        no (Holding x) true e st u g z = st
        no (Holding x) false e st u g z = yes_no e refl
        no (Mapping xs) true e st u g z = in_found k xs u (st.0 k u g) z
        no (Mapping xs) false e st u g z = st

    -- a whole datum that is known by the fields
    pub known_scalar : v.array ≡ false → is_known G.cells (Whole d) ≡ true → value_at (code_system C) code_tests t.stored (Datum q v) only ≡ None → ⊥
    known_scalar na g z = by cell.0.content v.array na cell.2.content (ap cell_known (sym cell.1) ∙ g)
      where
        by : (c : Content) (b : Bool) → b ≡ false → ContentStands C t (Datum q v) b c → cell_known (Some (record { reads = cell.0.reads; writes = cell.0.writes; content = c })) ≡ true → ⊥
        by Unset b e st g = yes_no g refl
        by (Holding u) false e st g = value_some only u st z
        by (Holding u) true e st g = st
        by (Mapping xs) true e st g = yes_no refl e
        by (Mapping xs) false e st g = st

    pub known_array : v.array ≡ true → is_known G.cells (Whole d) ≡ true → is_closed (code_system C) code_tests t (Datum q v) ≡ true
    known_array na g = sym shut_told ∙ ap is_shut cell.1 ∙ by cell.0.content v.array na cell.2.content (ap cell_known (sym cell.1) ∙ g)
      where
        by : (c : Content) (b : Bool) → b ≡ true → ContentStands C t (Datum q v) b c → cell_known (Some (record { reads = cell.0.reads; writes = cell.0.writes; content = c })) ≡ true → nat_eq cell.0.writes 0 ≡ true
        by Unset b e st g = yes_no g refl
        by (Holding u) true e st g = absurd st
        by (Holding u) false e st g = yes_no e refl
        by (Mapping xs) b e st g = g

  -- a datum that was there and is not free
  module _ (d : ℕ) (q : List Step) (v : Variable) (h : In (d, Datum q v) names) (nf : Free (code_system C) t (Datum q v) → ⊥) where
    pub stays_later : In (d, Datum q v) later
    stays_later = old_name C I L es F w n t G P d (Datum q v) _ h (old_cell_there C I L es F w n t G P d (Datum q v) h nf)

    -- a value stays
    pub value_stays_at : (k : Key) (u : Scalar) → value_at (code_system C) code_tests P.x.state.stored (Datum q v) k ≡ Some u → value_at (code_system C) code_tests t.stored (Datum q v) k ≡ Some u
    value_stays_at k u e =
        let g = held_on C I L es F w n t G P (Datum q v) k u nf (value_held (code_system C) code_tests (code_told C) P.x.state.stored (Datum q v) k u e) in
        let z = held_value (code_system C) code_tests (code_told C) t.stored (Datum q v) k u g in
        z.1 ∙ ap Some (one_t C I L es F w n t G P (Datum q v) k z.0 u (value_held (code_system C) code_tests (code_told C) t.stored (Datum q v) k z.0 z.1) g)

    -- a new value was stored by the item
    new_value : (k : Key) (u : Scalar) → value_at (code_system C) code_tests P.x.state.stored (Datum q v) k ≡ None → value_at (code_system C) code_tests t.stored (Datum q v) k ≡ Some u → In (k, u) (job_stores C L F.frames P.row.job (computed C I L es F w n t G P) d)
    new_value k u e g =
        elim (held_was C I L es F w n t G P (Datum q v) k u (value_held (code_system C) code_tests (code_told C) t.stored (Datum q v) k u g)) [
          | inl i ↦ (let z = held_value (code_system C) code_tests (code_told C) P.x.state.stored (Datum q v) k u i in none_some (sym e ∙ z.1))
          | inr i ↦ to_stored C I L es F w n t G P d q v h k u P.row.job refl i
        ]

    abbrev before : Counted
    before = (old_cell C I L es F w n t G P d (Datum q v) h).before

    was : slot_at F.cells d ≡ Some before
    was = (old_cell C I L es F w n t G P d (Datum q v) h).was

    stood : CellStands C P.x.state (Datum q v) before
    stood = (old_cell C I L es F w n t G P d (Datum q v) h).stood

    array_before : is_array_content before.content ≡ v.array
    array_before = by v.array before.content stood.content
      where
        by : (b : Bool) (c : Content) → ContentStands C P.x.state (Datum q v) b c → is_array_content c ≡ b
        by false Unset st = refl
        by false (Holding u) st = refl
        by false (Mapping xs) st = absurd st
        by true Unset st = absurd st
        by true (Holding u) st = absurd st
        by true (Mapping xs) st = refl

    covered_by : (k : Want ℕ) → (known : List (Want ℕ)) (i : Want ℕ) → In i known → covers i k ≡ true → is_covered known k ≡ true
    covered_by k [] i g e = absurd g
    covered_by k (x ∷ xs) i g e =
        elim g [ inl p ↦ or_left (covers x k) (is_covered xs k) (subst (λ (y : Want ℕ). covers y k ≡ true) p e) | inr r ↦ or_right (covers x k) (is_covered xs k) (covered_by k xs i r e) ]

    -- what is not told did not become known
    pub scalar_unknown : v.array ≡ false → is_covered P.to.known (Whole d) ≡ false → value_at (code_system C) code_tests P.x.state.stored (Datum q v) only ≡ None → value_at (code_system C) code_tests t.stored (Datum q v) only ≡ None
    scalar_unknown na nc e = by (value_at (code_system C) code_tests t.stored (Datum q v) only) refl
      where
        some_of : (k : Key) (u : Scalar) (l : Elements) → In (k, u) l → (x : Key × Scalar) × (xs : Elements) × (l ≡ x ∷ xs)
        some_of k u [] i = absurd i
        some_of k u (x ∷ xs) i = (x, xs, refl)

        by : (r : Option Scalar) → value_at (code_system C) code_tests t.stored (Datum q v) only ≡ r → r ≡ None
        by None g = refl
        by (Some u) g =
            let s = some_of only u (job_stores C L F.frames P.row.job (computed C I L es F w n t G P) d) (new_value only u e g) in
            let k = P.to.becomes.put d before s.0 s.1 was (array_before ∙ na) s.2 in
            yes_no (covered_by (Whole d) P.to.known (Whole d) k (nat_same d)) nc

    pub array_unknown : v.array ≡ true → is_covered P.to.known (Whole d) ≡ false → is_closed (code_system C) code_tests P.x.state (Datum q v) ≡ false → is_closed (code_system C) code_tests t (Datum q v) ≡ false
    array_unknown na nc e = by (is_closed (code_system C) code_tests t (Datum q v)) refl
      where
        c : slot_at G.cells d ≡ Some (record { reads = (old_cell C I L es F w n t G P d (Datum q v) h).after.reads; writes = (old_cell C I L es F w n t G P d (Datum q v) h).after.writes; content = (old_cell C I L es F w n t G P d (Datum q v) h).after.content })
        c = old_cell_there C I L es F w n t G P d (Datum q v) h nf

        more : (k : ℕ) → (k ≡ 0 → ⊥) → 0 < k
        more zero ne = absurd (ne refl)
        more (suc k) ne = omega arith

        by : (b : Bool) → is_closed (code_system C) code_tests t (Datum q v) ≡ b → b ≡ false
        by false g = refl
        by true g =
            let shut = closed_counts (code_system C) code_tests (code_told C) t (Datum q v) (closed_sound (code_system C) code_tests (code_told C) t (Datum q v) g) in
            let open_before : before.writes ≡ 0 → ⊥ = λ z. yes_no (closed_told (code_system C) code_tests (code_told C) P.x.state (Datum q v) (counts_closed (code_system C) code_tests (code_told C) P.x.state (Datum q v) (P.x.data_stand.naming.there d (Datum q v) h) (sym stood.writes ∙ z))) e in
            let k = P.to.becomes.closed d before _ was c (array_before ∙ na) (more before.writes open_before) ((old_cell C I L es F w n t G P d (Datum q v) h).writes ∙ shut) in
            yes_no (covered_by (Whole d) P.to.known (Whole d) k (nat_same d)) nc

    covered_whole : (k : ℕ) → is_covered P.to.known (AnElement d k) ≡ false → is_covered P.to.known (Whole d) ≡ false
    covered_whole k nc = by P.to.known nc
      where
        one_less : (a b c e : Bool) → (a ≡ true → b ≡ true) → (c ≡ true → e ≡ true) → (b || e) ≡ false → (a || c) ≡ false
        one_less true true c e f g z = yes_no refl z
        one_less true false c e f g z = yes_no (f refl) refl
        one_less false b true e f g z = yes_no (or_right b e (g refl)) z
        one_less false b false e f g z = refl

        less : (x : Want ℕ) → covers x (Whole d) ≡ true → covers x (AnElement d k) ≡ true
        less (Whole y) e = e
        less (AnElement y l) e = yes_no e refl

        by : (xs : List (Want ℕ)) → is_covered xs (AnElement d k) ≡ false → is_covered xs (Whole d) ≡ false
        by [] z = refl
        by (x ∷ xs) z = one_less (covers x (Whole d)) (covers x (AnElement d k)) (is_covered xs (Whole d)) (is_covered xs (AnElement d k)) (less x) (tail xs) z
          where
            tail : (xs : List (Want ℕ)) → is_covered xs (Whole d) ≡ true → is_covered xs (AnElement d k) ≡ true
            tail [] z = z
            tail (x ∷ xs) z =
                elim (or_cases (covers x (Whole d)) (is_covered xs (Whole d)) z) [ inl g ↦ or_left (covers x (AnElement d k)) (is_covered xs (AnElement d k)) (less x g) | inr g ↦ or_right (covers x (AnElement d k)) (is_covered xs (AnElement d k)) (tail xs g) ]

    pub element_unknown : v.array ≡ true → (k : Key) → is_covered P.to.known (AnElement d (hash_of k)) ≡ false → is_closed (code_system C) code_tests P.x.state (Datum q v) ≡ false → value_at (code_system C) code_tests P.x.state.stored (Datum q v) k ≡ None → (value_at (code_system C) code_tests t.stored (Datum q v) k ≡ None) × (is_closed (code_system C) code_tests t (Datum q v) ≡ false)
    element_unknown na k nc open_before e =
        (by (value_at (code_system C) code_tests t.stored (Datum q v) k) refl, array_unknown na (covered_whole (hash_of k) nc) open_before)
      where
        by : (r : Option Scalar) → value_at (code_system C) code_tests t.stored (Datum q v) k ≡ r → r ≡ None
        by None g = refl
        by (Some u) g =
            let i = P.to.becomes.inserted d before k u was (array_before ∙ na) (new_value k u e g) in
            yes_no (covered_by (AnElement d (hash_of k)) P.to.known (AnElement d (hash_of k)) i (and_from (nat_eq d d) (nat_eq (hash_of k) (hash_of k)) (nat_same d) (nat_same (hash_of k)))) nc

    -- what is told is known
    told_known : (xs : List (Want ℕ)) → ((x : Want ℕ) → In x xs → In x P.to.known) → is_covered xs (Whole d) ≡ true → is_known G.cells (Whole d) ≡ true
    told_known [] inn z = yes_no z refl
    told_known (Whole y ∷ xs) inn z =
        elim (or_cases (nat_eq y d) (is_covered xs (Whole d)) z) [
          | inl g ↦ subst (λ (k : ℕ). is_known G.cells (Whole k) ≡ true) (nat_sound y d g) (P.to.becomes.sound (Whole y) (inn (Whole y) (inl refl)))
          | inr g ↦ told_known xs (λ x i. inn x (inr i)) g
        ]
    told_known (AnElement y l ∷ xs) inn z = told_known xs (λ x i. inn x (inr i)) z

    pub covered_known : is_covered P.to.known (Whole d) ≡ true → is_known G.cells (Whole d) ≡ true
    covered_known z = told_known P.to.known (λ x i. i) z

  -- a closed array stays closed
  pub closed_stays : (a : Place) → (Free (code_system C) t a → ⊥) → ClosedByRights (code_system C) P.x.state a → ClosedByRights (code_system C) t a
  closed_stays a nf c = record { there = old_place C I L es F w n t G P a c.there nf; nobody = nobody }
    where
      nobody : (i : CodeItem) → In i t.items → In a ((code_system C).may_write i.task) → ⊥
      nobody i h m =
          elim (in_split i ((o C I L es F w n t G P).before ++ (o C I L es F w n t G P).after) (new_items P.x.state.next (tasks_of (o C I L es F w n t G P).effect.opens)) (subst (λ (is : List CodeItem). In i is) (o C I L es F w n t G P).items h)) [
            | inl g ↦ c.nobody i (subst (λ (is : List CodeItem). In i is) (sym (o C I L es F w n t G P).there) (seam_in i (o C I L es F w n t G P).item (o C I L es F w n t G P).before (o C I L es F w n t G P).after g)) m
            | inr g ↦ (let u : In i.task (tasks_of (o C I L es F w n t G P).effect.opens) = subst (λ (l : List Task). In i.task l) (new_tasks P.x.state.next (tasks_of (o C I L es F w n t G P).effect.opens)) (in_map (λ (i : CodeItem). i.task) i (new_items P.x.state.next (tasks_of (o C I L es F w n t G P).effect.opens)) g) in
                let p = in_tasks i.task (o C I L es F w n t G P).effect.opens u in
                elim ((code_laws C I).opens_covered (o C I L es F w n t G P).item.task i.task (o C I L es F w n t G P).effect p.0 a (can C I L es F w n t G P) p.1 p.2 m) [
                  | inl k ↦ (let b = made_is C I L es F w n t G P a (makes_in a p.0 (o C I L es F w n t G P).effect.opens p.1 k) in made_new C I L es F w n t G P b.0 b.2 a (subst (λ (y : Place). In y (map (Datum b.0.1) (body C b.0.0).makes)) (sym b.4) (in_map (Datum b.0.1) b.1 (body C b.0.0).makes b.3)) c.there)
                  | inr k ↦ c.nobody (o C I L es F w n t G P).item (here C I L es F w n t G P) k
                ])
          ]
