-- A step that changes one status keeps the fields standing for the state.
use Rattle.std.proofs.Common.{◌≡◌, ◌⊎◌, inl, inr, ℕ, zero, suc, ◌+◌, Bool, true, false, not, ◌&&◌, ◌||◌, List, [], ◌∷◌, ◌++◌, map, length, refl, sym, ap, ◌∙◌, subst, Option, None, Some, arith}
use Rattle.std.specs.Prelude.{ℤ}
use Rattle.std.specs.List.{flat_map}
use Rattle.dataflow.specs.System.{Distinct, In, Input, Write, StoredScalar, ClosedArray, ElementOf, ElementAt}
use Rattle.dataflow.specs.Machine.{Event, Fault, Holds, Run, start}
use Rattle.dataflow.specs.Events.{NewlyAt}
use Rattle.dataflow.specs.Names.{IsNaming}
use Rattle.dataflow.specs.History.{log_of}
use Rattle.dataflow.proofs.Known.{one_value}
use Rattle.dataflow.proofs.Lists.{in_map, in_seam, seam_in, seam_here}
use Rattle.dataflow.proofs.Numbers.{number_of_item, start_numbered}
use Rattle.dataflow.proofs.Steps.{run_follows}
use Rattle.board_history.specs.Replay.{answer, answers, array_answer, both, element_answer, elements_at, has_writer, is_among, is_closed, keyed_answer, scalar_answer, value_at}
use Rattle.board_history.specs.CodeReplay.{replayed}
use Rattle.board_history.specs.Elements.{code_tests}
use Rattle.board_history.specs.Fields.{Content, Counted, Fields, Holding, Job, Layout, Mapping, Status, Over, Ready, Row, Running, Slot, Unset, Waiter, Waiting, Want, item_before, items_from, frames_in, row_of, rows_in, running_in, task_of}
use Rattle.board_history.specs.Stands.{CellStands, ContentStands, DataStand, FramesStand, ItemsStand, QueueStands, SlotStands, Stands, TurnsStand, WaitsStand, AllStand, array_wanted, element_wanted, keyed_wanted, scalar_wanted, kept_turns, turns_left, wanted, wants}
use Rattle.board_history.specs.Counts.{SameCounts}
use Rattle.board_history.specs.Marking.{with_status}
use Rattle.board_history.proofs.Elements.{code_told}
use Rattle.board_history.proofs.Marking.{IsItem, RowIs, RowWas, item, item_not_over, items_marked, live_status, row_found, row_was, rows_marked}
use Rattle.board_history.proofs.Replays.{numbered_on, run_replayed}
use Rattle.board_history.proofs.Seen.{OneValue}
use Rattle.board_history.proofs.Standing.{enabled_wants, wants_enabled}
use Rattle.task_code.proofs.Kept.{code_laws}
use Rattle.task_code.specs.Code.{Code, Kind}
use Rattle.task_code.specs.Compute.{EntryFault, key_of}
use Rattle.task_code.specs.Effects.{Main, Task, only}
use Rattle.task_code.specs.Machine.{CodeItem, CodeState, Enabled}
use Rattle.task_code.specs.Places.{Constant, Datum, Nowhere, Place, place_array}
use Rattle.task_code.specs.System.{code_system, task_inputs}
use Rattle.task_code.specs.Whole.{IsCode}
use Rattle.values.specs.Keys.{hash_of}
use Rattle.values.specs.declared.key.Key.{Key}
use Rattle.values.specs.declared.value.Scalar.{Scalar}
use Rattle.board_history.proofs.Tests.{some_same}

tail_is : {X : Type 0} {a b : X} {xs ys : List X} → ◌≡◌ {A = List X} (a ∷ xs) (b ∷ ys) → xs ≡ ys
tail_is h = cc

head_is : {X : Type 0} {a b : X} {xs ys : List X} → ◌≡◌ {A = List X} (a ∷ xs) (b ∷ ys) → a ≡ b
head_is h = cc

no_end : {X B : Type 0} (ys : List X) (y : X) → [] ≡ ys ++ y ∷ [] → B
no_end [] y h = absurd (cc)
no_end (b ∷ ys) y h = absurd (cc)

-- the last of two lists that are one
pub snoc_first : {X : Type 0} (xs ys : List X) (x y : X) → xs ++ x ∷ [] ≡ ys ++ y ∷ [] → xs ≡ ys
snoc_first [] [] x y h = refl
snoc_first [] (b ∷ ys) x y h = no_end ys y (tail_is h)
snoc_first (a ∷ xs) [] x y h = no_end xs x (sym (tail_is h))
snoc_first (a ∷ xs) (b ∷ ys) x y h = let r = snoc_first xs ys x y (tail_is h) in let e = head_is h in λ i. e i ∷ r i

-- what a running status says of its item
pub runs_of : (m : Status) (v : ℕ) (y : IsItem m) → m ≡ Running v → y.runs ≡ Some v
runs_of m v y q = ap (λ (i : CodeItem). i.runs) (head_is (sym (y.is 0 Main []) ∙ ap (λ (z : Status). item_before 0 Main z []) q))

pub running_not_ready : {B : Type 0} {w : ℕ} → Running w ≡ Ready → B
running_not_ready h = absurd (cc)

pub running_not_waiting : {B : Type 0} {w : ℕ} → Running w ≡ Waiting → B
running_not_waiting h = absurd (cc)

-- no other item has its number
alone : (before after : List CodeItem) (i k : CodeItem) → Distinct (map number_of_item (before ++ i ∷ after)) → In k (before ++ after) → i.number ≡ k.number → ⊥
alone [] after i k d h e = d.0 (subst (λ (m : ℕ). In m (map number_of_item after)) (sym e) (in_map number_of_item k after h))
alone (b ∷ before) after i k d h e =
    elim h [
      | inl p ↦ d.0 (subst (λ (m : ℕ). In m (map number_of_item (before ++ i ∷ after))) (e ∙ ap number_of_item p) (in_map number_of_item i (before ++ i ∷ after) (seam_here i before after)))
      | inr g ↦ alone before after i k d.1 g e
    ]

module _ (C : Code) where
  -- who may write, after a status was changed
  writer_marked : (before after : List CodeItem) (i : CodeItem) (r : Option ℕ) (a : Place) → has_writer (code_system C) code_tests (before ++ item i.number i.task r ∷ after) a ≡ has_writer (code_system C) code_tests (before ++ i ∷ after) a
  writer_marked [] after i r a = refl
  writer_marked (b ∷ before) after i r a = ap (λ (t : Bool). is_among (code_system C) code_tests a ((code_system C).may_write b.task) || t) (writer_marked before after i r a)

  module _ (s t : CodeState) (places : t.places ≡ s.places) (stored : t.stored ≡ s.stored) (writes : (a : Place) → has_writer (code_system C) code_tests t.items a ≡ has_writer (code_system C) code_tests s.items a) where
    closed_same : (a : Place) → is_closed (code_system C) code_tests t a ≡ is_closed (code_system C) code_tests s a
    closed_same a = let w = writes a in λ i. is_among (code_system C) code_tests a (places i) && not (w i)

    keyed_same : (a d : Place) (r : Option Scalar) → keyed_wanted C t a d r ≡ keyed_wanted C s a d r
    keyed_same a d None = refl
    keyed_same a d (Some v) = let c = closed_same a in λ i. element_wanted (value_at (code_system C) code_tests (stored i) a (key_of v)) (c i) a (hash_of (key_of v))

    wanted_same : (i : Input Place Key) → wanted C t i ≡ wanted C s i
    wanted_same (StoredScalar d) = λ j. scalar_wanted (value_at (code_system C) code_tests (stored j) d only) d
    wanted_same (ClosedArray a) = let c = closed_same a in λ j. array_wanted (c j) a
    wanted_same (ElementOf a k) = let c = closed_same a in λ j. element_wanted (value_at (code_system C) code_tests (stored j) a k) (c j) a (hash_of k)
    wanted_same (ElementAt a d) =
        keyed_same a d (value_at (code_system C) code_tests t.stored d only)
        ∙ (λ j. keyed_wanted C s a d (value_at (code_system C) code_tests (stored j) d only))

    all_same : (is : List (Input Place Key)) → flat_map (wanted C t) is ≡ flat_map (wanted C s) is
    all_same [] = refl
    all_same (i ∷ is) = let x = wanted_same i in let r = all_same is in λ j. x j ++ r j

    wants_same : (u : Task) → wants C t u ≡ wants C s u
    wants_same u = all_same (task_inputs C u)

    keyed_answer_same : (a : Place) (r : Option Scalar) → keyed_answer (code_system C) code_tests t a r ≡ keyed_answer (code_system C) code_tests s a r
    keyed_answer_same a None = refl
    keyed_answer_same a (Some v) = let c = closed_same a in λ i. element_answer (code_system C) code_tests (value_at (code_system C) code_tests (stored i) a (key_of v)) (c i)

    answer_same : (i : Input Place Key) → answer (code_system C) code_tests t i ≡ answer (code_system C) code_tests s i
    answer_same (StoredScalar d) = λ j. scalar_answer (code_system C) code_tests (value_at (code_system C) code_tests (stored j) d only)
    answer_same (ClosedArray a) = let c = closed_same a in λ j. array_answer (code_system C) code_tests (c j) (code_tests.listing (elements_at (code_system C) code_tests (stored j) a))
    answer_same (ElementOf a k) = let c = closed_same a in λ j. element_answer (code_system C) code_tests (value_at (code_system C) code_tests (stored j) a k) (c j)
    answer_same (ElementAt a d) =
        keyed_answer_same a (value_at (code_system C) code_tests t.stored d only)
        ∙ (λ j. keyed_answer (code_system C) code_tests s a (value_at (code_system C) code_tests (stored j) d only))

    answers_same : (is : List (Input Place Key)) → answers (code_system C) code_tests t is ≡ answers (code_system C) code_tests s is
    answers_same [] = refl
    answers_same (i ∷ is) = let x = answer_same i in let r = answers_same is in λ j. both (x j) (r j)

    turns_same : (u : Task) → kept_turns C t u ≡ kept_turns C s u
    turns_same u = ap (turns_left C u) (answers_same (task_inputs C u))

    held_back : (a : Place) (k : Key) (v : Scalar) → Holds (code_system C) t a k v → Holds (code_system C) s a k v
    held_back a k v h = subst (λ (l : List (Write Place Key Scalar)). In (record { place = a; key = k; value = v }) l) stored h

    held_on : (a : Place) (k : Key) (v : Scalar) → Holds (code_system C) s a k v → Holds (code_system C) t a k v
    held_on a k v h = subst (λ (l : List (Write Place Key Scalar)). In (record { place = a; key = k; value = v }) l) (sym stored) h

    content_same : (a : Place) (b : Bool) (c : Content) → ContentStands C s a b c → ContentStands C t a b c
    content_same a false Unset h = λ v i. h v (held_back a only v i)
    content_same a false (Holding v) h = held_on a only v h
    content_same a false (Mapping xs) h = h
    content_same a true (Mapping xs) h =
        ((λ k v i. h.0 k v (held_back a k v i)), (λ k v i. held_on a k v (h.1 k v i)))
    content_same a true Unset h = h
    content_same a true (Holding v) h = h

    slot_same : (names : List (ℕ × Place)) (x : Slot) (a : Place) → SlotStands C s names x a → SlotStands C t names x a
    slot_same names x (Datum p v) h = λ i. h (subst (λ (l : List Place). In (Datum p v) l) places i)
    slot_same names x (Constant v) h = h
    slot_same names x Nowhere h = h

  -- a step that changes the status of one item and nothing else
  pub record Remark (L : Layout) (es : List Event) (F : Fields) (x : Stands C L es F) (e : Event) (n : ℕ) (m : Status) (t : CodeState) : Type 0 where
    pub y : IsItem m
    pub reached : replayed C (es ++ e ∷ []) ≡ Some t
    pub counts : SameCounts (code_system C) code_tests x.state t
    pub i : CodeItem
    pub before : List CodeItem
    pub after : List CodeItem
    pub at : x.state.items ≡ before ++ i ∷ after
    pub num : i.number ≡ n
    pub now : t.items ≡ before ++ item i.number i.task y.runs ∷ after
    pub places : t.places ≡ x.state.places
    pub stored : t.stored ≡ x.state.stored
    pub next : t.next ≡ x.state.next
    pub lines : t.lines ≡ x.state.lines

  module _ (I : IsCode C) (L : Layout) (es : List Event) (F : Fields) (x : Stands C L es F) (e : Event) (n : ℕ) (m : Status) (t : CodeState) (c : Remark L es F x e n m t) where
    abbrev s : CodeState
    s = x.state

    abbrev i : CodeItem
    i = c.i

    abbrev j : CodeItem
    j = item c.i.number c.i.task c.y.runs

    abbrev before : List CodeItem
    before = c.before

    abbrev after : List CodeItem
    after = c.after

    abbrev at : s.items ≡ before ++ i ∷ after
    at = c.at

    abbrev num : i.number ≡ n
    num = c.num

    abbrev now : t.items ≡ before ++ j ∷ after
    now = c.now

    abbrev places : t.places ≡ s.places
    places = c.places

    abbrev stored : t.stored ≡ s.stored
    stored = c.stored

    run : Run (code_system C) es s
    run = (run_replayed (code_system C) code_tests (code_told C) (code_laws C I) es s x.reached).0

    run_t : Run (code_system C) (es ++ e ∷ []) t
    run_t = (run_replayed (code_system C) code_tests (code_told C) (code_laws C I) (es ++ e ∷ []) t c.reached).0

    numbers : Distinct (map number_of_item s.items)
    numbers = (numbered_on (code_system C) code_tests (code_told C) (code_laws C I) es (start (code_system C)) s (start_numbered (code_system C)) run).once

    one_s : OneValue (code_system C) code_tests (code_told C) s
    one_s = one_value (code_system C) (code_laws C I) s (log_of (code_system C) es s run) (run_follows (code_system C) (code_laws C I) es s run)

    one_t : OneValue (code_system C) code_tests (code_told C) t
    one_t = one_value (code_system C) (code_laws C I) t (log_of (code_system C) (es ++ e ∷ []) t run_t) (run_follows (code_system C) (code_laws C I) (es ++ e ∷ []) t run_t)

    pub here : In i s.items
    here = subst (λ (is : List CodeItem). In i is) (sym at) (seam_here i before after)

    pub found : RowIs F.frames F.rows 1 i
    found = row_found F.frames 1 F.rows i (subst (λ (is : List CodeItem). In i is) (sym x.items.items) here)

    pub place : suc found.at ≡ n
    place = let e = found.number_is in omega arith

    pub row_there : row_of F.rows n ≡ Some found.row
    row_there = subst (λ (m : ℕ). row_of F.rows m ≡ Some found.row) place found.there

    -- what is in one list of items is in the other
    pub old_item : (k : CodeItem) → In k t.items → (In k s.items × In k (before ++ after)) ⊎ (k ≡ j)
    old_item k h =
        elim (in_seam k j before after (subst (λ (is : List CodeItem). In k is) now h)) [
          | inl g ↦ inl (subst (λ (is : List CodeItem). In k is) (sym at) (seam_in k i before after g), g)
          | inr p ↦ inr p
        ]

    pub new_item : (k : CodeItem) → In k s.items → In k t.items ⊎ (k ≡ i)
    new_item k h =
        elim (in_seam k i before after (subst (λ (is : List CodeItem). In k is) at h)) [
          | inl g ↦ inl (subst (λ (is : List CodeItem). In k is) (sym now) (seam_in k j before after g))
          | inr p ↦ inr p
        ]

    -- the others have other numbers
    pub apart : (k : CodeItem) → In k (before ++ after) → n ≡ k.number → ⊥
    apart k h e = alone before after i k (subst (λ (is : List CodeItem). Distinct (map number_of_item is)) at numbers) h (num ∙ e)

    writes_same : (a : Place) → has_writer (code_system C) code_tests t.items a ≡ has_writer (code_system C) code_tests s.items a
    writes_same a =
        ap (λ (is : List CodeItem). has_writer (code_system C) code_tests is a) now
        ∙ writer_marked before after i c.y.runs a
        ∙ ap (λ (is : List CodeItem). has_writer (code_system C) code_tests is a) (sym at)

    want_of : (u : Task) → wants C t u ≡ wants C s u
    want_of u = wants_same s t places stored writes_same u

    pub enabled_on : (u : Task) → Enabled C s u → Enabled C t u
    enabled_on u h = wants_enabled C t one_t u (want_of u ∙ enabled_wants C s one_s u h)

    pub enabled_back : (u : Task) → Enabled C t u → Enabled C s u
    enabled_back u h = wants_enabled C s one_s u (sym (want_of u) ∙ enabled_wants C t one_t u h)

    rows_place : with_status F.rows n m ≡ with_status F.rows (suc found.at) m
    rows_place = ap (λ (l : ℕ). with_status F.rows l m) (sym place)

    length_same : (rows : List Row) (l : ℕ) → length (with_status rows l m) ≡ length rows
    length_same [] l = refl
    length_same (q ∷ rows) zero = refl
    length_same (q ∷ rows) (suc zero) = omega arith
    length_same (q ∷ rows) (suc (suc l)) = let r = length_same rows (suc l) in omega arith

    -- with what the status, the queue, the number that run, those newly enabled and the fault have to be
    module _ (queue : Kind → ℤ → List ℕ) (running : ℕ) (newly : List ℕ) (fault : Option (Task × Fault EntryFault)) where
      abbrev G : Fields
      G = record { frames = F.frames; rows = with_status F.rows n m; cells = F.cells; waiting = F.waiting; turns = F.turns; queue = queue; lines = F.lines; fault = fault; running = running; newly = newly }

      items_on : (m ≡ Ready → Enabled C s i.task) → (m ≡ Waiting → Enabled C s i.task → ⊥) → (running ≡ running_in (with_status F.rows (suc found.at) m)) → ItemsStand C G t
      items_on good bad count = record {
        items =
            ap (λ (rs : List Row). items_from F.frames 1 rs) rows_place
            ∙ items_marked F.frames 1 F.rows found.at found.row m c.y before after i found.there found.not_over (x.items.items ∙ at) found.number_is
            ∙ sym now;
        next = c.next ∙ x.items.next ∙ ap suc (sym (length_same F.rows n));
        ready = λ l r h b. (let y = row_was F.rows n m l r h in
            subst (λ (b : Job). Enabled C t (task_of F.frames b)) (sym y.job_is) (enabled_on (task_of F.frames y.old.job)
            (elim y.status_is [ inl p ↦ subst (λ (u : Task). Enabled C s u) (found.task_is ∙ same_job y p.0) (good (sym p.1 ∙ b)) | inr p ↦ x.items.ready l y.old y.there (sym p ∙ b) ])));
        waiting = λ l r h b en. (let y = row_was F.rows n m l r h in
            let en' = subst (λ (b : Job). Enabled C s (task_of F.frames b)) y.job_is (enabled_back (task_of F.frames r.job) en) in
            elim y.status_is [
              | inl p ↦ bad (sym p.1 ∙ b) (subst (λ (u : Task). Enabled C s u) (sym (found.task_is ∙ same_job y p.0)) en')
              | inr p ↦ x.items.waiting l y.old y.there (sym p ∙ b) en'
            ]);
        running = count ∙ ap running_in (sym rows_place);
      }
        where
          same_job : {l : ℕ} {r : Row} (y : RowWas F.rows n m l r) → l ≡ n → task_of F.frames found.row.job ≡ task_of F.frames y.old.job
          same_job y p =
              let e : found.row ≡ y.old = some_same (sym row_there ∙ subst (λ (k : ℕ). row_of F.rows k ≡ Some y.old) p y.there) in
              ap (λ (q : Row). task_of F.frames q.job) e

      rows_same : (k : ℕ) → rows_in k (with_status F.rows n m) ≡ rows_in k F.rows
      rows_same k = ap (rows_in k) rows_place ∙ rows_marked k F.rows found.at found.row m found.there (live_status found.row.status found.not_over) (live_status m (item_not_over m c.y))

      over_not : (l : ℕ) (r : Row) (y : RowWas F.rows n m l r) → (r.status ≡ Over → ⊥) → y.old.status ≡ Over → ⊥
      over_not l r y live o =
          elim y.status_is [
            | inl p ↦ (let e : found.row ≡ y.old = some_same (sym row_there ∙ subst (λ (k : ℕ). row_of F.rows k ≡ Some y.old) p.0 y.there) in
                found.not_over (ap (λ (q : Row). q.status) e ∙ o))
            | inr p ↦ live (p ∙ o)
          ]

      frames_on : FramesStand C L G t x.names
      frames_on = record {
        there = λ l k e d r h b live. (let y = row_was F.rows n m l r h in x.frames.there l k e d y.old y.there (sym y.job_is ∙ b) (over_not l r y live));
        outermost = x.frames.outermost;
        inside = x.frames.inside;
        depth = x.frames.depth;
        live = λ k f h. x.frames.live k f h ∙ ap (λ (m : ℕ). m + frames_in k F.frames) (sym (rows_same k));
        kept = x.frames.kept;
        reads = λ l k e d r f h b live q z iz. (let y = row_was F.rows n m l r h in slot_same s t places stored writes_same x.names _ _ (x.frames.reads l k e d y.old f y.there (sym y.job_is ∙ b) (over_not l r y live) q z iz));
        writes = λ l k e d r f h b live q z iz. (let y = row_was F.rows n m l r h in slot_same s t places stored writes_same x.names _ _ (x.frames.writes l k e d y.old f y.there (sym y.job_is ∙ b) (over_not l r y live) q z iz));
      }

      data_on : DataStand C G t x.names
      data_on = record {
        naming = subst (λ (ps : List Place). IsNaming (code_system C) ℕ x.names ps) (sym places) x.data_stand.naming;
        there = λ d a h. (let r = x.data_stand.there d a h in (r.0, r.1, cell a r.0 r.2));
        only = x.data_stand.only;
      }
        where
          cell : (a : Place) (k : Counted) → CellStands C s a k → CellStands C t a k
          cell a k h = record {
            reads = h.reads ∙ sym (c.counts (code_system C).may_read a);
            writes = h.writes ∙ sym (c.counts (code_system C).may_write a);
            content = content_same s t places stored writes_same a (place_array a) k.content h.content;
          }

      -- an item as it was
      was : (k : CodeItem) → In k t.items → (o : CodeItem) × In o s.items × (o.number ≡ k.number) × (o.task ≡ k.task)
      was k h = elim (old_item k h) [ inl g ↦ (k, g.0, refl, refl) | inr p ↦ (i, here, ap (λ (y : CodeItem). y.number) (sym p), ap (λ (y : CodeItem). y.task) (sym p)) ]

      waits_on : WaitsStand C G t x.names
      waits_on = record {
        waits = λ k h g. (let o = was k h in
            let r = x.waits.waits o.0 o.1 (λ e. g (want_of k.task ∙ ap (wants C s) (sym o.3) ∙ e)) in
            (r.0, r.1, r.2 ∙ o.2));
        missing = λ v h. (let r = x.waits.missing v h in
            by v r.0 r.1 r.2 r.3 r.4 (new_item r.0 r.1));
        once = x.waits.once;
      }
        where
          by : (v : Waiter) (k : CodeItem) → In k s.items → k.number ≡ v.item → (v.missing ≡ [] → ⊥) → AllStand x.names v.missing (wants C s k.task) → In k t.items ⊎ (k ≡ i) → (o : CodeItem) × In o t.items × (o.number ≡ v.item) × (v.missing ≡ [] → ⊥) × AllStand x.names v.missing (wants C t o.task)
          by v k h e d a (inl g) = (k, g, e, d, subst (λ (ws : List (Want Place)). AllStand x.names v.missing ws) (sym (want_of k.task)) a)
          by v k h e d a (inr p) = (
            j,
            subst (λ (is : List CodeItem). In j is) (sym now) (seam_here j before after),
            ap (λ (y : CodeItem). y.number) (sym p) ∙ e,
            d,
            subst (λ (ws : List (Want Place)). AllStand x.names v.missing ws) (ap (λ (y : CodeItem). wants C s y.task) p ∙ sym (want_of i.task)) a,
          )

      turns_on : TurnsStand C G t
      turns_on = record {
        kept = λ k h. (let o = was k h in
            subst (λ (m : ℕ). F.turns m ≡ kept_turns C t k.task) o.2 (x.turns.kept o.0 o.1 ∙ ap (kept_turns C s) o.3 ∙ sym (turns_same s t places stored writes_same k.task)));
        going = λ k h e d p q. (let o = was k h in
            subst (λ (u : Task). Enabled C t u) o.3 (enabled_on o.0.task (x.turns.going o.0 o.1 e d p (o.3 ∙ q))));
      }

      pub stands_on : (m ≡ Ready → Enabled C s i.task) → (m ≡ Waiting → Enabled C s i.task → ⊥) → (running ≡ running_in (with_status F.rows (suc found.at) m)) → QueueStands C G t → NewlyAt (code_system C) s t newly → fault ≡ t.fault → Stands C L (es ++ e ∷ []) G
      stands_on good bad count queue_is newly_is fault_is = record {
        state = t;
        reached = c.reached;
        names = x.names;
        items = items_on good bad count;
        frames = frames_on;
        data_stand = data_on;
        waits = waits_on;
        turns = turns_on;
        queue = queue_is;
        lines = x.lines ∙ sym c.lines;
        fault = fault_is;
        newly = λ b f old h q. (let p = snoc_first es b e f h in
            let r : s ≡ old = some_same (sym x.reached ∙ ap (replayed C) p ∙ q) in
            subst (λ (o : CodeState). NewlyAt (code_system C) o t newly) r newly_is);
      }
