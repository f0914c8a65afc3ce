-- One item more is settled, where there is room.
use Rattle.std.proofs.Common.{◌≡◌, ◌⊎◌, inl, inr, ◌∙◌, ℕ, zero, suc, ◌+◌, ◌-◌, ◌<◌, ◌≤◌, Bool, true, false, ◌&&◌, List, [], ◌∷◌, ◌++◌, length, map, append_assoc, get_or, take, refl, sym, ap, subst, arith, length-append, Option, Some}
use Rattle.std.specs.Prelude.{ℤ, if◌then◌else◌, vec_capacity, vec_len, IsPermutation}
use Rattle.std.specs.List.{filter}
use Rattle.std.proofs.lemmas.List.Sorted.{IsPermutation-map}
use Rattle.std.proofs.lemmas.Bool.Decides.{nat_tests}
use Rattle.std.proofs.lemmas.List.{take_more}
use Rattle.dataflow.specs.System.{Distinct, In}
use Rattle.board_history.specs.Ending.{is_one, job_kind, job_priority, status_after, with_statuses}
use Rattle.board_history.specs.Fields.{Counted, Frame, Job, Status, Over, Ready, Row, Waiter, Waiting, Want, row_of}
use Rattle.board_history.specs.Marking.{kind_eq, with_status}
use Rattle.board_history.proofs.EndedItems.{one_in}
use Rattle.board_history.proofs.EndedRows.{row_to}
use Rattle.board_history.proofs.Next.{nat_sound}
use Rattle.board_history.proofs.Rows.{no_row}
use Rattle.board_history.proofs.Tests.{choose, in_kept, none_some, some_same}
use Rattle.std.specs.Prelude.{nat_eq, nat_lt}
use Rattle.task_code.specs.Code.{Code, Control, Kind, Leaf}
use Rattle.board_instances.specs.View.{rows_view}
use Rattle.work_queue.specs.Both.{Both, of, with_changed}
use Rattle.work_queue.specs.Waiting.{with_put}
use Rattle.work_queue.specs.declared.entry.QueueEntry.{QueueEntry}
use Rattle.board_data.specs.Wanted.{FewSlots}
use Rattle.board_items.specs.Ended.{AreSettled, AreShort, AreToSettle, IsSeen, IsShort, can_begin, missed_at, misses, misses_first, numbers_behind, row_misses, runs_so}
use Rattle.board_items.specs.Progress.{AreOld, CanFinish, Progress, jobs_behind}
use Rattle.board_items.specs.Room.{AreSpare, IsRoomy, apart_in, is_apart}
use Rattle.board_items.specs.Settled.{IsWaiting, Settles, one_less}
use Rattle.board_items.specs.View.{queue_view, waiter_view, waiters_view}
use Rattle.board_items.specs.declared.items.Counts.{Counts}
use Rattle.board_items.specs.declared.items.Items.{Items}
use Rattle.board_items.proofs.Apart.{counts_apart, counts_not, marked_at}
use Rattle.dataflow.proofs.Lists.{in_left, in_right, in_split}
use Rattle.rules.specs.declared.input.Input.{Input}
use Rattle.smallvec.specs.SmallVec.{SmallVec}
use Rattle.board_items.proofs.Lists.{in_back}
use Rattle.board_items.proofs.Numbers.{behind_first, behind_once, first_behind}
use Rattle.board_items.proofs.Queue.{queue_put}
use Rattle.board_items.proofs.Steps.{settled_none, settled_ready, settled_waits}

below : (a b : ℕ) → a < b → nat_lt a b ≡ true
below a b h = grind (arith, nat_tests)

not_below : (a b : ℕ) → b ≤ a → nat_lt a b ≡ false
not_below a b h = grind (arith, nat_tests)

get_in : (xs : List ℕ) (i d : ℕ) → i < length xs → In (get_or xs i d) xs
get_in [] i d h = absurd (omega arith)
get_in (x ∷ xs) zero d h = inl refl
get_in (x ∷ xs) (suc i) d h = inr (get_in xs i d (omega arith))

not_before : (xs : List ℕ) (i d : ℕ) → i < length xs → Distinct xs → In (get_or xs i d) (take i xs) → ⊥
not_before [] i d h u g = absurd (omega arith)
not_before (x ∷ xs) zero d h u g = g
not_before (x ∷ xs) (suc i) d h u g =
    elim g [
      | inl e ↦ u.0 (subst (λ (k : ℕ). In k xs) e (get_in xs i d (omega arith)))
      | inr f ↦ not_before xs i d (omega arith) u.1 f
    ]

jobs_cut : (rows : List Row) (k : ℕ) (r : Row) → row_of rows (suc k) ≡ Some r → jobs_behind k rows ≡ r.job ∷ jobs_behind (suc k) rows
jobs_cut [] k r h = none_some h
jobs_cut (q ∷ rows) zero r h = ap (λ (x : Row). x.job ∷ map (λ (y : Row). y.job) rows) (some_same h)
jobs_cut (q ∷ rows) (suc k) r h = jobs_cut rows k r h

first_once : (xs ys : List ℕ) → Distinct (xs ++ ys) → Distinct xs
first_once [] ys d = tt
first_once (x ∷ xs) ys d = ((λ h. d.0 (in_left x xs ys h)), first_once xs ys d.1)

nil_or : {X : Type 0} (xs : List X) → (xs ≡ []) ⊎ (xs ≡ [] → ⊥)
nil_or [] = inl refl
nil_or (x ∷ xs) = inr (λ h. absurd (cc (h)))

-- the row of an item that has not been settled is as it was
waits_still : (n : ℕ) (newly : List ℕ) (rows : List Row) (m : ℕ) (r : Row) → row_of rows m ≡ Some r → r.status ≡ Waiting → (m ≡ n → ⊥) → (In m newly → ⊥) → row_of (with_statuses (status_after n newly) 1 rows) m ≡ Some (record { job = r.job; status = Waiting })
waits_still n newly rows zero r h w d e = no_row rows r h
waits_still n newly rows (suc j) r h w d e =
    row_to (status_after n newly) 1 rows j (suc j) r h (omega arith)
    ∙ ap (λ (x : Status). Some (record { job = r.job; status = x }))
    (choose (λ (x : Status). x ≡ Waiting) (nat_eq (suc j) n) Over (if is_one (suc j) newly then Ready else r.status)
    (λ t. absurd (d (nat_sound (suc j) n t)))
    (λ f. choose (λ (x : Status). x ≡ Waiting) (is_one (suc j) newly) Ready r.status (λ t. absurd (e (one_in (suc j) newly t))) (λ g. w)))

-- ROOM BY KINDS

abbrev pub one_if : Bool → ℕ
one_if b = if b then 1 else 0

abbrev pub counted_of : Kind → Counts → ℕ
counted_of Control a = a.controls
counted_of Leaf a = a.leaves

abbrev pub room_of : Kind → Both → ℕ
room_of k q = (of k q).room

-- the items of a kind that wait or run are counted, and the queue has room for them
pub record Fits (C : Code) (k : Kind) (items : Items) : Type 0 where
  pub counted : apart_in C k (rows_view items.rows.items) ≤ counted_of k items.apart
  pub fits : apart_in C k (rows_view items.rows.items) ≤ room_of k items.queue

pub fits_of : (C : Code) (items : Items) → IsRoomy C items → (k : Kind) → Fits C k items
fits_of C items r Control = record { counted = r.controls_counted; fits = r.controls_fit }
fits_of C items r Leaf = record { counted = r.leaves_counted; fits = r.leaves_fit }

pub roomy_of : (C : Code) (items : Items) → ((k : Kind) → Fits C k items) → 0 < vec_capacity items.newly → IsRoomy C items
roomy_of C items f noted = record {
  controls_counted = (f Control).counted;
  leaves_counted = (f Leaf).counted;
  controls_fit = (f Control).fits;
  leaves_fit = (f Leaf).fits;
  noted = noted;
}

-- one less of a kind, and one more in the queue
less_of : (k l : Kind) (a : Counts) → counted_of k (one_less l a) ≡ counted_of k a - one_if (kind_eq k l)
less_of Control Control a = refl
less_of Control Leaf a = omega arith
less_of Leaf Control a = omega arith
less_of Leaf Leaf a = refl

pub put_of : (k l : Kind) (x : QueueEntry) (q : Both) → room_of k (with_changed l (with_put x) q) ≡ room_of k q - one_if (kind_eq k l)
put_of Control Control x q = refl
put_of Control Leaf x q = omega arith
put_of Leaf Control x q = omega arith
put_of Leaf Leaf x q = refl

kind_own : (k : Kind) → kind_eq k k ≡ true
kind_own Control = refl
kind_own Leaf = refl

-- there is room for an item that waits or runs
pub one_counted : (C : Code) (items : Items) (n : ℕ) (r : Row) → row_of (rows_view items.rows.items) n ≡ Some r → is_apart r.status ≡ true → IsRoomy C items → 0 < room_of (job_kind C r.job) items.queue
one_counted C items n r there apart room =
    let a = marked_at C (job_kind C r.job) (rows_view items.rows.items) n r Over there in
    let b = counts_apart C (job_kind C r.job) r.status r apart (kind_own (job_kind C r.job)) in
    let c = counts_not C (job_kind C r.job) Over r refl in
    let f = (fits_of C items room (job_kind C r.job)).fits in
    omega arith

-- an item that waited or ran does so no longer
module _ (C : Code) (old new : Items) (n : ℕ) (r : Row) (m : Status) (there : row_of (rows_view old.rows.items) n ≡ Some r) (apart : is_apart r.status ≡ true) (free : is_apart m ≡ false) (rows_are : rows_view new.rows.items ≡ with_status (rows_view old.rows.items) n m) (room : IsRoomy C old) where
  fewer : (k : Kind) → apart_in C k (rows_view new.rows.items) + one_if (kind_eq k (job_kind C r.job)) ≡ apart_in C k (rows_view old.rows.items)
  fewer k =
      let a = marked_at C k (rows_view old.rows.items) n r m there in
      let b : one_if (is_apart r.status && kind_eq k (job_kind C r.job)) ≡ one_if (kind_eq k (job_kind C r.job)) = λ i. one_if (apart i && kind_eq k (job_kind C r.job)) in
      let c = counts_not C k m r free in
      let d = ap (apart_in C k) rows_are in
      omega arith

  -- so there is room for what still does, where the queue has at most one entry more of its kind
  pub less_roomy : new.apart ≡ one_less (job_kind C r.job) old.apart → ((k : Kind) → room_of k old.queue - one_if (kind_eq k (job_kind C r.job)) ≤ room_of k new.queue) → 0 < vec_capacity new.newly → IsRoomy C new
  less_roomy z q noted = roomy_of C new fits noted
    where
      fits : (k : Kind) → Fits C k new
      fits k =
          let a = fewer k in
          let f = fits_of C old room k in
          let fc = f.counted in
          let ff = f.fits in
          let zk = ap (counted_of k) z ∙ less_of k (job_kind C r.job) old.apart in
          let qk = q k in
          record { counted = omega arith; fits = omega arith }

-- what else there is does not matter
pub same_roomy : (C : Code) (old new : Items) → rows_view new.rows.items ≡ rows_view old.rows.items → new.queue ≡ old.queue → new.apart ≡ old.apart → 0 < vec_capacity new.newly → IsRoomy C old → IsRoomy C new
same_roomy C old new er eq ea noted room = roomy_of C new fits noted
  where
    fits : (k : Kind) → Fits C k new
    fits k =
        let r = ap (apart_in C k) er in
        let f = fits_of C old room k in
        let fc = f.counted in
        let ff = f.fits in
        let a = ap (counted_of k) ea in
        let q = ap (room_of k) eq in
        record { counted = omega arith; fits = omega arith }

module _ (C : Code) (fs : List (Option Frame)) (cs : List (Option Counted)) (rows : List Row) (first number : ℕ) (before : List Waiter) (queued : Kind → ℤ → List ℕ) where
  abbrev Far : List ℕ → ℕ → Items → Type 0
  Far = Progress C fs cs rows first number before queued

  pub progress_more : (done : List ℕ) (left : ℕ) (old new : Items) (m : ℕ) (r : Row) → Far done (suc left) old → row_of rows m ≡ Some r → r.status ≡ Waiting → (m ≡ number → ⊥) → (In m done → ⊥) → Settles m (missed_at C fs cs rows first m) (job_kind C r.job) (job_priority C r.job) old new → Far (done ++ m ∷ []) left new
  progress_more done left old new m r far h w d e s = by (nil_or (missed_at C fs cs rows first m))
    where
      a : AreSettled C fs cs rows first number before queued done (rows_view old.rows.items) (waiters_view old.rules.waiting) (queue_view old.queue) old.newly.items
      a = far.settled

      fresh : In m old.newly.items → ⊥
      fresh i = e (in_kept (can_begin C fs cs rows first) m done (in_back (filter (can_begin C fs cs rows first) done) old.newly.items m a.newly_are i)).0

      there : row_of (rows_view old.rows.items) m ≡ Some (record { job = r.job; status = Waiting })
      there = ap (λ (l : List Row). row_of l m) a.rows_are ∙ waits_still number old.newly.items rows m r h w d fresh

      waits : (missed_at C fs cs rows first m ≡ [] → ⊥) → Far (done ++ m ∷ []) left new
      waits ne =
          let x = s.waits ne in
          let z = settled_waits C fs cs rows first number before queued done (rows_view old.rows.items) (waiters_view old.rules.waiting) (queue_view old.queue) old.newly.items a m (waiters_view new.rules.waiting) ne
          (subst (λ (us : List (Want ℕ)). IsPermutation (record { item = m; missing = us } ∷ waiters_view old.rules.waiting) (waiters_view new.rules.waiting)) x.inputs_are (IsPermutation-map waiter_view _ _ x.rules.waiting)) in
          let f = far.room.rules_fit in
          let g = x.rules.had_room (omega arith) in
          let o = far.room.newly_fit in
          let c = s.capacity in
          let l = ap (λ v. vec_len v) x.newly in
          record {
            settled =
                subst (λ rs. AreSettled C fs cs rows first number before queued (done ++ m ∷ []) (rows_view rs) (waiters_view new.rules.waiting) (queue_view new.queue) new.newly.items) (sym (ap (λ v. v.items) x.rows))
                (subst (λ (q : Both). AreSettled C fs cs rows first number before queued (done ++ m ∷ []) (rows_view old.rows.items) (waiters_view new.rules.waiting) (queue_view q) new.newly.items) (sym x.queue)
                (subst (λ ns. AreSettled C fs cs rows first number before queued (done ++ m ∷ []) (rows_view old.rows.items) (waiters_view new.rules.waiting) (queue_view old.queue) ns) (sym (ap (λ v. v.items) x.newly)) z));
            room = record { roomy = roomy x; rules_fit = omega arith; newly_fit = omega arith };
          }
        where
          roomy : IsWaiting m (missed_at C fs cs rows first m) old new → IsRoomy C new
          roomy x = let c = s.capacity in let o5 = far.room.roomy.noted in same_roomy C old new (ap (λ v. rows_view v.items) x.rows) x.queue x.apart (omega arith) far.room.roomy

      ready : missed_at C fs cs rows first m ≡ [] → Far (done ++ m ∷ []) left new
      ready z =
          let x = s.ready z in
          let o = far.room.newly_fit in
          let f = far.room.rules_fit in
          let c = s.capacity in
          let n = x.newly (omega arith) in
          let q = x.queue (one_counted C old m (record { job = r.job; status = Waiting }) there refl far.room.roomy) in
          let ru = ap (λ l. l.room) x.rules in
          let o5 = far.room.roomy.noted in
          let noted : 0 < vec_capacity new.newly = omega arith in
          let l0 = old.newly.ok.0 in
          let l1 = new.newly.ok.0 in
          let l2 = ap length n ∙ length-append old.newly.items (m ∷ []) in
          record {
            settled =
                subst (λ ns. AreSettled C fs cs rows first number before queued (done ++ m ∷ []) (rows_view new.rows.items) (waiters_view new.rules.waiting) (queue_view new.queue) ns) (sym n)
                (subst (λ ru. AreSettled C fs cs rows first number before queued (done ++ m ∷ []) (rows_view new.rows.items) (waiters_view ru) (queue_view new.queue) (old.newly.items ++ m ∷ [])) (sym (ap (λ l. l.waiting) x.rules))
                (settled_ready C fs cs rows first number before queued done (rows_view old.rows.items) (waiters_view old.rules.waiting) (queue_view old.queue) old.newly.items a m (rows_view new.rows.items) (queue_view new.queue) r h d z x.rows
                (λ k y. subst (λ (b : Bool). IsPermutation (queue_view old.queue k y ++ (if b then m ∷ [] else [])) (queue_view new.queue k y)) (sym (ap (runs_so C k y) h))
                (subst (λ (u : Both). IsPermutation (queue_view old.queue k y ++ (if runs_so C k y (Some r) then m ∷ [] else [])) (queue_view u k y)) (sym q) (queue_put (job_kind C r.job) (job_priority C r.job) m old.queue k y)))));
            room = record {
              roomy = less_roomy C old new m (record { job = r.job; status = Waiting }) Ready there refl refl x.rows far.room.roomy x.apart (λ k. let e = ap (room_of k) q ∙ put_of k (job_kind C r.job) _ old.queue in omega arith) noted;
              rules_fit = omega arith;
              newly_fit = omega arith;
            };
          }

      by : (missed_at C fs cs rows first m ≡ []) ⊎ (missed_at C fs cs rows first m ≡ [] → ⊥) → Far (done ++ m ∷ []) left new
      by (inl z) = ready z
      by (inr ne) = waits ne

  -- the row of an item that is to be settled, by the rows as they are now
  abbrev pub remarked : Items → ℕ → Row → Row
  remarked old m r = record { job = r.job; status = status_after number old.newly.items m r.status }

  pub row_now : (done : List ℕ) (left : ℕ) (old : Items) (m : ℕ) (r : Row) → Far done left old → row_of rows m ≡ Some r → row_of (rows_view old.rows.items) m ≡ Some (remarked old m r)
  row_now done left old zero r far h = no_row rows r h
  row_now done left old (suc j) r far h = ap (λ (l : List Row). row_of l (suc j)) far.settled.rows_are ∙ row_to (status_after number old.newly.items) 1 rows j (suc j) r h (omega arith)

  missed_old : (m : ℕ) (r : Row) → row_of rows m ≡ Some r → m ≤ first → missed_at C fs cs rows first m ≡ misses C fs cs r.job
  missed_old m r h l =
      ap (row_misses C fs cs rows first m) h
      ∙ ap (λ (b : Bool). if b then misses_first C fs cs r.job else misses C fs cs r.job) (not_below first m l)

  missed_new : (m : ℕ) (r : Row) → row_of rows m ≡ Some r → first < m → missed_at C fs cs rows first m ≡ misses_first C fs cs r.job
  missed_new m r h l =
      ap (row_misses C fs cs rows first m) h
      ∙ ap (λ (b : Bool). if b then misses_first C fs cs r.job else misses C fs cs r.job) (below first m l)

  -- the next one that was woken
  module _ (few : FewSlots fs) (woken : List ℕ) (can : AreToSettle C fs cs rows first number woken) (aged : AreOld first woken) (left i : ℕ) (old : Items) (m : ℕ) (within : i < length woken) (is : m ≡ get_or woken i m) (far : Far (take i woken) ((length woken - i) + left) old) where
    there : In m woken
    there = subst (λ (k : ℕ). In k woken) (sym is) (get_in woken i m within)

    w : (r : Row) × (row_of rows m ≡ Some r) × (r.status ≡ Waiting)
    w = can.waits m there

    fresh : In m (take i woken) → ⊥
    fresh h = not_before woken i m within can.once (subst (λ (k : ℕ). In k (take i woken)) is h)

    pub woken_ok : (B : Type 0) → AreShort C fs cs rows first woken → ((r : Row) → row_of (rows_view old.rows.items) m ≡ Some r → FewSlots fs → IsSeen C fs r.job → IsShort C fs cs r.job → 0 < old.rules.room → B) → B
    woken_ok B short f =
        let g = far.room.rules_fit in
        f (remarked old m w.0) (row_now (take i woken) ((length woken - i) + left) old m w.0 far w.1) few (can.seen_job m w.0 there w.1) (short m w.0 there w.1) (omega arith)

    pub woken_step : (new : Items) → AreShort C fs cs rows first woken → ((r : Row) → row_of (rows_view old.rows.items) m ≡ Some r → FewSlots fs → IsSeen C fs r.job → IsShort C fs cs r.job → Settles m (misses C fs cs r.job) (job_kind C r.job) (job_priority C r.job) old new) → Far (take (i + 1) woken) ((length woken - (i + 1)) + left) new
    woken_step new short s =
        let e : (length woken - i) + left ≡ suc ((length woken - (i + 1)) + left) = omega arith in
        subst (λ (l : List ℕ). Far l ((length woken - (i + 1)) + left) new) (sym (take_more woken i m within ∙ ap (λ (k : ℕ). take i woken ++ k ∷ []) (sym is)))
        (progress_more (take i woken) ((length woken - (i + 1)) + left) old new m w.0 (subst (λ (n : ℕ). Far (take i woken) n old) e far) w.1 w.2 (can.others m there) fresh
        (subst (λ (us : List (Want ℕ)). Settles m us (job_kind C w.0.job) (job_priority C w.0.job) old new) (sym (missed_old m w.0 w.1 (aged m there)))
        (s (remarked old m w.0) (row_now (take i woken) ((length woken - i) + left) old m w.0 far w.1) few (can.seen_job m w.0 there w.1) (short m w.0 there w.1))))

  -- the next one that is new
  module _ (few : FewSlots fs) (start : List ℕ) (count : ℕ) (can : AreToSettle C fs cs rows first number (numbers_behind first count)) (early : AreOld first start) (left k : ℕ) (old : Items) (m : ℕ) (within : k < count) (is : m ≡ first + suc k) (far : Far (start ++ numbers_behind first k) ((count - k) + left) old) where
    new_in : In m (numbers_behind first count)
    new_in = first_behind first count m (omega arith) (omega arith)

    v : (r : Row) × (row_of rows m ≡ Some r) × (r.status ≡ Waiting)
    v = can.waits m new_in

    new_fresh : In m (start ++ numbers_behind first k) → ⊥
    new_fresh h =
        elim (in_split m start (numbers_behind first k) h) [
          | inl g ↦ (let l = early m g in absurd (omega arith))
          | inr g ↦ (let l = (behind_first first k m g).1 in absurd (omega arith))
        ]

    row_there : row_of (rows_view old.rows.items) m ≡ Some (remarked old m v.0)
    row_there = row_now (start ++ numbers_behind first k) ((count - k) + left) old m v.0 far v.1

    jobs_are : (at : ℕ) → m ≡ at + 1 → jobs_behind at rows ≡ v.0.job ∷ jobs_behind (at + 1) rows
    jobs_are at e =
        let f : m ≡ suc at = omega arith in
        let g : suc at ≡ at + 1 = omega arith in
        jobs_cut rows at v.0 (ap (row_of rows) (sym f) ∙ v.1) ∙ ap (λ (n : ℕ). v.0.job ∷ jobs_behind n rows) g

    pub new_ok : (B : Type 0) (at : ℕ) (ls : List (SmallVec Input)) → m ≡ at + 1 → AreSpare C (jobs_behind at rows) ls → ((r : Row) (jobs : List Job) → row_of (rows_view old.rows.items) m ≡ Some r → AreSpare C (r.job ∷ jobs) ls → 0 < old.rules.room → B) → B
    new_ok B at ls e s f =
        let g = far.room.rules_fit in
        f (remarked old m v.0) (jobs_behind (at + 1) rows) row_there (subst (λ (js : List Job). AreSpare C js ls) (jobs_are at e) s) (omega arith)

    pub new_spare : (at : ℕ) (ls ls' : List (SmallVec Input)) → m ≡ at + 1 → AreSpare C (jobs_behind at rows) ls → ((r : Row) (jobs : List Job) → row_of (rows_view old.rows.items) m ≡ Some r → AreSpare C (r.job ∷ jobs) ls → AreSpare C jobs ls') → AreSpare C (jobs_behind (at + 1) rows) ls'
    new_spare at ls ls' e s f = f (remarked old m v.0) (jobs_behind (at + 1) rows) row_there (subst (λ (js : List Job). AreSpare C js ls) (jobs_are at e) s)

    pub new_step : (new : Items) → ((r : Row) → row_of (rows_view old.rows.items) m ≡ Some r → FewSlots fs → IsSeen C fs r.job → Settles m (misses_first C fs cs r.job) (job_kind C r.job) (job_priority C r.job) old new) → Far (start ++ numbers_behind first (suc k)) ((count - suc k) + left) new
    new_step new s =
        let e : (count - k) + left ≡ suc ((count - suc k) + left) = omega arith in
        subst (λ (l : List ℕ). Far l ((count - suc k) + left) new) (append_assoc start (numbers_behind first k) (m ∷ []) ∙ ap (λ (n : ℕ). start ++ (numbers_behind first k ++ n ∷ [])) is)
        (progress_more (start ++ numbers_behind first k) ((count - suc k) + left) old new m v.0 (subst (λ (n : ℕ). Far (start ++ numbers_behind first k) n old) e far) v.1 v.2 (can.others m new_in) new_fresh
        (subst (λ (us : List (Want ℕ)). Settles m us (job_kind C v.0.job) (job_priority C v.0.job) old new) (sym (missed_new m v.0 v.1 (omega arith)))
        (s (remarked old m v.0) row_there few (can.seen_job m v.0 new_in v.1))))

  -- what else there is does not matter
  pub progress_same : (done : List ℕ) (left : ℕ) (old new : Items) → new.rows ≡ old.rows → new.rules ≡ old.rules → new.queue ≡ old.queue → new.newly ≡ old.newly → new.apart ≡ old.apart → Far done left old → Far done left new
  progress_same done left old new er eu eq en ea far =
      record {
        settled =
            subst (λ rs. AreSettled C fs cs rows first number before queued done (rows_view rs) (waiters_view new.rules.waiting) (queue_view new.queue) new.newly.items) (sym (ap (λ v. v.items) er))
            (subst (λ ru. AreSettled C fs cs rows first number before queued done (rows_view old.rows.items) (waiters_view ru) (queue_view new.queue) new.newly.items) (sym (ap (λ l. l.waiting) eu))
            (subst (λ (q : Both). AreSettled C fs cs rows first number before queued done (rows_view old.rows.items) (waiters_view old.rules.waiting) (queue_view q) new.newly.items) (sym eq)
            (subst (λ ns. AreSettled C fs cs rows first number before queued done (rows_view old.rows.items) (waiters_view old.rules.waiting) (queue_view old.queue) ns) (sym (ap (λ v. v.items) en)) far.settled)));
        room = record { roomy = roomy; rules_fit = (let a = far.room.rules_fit in let b = ap (λ l. l.room) eu in omega arith); newly_fit = (let a = far.room.newly_fit in let b = ap (λ v. vec_len v) en in let c = ap (λ v. vec_capacity v) en in omega arith) };
      }
    where
      roomy : IsRoomy C new
      roomy = let c = ap (λ v. vec_capacity v) en in let o5 = far.room.roomy.noted in same_roomy C old new (ap (λ v. rows_view v.items) er) eq ea (omega arith) far.room.roomy

-- an item that ran has ended, and the others are to be settled
module _ (C : Code) (fs : List (Option Frame)) (cs : List (Option Counted)) (number : ℕ) (job : Job) (first : ℕ) (old : Items) (can : CanFinish C fs cs number job first old) where
  abbrev pub was : List Row
  was = rows_view old.rows.items

  abbrev pub count : ℕ
  count = length old.rows.items - first

  pub closed : (new : Items) → rows_view new.rows.items ≡ with_status was number Over → new.rules ≡ old.rules → new.queue ≡ old.queue → new.newly.items ≡ [] → vec_capacity new.newly ≡ vec_capacity old.newly → new.apart ≡ one_less (job_kind C job) old.apart → Progress C fs cs was first number (waiters_view old.rules.waiting) (queue_view old.queue) [] (length old.woken.items + (count + 0)) new
  closed new er eu eq en ec ea =
      let f = can.rules_fit in
      let g = can.newly_fit in
      let u = ap (λ l. l.room) eu in
      let o5 = can.roomy.noted in
      let l0 = new.newly.ok.0 in
      let l1 = ap length en in
      record {
        settled =
            subst (λ ns. AreSettled C fs cs was first number (waiters_view old.rules.waiting) (queue_view old.queue) [] (rows_view new.rows.items) (waiters_view new.rules.waiting) (queue_view new.queue) ns) (sym en)
            (subst (λ ru. AreSettled C fs cs was first number (waiters_view old.rules.waiting) (queue_view old.queue) [] (rows_view new.rows.items) (waiters_view ru) (queue_view new.queue) []) (sym (ap (λ l. l.waiting) eu))
            (subst (λ (q : Both). AreSettled C fs cs was first number (waiters_view old.rules.waiting) (queue_view old.queue) [] (rows_view new.rows.items) (waiters_view old.rules.waiting) (queue_view q) []) (sym eq)
            (settled_none C fs cs was first number (waiters_view old.rules.waiting) (queue_view old.queue) (rows_view new.rows.items) can.row can.there er)));
        room = record { roomy = less_roomy C old new number can.row Over can.there can.runs refl er can.roomy (ea ∙ ap (λ (j : Job). one_less (job_kind C j) old.apart) (sym can.job_is)) (λ k. let e = ap (room_of k) eq in omega arith) (omega arith); rules_fit = omega arith; newly_fit = omega arith };
      }

  -- those that were woken, and the new ones
  pub woken_can : AreToSettle C fs cs was first number old.woken.items
  woken_can = record {
    waits = λ m h. can.to_settle.waits m (in_left m old.woken.items (numbers_behind first count) h);
    seen_job = λ m r h. can.to_settle.seen_job m r (in_left m old.woken.items (numbers_behind first count) h);
    others = λ m h. can.to_settle.others m (in_left m old.woken.items (numbers_behind first count) h);
    once = first_once old.woken.items (numbers_behind first count) can.to_settle.once;
  }

  pub new_can : AreToSettle C fs cs was first number (numbers_behind first count)
  new_can = record {
    waits = λ m h. can.to_settle.waits m (in_right m old.woken.items (numbers_behind first count) h);
    seen_job = λ m r h. can.to_settle.seen_job m r (in_right m old.woken.items (numbers_behind first count) h);
    others = λ m h. can.to_settle.others m (in_right m old.woken.items (numbers_behind first count) h);
    once = behind_once first count;
  }
