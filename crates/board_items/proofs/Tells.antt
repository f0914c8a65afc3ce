-- What the items come to for the fields of a board, once all that learnt of their last input and all that are new were settled.
use Rattle.std.proofs.Common.{◌≡◌, ◌⊎◌, inl, inr, ◌∙◌, ℕ, zero, suc, ◌+◌, ◌-◌, ◌<◌, ◌≤◌, Bool, true, false, not, List, [], ◌∷◌, ◌++◌, map, length, refl, sym, ap, subst, arith, Option, Some, None}
use Rattle.std.specs.Ordering.{int_eq}
use Rattle.std.specs.Prelude.{ℤ, if◌then◌else◌, nat_lt}
use Rattle.std.specs.List.{filter}
use Rattle.std.proofs.lemmas.Bool.Decides.{nat_tests}
use Rattle.std.proofs.lemmas.Int.{ints}
use Rattle.std.proofs.lemmas.List.Sorted.{IsPermutation-map}
use Rattle.std.proofs.lemmas.Bool.{and_from, not-true, and_parts}
use Rattle.std.proofs.lemmas.List.{map-append}
use Rattle.dataflow.specs.System.{Distinct, In}
use Rattle.dataflow.proofs.Lists.{distinct_append, in_left, in_map, in_right, in_split, in_unmap}
use Rattle.board_history.specs.Ending.{NewlyAfter, QueueAfter, WaitsAfter, ended_rows, job_kind, job_priority, status_after, missed_again, missed_first, new_row, or_else}
use Rattle.board_history.specs.Fields.{Does, Counted, Fields, Frame, Job, Layout, Ready, Row, Script, Waiter, Waiting, Want, row_of}
use Rattle.board_history.specs.Marking.{kind_eq}
use Rattle.board_history.specs.Needs.{job_missed}
use Rattle.board_history.proofs.EndedItems.{row_below}
use Rattle.board_history.proofs.EndedRows.{row_kept, row_of_new, row_split_at, row_to}
use Rattle.board_history.proofs.Rows.{no_row, row_by}
use Rattle.board_history.proofs.Tests.{in_kept, kept_in, none_some, some_same, yes_no}
use Rattle.rules.specs.Waiting as Rules
use Rattle.task_code.specs.Code.{Code, Control, Kind, Leaf}
use Rattle.board_program.specs.Spots.{layout_of}
use Rattle.board_items.specs.Progress.{AreOld}
use Rattle.board_items.specs.Ended.{AreSettled, AreToSettle, IsSeen, ItemsFit, can_begin, missed_at, misses, misses_first, numbers_behind, row_misses, runs_so, waiter_at}
use Rattle.board_data.specs.Wanted.{is_nil}
use Rattle.board_items.specs.Learnt.{HaveLearnt, left_to, served, waiting_on}
use Rattle.board_items.specs.View.{waiters_view}
use Rattle.board_items.proofs.Jobs.{nil_of}
use Rattle.board_items.proofs.Lists.{distinct_kept, distinct_moved, in_back, in_moved}
use Rattle.board_items.proofs.Numbers.{behind_first, behind_once, first_behind, item_of, served_apart, served_is, served_once, served_was, waiting_once, waiting_stays, waiting_was}
use Rattle.board_items.proofs.Steps.{nil_is}

kind_sound : (a b : Kind) → kind_eq a b ≡ true → a ≡ b
kind_sound Control Control h = refl
kind_sound Leaf Leaf h = refl
kind_sound Control Leaf h = yes_no h refl
kind_sound Leaf Control h = yes_no h refl

kind_same : (a : Kind) → kind_eq a a ≡ true
kind_same Control = refl
kind_same Leaf = refl

int_sound : (a b : ℤ) → int_eq a b ≡ true → a ≡ b
int_sound a b h = grind (arith, ints)

int_same : (a : ℤ) → int_eq a a ≡ true
int_same a = grind (arith, ints)

below : (a b : ℕ) → a < b → nat_lt a b ≡ true
below a b h = grind (arith, nat_tests)

not_below : (a b : ℕ) → b ≤ a → nat_lt a b ≡ false
not_below a b h = grind (arith, nat_tests)

ready_waits : {B : Type 0} → Ready ≡ Waiting → B
ready_waits h = absurd (cc)

map_length : {X Y : Type 0} (f : X → Y) (xs : List X) → length (map f xs) ≡ length xs
map_length f [] = refl
map_length f (x ∷ xs) = let h = map_length f xs in omega arith

-- the row of a number among the rows of new items
new_there : (jobs : List Job) (j : ℕ) → j < length jobs → (b : Job) × (row_of (map new_row jobs) (suc j) ≡ Some (new_row b))
new_there [] j h = absurd (omega arith)
new_there (b ∷ jobs) zero h = (b, refl)
new_there (b ∷ jobs) (suc j) h = new_there jobs j (omega arith)

number_from : (rows : List Row) (m : ℕ) (r : Row) → row_of rows m ≡ Some r → (j : ℕ) × (m ≡ suc j) × (j < length rows)
number_from rows zero r h = no_row rows r h
number_from rows (suc j) r h = (j, refl, row_below rows j r h)

-- all that were woken, and all new ones, wait to be settled
module _ (F : Fields) (jobs : List Job) (known : List (Want ℕ)) (ws : List Rules.Waiting) (woken : List ℕ) (fit : ItemsFit F) (learnt : HaveLearnt known F.waiting ws woken) where
  woken_row : (m : ℕ) → In m woken → (r : Row) × (row_of F.rows m ≡ Some r) × (r.status ≡ Waiting)
  woken_row m h =
      let s = served_was known F.waiting m (in_back (served known F.waiting) woken m learnt.noted h) in
      let r = (fit.waiting s.was s.there).1 in
      (r.0, ap (row_of F.rows) (sym s.same) ∙ r.1, r.2)

  new_row_there : (m : ℕ) → length F.rows < m → m ≤ length F.rows + length jobs → (r : Row) × (row_of (F.rows ++ map new_row jobs) m ≡ Some r) × (r.status ≡ Waiting)
  new_row_there zero l u = absurd (omega arith)
  new_row_there (suc k) l u =
      let e : (j : ℕ) × (suc k ≡ length F.rows + suc j) × (j < length jobs) = (k - length F.rows, omega arith, omega arith) in
      let b = new_there jobs e.0 e.2 in
      (new_row b.0, ap (row_of (F.rows ++ map new_row jobs)) e.1 ∙ row_of_new F.rows jobs e.0 ∙ b.1, refl)

  pub woken_old : AreOld (length F.rows) woken
  woken_old m h = let r = woken_row m h in let q = number_from F.rows m r.0 r.1 in let e = q.1 in let l = q.2 in omega arith

  all_wait : (m : ℕ) → In m (woken ++ numbers_behind (length F.rows) (length jobs)) → (r : Row) × (row_of (F.rows ++ map new_row jobs) m ≡ Some r) × (r.status ≡ Waiting)
  all_wait m h =
      elim (in_split m woken (numbers_behind (length F.rows) (length jobs)) h) [
        | inl g ↦ (let r = woken_row m g in (r.0, row_kept F.rows (map new_row jobs) m r.0 r.1, r.2))
        | inr g ↦ (let b = behind_first (length F.rows) (length jobs) m g in new_row_there m b.0 b.1)
      ]

  pub all_settle : (C : Code) (fs : List (Option Frame)) (cs : List (Option Counted)) (n : ℕ) (own : Row) → row_of F.rows n ≡ Some own → (own.status ≡ Waiting → ⊥) → ((m : ℕ) (r : Row) → row_of (F.rows ++ map new_row jobs) m ≡ Some r → r.status ≡ Waiting → IsSeen C fs r.job) → AreToSettle C fs cs (F.rows ++ map new_row jobs) (length F.rows) n (woken ++ numbers_behind (length F.rows) (length jobs))
  all_settle C fs cs n own at runs seen =
      record {
        waits = all_wait;
        seen_job = λ m r h q. let w = all_wait m h in seen m r q (ap (λ (x : Row). x.status) (some_same (sym q ∙ w.1)) ∙ w.2);
        others = λ m h e.
            let w = all_wait m h in
            let same : own ≡ w.0 = some_same (sym (row_kept F.rows (map new_row jobs) n own at) ∙ ap (row_of (F.rows ++ map new_row jobs)) (sym e) ∙ w.1) in
            runs (ap (λ (x : Row). x.status) same ∙ w.2);
        once =
            distinct_append woken (numbers_behind (length F.rows) (length jobs)) (distinct_moved (served known F.waiting) woken learnt.noted (served_once known F.waiting fit.once)) (behind_once (length F.rows) (length jobs))
            (λ m h g. let l = woken_old m h in let u = (behind_first (length F.rows) (length jobs) m g).0 in absurd (omega arith));
      }

module _ (C : Code) (F G : Fields) (n : ℕ) (jobs : List Job) (known : List (Want ℕ)) (ws : List Rules.Waiting) (woken : List ℕ) (fit : ItemsFit F) (learnt : HaveLearnt known F.waiting ws woken) (a : AreSettled C G.frames G.cells (F.rows ++ map new_row jobs) (length F.rows) n (waiters_view ws) F.queue (woken ++ numbers_behind (length F.rows) (length jobs)) G.rows G.waiting G.queue G.newly) where
  abbrev L : Layout
  L = layout_of C

  abbrev rows : List Row
  rows = F.rows ++ map new_row jobs

  abbrev first : ℕ
  first = length F.rows

  abbrev done : List ℕ
  done = woken ++ numbers_behind first (length jobs)

  abbrev begins : ℕ → Bool
  begins = can_begin C G.frames G.cells rows first

  abbrev missed_of : ℕ → List (Want ℕ)
  missed_of = missed_at C G.frames G.cells rows first

  abbrev waits_as : ℕ → Waiter
  waits_as = waiter_at C G.frames G.cells rows first

  same_missed : (j : Job) → misses C G.frames G.cells j ≡ job_missed C L G j
  same_missed Script = refl
  same_missed (Does k e c) = refl

  same_first : (j : Job) → misses_first C G.frames G.cells j ≡ missed_first C L G j
  same_first Script = refl
  same_first (Does k e zero) = refl
  same_first (Does k e (suc c)) = refl

  -- one that was woken
  record Woken (m : ℕ) : Type 0 where
    pub was : Waiter
    pub there : In was F.waiting
    pub same : was.item ≡ m
    pub none : left_to known was ≡ []
    pub row : Row
    pub row_is : row_of F.rows m ≡ Some row
    pub waits : row.status ≡ Waiting

  woken_is : (m : ℕ) → In m woken → Woken m
  woken_is m h =
      let s = served_was known F.waiting m (in_back (served known F.waiting) woken m learnt.noted h) in
      let r = (fit.waiting s.was s.there).1 in
      record { was = s.was; there = s.there; same = s.same; none = s.none; row = r.0; row_is = ap (row_of F.rows) (sym s.same) ∙ r.1; waits = r.2 }

  old_row : (m : ℕ) (r : Row) → row_of F.rows m ≡ Some r → row_of rows m ≡ Some r
  old_row m r h = row_kept F.rows (map new_row jobs) m r h

  old_below : (m : ℕ) (r : Row) → row_of F.rows m ≡ Some r → m ≤ first
  old_below m r h = let q = number_from F.rows m r h in let e = q.1 in let l = q.2 in omega arith

  -- what it misses
  missed_old : (m : ℕ) (r : Row) → row_of rows m ≡ Some r → m ≤ first → missed_of m ≡ job_missed C L G r.job
  missed_old m r h l =
      ap (row_misses C G.frames G.cells rows first m) h
      ∙ ap (λ (b : Bool). if b then misses_first C G.frames G.cells r.job else misses C G.frames G.cells r.job) (not_below first m l)
      ∙ same_missed r.job

  missed_new : (m : ℕ) (r : Row) → row_of rows m ≡ Some r → first < m → missed_of m ≡ missed_first C L G r.job
  missed_new m r h l =
      ap (row_misses C G.frames G.cells rows first m) h
      ∙ ap (λ (b : Bool). if b then misses_first C G.frames G.cells r.job else misses C G.frames G.cells r.job) (below first m l)
      ∙ same_first r.job

  again : Waiter → List (Want ℕ)
  again v = missed_again C L G rows known v

  again_none : (v : Waiter) (m : ℕ) (r : Row) → v.item ≡ m → left_to known v ≡ [] → row_of F.rows m ≡ Some r → missed_of m ≡ missed_again C L G rows known v
  again_none v m r e z h =
      missed_old m r (old_row m r h) (old_below m r h)
      ∙ sym (ap (λ (x : Option Row). elim x [ None ↦ [] | Some r ↦ job_missed C L G r.job ]) (ap (row_of rows) e ∙ old_row m r h))
      ∙ sym (ap (λ (x : List (Want ℕ)). or_else x (elim (row_of rows v.item) [ None ↦ [] | Some r ↦ job_missed C L G r.job ])) z)

  again_some : (v : Waiter) → (left_to known v ≡ [] → ⊥) → left_to known v ≡ missed_again C L G rows known v
  again_some v ne = by (left_to known v) ne
    where
      by : (us : List (Want ℕ)) → (us ≡ [] → ⊥) → us ≡ or_else us (elim (row_of rows v.item) [ None ↦ [] | Some r ↦ job_missed C L G r.job ])
      by [] ne = absurd (ne refl)
      by (u ∷ us) ne = refl

  -- new items
  new_number : (m : ℕ) (r : Row) → row_of rows m ≡ Some r → first < m → In m (numbers_behind first (length jobs))
  new_number m r h l =
      let p = row_split_at F.rows jobs m r l h in
      let q = row_below (map new_row jobs) p.0 r p.2 in
      let z = map_length new_row jobs in
      let e = p.1 in
      first_behind first (length jobs) m l (omega arith)

  record New (m : ℕ) : Type 0 where
    pub above : first < m
    pub row : Row
    pub row_is : row_of rows m ≡ Some row
    pub waits : row.status ≡ Waiting

  new_is : (m : ℕ) → In m (numbers_behind first (length jobs)) → New m
  new_is m h = let r = behind_first first (length jobs) m h in by m r.0 r.1
    where
      by : (m : ℕ) → first < m → m ≤ first + length jobs → New m
      by zero l u = absurd (omega arith)
      by (suc k) l u =
          let e : (j : ℕ) × (suc k ≡ first + suc j) × (j < length jobs) = (k - first, omega arith, omega arith) in
          let b = new_there jobs e.0 e.2 in
          record { above = l; row = new_row b.0; row_is = ap (row_of rows) e.1 ∙ row_of_new F.rows jobs e.0 ∙ b.1; waits = refl }

  -- all that were settled waited
  done_row : (m : ℕ) → In m done → (r : Row) × (row_of rows m ≡ Some r) × (r.status ≡ Waiting)
  done_row m h =
      elim (in_split m woken (numbers_behind first (length jobs)) h) [
        | inl g ↦ (let w = woken_is m g in (w.row, old_row m w.row w.row_is, w.waits))
        | inr g ↦ (let x = new_is m g in (x.row, x.row_is, x.waits))
      ]

  done_once : Distinct done
  done_once =
      distinct_append woken (numbers_behind first (length jobs)) (distinct_moved (served known F.waiting) woken learnt.noted (served_once known F.waiting fit.once)) (behind_once first (length jobs))
      (λ m h g. let w = woken_is m h in let l = old_below m w.row w.row_is in let u = (behind_first first (length jobs) m g).0 in absurd (omega arith))

  before_is : waiters_view ws ≡ waiting_on known F.waiting
  before_is = learnt.waiting

  -- who waits on was not settled
  done_apart : (m : ℕ) → In m (map item_of (waiters_view ws)) → In m done → ⊥
  done_apart m h g =
      let i : In m (map item_of (waiting_on known F.waiting)) = subst (λ (l : List Waiter). In m (map item_of l)) before_is h in
      elim (in_split m woken (numbers_behind first (length jobs)) g) [
        | inl k ↦ served_apart known F.waiting fit.once m i (in_back (served known F.waiting) woken m learnt.noted k)
        | inr k ↦ (let u = in_unmap item_of m (waiting_on known F.waiting) i in
            let v = waiting_was known F.waiting u.0 u.1 in
            let r = (fit.waiting v.was v.there).1 in
            let l = old_below v.was.item r.0 r.1 in
            let e = v.same in
            let f = u.2 in
            let b = (behind_first first (length jobs) m k).0 in
            absurd (omega arith))
      ]

  abbrev waiting_as : List Waiter
  waiting_as = waiters_view ws ++ map waits_as (filter (λ m. not (begins m)) done)

  settled_waits : (m : ℕ) → In m done → (missed_of m ≡ [] → ⊥) → In (waits_as m) G.waiting
  settled_waits m h ne =
      in_moved _ G.waiting (waits_as m) a.waits
      (in_right (waits_as m) (waiters_view ws) (map waits_as (filter (λ m. not (begins m)) done))
      (in_map waits_as m (filter (λ m. not (begins m)) done) (kept_in (λ m. not (begins m)) m done h (ap not (nil_is (missed_of m) ne)))))

  waits_old : (w : Waiter) → In w F.waiting → (missed_again C L G rows known w ≡ [] → ⊥) → In (record { item = w.item; missing = missed_again C L G rows known w }) G.waiting
  waits_old w h ne = by (left_to known w) refl
    where
      by : (us : List (Want ℕ)) → left_to known w ≡ us → In (record { item = w.item; missing = missed_again C L G rows known w }) G.waiting
      by [] z =
          let r = (fit.waiting w h).1 in
          let e = again_none w w.item r.0 refl z r.1 in
          subst (λ (us : List (Want ℕ)). In (record { item = w.item; missing = us }) G.waiting) e
          (settled_waits w.item (in_left w.item woken (numbers_behind first (length jobs)) (in_moved (served known F.waiting) woken w.item learnt.noted (served_is known F.waiting w h z))) (λ y. ne (sym e ∙ y)))
      by (u ∷ us) z =
          let some : left_to known w ≡ [] → ⊥ = λ y. no_nil (sym z ∙ y) in
          subst (λ (us : List (Want ℕ)). In (record { item = w.item; missing = us }) G.waiting) (again_some w some)
          (in_moved _ G.waiting (record { item = w.item; missing = left_to known w }) a.waits
          (in_left (record { item = w.item; missing = left_to known w }) (waiters_view ws) (map waits_as (filter (λ m. not (begins m)) done))
          (subst (λ (l : List Waiter). In (record { item = w.item; missing = left_to known w }) l) (sym before_is) (waiting_stays known F.waiting w h some))))
        where
          no_nil : ◌≡◌ {A = List (Want ℕ)} (u ∷ us) [] → ⊥
          no_nil y = absurd (cc)

  waits_new : (m : ℕ) (r : Row) → first < m → row_of rows m ≡ Some r → (missed_first C L G r.job ≡ [] → ⊥) → In (record { item = m; missing = missed_first C L G r.job }) G.waiting
  waits_new m r l h ne =
      let e = missed_new m r h l in
      subst (λ (us : List (Want ℕ)). In (record { item = m; missing = us }) G.waiting) e
      (settled_waits m (in_right m woken (numbers_behind first (length jobs)) (new_number m r h l)) (λ y. ne (sym e ∙ y)))

  -- who waits afterwards
  data Who (w : Waiter) : Type 0 where
    stayed : In w (waiters_view ws) → Who w
    settled : (m : ℕ) → In m done → (missed_of m ≡ [] → ⊥) → waits_as m ≡ w → Who w

  who : (w : Waiter) → In w G.waiting → Who w
  who w h =
      elim (in_split w (waiters_view ws) (map waits_as (filter (λ m. not (begins m)) done)) (in_back _ G.waiting w a.waits h)) [
        | inl g ↦ stayed g
        | inr g ↦ (let u = in_unmap waits_as w (filter (λ m. not (begins m)) done) g in
            let k = in_kept (λ m. not (begins m)) u.0 done u.1 in
            settled u.0 k.0 (λ z. yes_no (ap is_nil z) (not-true (begins u.0) k.1)) u.2)
      ]

  abbrev Came : Waiter → Type 0
  Came w = (w.missing ≡ [] → ⊥) × (((v : Waiter) × In v F.waiting × (v.item ≡ w.item) × (w.missing ≡ missed_again C L G rows known v)) ⊎ ((r : Row) × (first < w.item) × (row_of rows w.item ≡ Some r) × (w.missing ≡ missed_first C L G r.job)))

  waits_only : (w : Waiter) → In w G.waiting → Came w
  waits_only w h = by (who w h)
    where
      of : (m : ℕ) → In m woken ⊎ In m (numbers_behind first (length jobs)) → (missed_of m ≡ [] → ⊥) → Came (waits_as m)
      of m (inl g) ne = let k = woken_is m g in (ne, inl (k.was, k.there, k.same, again_none k.was m k.row k.same k.none k.row_is))
      of m (inr g) ne = let k = new_is m g in (ne, inr (k.row, k.above, k.row_is, missed_new m k.row k.row_is k.above))

      by : Who w → Came w
      by (stayed g) =
          let v = waiting_was known F.waiting w (subst (λ (l : List Waiter). In w l) before_is g) in
          ((λ z. v.some (sym v.missing_is ∙ z)), inl (v.was, v.there, v.same, v.missing_is ∙ again_some v.was v.some))
      by (settled m g ne e) = subst Came e (of m (in_split m woken (numbers_behind first (length jobs)) g) ne)

  items_are : (ms : List ℕ) → map item_of (map waits_as ms) ≡ ms
  items_are [] = refl
  items_are (m ∷ ms) = ap (λ (l : List ℕ). m ∷ l) (items_are ms)

  waits_once : Distinct (map item_of G.waiting)
  waits_once =
      distinct_moved (map item_of waiting_as) (map item_of G.waiting) (IsPermutation-map item_of waiting_as G.waiting a.waits)
      (subst (λ (l : List ℕ). Distinct l) (sym (map-append item_of (waiters_view ws) (map waits_as (filter (λ m. not (begins m)) done)) ∙ ap (λ (l : List ℕ). map item_of (waiters_view ws) ++ l) (items_are (filter (λ m. not (begins m)) done))))
      (distinct_append (map item_of (waiters_view ws)) (filter (λ m. not (begins m)) done)
      (subst (λ (l : List Waiter). Distinct (map item_of l)) (sym before_is) (waiting_once known F.waiting fit.once))
      (distinct_kept (λ m. not (begins m)) done done_once)
      (λ m h g. done_apart m h (in_kept (λ m. not (begins m)) m done g).0)))

  pub waits_after : WaitsAfter C L F G rows known
  waits_after = record { old = waits_old; new = waits_new; only = waits_only; once = waits_once }

  -- those newly enabled
  newly_is : (m : ℕ) → In m done → missed_of m ≡ [] → In m G.newly
  newly_is m h z = in_moved (filter begins done) G.newly m a.newly_are (kept_in begins m done h (ap is_nil z))

  newly_was : (m : ℕ) → In m G.newly → In m done × (missed_of m ≡ [])
  newly_was m h = let k = in_kept begins m done (in_back (filter begins done) G.newly m a.newly_are h) in (k.0, nil_of (missed_of m) k.1)

  nothing_missed : (m : ℕ) → ((w : Waiter) → In w G.waiting → w.item ≡ m → ⊥) → In m done → In m G.newly
  nothing_missed m none h = by (missed_of m) refl
    where
      by : (us : List (Want ℕ)) → missed_of m ≡ us → In m G.newly
      by [] z = newly_is m h z
      by (u ∷ us) z = absurd (none (waits_as m) (settled_waits m h (λ y. no_nil (sym z ∙ y))) refl)
        where
          no_nil : ◌≡◌ {A = List (Want ℕ)} (u ∷ us) [] → ⊥
          no_nil y = absurd (cc)

  newly_all : (m : ℕ) (r : Row) → row_of rows m ≡ Some r → r.status ≡ Waiting → ((w : Waiter) → In w G.waiting → w.item ≡ m → ⊥) → In m G.newly
  newly_all m r h k none = nothing_missed m none (by (cases m first))
    where
      cases : (x y : ℕ) → (x ≤ y) ⊎ (y < x)
      cases zero y = inl (omega arith)
      cases (suc x) zero = inr (omega arith)
      cases (suc x) (suc y) = elim (cases x y) [ inl l ↦ inl (omega arith) | inr l ↦ inr (omega arith) ]

      old_there : (os : List Row) (m : ℕ) (q : Row) → row_of (os ++ map new_row jobs) m ≡ Some q → m ≤ length os → row_of os m ≡ Some q
      old_there [] zero q h l = no_row (map new_row jobs) q h
      old_there [] (suc m) q h l = absurd (omega arith)
      old_there (o ∷ os) zero q h l = none_some h
      old_there (o ∷ os) (suc zero) q h l = h
      old_there (o ∷ os) (suc (suc m)) q h l = old_there os (suc m) q h (omega arith)

      waited : (v : Waiter) → In v F.waiting → v.item ≡ m → (us : List (Want ℕ)) → left_to known v ≡ us → In m done
      waited v g e [] z = in_left m woken (numbers_behind first (length jobs)) (subst (λ (x : ℕ). In x woken) e (in_moved (served known F.waiting) woken v.item learnt.noted (served_is known F.waiting v g z)))
      waited v g e (u ∷ us) z =
          let some : left_to known v ≡ [] → ⊥ = λ y. no_nil (sym z ∙ y) in
          absurd (none (record { item = v.item; missing = missed_again C L G rows known v }) (waits_old v g (λ y. some (again_some v some ∙ y))) e)
        where
          no_nil : ◌≡◌ {A = List (Want ℕ)} (u ∷ us) [] → ⊥
          no_nil y = absurd (cc)

      by : (m ≤ first) ⊎ (first < m) → In m done
      by (inl l) = let v = fit.waits m r (old_there F.rows m r h l) k in waited v.0 v.1 v.2 (left_to known v.0) refl
      by (inr l) = in_right m woken (numbers_behind first (length jobs)) (new_number m r h l)

  newly_only : (m : ℕ) → In m G.newly → (r : Row) × (row_of rows m ≡ Some r) × (r.status ≡ Waiting) × ((w : Waiter) → In w G.waiting → w.item ≡ m → ⊥)
  newly_only m h = let d = newly_was m h in let r = done_row m d.0 in (r.0, r.1, r.2, (λ w g e. by w e d.0 d.1 (who w g)))
    where
      by : (w : Waiter) → w.item ≡ m → In m done → missed_of m ≡ [] → Who w → ⊥
      by w e d z (stayed g) = done_apart m (subst (λ (x : ℕ). In x (map item_of (waiters_view ws))) e (in_map item_of w (waiters_view ws) g)) d
      by w e d z (settled k i ne p) = ne (ap missed_of (ap item_of p ∙ e) ∙ z)

  pub newly_after : NewlyAfter G rows
  newly_after = record { once = distinct_moved (filter begins done) G.newly a.newly_are (distinct_kept begins done done_once); all = newly_all; only = newly_only }

  pub rows_after : G.rows ≡ ended_rows F.rows n G.newly jobs
  rows_after = a.rows_are

  -- the queue
  row_after : (m : ℕ) (r : Row) → row_of rows m ≡ Some r → (q : Row) × (row_of G.rows m ≡ Some q) × (q.job ≡ r.job)
  row_after zero r h = no_row rows r h
  row_after (suc j) r h = (record { job = r.job; status = status_after n G.newly (1 + j) r.status }, ap (λ (l : List Row). row_of l (suc j)) a.rows_are ∙ row_to (status_after n G.newly) 1 rows j (1 + j) r h refl, refl)

  row_before : (m : ℕ) (q : Row) → row_of G.rows m ≡ Some q → (r : Row) × (row_of rows m ≡ Some r) × (q.job ≡ r.job)
  row_before zero q h = no_row G.rows q h
  row_before (suc j) q h = let r = row_by (status_after n G.newly) 1 rows j (1 + j) q (ap (λ (l : List Row). row_of l (suc j)) (sym a.rows_are) ∙ h) refl in (r.0, r.1, r.2)

  abbrev so : Kind → ℤ → ℕ → Bool
  so k z m = runs_so C k z (row_of rows m)

  queue_kept : (k : Kind) (z : ℤ) (m : ℕ) → In m (F.queue k z) → In m (G.queue k z)
  queue_kept k z m h = in_moved _ (G.queue k z) m (a.queue_is k z) (in_left m (F.queue k z) (filter (so k z) (filter begins done)) h)

  queue_added : (m : ℕ) (r : Row) → row_of G.rows m ≡ Some r → In m G.newly → In m (G.queue (job_kind C r.job) (job_priority C r.job))
  queue_added m r h i =
      let q = row_before m r h in
      let t : so (job_kind C r.job) (job_priority C r.job) m ≡ true =
      ap (runs_so C (job_kind C r.job) (job_priority C r.job)) q.1
      ∙ and_from (kind_eq (job_kind C q.0.job) (job_kind C r.job)) (int_eq (job_priority C q.0.job) (job_priority C r.job))
      (subst (λ (j : Job). kind_eq (job_kind C j) (job_kind C r.job) ≡ true) q.2 (kind_same (job_kind C r.job)))
      (subst (λ (j : Job). int_eq (job_priority C j) (job_priority C r.job) ≡ true) q.2 (int_same (job_priority C r.job)))
      in
      in_moved _ (G.queue (job_kind C r.job) (job_priority C r.job)) m (a.queue_is (job_kind C r.job) (job_priority C r.job))
      (in_right m (F.queue (job_kind C r.job) (job_priority C r.job)) (filter (so (job_kind C r.job) (job_priority C r.job)) (filter begins done))
      (kept_in (so (job_kind C r.job) (job_priority C r.job)) m (filter begins done) (in_back (filter begins done) G.newly m a.newly_are i) t))

  queue_only : (k : Kind) (z : ℤ) (m : ℕ) → In m (G.queue k z) → In m (F.queue k z) ⊎ ((r : Row) × (row_of G.rows m ≡ Some r) × In m G.newly × (job_kind C r.job ≡ k) × (job_priority C r.job ≡ z))
  queue_only k z m h =
      elim (in_split m (F.queue k z) (filter (so k z) (filter begins done)) (in_back _ (G.queue k z) m (a.queue_is k z) h)) [
        | inl g ↦ inl g
        | inr g ↦ (let p = in_kept (so k z) m (filter begins done) g in
            let d = in_kept begins m done p.0 in
            let r = done_row m d.0 in
            let q = row_after m r.0 r.1 in
            let t = and_parts (kind_eq (job_kind C r.0.job) k) (int_eq (job_priority C r.0.job) z) (ap (runs_so C k z) (sym r.1) ∙ p.1) in
            inr (q.0, q.1, in_moved (filter begins done) G.newly m a.newly_are p.0, ap (job_kind C) q.2 ∙ kind_sound (job_kind C r.0.job) k t.0, ap (job_priority C) q.2 ∙ int_sound (job_priority C r.0.job) z t.1))
      ]

  queue_once : (k : Kind) (z : ℤ) → Distinct (G.queue k z)
  queue_once k z =
      distinct_moved (F.queue k z ++ filter (so k z) (filter begins done)) (G.queue k z) (a.queue_is k z)
      (distinct_append (F.queue k z) (filter (so k z) (filter begins done)) (fit.queued_once k z) (distinct_kept (so k z) (filter begins done) (distinct_kept begins done done_once))
      (λ m h g. let q = fit.queued k z m h in
      let d = (in_kept begins m done (in_kept (so k z) m (filter begins done) g).0).0 in
      let r = done_row m d in
      let e : q.0 ≡ r.0 = some_same (sym (old_row m q.0 q.1) ∙ r.1) in
      ready_waits (sym q.2 ∙ ap (λ (y : Row). y.status) e ∙ r.2)))

  pub queue_after : QueueAfter C F G
  queue_after = record { kept = queue_kept; added = queue_added; only = queue_only; once = queue_once }
