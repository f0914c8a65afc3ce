-- The items that can begin, as the queue has them: the first of a kind, and none.
use Rattle.std.proofs.Common.{◌≡◌, ◌⊎◌, inl, inr, ℕ, zero, suc, ◌<◌, ◌≤◌, Bool, true, false, IsTrue, List, [], ◌∷◌, map, refl, sym, ap, ◌∙◌, subst, Option, None, Some, Contains, arith}
use Rattle.std.specs.Prelude.{ℤ, ◌<ℤ◌, IfNone, IfSome, int_lt}
use Rattle.std.specs.Ordering.{int_eq}
use Rattle.std.proofs.lemmas.Int.{ints}
use Rattle.std.proofs.lemmas.List.Elements.{All-contains}
use Rattle.dataflow.specs.System.{Distinct, In}
use Rattle.board_history.specs.Fields.{Job, Status, Over, Ready, Row, Running, Waiting, is_running, row_of, running_in, task_of}
use Rattle.board_history.specs.Stands.{Stands}
use Rattle.board_history.proofs.Marking.{RowIs}
use Rattle.board_history.proofs.Tests.{choose, none_some, some_same, yes_no}
use Rattle.task_code.specs.Code.{Control, Kind, Leaf}
use Rattle.task_code.specs.Machine.{CodeItem, CodeState, Enabled, Quiet}
use Rattle.task_code.specs.System.{task_kind, task_priority}
use Rattle.task_code.specs.View.{event_view}
use Rattle.work_queue.specs.Both.{of}
use Rattle.work_queue.specs.Entries.{ComesNoLater, IsTakenFirst, first_number, first_of}
use Rattle.work_queue.specs.declared.entry.QueueEntry.{QueueEntry}
use Rattle.board_program.specs.Spots.{layout_of}
use Rattle.board_instances.specs.View.{frames_view, rows_view}
use Rattle.board_items.specs.View.{numbers_at, queue_view}
use Rattle.board.specs.Board.{IsGoing}
use Rattle.board.specs.History.{state_of}
use Rattle.board.specs.Inside.{IsSound, seen_of}
use Rattle.board.specs.Ready.{IsNext, IsReady}
use Rattle.board.specs.View.{fields_view}
use Rattle.board.specs.declared.board.Board.TheInside.{Inside}
use Rattle.board.proofs.Entries.{int_same, int_sound}
use Rattle.board.proofs.Moves.{ready_item, row_there, runs_as, waiting_item}
use Rattle.board.proofs.Own.{free_core, free_state, some_run, state_here, theirs}

abbrev entry : ℤ → ℕ → QueueEntry
entry z n = record { priority = z; no = n }

entry_same : (x y : QueueEntry) → x.no ≡ y.no → x.priority ≡ y.priority → x ≡ y
entry_same x y e f = λ i. record { priority = f i; no = e i }

in_contains : {X : Type 0} (xs : List X) (x : X) → In x xs → Contains xs x
in_contains [] x h = absurd h
in_contains (y ∷ xs) x (inl e) = (0, omega arith, sym e)
in_contains (y ∷ xs) x (inr h) = let c = in_contains xs x h in let l = c.1 in (suc c.0, omega arith, c.2)

pub contains_in : {X : Type 0} (xs : List X) (x : X) → Contains xs x → In x xs
contains_in [] x c = let l = c.1 in absurd (omega arith)
contains_in (y ∷ xs) x (zero, l, e) = inl (sym e)
contains_in (y ∷ xs) x (suc k, l, e) = inr (contains_in xs x (k, omega arith, e))

pub if_none : {A P : Type 0} (o : Option A) → (o ≡ None → P) → IfNone o P
if_none None f = f refl
if_none (Some x) f = tt

pub if_some : {A : Type 0} {P Q : A → Type 0} (o : Option A) → IfSome o P → ((x : A) → P x → Q x) → IfSome o Q
if_some None p f = tt
if_some (Some x) p f = f x p

-- a number of a priority is that of an entry
pub held : (z : ℤ) (n : ℕ) (ys : List QueueEntry) → In n (numbers_at z ys) → In (record { priority = z; no = n }) ys
held z n [] h = absurd h
held z n (y ∷ ys) h =
    choose (λ (ns : List ℕ). In n ns → In (entry z n) (y ∷ ys)) (int_eq y.priority z) (y.no ∷ numbers_at z ys) (numbers_at z ys)
    (λ b g. elim g [
      | inl e ↦ inl (entry_same (entry z n) y e (sym (int_sound y.priority z b)))
      | inr g ↦ inr (held z n ys g)
    ])
    (λ b g. inr (held z n ys g)) h

pub listed_at : (e : QueueEntry) (ys : List QueueEntry) → In e ys → In e.no (numbers_at e.priority ys)
listed_at e [] h = absurd h
listed_at e (y ∷ ys) (inl p) =
    choose (λ (ns : List ℕ). In e.no ns) (int_eq y.priority e.priority) (y.no ∷ numbers_at e.priority ys) (numbers_at e.priority ys)
    (λ b. inl (ap (λ (x : QueueEntry). x.no) p))
    (λ b. yes_no (int_same y.priority e.priority (ap (λ (x : QueueEntry). x.priority) (sym p))) b)
listed_at e (y ∷ ys) (inr h) =
    choose (λ (ns : List ℕ). In e.no ns) (int_eq y.priority e.priority) (y.no ∷ numbers_at e.priority ys) (numbers_at e.priority ys)
    (λ b. inr (listed_at e ys h))
    (λ b. listed_at e ys h)

-- where each number stands once
pub behind_once : (z : ℤ) (y : QueueEntry) (ys : List QueueEntry) → Distinct (numbers_at z (y ∷ ys)) → Distinct (numbers_at z ys)
behind_once z y ys =
    choose (λ (ns : List ℕ). Distinct ns → Distinct (numbers_at z ys)) (int_eq y.priority z) (y.no ∷ numbers_at z ys) (numbers_at z ys)
    (λ b d. d.1)
    (λ b d. d)

pub not_again : (y : QueueEntry) (ys : List QueueEntry) → Distinct (numbers_at y.priority (y ∷ ys)) → (e : QueueEntry) → In e ys → e.no ≡ y.no → e.priority ≡ y.priority → ⊥
not_again y ys d e h n p =
    choose (λ (ns : List ℕ). Distinct ns → ⊥) (int_eq y.priority y.priority) (y.no ∷ numbers_at y.priority ys) (numbers_at y.priority ys)
    (λ b c. c.0 (subst (λ (k : ℕ). In k (numbers_at y.priority ys)) n (subst (λ (z : ℤ). In e.no (numbers_at z ys)) p (listed_at e ys h))))
    (λ b c. yes_no (int_same y.priority y.priority refl) b) d

pub no_number : (ys : List QueueEntry) → first_of ys ≡ None → first_number ys ≡ None
no_number [] h = refl
no_number (y ∷ ys) h = none_some (sym h)

pub none_first : (ys : List QueueEntry) → first_number ys ≡ None → ys ≡ []
none_first [] h = refl
none_first (y ∷ ys) h = none_some (sym h)

-- of two orders that say the same one rules the other out
pub not_before : (z w : ℤ) (n m : ℕ) → (w <ℤ z) ⊎ ((z ≡ w) × (n ≤ m)) → (int_lt z w ≡ true) ⊎ ((w ≡ z) × (m < n)) → ⊥
not_before z w n m (inl a) (inl b) = grind (arith, ints)
not_before z w n m (inl a) (inr b) = let e = b.0 in grind (arith, ints)
not_before z w n m (inr a) (inl b) = let e = a.0 in grind (arith, ints)
not_before z w n m (inr a) (inr b) = let e = a.1 in let f = b.1 in omega arith

pub is_before : (z w : ℤ) (n m : ℕ) → (w <ℤ z) ⊎ ((z ≡ w) × (n ≤ m)) → (n ≡ m → ⊥) → (int_lt w z ≡ true) ⊎ ((z ≡ w) × (n < m))
is_before z w n m (inl a) d = inl (grind (arith, ints))
is_before z w n m (inr a) d = let e = a.1 in inr (a.0, omega arith)

-- some row runs
record RunsSomewhere (rows : List Row) : Type 0 where
  at : ℕ
  worker : ℕ
  job : Job
  there : row_of rows (suc at) ≡ Some (record { job = job; status = Running worker })

some_running : (rows : List Row) → 0 < running_in rows → RunsSomewhere rows
some_running [] h = absurd (omega arith)
some_running (r ∷ rs) h = by r.status refl (λ g. some_running rs g)
  where
    later : RunsSomewhere rs → RunsSomewhere (r ∷ rs)
    later x = record { at = suc x.at; worker = x.worker; job = x.job; there = x.there }

    on : (m : Status) → r.status ≡ m → is_running m ≡ false → 0 < running_in rs
    on m e f =
        let g : is_running r.status ≡ false = ap is_running e ∙ f in
        grind (arith, h, g)

    by : (m : Status) → r.status ≡ m → (0 < running_in rs → RunsSomewhere rs) → RunsSomewhere (r ∷ rs)
    by (Running w) e f = record { at = 0; worker = w; job = r.job; there = ap (λ (m : Status). Some (record { job = r.job; status = m })) e }
    by Ready e f = later (f (on Ready e refl))
    by Waiting e f = later (f (on Waiting e refl))
    by Over e f = later (f (on Over e refl))

module _ (a : Inside) (s : IsSound a) where
  abbrev x : Stands a.program (layout_of a.program) (map event_view a.history.items) (fields_view s.stand.told a.core)
  x = s.stand.stands

  here : state_of a.program (map event_view a.history.items) ≡ x.state
  here = state_here a.program s.whole (map event_view a.history.items) a.core s.stand

  there : (i : CodeItem) → In i (state_of a.program (map event_view a.history.items)).items → RowIs (frames_view a.core.data_state.instances.slots) (rows_view a.core.items.rows.items) 1 i
  there i h = row_there a.program s.whole (layout_of a.program) (map event_view a.history.items) (fields_view s.stand.told a.core) s.stand.stands i (subst (λ (t : CodeState). In i t.items) here h)

  queue_is : (k : Kind) (z : ℤ) → queue_view a.core.items.queue k z ≡ numbers_at z (of k a.core.items.queue).entries
  queue_is Control z = refl
  queue_is Leaf z = refl

  -- the item that an entry of the queue stands for
  pub record Stood (k : Kind) (z : ℤ) (n : ℕ) : Type 0 where
    pub item : CodeItem
    pub ready : IsReady (seen_of a) item
    pub kind_is : task_kind a.program item.task ≡ k
    pub priority_is : task_priority a.program item.task ≡ z
    pub number_is : item.number ≡ n

  pub stood : (k : Kind) (e : QueueEntry) → In e (of k a.core.items.queue).entries → Stood k e.priority e.no
  stood k e h =
      let y = x.queue.only k e.priority e.no (subst (λ (ns : List ℕ). In e.no ns) (sym (queue_is k e.priority)) (listed_at e (of k a.core.items.queue).entries h)) in
      record {
        item = y.item;
        ready = record {
          there = subst (λ (t : CodeState). In y.item t.items) (sym here) y.there;
          idle = y.idle;
          enabled = subst (λ (t : CodeState). Enabled a.program t y.item.task) (sym here) y.enabled;
        };
        kind_is = y.kind_is;
        priority_is = y.priority_is;
        number_is = y.number_is;
      }

  pub in_queue : (k : Kind) (i : CodeItem) → IsReady (seen_of a) i → task_kind a.program i.task ≡ k → In (record { priority = task_priority a.program i.task; no = i.number }) (of k a.core.items.queue).entries
  in_queue k i r h =
      held (task_priority a.program i.task) i.number (of k a.core.items.queue).entries
      (subst (λ (ns : List ℕ). In i.number ns) (queue_is k (task_priority a.program i.task))
      (x.queue.all k (task_priority a.program i.task) i.number (record {
        item = i;
        there = subst (λ (t : CodeState). In i t.items) here r.there;
        number_is = refl;
        idle = r.idle;
        enabled = subst (λ (t : CodeState). Enabled a.program t i.task) here r.enabled;
        kind_is = h;
        priority_is = refl;
      })))

  pub once_each : (k : Kind) (z : ℤ) → Distinct (numbers_at z (of k a.core.items.queue).entries)
  once_each k z = subst (λ (ns : List ℕ). Distinct ns) (queue_is k z) (x.queue.once k z)

  -- numbers tell items apart
  pub one_item : (i j : CodeItem) → IsReady (seen_of a) i → IsReady (seen_of a) j → i.number ≡ j.number → i ≡ j
  one_item i j r q e =
      let f = there i r.there in
      let g = there j q.there in
      let fn = f.number_is in
      let gn = g.number_is in
      let place : suc f.at ≡ suc g.at = omega arith in
      let row : f.row ≡ g.row = some_same (sym f.there ∙ ap (λ (n : ℕ). row_of (rows_view a.core.items.rows.items) n) place ∙ g.there) in
      same i j e (f.task_is ∙ ap (λ (y : Row). task_of (frames_view a.core.data_state.instances.slots) y.job) row ∙ sym g.task_is) (r.idle ∙ sym q.idle)
    where
      same : (i j : CodeItem) → i.number ≡ j.number → i.task ≡ j.task → i.runs ≡ j.runs → i ≡ j
      same i j e t r = λ z. record { number = e z; task = t z; runs = r z }

  -- none waits, or the first one
  pub next_none : (k : Kind) → first_number (of k a.core.items.queue).entries ≡ None → (i : CodeItem) → IsReady (seen_of a) i → task_kind a.program i.task ≡ k → ⊥
  next_none k h i r e =
      subst (λ (ys : List QueueEntry). In (entry (task_priority a.program i.task) i.number) ys) (none_first (of k a.core.items.queue).entries h) (in_queue k i r e)

  pub next_some : (k : Kind) (n : ℕ) → IsTakenFirst n (of k a.core.items.queue).entries → IsGoing (seen_of a) → IsNext (seen_of a) k n
  next_some k n h going =
      let e = h.0 in
      let y = stood k e (contains_in (of k a.core.items.queue).entries e h.2.0) in
      record {
        going = going;
        item = y.item;
        ready = y.ready;
        kind_is = y.kind_is;
        number_is = y.number_is ∙ h.1;
        first = λ other r same p.
            not_before e.priority (task_priority a.program other.task) e.no other.number
            (All-contains (ComesNoLater e) (of k a.core.items.queue).entries (entry (task_priority a.program other.task) other.number) h.2.1
            (in_contains (of k a.core.items.queue).entries (entry (task_priority a.program other.task) other.number) (in_queue k other r same)))
            (subst (λ (m : ℕ). (int_lt e.priority (task_priority a.program other.task) ≡ true) ⊎ ((task_priority a.program other.task ≡ e.priority) × (other.number < m))) y.number_is
            (subst (λ (z : ℤ). (int_lt z (task_priority a.program other.task) ≡ true) ⊎ ((task_priority a.program other.task ≡ z) × (other.number < y.item.number))) y.priority_is p));
      }

  -- nothing runs or can begin
  pub quiet_is : a.core.fault ≡ None → a.core.items.running ≡ 0 → first_number a.core.items.queue.control.entries ≡ None → first_number a.core.items.queue.leaf.entries ≡ None → Quiet a.program (state_of a.program (map event_view a.history.items))
  quiet_is free still control leaf =
      record {
        no_fault = free_state a.program s.whole (map event_view a.history.items) a.core s.stand free;
        idle = idle;
        none_enabled = λ i h e. by i (record { there = h; idle = idle i h; enabled = e }) (task_kind a.program i.task) refl;
      }
    where
      by : (i : CodeItem) → IsReady (seen_of a) i → (k : Kind) → task_kind a.program i.task ≡ k → ⊥
      by i r Control e = next_none Control control i r e
      by i r Leaf e = next_none Leaf leaf i r e

      status : (i : CodeItem) (f : RowIs (frames_view a.core.data_state.instances.slots) (rows_view a.core.items.rows.items) 1 i) (m : Status) → f.row.status ≡ m → i.runs ≡ None
      status i f Ready q = runs_as (fields_view s.stand.told a.core) i f Ready ready_item q
      status i f Waiting q = runs_as (fields_view s.stand.told a.core) i f Waiting waiting_item q
      status i f Over q = absurd (f.not_over q)
      status i f (Running w) q =
          let l = some_run a.program s.whole (map event_view a.history.items) a.core s.stand w (suc f.at) f.row.job (f.there ∙ ap (λ (m : Status). Some (record { job = f.row.job; status = m })) q) in
          absurd (omega arith)

      idle : (i : CodeItem) → In i (state_of a.program (map event_view a.history.items)).items → i.runs ≡ None
      idle i h = let f = there i h in status i f f.row.status refl

  pub quiet_still : Quiet a.program (state_of a.program (map event_view a.history.items)) → (a.core.items.running ≡ 0) × (first_number a.core.items.queue.control.entries ≡ None) × (first_number a.core.items.queue.leaf.entries ≡ None)
  quiet_still q = (zero_is a.core.items.running refl, none_is Control, none_is Leaf)
    where
      no_running : RunsSomewhere (rows_view a.core.items.rows.items) → ⊥
      no_running r =
          let t = theirs a.program s.whole (map event_view a.history.items) a.core s.stand r.worker (suc r.at) r.job r.there in
          none_some (sym (q.idle t.item t.there) ∙ t.runs)

      zero_is : (n : ℕ) → a.core.items.running ≡ n → a.core.items.running ≡ 0
      zero_is zero e = e
      zero_is (suc n) e =
          let f = x.items.running in
          absurd (no_running (some_running (rows_view a.core.items.rows.items) (omega arith)))

      no_entry : (k : Kind) (ys : List QueueEntry) → (of k a.core.items.queue).entries ≡ ys → first_number ys ≡ None
      no_entry k [] e = refl
      no_entry k (y ∷ ys) e =
          let t = stood k y (subst (λ (l : List QueueEntry). In y l) (sym e) (inl refl)) in
          absurd (q.none_enabled t.item t.ready.there t.ready.enabled)

      none_is : (k : Kind) → first_number (of k a.core.items.queue).entries ≡ None
      none_is k = no_entry k (of k a.core.items.queue).entries refl

pub not_quiet : (a : Inside) → IsSound a → (a.core.fault ≡ None → ⊥) → (b : Bool) → b ≡ false
    → (IsTrue b → Quiet a.program (state_of a.program (map event_view a.history.items))) × (Quiet a.program (state_of a.program (map event_view a.history.items)) → IsTrue b)
not_quiet a s met b off = (
  (λ t. let clash : true ≡ false = sym t ∙ off in absurd (cc)),
  (λ q. absurd (met (free_core a.program s.whole (map event_view a.history.items) a.core s.stand q.no_fault))),
)
