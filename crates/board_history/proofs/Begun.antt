-- Beginning an item and giving it back keep the fields standing for the state.
use Rattle.std.proofs.Common.{◌≡◌, ◌⊎◌, inl, inr, ℕ, suc, ◌+◌, Bool, true, false, ◌&&◌, List, [], ◌∷◌, ◌++◌, refl, sym, ap, ◌∙◌, subst, Option, None, Some, arith}
use Rattle.std.specs.Prelude.{◌-◌, ℤ, if◌then◌else◌}
use Rattle.std.specs.Ordering.{int_eq}
use Rattle.std.proofs.lemmas.Int.{ints}
use Rattle.std.proofs.lemmas.Bool.{and_from, and_parts}
use Rattle.dataflow.specs.System.{Distinct, In}
use Rattle.dataflow.specs.Machine.{Back, Begin, Event, Run}
use Rattle.dataflow.specs.History.{log_of}
use Rattle.dataflow.proofs.Known.{sees_only}
use Rattle.dataflow.proofs.Follows.{sees_enabled}
use Rattle.dataflow.proofs.Lists.{in_seam, seam_here}
use Rattle.dataflow.proofs.Steps.{run_follows}
use Rattle.board_history.specs.CodeReplay.{next_state, replayed, and_then}
use Rattle.board_history.specs.Elements.{code_tests}
use Rattle.board_history.specs.Fields.{Fields, Layout, Status, Over, Ready, Running, Waiting, is_running, item_before, running_in}
use Rattle.board_history.specs.Stands.{Queued, Stands}
use Rattle.board_history.specs.Marking.{begun_fields, kind_eq, returned_fields, without}
use Rattle.board_history.specs.Tidy.{MarksOnly}
use Rattle.board_history.proofs.Tests.{choose, none_some, yes_no}
use Rattle.board_history.proofs.Counts.{begin_counts, back_counts}
use Rattle.board_history.proofs.Elements.{code_told}
use Rattle.board_history.proofs.Marking.{IsItem, RowIs, distinct_without, in_without, item, item_not_over, status_is as status_split, running_marked, without_in}
use Rattle.board_history.proofs.Remarked.{Remark, apart, enabled_back, enabled_on, found, here, new_item, old_item, stands_on}
use Rattle.board_history.proofs.Quiet.{back_statuses, begin_statuses, replayed_bare}
use Rattle.board_history.proofs.Replays.{replayed_then, run_next, run_replayed}
use Rattle.task_code.proofs.Kept.{code_laws}
use Rattle.task_code.specs.Code.{Code, Control, Kind, Leaf}
use Rattle.task_code.specs.Effects.{Main, Task}
use Rattle.task_code.specs.Machine.{CodeItem, CodeState, CodeStep, Enabled}
use Rattle.task_code.specs.System.{code_system, task_kind, task_priority}
use Rattle.task_code.specs.Whole.{IsCode}

some_none : {A B : Type 0} {x : A} → ◌≡◌ {A = Option A} (Some x) None → B
some_none h = absurd (cc)

head_is : {X : Type 0} {a b : X} {xs ys : List X} → ◌≡◌ {A = List X} (a ∷ xs) (b ∷ ys) → a ≡ b
head_is h = cc

-- whether a status runs is told by its item
runs_is : (m : Status) (y : IsItem m) (n : ℕ) (t : Task) (is : List CodeItem) (r : Option ℕ) → item_before n t m is ≡ item n t r ∷ is → y.runs ≡ r
runs_is m y n t is r h = ap (λ (i : CodeItem). i.runs) (head_is (sym (y.is n t is) ∙ h))

idle_status : (m : Status) (y : IsItem m) → y.runs ≡ None → is_running m ≡ false
idle_status Waiting y h = refl
idle_status Ready y h = refl
idle_status (Running w) y h = some_none (sym (runs_is (Running w) y 0 Main [] (Some w) refl) ∙ h)
idle_status Over y h = refl

busy_status : (m : Status) (y : IsItem m) (w : ℕ) → y.runs ≡ Some w → is_running m ≡ true
busy_status Waiting y w h = none_some (sym (runs_is Waiting y 0 Main [] None refl) ∙ h)
busy_status Ready y w h = none_some (sym (runs_is Ready y 0 Main [] None refl) ∙ h)
busy_status (Running v) y w h = refl
busy_status Over y w h = absurd (item_not_over Over y refl)

running_not_ready : {B : Type 0} {w : ℕ} → Running w ≡ Ready → B
running_not_ready h = absurd (cc)

running_not_waiting : {B : Type 0} {w : ℕ} → Running w ≡ Waiting → B
running_not_waiting h = absurd (cc)

ready_not_waiting : {B : Type 0} → Ready ≡ Waiting → B
ready_not_waiting h = absurd (cc)

kind_sound : (a b : Kind) → kind_eq a b ≡ true → a ≡ b
kind_sound Control Control h = refl
kind_sound Leaf Leaf h = refl
kind_sound Control Leaf h = yes_no h refl
kind_sound Leaf Control h = yes_no h refl

kind_same : (a : Kind) → kind_eq a a ≡ true
kind_same Control = refl
kind_same Leaf = refl

int_sound : (a b : ℤ) → int_eq a b ≡ true → a ≡ b
int_sound a b h = grind (arith, ints)

int_same : (a : ℤ) → int_eq a a ≡ true
int_same a = grind (arith, ints)

more_runs : (a b c d e : ℕ) → a + b ≡ c + d → b ≡ 0 → d ≡ 1 → e ≡ c → suc e ≡ a
more_runs a b c d e h p q r = omega arith

fewer_run : (a b c d e : ℕ) → a + b ≡ c + d → b ≡ 1 → d ≡ 0 → e ≡ c → e - 1 ≡ a
fewer_run a b c d e h p q r = omega arith

module _ (C : Code) (I : IsCode C) (L : Layout) (es : List Event) (F : Fields) (x : Stands C L es F) where
  abbrev s : CodeState
  s = x.state

  run : Run (code_system C) es s
  run = (run_replayed (code_system C) code_tests (code_told C) (code_laws C I) es s x.reached).0

  next : (e : Event) (t : CodeState) → replayed C (es ++ e ∷ []) ≡ Some t → next_state C s e ≡ Some t
  next e t reached = ap (λ (r : Option CodeState). and_then C r e) (sym x.reached) ∙ sym (replayed_then (code_system C) code_tests es e) ∙ reached

  step : (e : Event) (t : CodeState) → replayed C (es ++ e ∷ []) ≡ Some t → CodeStep C s e t
  step e t reached = (run_next (code_system C) code_tests (code_told C) (code_laws C I) es s run e t (next e t reached)).0

  -- a row whose item is marked so
  row_runs : (i : CodeItem) (f : RowIs F.frames F.rows 1 i) (b : Bool) → ((y : IsItem f.row.status) → is_running f.row.status ≡ b) → is_running f.row.status ≡ b
  row_runs i f b h = elim (status_split f.row.status) [ inl o ↦ absurd (f.not_over o) | inr y ↦ h y ]

  module _ (w n : ℕ) (t : CodeState) (reached : replayed C (es ++ Begin w n ∷ []) ≡ Some t) where
    begun : CodeStep C s (Begin w n) t
    begun = step (Begin w n) t reached

    marks : MarksOnly (code_system C) s n (Some w) t
    marks = begin_statuses (code_system C) code_tests (code_told C) s t w n (replayed_bare (code_system C) code_tests (code_told C) es s x.reached) (next (Begin w n) t reached)

    abbrev c : Remark C L es F x (Begin w n) n (Running w) t
    c = record {
      y = record { runs = Some w; is = λ n t is. refl };
      reached = reached;
      counts = begin_counts (code_system C) code_tests s t w n begun;
      i = begun.1.item;
      before = begun.1.before;
      after = begun.1.after;
      at = begun.1.at.items;
      num = begun.1.at.number_is;
      now = begun.1.result.items;
      places = ap (λ (y : CodeState). y.places) marks.is;
      stored = ap (λ (y : CodeState). y.stored) marks.is;
      next = begun.1.result.next;
      lines = begun.1.result.lines;
    }

    back_to : (k : Kind) (z : ℤ) (m : ℕ) → Queued C t k z m → Queued C s k z m × (n ≡ m → ⊥)
    back_to k z m q =
        elim (old_item C I L es F x (Begin w n) n (Running w) t c q.item q.there) [
          | inl g ↦ (record { item = q.item; there = g.0; number_is = q.number_is; idle = q.idle; enabled = enabled_back C I L es F x (Begin w n) n (Running w) t c q.item.task q.enabled; kind_is = q.kind_is; priority_is = q.priority_is }, λ e. apart C I L es F x (Begin w n) n (Running w) t c q.item g.1 (e ∙ sym q.number_is))
          | inr p ↦ none_some (sym q.idle ∙ ap (λ (y : CodeItem). y.runs) p)
        ]

    on_to : (k : Kind) (z : ℤ) (m : ℕ) → Queued C s k z m → (n ≡ m → ⊥) → Queued C t k z m
    on_to k z m q d =
        elim (new_item C I L es F x (Begin w n) n (Running w) t c q.item q.there) [
          | inl g ↦ record { item = q.item; there = g; number_is = q.number_is; idle = q.idle; enabled = enabled_on C I L es F x (Begin w n) n (Running w) t c q.item.task q.enabled; kind_is = q.kind_is; priority_is = q.priority_is }
          | inr p ↦ absurd (d (sym c.num ∙ ap (λ (y : CodeItem). y.number) (sym p) ∙ q.number_is))
        ]

    -- the fields in which the item runs stand for the history with the event
    pub begun_stands : Stands C L (es ++ Begin w n ∷ []) (begun_fields F w n)
    begun_stands =
        let f = found C I L es F x (Begin w n) n (Running w) t c in
        stands_on C I L es F x (Begin w n) n (Running w) t c (λ k z. without n (F.queue k z)) (suc F.running) [] F.fault
        (λ h. running_not_ready h) (λ h. running_not_waiting h)
        (let o = row_runs begun.1.item f false (λ y. idle_status f.row.status y (sym (f.runs_is y) ∙ begun.1.idle)) in
        more_runs _ (if is_running f.row.status then 1 else 0) (running_in F.rows) 1 F.running (running_marked F.rows f.at f.row (Running w) f.there) (λ k. if o k then 1 else 0) refl x.items.running)
        (record {
          all = λ k z m q. (let r = back_to k z m q in without_in n m (F.queue k z) (x.queue.all k z m r.0) r.1);
          only = λ k z m h. (let r = in_without n m (F.queue k z) h in on_to k z m (x.queue.only k z m r.0) r.1);
          once = λ k z. distinct_without n (F.queue k z) (x.queue.once k z);
        })
        (record {
          once = tt;
          all = λ m b g. g (elim (old_item C I L es F x (Begin w n) n (Running w) t c b.item b.there) [
            | inl h ↦ record { item = b.item; there = h.0; number_is = b.number_is; idle = b.idle; enabled = enabled_back C I L es F x (Begin w n) n (Running w) t c b.item.task b.enabled }
            | inr p ↦ none_some (sym b.idle ∙ ap (λ (y : CodeItem). y.runs) p)
          ]);
          can = λ m h. absurd h;
          could_not = λ m h. absurd h;
        })
        (x.fault ∙ sym begun.1.result.fault)

  module _ (w n : ℕ) (t : CodeState) (reached : replayed C (es ++ Back w n ∷ []) ≡ Some t) where
    backed : CodeStep C s (Back w n) t
    backed = step (Back w n) t reached

    statuses_back : MarksOnly (code_system C) s n None t
    statuses_back = back_statuses (code_system C) code_tests (code_told C) s t w n (replayed_bare (code_system C) code_tests (code_told C) es s x.reached) (next (Back w n) t reached)

    abbrev d : Remark C L es F x (Back w n) n Ready t
    d = record {
      y = record { runs = None; is = λ n t is. refl };
      reached = reached;
      counts = back_counts (code_system C) code_tests s t w n backed;
      i = backed.1.item;
      before = backed.1.before;
      after = backed.1.after;
      at = backed.1.at.items;
      num = backed.1.at.number_is;
      now = backed.1.result.items;
      places = ap (λ (y : CodeState). y.places) statuses_back.is;
      stored = ap (λ (y : CodeState). y.stored) statuses_back.is;
      next = backed.1.result.next;
      lines = backed.1.result.lines;
    }

    abbrev i : CodeItem
    i = backed.1.item

    abbrev again : CodeItem
    again = item i.number i.task None

    there : In i s.items
    there = here C I L es F x (Back w n) n Ready t d

    -- a running item is enabled
    able : Enabled C s i.task
    able =
        let f = run_follows (code_system C) (code_laws C I) es s run in
        let log = log_of (code_system C) es s run in
        let r = (f.items.runs i w there backed.1.runs).1 in
        sees_only (code_system C) (code_laws C I) s log f i.task r.answers (sees_enabled (code_system C) (code_laws C I) s log f i.task r.waits r.answers r.known)

    again_there : In again t.items
    again_there = subst (λ (is : List CodeItem). In again is) (sym d.now) (seam_here again d.before d.after)

    old_queued : (k : Kind) (z : ℤ) (m : ℕ) → Queued C t k z m → Queued C s k z m ⊎ ((n ≡ m) × (task_kind C i.task ≡ k) × (task_priority C i.task ≡ z))
    old_queued k z m q =
        elim (old_item C I L es F x (Back w n) n Ready t d q.item q.there) [
          | inl g ↦ inl (record { item = q.item; there = g.0; number_is = q.number_is; idle = q.idle; enabled = enabled_back C I L es F x (Back w n) n Ready t d q.item.task q.enabled; kind_is = q.kind_is; priority_is = q.priority_is })
          | inr p ↦ inr (sym d.num ∙ ap (λ (y : CodeItem). y.number) (sym p) ∙ q.number_is, ap (λ (y : CodeItem). task_kind C y.task) (sym p) ∙ q.kind_is, ap (λ (y : CodeItem). task_priority C y.task) (sym p) ∙ q.priority_is)
        ]

    -- an item that may begin before is another
    other : (o : CodeItem) → In o s.items → o.runs ≡ None → n ≡ o.number → ⊥
    other o h idle e =
        elim (in_seam o i d.before d.after (subst (λ (is : List CodeItem). In o is) d.at h)) [
          | inl g ↦ apart C I L es F x (Back w n) n Ready t d o g e
          | inr p ↦ some_none (sym backed.1.runs ∙ ap (λ (y : CodeItem). y.runs) (sym p) ∙ idle)
        ]

    new_queued : (k : Kind) (z : ℤ) (m : ℕ) → Queued C s k z m → Queued C t k z m
    new_queued k z m q =
        elim (new_item C I L es F x (Back w n) n Ready t d q.item q.there) [
          | inl g ↦ record { item = q.item; there = g; number_is = q.number_is; idle = q.idle; enabled = enabled_on C I L es F x (Back w n) n Ready t d q.item.task q.enabled; kind_is = q.kind_is; priority_is = q.priority_is }
          | inr p ↦ some_none (sym backed.1.runs ∙ ap (λ (y : CodeItem). y.runs) (sym p) ∙ q.idle)
        ]

    abbrev mine : Kind → ℤ → Bool
    mine k z = kind_eq (task_kind C i.task) k && int_eq (task_priority C i.task) z

    abbrev queue : Kind → ℤ → List ℕ
    queue k z = if mine k z then n ∷ F.queue k z else F.queue k z

    all_queued : (k : Kind) (z : ℤ) (m : ℕ) → Queued C t k z m → In m (queue k z)
    all_queued k z m q =
        choose (λ (l : List ℕ). In m l) (mine k z) (n ∷ F.queue k z) (F.queue k z)
        (λ h. elim (old_queued k z m q) [ inl g ↦ inr (x.queue.all k z m g) | inr g ↦ inl (sym g.0) ])
        (λ h. elim (old_queued k z m q) [
          | inl g ↦ x.queue.all k z m g
          | inr g ↦ yes_no (and_from (kind_eq (task_kind C i.task) k) (int_eq (task_priority C i.task) z) (subst (λ (b : Kind). kind_eq (task_kind C i.task) b ≡ true) g.1 (kind_same (task_kind C i.task))) (subst (λ (b : ℤ). int_eq (task_priority C i.task) b ≡ true) g.2 (int_same (task_priority C i.task)))) h
        ])

    only_queued : (k : Kind) (z : ℤ) (m : ℕ) → In m (queue k z) → Queued C t k z m
    only_queued k z m =
        choose (λ (l : List ℕ). In m l → Queued C t k z m) (mine k z) (n ∷ F.queue k z) (F.queue k z)
        (λ h b. elim b [
          | inl p ↦ (let r = and_parts (kind_eq (task_kind C i.task) k) (int_eq (task_priority C i.task) z) h in
              record { item = again; there = again_there; number_is = d.num ∙ sym p; idle = refl; enabled = enabled_on C I L es F x (Back w n) n Ready t d i.task able; kind_is = kind_sound (task_kind C i.task) k r.0; priority_is = int_sound (task_priority C i.task) z r.1 })
          | inr g ↦ new_queued k z m (x.queue.only k z m g)
        ])
        (λ h b. new_queued k z m (x.queue.only k z m b))

    once_queued : (k : Kind) (z : ℤ) → Distinct (queue k z)
    once_queued k z =
        choose (λ (l : List ℕ). Distinct l) (mine k z) (n ∷ F.queue k z) (F.queue k z)
        (λ h. ((λ b. let q = x.queue.only k z n b in other q.item q.there q.idle (sym q.number_is)), x.queue.once k z))
        (λ h. x.queue.once k z)

    -- the fields in which the item is ready again stand for the history with the event
    back_stands : Stands C L (es ++ Back w n ∷ []) (returned_fields F n (task_kind C i.task) (task_priority C i.task))
    back_stands =
        let f = found C I L es F x (Back w n) n Ready t d in
        stands_on C I L es F x (Back w n) n Ready t d queue (F.running - 1) (n ∷ []) F.fault
        (λ h. able) (λ h. ready_not_waiting h)
        (let o = row_runs i f true (λ y. busy_status f.row.status y w (sym (f.runs_is y) ∙ backed.1.runs)) in
        fewer_run _ (if is_running f.row.status then 1 else 0) (running_in F.rows) 0 F.running (running_marked F.rows f.at f.row Ready f.there) (λ k. if o k then 1 else 0) refl x.items.running)
        (record { all = all_queued; only = only_queued; once = once_queued })
        (record {
          once = ((λ h. h), tt);
          all = λ m b g. elim (old_item C I L es F x (Back w n) n Ready t d b.item b.there) [
            | inl h ↦ absurd (g (record { item = b.item; there = h.0; number_is = b.number_is; idle = b.idle; enabled = enabled_back C I L es F x (Back w n) n Ready t d b.item.task b.enabled }))
            | inr p ↦ inl (sym b.number_is ∙ ap (λ (y : CodeItem). y.number) p ∙ d.num)
          ];
          can = λ m h. elim h [
            | inl p ↦ record { item = again; there = again_there; number_is = d.num ∙ sym p; idle = refl; enabled = enabled_on C I L es F x (Back w n) n Ready t d i.task able }
            | inr g ↦ absurd g
          ];
          could_not = λ m h b. elim h [
            | inl p ↦ other b.item b.there b.idle (sym p ∙ sym b.number_is)
            | inr g ↦ absurd g
          ];
        })
        (x.fault ∙ sym backed.1.result.fault)

    -- for the item that the event names
    pub returned_stands : (item : CodeItem) × In item s.items × (item.number ≡ n) × Stands C L (es ++ Back w n ∷ []) (returned_fields F n (task_kind C item.task) (task_priority C item.task))
    returned_stands = (i, there, d.num, back_stands)
