-- The waiters of a board after an End without fault.
use Rattle.std.proofs.Common.{◌≡◌, ◌⊎◌, inl, inr, ℕ, zero, suc, ◌+◌, ◌<◌, true, List, [], ◌∷◌, ◌++◌, map, length, refl, sym, ap, ◌∙◌, subst, Option, None, Some, arith}
use Rattle.std.specs.List.{flat_map}
use Rattle.std.proofs.lemmas.List.{map-append}
use Rattle.dataflow.specs.System.{Distinct, In, tasks_of}
use Rattle.dataflow.specs.Machine.{Event, Free, new_items}
use Rattle.dataflow.proofs.Lists.{in_left, in_map, in_right, in_seam, in_split, seam_distinct, seam_in}
use Rattle.dataflow.proofs.Numbers.{number_of_item}
use Rattle.board_history.specs.Ending.{Instance, IsOwn, job_slot, jobs_after, missed_again, missed_first, new_row, or_else}
use Rattle.board_history.specs.Fields.{Does, Fields, Frame, Job, Layout, Row, Script, Slot, Waiter, Want, path_of, row_of, slot_at, slot_for, task_of}
use Rattle.board_history.specs.Needs.{job_missed, missed, still_missed}
use Rattle.board_history.specs.Stands.{AllStand, WaitsStand, wants}
use Rattle.board_history.proofs.EndedBase.{Ending, follows, log, numbers, o, one_s, own_task, row_there}
use Rattle.board_history.proofs.EndedCells.{name_counted, names_after, own_name as own_in}
use Rattle.board_history.specs.Static.{names_in, own_count}
use Rattle.board_history.proofs.EndedFrames.{frame_stays, home_stays, hs, made, made_path, new_job_is, new_stays, old_path, os, own_frame, tasks_stay}
use Rattle.board_history.proofs.EndedKnown.{stays_later}
use Rattle.board_history.proofs.EndedNames.{Resolved, flat_in, in_data, outer_reads, own_reads, resolved_at, row_reads, to_datum, to_literal}
use Rattle.board_history.proofs.EndedRows.{NewItem, new_at_item, new_item_at, row_kept, row_of_new, row_split_at}
use Rattle.board_history.proofs.EndedSlots.{new_slot, old_slot}
use Rattle.board_history.proofs.EndedStill.{none_later, still_stand}
use Rattle.board_history.proofs.EndedWants.{needs_stand, none_left, left_none}
use Rattle.board_history.proofs.Marking.{RowIs, live_status}
use Rattle.board_history.proofs.Standing.{enabled_wants, one_number}
use Rattle.board_history.proofs.Static.{declared_of}
use Rattle.board_history.proofs.Tests.{none_some, some_same}
use Rattle.dataflow.proofs.Known.{sees_only}
use Rattle.task_code.proofs.Kept.{code_laws}
use Rattle.task_code.proofs.Places.{declared_at}
use Rattle.task_code.specs.Check.{is_declared}
use Rattle.task_code.specs.Code.{Code, Name, Variable, body, entry, here as own_name}
use Rattle.task_code.specs.Effects.{Item, Task}
use Rattle.task_code.specs.Machine.{CodeItem, CodeState}
use Rattle.task_code.specs.Places.{Datum, Place, Step, place_at}
use Rattle.task_code.specs.System.{code_system, task_reads}
use Rattle.task_code.specs.Whole.{IsCode}

module _ (C : Code) (I : IsCode C) (L : Layout) (es : List Event) (F : Fields) (w n : ℕ) (t : CodeState) (G : Fields) (P : Ending C L es F w n t G) where
  abbrev names : List (ℕ × Place)
  names = P.x.names

  abbrev later : List (ℕ × Place)
  later = names_after C I L es F w n t G P

  abbrev fs : List (Option Frame)
  fs = F.frames

  abbrev gs : List (Option Frame)
  gs = G.frames

  abbrev ms : List Instance
  ms = made C I L es F w n t G P

  abbrev jobs : List Job
  jobs = jobs_after C ms P.row.job (os C I L es F w n t G P)

  abbrev pub rows : List Row
  rows = F.rows ++ map new_row jobs

  abbrev others : List CodeItem
  others = (o C I L es F w n t G P).before ++ (o C I L es F w n t G P).after

  -- the items afterwards
  pub old_item_in : (i : CodeItem) → In i others → In i t.items
  old_item_in i h = subst (λ (is : List CodeItem). In i is) (sym (o C I L es F w n t G P).items) (in_left i others (new_items P.x.state.next (tasks_of (o C I L es F w n t G P).effect.opens)) h)

  pub was_item : (i : CodeItem) → In i others → In i P.x.state.items
  was_item i h = subst (λ (is : List CodeItem). In i is) (sym (o C I L es F w n t G P).there) (seam_in i (o C I L es F w n t G P).item (o C I L es F w n t G P).before (o C I L es F w n t G P).after h)

  pub next_is : P.x.state.next ≡ suc (length F.rows)
  next_is = P.x.items.next

  new_are : new_items P.x.state.next (tasks_of (o C I L es F w n t G P).effect.opens) ≡ new_items (suc (length F.rows)) (map (task_of gs) jobs)
  new_are = λ k. new_items (next_is k) (sym (tasks_stay C I L es F w n t G P).opened k)

  pub item_split : (i : CodeItem) → In i t.items → In i others ⊎ NewItem (task_of gs) (suc (length F.rows)) jobs i
  item_split i h =
      elim (in_split i others (new_items P.x.state.next (tasks_of (o C I L es F w n t G P).effect.opens)) (subst (λ (is : List CodeItem). In i is) (o C I L es F w n t G P).items h)) [
        | inl g ↦ inl g
        | inr g ↦ inr (new_item_at (task_of gs) (suc (length F.rows)) jobs i (subst (λ (is : List CodeItem). In i is) new_are g))
      ]

  pub new_item_in : (j m : ℕ) (r : Row) → row_of (map new_row jobs) (suc j) ≡ Some r → m ≡ suc (length F.rows) + j → In (record { number = m; task = task_of gs r.job; runs = None }) t.items × In r.job jobs
  new_item_in j m r h e =
      let g = new_at_item (task_of gs) (suc (length F.rows)) jobs j m r h e in
      (subst (λ (is : List CodeItem). In (record { number = m; task = task_of gs r.job; runs = None }) is) (sym (o C I L es F w n t G P).items) (in_right (record { number = m; task = task_of gs r.job; runs = None }) others (new_items P.x.state.next (tasks_of (o C I L es F w n t G P).effect.opens)) (subst (λ (is : List CodeItem). In (record { number = m; task = task_of gs r.job; runs = None }) is) (sym new_are) g.0)), g.1)

  -- the item that ended is none of the others
  pub other_number : (i : CodeItem) → In i others → i.number ≡ n → ⊥
  other_number i h e =
      let d = seam_distinct_numbers (numbers C I L es F w n t G P).once in
      d.0 (subst (λ (k : ℕ). In k (map number_of_item others)) (e ∙ sym (o C I L es F w n t G P).number_is) (in_map number_of_item i others h))
    where
      seam_distinct_numbers : Distinct (map number_of_item P.x.state.items) → (In (o C I L es F w n t G P).item.number (map number_of_item others) → ⊥) × Distinct (map number_of_item others)
      seam_distinct_numbers d =
          let b = (o C I L es F w n t G P).before in
          let a = (o C I L es F w n t G P).after in
          let i = (o C I L es F w n t G P).item in
          let e : map number_of_item P.x.state.items ≡ map number_of_item b ++ i.number ∷ map number_of_item a = ap (map number_of_item) (o C I L es F w n t G P).there ∙ map-append number_of_item b (i ∷ a) in
          let z = seam_distinct i.number (map number_of_item b) (map number_of_item a) (subst (λ (l : List ℕ). Distinct l) e d) in
          subst (λ (l : List ℕ). (In i.number l → ⊥) × Distinct l) (sym (map-append number_of_item b a)) z

  -- a live item's names: no datum that it reads is free
  read_used : (i : CodeItem) → In i t.items → (e c : ℕ) (p : List Step) → i.task ≡ Item e p c → (r : Name) → In r (entry C e).reads → (q : List Step) (v : Variable) → place_at C p r ≡ Datum q v → Free (code_system C) t (Datum q v) → ⊥
  read_used i h e c p q r ir z v at f =
      f.unread i h (subst (λ (u : Task). In (Datum z v) (task_reads C u)) (sym q) (in_data z v (map (place_at C p) (entry C e).reads) (subst (λ (a : Place). In a (map (place_at C p) (entry C e).reads)) at (in_map (place_at C p) r (entry C e).reads ir))))

  later_name : (x : Slot) (a : Place) → ((q : List Step) (v : Variable) → a ≡ Datum q v → Free (code_system C) t (Datum q v) → ⊥) → Resolved C names x a → Resolved C later x a
  later_name x a nf (to_datum d q v px pa i) = to_datum d q v px pa (stays_later C I L es F w n t G P d q v i (nf q v pa))
  later_name x a nf (to_literal e k v px pa l) = to_literal e k v px pa l

  -- an item that was there
  module _ (i : CodeItem) (h : In i others) where
    r : RowIs F.frames F.rows 1 i
    r = row_there C I L es F w n t G P i (was_item i h)

    number_at : suc r.at ≡ i.number
    number_at = let e = r.number_is in omega arith

    not_n : suc r.at ≡ n → ⊥
    not_n e = other_number i h (sym number_at ∙ e)

    module _ (k e c : ℕ) (q : r.row.job ≡ Does k e c) where
      frame : (f : Frame) × (slot_at fs k ≡ Some f) × In e (body C f.body).entries
      frame = P.x.frames.there (suc r.at) k e c r.row r.there q r.not_over

      frame_later : (g : Frame) × (slot_at gs k ≡ Some g)
      frame_later = frame_stays C I L es F w n t G P (suc r.at) k e c r.row r.there (live_status r.row.status r.not_over) not_n q

      old_task : i.task ≡ Item e (path_of fs k) c
      old_task = r.task_is ∙ ap (task_of fs) q

      nf : (y : Name) → In y (entry C e).reads → (z : List Step) (v : Variable) → place_at C (path_of fs k) y ≡ Datum z v → Free (code_system C) t (Datum z v) → ⊥
      nf y iy z v at f = read_used i (old_item_in i h) e c (path_of fs k) old_task y iy z v at f

      res : (y : Name) → In y (entry C e).reads → Resolved C names (slot_for L fs k frame.0.body y) (place_at C (path_of fs k) y)
      res y iy = row_reads C I L es F w n t G P (suc r.at) k e c r.row frame.0 r.there q r.not_over frame.1 y iy

      path_later : path_of gs k ≡ path_of fs k
      path_later = old_path C I L es F w n t G P k frame.0 frame_later.0 frame.1 frame_later.1

      res_later : (y : Name) → In y (entry C e).reads → Resolved C later (slot_for L gs k frame_later.0.body y) (place_at C (path_of gs k) y)
      res_later y iy =
          resolved_at C later (slot_for L fs k frame.0.body y) (slot_for L gs k frame_later.0.body y) (place_at C (path_of fs k) y) (place_at C (path_of gs k) y)
          (sym (old_slot C I L es F w n t G P k frame.0 frame_later.0 y frame.1 frame_later.1))
          (ap (λ (p : List Step). place_at C p y) (sym path_later))
          (later_name (slot_for L fs k frame.0.body y) (place_at C (path_of fs k) y) (λ z v at f. nf y iy z v at f) (res y iy))

      -- what it misses by the fields
      job_stand : AllStand later (job_missed C L G (Does k e c)) (wants C t (Item e (path_of gs k) c))
      job_stand =
          subst (λ (l : List (Want ℕ)). AllStand later l (wants C t (Item e (path_of gs k) c))) (sym (ap (λ (x : Option Frame). elim x [ None ↦ [] | Some f ↦ flat_map (missed C G.cells (slot_for L gs k f.body)) (entry C e).needs ]) frame_later.1))
          (needs_stand C I L es F w n t G P e (path_of gs k) (slot_for L gs k frame_later.0.body) res_later (entry C e).needs (λ m g. g))

      wants_later : wants C t (Item e (path_of gs k) c) ≡ wants C t i.task
      wants_later = ap (λ (p : List Step). wants C t (Item e p c)) path_later ∙ ap (wants C t) (sym old_task)

      kept_again : (v : Waiter) → v.item ≡ i.number → AllStand names v.missing (wants C P.x.state i.task) → AllStand later (missed_again C L G rows P.to.known v) (wants C t i.task)
      kept_again v e1 st = by (still_missed P.to.known v.missing) refl
        where
          row_now : row_of rows v.item ≡ Some r.row
          row_now = ap (row_of rows) (e1 ∙ sym number_at) ∙ row_kept F.rows (map new_row jobs) (suc r.at) r.row r.there

          by : (l : List (Want ℕ)) → still_missed P.to.known v.missing ≡ l → AllStand later (missed_again C L G rows P.to.known v) (wants C t i.task)
          by [] z =
              let y : missed_again C L G rows P.to.known v ≡ job_missed C L G (Does k e c) = ap (λ (x : List (Want ℕ)). or_else x (elim (row_of rows v.item) [ None ↦ [] | Some y ↦ job_missed C L G y.job ])) z ∙ ap (λ (x : Option Row). elim x [ None ↦ [] | Some y ↦ job_missed C L G y.job ]) row_now ∙ ap (job_missed C L G) q in
              subst (λ (x : List (Want ℕ)). AllStand later x (wants C t i.task)) (sym y) (subst (λ (x : List (Want Place)). AllStand later (job_missed C L G (Does k e c)) x) wants_later job_stand)
          by (u ∷ us) z =
              let y : missed_again C L G rows P.to.known v ≡ still_missed P.to.known v.missing = ap (λ (x : List (Want ℕ)). or_else x (elim (row_of rows v.item) [ None ↦ [] | Some y ↦ job_missed C L G y.job ])) z ∙ sym z in
              let g = still_stand C I L es F w n t G P e (path_of fs k) (slot_for L fs k frame.0.body) res nf v.missing (subst (λ (x : List (Want Place)). AllStand names v.missing x) (ap (wants C P.x.state) old_task) st) (λ b. no_nil (sym z ∙ b)) in
              subst (λ (x : List (Want ℕ)). AllStand later x (wants C t i.task)) (sym y) (subst (λ (x : List (Want Place)). AllStand later (still_missed P.to.known v.missing) x) (ap (wants C t) (sym old_task)) g)
            where
              no_nil : {B : Type 0} → ◌≡◌ {A = List (Want ℕ)} (u ∷ us) [] → B
              no_nil h = absurd (cc)

      none_again : wants C P.x.state i.task ≡ [] → wants C t i.task ≡ []
      none_again z =
          ap (wants C t) old_task ∙ none_later C I L es F w n t G P e (path_of fs k) (slot_for L fs k frame.0.body) res nf (ap (wants C P.x.state) (sym old_task) ∙ z)

    pub waiter_again : (v : Waiter) → v.item ≡ i.number → (v.missing ≡ [] → ⊥) → AllStand names v.missing (wants C P.x.state i.task) → AllStand later (missed_again C L G rows P.to.known v) (wants C t i.task)
    waiter_again v e1 ne st = by r.row.job refl
      where
        by : (b : Job) → r.row.job ≡ b → AllStand later (missed_again C L G rows P.to.known v) (wants C t i.task)
        by Script q = absurd (ne (left_none names v.missing (subst (λ (u : Task). AllStand names v.missing (wants C P.x.state u)) (r.task_is ∙ ap (task_of fs) q) st)))
        by (Does k e c) q = kept_again k e c q v e1 st

    pub none_stays : wants C P.x.state i.task ≡ [] → wants C t i.task ≡ []
    none_stays z = by r.row.job refl
      where
        by : (b : Job) → r.row.job ≡ b → wants C t i.task ≡ []
        by Script q = ap (wants C t) (r.task_is ∙ ap (task_of fs) q)
        by (Does k e c) q = none_again k e c q z

  -- the item that ended missed nothing
  pub own_enabled : wants C P.x.state (o C I L es F w n t G P).item.task ≡ []
  own_enabled =
      enabled_wants C P.x.state (one_s C I L es F w n t G P) (o C I L es F w n t G P).item.task
      (sees_only (code_system C) (code_laws C I) P.x.state (log C I L es F w n t G P) (follows C I L es F w n t G P) (o C I L es F w n t G P).item.task (o C I L es F w n t G P).answers (o C I L es F w n t G P).known)

  -- a new item
  module _ (i : CodeItem) (x : NewItem (task_of gs) (suc (length F.rows)) jobs i) (inn : In i t.items) where
    abbrev NewStands : Job → Type 0
    NewStands b = AllStand later (missed_first C L G b) (wants C t (task_of gs b))

    first_stand : (m : Instance) (e : ℕ) → In m ms → In e (body C m.body).entries → x.job ≡ Does m.key e 0 → NewStands (Does m.key e 0)
    first_stand m e im ie q =
        let g = new_stays C I L es F w n t G P m im in
        subst (λ (l : List (Want ℕ)). AllStand later l (wants C t (Item e (path_of gs m.key) 0))) (sym (ap (λ (y : Option Frame). elim y [ None ↦ [] | Some f ↦ flat_map (missed C G.cells (slot_for L gs m.key f.body)) (entry C e).needs ]) g.1))
        (needs_stand C I L es F w n t G P e (path_of gs m.key) (slot_for L gs m.key g.0.body) (res g.0 g.1) (entry C e).needs (λ m g. g))
      where
        path : path_of gs m.key ≡ m.path
        path = made_path C I L es F w n t G P m im

        task : i.task ≡ Item e m.path 0
        task = x.task_is ∙ ap (task_of gs) q ∙ ap (λ (p : List Step). Item e p 0) path

        nf : (y : Name) → In y (entry C e).reads → (z : List Step) (v : Variable) → place_at C m.path y ≡ Datum z v → Free (code_system C) t (Datum z v) → ⊥
        nf y iy z v at f = read_used i inn e 0 m.path task y iy z v at f

        own : (y : Name) → In y (entry C e).reads → is_declared C m.body y ≡ true → Resolved C later (slot_for L (hs C I L es F w n t G P) m.key m.body y) (place_at C m.path y)
        own y iy h =
            let d = declared_of C m.body y.up y.owned h in
            let k = name_counted (own_name d.0) (names_in C (λ e. e.reads) m.body) (flat_in (λ e. (entry C e).reads) (body C m.body).entries e (own_name d.0) ie (subst (λ (z : Name). In z (entry C e).reads) d.2 iy)) in
            let lt = more (own_count C (λ e. e.reads) m.body d.0) (own_count C (λ e. e.writes) m.body d.0) k in
            let c = P.to.cells.new m d.0 im d.1 lt in
            to_datum c.key m.path d.0 (ap (λ (z : Name). slot_for L (hs C I L es F w n t G P) m.key m.body z) d.2 ∙ c.leads) (ap (place_at C m.path) d.2 ∙ declared_at C m.path d.0) (own_name_later c.key m d.0 im (record { declared = d.1; named = lt; leads = c.leads }))
          where
            more : (a b : ℕ) → 0 < a → 0 < a + b
            more a b h = omega arith

            own_name_later : (d : ℕ) (m : Instance) (v : Variable) → In m ms → IsOwn C L (hs C I L es F w n t G P) m v d → In (d, Datum m.path v) later
            own_name_later d m v i o = own_in C I L es F w n t G P d m v i o

        res : (g : Frame) → slot_at gs m.key ≡ Some g → (y : Name) → In y (entry C e).reads → Resolved C later (slot_for L gs m.key g.body y) (place_at C (path_of gs m.key) y)
        res g h y iy =
            resolved_at C later (slot_for L (hs C I L es F w n t G P) m.key m.body y) (slot_for L gs m.key g.body y) (place_at C m.path y) (place_at C (path_of gs m.key) y)
            (sym (new_slot C I L es F w n t G P m im g y h))
            (ap (λ (p : List Step). place_at C p y) (sym path))
            (elim (outer_reads C I L es F w n t G P m im e ie y iy) [ inl d ↦ own y iy d | inr z ↦ later_name (slot_for L (hs C I L es F w n t G P) m.key m.body y) (place_at C m.path y) (λ q v at f. nf y iy q v at f) z ])

    rest_stand : (k e c : ℕ) → P.row.job ≡ Does k e c → 0 < length (os C I L es F w n t G P) → x.job ≡ Does k e (suc c) → NewStands (Does k e (suc c))
    rest_stand k e c q some jq =
        subst (λ (l : List (Want Place)). AllStand later [] l) (sym (ap (λ (p : List Step). wants C t (Item e p c)) path ∙ none_later C I L es F w n t G P e (path_of fs k) (job_slot C L fs (Does k e c)) (own_reads C I L es F w n t G P k e c q) (λ y iy z v at f. read_used i inn e (suc c) (path_of fs k) task y iy z v at f) none)) tt
      where
        path : path_of gs k ≡ path_of fs k
        path =
            let f = own_frame C I L es F w n t G P k e c q in
            let g = home_stays C I L es F w n t G P k e c q some in
            old_path C I L es F w n t G P k f.0 g.0 f.1 g.1

        task : i.task ≡ Item e (path_of fs k) (suc c)
        task = x.task_is ∙ ap (task_of gs) jq ∙ ap (λ (p : List Step). Item e p (suc c)) path

        none : wants C P.x.state (Item e (path_of fs k) c) ≡ []
        none = ap (wants C P.x.state) (sym (own_task C I L es F w n t G P ∙ ap (task_of fs) q)) ∙ own_enabled

    pub new_stand : NewStands x.job
    new_stand =
        elim (new_job_is C I L es F w n t G P x.job x.job_in).is [
          | inl u ↦ subst (λ (b : Job). NewStands b) (sym u.4) (first_stand u.0 u.1 u.2 u.3 u.4)
          | inr u ↦ subst (λ (b : Job). NewStands b) (sym u.4) (rest_stand u.0 u.1 u.2 u.3 u.5 u.4)
        ]

  -- waiters afterwards
  pub waits_after : WaitsStand C G t later
  waits_after = record { waits = waits; missing = missing; once = P.to.waits.once }
    where
      waits : (i : CodeItem) → In i t.items → (wants C t i.task ≡ [] → ⊥) → (v : Waiter) × In v G.waiting × (v.item ≡ i.number)
      waits i h ne = elim (item_split i h) [ inl g ↦ old g | inr x ↦ new x ]
        where
          old : In i others → (v : Waiter) × In v G.waiting × (v.item ≡ i.number)
          old g =
              let v = P.x.waits.waits i (was_item i g) (λ z. ne (none_stays i g z)) in
              let m = P.x.waits.missing v.0 v.1 in
              let same : m.0 ≡ i = one_number P.x.state.items m.0 i (numbers C I L es F w n t G P).once m.1 (was_item i g) (m.2 ∙ v.2) in
              let st = waiter_again i g v.0 v.2 m.3 (subst (λ (k : CodeItem). AllStand names v.0.missing (wants C P.x.state k.task)) same m.4) in
              (record { item = v.0.item; missing = missed_again C L G rows P.to.known v.0 }, P.to.waits.old v.0 v.1 (λ z. ne (none_left later (wants C t i.task) (subst (λ (l : List (Want ℕ)). AllStand later l (wants C t i.task)) z st))), v.2)

          new : NewItem (task_of gs) (suc (length F.rows)) jobs i → (v : Waiter) × In v G.waiting × (v.item ≡ i.number)
          new x =
              let st = new_stand i x h in
              let number : i.number ≡ length F.rows + suc x.at = (let e = x.number_is in omega arith) in
              let at : row_of rows i.number ≡ Some (new_row x.job) = ap (row_of rows) number ∙ row_of_new F.rows jobs x.at ∙ x.there in
              (record { item = i.number; missing = missed_first C L G x.job }, P.to.waits.new i.number (new_row x.job) (omega arith) at (λ z. ne (ap (wants C t) x.task_is ∙ none_left later (wants C t (task_of gs x.job)) (subst (λ (l : List (Want ℕ)). AllStand later l (wants C t (task_of gs x.job))) z st))), refl)

      missing : (v : Waiter) → In v G.waiting → (i : CodeItem) × In i t.items × (i.number ≡ v.item) × (v.missing ≡ [] → ⊥) × AllStand later v.missing (wants C t i.task)
      missing v h =
          let p = P.to.waits.only v h in
          elim p.1 [ inl q ↦ old q.0 q.1 q.2 q.3 p.0 | inr q ↦ new q.0 q.1 q.2 q.3 p.0 ]
        where
          old : (u : Waiter) → In u F.waiting → u.item ≡ v.item → v.missing ≡ missed_again C L G rows P.to.known u → (v.missing ≡ [] → ⊥) → (i : CodeItem) × In i t.items × (i.number ≡ v.item) × (v.missing ≡ [] → ⊥) × AllStand later v.missing (wants C t i.task)
          old u iu e z ne =
              let m = P.x.waits.missing u iu in
              elim (in_seam m.0 (o C I L es F w n t G P).item (o C I L es F w n t G P).before (o C I L es F w n t G P).after (subst (λ (is : List CodeItem). In m.0 is) (o C I L es F w n t G P).there m.1)) [
                | inl g ↦ (m.0, old_item_in m.0 g, m.2 ∙ e, ne, subst (λ (l : List (Want ℕ)). AllStand later l (wants C t m.0.task)) (sym z) (waiter_again m.0 g u (sym m.2) m.3 m.4))
                | inr same ↦ absurd (m.3 (left_none names u.missing (subst (λ (l : List (Want Place)). AllStand names u.missing l) (ap (λ (k : CodeItem). wants C P.x.state k.task) same ∙ own_enabled) m.4)))
              ]

          new : (r : Row) → length F.rows < v.item → row_of rows v.item ≡ Some r → v.missing ≡ missed_first C L G r.job → (v.missing ≡ [] → ⊥) → (i : CodeItem) × In i t.items × (i.number ≡ v.item) × (v.missing ≡ [] → ⊥) × AllStand later v.missing (wants C t i.task)
          new r lt at z ne =
              let p = row_split_at F.rows jobs v.item r lt at in
              let y = new_item_in p.0 v.item r p.2 (let e = p.1 in omega arith) in
              let number : v.item ≡ suc (length F.rows) + p.0 = (let e = p.1 in omega arith) in
              let rj : new_row r.job ≡ r = new_is jobs p.0 r p.2 in
              let st = new_stand (record { number = v.item; task = task_of gs r.job; runs = None }) (record { at = p.0; job = r.job; there = p.2 ∙ ap Some (sym rj); number_is = number; task_is = refl; job_in = y.1; idle = refl }) y.0 in
              (record { number = v.item; task = task_of gs r.job; runs = None }, y.0, refl, ne, subst (λ (l : List (Want ℕ)). AllStand later l (wants C t (task_of gs r.job))) (sym z) st)
            where
              new_is : (js : List Job) (k : ℕ) (r : Row) → row_of (map new_row js) (suc k) ≡ Some r → new_row r.job ≡ r
              new_is [] k r h = none_some h
              new_is (b ∷ js) zero r h = let e : new_row b ≡ r = some_same h in ap (λ (y : Row). new_row y.job) (sym e) ∙ e
              new_is (b ∷ js) (suc k) r h = new_is js k r h
