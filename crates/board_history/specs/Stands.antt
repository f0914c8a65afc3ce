-- The relation between the fields of a fast board and the state that its history leads to.
use Rattle.std.specs.Ordering.{int_eq}
use Rattle.std.specs.Prelude.{◌≡◌, ℕ, zero, suc, ◌+◌, ◌<◌, Bool, true, false, List, [], ◌∷◌, ◌++◌, map, length, Option, Some, None, ℤ, pos, if◌then◌else◌}
use Rattle.std.specs.List.{flat_map}
use Rattle.dataflow.specs.System.{Answer, ClosedArray, Distinct, ElementAt, ElementOf, In, Input, StoredScalar}
use Rattle.dataflow.specs.Machine.{Event, Holds}
use Rattle.dataflow.specs.Events.{NewlyAt}
use Rattle.dataflow.specs.Names.{IsNaming}
use Rattle.board_history.specs.Replay.{answers, is_closed, value_at}
use Rattle.board_history.specs.CodeReplay.{replayed}
use Rattle.board_history.specs.Counts.{readers, writers}
use Rattle.board_history.specs.Elements.{code_tests}
use Rattle.board_history.specs.Static.{computed_by}
use Rattle.board_history.specs.Fields.{AnElement, Content, Counted, DatumOf, Does, Fields, Frame, Holding, Layout, LiteralOf, Mapping, Over, Ready, Row, Script, Slot, Unset, Waiter, Waiting, Want, Whole, frames_in, items_from, literal, path_of, row_of, rows_in, running_in, slot_at, slot_for, task_of}
use Rattle.task_code.specs.Code.{Code, Control, Kind, Leaf, Name, body, entry}
use Rattle.task_code.specs.Compute.{Elements, key_of}
use Rattle.task_code.specs.Effects.{Item, Main, Task, left_at, only, turns_of}
use Rattle.task_code.specs.Machine.{CodeItem, CodeState, Enabled}
use Rattle.task_code.specs.Places.{Constant, Datum, Nowhere, Place, Step, place_array, place_at}
use Rattle.task_code.specs.System.{code_system, task_inputs, task_kind, task_priority}
use Rattle.values.specs.Keys.{hash_of}
use Rattle.values.specs.declared.key.Key.{Key}
use Rattle.values.specs.declared.value.Scalar.{Scalar}

-- the inputs that are missing now: for an element at a scalar's value, the scalar is missing first
abbrev pub scalar_wanted : {D : Type 0} → Option Scalar → D → List (Want D)
scalar_wanted (Some v) d = []
scalar_wanted None d = Whole d ∷ []

abbrev pub array_wanted : {D : Type 0} → Bool → D → List (Want D)
array_wanted true a = []
array_wanted false a = Whole a ∷ []

abbrev pub element_wanted : {D : Type 0} → Option Scalar → Bool → D → (hash : ℕ) → List (Want D)
element_wanted (Some v) closed a m = []
element_wanted None true a m = []
element_wanted None false a m = AnElement a m ∷ []

-- an input by the key of a datum corresponds to the input by its place, and lists of inputs correspond in order
abbrev pub WantStands : List (ℕ × Place) → Want ℕ → Want Place → Type 0
WantStands names (Whole d) (Whole a) = In (d, a) names
WantStands names (AnElement d k) (AnElement a l) = In (d, a) names × (k ≡ l)
WantStands names _ _ = ⊥

abbrev pub AllStand : List (ℕ × Place) → List (Want ℕ) → List (Want Place) → Type 0
AllStand names [] [] = Unit {0}
AllStand names (v ∷ vs) (w ∷ ws) = WantStands names v w × AllStand names vs ws
AllStand names _ _ = ⊥

module _ (C : Code) where
  abbrev pub keyed_wanted : CodeState → Place → Place → Option Scalar → List (Want Place)
  keyed_wanted s a d None = Whole d ∷ []
  keyed_wanted s a d (Some v) = element_wanted (value_at (code_system C) code_tests s.stored a (key_of v)) (is_closed (code_system C) code_tests s a) a (hash_of (key_of v))

  abbrev pub wanted : CodeState → Input Place Key → List (Want Place)
  wanted s (StoredScalar d) = scalar_wanted (value_at (code_system C) code_tests s.stored d only) d
  wanted s (ClosedArray a) = array_wanted (is_closed (code_system C) code_tests s a) a
  wanted s (ElementOf a k) = element_wanted (value_at (code_system C) code_tests s.stored a k) (is_closed (code_system C) code_tests s a) a (hash_of k)
  wanted s (ElementAt a d) = keyed_wanted s a d (value_at (code_system C) code_tests s.stored d only)

  -- all missing inputs of a task, in the order of its inputs
  abbrev pub wants : CodeState → Task → List (Want Place)
  wants s t = flat_map (wanted s) (task_inputs C t)

  -- the remaining turns of an item that continues a loop: those from its chunk on, of all that its entry computes
  abbrev pub turns_left : Task → Option (List (Answer Key Scalar)) → Option Elements
  turns_left Main r = None
  turns_left (Item e p zero) r = None
  turns_left (Item e p (suc c)) None = None
  turns_left (Item e p (suc c)) (Some xs) = Some (left_at (suc c) (turns_of (computed_by C (Item e p (suc c)) xs)))

  abbrev pub kept_turns : CodeState → Task → Option Elements
  kept_turns s t = turns_left t (answers (code_system C) code_tests s (task_inputs C t))

  -- a slot corresponds to a place: its datum while that exists, or its literal
  abbrev pub SlotStands : CodeState → List (ℕ × Place) → Slot → Place → Type 0
  SlotStands s names x (Datum p v) = In (Datum p v) s.places → (d : ℕ) × (x ≡ DatumOf d) × In (d, Datum p v) names
  SlotStands s names x (Constant v) = (e : ℕ) × (k : ℕ) × (x ≡ LiteralOf e k) × (literal C e k ≡ Some v)
  SlotStands s names x Nowhere = Unit {0}

  -- the stored content
  abbrev pub ContentStands : CodeState → Place → Bool → Content → Type 0
  ContentStands s a false Unset = (v : Scalar) → Holds (code_system C) s a only v → ⊥
  ContentStands s a false (Holding v) = Holds (code_system C) s a only v
  ContentStands s a false (Mapping xs) = ⊥
  ContentStands s a true (Mapping xs) = ((k : Key) (v : Scalar) → Holds (code_system C) s a k v → In (k, v) xs) × ((k : Key) (v : Scalar) → In (k, v) xs → Holds (code_system C) s a k v)
  ContentStands s a true Unset = ⊥
  ContentStands s a true (Holding v) = ⊥

  -- items by number: rows that are over are not items, ready ones are enabled, waiting ones are not
  pub record ItemsStand (F : Fields) (s : CodeState) : Type 0 where
    pub items : items_from F.frames 1 F.rows ≡ s.items
    pub next : s.next ≡ suc (length F.rows)
    pub ready : (n : ℕ) (r : Row) → row_of F.rows n ≡ Some r → r.status ≡ Ready → Enabled C s (task_of F.frames r.job)
    pub waiting : (n : ℕ) (r : Row) → row_of F.rows n ≡ Some r → r.status ≡ Waiting → Enabled C s (task_of F.frames r.job) → ⊥
    pub running : F.running ≡ running_in F.rows

  -- instances: that of each item exists, levels rise by one, and an instance is kept as long as it has an item or an
  -- instance inside
  pub record FramesStand (L : Layout) (F : Fields) (s : CodeState) (names : List (ℕ × Place)) : Type 0 where
    pub there : (n k e c : ℕ) (r : Row) → row_of F.rows n ≡ Some r → r.job ≡ Does k e c → (r.status ≡ Over → ⊥) → (f : Frame) × (slot_at F.frames k ≡ Some f) × In e (body C f.body).entries
    pub outermost : (k : ℕ) (f : Frame) → slot_at F.frames k ≡ Some f → f.parent ≡ None → (f.level ≡ 0) × (f.way ≡ None) × (f.body ≡ 0)
    pub inside : (k j : ℕ) (f : Frame) → slot_at F.frames k ≡ Some f → f.parent ≡ Some j → (g : Frame) × (slot_at F.frames j ≡ Some g) × (f.level ≡ suc g.level)
    pub depth : (k : ℕ) (f : Frame) → slot_at F.frames k ≡ Some f → f.depth ≡ length (path_of F.frames k)
    pub live : (k : ℕ) (f : Frame) → slot_at F.frames k ≡ Some f → f.live ≡ rows_in k F.rows + frames_in k F.frames
    pub kept : (k : ℕ) (f : Frame) → slot_at F.frames k ≡ Some f → 0 < f.live
    -- each name to which an item has a right resolves to its place
    pub reads : (n k e c : ℕ) (r : Row) (f : Frame) → row_of F.rows n ≡ Some r → r.job ≡ Does k e c → (r.status ≡ Over → ⊥) → slot_at F.frames k ≡ Some f → (x : Name) → In x (entry C e).reads → SlotStands s names (slot_for L F.frames k f.body x) (place_at C (path_of F.frames k) x)
    pub writes : (n k e c : ℕ) (r : Row) (f : Frame) → row_of F.rows n ≡ Some r → r.job ≡ Does k e c → (r.status ≡ Over → ⊥) → slot_at F.frames k ≡ Some f → (x : Name) → In x (entry C e).writes → SlotStands s names (slot_for L F.frames k f.body x) (place_at C (path_of F.frames k) x)

  -- a datum: both counts are sums over the items
  pub record CellStands (s : CodeState) (a : Place) (c : Counted) : Type 0 where
    pub reads : c.reads ≡ readers (code_system C) code_tests s a
    pub writes : c.writes ≡ writers (code_system C) code_tests s a
    pub content : ContentStands s a (place_array a) c.content

  -- data: the keys of the slab name the existing places
  pub record DataStand (F : Fields) (s : CodeState) (names : List (ℕ × Place)) : Type 0 where
    pub naming : IsNaming (code_system C) ℕ names s.places
    pub there : (d : ℕ) (a : Place) → In (d, a) names → (c : Counted) × (slot_at F.cells d ≡ Some c) × CellStands s a c
    pub only : (d : ℕ) (c : Counted) → slot_at F.cells d ≡ Some c → (a : Place) × In (d, a) names

  -- waiting items: an item with missing inputs waits, once, for exactly these, and no other item waits
  pub record WaitsStand (F : Fields) (s : CodeState) (names : List (ℕ × Place)) : Type 0 where
    pub waits : (i : CodeItem) → In i s.items → (wants s i.task ≡ [] → ⊥) → (w : Waiter) × In w F.waiting × (w.item ≡ i.number)
    pub missing : (w : Waiter) → In w F.waiting → (i : CodeItem) × In i s.items × (i.number ≡ w.item) × (w.missing ≡ [] → ⊥) × AllStand names w.missing (wants s i.task)
    pub once : Distinct (map (λ (w : Waiter). w.item) F.waiting)

  -- loops: an item that continues one is enabled and keeps the remaining turns, and no other item keeps any
  pub record TurnsStand (F : Fields) (s : CodeState) : Type 0 where
    pub kept : (i : CodeItem) → In i s.items → F.turns i.number ≡ kept_turns s i.task
    pub going : (i : CodeItem) → In i s.items → (e c : ℕ) (p : List Step) → i.task ≡ Item e p (suc c) → Enabled C s i.task

  -- an item that may begin, of this kind and priority
  pub record Queued (s : CodeState) (kind : Kind) (priority : ℤ) (number : ℕ) : Type 0 where
    pub item : CodeItem
    pub there : In item s.items
    pub number_is : item.number ≡ number
    pub idle : item.runs ≡ None
    pub enabled : Enabled C s item.task
    pub kind_is : task_kind C item.task ≡ kind
    pub priority_is : task_priority C item.task ≡ priority

  -- the queue has exactly these
  pub record QueueStands (F : Fields) (s : CodeState) : Type 0 where
    pub all : (k : Kind) (z : ℤ) (n : ℕ) → Queued s k z n → In n (F.queue k z)
    pub only : (k : Kind) (z : ℤ) (n : ℕ) → In n (F.queue k z) → Queued s k z n
    pub once : (k : Kind) (z : ℤ) → Distinct (F.queue k z)

  -- the fields stand for the state that the history leads to
  pub record Stands (L : Layout) (events : List Event) (F : Fields) : Type 0 where
    pub state : CodeState
    pub reached : replayed C events ≡ Some state
    pub names : List (ℕ × Place)
    pub items : ItemsStand F state
    pub frames : FramesStand L F state names
    pub data_stand : DataStand F state names
    pub waits : WaitsStand F state names
    pub turns : TurnsStand F state
    pub queue : QueueStands F state
    pub lines : F.lines ≡ state.lines
    pub fault : F.fault ≡ state.fault
    pub newly : (before : List Event) (e : Event) (old : CodeState) → events ≡ before ++ e ∷ [] → replayed C before ≡ Some old → NewlyAt (code_system C) old state F.newly

-- the fields of a new board: item 1 is ready, and there is nothing else
abbrev pub first_queue : Kind → ℤ → List ℕ
first_queue Control z = if int_eq (pos 0) z then 1 ∷ [] else []
first_queue Leaf z = []

abbrev pub first_fields : Fields
first_fields = record { frames = []; rows = record { job = Script; status = Ready } ∷ []; cells = []; waiting = []; turns = λ n. None; queue = first_queue; lines = []; fault = None; running = 0; newly = [] }
