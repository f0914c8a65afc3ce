-- The fields of a board after an End without fault.
use Rattle.std.specs.Prelude.{◌≡◌, ◌⊎◌, ℕ, ℤ, pos, zero, suc, ◌+◌, ◌-◌, ◌<◌, Bool, true, false, ◌||◌, List, [], ◌∷◌, ◌++◌, map, length, drop, Option, Some, None, nat_eq, if◌then◌else◌}
use Rattle.std.specs.List.{flat_map, filter}
use Rattle.dataflow.specs.System.{Answer, Distinct, Effect, Good, In, Opening, System, tasks_of}
use Rattle.dataflow.specs.Machine.{Item, Leaves, SeesAll, State, ended, new_items}
use Rattle.board_history.specs.Fields.{Absent, AnElement, Content, Counted, DatumOf, Does, Fields, Frame, Holding, Job, Layout, LiteralOf, Mapping, Status, Over, Ready, Row, Script, Slot, Unset, Waiter, Waiting, Want, Whole, level_of, path_of, row_of, slot_at, slot_for, step_before, task_of}
use Rattle.board_history.specs.Needs.{is_array_content, is_known, job_missed, still_missed}
use Rattle.board_history.specs.Static.{Hold, names_in, opened, outer_holds, own_count, rests}
use Rattle.task_code.specs.Code.{Calling, Code, Control, Entry, Fixed, Kind, Loop, Name, Parameter, Variable, Way, argument, body, entry, here, kind_of, loop_of, scalar, stored_of, ways}
use Rattle.task_code.specs.Compute.{Computed, Elements, Fails, Gives, Inserts, Opens, Takes, Turns, key_scalar}
use Rattle.task_code.specs.Effects.{Task, chunk, is_some_list, only, prints, step_at, turns_of}
use Rattle.task_code.specs.Places.{Place, Step, variable_eq}
use Rattle.task_code.specs.Whole.{Declared, Seen}
use Rattle.values.specs.Keys.{hash_of}
use Rattle.values.specs.declared.key.Key.{Key}
use Rattle.values.specs.declared.value.Scalar.{Scalar}
use Rattle.values.specs.Limits.{chunk_size}

-- the number is in the list
abbrev pub is_one : ℕ → List ℕ → Bool
is_one n [] = false
is_one n (m ∷ ms) = nat_eq n m || is_one n ms

-- the status of a row afterwards: the item's own is over, and the newly enabled ones are ready
abbrev pub status_after : (number : ℕ) → (newly : List ℕ) → ℕ → Status → Status
status_after n newly k m = if nat_eq k n then Over else (if is_one k newly then Ready else m)

-- the rows from a number on, with other marks
abbrev pub with_statuses : (ℕ → Status → Status) → ℕ → List Row → List Row
with_statuses f k [] = []
with_statuses f k (r ∷ rs) = record { job = r.job; status = f k r.status } ∷ with_statuses f (suc k) rs

-- the row of a new item
abbrev pub new_row : Job → Row
new_row j = record { job = j; status = Waiting }

-- all rows afterwards: those of new items follow the old ones
abbrev pub ended_rows : List Row → (number : ℕ) → (newly : List ℕ) → List Job → List Row
ended_rows rows n newly jobs = with_statuses (status_after n newly) 1 (rows ++ map new_row jobs)

-- with other instances, the other items have the same tasks, and the new jobs are the opened tasks, in order
pub record TasksStay (fs gs : List (Option Frame)) (rows : List Row) (number : ℕ) (jobs : List Job) (tasks : List Task) : Type 0 where
  pub others : (m : ℕ) (r : Row) → row_of rows m ≡ Some r → (r.status ≡ Over → ⊥) → (m ≡ number → ⊥) → task_of gs r.job ≡ task_of fs r.job
  pub opened : map (task_of gs) jobs ≡ tasks

module _ {T D K V E : Type 0} (S : System T D K V E) where
  -- the item that ran on the worker is removed and its lines are printed; the items that it opens follow the others,
  -- with the next numbers; only free data are removed
  pub record OpensItems (s : State T D K V E) (worker number : ℕ) (t : State T D K V E) : Type 0 where
    pub before : List (Item T)
    pub item : Item T
    pub after : List (Item T)
    pub number_is : item.number ≡ number
    pub there : s.items ≡ before ++ item ∷ after
    pub runs : item.runs ≡ Some worker
    pub answers : List (Answer K V)
    pub known : SeesAll S s (S.inputs item.task) answers
    pub effect : Effect T D K V
    pub is : S.effect item.task answers ≡ Good effect
    pub items : t.items ≡ (before ++ after) ++ new_items s.next (tasks_of effect.opens)
    pub next : t.next ≡ s.next + length (tasks_of effect.opens)
    pub lines : t.lines ≡ s.lines ++ effect.lines
    pub left : Leaves S (ended S s (before ++ after) effect) t

-- the value under one key of a slab is this, and nothing else has changed
pub record Sets {X : Type 0} (fs : List (Option X)) (key : ℕ) (value : Option X) (gs : List (Option X)) : Type 0 where
  pub here : slot_at gs key ≡ value
  pub others : (k : ℕ) → (k ≡ key → ⊥) → slot_at gs k ≡ slot_at fs k

-- the same value under every key
abbrev pub SameSlots : {X : Type 0} → List (Option X) → List (Option X) → Type 0
SameSlots fs gs = (k : ℕ) → slot_at gs k ≡ slot_at fs k

-- a new instance: its key, its body and its path
pub record Instance : Type 0 where
  pub key : ℕ
  pub body : ℕ
  pub path : List Step

-- the instance of a job
abbrev pub home : Job → Option ℕ
home Script = None
home (Does k e c) = Some k

abbrev pub is_home : Option ℕ → ℕ → Bool
is_home None k = false
is_home (Some j) k = nat_eq j k

-- the path and the level inside an instance, if there is one around
abbrev pub path_around : List (Option Frame) → Option ℕ → List Step
path_around fs None = []
path_around fs (Some k) = path_of fs k

abbrev pub level_inside : List (Option Frame) → Option ℕ → ℕ
level_inside fs None = 0
level_inside fs (Some k) = suc (level_of (slot_at fs k))

-- the instance with this live count
abbrev pub with_live : ℕ → Frame → Frame
with_live n f = record { parent = f.parent; level = f.level; depth = f.depth; way = f.way; body = f.body; live = n; slots = f.slots }

-- the live count of an instance is one less; an instance without live children is removed, which repeats outwards
pub data TakenOff (gs : List (Option Frame)) : List (Option Frame) → Option ℕ → Type 0 where
  outside : (fs : List (Option Frame)) (at : Option ℕ) → at ≡ None → SameSlots fs gs → TakenOff gs fs at
  stays : (fs : List (Option Frame)) (at : Option ℕ) (k n : ℕ) (f : Frame) → at ≡ Some k → slot_at fs k ≡ Some f → f.live ≡ suc (suc n) → Sets fs k (Some (with_live (suc n) f)) gs → TakenOff gs fs at
  goes : (fs hs : List (Option Frame)) (at : Option ℕ) (k : ℕ) (f : Frame) → at ≡ Some k → slot_at fs k ≡ Some f → f.live ≡ 1 → Sets fs k None hs → TakenOff gs hs f.parent → TakenOff gs fs at

-- a datum with its counts, which is removed if both are 0
abbrev pub kept_cell : (reads writes : ℕ) → Content → Option Counted
kept_cell r w c = if nat_eq (r + w) 0 then None else Some (record { reads = r; writes = w; content = c })

-- a slot has the datum
abbrev pub slot_is : ℕ → Slot → Bool
slot_is d Absent = false
slot_is d (DatumOf e) = nat_eq d e
slot_is d (LiteralOf e k) = false

-- the number of names with this datum, and the number of holds on it
abbrev pub named_times : (Name → Slot) → ℕ → List Name → ℕ
named_times f d [] = 0
named_times f d (r ∷ rs) = (if slot_is d (f r) then 1 else 0) + named_times f d rs

abbrev pub held_times : (Name → Slot) → ℕ → List Hold → ℕ
held_times f d [] = 0
held_times f d (h ∷ hs) = (if slot_is d (f h.name) then h.count else 0) + held_times f d hs

-- the values that an item stores, and their target: elements, or a scalar under the one key of scalars
abbrev pub stored_values : Computed → Elements
stored_values (Fails f) = []
stored_values (Gives v) = (only, v) ∷ []
stored_values (Inserts xs) = xs
stored_values (Takes b) = []
stored_values (Turns ts) = []
stored_values Opens = []

abbrev pub stored_by : (Name → Slot) → Computed → ℕ → List Name → Elements
stored_by f x d rs = flat_map (λ r. if slot_is d (f r) then stored_values x else []) rs

-- the content of a datum after these values are stored
abbrev pub ContentAfter : Content → Elements → Content → Type 0
ContentAfter Unset [] c = c ≡ Unset
ContentAfter Unset (x ∷ xs) c = c ≡ Holding x.1
ContentAfter (Holding v) xs c = c ≡ Holding v
ContentAfter (Mapping ys) xs c = (zs : Elements) × (c ≡ Mapping zs) × ((p : Key × Scalar) → In p zs → In p ys ⊎ In p xs) × ((p : Key × Scalar) → In p ys ⊎ In p xs → In p zs)

-- nothing is stored yet
abbrev pub empty_content : Bool → Content
empty_content false = Unset
empty_content true = Mapping []

-- the initial content of a variable of a loop's turn
abbrev pub turn_content : Loop → Key × Scalar → Variable → Content
turn_content w t v = if variable_eq v (scalar w.value) then Holding t.1 else elim w.turn [ None ↦ empty_content v.array | Some n ↦ if variable_eq v (scalar n) then Holding (key_scalar t.0) else empty_content v.array ]

-- the first list, or the second if the first is empty
abbrev pub or_else : {X : Type 0} → List X → List X → List X
or_else [] ys = ys
or_else (x ∷ xs) ys = x ∷ xs

-- the turns that remain
abbrev pub turns_after : Computed → (chunk : ℕ) → Option Elements → Option Elements
turns_after x zero kept = Some (drop chunk_size (turns_of x))
turns_after x (suc c) None = None
turns_after x (suc c) (Some ts) = Some (drop chunk_size ts)

-- the turns that a new item keeps
abbrev pub turns_of_new : Computed → Option Elements → Job → Option Elements
turns_of_new x kept Script = None
turns_of_new x kept (Does k e zero) = None
turns_of_new x kept (Does k e (suc c)) = turns_after x c kept

-- the job of the item for the rest of a loop
abbrev pub rest_jobs : Job → List (Opening Task Place) → List Job
rest_jobs Script os = []
rest_jobs (Does k e c) os = map (λ o. Does k e (suc c)) os

-- the item leaves its instance, unless another continues its loop
abbrev pub leaving : Job → List (Opening Task Place) → Option ℕ
leaving j [] = home j
leaving j (o ∷ os) = None

-- the initial content: a loop gives its turn's variables their values
abbrev pub StartsBy : List Step → (offset chunk : ℕ) → Computed → Instance → Variable → Content → Option Loop → Type 0
StartsBy p offset n x m v c None = c ≡ empty_content v.array
StartsBy p offset n x m v c (Some w) = (t : Key × Scalar) × In t (chunk n (turns_of x)) × (m.path ≡ step_at offset t.0 p) × (c ≡ turn_content w t v)

-- the newly enabled items: the rows that waited or are new, and have no missing input now
pub record NewlyAfter (G : Fields) (rows : List Row) : Type 0 where
  pub once : Distinct G.newly
  pub all : (m : ℕ) (r : Row) → row_of rows m ≡ Some r → r.status ≡ Waiting → ((w : Waiter) → In w G.waiting → w.item ≡ m → ⊥) → In m G.newly
  pub only : (m : ℕ) → In m G.newly → (r : Row) × (row_of rows m ≡ Some r) × (r.status ≡ Waiting) × ((w : Waiter) → In w G.waiting → w.item ≡ m → ⊥)

-- the item for the rest of a loop keeps the remaining turns; the other items keep theirs
pub record TurnsAfter (F G : Fields) (n : ℕ) (x : Computed) (rows : List Row) : Type 0 where
  pub others : (m : ℕ) (r : Row) → row_of F.rows m ≡ Some r → (r.status ≡ Over → ⊥) → (m ≡ n → ⊥) → G.turns m ≡ F.turns m
  pub new : (m : ℕ) (r : Row) → length F.rows < m → row_of rows m ≡ Some r → G.turns m ≡ turns_of_new x (F.turns n) r.job

-- the kind of a job, and its priority
module _ (C : Code) where
  abbrev pub job_kind : Job → Kind
  job_kind Script = Control
  job_kind (Does k e c) = kind_of (entry C e).act

  abbrev pub job_priority : Job → ℤ
  job_priority Script = pos 0
  job_priority (Does k e c) = (entry C e).priority

  -- a block that has entries
  abbrev pub has_entries : ℕ × List Step → Bool
  has_entries s = is_some_list (body C s.0).entries

  -- the new instances: one for each block with entries that the end of the task opens, in order
  abbrev pub AreMade : List Instance → Task → Computed → Type 0
  AreMade made t x = map (λ (m : Instance). (m.body, m.path)) made ≡ filter has_entries (opened C t x)

  -- the jobs of their items
  abbrev pub made_jobs : List Instance → List Job
  made_jobs made = flat_map (λ (m : Instance). map (λ e. Does m.key e 0) (body C m.body).entries) made

  -- a new instance, nested in the item's own
  pub record NewFrame (fs : List (Option Frame)) (around : Option ℕ) (m : Instance) (f : Frame) : Type 0 where
    pub parent : f.parent ≡ around
    pub level : f.level ≡ level_inside fs around
    pub way : step_before f.way (path_around fs around) ≡ m.path
    pub depth : f.depth ≡ length m.path
    pub body_is : f.body ≡ m.body
    pub live : f.live ≡ length (body C m.body).entries

  -- the instances afterwards, before the item leaves its own: new ones have new keys, and the live count of the one
  -- around has grown by their number
  pub record FramesOpen (fs : List (Option Frame)) (around : Option ℕ) (made : List Instance) (gs : List (Option Frame)) : Type 0 where
    pub fresh : (m : Instance) → In m made → slot_at fs m.key ≡ None
    pub keys : Distinct (map (λ (m : Instance). m.key) made)
    pub new : (m : Instance) → In m made → (f : Frame) × (slot_at gs m.key ≡ Some f) × NewFrame fs around m f
    pub old : (k : ℕ) (f : Frame) → slot_at fs k ≡ Some f → slot_at gs k ≡ Some (with_live (f.live + (if is_home around k then length made else 0)) f)
    pub only : (k : ℕ) (g : Frame) → slot_at gs k ≡ Some g → ((f : Frame) × (slot_at fs k ≡ Some f)) ⊎ ((m : Instance) × In m made × (m.key ≡ k))

  -- the queue: the numbers that were in it, and the newly enabled ones, each in the part of its row's kind and priority
  pub record QueueAfter (F G : Fields) : Type 0 where
    pub kept : (k : Kind) (z : ℤ) (m : ℕ) → In m (F.queue k z) → In m (G.queue k z)
    pub added : (m : ℕ) (r : Row) → row_of G.rows m ≡ Some r → In m G.newly → In m (G.queue (job_kind r.job) (job_priority r.job))
    pub only : (k : Kind) (z : ℤ) (m : ℕ) → In m (G.queue k z) → In m (F.queue k z) ⊎ ((r : Row) × (row_of G.rows m ≡ Some r) × In m G.newly × (job_kind r.job ≡ k) × (job_priority r.job ≡ z))
    pub once : (k : Kind) (z : ℤ) → Distinct (G.queue k z)

  -- the names among the rights of a job
  abbrev pub job_names : (Entry → List Name) → Job → List Name
  job_names rights Script = []
  job_names rights (Does k e c) = rights (entry C e)

  -- the initial content
  abbrev pub StartsAs : List (Option Frame) → Job → Computed → Instance → Variable → Content → Type 0
  StartsAs fs Script x m v c = c ≡ empty_content v.array
  StartsAs fs (Does k e n) x m v c = StartsBy (path_of fs k) (entry C e).offset n x m v c (loop_of (entry C e).act)

  -- the jobs of all new items, and the printed lines
  abbrev pub jobs_after : List Instance → Job → List (Opening Task Place) → List Job
  jobs_after made j os = made_jobs made ++ rest_jobs j os

  abbrev pub printed : Job → Computed → List Scalar
  printed Script x = []
  printed (Does k e c) x = prints (entry C e).act x

  module _ (L : Layout) where
    -- the slots of the names of a job
    abbrev pub job_slot : List (Option Frame) → Job → Name → Slot
    job_slot fs Script r = Absent
    job_slot fs (Does k e c) r = elim (slot_at fs k) [ None ↦ Absent | Some f ↦ slot_for L fs k f.body r ]

    -- the names of a new instance's entries have the slots of the item's own names, or of a literal argument that the
    -- item passes
    pub record NamesLead (fs hs : List (Option Frame)) (k e c : ℕ) (m : Instance) : Type 0 where
      pub seen : (w : Way) (r s : Name) → In (w, m.body) (ways (entry C e).act) → In r (names_in C (λ x. x.reads ++ x.writes) m.body) → (Declared C m.body r → ⊥) → Seen C (entry C e).offset w r s → In s ((entry C e).reads ++ (entry C e).writes) → slot_for L hs m.key m.body r ≡ job_slot fs (Does k e c) s
      pub fixed : (n : ℕ) (b : Bool) (v : Scalar) → In (Calling, m.body) (ways (entry C e).act) → In (record { up = 0; owned = Parameter n b }) (names_in C (λ x. x.reads) m.body) → argument C (entry C e).offset n b ≡ Some (Fixed v) → slot_for L hs m.key m.body (record { up = 0; owned = Parameter n b }) ≡ LiteralOf e n

    -- the holds that the new instances add to the count of a datum, and those that the item gives up
    abbrev pub added_times : (Entry → List Name) → List (Option Frame) → ℕ → List Instance → ℕ
    added_times rights hs d [] = 0
    added_times rights hs d (m ∷ ms) = held_times (slot_for L hs m.key m.body) d (outer_holds C rights m.body) + added_times rights hs d ms

    abbrev pub given_times : (Entry → List Name) → List (Option Frame) → ℕ → Job → List (Opening Task Place) → ℕ
    given_times rights fs d j [] = named_times (job_slot fs j) d (job_names rights j)
    given_times rights fs d j (o ∷ os) = 0

    -- the values that an item stores in a datum
    abbrev pub job_stores : List (Option Frame) → Job → Computed → ℕ → Elements
    job_stores fs Script x d = []
    job_stores fs (Does k e c) x d = stored_by (job_slot fs (Does k e c)) x d (stored_of (entry C e).node (entry C e).act)

    -- a variable of a new instance with a new datum: some entry names it
    pub record IsOwn (hs : List (Option Frame)) (m : Instance) (v : Variable) (d : ℕ) : Type 0 where
      pub declared : In v (body C m.body).makes
      pub named : 0 < own_count C (λ e. e.reads) m.body v + own_count C (λ e. e.writes) m.body v
      pub leads : slot_for L hs m.key m.body (here v) ≡ DatumOf d

    -- a new datum: its key was not in use, and its counts are those of its body
    pub record NewCell (fs hs : List (Option Frame)) (j : Job) (x : Computed) (m : Instance) (v : Variable) (cs ds : List (Option Counted)) : Type 0 where
      pub key : ℕ
      pub leads : slot_for L hs m.key m.body (here v) ≡ DatumOf key
      pub fresh : slot_at cs key ≡ None
      pub content : Content
      pub starts : StartsAs fs j x m v content
      pub is : slot_at ds key ≡ Some (record { reads = own_count C (λ e. e.reads) m.body v; writes = own_count C (λ e. e.writes) m.body v; content = content })

    -- an old datum: it stores what the item stored, its counts gain the holds of new instances and lose those that the
    -- item gives up; it is removed if both are 0
    pub record CellAfter (fs hs : List (Option Frame)) (j : Job) (x : Computed) (made : List Instance) (os : List (Opening Task Place)) (d : ℕ) (c : Counted) (now : Option Counted) : Type 0 where
      pub reads : ℕ
      pub writes : ℕ
      pub content : Content
      pub reads_are : reads + given_times (λ e. e.reads) fs d j os ≡ c.reads + added_times (λ e. e.reads) hs d made
      pub writes_are : writes + given_times (λ e. e.writes) fs d j os ≡ c.writes + added_times (λ e. e.writes) hs d made
      pub stores : ContentAfter c.content (job_stores fs j x d) content
      pub is : now ≡ kept_cell reads writes content

    -- all data
    pub record CellsAfter (fs hs : List (Option Frame)) (j : Job) (x : Computed) (made : List Instance) (os : List (Opening Task Place)) (cs ds : List (Option Counted)) : Type 0 where
      pub old : (d : ℕ) (c : Counted) → slot_at cs d ≡ Some c → CellAfter fs hs j x made os d c (slot_at ds d)
      pub new : (m : Instance) (v : Variable) → In m made → In v (body C m.body).makes → 0 < own_count C (λ e. e.reads) m.body v + own_count C (λ e. e.writes) m.body v → NewCell fs hs j x m v cs ds
      pub apart : (m l : Instance) (v w : Variable) (d : ℕ) → In m made → In l made → IsOwn hs m v d → IsOwn hs l w d → (m.key ≡ l.key) × (v ≡ w)
      pub only : (d : ℕ) (c : Counted) → slot_at ds d ≡ Some c → ((b : Counted) × (slot_at cs d ≡ Some b)) ⊎ ((m : Instance) × (v : Variable) × In m made × IsOwn hs m v d)

    -- the inputs that have become known: a stored scalar, an element, an array that no item may write any more
    pub record BecomesKnown (stored : ℕ → Elements) (cs ds : List (Option Counted)) (known : List (Want ℕ)) : Type 0 where
      pub sound : (w : Want ℕ) → In w known → is_known ds w ≡ true
      pub put : (d : ℕ) (c : Counted) (x : Key × Scalar) (xs : Elements) → slot_at cs d ≡ Some c → is_array_content c.content ≡ false → stored d ≡ x ∷ xs → In (Whole d) known
      pub inserted : (d : ℕ) (c : Counted) (k : Key) (v : Scalar) → slot_at cs d ≡ Some c → is_array_content c.content ≡ true → In (k, v) (stored d) → In (AnElement d (hash_of k)) known
      pub closed : (d : ℕ) (b c : Counted) → slot_at cs d ≡ Some b → slot_at ds d ≡ Some c → is_array_content b.content ≡ true → 0 < b.writes → c.writes ≡ 0 → In (Whole d) known

    -- the missing inputs of a waiting item afterwards: those still missing; if there are none, those that its item
    -- misses next
    abbrev pub missed_again : Fields → List Row → List (Want ℕ) → Waiter → List (Want ℕ)
    missed_again G rows known w = or_else (still_missed known w.missing) (elim (row_of rows w.item) [ None ↦ [] | Some r ↦ job_missed C L G r.job ])

    -- the missing inputs of a new item; one for the rest of a loop has none
    abbrev pub missed_first : Fields → Job → List (Want ℕ)
    missed_first G Script = []
    missed_first G (Does k e zero) = job_missed C L G (Does k e zero)
    missed_first G (Does k e (suc c)) = []

    -- waiting items with missing inputs continue to wait, and new items with missing inputs wait too
    pub record WaitsAfter (F G : Fields) (rows : List Row) (known : List (Want ℕ)) : Type 0 where
      pub old : (w : Waiter) → In w F.waiting → (missed_again G rows known w ≡ [] → ⊥) → In (record { item = w.item; missing = missed_again G rows known w }) G.waiting
      pub new : (m : ℕ) (r : Row) → length F.rows < m → row_of rows m ≡ Some r → (missed_first G r.job ≡ [] → ⊥) → In (record { item = m; missing = missed_first G r.job }) G.waiting
      pub only : (w : Waiter) → In w G.waiting → (w.missing ≡ [] → ⊥) × (((v : Waiter) × In v F.waiting × (v.item ≡ w.item) × (w.missing ≡ missed_again G rows known v)) ⊎ ((r : Row) × (length F.rows < w.item) × (row_of rows w.item ≡ Some r) × (w.missing ≡ missed_first G r.job)))
      pub once : Distinct (map (λ (w : Waiter). w.item) G.waiting)

    -- the fields after the item of a number has ended, with this job and this result
    pub record EndsTo (F : Fields) (n : ℕ) (j : Job) (x : Computed) (G : Fields) : Type 0 where
      pub made : List Instance
      pub made_are : AreMade made (task_of F.frames j) x
      pub middle : List (Option Frame)
      pub opens : FramesOpen F.frames (home j) made middle
      pub leads : (k e c : ℕ) (m : Instance) → j ≡ Does k e c → In m made → NamesLead F.frames middle k e c m
      pub leaves : TakenOff G.frames middle (leaving j (rests C (task_of F.frames j) x))
      pub cells : CellsAfter F.frames middle j x made (rests C (task_of F.frames j) x) F.cells G.cells
      pub known : List (Want ℕ)
      pub becomes : BecomesKnown (job_stores F.frames j x) F.cells G.cells known
      pub waits : WaitsAfter F G (F.rows ++ map new_row (jobs_after made j (rests C (task_of F.frames j) x))) known
      pub newly : NewlyAfter G (F.rows ++ map new_row (jobs_after made j (rests C (task_of F.frames j) x)))
      pub turns : TurnsAfter F G n x (F.rows ++ map new_row (jobs_after made j (rests C (task_of F.frames j) x)))
      pub rows : G.rows ≡ ended_rows F.rows n G.newly (jobs_after made j (rests C (task_of F.frames j) x))
      pub queue : QueueAfter F G
      pub lines : G.lines ≡ F.lines ++ printed j x
      pub running : G.running ≡ F.running - 1
      pub fault : G.fault ≡ None
