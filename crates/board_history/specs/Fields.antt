-- The fields of a fast board, as values: slabs are lists of slots, items are rows by number.
use Rattle.std.specs.Prelude.{ℕ, zero, suc, ◌+◌, Bool, true, false, List, [], ◌∷◌, Option, Some, None, ℤ, nat_eq, if◌then◌else◌}
use Rattle.dataflow.specs.Machine.{Fault}
use Rattle.task_code.specs.Code.{Argument, Code, Fixed, Kind, Named, Name, arguments, entry, nth}
use Rattle.task_code.specs.Compute.{Elements, EntryFault}
use Rattle.task_code.specs.Effects.{Item, Main, Task}
use Rattle.task_code.specs.Machine.{CodeItem}
use Rattle.task_code.specs.Places.{Step}
use Rattle.values.specs.declared.value.Scalar.{Scalar}

-- the value under a key of a slab
abbrev pub slot_at : {X : Type 0} → List (Option X) → ℕ → Option X
slot_at [] k = None
slot_at (x ∷ xs) zero = x
slot_at (x ∷ xs) (suc k) = slot_at xs k

-- the slot of a name in an instance: nothing, a datum by its key, or a literal argument of a call, by its entry and
-- index
pub data Slot : Type 0 where
  Absent : Slot
  DatumOf : (key : ℕ) → Slot
  LiteralOf : (entry place : ℕ) → Slot

-- an instance of a block: its enclosing instance, the number of these, and the length of its path; its last step, which
-- the content of a wait does not have; its body, its live count, and its slots
pub record Frame : Type 0 where
  pub parent : Option ℕ
  pub level : ℕ
  pub depth : ℕ
  pub way : Option Step
  pub body : ℕ
  pub live : ℕ
  pub slots : List Slot

-- the status of an item
pub data Status : Type 0 where
  Waiting : Status
  Ready : Status
  Running : (worker : ℕ) → Status
  Over : Status

-- the task of an item: it opens the script, or it is an entry in an instance
pub data Job : Type 0 where
  Script : Job
  Does : (frame entry chunk : ℕ) → Job

pub record Row : Type 0 where
  pub job : Job
  pub status : Status

-- the content of a datum
pub data Content : Type 0 where
  Unset : Content
  Holding : Scalar → Content
  Mapping : Elements → Content

-- a datum with its counts
pub record Counted : Type 0 where
  pub reads : ℕ
  pub writes : ℕ
  pub content : Content

-- an input of an item: a stored scalar or a closed array, or an element
pub data Want (D : Type 0) : Type 0 where
  Whole : D → Want D
  AnElement : D → (hash : ℕ) → Want D

-- a waiting item, and its missing inputs, in order
pub record Waiter : Type 0 where
  pub item : ℕ
  pub missing : List (Want ℕ)

-- the fields
pub record Fields : Type 0 where
  pub frames : List (Option Frame)
  pub rows : List Row
  pub cells : List (Option Counted)
  pub waiting : List Waiter
  pub turns : ℕ → Option Elements  -- those left to an item that goes on with a loop, by its number
  pub queue : Kind → ℤ → List ℕ
  pub lines : List Scalar
  pub fault : Option (Task × Fault EntryFault)
  pub running : ℕ
  pub newly : List ℕ

-- the place of each name: n instances further out, at this slot
pub record Layout : Type 0 where
  pub levels : (body : ℕ) → Name → ℕ
  pub slot : (body : ℕ) → Name → ℕ

-- the path of an instance
abbrev pub step_before : Option Step → List Step → List Step
step_before None p = p
step_before (Some s) p = s ∷ p

abbrev pub path_from : List (Option Frame) → ℕ → Option ℕ → List Step
path_from fs zero k = []
path_from fs (suc n) None = []
path_from fs (suc n) (Some k) = elim (slot_at fs k) [ None ↦ [] | Some f ↦ step_before f.way (path_from fs n f.parent) ]

abbrev pub level_of : Option Frame → ℕ
level_of None = 0
level_of (Some f) = f.level

abbrev pub path_of : List (Option Frame) → ℕ → List Step
path_of fs k = path_from fs (suc (level_of (slot_at fs k))) (Some k)

-- the instance n levels further out
abbrev pub frame_up : List (Option Frame) → ℕ → ℕ → Option Frame
frame_up fs zero k = slot_at fs k
frame_up fs (suc n) k = elim (slot_at fs k) [ None ↦ None | Some f ↦ elim f.parent [ None ↦ None | Some j ↦ frame_up fs n j ] ]

-- the slot of a name of an instance's body
abbrev pub slot_for : Layout → List (Option Frame) → ℕ → ℕ → Name → Slot
slot_for l fs k b r = elim (frame_up fs (l.levels b r) k) [ None ↦ Absent | Some f ↦ nth Absent f.slots (l.slot b r) ]

-- a literal among a call's arguments
abbrev pub fixed_in : List Argument → ℕ → Option Scalar
fixed_in [] k = None
fixed_in (Named r ∷ rs) zero = None
fixed_in (Fixed v ∷ rs) zero = Some v
fixed_in (x ∷ rs) (suc k) = fixed_in rs k

abbrev pub literal : Code → ℕ → ℕ → Option Scalar
literal C e k = fixed_in (arguments (entry C e).act) k

-- the row of a number, from 1
abbrev pub row_of : List Row → ℕ → Option Row
row_of [] n = None
row_of (r ∷ rs) zero = None
row_of (r ∷ rs) (suc n) = elim n [ zero ↦ Some r | suc m ↦ row_of rs (suc m) ]

-- the task of a row, and the items of rows
abbrev pub task_of : List (Option Frame) → Job → Task
task_of fs Script = Main
task_of fs (Does k e c) = Item e (path_of fs k) c

abbrev pub item_before : ℕ → Task → Status → List CodeItem → List CodeItem
item_before n t Waiting is = record { number = n; task = t; runs = None } ∷ is
item_before n t Ready is = record { number = n; task = t; runs = None } ∷ is
item_before n t (Running w) is = record { number = n; task = t; runs = Some w } ∷ is
item_before n t Over is = is

abbrev pub items_from : List (Option Frame) → ℕ → List Row → List CodeItem
items_from fs n [] = []
items_from fs n (r ∷ rs) = item_before n (task_of fs r.job) r.status (items_from fs (suc n) rs)

-- the number of rows that run, of rows that are not over in an instance, and of instances directly inside one
abbrev pub is_running : Status → Bool
is_running (Running w) = true
is_running _ = false

abbrev pub is_over : Status → Bool
is_over Over = true
is_over _ = false

abbrev pub running_in : List Row → ℕ
running_in [] = 0
running_in (r ∷ rs) = (if is_running r.status then 1 else 0) + running_in rs

abbrev pub is_of : ℕ → Job → Bool
is_of k Script = false
is_of k (Does j e c) = nat_eq j k

abbrev pub rows_in : ℕ → List Row → ℕ
rows_in k [] = 0
rows_in k (r ∷ rs) = (if is_over r.status then 0 else (if is_of k r.job then 1 else 0)) + rows_in k rs

abbrev pub lies_in : ℕ → Option Frame → Bool
lies_in k None = false
lies_in k (Some f) = elim f.parent [ None ↦ false | Some j ↦ nat_eq j k ]

abbrev pub frames_in : ℕ → List (Option Frame) → ℕ
frames_in k [] = 0
frames_in k (x ∷ xs) = (if lies_in k x then 1 else 0) + frames_in k xs
