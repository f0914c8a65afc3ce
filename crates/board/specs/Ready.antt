-- The ready items in order, by descending priority and then by ascending number, and the first of them.
use Rattle.std.specs.Prelude.{◌≡◌, ◌⊎◌, ℕ, ◌<◌, int_lt, true, List, [], ◌∷◌, map, None}
use Rattle.dataflow.specs.System.{In}
use Rattle.task_code.specs.Code.{Kind}
use Rattle.task_code.specs.Machine.{CodeItem, Enabled}
use Rattle.task_code.specs.System.{task_kind, task_priority}
use Rattle.board.specs.Board.{IsGoing, Seen}

-- the item exists, does not run, and is enabled
pub record IsReady (b : Seen) (item : CodeItem) : Type 0 where
  pub there : In item b.state.items
  pub idle : item.runs ≡ None
  pub enabled : Enabled b.code b.state item.task

-- a greater priority, or the same priority and a smaller number
abbrev pub Precedes : Seen → CodeItem → CodeItem → Type 0
Precedes b i j =
    (int_lt (task_priority b.code j.task) (task_priority b.code i.task) ≡ true)
    ⊎ ((task_priority b.code i.task ≡ task_priority b.code j.task) × (i.number < j.number))

-- the item of this number is the first ready one of its kind
pub record IsNext (b : Seen) (kind : Kind) (number : ℕ) : Type 0 where
  pub going : IsGoing b
  pub item : CodeItem
  pub ready : IsReady b item
  pub kind_is : task_kind b.code item.task ≡ kind
  pub number_is : item.number ≡ number
  pub first : (other : CodeItem) → IsReady b other → task_kind b.code other.task ≡ kind → ¬ Precedes b other item

-- an item of this number exists and has this kind
abbrev pub HasKind : Seen → (number : ℕ) → Kind → Type 0
HasKind b number kind = (item : CodeItem) × In item b.state.items × (item.number ≡ number) × (kind ≡ task_kind b.code item.task)

-- the item of this number is the first of all ready ones
pub record IsFirst (b : Seen) (number : ℕ) : Type 0 where
  pub going : IsGoing b
  pub item : CodeItem
  pub ready : IsReady b item
  pub number_is : item.number ≡ number
  pub first : (other : CodeItem) → IsReady b other → ¬ Precedes b other item

-- each item precedes all following ones
abbrev pub InOrder : Seen → List CodeItem → Type 0
InOrder b [] = Unit {0}
InOrder b (i ∷ is) = ((j : CodeItem) → In j is → Precedes b i j) × InOrder b is

-- these are the numbers of all ready items, in order
pub record AreReady (b : Seen) (numbers : List ℕ) : Type 0 where
  pub items : List CodeItem
  pub all : (item : CodeItem) → IsReady b item → In item items
  pub ready : (item : CodeItem) → In item items → IsReady b item
  pub order : InOrder b items
  pub numbers_are : numbers ≡ map (λ (i : CodeItem). i.number) items
