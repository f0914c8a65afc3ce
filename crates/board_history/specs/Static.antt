-- The rights that one instance of a body adds to the counts of data, computed once from the code.
use Rattle.std.specs.Prelude.{◌≡◌, ℕ, suc, ◌+◌, ◌*◌, not, List, [], ◌∷◌, length, if◌then◌else◌}
use Rattle.std.specs.List.{flat_map, filter}
use Rattle.dataflow.specs.System.{Answer, In, Opening, tasks_of}
use Rattle.dataflow.specs.Machine.{SeesAll}
use Rattle.board_history.specs.Counts.{holds, readers, times, writers}
use Rattle.board_history.specs.Elements.{code_tests}
use Rattle.task_code.specs.Check.{is_declared}
use Rattle.task_code.specs.Code.{Code, Entry, Loop, Name, Variable, body, entry, here, loop_of}
use Rattle.task_code.specs.Compute.{Computed, Elements, Opens, compute}
use Rattle.task_code.specs.Effects.{Item, Main, Task, block, effect_at, instances, rest, step_at, turn_instances}
use Rattle.task_code.specs.Machine.{CodeItem, CodeState}
use Rattle.task_code.specs.Places.{Datum, Place, Step, name_eq, place_at, place_eq}
use Rattle.task_code.specs.System.{answered, code_system, task_inputs, task_reads, task_writes}
use Rattle.values.specs.declared.value.Scalar.{Scalar}
use Rattle.values.specs.declared.key.Key.{Key}

-- the number of times that a name occurs in a list
abbrev pub name_times : Name → List Name → ℕ
name_times r [] = 0
name_times r (s ∷ ss) = (if name_eq r s then 1 else 0) + name_times r ss

-- a name with its number of occurrences in a list
pub record Hold : Type 0 where
  pub name : Name
  pub count : ℕ

abbrev pub add_hold : Name → List Hold → List Hold
add_hold r [] = record { name = r; count = 1 } ∷ []
add_hold r (h ∷ hs) = if name_eq r h.name then record { name = h.name; count = suc h.count } ∷ hs else h ∷ add_hold r hs

-- each name of the list once, with its number of occurrences
abbrev pub counted_names : List Name → List Hold
counted_names [] = []
counted_names (r ∷ rs) = add_hold r (counted_names rs)

module _ (C : Code) where
  -- the names that the entries of a body have among their rights of one kind
  abbrev pub names_in : (Entry → List Name) → ℕ → List Name
  names_in rights b = flat_map (λ j. rights (entry C j)) (body C b).entries

  -- the first count of a datum of the body: the number of its entries' names that are this variable
  abbrev pub own_count : (Entry → List Name) → ℕ → Variable → ℕ
  own_count rights b v = name_times (here v) (names_in rights b)

  -- the holds of an instance on data that it does not declare
  abbrev pub outer_holds : (Entry → List Name) → ℕ → List Hold
  outer_holds rights b = counted_names (filter (λ r. not (is_declared C b r)) (names_in rights b))

  -- the part of these holds on one datum: all names that refer to it at the path
  abbrev pub held_by : List Step → Place → List Hold → ℕ
  held_by p a [] = 0
  held_by p a (h ∷ hs) = (if place_eq a (place_at C p h.name) then h.count else 0) + held_by p a hs

  -- the rights of a block's tasks: on its own data those of the static counts, on others those of the outer holds
  pub record AddsHolds (b : ℕ) (p : List Step) : Type 0 where
    pub own_reads : (v : Variable) → holds (code_system C) code_tests (task_reads C) (Datum p v) (block C (b, p)).tasks ≡ own_count (λ e. e.reads) b v
    pub own_writes : (v : Variable) → holds (code_system C) code_tests (task_writes C) (Datum p v) (block C (b, p)).tasks ≡ own_count (λ e. e.writes) b v
    pub outer_reads : (q : List Step) (v : Variable) → (In v (body C b).makes → q ≡ p → ⊥) → holds (code_system C) code_tests (task_reads C) (Datum q v) (block C (b, p)).tasks ≡ held_by p (Datum q v) (outer_holds (λ e. e.reads) b)
    pub outer_writes : (q : List Step) (v : Variable) → (In v (body C b).makes → q ≡ p → ⊥) → holds (code_system C) code_tests (task_writes C) (Datum q v) (block C (b, p)).tasks ≡ held_by p (Datum q v) (outer_holds (λ e. e.writes) b)

  -- the rights that several blocks add, in order
  abbrev pub blocks_hold : (Task → List Place) → Place → List (ℕ × List Step) → ℕ
  blocks_hold rights a [] = 0
  blocks_hold rights a (s ∷ ss) = holds (code_system C) code_tests rights a (block C s).tasks + blocks_hold rights a ss

  -- the openings of an item of code: its blocks, and the item for the rest of a loop, which takes over the holds of
  -- this one
  pub record OpensHolds (i c : ℕ) (p : List Step) (x : Computed) : Type 0 where
    pub reads : (a : Place) → holds (code_system C) code_tests (task_reads C) a (tasks_of (effect_at C i p c x).opens) ≡ blocks_hold (task_reads C) a (instances (entry C i).act (entry C i).offset p c x) + length (rest (loop_of (entry C i).act) i p c x) * times (code_system C) code_tests a (task_reads C (Item i p c))
    pub writes : (a : Place) → holds (code_system C) code_tests (task_writes C) a (tasks_of (effect_at C i p c x).opens) ≡ blocks_hold (task_writes C) a (instances (entry C i).act (entry C i).offset p c x) + length (rest (loop_of (entry C i).act) i p c x) * times (code_system C) code_tests a (task_writes C (Item i p c))

  -- a loop's turns add the same to older data: the holds of one turn, times their number
  pub record TurnsHold (w : Loop) (offset : ℕ) (p : List Step) (ts : Elements) (q : List Step) (v : Variable) (k : Key) : Type 0 where
    pub reads : blocks_hold (task_reads C) (Datum q v) (turn_instances w offset p ts) ≡ length ts * held_by (step_at offset k p) (Datum q v) (outer_holds (λ e. e.reads) w.body)
    pub writes : blocks_hold (task_writes C) (Datum q v) (turn_instances w offset p ts) ≡ length ts * held_by (step_at offset k p) (Datum q v) (outer_holds (λ e. e.writes) w.body)

  -- the blocks that the end of a task opens, and the item for the rest of a loop
  abbrev pub opened : Task → Computed → List (ℕ × List Step)
  opened Main x = (0, []) ∷ []
  opened (Item i p c) x = instances (entry C i).act (entry C i).offset p c x

  abbrev pub rests : Task → Computed → List (Opening Task Place)
  rests Main x = []
  rests (Item i p c) x = rest (loop_of (entry C i).act) i p c x

  -- the result of a task for the answers to its inputs
  abbrev pub computed_by : Task → List (Answer Key Scalar) → Computed
  computed_by Main xs = Opens
  computed_by (Item i p c) xs = compute (entry C i).act (answered C p (entry C i).needs xs)

  -- the holds that blocks add to a datum outside them
  abbrev pub added_by : (Entry → List Name) → Place → List (ℕ × List Step) → ℕ
  added_by rights a [] = 0
  added_by rights a (s ∷ ss) = held_by s.1 a (outer_holds rights s.0) + added_by rights a ss

  -- the counts after the end of an item without fault: a new datum has the static count of its body; an old one gains
  -- the holds of the blocks, and loses those of the item, unless another item continues its loop
  pub record EndCounts (s : CodeState) (number : ℕ) (t : CodeState) : Type 0 where
    pub item : CodeItem
    pub there : In item s.items
    pub number_is : item.number ≡ number
    pub answers : List (Answer Key Scalar)
    pub known : SeesAll (code_system C) s (task_inputs C item.task) answers
    pub computed : Computed
    pub computed_is : computed ≡ computed_by item.task answers
    pub own_reads : (b : ℕ) (q : List Step) (v : Variable) → In (b, q) (opened item.task computed) → In v (body C b).makes → readers (code_system C) code_tests t (Datum q v) ≡ own_count (λ e. e.reads) b v
    pub own_writes : (b : ℕ) (q : List Step) (v : Variable) → In (b, q) (opened item.task computed) → In v (body C b).makes → writers (code_system C) code_tests t (Datum q v) ≡ own_count (λ e. e.writes) b v
    pub old_reads : (q : List Step) (v : Variable) → In (Datum q v) s.places → readers (code_system C) code_tests t (Datum q v) + times (code_system C) code_tests (Datum q v) (task_reads C item.task) ≡ readers (code_system C) code_tests s (Datum q v) + (added_by (λ e. e.reads) (Datum q v) (opened item.task computed) + length (rests item.task computed) * times (code_system C) code_tests (Datum q v) (task_reads C item.task))
    pub old_writes : (q : List Step) (v : Variable) → In (Datum q v) s.places → writers (code_system C) code_tests t (Datum q v) + times (code_system C) code_tests (Datum q v) (task_writes C item.task) ≡ writers (code_system C) code_tests s (Datum q v) + (added_by (λ e. e.writes) (Datum q v) (opened item.task computed) + length (rests item.task computed) * times (code_system C) code_tests (Datum q v) (task_writes C item.task))
