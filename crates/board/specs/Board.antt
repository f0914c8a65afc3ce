-- The vocabulary of the contracts of a board.
use Rattle.std.specs.Prelude.{◌≡◌, ℕ, ◌<◌, List, [], ◌∷◌, ◌++◌, Some, None, length}
use Rattle.dataflow.specs.System.{Answer, In}
use Rattle.dataflow.specs.Events.{NewlyAt, worker_of}
use Rattle.dataflow.specs.Machine as Machine
use Rattle.dataflow.specs.Machine.{SeesAll}
use Rattle.dataflow.specs.Staying.{Knows}
use Rattle.values.specs.declared.key.Key.{Key}
use Rattle.values.specs.declared.value.Scalar.{Scalar}
use Rattle.task_code.specs.Code.{Code, entry}
use Rattle.task_code.specs.Effects.{Item, Main, Task}
use Rattle.task_code.specs.Machine.{CanBegin, CodeItem, CodeState, CodeStep, RunsOn}
use Rattle.task_code.specs.System.{answered, code_system, task_inputs}
use Rattle.board_work.specs.Assigned as Work
use Rattle.board_work.specs.Assigned.{Assigned}
use Rattle.board.specs.declared.refusal.BoardRefusal.{BoardRefusal}
use Rattle.board.specs.declared.refusal.BoardRefusal.TheVariants.{Ended, Memory, NotReady, NotYours, Stranger}
use Rattle.values.specs.Limits.{max_threads}

-- a board: the code, the limit, the state, the events so far, and the items that the last event enabled
pub record Seen : Type 0 where
  pub code : Code
  pub limit : ℕ
  pub state : CodeState
  pub history : List Machine.Event
  pub newly : List ℕ

-- the workers are numbered from 0
abbrev pub IsWorker : ℕ → Type 0
IsWorker w = w < max_threads

-- each event is by one of the workers
abbrev pub AreByWorkers : List Machine.Event → Type 0
AreByWorkers es = (e : Machine.Event) → In e es → IsWorker (worker_of e)

-- no fault stands, and the limit is not reached
abbrev pub IsGoing : Seen → Type 0
IsGoing b = (b.state.fault ≡ None) × (length b.history < b.limit)

-- each number is smaller than all following ones
abbrev pub Rises : List ℕ → Type 0
Rises [] = Unit {0}
Rises (n ∷ ns) = ((m : ℕ) → In m ns → n < m) × Rises ns

-- the event is accepted: the machine has that step, the items that it enables are listed by ascending number, and
-- nothing else changes
pub record Accepts (old : Seen) (e : Machine.Event) (new : Seen) : Type 0 where
  pub going : IsGoing old
  pub step : CodeStep old.code old.state e new.state
  pub history : new.history ≡ old.history ++ e ∷ []
  pub code : new.code ≡ old.code
  pub limit : new.limit ≡ old.limit
  pub newly : NewlyAt (code_system old.code) old.state new.state new.newly
  pub rising : Rises new.newly

-- the task of the work for a machine task, and the answers to the needs of its entry, given the answers to its inputs
abbrev pub job_of : Code → Task → Work.Task
job_of C Main = Work.opens_script
job_of C (Item i p c) = Work.runs (entry C i)

abbrev pub answers_to : Code → Task → List (Answer Key Scalar) → List (Answer Key Scalar)
answers_to C Main xs = xs
answers_to C (Item i p c) xs = answered C p (entry C i).needs xs

-- the work belongs to the task: it has its job, with answers that its needs have in this state
pub record IsWorkOf (C : Code) (s : CodeState) (t : Task) (work : Assigned) : Type 0 where
  pub job : work.job ≡ job_of C t
  pub inputs : List (Answer Key Scalar)
  pub known : SeesAll (code_system C) s (task_inputs C t) inputs
  pub answers : work.answers ≡ answers_to C t inputs

-- an item of the work's number runs on that worker, and the work is its own
pub record IsOwn (b : Seen) (worker : ℕ) (work : Assigned) : Type 0 where
  pub item : CodeItem
  pub there : In item b.state.items
  pub number_is : item.number ≡ work.item
  pub runs : item.runs ≡ Some worker
  pub own : IsWorkOf b.code b.state item.task work

-- the work belongs to the item of its number, for as long as that item exists, running or not
pub record IsItems (b : Seen) (work : Assigned) : Type 0 where
  pub task : Task
  pub inputs : List (Answer Key Scalar)
  pub knows : Knows (code_system b.code) b.state work.item task inputs
  pub job : work.job ≡ job_of b.code task
  pub answers : work.answers ≡ answers_to b.code task inputs

-- an item of that number may begin, or runs on that worker
abbrev pub MayBegin : Seen → ℕ → Type 0
MayBegin b n = CanBegin b.code b.state n

abbrev pub IsTheirs : Seen → ℕ → ℕ → Type 0
IsTheirs b w n = RunsOn b.code b.state w n

-- the reason for which begin refuses: the first cause that holds
abbrev pub RefusesBegin : Seen → ℕ → BoardRefusal → Type 0
RefusesBegin b n Ended = ¬ IsGoing b
RefusesBegin b n NotReady = IsGoing b × ¬ MayBegin b n
RefusesBegin b n Memory = IsGoing b × MayBegin b n
RefusesBegin b n NotYours = ⊥
RefusesBegin b n Stranger = ⊥

-- the reason for which end refuses: the first cause that holds; memory only for work that is the item's own
abbrev pub RefusesEnd : Seen → ℕ → Assigned → BoardRefusal → Type 0
RefusesEnd b w done Ended = ¬ IsGoing b
RefusesEnd b w done NotYours = IsGoing b × ¬ IsTheirs b w done.item
RefusesEnd b w done Stranger = IsGoing b × IsTheirs b w done.item × ¬ IsOwn b w done
RefusesEnd b w done Memory = IsGoing b × IsOwn b w done
RefusesEnd b w done NotReady = ⊥

-- the reason for which back refuses: the first cause that holds; never memory
abbrev pub RefusesBack : Seen → ℕ → ℕ → BoardRefusal → Type 0
RefusesBack b w n Ended = ¬ IsGoing b
RefusesBack b w n NotYours = IsGoing b × ¬ IsTheirs b w n
RefusesBack b w n Memory = ⊥
RefusesBack b w n NotReady = ⊥
RefusesBack b w n Stranger = ⊥

-- the reason for which the work of a running item is not returned: the first cause that holds
abbrev pub RefusesWork : Seen → ℕ → ℕ → BoardRefusal → Type 0
RefusesWork b w n Ended = ¬ IsGoing b
RefusesWork b w n NotYours = IsGoing b × ¬ IsTheirs b w n
RefusesWork b w n Memory = IsGoing b × IsTheirs b w n
RefusesWork b w n NotReady = ⊥
RefusesWork b w n Stranger = ⊥
