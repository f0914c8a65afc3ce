-- The conditions for a block to be finished for a variable, by what instances see. Each statement with the variable as
-- a target has done its part, and further blocks have to be finished too.
use Rattle.std.specs.Prelude.{◌≡◌, ℕ, zero, suc, pos, Bool, true, false, not, List, [], ◌∷◌, ◌++◌, length, map, nat_le, is_some, Option, Some, None, slice_get, if◌then◌else◌}
use Rattle.values.specs.declared.key.Key.{Key}
use Rattle.values.specs.declared.value.Value.{Value}
use Rattle.values.specs.Keys.{value_key}
use Rattle.language.specs.Core.{Owned, output, Name, Call, Stmt, stmt, Action, call_alone, fill, insert, when, choose, range, each, wait, Block, no_stmts, stmts, Function, Core}
use Rattle.language.specs.Members.{◌∈◌}
use Rattle.language.specs.Places.{max_path_steps}
use Rattle.flow.specs.View.{owned_view, block_view, waits_around}
use Rattle.meaning_cells.specs.Chosen.{Chosen, block_in, chosen_in, count_in, have_come_in, key_in}
use Rattle.meaning_cells.specs.declared.finished.PendingBlock.{PendingBlock}
use Rattle.meaning_facts.specs.declared.fact_base.FactBase.{FactBase}
use Rattle.meaning_facts.specs.Paths.{child_at, path_of}
use Rattle.meaning_facts.specs.Sighted.{sight_of}
use Rattle.meaning_facts.specs.Store.{is_written_in, spot, value_at, writes_at}
use Rattle.meaning_cells.specs.Targeted.{aims_of, same_owned}

-- a block in an instance, whose statements have to be finished for a variable
pub record Goal : Type 0 where
  pub instance : ℕ
  pub what : Owned
  pub block : Block

-- blocks that have to be finished, or None if a statement is not finished yet
abbrev pub Goals : Type 0
Goals = Option (List Goal)

abbrev pub task_goal : {A : Type 0} → PendingBlock A → Goal
task_goal t = record { instance = t.instance; what = owned_view t.what; block = waits_around t.inner.now (block_view t.block.now) }

abbrev pub goals_of : {A : Type 0} → List (PendingBlock A) → List Goal
goals_of ts = map task_goal ts

-- appends goals to others
abbrev pub behind : List Goal → Goals → Goals
behind gs (Some hs) = Some (gs ++ hs)
behind gs None = None

abbrev pub both : Goals → Goals → Goals
both (Some gs) hs = behind gs hs
both None hs = None

abbrev pub where_so : Bool → List Goal → Goals
where_so true gs = Some gs
where_so false gs = None

abbrev pub where_aimed : Bool → Goals → Goals
where_aimed true gs = gs
where_aimed false gs = Some []

abbrev pub inserted_under : FactBase → ℕ → Name → (node : ℕ) → Option Key → Bool
inserted_under l i a n (Some k) = is_written_in (writes_at l.facts (spot l.instances.all.items i a)) k (record { instance = i; node = n })
inserted_under l i a n None = false

-- the statement at an instance and a node has written the element of the array at the value of the index
abbrev pub inserted_by : FactBase → ℕ → Name → (node : ℕ) → Option Value → Bool
inserted_by l i a n (Some v) = inserted_under l i a n (value_key v)
inserted_by l i a n None = false

abbrev pub is_inserted_in : FactBase → ℕ → Name → (index node : ℕ) → Bool
is_inserted_in l i a x n = inserted_by l i a n (value_at l.facts (record { instance = i; node = x }))

-- the body of a call, for each output that is bound to the variable
abbrev pub output_goals : ℕ → Owned → Block → ℕ → List Name → List Goal
output_goals j a b k [] = []
output_goals j a b k (x ∷ xs) = if same_owned x.what a then record { instance = j; what = output k; block = b } ∷ output_goals j a b (suc k) xs else output_goals j a b (suc k) xs

abbrev pub body_goals : Option ℕ → Owned → Block → List Name → Goals
body_goals (Some j) a b xs = Some (output_goals j a b 0 xs)
body_goals None a b xs = None

abbrev pub function_goals : FactBase → ℕ → Owned → Call → Option Function → Goals
function_goals l i a c (Some f) = body_goals (child_at l.instances i c.at (Key.Number (pos 0))) a f.body c.outputs
function_goals l i a c None = where_so (not (nat_le max_path_steps (length (path_of l.instances.all.items i)))) []

-- the block in a child instance
abbrev pub child_goals : Option ℕ → Owned → Block → Goals
child_goals (Some j) a b = Some (record { instance = j; what = a; block = b } ∷ [])
child_goals None a b = None

-- the blocks that a header opens, for a number of indexes from one on
abbrev pub turn_goals : FactBase → ℕ → Owned → (at : ℕ) → Block → Chosen → ℕ → ℕ → Goals
turn_goals l i a at b c k zero = Some []
turn_goals l i a at b c k (suc n) = both (child_goals (child_at l.instances i at (key_in c k)) a b) (turn_goals l i a at b c (suc k) n)

abbrev pub block_goals : FactBase → ℕ → Owned → (at : ℕ) → Chosen → Option Block → Goals
block_goals l i a at c (Some b) = turn_goals l i a at b c 0 (count_in c)
block_goals l i a at c None = None

abbrev pub choice_goals : FactBase → ℕ → Owned → (at : ℕ) → Action → Option Chosen → Goals
choice_goals l i a at header (Some c) = block_goals l i a at c (block_in header c)
choice_goals l i a at header None = None

abbrev pub header_goals : FactBase → ℕ → Owned → (at : ℕ) → Action → Goals
header_goals l i a at header = choice_goals l i a at header (chosen_in (sight_of l i) header)

-- what has to be finished before a statement is, which has the variable as a target
abbrev pub action_goals : Core → FactBase → ℕ → Owned → (at n : ℕ) → Action → Goals
action_goals s l i a at n (call_alone p ps c) = function_goals l i a c (slice_get s.functions c.function)
action_goals s l i a at n (fill x e) = where_so (is_some (value_at l.facts (record { instance = i; node = e.cell.node }))) []
action_goals s l i a at n (insert x k e) = where_so (is_inserted_in l i x k.cell.node n) []
action_goals s l i a at n (when c b) = header_goals l i a at (when c b)
action_goals s l i a at n (choose c b d) = header_goals l i a at (choose c b d)
action_goals s l i a at n (range lo hi st x t b) = header_goals l i a at (range lo hi st x t b)
action_goals s l i a at n (each x v t b) = header_goals l i a at (each x v t b)
action_goals s l i a at n (wait ns b) = where_so (have_come_in (sight_of l i) ns) (record { instance = i; what = a; block = b } ∷ [])
action_goals s l i a at n _ = None

abbrev pub statement_goals : Core → FactBase → ℕ → Owned → Stmt → Goals
statement_goals s l i a (stmt at n action) = where_aimed (aims_of a action) (action_goals s l i a at n action)

abbrev pub goals_in : Core → FactBase → ℕ → Owned → Block → Goals
goals_in s l i a no_stmts = Some []
goals_in s l i a (stmts st b) = both (statement_goals s l i a st) (goals_in s l i a b)

-- a block is finished: its statements have done their parts, and each block that has to be finished with it is finished
pub data IsDone (s : Core) (l : FactBase) : Goal → Type 0 where
  done : {g : Goal} {gs : List Goal} → goals_in s l g.instance g.what g.block ≡ Some gs → ((h : Goal) → h ∈ gs → IsDone s l h) → IsDone s l g
