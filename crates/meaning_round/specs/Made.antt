-- The lists of a state by their instances, and what the statements of a block add to them.
use Rattle.std.specs.Prelude.{ℕ, Bool, true, false, List, [], ◌∷◌, ◌++◌, length, map, nat_eq, option_to_list, slice_get}
use Rattle.std.specs.HashSet.{contains}
use Rattle.language.specs.Core as core
use Rattle.language.specs.Core.{Stmt, declare, local}
use Rattle.language.specs.Parts.{stmt_action}
use Rattle.flow.specs.View.{block_view}
use Rattle.meaning_invariants.specs.Active.{Active, Candidate}
use Rattle.meaning_invariants.specs.Never.{never_in}
use Rattle.meaning_invariants.specs.Listed.{unless_never}
use Rattle.meaning_round.specs.declared.never_closed.TargetNodes.{TargetNodes}
use Rattle.meaning_round.specs.declared.never_closed.TargetNodes.TheVariants.{All, Among}
use Rattle.meaning_round.specs.declared.state.LiveArray.{LiveArray}
use Rattle.meaning_round.specs.declared.state.RoundState.{RoundState}
use Rattle.meaning_round.specs.Hearing.{numbers_of}
use Rattle.meaning_round.specs.Standing.{active_of}

abbrev pub tasks_of : {A : Type 0} → RoundState A → List Active
tasks_of s = map active_of s.tasks.items

-- the statements with these numbers
abbrev pub picks : List Active → List ℕ → List Active
picks ls [] = []
picks ls (k ∷ ks) = option_to_list (slice_get ls k) ++ picks ls ks

-- the statements that may have a new fact
abbrev pub telling_of : {A : Type 0} → RoundState A → List Active
telling_of s = picks (tasks_of s) (numbers_of s.worklist (length (tasks_of s)))

-- the headers whose choice is pending
abbrev pub waiting_of : {A : Type 0} → RoundState A → List Active
waiting_of s = map active_of s.waiting.items

abbrev pub candidate_of : {A : Type 0} → LiveArray A → Candidate
candidate_of a = (a.place, block_view a.block.now)

-- the variables that may close
abbrev pub arrays_of : {A : Type 0} → RoundState A → List Candidate
arrays_of s = map candidate_of s.arrays.items

-- no assumption about called functions
abbrev pub no_calls : ℕ → ℕ → Bool
no_calls f j = false

-- a variable is in the set of the search
abbrev pub is_sought : TargetNodes → ℕ → Bool
is_sought All n = true
is_sought (Among nodes) n = contains nat_eq nodes.now n

-- the variables that statements declare in a block, as `declares` without a level of calls
abbrev pub declares_here_by : ℕ → core.Block → core.Action → List Candidate
declares_here_by i b (declare v) = unless_never i b v (never_in no_calls (local v) b)
declares_here_by i b _ = []

abbrev pub declares_here : ℕ → core.Block → List Stmt → List Candidate
declares_here i b [] = []
declares_here i b (st ∷ ss) = declares_here_by i b (stmt_action st) ++ declares_here i b ss
