-- Additions to the lists when the statements of a block become live in an instance.
use Rattle.std.specs.Prelude.{ℕ, Bool, true, false, List, [], ◌∷◌, ◌++◌, map}
use Rattle.language.specs.Core.{local, Stmt, Action, declare, Block, Core}
use Rattle.language.specs.Parts.{stmt_action}
use Rattle.meaning_invariants.specs.Active.{Active, active, Candidate}
use Rattle.meaning_invariants.specs.Never.{never_ends}

abbrev pub all_active : ℕ → List Stmt → List Active
all_active i ss = map (active i) ss

-- a variable that may close
abbrev pub unless_never : ℕ → Block → ℕ → Bool → List Candidate
unless_never i b v true = []
unless_never i b v false = (record { instance = i; node = v }, b) ∷ []

abbrev pub declares_by : Core → (levels : ℕ) → ℕ → Block → Action → List Candidate
declares_by s levels i b (declare v) = unless_never i b v (never_ends s levels (local v) b)
declares_by s levels i b _ = []

-- the variables that statements declare in a block
abbrev pub declares : Core → (levels : ℕ) → ℕ → Block → List Stmt → List Candidate
declares s levels i b [] = []
declares s levels i b (st ∷ ss) = declares_by s levels i b (stmt_action st) ++ declares s levels i b ss
