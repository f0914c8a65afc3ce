-- Variables that never end in a block: those that it assigns as scalars, whatever branches are chosen, up to a number
-- of levels of calls.
use Rattle.std.specs.Prelude.{ℕ, zero, suc, Bool, false, ◌&&◌, ◌||◌, List, [], ◌∷◌, Option, Some, None, slice_get}
use Rattle.language.specs.Core.{Owned, output, Name, Stmt, stmt, Action, call_alone, assign, choose, wait, Block, no_stmts, stmts, Function, Core}
use Rattle.meaning_cells.specs.Targeted.{same_owned}

-- an output of a call is bound to the variable, and never ends in the called body
abbrev pub some_output : (ℕ → Bool) → Owned → ℕ → List Name → Bool
some_output never x j [] = false
some_output never x j (y ∷ ys) = (same_owned y.what x && never j) || some_output never x (suc j) ys

-- given what never ends in called functions
abbrev mutual
  pub never : (ℕ → ℕ → Bool) → Owned → Stmt → Bool
  never f x (stmt at n a) = never_by f x a

  pub never_by : (ℕ → ℕ → Bool) → Owned → Action → Bool
  never_by f x (assign y e) = same_owned y.what x
  never_by f x (call_alone p ps c) = some_output (f c.function) x 0 c.outputs
  never_by f x (choose c b d) = never_in f x b && never_in f x d
  never_by f x (wait ns b) = never_in f x b
  never_by f x _ = false

  pub never_in : (ℕ → ℕ → Bool) → Owned → Block → Bool
  never_in f x no_stmts = false
  never_in f x (stmts s b) = never f x s || never_in f x b

abbrev pub never_within : (Block → ℕ → Bool) → Option Function → ℕ → Bool
never_within test (Some f) j = test f.body j
never_within test None j = false

-- an output never ends in the function of that number
abbrev pub never_called : Core → (levels : ℕ) → ℕ → ℕ → Bool
never_called s zero i j = false
never_called s (suc levels) i j = never_within (λ b k. never_in (never_called s levels) (output k) b) (slice_get s.functions i) j

-- a variable never ends in a block
abbrev pub never_ends : Core → (levels : ℕ) → Owned → Block → Bool
never_ends s levels x b = never_in (never_called s levels) x b
