-- The number of items that code can create.
use Rattle.std.specs.Prelude.{◌≡◌, ℕ, zero, suc, ◌+◌, ◌-◌, ◌/◌, List, [], ◌∷◌, length, Some}
use Rattle.dataflow.specs.Facts.{Comes, Known}
use Rattle.dataflow.specs.System.{Answer, Effect, In, Outcome}
use Rattle.std.specs.List.{sum_by}
use Rattle.task_code.specs.Code.{Code, Loop, body, entry, loop_of}
use Rattle.task_code.specs.Compute.{EntryFault, compute}
use Rattle.task_code.specs.Effects.{Item, Task, block, turns_of}
use Rattle.task_code.specs.Places.{Place, Step}
use Rattle.task_code.specs.System.{answered, code_system}
use Rattle.values.specs.declared.key.Key.{Key}
use Rattle.values.specs.declared.value.Scalar.{Scalar}
use Rattle.values.specs.Limits.{chunk_size}

-- the items of a loop after its first one
abbrev pub rest_from : ℕ → List Step → ℕ → List Task
rest_from i p zero = []
rest_from i p (suc c) = Item i p (suc c) ∷ rest_from i p c

-- the number of further items for the rest of a loop of m turns
abbrev pub rests_of : ℕ → ℕ
rests_of m = (m - 1) / chunk_size

module _ (C : Code) where
  -- the list contains each block that is ever opened
  abbrev pub HasAllBlocks : List (ℕ × List Step) → Type 0
  HasAllBlocks blocks = (n : ℕ) (t : Task) (e : Effect Task Place Key Scalar) (s : ℕ × List Step) → Known (code_system C) n t e → In (block C s) e.opens → In s blocks

  -- the number of turns of a loop for its answers
  abbrev pub turns_at : ℕ → List Step → List (Answer Key Scalar) → ℕ
  turns_at i p xs = length (turns_of (compute (entry C i).act (answered C p (entry C i).needs xs)))

  -- the list contains each loop that ever runs, with its number of turns
  abbrev pub HasAllLoops : List (ℕ × List Step × ℕ) → Type 0
  HasAllLoops loops = (n i c : ℕ) (p : List Step) (r : Outcome Task Place Key Scalar EntryFault) (w : Loop) → loop_of (entry C i).act ≡ Some w → (x : Comes (code_system C) (Known (code_system C) n) (Item i p c) r) → In (i, p, turns_at i p x.answers) loops

  -- the opening of the script, each entry of each block, and the rests of each loop
  abbrev pub items_in : List (ℕ × List Step) → List (ℕ × List Step × ℕ) → ℕ
  items_in blocks loops = 1 + (sum_by (λ s. length (body C s.0).entries) blocks + sum_by (λ l. rests_of l.2) loops)
