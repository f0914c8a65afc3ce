-- The fields of a board after an item begins, is given back, or meets a fault.
use Rattle.std.specs.Ordering.{int_eq}
use Rattle.std.specs.Prelude.{ℕ, zero, suc, ◌-◌, Bool, true, false, ◌&&◌, List, [], ◌∷◌, Some, ℤ, nat_eq, if◌then◌else◌}
use Rattle.dataflow.specs.Machine.{Fault}
use Rattle.board_history.specs.Fields.{Fields, Status, Ready, Row, Running}
use Rattle.task_code.specs.Code.{Control, Kind, Leaf}
use Rattle.task_code.specs.Compute.{EntryFault}
use Rattle.task_code.specs.Effects.{Task}

-- the row of a number, from 1, with another status
abbrev pub with_status : List Row → ℕ → Status → List Row
with_status [] n m = []
with_status (r ∷ rs) zero m = r ∷ rs
with_status (r ∷ rs) (suc n) m = elim n [ zero ↦ record { job = r.job; status = m } ∷ rs | suc j ↦ r ∷ with_status rs (suc j) m ]

-- a list without a number
abbrev pub without : ℕ → List ℕ → List ℕ
without n [] = []
without n (m ∷ ms) = if nat_eq n m then without n ms else m ∷ without n ms

-- the row runs, its number leaves the queue, and nothing else changes
abbrev pub begun_fields : Fields → (worker number : ℕ) → Fields
begun_fields F w n = record { frames = F.frames; rows = with_status F.rows n (Running w); cells = F.cells; waiting = F.waiting; turns = F.turns; queue = λ k z. without n (F.queue k z); lines = F.lines; fault = F.fault; running = suc F.running; newly = [] }

-- the same kind
abbrev pub kind_eq : Kind → Kind → Bool
kind_eq Control Control = true
kind_eq Leaf Leaf = true
kind_eq _ _ = false

-- the row is ready again, its number returns to its queue and is newly enabled, and nothing else changes
abbrev pub returned_fields : Fields → (number : ℕ) → Kind → ℤ → Fields
returned_fields F n kind priority = record { frames = F.frames; rows = with_status F.rows n Ready; cells = F.cells; waiting = F.waiting; turns = F.turns; queue = λ k z. if kind_eq kind k && int_eq priority z then n ∷ F.queue k z else F.queue k z; lines = F.lines; fault = F.fault; running = F.running - 1; newly = n ∷ [] }

-- the fault is recorded, and nothing else changes: the row stays running
abbrev pub faulted_fields : Fields → Task → Fault EntryFault → Fields
faulted_fields F t f = record { frames = F.frames; rows = F.rows; cells = F.cells; waiting = F.waiting; turns = F.turns; queue = F.queue; lines = F.lines; fault = Some (t, f); running = F.running; newly = [] }
