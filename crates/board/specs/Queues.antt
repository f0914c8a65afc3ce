-- The same fields with the queue in another order.
use Rattle.std.specs.Prelude.{ℕ, ℤ, List}
use Rattle.dataflow.specs.System.{Distinct, In}
use Rattle.board_history.specs.Fields.{Fields}
use Rattle.task_code.specs.Code.{Kind}

-- for each kind and priority the same numbers, each once
pub record SameNumbers (old new : Kind → ℤ → List ℕ) : Type 0 where
  pub all : (k : Kind) (z : ℤ) (n : ℕ) → In n (old k z) → In n (new k z)
  pub only : (k : Kind) (z : ℤ) (n : ℕ) → In n (new k z) → In n (old k z)
  pub once : (k : Kind) (z : ℤ) → Distinct (new k z)

-- the same fields with another queue
abbrev pub with_queue : (Kind → ℤ → List ℕ) → Fields → Fields
with_queue q F =
    record {
      frames = F.frames;
      rows = F.rows;
      cells = F.cells;
      waiting = F.waiting;
      turns = F.turns;
      queue = q;
      lines = F.lines;
      fault = F.fault;
      running = F.running;
      newly = F.newly;
    }
