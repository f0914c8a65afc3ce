-- The queue is a set: fields stand for a state whatever its order.
use Rattle.std.proofs.Common.{ℕ, List}
use Rattle.std.specs.Prelude.{ℤ}
use Rattle.dataflow.specs.Machine.{Event}
use Rattle.board_history.specs.Fields.{Fields, Layout}
use Rattle.board_history.specs.Stands.{Stands}
use Rattle.task_code.specs.Code.{Code, Kind}
use Rattle.board.specs.Queues.{SameNumbers, with_queue}

pub queue_kept : (C : Code) (L : Layout) (es : List Event) (F : Fields) → Stands C L es F → (q : Kind → ℤ → List ℕ) → SameNumbers F.queue q → Stands C L es (with_queue q F)
queue_kept C L es F x q same =
    record {
      state = x.state;
      reached = x.reached;
      names = x.names;
      items = record { items = x.items.items; next = x.items.next; ready = x.items.ready; waiting = x.items.waiting; running = x.items.running };
      frames = record { there = x.frames.there; outermost = x.frames.outermost; inside = x.frames.inside; depth = x.frames.depth; live = x.frames.live; kept = x.frames.kept; reads = x.frames.reads; writes = x.frames.writes };
      data_stand = record { naming = x.data_stand.naming; there = x.data_stand.there; only = x.data_stand.only };
      waits = record { waits = x.waits.waits; missing = x.waits.missing; once = x.waits.once };
      turns = record { kept = x.turns.kept; going = x.turns.going };
      queue = record {
        all = λ k z n h. same.all k z n (x.queue.all k z n h);
        only = λ k z n h. x.queue.only k z n (same.only k z n h);
        once = same.once;
      };
      lines = x.lines;
      fault = x.fault;
      newly = x.newly;
    }
