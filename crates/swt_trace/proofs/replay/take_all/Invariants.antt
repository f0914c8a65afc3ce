use Rattle.std.proofs.Common.{◌≡◌, length, map, take}
use Rattle.task_code.specs.View.{event_view}
use Rattle.swt_trace.proofs.replay.take_all.Given as goal

abbrev pub invariant-loop-place : goal.invariant-loop-place
invariant-loop-place l = record {
  history : l.board.history ≡ map event_view (take l.place l.events);
  code : l.board.code ≡ l.fn.board.code;
  limit : l.board.limit ≡ length l.events;
}
