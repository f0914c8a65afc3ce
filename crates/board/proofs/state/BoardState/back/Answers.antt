use Rattle.std.proofs.Common.{refl}
use Rattle.board_instances.specs.View.{job_view}
use Rattle.board.proofs.Marked.{has_returned}
use Rattle.board.proofs.state.BoardState.back.Goals as goal

pub returns : goal.returns
returns c =
    has_returned c.args.program.now c.args.self.now (record { data_state = c.args.self.now.data_state; items = c.back.new.self; lines = c.args.self.now.lines; fault = c.args.self.now.fault; alloc = c.args.self.now.alloc }) c.args.number (job_view c.args.job) refl refl refl c.back.ensures.stays
    c.order_of.result.0 c.order_of.result.1 c.order_of.ensures.kind c.order_of.ensures.priority c.back.ensures.rows c.back.ensures.queue c.back.ensures.running c.back.ensures.newly c.back.ensures.capacity c.back.ensures.apart
