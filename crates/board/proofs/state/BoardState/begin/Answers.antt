use Rattle.std.proofs.Common.{rules, refl}
use Rattle.board_instances.specs.View.{job_view}
use Rattle.board.proofs.Marked.{has_begun}
use Rattle.board.proofs.state.BoardState.begin.Goals as goal

pub returns : goal.returns
returns c =
    has_begun c.args.program.now c.args.self.now (record { data_state = c.args.self.now.data_state; items = c.begin.new.self; lines = c.args.self.now.lines; fault = c.args.self.now.fault; alloc = c.args.self.now.alloc }) c.args.number (job_view c.args.job) refl refl refl c.begin.ensures.stays
    c.args.worker c.order_of.result.0 c.order_of.result.1 c.order_of.ensures.kind c.order_of.ensures.priority c.begin.ensures.rows c.begin.ensures.queue c.begin.ensures.running c.begin.ensures.newly c.begin.ensures.capacity c.begin.ensures.apart (search rules)
