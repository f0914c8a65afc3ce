use Rattle.std.proofs.Common.{rules, ap, sym, ◌∙◌, map}
use Rattle.task_code.specs.View.{event_view}
use Rattle.board_instances.specs.View.{status_view, row_view}
use Rattle.board_history.specs.Ending.{job_kind}
use Rattle.board_history.specs.Fields.{Job}
use Rattle.board.proofs.Showing.{live_status, no_item, over_item, some_item}
use Rattle.board.proofs.board.Board.kind.Goals as goal

pub returns-in_default-clause-none : goal.returns-in_default-clause-none
returns-in_default-clause-none c =
    rw (← c.self.view_is) (no_item c.self.inside.program c.self.invariant.whole (map event_view c.self.inside.history.items) c.self.inside.core c.self.invariant.stand c.args.item (search rules))

pub returns-in-Over-clause-none : goal.returns-in-Over-clause-none
returns-in-Over-clause-none c =
    rw (← c.self.view_is) (over_item c.self.inside.program c.self.invariant.whole (map event_view c.self.inside.history.items) c.self.inside.core c.self.invariant.stand c.args.item (row_view c.in-Some.found) (search rules) (sym c.status.ensures ∙ ap status_view c.in-Over.is))

pub returns-in_default-status : goal.returns-in_default-status
returns-in_default-status c =
    record {
      none = tt;
      some = rw (← c.self.view_is) (some_item c.self.inside.program c.self.invariant.whole (map event_view c.self.inside.history.items) c.self.inside.core c.self.invariant.stand c.args.item (row_view c.in-Some.found) (search rules) (λ over. live_status c.status.result c.in_default-status.not-Over (c.status.ensures ∙ over)) _ (c.order_of-kind.ensures.kind ∙ ap (λ (j : Job). job_kind c.self.inside.program j) c.job.ensures));
    }
