use Rattle.std.proofs.Common.{rules, ap, ◌≡◌, Some, ◌∙◌, map}
use Rattle.std.specs.Prelude.{slice_get}
use Rattle.board_history.specs.Ending.{job_kind}
use Rattle.board_history.specs.Fields.{Job, row_of}
use Rattle.task_code.specs.View.{event_view}
use Rattle.board_instances.specs.View.{row_view, rows_view}
use Rattle.board.proofs.Own.{numbered}
use Rattle.board.proofs.Showing.{no_row_there, row_live, some_ranked}
use Rattle.board.proofs.board.Board.newly.Goals as goal

pub returns-in_default-item_of-clause-none : goal.returns-in_default-item_of-clause-none
returns-in_default-item_of-clause-none c =
    let got : slice_get c.self.inside.core.items.newly.items c.args.place ≡ Some c.in-Some.number = search rules in
    absurd (no_row_there c.self.inside c.self.invariant c.args.place c.in-Some.number got (search rules))

pub returns-clause-above : goal.returns-clause-above
returns-clause-above c = numbered (rows_view c.self.inside.core.items.rows.items) c.in-Some.number (row_view c.in-Some-item_of.item) (search rules)

pub returns-clause-some : goal.returns-clause-some
returns-clause-some c =
    let got : slice_get c.self.inside.core.items.newly.items c.args.place ≡ Some c.in-Some.number = search rules in
    let there : row_of (rows_view c.self.inside.core.items.rows.items) c.in-Some.number ≡ Some (row_view c.in-Some-item_of.item) = search rules in
    rw (← c.self.view_is) (
      got,
      some_ranked c.self.inside.program c.self.invariant.whole (map event_view c.self.inside.history.items) c.self.inside.core c.self.invariant.stand c.in-Some.number (row_view c.in-Some-item_of.item) there
          (row_live c.self.inside c.self.invariant c.args.place c.in-Some.number got (row_view c.in-Some-item_of.item) there) _ (c.order_of-kind.ensures.kind ∙ ap (λ (j : Job). job_kind c.self.inside.program j) c.job.ensures) _ (search rules),
    )
