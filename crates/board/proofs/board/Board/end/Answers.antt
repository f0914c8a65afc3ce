use Rattle.std.proofs.Common.{rules, sym, subst, map}
use Rattle.board_history.specs.Fields.{Running}
use Rattle.task_code.specs.View.{event_view}
use Rattle.board_data.specs.View.{cells_view}
use Rattle.board_instances.specs.View.{frames_view, job_view}
use Rattle.board.specs.Board.{IsGoing, Seen}
use Rattle.board.specs.Inside.{seen_of}
use Rattle.board.specs.Working.{IsWorkAt}
use Rattle.board.proofs.Ends.{ok_from}
use Rattle.board.proofs.Own.{free_core, not_theirs, not_true, theirs}
use Rattle.board.proofs.OwnWork.{job_there, own_seen, running_live, seen_own}
use Rattle.board.proofs.board.Board.end.Goals as goal

pub returns-in_default-clause-refused : goal.returns-in_default-clause-refused
returns-in_default-clause-refused c =
    (search rules, rw (← c.self.view_is, ← c.item.ensures) (not_theirs c.self.inside.program c.self.invariant.whole (map event_view c.self.inside.history.items) c.self.inside.core c.self.invariant.stand c.args.worker c.item.result c.in_default.ensures.none))

pub matches_item-requires-clause-rising : goal.matches_item-requires-clause-rising
matches_item-requires-clause-rising c = c.self.invariant.stand.kept.rising

pub matches_item-requires-clause-there : goal.matches_item-requires-clause-there
matches_item-requires-clause-there c =
    job_there c.self.inside.program c.self.invariant.whole (map event_view c.self.inside.history.items) c.self.inside.core c.self.invariant.stand c.item.result (job_view c.in-Some.job) (Running c.args.worker) c.in-Some.ensures.some (running_live c.args.worker)

pub returns-then-not-matches_item-clause-refused : goal.returns-then-not-matches_item-clause-refused
returns-then-not-matches_item-clause-refused c =
    let going : IsGoing c.args.self.now = search rules in
    let here : IsGoing (seen_of c.self.inside) = subst (λ (b : Seen). IsGoing b) (sym c.self.view_is) going in
    let none = free_core c.self.inside.program c.self.invariant.whole (map event_view c.self.inside.history.items) c.self.inside.core c.self.invariant.stand here.0 in (
      going,
      rw (← c.self.view_is, ← c.item.ensures) (theirs c.self.inside.program c.self.invariant.whole (map event_view c.self.inside.history.items) c.self.inside.core c.self.invariant.stand c.args.worker c.item.result (job_view c.in-Some.job) c.in-Some.ensures.some),
      rw (← c.self.view_is) (λ o. not_true c.matches_item.result (search rules) (c.matches_item.ensures.1 (seen_own c.self.inside c.self.invariant none c.args.worker c.item.result (job_view c.in-Some.job) c.in-Some.ensures.some c.args.done (sym c.item.ensures) o))),
    )

pub end_trusted-requires-clause-own : goal.end_trusted-requires-clause-own
end_trusted-requires-clause-own c =
    let going : IsGoing c.args.self.now = search rules in
    let here : IsGoing (seen_of c.self.inside) = subst (λ (b : Seen). IsGoing b) (sym c.self.view_is) going in
    let none = free_core c.self.inside.program c.self.invariant.whole (map event_view c.self.inside.history.items) c.self.inside.core c.self.invariant.stand here.0 in
    let at : IsWorkAt c.self.inside.program (frames_view c.self.inside.core.data_state.instances.slots) (cells_view c.self.inside.core.data_state.store.cells) (job_view c.in-Some.job) c.args.done = c.matches_item.ensures.0 (search rules) in
    rw (← c.self.view_is) (own_seen c.self.inside c.self.invariant none c.args.worker c.item.result (job_view c.in-Some.job) c.in-Some.ensures.some c.args.done (sym c.item.ensures) at)

pub returns-clause-own : goal.returns-clause-own
returns-clause-own c =
    let going : IsGoing c.args.self.now = search rules in
    let here : IsGoing (seen_of c.self.inside) = subst (λ (b : Seen). IsGoing b) (sym c.self.view_is) going in
    let none = free_core c.self.inside.program c.self.invariant.whole (map event_view c.self.inside.history.items) c.self.inside.core c.self.invariant.stand here.0 in
    let at : IsWorkAt c.self.inside.program (frames_view c.self.inside.core.data_state.instances.slots) (cells_view c.self.inside.core.data_state.store.cells) (job_view c.in-Some.job) c.args.done = c.matches_item.ensures.0 (search rules) in
    ok_from c.end_trusted.result (λ _. rw (← c.self.view_is) (own_seen c.self.inside c.self.invariant none c.args.worker c.item.result (job_view c.in-Some.job) c.in-Some.ensures.some c.args.done (sym c.item.ensures) at))
