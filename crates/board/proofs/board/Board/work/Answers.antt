use Rattle.std.proofs.Common.{rules, sym, subst, map}
use Rattle.board_history.specs.Fields.{Running}
use Rattle.task_code.specs.View.{event_view}
use Rattle.board_instances.specs.View.{job_view}
use Rattle.board.specs.Board.{IsGoing, Seen}
use Rattle.board.specs.Inside.{seen_of}
use Rattle.board.proofs.Own.{free_core, not_theirs, theirs}
use Rattle.board.proofs.OwnWork.{job_there, own_seen, running_live}
use Rattle.board.proofs.board.Board.work.Goals as goal

pub returns-in_default-clause-refused : goal.returns-in_default-clause-refused
returns-in_default-clause-refused c =
    (search rules, rw (← c.self.view_is) (not_theirs c.self.inside.program c.self.invariant.whole (map event_view c.self.inside.history.items) c.self.inside.core c.self.invariant.stand c.args.worker c.args.item c.in_default.ensures.none))

pub returns-in_default-work-clause-refused : goal.returns-in_default-work-clause-refused
returns-in_default-work-clause-refused c =
    (search rules, rw (← c.self.view_is) (theirs c.self.inside.program c.self.invariant.whole (map event_view c.self.inside.history.items) c.self.inside.core c.self.invariant.stand c.args.worker c.args.item (job_view c.in-Some.job) c.in-Some.ensures.some))

pub work-requires : goal.work-requires
work-requires c =
    job_there c.self.inside.program c.self.invariant.whole (map event_view c.self.inside.history.items) c.self.inside.core c.self.invariant.stand c.args.item (job_view c.in-Some.job) (Running c.args.worker) c.in-Some.ensures.some (running_live c.args.worker)

pub returns-clause-own : goal.returns-clause-own
returns-clause-own c =
    let going : IsGoing c.args.self.now = search rules in
    let here : IsGoing (seen_of c.self.inside) = subst (λ (b : Seen). IsGoing b) (sym c.self.view_is) going in
    let none = free_core c.self.inside.program c.self.invariant.whole (map event_view c.self.inside.history.items) c.self.inside.core c.self.invariant.stand here.0 in
    rw (← c.self.view_is) (own_seen c.self.inside c.self.invariant none c.args.worker c.args.item (job_view c.in-Some.job) c.in-Some.ensures.some c.in-Ok.work c.in-Ok.ensures.number c.in-Ok.ensures.own)
