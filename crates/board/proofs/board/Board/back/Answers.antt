use Rattle.std.proofs.Common.{rules, arith, refl, sym, subst, map}
use Rattle.std.proofs.lemmas.Grind.{common_steps}
use Rattle.task_code.specs.View.{event_view}
use Rattle.task_code.specs.declared.event.Event.TheVariants as Events
use Rattle.board_instances.specs.View.{job_view, rows_view}
use Rattle.board.specs.Board.{IsGoing, Seen}
use Rattle.board.specs.Inside.{seen_of}
use Rattle.board.proofs.Own.{accepts_on, free_core, not_theirs, numbered, some_run, sound_on}
use Rattle.board.proofs.board.Board.back.Goals as goal

pub returns-in_default-clause-refused : goal.returns-in_default-clause-refused
returns-in_default-clause-refused c =
    (search rules, rw (← c.self.view_is) (not_theirs c.self.inside.program c.self.invariant.whole (map event_view c.self.inside.history.items) c.self.inside.core c.self.invariant.stand c.args.worker c.args.item c.in_default.ensures.none))

pub push_reserved-requires : goal.push_reserved-requires
push_reserved-requires c =
    let going : IsGoing c.args.self.now = search rules in
    let here : IsGoing (seen_of c.self.inside) = subst (λ (b : Seen). IsGoing b) (sym c.self.view_is) going in
    let none = free_core c.self.inside.program c.self.invariant.whole (map event_view c.self.inside.history.items) c.self.inside.core c.self.invariant.stand here.0 in
    let some = some_run c.self.inside.program c.self.invariant.whole (map event_view c.self.inside.history.items) c.self.inside.core c.self.invariant.stand c.args.worker c.args.item (job_view c.in-Some.job) c.in-Some.ensures.some in
    grind (arith, common_steps, c.self.invariant.room none, some)

pub invariant_of-self : goal.invariant_of-self
invariant_of-self c =
    let going : IsGoing c.args.self.now = search rules in
    let here : IsGoing (seen_of c.self.inside) = subst (λ (b : Seen). IsGoing b) (sym c.self.view_is) going in
    let none = free_core c.self.inside.program c.self.invariant.whole (map event_view c.self.inside.history.items) c.self.inside.core c.self.invariant.stand here.0 in
    let some = some_run c.self.inside.program c.self.invariant.whole (map event_view c.self.inside.history.items) c.self.inside.core c.self.invariant.stand c.args.worker c.args.item (job_view c.in-Some.job) c.in-Some.ensures.some in
    sound_on c.self.inside c.self.invariant (record { program = c.self.inside.program; most_names = c.self.inside.most_names; limit = c.self.inside.limit; core = c.back.new.self; history = c.push_reserved.new.self; known = c.self.inside.known; answers = c.self.inside.answers }) (Events.Back c.args.worker c.args.item) refl refl refl (search rules)
    (c.back.ensures.stand (map event_view c.self.inside.history.items) c.args.worker c.self.invariant.whole c.self.invariant.stand none c.in-Some.ensures.some)
    (λ h. grind (arith, common_steps, c.self.invariant.room none, some, c.back.ensures.running))
    (grind (arith, common_steps, here.1))
    c.requires
    (numbered (rows_view c.self.inside.core.items.rows.items) c.args.item _ c.in-Some.ensures.some, search rules)

pub returns-clause-accepted : goal.returns-clause-accepted
returns-clause-accepted c =
    let going : IsGoing c.args.self.now = search rules in
    let here : IsGoing (seen_of c.self.inside) = subst (λ (b : Seen). IsGoing b) (sym c.self.view_is) going in
    let none = free_core c.self.inside.program c.self.invariant.whole (map event_view c.self.inside.history.items) c.self.inside.core c.self.invariant.stand here.0 in
    rw (← c.self.view_is) (accepts_on c.self.inside c.self.invariant (record { program = c.self.inside.program; most_names = c.self.inside.most_names; limit = c.self.inside.limit; core = c.back.new.self; history = c.push_reserved.new.self; known = c.self.inside.known; answers = c.self.inside.answers }) (Events.Back c.args.worker c.args.item) refl refl (search rules)
    (c.back.ensures.stand (map event_view c.self.inside.history.items) c.args.worker c.self.invariant.whole c.self.invariant.stand none c.in-Some.ensures.some) here)
