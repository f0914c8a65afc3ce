use Rattle.std.proofs.Common.{rules, arith, ◌≡◌, ◌∙◌, refl, ap, false, List, length, map, take}
use Rattle.std.proofs.Math.Seq.{take-length}
use Rattle.task_code.specs.declared.event.Event.{Event}
use Rattle.task_code.specs.declared.event.Event.TheVariants.{Begin}
use Rattle.task_code.specs.View.{event_view}
use Rattle.swt_trace.proofs.Refusals.{left_at}
use Rattle.swt_trace.proofs.Replays.{by_worker, no_step_at}
use Rattle.swt_trace.proofs.replay.take_all.Goals as goal

pub take_step-requires-clause-worker : goal.take_step-requires-clause-worker
take_step-requires-clause-worker c =
    by_worker c.requires.trace.0 c.args.events.now c.args.events.now c.loop-place.place (Begin 0 0) c.requires.trace.1 c.requires.trace.2 refl c.loop-place-test.true

pub returns-then-not-branch-clause-no_step : goal.returns-then-not-branch-clause-no_step
returns-then-not-branch-clause-no_step c = λ n e bytes ending trace.
    let items = c.args.events.now in
    let refused : c.in_ok-take_step.field-0 ≡ false = search rules in
    no_step_at c.args.board.now.code bytes items items c.loop-place.place n (Begin 0 0) c.loop-place.board c.take_step.new.board c.in_ok-take_step.field-0
    ending trace refl c.loop-place-test.true c.loop-place.invariant.code c.loop-place.invariant.history
    c.in_ok-take_step.ensures refused c.history-replays.ensures.replays e

pub returns-then-not-branch-clause-left : goal.returns-then-not-branch-clause-left
returns-then-not-branch-clause-left c = λ n e.
    let refused : c.in_ok-take_step.field-0 ≡ false = search rules in
    left_at c.args.board.now.code c.args.events.now c.loop-place.place (Begin 0 0) c.loop-place.board c.take_step.new.board c.in_ok-take_step.field-0
    c.loop-place.invariant.code c.loop-place.invariant.history c.in_ok-take_step.ensures refused

pub returns-clause-history : goal.returns-clause-history
returns-clause-history c =
    let items = c.args.events.now in
    let last : c.loop-place.place ≡ length items = omega (arith, c.loop-place-test.false, c.loop-place.auto.place-end) in
    let all : take c.loop-place.place items ≡ items = ap (λ k. take k items) last ∙ take-length items in
    c.loop-place.invariant.history ∙ ap (λ (es : List Event). map event_view es) all
