use Rattle.std.proofs.Common.{arith, ◌≡◌, ◌<◌, ◌∙◌, ap, take, get_or, length}
use Rattle.std.proofs.lemmas.List.{length-map, length-take}
use Rattle.task_code.specs.declared.event.Event.{Event}
use Rattle.task_code.specs.View.{event_view}
use Rattle.dataflow.specs.Events.{worker_of}
use Rattle.board_runs.proofs.Tallies.{counted_at, none_counted, tally_small}
use Rattle.board_runs.proofs.tally.tallies.Goals as goal

pub loop-event-init : goal.loop-event-init
loop-event-init c = none_counted

pub count-requires : goal.count-requires
count-requires c =
    let small = tally_small _ c.loop-event.tallies c.worker_of_event.result c.loop-event.invariant in
    omega (arith, small, length-map (take c.loop-event.event-index c.args.history.now.items) event_view, length-take c.loop-event.event-index c.args.history.now.items, c.loop-event-test.true, c.deref-event-items.ensures.len)

pub loop-event-preserved : goal.loop-event-preserved
loop-event-preserved c =
    let l : c.loop-event.event-index < length c.args.history.now.items = rw (← c.deref-event-items.ensures.value) c.loop-event-test.true in
    let is : c.event-item.result ≡ get_or c.args.history.now.items c.loop-event.event-index c.event-item.result = cc in
    counted_at c.args.history.now.items c.loop-event.event-index c.event-item.result c.loop-event.tallies c.count.new.tallies c.worker_of_event.result l c.loop-event.invariant
    (c.worker_of_event.ensures ∙ ap (λ (e : Event). worker_of (event_view e)) is)
    c.count.ensures
