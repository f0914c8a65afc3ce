use Rattle.std.proofs.Common.{rules, ◌<◌, length}
use Rattle.std.proofs.lemmas.List.Sorted.{answers_always}
use Rattle.work_queue.specs.Slots.{entry_in}
use Rattle.work_queue.proofs.OrderLaws.{equal_is_same}
use Rattle.work_queue.proofs.Rising.{absent, absent_at_point, searchable}
use Rattle.work_queue.proofs.slot.search.Goals as goal

pub returns-in-Ok : goal.returns-in-Ok
returns-in-Ok c =
    let within : c.in-Ok.place < length c.args.slots.now.items = search rules in
    let equal = c.in-Ok.ensures.position entry_in (answers_always _ _ _ (λ f a r g called. search rules)) in
    (within, λ d. equal_is_same _ _ (equal d))

pub returns-in-Err : goal.returns-in-Err
returns-in-Err c =
    let apart = c.in-Err.ensures.position entry_in (answers_always _ _ _ (λ f a r g called. search rules)) in
    absent c.args.entry.now c.args.slots.now.items (absent_at_point c.args.entry.now c.args.slots.now.items _ (apart (searchable c.args.entry.now c.args.slots.now.items c.requires)))
