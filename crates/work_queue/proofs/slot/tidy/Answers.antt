use Rattle.std.proofs.Common.{rules, ◌≡◌, filter}
use Rattle.std.proofs.lemmas.Fn.{filter_same}
use Rattle.work_queue.proofs.Rising.{begins_filter, rising_filter, waiting_filter}
use Rattle.work_queue.proofs.slot.tidy.Goals as goal

pub returns-then-used-len-clause-run : goal.returns-then-used-len-clause-run
returns-then-used-len-clause-run c =
    let kept : c.retain.new.self.items ≡ filter (λ s. s.waits) c.args.slots.now.items = filter_same _ _ _ (λ x b f' k. search rules) _ _ c.retain.ensures.filtered in
    rw kept (record { rising = rising_filter _ c.args.slots.now.items c.requires.rising; begins = begins_filter c.args.slots.now.items })

pub returns-then-used-len-clause-same : goal.returns-then-used-len-clause-same
returns-then-used-len-clause-same c =
    let kept : c.retain.new.self.items ≡ filter (λ s. s.waits) c.args.slots.now.items = filter_same _ _ _ (λ x b f' k. search rules) _ _ c.retain.ensures.filtered in
    rw kept (waiting_filter c.args.slots.now.items)
