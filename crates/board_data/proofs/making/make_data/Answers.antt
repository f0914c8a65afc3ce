use Rattle.std.proofs.Common.{◌∙◌, ap, arith}
use Rattle.std.proofs.lemmas.List.{get_or-set_other}
use Rattle.board_data.specs.Made.{slot_in, start_at}
use Rattle.board_data.proofs.Rising.{made_rises}
use Rattle.board_data.proofs.Rows.{made_next, room_next}
use Rattle.board_data.proofs.making.make_data.Goals as goal
use Rattle.board_data.proofs.making.make_data.Goals.{then-at-slots, else-at-slots}

pub loop-at-preserved : goal.loop-at-preserved
loop-at-preserved c = (
  (λ h. elim c.if-at-slots.branch [
    | then-at-slots w ↦ made_next c.args.own.now (start_at c.args.starts) c.loop-at.at c.args.store.now c.loop-at.store c.make_datum.new.store c.loop-at.slots c.if-at-slots.slots _ c.take-first.result c.in_ok-slot.slot (c.loop-at.invariant.0 h) c.loop-at-test.true w.if-at-slots.true w.slots-is (c.take-first.ensures.value ∙ c.loop-at.invariant.2 c.loop-at.at (omega arith)) c.in_ok-slot.ensures.absent c.in_ok-slot.ensures.same c.in_ok-slot.ensures.made
    | else-at-slots w ↦ absurd (omega (arith, h, c.loop-at-test.true, c.loop-at.auto.slots, w.if-at-slots.false))
  ]),
  (λ i h. elim c.if-at-slots.branch [
    | then-at-slots w ↦ ap (λ xs. slot_in xs i) w.slots-is ∙ get_or-set_other c.loop-at.slots c.loop-at.at i c.in_ok-slot.slot _ (λ e. omega (arith, e, h, c.loop-at-test.true)) ∙ c.loop-at.invariant.1 i h
    | else-at-slots w ↦ ap (λ xs. slot_in xs i) w.slots-is ∙ c.loop-at.invariant.1 i h
  ]),
  (λ i h. c.take-first.ensures.others i (λ e. omega (arith, e, h)) ∙ c.loop-at.invariant.2 i (omega (arith, h))),
  (λ h. room_next _ c.loop-at.store c.make_datum.new.store c.loop-at.at _ c.take-first.result c.in_ok-slot.slot (c.loop-at.invariant.3 h) c.in_ok-slot.ensures.same c.in_ok-slot.ensures.made),
  (λ r. made_rises c.loop-at.store c.make_datum.new.store _ c.take-first.result c.in_ok-slot.slot c.in_ok-slot.ensures.same c.in_ok-slot.ensures.made (c.loop-at.invariant.4 r)),
  (λ h. c.make_datum.ensures.bound (omega (arith, c.loop-at-test.true, c.loop-at.invariant.3 h)) ∙ c.loop-at.invariant.5 h),
)
