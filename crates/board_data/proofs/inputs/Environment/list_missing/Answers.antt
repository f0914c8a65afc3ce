use Rattle.std.proofs.Common.{◌≡◌, ℕ, ◌+◌, ◌-◌, ◌<◌, length, subst, arith}
use Rattle.smallvec.specs.SmallVec.{HasRoomFor}
use Rattle.board_data.proofs.Missed.{missed_next}
use Rattle.board_data.proofs.inputs.Environment.list_missing.Goals as goal

one_less : (n i : ℕ) → i < n → n - i ≡ (n - (i + 1)) + 1
one_less n i h = omega (arith, h)

pub loop-wanted-preserved : goal.loop-wanted-preserved
loop-wanted-preserved c = (
  missed_next _ _ _ _ c.args.needs.now c.loop-wanted.wanted-index c.wanted-item.result c.loop-wanted-test.true c.wanted-item.is c.loop-wanted.invariant.0 c.in_ok-push_missing.ensures.pushed,
  λ h. c.push_missing.ensures.room (length c.args.needs.now - (c.loop-wanted.wanted-index + 1)) (subst (HasRoomFor c.loop-wanted.inputs) (one_less (length c.args.needs.now) c.loop-wanted.wanted-index c.loop-wanted-test.true) (c.loop-wanted.invariant.1 h)),
)
