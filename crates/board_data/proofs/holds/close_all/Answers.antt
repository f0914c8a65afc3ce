use Rattle.std.proofs.Common.{◌≡◌, ℕ, ◌<◌, ◌≤◌, ◌+◌, ◌-◌, length, subst, vec_len, vec_capacity, arith}
use Rattle.board_instances.specs.Names.{spot_slot}
use Rattle.board_instances.specs.View.{frames_view}
use Rattle.board_data.proofs.Closed.{all_closing, closes_all, last_closing, next_closing, step}
use Rattle.board_data.proofs.Given.{gives_writes}
use Rattle.board_data.proofs.Rising.{few_closing, writes_rise}
use Rattle.board_data.proofs.Steps.{last_step, next_step}
use Rattle.board_data.proofs.holds.close_all.Goals as goal

one_less : (n i : ℕ) → i < n → n - i ≡ (n - (i + 1)) + 1
one_less n i h = omega (arith, h)

some_room : (a b n i : ℕ) → i < n → a + (n - i) ≤ b → a < b
some_room a b n i h r = omega (arith, h, r)

pub loop-spot-preserved : goal.loop-spot-preserved
loop-spot-preserved c =
    let f = spot_slot (frames_view c.args.instances.now.slots) c.args.at in (
      next_step (step f) c.args.writes.now c.loop-spot.spot-index _ c.loop-spot.store c.close_spot.new.store _ c.loop-spot-test.true c.loop-spot.invariant.0 c.close_spot.ensures.store,
      λ h. let p = c.loop-spot.invariant.1 h in (
        c.close_spot.ensures.room (length c.args.writes.now - (c.loop-spot.spot-index + 1)) (subst (λ k. vec_len c.loop-spot.closed + k ≤ vec_capacity c.loop-spot.closed) (one_less (length c.args.writes.now) c.loop-spot.spot-index c.loop-spot-test.true) p.0),
        next_closing f c.args.writes.now c.loop-spot.spot-index _ c.loop-spot.store c.close_spot.new.store c.loop-spot.closed.items c.close_spot.new.closed.items _ c.loop-spot-test.true p.1 c.close_spot.ensures.store (c.close_spot.ensures.closed (some_room (vec_len c.loop-spot.closed) (vec_capacity c.loop-spot.closed) (length c.args.writes.now) c.loop-spot.spot-index c.loop-spot-test.true p.0)),
      ),
    )

pub returns : goal.returns
returns c =
    let f = spot_slot (frames_view c.args.instances.now.slots) c.args.at in
    let e = last_step (step f) c.args.writes.now c.loop-spot.spot-index c.loop-spot.store _ c.loop-spot-test.false c.loop-spot.invariant.0 in
    record {
      store = gives_writes f c.args.writes.now c.args.store.now c.loop-spot.store e;
      rising = writes_rise f c.args.writes.now c.args.store.now c.loop-spot.store e;
      closed = λ h. (all_closing f c.args.writes.now c.args.store.now, last_closing f c.args.writes.now c.loop-spot.spot-index c.loop-spot.store c.loop-spot.closed.items _ c.loop-spot-test.false (c.loop-spot.invariant.1 h).1, few_closing f c.args.writes.now c.args.store.now, closes_all f c.args.writes.now c.args.store.now);
    }
