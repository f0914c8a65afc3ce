use Rattle.std.proofs.Common.{rules, ◌≡◌, ◌<◌, ◌≤◌, length, get_or, arith}
use Rattle.std.proofs.lemmas.Grind.{common_steps}
use Rattle.meaning_openings.proofs.Larger.{counted_all, counted_next}
use Rattle.meaning_openings.proofs.live_limits.has_more_turns.Goals as goal

pub loop-instance-preserved : goal.loop-instance-preserved
loop-instance-preserved c =
    let xs = c.args.instances.now in
    let i = c.loop-instance.instance-index in
    let within : c.loop-instance.instance-index < length c.args.instances.now = search rules in
    let item : c.instance-item.result ≡ get_or c.args.instances.now c.loop-instance.instance-index c.instance-item.result = search rules in
    let next = counted_next xs i c.instance-item.result within item in
    let inv = c.loop-instance.invariant in
    grind (arith, common_steps)

pub returns : goal.returns
returns c =
    let past : length c.args.instances.now ≤ c.loop-instance.instance-index = search rules in
    let none = counted_all c.loop-instance.instance-index c.args.instances.now c.loop-instance.instance-index past in
    let inv = c.loop-instance.invariant in
    λ e. grind (arith, common_steps)
