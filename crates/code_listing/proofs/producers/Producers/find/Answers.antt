use Rattle.std.proofs.Common.{rules, arith, ◌≡◌, ◌<◌, length, get_or}
use Rattle.std.proofs.lemmas.Grind.{common_steps}
use Rattle.code_listing.specs.Labels.{maker_of}
use Rattle.code_listing.specs.Order.{bodies_made, maker_among}
use Rattle.code_listing.proofs.Ordering.{bodies_step}
use Rattle.code_listing.proofs.producers.Producers.find.Goals as goal

pub loop-place-preserved : goal.loop-place-preserved
loop-place-preserved c = λ n.
    let ps = c.args.positions.now.items in
    let within : c.loop-place.place < length ps = grind (arith, common_steps) in
    let item : get_or ps c.loop-place.place c.index.result.now ≡ c.index.result.now = search rules in
    bodies_step c.args.code.now ps c.loop-place.place n (maker_of c.loop-place.producers n) (maker_of c.add_body.new.self n) (maker_among 0 (bodies_made c.args.code.now ps) n) c.index.result.now
    within item (c.loop-place.invariant n) (c.in_ok-add_body.ensures n)
