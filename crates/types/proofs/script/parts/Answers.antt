use Rattle.std.proofs.Common.{◌≡◌, ◌<◌, ◌+◌, List, map, drop, get_or, length, ◌∙◌, arith}
use Rattle.std.proofs.lemmas.Result.{err_from_is_err_and}
use Rattle.syntax_trees.specs.View.{part_of}
use Rattle.types.specs.Known.{around_of}
use Rattle.types.specs.Functions.{signatures_of}
use Rattle.types.specs.Scripts.{parts_checked}
use Rattle.types.proofs.lists.Rest.{rest_more}
use Rattle.types.proofs.lists.Free.{free}
use Rattle.types.proofs.script.parts.Goals as goal

pub returns-in_err-above : goal.returns-in_err-above
returns-in_err-above g c =
    let below : c.loop-item.item-index < length c.args.items.now = c.loop-item-test.true in
    let is : c.item-item.result ≡ get_or c.args.items.now c.loop-item.item-index c.item-item.result = c.item-item.is in
    let p = err_from_is_err_and c.from_residual.result c.from_residual.ensures.1 in
    rw (p.1, p.2) (λ m. c.loop-item.invariant.walks
    ∙ rest_more (λ (ys : List _). parts_checked (signatures_of c.args.functions.now) c.loop-item.above (around_of c.loop-item.scope) (map (part_of {A = g.row.A.Denot}) ys) c.loop-item.settled.items) c.args.items.now c.loop-item.item-index c.item-item.result below is
    ∙ c.in_err-above.ensures.stops m (map (part_of {A = g.row.A.Denot}) (drop (c.loop-item.item-index + 1) c.args.items.now)))

pub loop-item-preserved : goal.loop-item-preserved
loop-item-preserved g c =
    let below : c.loop-item.item-index < length c.args.items.now = c.loop-item-test.true in
    let is : c.item-item.result ≡ get_or c.args.items.now c.loop-item.item-index c.item-item.result = c.item-item.is in
    let counts = c.in_ok-above.ensures.counts in
    let low = c.loop-item.invariant.fewer in
    record {
      walks = c.loop-item.invariant.walks
          ∙ rest_more (λ (ys : List _). parts_checked (signatures_of c.args.functions.now) c.loop-item.above (around_of c.loop-item.scope) (map (part_of {A = g.row.A.Denot}) ys) c.loop-item.settled.items) c.args.items.now c.loop-item.item-index c.item-item.result below is
          ∙ c.in_ok-above.ensures.goes_on (map (part_of {A = g.row.A.Denot}) (drop (c.loop-item.item-index + 1) c.args.items.now));
      fewer = omega arith;
    }

pub drop-scope-requires-6 : goal.drop-scope-requires-6
drop-scope-requires-6 g c κs = (free κs.0, free κs.1.0)
