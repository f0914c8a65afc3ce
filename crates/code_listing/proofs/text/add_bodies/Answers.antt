use Rattle.std.proofs.Common.{arith, ◌≡◌, ◌<◌, [], length, drop}
use Rattle.std.proofs.lemmas.Grind.{common_steps}
use Rattle.code_listing.specs.Labels.{drawing_labels, infos_of}
use Rattle.code_listing.specs.Listing.{bodies_text}
use Rattle.code_listing.specs.Order.{numbers_of}
use Rattle.code_listing.proofs.Ordering.{text_end, text_step}
use Rattle.code_listing.proofs.text.add_bodies.Goals as goal

pub loop-place-preserved : goal.loop-place-preserved
loop-place-preserved g c =
    let d = c.args.drawing.now in
    let ps = c.args.positions.now in
    let within : c.loop-place.place < length ps = grind (arith, common_steps) in
    let whole = bodies_text d.code.now (infos_of d.found.now) (drawing_labels {A = g.row.A.Denot} d) d.places.now.items 0 (numbers_of ps) in
    text_step d.code.now (infos_of d.found.now) (drawing_labels {A = g.row.A.Denot} d) d.places.now.items c.args.page.now c.loop-place.page c.add_body.new.page whole ps c.loop-place.place _ within c.loop-place.invariant c.add_body.ensures

pub returns : goal.returns
returns g c =
    let d = c.args.drawing.now in
    let ps = c.args.positions.now in
    let behind : drop c.loop-place.place ps ≡ [] = grind (arith, common_steps) in
    let whole = bodies_text d.code.now (infos_of d.found.now) (drawing_labels {A = g.row.A.Denot} d) d.places.now.items 0 (numbers_of ps) in
    text_end d.code.now (infos_of d.found.now) (drawing_labels {A = g.row.A.Denot} d) d.places.now.items c.args.page.now c.loop-place.page whole (drop c.loop-place.place ps) c.loop-place.place behind c.loop-place.invariant
