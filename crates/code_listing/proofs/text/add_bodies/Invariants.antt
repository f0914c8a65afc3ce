use Rattle.std.proofs.Common.{drop}
use Rattle.code_listing.specs.Buffers.{Leaves}
use Rattle.code_listing.specs.Labels.{drawing_labels, infos_of}
use Rattle.code_listing.specs.Listing.{bodies_text}
use Rattle.code_listing.specs.Order.{numbers_of}
use Rattle.code_listing.proofs.text.add_bodies.Given as goal

abbrev pub invariant-loop-place : goal.invariant-loop-place
invariant-loop-place g l =
    let C = l.drawing.code.now in
    let infos = infos_of l.drawing.found.now in
    let labels = drawing_labels l.drawing in
    let places = l.drawing.places.now.items in
    Leaves l.fn.page l.page (bodies_text C infos labels places 0 (numbers_of l.positions)) (bodies_text C infos labels places l.place (numbers_of (drop l.place l.positions)))
