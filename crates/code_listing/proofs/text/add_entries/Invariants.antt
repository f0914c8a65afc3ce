use Rattle.std.proofs.Common.{drop}
use Rattle.code_listing.specs.Buffers.{Leaves}
use Rattle.code_listing.specs.Labels.{drawing_labels}
use Rattle.code_listing.specs.Listing.{entries_text}
use Rattle.code_listing.proofs.text.add_entries.Given as goal

abbrev pub invariant-loop-k : goal.invariant-loop-k
invariant-loop-k g l =
    let C = l.drawing.code.now in
    let labels = drawing_labels l.drawing in
    let places = l.drawing.places.now.items in
    Leaves l.fn.page l.page (entries_text C labels l.function places 0 l.entries) (entries_text C labels l.function places l.k (drop l.k l.entries))
