use Rattle.std.proofs.Common.{map, drop}
use Rattle.std.specs.List.{flat_map}
use Rattle.task_code.specs.View.{need_view}
use Rattle.code_listing.specs.Buffers.{Leaves}
use Rattle.code_listing.specs.Labels.{labels_of}
use Rattle.code_listing.specs.Listing.{need_text}
use Rattle.code_listing.proofs.needs.needs.Given as goal

abbrev pub invariant-loop-need : goal.invariant-loop-need
invariant-loop-need g l =
    let all = map need_view l.entry.needs.items in
    Leaves l.fn.page l.page (flat_map (need_text (labels_of l.scope) l.scope.function) all)
    (flat_map (need_text (labels_of l.scope) l.scope.function) (map need_view (drop l.need-index l.entry.needs.items)))
