use Rattle.std.proofs.Common.{◌≡◌, ℕ, drop, map}
use Rattle.task_code.specs.View.{name_view}
use Rattle.code_listing.specs.Labels.{maker_of}
use Rattle.code_listing.specs.Order.{made_all, maker_among, own_nodes}
use Rattle.code_listing.proofs.producers.Producers.add_outputs.Given as goal

abbrev pub invariant-loop-output : goal.invariant-loop-output
invariant-loop-output l = (n : ℕ) → maker_among (maker_of l.self n) (made_all l.number (own_nodes (map name_view (drop l.output-index l.outputs.items)))) n
    ≡ maker_among (maker_of l.fn.self n) (made_all l.number (own_nodes (map name_view l.outputs.items))) n
