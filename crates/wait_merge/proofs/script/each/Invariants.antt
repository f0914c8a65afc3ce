use Rattle.std.proofs.Common.{◌≡◌, IsTrue, map, take, length}
use Rattle.flow.specs.View.{function_view}
use Rattle.flow.specs.Shapes.{block_declared, kinds_of_function}
use Rattle.flow.specs.Cells.{function_anchors}
use Rattle.flow.specs.Listed.{function_shown}
use Rattle.wait_merge.specs.Merged.{functions_merged}
use Rattle.wait_merge.proofs.script.each.Given as goal

abbrev pub invariant-loop-i : goal.invariant-loop-i
invariant-loop-i g l =
    (length l.functions.items ≡ length l.initial.functions.items)
    × (map function_view l.functions.items ≡ map function_view l.initial.functions.items)
    × (map (λ f. block_declared f.body) l.functions.items ≡ map (λ f. block_declared f.body) l.initial.functions.items)
    × (map kinds_of_function l.functions.items ≡ map kinds_of_function l.initial.functions.items)
    × (map function_shown l.functions.items ≡ map function_shown l.initial.functions.items)
    × (map function_anchors l.functions.items ≡ map function_anchors l.initial.functions.items)
    × IsTrue (functions_merged (take l.i l.functions.items))
