use Rattle.std.proofs.Common.{◌++◌, List, ap₂}
use Rattle.flow.specs.Cells.{Anchor, function_anchors}
use Rattle.flow.specs.Listed.{Listed, Shown, function_shown, whole}
use Rattle.wait_merge.proofs.Lists.{joined_same}
use Rattle.wait_merge.proofs.script.merge.Goals as goal

pub returns-clause-shown : goal.returns-clause-shown
returns-clause-shown g c =
    let A = g.row.A.Denot in
    ap₂ (λ (b : Listed) (fs : List Shown). whole b ++ fs) c.in_ok-merge_block.ensures.listed
    (joined_same (function_shown {A = A}) c.each.new.functions.items c.args.flow.functions.items c.in_ok-each.ensures.shown)

pub returns-clause-cells : goal.returns-clause-cells
returns-clause-cells g c =
    let A = g.row.A.Denot in
    ap₂ (λ (b fs : List Anchor). b ++ fs) c.in_ok-merge_block.ensures.cells
    (joined_same (function_anchors {A = A}) c.each.new.functions.items c.args.flow.functions.items c.in_ok-each.ensures.cells)
