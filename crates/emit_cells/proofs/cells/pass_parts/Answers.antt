use Rattle.std.proofs.Common.{sym, subst, take, List, arith}
use Rattle.std.proofs.lemmas.List.{take_all, length-map}
use Rattle.language.specs.Core.{Part}
use Rattle.flow.specs.View.{part_view, parts_view}
use Rattle.emit_cells.specs.Chunk.{Passes, part_at}
use Rattle.emit_cells.proofs.Passing.{passes_both, passes_none, taken_more}
use Rattle.emit_cells.proofs.cells.pass_parts.Goals as goal

pub loop-at-init : goal.loop-at-init
loop-at-init g c all room inside = passes_none c.args.passed.now

pub loop-at-preserved : goal.loop-at-preserved
loop-at-preserved g c all room inside =
    let A = g.row.A.Denot in
    let ps = parts_view {A = A} c.args.parts.now.items in
    let i = c.loop-at.at in
    subst (λ (l : List Part). Passes c.args.inputs all l c.args.passed.now c.pass_part.new.passed) (sym (taken_more ps i))
    (passes_both (take i ps) (part_at ps i) c.args.passed.now c.loop-at.passed c.pass_part.new.passed (c.loop-at.invariant all room inside) (c.in_ok-pass_part.ensures all room inside))

pub returns : goal.returns
returns g c all room inside =
    let A = g.row.A.Denot in
    let ps = parts_view {A = A} c.args.parts.now.items in
    subst (λ (l : List Part). Passes c.args.inputs all l c.args.passed.now c.loop-at.passed) (take_all c.loop-at.at ps (omega (arith, length-map c.args.parts.now.items (part_view {A = A})))) (c.loop-at.invariant all room inside)
