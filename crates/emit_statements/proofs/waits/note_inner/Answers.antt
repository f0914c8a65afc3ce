use Rattle.std.proofs.Common.{◌≡◌, ◌<◌, arith, length, get_or, map, subst, List}
use Rattle.std.proofs.lemmas.Grind.{common_steps}
use Rattle.std.proofs.lemmas.List.{take_all}
use Rattle.flow.specs.View.{awaited_view}
use Rattle.flow.specs.declared.statement.Header.{Header}
use Rattle.code_rules.specs.Room.{AwaitedRoom, Each}
use Rattle.emit_cells.specs.PlainNeeds.{Notes}
use Rattle.emit_cells.proofs.Keys.{notes_none}
use Rattle.emit_statements.specs.Blocks.{inner_headers}
use Rattle.emit_statements.proofs.Merged.{each_at, inner_noted, needs_in}
use Rattle.emit_statements.proofs.waits.note_inner.Goals as goal

pub loop-merged-init : goal.loop-merged-init
loop-merged-init g c room = notes_none c.args.needs.now.keys

pub loop-merged-preserved : goal.loop-merged-preserved
loop-merged-preserved g c room =
    let A = g.row.A.Denot in
    let k = c.args.inputs in
    let hs = c.args.inner.now.items in
    let i = c.loop-merged.merged-index in
    let h = c.merged-item.result in
    let below : i < length hs = grind (arith, common_steps) in
    let is : h ≡ get_or hs i h = grind (arith, common_steps) in
    inner_noted {A = A} k hs i h c.args.needs.now.keys c.loop-merged.needs.keys c.note_names.new.needs.keys below is (c.loop-merged.invariant room)
    (c.in_ok-note_names.ensures (each_at (λ (x : Header A). Each (AwaitedRoom k) (map awaited_view x.names.items)) hs i h below is room))

pub returns : goal.returns
returns g c room =
    let A = g.row.A.Denot in
    let k = c.args.inputs in
    let hs = c.args.inner.now.items in
    subst (λ (l : List (Header A)). Notes c.args.needs.now.keys c.loop-merged.needs.keys (needs_in (inner_headers {A = A} k l))) (take_all c.loop-merged.merged-index hs (grind (arith, common_steps))) (c.loop-merged.invariant room)
