use Rattle.std.proofs.Common.{rules, ◌≡◌, ◌<◌, ◌++◌, ◌∷◌, [], length, get_or}
use Rattle.language.specs.Parts.{part_calls}
use Rattle.flow.specs.View.{part_view, parts_view}
use Rattle.meaning_cells.specs.Listed.{calls_listed}
use Rattle.meaning_cells.proofs.Parting.{parts_end, parts_more}
use Rattle.meaning_cells.proofs.parts.add_calls.Goals as goal

pub loop-part-preserved : goal.loop-part-preserved
loop-part-preserved g c =
    let A = g.row.A.Denot in
    let ps = c.args.parts.now in
    let within : c.loop-part.part-index < length c.args.parts.now = c.loop-part-test.true in
    let item : get_or c.args.parts.now c.loop-part.part-index c.part-item.result ≡ c.part-item.result = search rules in
    let added : calls_listed {A = g.row.A.Denot} c.add_call.new.calls.items ≡ calls_listed {A = g.row.A.Denot} c.loop-part.calls.items ++ part_calls (part_view {A = g.row.A.Denot} c.part-item.result ∷ []) = search rules in
    parts_more {A = A} (calls_listed {A = A} c.args.calls.now.items ++ part_calls (parts_view {A = A} ps)) (calls_listed {A = A} c.loop-part.calls.items) (calls_listed {A = A} c.add_call.new.calls.items) ps c.loop-part.part-index c.part-item.result within item c.loop-part.invariant added

pub returns : goal.returns
returns g c =
    let A = g.row.A.Denot in
    parts_end {A = A} (calls_listed {A = A} c.args.calls.now.items ++ part_calls (parts_view {A = A} c.args.parts.now)) (calls_listed {A = A} c.loop-part.calls.items) c.args.parts.now c.loop-part.part-index c.loop-part-test.false c.loop-part.invariant
