use Rattle.std.proofs.Common.{rules, arith, ◌≡◌, ◌<◌, ◌++◌, length, get_or}
use Rattle.std.proofs.lemmas.Grind.{common_steps}
use Rattle.language.specs.Parts.{part_calls, outer_parts}
use Rattle.flow.specs.View.{parts_view}
use Rattle.meaning_cells.specs.Listed.{calls_listed, outers_listed}
use Rattle.meaning_cells.proofs.Parting.{outers_more}
use Rattle.meaning_cells.proofs.parts.add_outer_calls.Goals as goal

pub loop-outer-preserved : goal.loop-outer-preserved
loop-outer-preserved g c =
    let A = g.row.A.Denot in
    let os = c.args.outers.now in
    let within : c.loop-outer.outer-index < length c.args.outers.now = grind (arith, common_steps) in
    let item : get_or c.args.outers.now c.loop-outer.outer-index c.outer-item.result ≡ c.outer-item.result = search rules in
    let added : calls_listed {A = g.row.A.Denot} c.add_calls.new.calls.items ≡ calls_listed {A = g.row.A.Denot} c.loop-outer.calls.items ++ part_calls (parts_view {A = g.row.A.Denot} c.outer-item.result.now.parts.items) = search rules in
    outers_more {A = A} (calls_listed {A = A} c.args.calls.now.items ++ part_calls (outer_parts (outers_listed {A = A} os))) (calls_listed {A = A} c.loop-outer.calls.items) (calls_listed {A = A} c.add_calls.new.calls.items) os c.loop-outer.outer-index c.outer-item.result within item c.loop-outer.invariant added
