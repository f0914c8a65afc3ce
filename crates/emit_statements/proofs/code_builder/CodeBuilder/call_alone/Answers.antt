use Rattle.std.proofs.Common.{[], ◌∷◌, ◌++◌, map, refl, arith}
use Rattle.std.proofs.lemmas.Grind.{common_steps}
use Rattle.language.specs.Core.{calls}
use Rattle.flow.specs.Shapes.{kinds_of_function}
use Rattle.flow.specs.View.{call_view, parts_view}
use Rattle.emit_cells.proofs.Lays.{parts_laid}
use Rattle.emit_statements.specs.Into.{laying}
use Rattle.emit_statements.proofs.Into.{call_laid}
use Rattle.emit_statements.proofs.Few.{added_few}
use Rattle.emit_statements.proofs.code_builder.CodeBuilder.call_alone.Goals as goal

pub returns-clause-laid : goal.returns-clause-laid
returns-clause-laid g c roots node bodies room few =
    let A = g.row.A.Denot in
    let s = c.args.standing in
    let fs = map (kinds_of_function {A = A}) c.args.functions.now.items in
    let ps = parts_view {A = A} c.args.parts.now.items in
    let call = call_view {A = A} c.args.call.now in
    let all = ps ++ calls call ∷ [] in
    let old = c.args.self.now.entries.items in
    let new = c.add_call_entries.new.entries.items in
    let added = c.in_ok-add_call_entries.ensures.added room.0 room.1 in
    call_laid fs roots node s.inputs s.at s.priority ps call bodies old new c.args.self.now.filling (record { makes = c.add_data.new.makes; entries = c.add_numbers.new.numbers }) c.len-from.result _ few added
    (parts_laid fs s.inputs all s.at s.priority (laying old bodies) (laying new bodies) added.more added.is refl added.chunk)
    c.in_ok-add_data.ensures (grind (arith, common_steps)) (grind (arith, common_steps)) c.in_ok-add_numbers.ensures

pub returns-clause-few : goal.returns-clause-few
returns-clause-few g c l room suits stand =
    let A = g.row.A.Denot in
    let s = c.args.standing in
    let fs = map (kinds_of_function {A = A}) c.args.functions.now.items in
    let all = parts_view {A = A} c.args.parts.now.items ++ calls (call_view {A = A} c.args.call.now) ∷ [] in
    let h = added_few fs s.inputs all s.at s.priority all c.args.self.now.entries.items c.add_call_entries.new.entries.items (c.in_ok-add_call_entries.ensures.added room.0 room.1) l suits.parts_plain suits.bodies stand in
    omega arith

pub returns-clause-marks : goal.returns-clause-marks
returns-clause-marks g c = c.in_ok-add_call_entries.ensures.marks
