use Rattle.std.proofs.Common.{[], ◌∷◌, map, refl, arith}
use Rattle.std.proofs.lemmas.Grind.{common_steps}
use Rattle.language.specs.Parts.{outer_parts}
use Rattle.flow.specs.Shapes.{kinds_of_function}
use Rattle.flow.specs.View.{outer_view}
use Rattle.emit_cells.proofs.Lays.{parts_laid}
use Rattle.emit_statements.specs.Into.{laying}
use Rattle.emit_statements.proofs.Few.{added_few}
use Rattle.emit_statements.proofs.Layings.{parts_into}
use Rattle.emit_statements.proofs.code_builder.CodeBuilder.condition_parts.Goals as goal

pub returns-clause-laid : goal.returns-clause-laid
returns-clause-laid g c bodies room few =
    let A = g.row.A.Denot in
    let s = c.args.standing in
    let k = s.inputs in
    let fs = map (kinds_of_function {A = A}) c.args.functions.now.items in
    let ps = outer_parts (outer_view {A = A} c.args.condition.now ∷ []) in
    let old = c.args.self.now.entries.items in
    let new = c.add_condition.new.entries.items in
    let added = c.in_ok-add_condition.ensures.added room in
    parts_into fs k s.at s.priority ps bodies old new c.args.self.now.filling (record { makes = c.add_outer_data.new.makes; entries = c.add_numbers.new.numbers }) c.len-from.result _ few added
    (parts_laid fs k ps s.at s.priority (laying old bodies) (laying new bodies) added.more added.is refl added.chunk)
    c.in_ok-add_outer_data.ensures (grind (arith, common_steps)) (grind (arith, common_steps)) c.in_ok-add_numbers.ensures

pub returns-clause-few : goal.returns-clause-few
returns-clause-few g c l room plain bodies stand =
    let A = g.row.A.Denot in
    let s = c.args.standing in
    let fs = map (kinds_of_function {A = A}) c.args.functions.now.items in
    let ps = outer_parts (outer_view {A = A} c.args.condition.now ∷ []) in
    added_few fs s.inputs ps s.at s.priority ps c.args.self.now.entries.items c.add_condition.new.entries.items (c.in_ok-add_condition.ensures.added room) l plain bodies stand

pub returns-clause-marks : goal.returns-clause-marks
returns-clause-marks g c = c.in_ok-add_condition.ensures.marks
