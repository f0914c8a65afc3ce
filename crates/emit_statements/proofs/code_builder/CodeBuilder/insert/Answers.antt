use Rattle.std.proofs.Common.{map, refl, subst, arith, ℤ}
use Rattle.std.proofs.lemmas.Grind.{common_steps}
use Rattle.language.specs.Core as core
use Rattle.language_laws.specs.TypedValues.{own_parts}
use Rattle.flow.specs.Shapes.{kinds_of_function}
use Rattle.flow.specs.View.{name_view, outer_view}
use Rattle.code_rules.specs.IsCodeOf.{own_priority}
use Rattle.emit_cells.specs.Chunk.{Added}
use Rattle.flow.proofs.Growing.{grows_still}
use Rattle.emit_cells.proofs.Lays.{parts_laid}
use Rattle.emit_statements.specs.Into.{laying}
use Rattle.emit_statements.proofs.Into.{own_laid}
use Rattle.emit_statements.proofs.Few.{own_few}
use Rattle.emit_statements.proofs.code_builder.CodeBuilder.insert.Goals as goal

pub returns-clause-laid : goal.returns-clause-laid
returns-clause-laid g c roots bodies room few priority =
    let A = g.row.A.Denot in
    let s = c.args.statement.standing in
    let k = s.inputs in
    let fs = map (kinds_of_function {A = A}) c.args.functions.now.items in
    let a = core.insert (name_view c.args.array) (outer_view {A = A} c.args.index.now) (outer_view {A = A} c.args.right.now) in
    let old = c.args.self.now.entries.items in
    let mid = c.add_two_entries.new.entries.items in
    let new = c.add_put.new.entries.items in
    let added : Added fs k (own_parts a) s.at (own_priority a) (own_parts a) old mid = subst (λ (p : ℤ). Added fs k (own_parts a) s.at p (own_parts a) old mid) priority (c.in_ok-add_two_entries.ensures.added room.1.0 room.1.1) in
    own_laid fs roots c.args.statement.node k s.at a bodies old mid new c.args.self.now.filling (record { makes = c.add_two_data.new.makes; entries = c.add_numbers.new.numbers }) c.len-from.result _ tt few added
    (λ more is chunk. parts_laid fs k (own_parts a) s.at (own_priority a) (laying old bodies) (laying mid bodies) more is refl chunk)
    (c.in_ok-add_put.ensures.own room priority) c.in_ok-add_two_data.ensures
    (grind (arith, common_steps)) (grind (arith, common_steps)) c.in_ok-add_numbers.ensures

pub returns-clause-few : goal.returns-clause-few
returns-clause-few g c l room suits stand priority =
    let A = g.row.A.Denot in
    let s = c.args.statement.standing in
    let fs = map (kinds_of_function {A = A}) c.args.functions.now.items in
    let a = core.insert (name_view c.args.array) (outer_view {A = A} c.args.index.now) (outer_view {A = A} c.args.right.now) in
    own_few fs s.inputs s.at c.args.statement.node s.priority a c.args.self.now.entries.items c.add_two_entries.new.entries.items c.add_put.new.entries.items
    (c.in_ok-add_two_entries.ensures.added room.1.0 room.1.1) (c.in_ok-add_put.ensures.own room priority) (omega arith) l suits stand

pub returns-clause-marks : goal.returns-clause-marks
returns-clause-marks g c = grows_still c.in_ok-add_two_entries.ensures.marks c.in_ok-add_put.ensures.marks
