use Rattle.std.proofs.Common.{◌++◌, ◌∙◌, map, refl, subst, ap, arith, ℤ, List}
use Rattle.std.proofs.lemmas.Grind.{common_steps}
use Rattle.language.specs.Core.{Part}
use Rattle.flow.specs.Shapes.{kinds_of_function}
use Rattle.flow.specs.View.{outer_view}
use Rattle.language_laws.specs.TypedValues.{own_outer, own_parts}
use Rattle.task_code.specs.View.{variable_view}
use Rattle.code_rules.specs.IsCodeOf.{own_priority}
use Rattle.emit_cells.specs.Chunk.{Added}
use Rattle.flow.proofs.Growing.{grows_still}
use Rattle.emit_cells.proofs.Lays.{parts_laid}
use Rattle.emit_statements.specs.Doing.{action_of}
use Rattle.emit_statements.specs.Into.{laying}
use Rattle.emit_statements.proofs.Into.{own_laid}
use Rattle.emit_statements.proofs.Owns.{data_done, outer_room, parts_done, simple_done}
use Rattle.emit_statements.proofs.Few.{done_fewer, own_few}
use Rattle.emit_statements.proofs.code_builder.CodeBuilder.own.Goals as goal

pub returns-clause-laid : goal.returns-clause-laid
returns-clause-laid g c roots bodies room few priority =
    let A = g.row.A.Denot in
    let s = c.args.statement.standing in
    let k = s.inputs in
    let fs = map (kinds_of_function {A = A}) c.args.functions.now.items in
    let d = c.args.done in
    let o = outer_view {A = A} c.args.outer.now in
    let a = action_of d s.priority o in
    let old = c.args.self.now.entries.items in
    let mid = c.add_own_entries.new.entries.items in
    let new = c.add_own.new.entries.items in
    let laid = c.in_ok-add_own_entries.ensures.added (outer_room d k s.priority o room) in
    let at_own : Added fs k (own_outer o) s.at (own_priority a) (own_outer o) old mid = subst (λ (p : ℤ). Added fs k (own_outer o) s.at p (own_outer o) old mid) priority laid in
    let added : Added fs k (own_parts a) s.at (own_priority a) (own_parts a) old mid = subst (λ (ps : List Part). Added fs k ps s.at (own_priority a) ps old mid) (parts_done d s.priority o) at_own in
    own_laid fs roots c.args.statement.node k s.at a bodies old mid new c.args.self.now.filling (record { makes = c.add_own_data.new.makes; entries = c.add_numbers.new.numbers }) c.len-from.result _ (simple_done d s.priority o) few added
    (λ more is chunk. parts_laid fs k (own_parts a) s.at (own_priority a) (laying old bodies) (laying mid bodies) more is refl chunk)
    (c.in_ok-add_own.ensures.own room priority)
    (c.in_ok-add_own_data.ensures ∙ ap (λ vs. map variable_view c.args.self.now.filling.makes.items ++ vs) (data_done d s.priority o))
    (grind (arith, common_steps)) (grind (arith, common_steps)) c.in_ok-add_numbers.ensures

pub returns-clause-few : goal.returns-clause-few
returns-clause-few g c l room suits stand priority =
    let A = g.row.A.Denot in
    let s = c.args.statement.standing in
    let k = s.inputs in
    let fs = map (kinds_of_function {A = A}) c.args.functions.now.items in
    let d = c.args.done in
    let o = outer_view {A = A} c.args.outer.now in
    let a = action_of d s.priority o in
    let old = c.args.self.now.entries.items in
    let mid = c.add_own_entries.new.entries.items in
    let added : Added fs k (own_parts a) s.at s.priority (own_parts a) old mid =
    subst (λ (ps : List Part). Added fs k ps s.at s.priority ps old mid) (parts_done d s.priority o) (c.in_ok-add_own_entries.ensures.added (outer_room d k s.priority o room)) in
    own_few fs k s.at c.args.statement.node s.priority a old mid c.add_own.new.entries.items added (c.in_ok-add_own.ensures.own room priority) (done_fewer d s.priority o) l suits stand

pub returns-clause-marks : goal.returns-clause-marks
returns-clause-marks g c = grows_still c.in_ok-add_own_entries.ensures.marks c.in_ok-add_own.ensures.marks
