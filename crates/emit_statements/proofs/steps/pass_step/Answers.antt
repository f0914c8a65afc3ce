use Rattle.std.proofs.Common.{List, ap, subst, sym, Option}
use Rattle.std.proofs.lemmas.Result.{on_ok_weaker}
use Rattle.std.specs.Prelude.{option_map, option_to_list}
use Rattle.language.specs.Core.{Outer, Part}
use Rattle.language.specs.Parts.{outer_parts}
use Rattle.flow.specs.View.{outer_view}
use Rattle.code_rules.specs.Room.{StepRoom}
use Rattle.emit_cells.specs.Chunk.{Inside, Passes}
use Rattle.emit_cells.proofs.Passing.{passes_none}
use Rattle.emit_statements.proofs.steps.pass_step.Goals as goal

pub returns-in-None : goal.returns-in-None
returns-in-None g c =
    let A = g.row.A.Denot in
    let k = c.args.inputs in
    let m = c.args.passed.now in
    subst (λ (o : Option Outer). (all : List Part) → StepRoom k o → Inside all (outer_parts (option_to_list o)) → Passes k all (outer_parts (option_to_list o)) m m) (sym (ap (option_map (outer_view {A = A})) c.in-None.is)) (λ all room inside. passes_none m)

pub returns-in-Some : goal.returns-in-Some
returns-in-Some g c =
    let A = g.row.A.Denot in
    let k = c.args.inputs in
    on_ok_weaker c.pass_outer.result
    (λ put.
    subst (λ (o : Option Outer). (all : List Part) → StepRoom k o → Inside all (outer_parts (option_to_list o)) → Passes k all (outer_parts (option_to_list o)) c.args.passed.now c.pass_outer.new.passed)
    (sym (ap (option_map (outer_view {A = A})) c.in-Some.is)) put)
    c.pass_outer.ensures
