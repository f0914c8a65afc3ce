use Rattle.std.proofs.Common.{ap, subst, sym, Option}
use Rattle.std.proofs.lemmas.Result.{on_ok_weaker}
use Rattle.std.specs.Prelude.{option_map}
use Rattle.language.specs.Core.{Outer}
use Rattle.flow.specs.View.{outer_view}
use Rattle.code_rules.specs.CodeNames.{wanted}
use Rattle.code_rules.specs.IsCodeOf.{seen_as}
use Rattle.code_rules.specs.Room.{StepRoom}
use Rattle.emit_cells.specs.PlainNeeds.{Notes}
use Rattle.emit_cells.proofs.Keys.{notes_none}
use Rattle.emit_statements.specs.Blocks.{seen_step}
use Rattle.emit_statements.proofs.steps.note_step.Goals as goal

pub returns-in-None : goal.returns-in-None
returns-in-None g c =
    let A = g.row.A.Denot in
    let k = c.args.inputs in
    let ks = c.args.needs.now.keys in
    subst (λ (o : Option Outer). StepRoom k o → Notes ks ks (wanted k (seen_step o))) (sym (ap (option_map (outer_view {A = A})) c.in-None.is)) (λ room. notes_none ks)

pub returns-in-Some : goal.returns-in-Some
returns-in-Some g c =
    let A = g.row.A.Denot in
    let k = c.args.inputs in
    let old = c.args.needs.now.keys in
    let new = c.note_seen.new.needs.keys in
    let o = outer_view {A = A} c.in-Some.outer in
    on_ok_weaker c.note_seen.result
    (λ note.
    subst (λ (q : Option Outer). StepRoom k q → Notes old new (wanted k (seen_step q))) (sym (ap (option_map (outer_view {A = A})) c.in-Some.is))
    (λ room. subst (λ b. Notes old new (wanted k (seen_as b o.cell.node o.cell.form))) c.is_outer_plain.ensures (note room.1)))
    c.note_seen.ensures
