use Rattle.std.proofs.Common.{subst}
use Rattle.std.specs.Prelude.{option_map}
use Rattle.flow.specs.View.{outer_view}
use Rattle.code_rules.specs.CodeNames.{wanted}
use Rattle.code_rules.specs.IsCodeOf.{seen_as}
use Rattle.emit_cells.specs.PlainNeeds.{Notes}
use Rattle.emit_statements.specs.Seen.{seen_last}
use Rattle.emit_statements.specs.Blocks.{seen_step}
use Rattle.emit_statements.proofs.Bounds.{notes_three}
use Rattle.emit_statements.proofs.loops.note_range.Goals as goal

pub returns : goal.returns
returns g c room_low room_high room_step =
    let A = g.row.A.Denot in
    let k = c.args.inputs in
    let low = outer_view {A = A} c.args.range.now.low in
    let high = outer_view {A = A} c.args.range.now.high in
    let step = option_map (outer_view {A = A}) c.args.range.now.step in
    let none = c.args.needs.now.keys in
    let first = c.note_seen.new.needs.keys in
    let second = c.note_seen-2.new.needs.keys in
    notes_three k (seen_last low) (seen_last high) (seen_step step) none first second c.note_step.new.needs.keys
    (subst (λ b. Notes none first (wanted k (seen_as b low.cell.node low.cell.form))) c.is_outer_plain.ensures (c.in_ok-note_seen.ensures room_low.1))
    (subst (λ b. Notes first second (wanted k (seen_as b high.cell.node high.cell.form))) c.is_outer_plain-2.ensures (c.in_ok-note_seen-2.ensures room_high.1))
    (c.in_ok-note_step.ensures room_step)
