use Rattle.std.proofs.Common.{[], ◌∷◌}
use Rattle.language.specs.Parts.{outer_parts}
use Rattle.flow.specs.View.{outer_view}
use Rattle.flow.proofs.Growing.{grows_both}
use Rattle.emit_statements.proofs.Outers.{added_outer, inside_first, inside_rest, passes_outer}
use Rattle.emit_statements.proofs.Starts.{inside_all, nothing_handed, passed_all}
use Rattle.emit_statements.proofs.insert.add_two_entries.Goals as goal

pub returns-clause-added : goal.returns-clause-added
returns-clause-added g c room_one room_two =
    let A = g.row.A.Denot in
    let k = c.args.standing.inputs in
    let a = outer_view {A = A} c.args.one.now in
    let b = outer_view {A = A} c.args.two.now in
    let all = outer_parts (a ∷ b ∷ []) in
    let first = inside_first all a (b ∷ []) (inside_all all) in
    let second = inside_rest all a (b ∷ []) (inside_all all) in
    let empty = c.new-passed.result in
    let full = c.pass_outer-2.new.passed in
    let passed = passed_all k all empty full (nothing_handed empty c.new-passed.ensures.empty)
    (passes_outer a (b ∷ []) empty c.pass_outer.new.passed full (c.in_ok-pass_outer.ensures all room_one first) (c.in_ok-pass_outer-2.ensures all room_two second)) in
    added_outer a (b ∷ []) c.args.entries.now.items c.add_outer.new.entries.items c.add_outer-2.new.entries.items
    (c.in_ok-add_outer.ensures.added all passed room_one first) (c.in_ok-add_outer-2.ensures.added all passed room_two second)

pub returns-clause-marks : goal.returns-clause-marks
returns-clause-marks g c = grows_both _ _ c.in_ok-add_outer.ensures.marks c.in_ok-add_outer-2.ensures.marks
