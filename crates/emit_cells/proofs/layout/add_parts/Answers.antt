use Rattle.std.proofs.Common.{◌≡◌, ◌<◌, ◌+◌, sym, subst, take, map, ap, get_or, length, List, arith}
use Rattle.std.proofs.lemmas.Grind.{common_steps}
use Rattle.std.proofs.lemmas.List.{take_all, length-map}
use Rattle.language.specs.Core.{Part}
use Rattle.flow.specs.Shapes.{kinds_of_function}
use Rattle.flow.specs.View.{call_view, cell_view, part_view, parts_view}
use Rattle.task_code.specs.declared.entry.Entry.{Entry as Made}
use Rattle.emit_cells.specs.Chunk.{Added, Inside, IsPassed, part_at}
use Rattle.flow.specs.Cells.{parts_anchors, part_anchors}
use Rattle.flow.proofs.Growing.{among_none, grows_again, grows_among, grows_none}
use Rattle.code_rules.specs.Room.{Each, PartRoom}
use Rattle.emit_cells.specs.Marks.{MarksGrow}
use Rattle.emit_cells.proofs.Chunks.{added_both, added_none, chunk_none}
use Rattle.emit_cells.proofs.Marking.{part_among}
use Rattle.emit_cells.proofs.Passing.{taken_more}
use Rattle.emit_cells.proofs.Placed.{part_call, part_cell, part_plain}
use Rattle.emit_cells.proofs.layout.add_parts.Goals as goal
use Rattle.emit_cells.proofs.layout.add_parts.Goals.{in-Calls+in_ok-add_call-in-Calls, in-Inner+then-not-is_plain+in_ok-add_cell-in-Inner, in-Inner+else-not-is_plain}

pub loop-at-init : goal.loop-at-init
loop-at-init g c = (λ all passed room inside. added_none _ c.args.entries.now.items chunk_none, grows_none _ _)

pub loop-at-preserved : goal.loop-at-preserved
loop-at-preserved g c =
    let A = g.row.A.Denot in
    let fs = map (kinds_of_function {A = A}) c.args.functions.now.items in
    let xs = c.args.parts.now.items in
    let ps = parts_view {A = A} xs in
    let i = c.loop-at.at in
    let x = c.index.result.now in
    let s = c.args.standing in
    let old = c.args.entries.now.items in
    let mid = c.loop-at.entries.items in
    let below : i < length xs = grind (arith, common_steps) in
    let is : x ≡ get_or xs i x = grind (arith, common_steps) in
    let more : (all : List Part) → IsPassed s.inputs all c.args.passed.now → Each (PartRoom s.inputs) ps → Inside all ps
    → (new : List Made) → Added fs s.inputs all s.at s.priority (part_at ps i) mid new → Added fs s.inputs all s.at s.priority (take (i + 1) ps) old new =
    λ all passed room inside new part. subst (λ (l : List Part). Added fs s.inputs all s.at s.priority l old new) (sym (taken_more ps i)) (added_both (take i ps) (part_at ps i) old mid new (c.loop-at.invariant.0 all passed room inside) part) in
    let marks : (new : List Made) → MarksGrow mid new (parts_anchors xs) → MarksGrow old new (parts_anchors xs) = λ new grown. grows_again c.loop-at.invariant.1 grown in
    elim c.match-index.branch [
      | in-Calls+in_ok-add_call-in-Calls w ↦ (
        λ all passed room inside.
            subst (Added fs s.inputs all s.at s.priority (take (i + 1) ps) old) (sym (ap (λ v. v.items) w.entries-is))
            (more all passed room inside w.add_call.new.entries.items
            (part_call (part_view {A = A}) fs s.inputs all s.at s.priority xs i x (call_view {A = A} w.in-Calls.call) mid w.add_call.new.entries.items
            below is (ap (part_view {A = A}) w.in-Calls.is) room inside (w.in_ok-add_call-in-Calls.ensures.added all passed))),
        subst (λ (new : List Made). MarksGrow old new (parts_anchors xs)) (sym (ap (λ v. v.items) w.entries-is))
            (marks w.add_call.new.entries.items (grows_among w.in_ok-add_call-in-Calls.ensures.marks (among_none (parts_anchors xs)))),
      )
      | in-Inner+then-not-is_plain+in_ok-add_cell-in-Inner w ↦ (
        λ all passed room inside.
            subst (Added fs s.inputs all s.at s.priority (take (i + 1) ps) old) (sym (ap (λ v. v.items) w.entries-is))
            (more all passed room inside w.add_cell.new.entries.items
            (part_cell (part_view {A = A}) fs s.inputs all s.at s.priority xs i x (cell_view {A = A} w.in-Inner.cell) w.is_plain.result mid w.add_cell.new.entries.items
            below is (ap (part_view {A = A}) w.in-Inner.is) room inside w.is_plain.ensures w.if-not-is_plain.true (w.in_ok-add_cell-in-Inner.ensures.added fs all passed))),
        subst (λ (new : List Made). MarksGrow old new (parts_anchors xs)) (sym (ap (λ v. v.items) w.entries-is))
            (marks w.add_cell.new.entries.items (grows_among w.in_ok-add_cell-in-Inner.ensures.marks (part_among xs i x w.in-Inner.cell below is (ap (part_anchors {A = A}) w.in-Inner.is)))),
      )
      | in-Inner+else-not-is_plain w ↦ (
        λ all passed room inside.
            subst (Added fs s.inputs all s.at s.priority (take (i + 1) ps) old) (sym (ap (λ v. v.items) w.entries-is))
            (more all passed room inside mid
            (part_plain (part_view {A = A}) fs s.inputs all s.at s.priority xs i x (cell_view {A = A} w.in-Inner.cell) w.is_plain.result mid
            below is (ap (part_view {A = A}) w.in-Inner.is) inside w.is_plain.ensures w.if-not-is_plain.false)),
        subst (λ (new : List Made). MarksGrow old new (parts_anchors xs)) (sym (ap (λ v. v.items) w.entries-is)) c.loop-at.invariant.1,
      )
    ]

pub returns-clause-added : goal.returns-clause-added
returns-clause-added g c all passed room inside =
    let A = g.row.A.Denot in
    let ps = parts_view {A = A} c.args.parts.now.items in
    let s = c.args.standing in
    subst (λ (l : List Part). Added (map (kinds_of_function {A = A}) c.args.functions.now.items) s.inputs all s.at s.priority l c.args.entries.now.items c.loop-at.entries.items)
    (take_all c.loop-at.at ps (omega (arith, length-map c.args.parts.now.items (part_view {A = A})))) (c.loop-at.invariant.0 all passed room inside)

pub returns-clause-marks : goal.returns-clause-marks
returns-clause-marks g c = c.loop-at.invariant.1
