use Rattle.std.proofs.Common.{List, [], ◌∷◌, ◌++◌, ◌∙◌, ap, map, subst, sym, true}
use Rattle.std.specs.List.{flat_map}
use Rattle.flow.specs.View.{name_view, outer_view}
use Rattle.task_code.specs.Code.{Need, InsertElement}
use Rattle.task_code.specs.View as code_view
use Rattle.code_rules.specs.CodeNames.{name_as, over, wanted}
use Rattle.code_rules.specs.IsCodeOf.{seen_as}
use Rattle.emit_cells.specs.PlainNeeds.{Noted, need_of}
use Rattle.emit_cells.proofs.Keys.{noted_none}
use Rattle.emit_cells.proofs.Ready.{ready_many}
use Rattle.emit_statements.proofs.Outers.{few_as}
use Rattle.emit_statements.proofs.Puts.{few_both, put_added, wanted_both}
use Rattle.emit_statements.proofs.insert.add_put.Goals as goal

pub returns-clause-own : goal.returns-clause-own
returns-clause-own g c room priority =
    let A = g.row.A.Denot in
    let s = c.args.statement.standing in
    let k = s.inputs in
    let i = outer_view {A = A} c.args.index.now in
    let o = outer_view {A = A} c.args.right.now in
    let b = c.is_outer_plain-plain_index.result in
    let d = c.is_outer_plain-plain_right.result in
    let first = seen_as b i.cell.node i.cell.form in
    let second = seen_as d o.cell.node o.cell.form in
    let ks = c.note_seen-2.new.needs.keys in
    let xs = wanted k first in
    let ys = wanted k second in
    let none : Noted [] c.new-needs.result.keys = subst (Noted []) (sym c.new-needs.ensures.empty) noted_none in
    let noted : Noted (xs ++ ys) ks = c.in_ok-note_seen-2.ensures room.1.1.1 xs (c.in_ok-note_seen.ensures room.1.0.1 [] none) in
    let ready = ready_many (xs ++ ys) ks noted (few_both xs ys (few_as k i.cell.node b i.cell.form room.1.0.1) (few_as k o.cell.node d o.cell.form room.1.1.1)) in
    let target = code_view.name_view c.named.result in
    let place = code_view.expr_view c.in_ok-place.place in
    let value = code_view.expr_view c.in_ok-value.value in
    let array = name_as k true (name_view c.args.array) in
    let place_is = c.in_ok-place.ensures ready room.1.0.1 in
    let value_is = c.in_ok-value.ensures ready room.1.1.1 in
    let does = ap (λ r. InsertElement r place value) (c.named.ensures room.0) ∙ ap (λ e. InsertElement array e value) place_is ∙ ap (λ e. InsertElement array (over k (map need_of ks) first) e) value_is in
    let listed = subst (λ (ns : List Need). Noted ns ks) (wanted_both k first second) noted in
    put_added s c.args.statement.node (name_view c.args.array) i o first second ks (InsertElement target place value) c.args.entries.now.items c.push_entry.new.entries.items priority
    (ap (λ t. seen_as t i.cell.node i.cell.form) c.is_outer_plain-plain_index.ensures) (ap (λ t. seen_as t o.cell.node o.cell.form) c.is_outer_plain-plain_right.ensures) listed does
    (c.in_ok-push_entry.ensures.entry (flat_map (wanted k) (first ∷ second ∷ [])) listed)

pub returns-clause-marks : goal.returns-clause-marks
returns-clause-marks g c = c.in_ok-push_entry.ensures.marks
