use Rattle.std.proofs.Common.{rules, ◌≡◌, ◌++◌, ◌∷◌, ◌∙◌, [], Global, List, sym, ap}
use Rattle.std.specs.Prelude.{Vec}
use Rattle.std.specs.Borrow.{Bor}
use Rattle.std.proofs.lemmas.Result.{IfOk-weaker}
use Rattle.language.specs.Core as core
use Rattle.language.specs.Parts.{part_calls, parts}
use Rattle.flow.specs.declared.cell.Call.{Call}
use Rattle.flow.specs.declared.cell.CellPart.{CellPart}
use Rattle.flow.specs.View.{action_view, call_view, parts_view}
use Rattle.meaning_cells.specs.Listed.{calls_listed}
use Rattle.meaning_cells.proofs.Parting.{view_call}
use Rattle.meaning_cells.proofs.parts.calls_of.Goals as goal

pub returns-in-Call : goal.returns-in-Call
returns-in-Call g c =
    let A = g.row.A.Denot in
    let view : action_view {A = g.row.A.Denot} c.args.action.now ≡ core.call_alone c.in-Call.priority (parts_view {A = g.row.A.Denot} c.in-Call.parts.items) (call_view {A = g.row.A.Denot} c.in-Call.call.value) =
    ap (action_view {A = g.row.A.Denot}) c.in-Call.is ∙ view_call {A = g.row.A.Denot} c.in-Call.priority c.in-Call.parts c.in-Call.call in
    let inside : c.as_slice.result.now ≡ c.in-Call.parts.items = search rules in
    let behind : c.deref.result.now ≡ c.in-Call.call.value = search rules in
    IfOk-weaker c.called.result
    (λ (cs : Vec (Bor (Call A)) Global). calls_listed {A = A} cs.items ≡ part_calls (parts_view {A = A} c.as_slice.result.now ++ core.calls (call_view {A = A} c.deref.result.now) ∷ []))
    (λ (cs : Vec (Bor (Call A)) Global). calls_listed {A = A} cs.items ≡ part_calls (parts (action_view {A = A} c.args.action.now)))
    (λ cs e. e ∙ ap (λ (z : List (CellPart A)). part_calls (parts_view {A = A} z ++ core.calls (call_view {A = A} c.deref.result.now) ∷ [])) inside
    ∙ ap (λ (z : Call A). part_calls (parts_view {A = A} c.in-Call.parts.items ++ core.calls (call_view {A = A} z) ∷ [])) behind
    ∙ sym (ap (λ (z : core.Action). part_calls (parts z)) view))
    c.called.ensures
