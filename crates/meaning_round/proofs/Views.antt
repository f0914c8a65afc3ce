-- How some actions of a flow are seen.
use Rattle.std.proofs.Common.{rules, ◌≡◌, ℤ}
use Rattle.std.specs.Prelude.{Vec, Box}
use Rattle.language.specs.Core as core
use Rattle.flow.specs.declared.name.Name.{Name}
use Rattle.flow.specs.declared.cell.OuterCell.{OuterCell}
use Rattle.flow.specs.declared.cell.CellPart.{CellPart}
use Rattle.flow.specs.declared.cell.Call.{Call as Called}
use Rattle.flow.specs.declared.statement.Action.{Call, Insert, the_lemmas}
use Rattle.flow.specs.View.{action_view, call_view, name_view, outer_view, parts_view}

pub view_call : (A : Type 0) (p : ℤ) (ps : Vec (CellPart A) A) (c : Box (Called A) A) → action_view (Call p ps c) ≡ core.call_alone p (parts_view ps.items) (call_view c.value)
view_call A p ps c = search (rules, the_lemmas)

pub view_insert : (A : Type 0) (x : Name) (i o : Box (OuterCell A) A) → action_view (Insert x i o) ≡ core.insert (name_view x) (outer_view i.value) (outer_view o.value)
view_insert A x i o = search (rules, the_lemmas)
