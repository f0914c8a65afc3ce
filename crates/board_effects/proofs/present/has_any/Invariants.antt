use Rattle.std.proofs.Common.{◌≡◌, drop}
use Rattle.std.specs.List.{list_any}
use Rattle.board_history.specs.Fields.{slot_at}
use Rattle.board_history.specs.Needs.{cell_element, has}
use Rattle.values.specs.declared.map.Element.{Element}
use Rattle.board_data.specs.View.{cells_view}
use Rattle.board_effects.proofs.present.has_any.Given as goal

abbrev pub invariant-loop-one : goal.invariant-loop-one
invariant-loop-one l =
    list_any (λ (e : Element). has (cell_element e.key (slot_at (cells_view l.store.cells) l.d))) (drop l.one-index l.elements)
    ≡ list_any (λ (e : Element). has (cell_element e.key (slot_at (cells_view l.store.cells) l.d))) l.elements
