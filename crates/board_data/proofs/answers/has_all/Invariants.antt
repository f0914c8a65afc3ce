use Rattle.std.proofs.Common.{◌≡◌, Some, drop}
use Rattle.std.specs.List.{list_all}
use Rattle.board_work.specs.Same.{option_eq, scalar_eq}
use Rattle.data_store.specs.Stores.{array_at}
use Rattle.values.specs.Maps.{found}
use Rattle.values.specs.declared.map.Element.{Element}
use Rattle.board_data.proofs.answers.has_all.Given as goal

abbrev pub invariant-loop-one : goal.invariant-loop-one
invariant-loop-one l =
    list_all (λ (e : Element). option_eq scalar_eq (found e.key (array_at l.store l.d).elements) (Some e.value)) (drop l.one-index l.elements)
    ≡ list_all (λ (e : Element). option_eq scalar_eq (found e.key (array_at l.store l.d).elements) (Some e.value)) l.elements
