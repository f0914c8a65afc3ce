use Rattle.std.proofs.Common.{◌≡◌, map, drop}
use Rattle.flow.specs.View.{awaited_view}
use Rattle.meaning_cells.specs.Chosen.{have_come_in}
use Rattle.meaning_facts.specs.Sighted.{sight_of}
use Rattle.meaning_cells.proofs.choices.have_come.Given as goal

abbrev pub invariant-loop-name : goal.invariant-loop-name
invariant-loop-name l =
    have_come_in (sight_of l.fact_base l.instance) (map awaited_view l.names) ≡ have_come_in (sight_of l.fact_base l.instance) (map awaited_view (drop l.name-index l.names))
