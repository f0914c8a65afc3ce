use Rattle.std.proofs.Common.{◌≡◌, ◌++◌, drop}
use Rattle.meaning_facts.specs.Sighted.{sight_of}
use Rattle.explain_inputs.specs.Inputs.{inputs_view}
use Rattle.explain_inputs.specs.Missing.{not_seen}
use Rattle.explain_inputs.proofs.missing.add_missing.Given as goal

abbrev pub invariant-loop-input : goal.invariant-loop-input
invariant-loop-input l =
    inputs_view l.initial.found.items ++ not_seen (sight_of l.fact_base l.instance) (inputs_view l.inputs) ≡ inputs_view l.found.items ++ not_seen (sight_of l.fact_base l.instance) (inputs_view (drop l.input-index l.inputs))
