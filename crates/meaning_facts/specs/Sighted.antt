-- The environment of an instance, given the fact base.
use Rattle.std.specs.Prelude.{ℕ, Bool, List, [], ◌++◌, Option, Some, None, Result, Ok, Err}
use Rattle.std.specs.HashSet.{contains}
use Rattle.values.specs.declared.fault.OpFault.{OpFault}
use Rattle.values.specs.declared.value.Scalar.{Scalar}
use Rattle.values.specs.declared.value.Value.{Value}
use Rattle.meaning_steps.specs.Kept.{scalar_by}
use Rattle.paths.specs.declared.faults.FaultKind.{FaultKind}
use Rattle.meaning_facts.specs.declared.facts.Place.{Place}
use Rattle.meaning_facts.specs.declared.fact_base.FactBase.{FactBase}
use Rattle.meaning_steps.specs.Environment.{Sight, Outcome}
use Rattle.meaning_facts.specs.Kinds.{kind_view}
use Rattle.meaning_facts.specs.Store.{value_at, writes_at, writes_under, elements_from, variable_in, variables_of, spot, same_pair}

abbrev pub scalar_at : FactBase → Place → Option Scalar
scalar_at l p = scalar_by (value_at l.facts p) (variable_in (variables_of l.instances.all.items p.instance) p.node)

abbrev pub closed_at : FactBase → Place → Bool
closed_at l p = contains same_pair l.closed (p.instance, p.node)

-- the environment of an instance
abbrev pub sight_of : FactBase → ℕ → Sight
sight_of l i = record {
  scalar = λ x. scalar_at l (spot l.instances.all.items i x);
  closed = λ a. closed_at l (spot l.instances.all.items i a);
  elements = λ a. elements_from [] (writes_at l.facts (spot l.instances.all.items i a));
  writes = λ a k. writes_under (writes_at l.facts (spot l.instances.all.items i a)) k;
  cell = λ n. value_at l.facts (record { instance = i; node = n });
}

abbrev pub outcome_view : Option (Result Value FaultKind) → Outcome
outcome_view (Some (Ok v)) = Some (Ok v)
outcome_view (Some (Err k)) = Some (Err (kind_view k))
outcome_view None = None

-- prepends results to the others
abbrev pub in_front : List (Result Value OpFault) → Option (List (Result Value OpFault)) → Option (List (Result Value OpFault))
in_front rs (Some qs) = Some (rs ++ qs)
in_front rs None = None
