-- The outcome of an entry, separately for leaf and control entries.
use Rattle.std.specs.Prelude.{List, ◌++◌, Option, Some, None, Result, Ok, Err}
use Rattle.dataflow.specs.System.{Answer}
use Rattle.values.specs.declared.fault.OpFault.{OpFault}
use Rattle.values.specs.declared.key.Key.{Key}
use Rattle.values.specs.declared.value.Scalar.{Scalar}
use Rattle.values.specs.declared.value.Value.{Value}
use Rattle.task_code.specs.Code.{Act, Fill, Kind, Control, Leaf, kind_of}
use Rattle.task_code.specs.Compute as Pure
use Rattle.board_work.specs.declared.outcome.Outcome.{Outcome}
use Rattle.board_work.specs.declared.outcome.Outcome.TheVariants as Of
use Rattle.board_work.specs.View.{computed_view}

-- values followed by the remaining ones, or the fault that occurs among these
abbrev pub in_front : List Value → Result (List Value) OpFault → Result (List Value) OpFault
in_front vs (Ok ws) = Ok (vs ++ ws)
in_front vs (Err fault) = Err fault

-- the result that the end of a control entry uses
abbrev pub for_control : Kind → Pure.Computed → Option Pure.Computed
for_control Control c = Some c
for_control Leaf c = None

abbrev pub control_result : Act → List (Answer Key Scalar) → Option Pure.Computed
control_result a xs = for_control (kind_of a) (Pure.compute a xs)

-- the parts of an outcome
abbrev pub result_in : Outcome → Option (Result Value OpFault)
result_in (Of.Leaf r) = Some r
result_in (Of.Control c) = None

abbrev pub control_in : Outcome → Option Pure.Computed
control_in (Of.Leaf r) = None
control_in (Of.Control c) = Some (computed_view c)

-- the meaning of a leaf entry's value or fault: a literal inserts its elements, and any other stores or prints a scalar
abbrev pub of_leaf : Act → Result Value OpFault → Pure.Computed
of_leaf (Fill r es) v = Pure.filled v
of_leaf _ v = Pure.given v

-- the meaning of an outcome for its entry
abbrev pub computed_in : Act → Outcome → Pure.Computed
computed_in a (Of.Leaf v) = of_leaf a v
computed_in a (Of.Control c) = computed_view c
