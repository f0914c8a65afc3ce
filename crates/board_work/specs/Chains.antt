-- A chain of operators evaluated up to some operand.
use Rattle.std.specs.Prelude.{ℤ, List, Result, Ok, Err}
use Rattle.values.specs.declared.fault.OpFault.{OpFault}
use Rattle.values.specs.declared.value.Value.{Value}
use Rattle.values.specs.Operators.{chained}

-- the value of a chain that has reached x, from the remaining operators and the values of the remaining operands, or
-- the fault of one of these
abbrev pub chain_from : {O : Type 0} → (O → ℤ → ℤ → Result ℤ OpFault) → ℤ → List O → Result (List Value) OpFault → Result ℤ OpFault
chain_from step x os (Ok vs) = chained step x os vs
chain_from step x os (Err fault) = Err fault
