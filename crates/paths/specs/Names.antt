-- Names of fault kinds, and the operation fault of each kind.
use Rattle.std.specs.Prelude.{ℕ, List, Option, None, Some, codes}
use Rattle.values.specs.declared.fault.OpFault.{OpFault}
use Rattle.values.specs.declared.fault.OpFault.TheVariants as Op
use Rattle.paths.specs.declared.faults.FaultKind.{FaultKind}
use Rattle.paths.specs.declared.faults.FaultKind.TheVariants as Kind

-- the number and the name of a kind
abbrev pub fault_name : FaultKind → List ℕ
fault_name Kind.Overflow = codes "F1 Overflow"
fault_name Kind.DivideByZero = codes "F2 DivideByZero"
fault_name Kind.NoElement = codes "F3 NoElement"
fault_name Kind.ElementTwice = codes "F4 ElementTwice"
fault_name Kind.BadStep = codes "F5 BadStep"
fault_name Kind.TooDeep = codes "F6 TooDeep"
fault_name Kind.NotANumber = codes "F7 NotANumber"
fault_name Kind.AssertFailed = codes "F8 AssertFailed"

-- the fault of an operation for a kind, if there is one
abbrev pub operation_of : FaultKind → Option OpFault
operation_of Kind.Overflow = Some Op.Overflow
operation_of Kind.DivideByZero = Some Op.DivideByZero
operation_of Kind.NoElement = None
operation_of Kind.ElementTwice = None
operation_of Kind.BadStep = Some Op.BadStep
operation_of Kind.TooDeep = None
operation_of Kind.NotANumber = Some Op.NotANumber
operation_of Kind.AssertFailed = Some Op.AssertFailed
