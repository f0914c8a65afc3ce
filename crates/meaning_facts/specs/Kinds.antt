-- The fault of the meaning for each kind of fault.
use Rattle.values.specs.declared.fault.OpFault.TheVariants as Op
use Rattle.language.specs.Facts.{Fault, operation, no_element, element_twice, too_deep}
use Rattle.paths.specs.declared.faults.FaultKind.{FaultKind}
use Rattle.paths.specs.declared.faults.FaultKind.TheVariants as Kind

abbrev pub kind_view : FaultKind → Fault
kind_view Kind.Overflow = operation Op.Overflow
kind_view Kind.DivideByZero = operation Op.DivideByZero
kind_view Kind.NoElement = no_element
kind_view Kind.ElementTwice = element_twice
kind_view Kind.BadStep = operation Op.BadStep
kind_view Kind.TooDeep = too_deep
kind_view Kind.NotANumber = operation Op.NotANumber
kind_view Kind.AssertFailed = operation Op.AssertFailed
