-- Places of faults of single assignment.
use Rattle.std.specs.Prelude.{Option, Some, None}
use Rattle.lexer.specs.declared.token.Span.{Span}
use Rattle.assign_check.specs.declared.fault.AssignFault.{AssignFault}
use Rattle.assign_check.specs.declared.fault.AssignFault.TheVariants.{AssignedTwice, PartlyAssigned, NeverAssigned, OuterInLoop, WholeAndElements, OutputUnassigned, Memory}

abbrev pub span_of : AssignFault → Option Span
span_of (AssignedTwice at) = Some at
span_of (PartlyAssigned at) = Some at
span_of (NeverAssigned at) = Some at
span_of (OuterInLoop at) = Some at
span_of (WholeAndElements at) = Some at
span_of (OutputUnassigned at) = Some at
span_of Memory = None
