-- Places of faults.
use Rattle.std.specs.Prelude.{Option, Some, None}
use Rattle.lexer.specs.declared.token.Span.{Span}
use Rattle.types.specs.declared.fault.TypeFault.{TypeFault}
use Rattle.types.specs.declared.fault.TypeFault.TheVariants.{Unknown, Declared, Mismatch, WrongCount, BadFormat, NotAFunction, Memory}

-- the place of the broken rule; an allocation failure has none
abbrev pub span_of : TypeFault → Option Span
span_of (Unknown at) = Some at
span_of (Declared at) = Some at
span_of (Mismatch at) = Some at
span_of (WrongCount at) = Some at
span_of (BadFormat at) = Some at
span_of (NotAFunction at) = Some at
span_of Memory = None
