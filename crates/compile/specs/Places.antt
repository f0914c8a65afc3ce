-- The places of refusals.
use Rattle.std.specs.Prelude.{Option, None}
use Rattle.lexer.specs.declared.token.Span.{Span}
use Rattle.syntax.specs.Refusals as syntax
use Rattle.types.specs.Faults as types
use Rattle.assign_check.specs.Places as assignments
use Rattle.compile.specs.declared.fault.CompileFault.{CompileFault}
use Rattle.compile.specs.declared.fault.CompileFault.TheVariants.{Parse, Types, Assignments, Memory}

abbrev pub span_of : CompileFault → Option Span
span_of (Parse f) = syntax.place_of f
span_of (Types f) = types.span_of f
span_of (Assignments f) = assignments.span_of f
span_of Memory = None
