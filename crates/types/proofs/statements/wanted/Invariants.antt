use Rattle.std.proofs.Common.{◌≡◌, ◌++◌, map, drop}
use Rattle.language.specs.Typing as typing
use Rattle.types.specs.Known.{type_of}
use Rattle.types.proofs.statements.wanted.Given as goal

abbrev pub invariant-loop-piece : goal.invariant-loop-piece
invariant-loop-piece l = typing.wanted l.format ≡ map type_of l.types.items ++ typing.wanted (drop l.piece-index l.format)
