use Rattle.std.proofs.Common.{◌≡◌, length}
use Rattle.syntax.proofs.combining.Collected.{fault_in}
use Rattle.syntax.proofs.grammar.tokens.fault_of.Given as goal

abbrev pub invariant-loop-item : goal.invariant-loop-item
invariant-loop-item l = fault_in l.lexer ≡ fault_in l.initial.lexer

abbrev pub decreases-loop-item : goal.decreases-loop-item
decreases-loop-item l = length l.lexer
