use Rattle.std.proofs.Common.{◌≡◌, ◌++◌, drop}
use Rattle.swt_arguments.specs.Words.{all_divided}
use Rattle.swt_arguments.proofs.request.all_divided.Given as goal

abbrev pub invariant-loop-word : goal.invariant-loop-word
invariant-loop-word l = l.parts.items ++ all_divided l.command (drop l.word-index l.words) ≡ all_divided l.command l.words
