use Rattle.std.proofs.Common.{◌≡◌, ◌++◌, drop}
use Rattle.swt_arguments.specs.Words.{before_dashes}
use Rattle.swt_arguments.proofs.request.before_dashes.Given as goal

abbrev pub invariant-loop-word : goal.invariant-loop-word
invariant-loop-word l = l.before.items ++ before_dashes (drop l.word-index l.words) ≡ before_dashes l.words
