use Rattle.std.proofs.Common.{◌≡◌, ◌++◌, drop}
use Rattle.swt_arguments.specs.Words.{unflagged}
use Rattle.swt_arguments.proofs.request.unflagged.Given as goal

abbrev pub invariant-loop-word : goal.invariant-loop-word
invariant-loop-word l = l.others.items ++ unflagged l.command (drop l.word-index l.words) ≡ unflagged l.command l.words
