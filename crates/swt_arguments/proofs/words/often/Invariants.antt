use Rattle.std.proofs.Common.{◌≡◌, ◌+◌, ◌≤◌, drop}
use Rattle.swt_arguments.specs.Words.{often}
use Rattle.swt_arguments.proofs.words.often.Given as goal

abbrev pub invariant-loop-word : goal.invariant-loop-word
invariant-loop-word l = (l.count ≤ l.word-index) × (l.count + often l.option (drop l.word-index l.words) ≡ often l.option l.words)
