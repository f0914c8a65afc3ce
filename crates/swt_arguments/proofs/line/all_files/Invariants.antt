use Rattle.std.proofs.Common.{◌≡◌, ◌++◌, take}
use Rattle.swt_arguments.specs.Reader.{files_given}
use Rattle.swt_arguments.proofs.line.all_files.Given as goal

abbrev pub invariant-loop-word : goal.invariant-loop-word
invariant-loop-word l = l.files.items ≡ files_given l.matches ++ take l.word-index l.behind
