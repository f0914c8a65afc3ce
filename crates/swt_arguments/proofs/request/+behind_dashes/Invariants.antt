use Rattle.std.proofs.Common.{length}
use Rattle.swt_arguments.proofs.request.+behind_dashes.Given as goal

abbrev pub decreases-behind_dashes : goal.decreases-behind_dashes
decreases-behind_dashes l = length l.words.now
