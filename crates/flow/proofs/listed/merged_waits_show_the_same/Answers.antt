use Rattle.std.proofs.Common.{List, true, ap}
use Rattle.std.proofs.lemmas.List.{append-nil}
use Rattle.flow.specs.Listed.{Listed, Shown, content}
use Rattle.flow.proofs.listed.merged_waits_show_the_same.Goals as goal

abbrev of_a_wait : List Shown → Listed
of_a_wait xs = record { wait = true; from = 0; shown = xs }

pub returns : goal.returns
returns g = λ from b. ap of_a_wait (append-nil (content b))
