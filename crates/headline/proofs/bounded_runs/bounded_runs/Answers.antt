use Rattle.language.specs.Resolved.{core}
use Rattle.language_accepted.proofs.Accepted.{placed_formed, values_meant}
use Rattle.language_accepted.proofs.Formed.{scoped}
use Rattle.headline.proofs.Meant.{meaning_knows}
use Rattle.fold_laws.proofs.Views.{same_clean}
use Rattle.headline.proofs.Bounds.{run_bound, run_live}
use Rattle.headline.proofs.bounded_runs.bounded_runs.Goals as goal

pub returns-clause-live : goal.returns-clause-live
returns-clause-live g = λ s t tree C same place typed single w I ex nodes clean events st run i m.
    let wf = placed_formed t tree place typed single in
    run_live s (core t tree) same C w wf (meaning_knows (core t tree) wf single (same_clean s (core t tree) same clean)) I (scoped t tree place.in_order typed) (values_meant t tree place typed) nodes ex single events st run i m

pub returns-clause-bound : goal.returns-clause-bound
returns-clause-bound g = λ s t tree C same place typed single w I ex nodes clean events st run.
    let wf = placed_formed t tree place typed single in
    run_bound s (core t tree) same C w wf (meaning_knows (core t tree) wf single (same_clean s (core t tree) same clean)) I (scoped t tree place.in_order typed) (values_meant t tree place typed) nodes ex single events st run
