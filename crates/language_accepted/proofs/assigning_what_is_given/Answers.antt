use Rattle.language_accepted.proofs.Needed.{is_numbered, well_typed, not_formed}
use Rattle.language_accepted.proofs.assigning_what_is_given.Goals as goal

pub returns-clause-typed : goal.returns-clause-typed
returns-clause-typed g = (is_numbered, well_typed)

pub returns-clause-broken : goal.returns-clause-broken
returns-clause-broken g = λ w. not_formed w
