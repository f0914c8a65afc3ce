use Rattle.language_accepted.proofs.Accepted.{placed_formed, values_meant}
use Rattle.language_accepted.proofs.Formed.{scoped}
use Rattle.headline.proofs.AssertedCores.{asserted_core}
use Rattle.headline.proofs.HeadlineOf.{headline_of}
use Rattle.language.specs.Resolved.{core}
use Rattle.headline.proofs.accepted_scripts.Goals as goal

pub returns : goal.returns
returns g = λ t tree C place typed single of whole exact nodes.
    headline_of (core t tree) C of whole exact nodes (placed_formed t tree place typed single) single (scoped t tree place.in_order typed) (values_meant t tree place typed) (asserted_core t tree)
