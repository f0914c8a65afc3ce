use Rattle.std.proofs.Common.{◌≡◌, ◌∙◌, sym, ℕ, ◌<◌, List, length, get_or, rules}
use Rattle.task_code.specs.Code.{InPlace}
use Rattle.ref_counting.specs.declared.openings.BodyOpening.{BodyOpening}
use Rattle.ref_counting.specs.declared.openings.OpenKind.TheVariants as Is
use Rattle.ref_counting.specs.Openings.{way_of}
use Rattle.ref_counting.proofs.Closing.{all_next}
use Rattle.ref_counting.proofs.Making.{not_in_place}
use Rattle.ref_counting.proofs.declarations.is_in_place.Goals as goal

abbrev first_opening : BodyOpening
first_opening = record { entry = 0; way = Is.InPlace }

pub loop-opening-preserved : goal.loop-opening-preserved
loop-opening-preserved c =
    let os : List BodyOpening = c.args.openings.now in
    let i : ℕ = c.loop-opening.opening-index in
    let within : i < length os = search rules in
    all_next (λ (o : BodyOpening). way_of o.way ≡ InPlace → ⊥) os i first_opening within c.loop-opening.invariant
    (not_in_place (get_or os i first_opening).way (sym c.eq.ensures ∙ c.if-eq.false))
