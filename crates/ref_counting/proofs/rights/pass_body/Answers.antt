use Rattle.std.proofs.Common.{ℕ, ◌<◌, List, length, get_or, take, subst, rules}
use Rattle.task_code.specs.View.{name_view}
use Rattle.ref_counting.specs.declared.openings.BodyOpening.{BodyOpening}
use Rattle.ref_counting.specs.declared.openings.OpenKind.TheVariants as Is
use Rattle.ref_counting.specs.Rights.{Adds, ByOpenings}
use Rattle.ref_counting.proofs.Adding.{next_opening}
use Rattle.ref_counting.proofs.Closing.{at_in, take_next}
use Rattle.ref_counting.proofs.rights.pass_body.Goals as goal

abbrev first_opening : BodyOpening
first_opening = record { entry = 0; way = Is.InPlace }

pub pass_to-requires-clause-opens : goal.pass_to-requires-clause-opens
pass_to-requires-clause-opens c =
    let within : c.loop-opening.opening-index < length c.args.found.now = search rules in
    c.requires.opens (get_or c.args.found.now c.loop-opening.opening-index first_opening) (at_in c.args.found.now c.loop-opening.opening-index first_opening within)

pub loop-opening-preserved : goal.loop-opening-preserved
loop-opening-preserved c =
    let os : List BodyOpening = c.args.found.now in
    let i : ℕ = c.loop-opening.opening-index in
    let within : i < length os = search rules in
    subst (λ ps. Adds (ByOpenings c.args.code.now c.args.body (name_view c.args.name) ps) c.args.leads.now.keys c.pass_to.new.leads.keys) (take_next os i first_opening within)
    (next_opening c.args.code.now c.args.body (name_view c.args.name) (take i os) (get_or os i first_opening) c.args.leads.now.keys c.loop-opening.leads.keys c.pass_to.new.leads.keys c.loop-opening.invariant c.in_ok-pass_to.ensures)
