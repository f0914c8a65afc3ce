use Rattle.std.proofs.Common.{◌≡◌, ℕ, ◌<◌, ◌∷◌, ◌++◌, [], List, length, get_or, take, subst, sym, ap, rules, ◌∙◌, ◌+◌}
use Rattle.dataflow.specs.System.{In}
use Rattle.task_code.specs.Code.{Code, Name}
use Rattle.task_code.specs.View.{name_view}
use Rattle.ref_counting.specs.declared.openings.BodyOpening.{BodyOpening}
use Rattle.ref_counting.specs.Leads.{name_of}
use Rattle.ref_counting.specs.Rights.{Adds, ByHomes, ByOpenings}
use Rattle.ref_counting.specs.Rows.{row}
use Rattle.ref_counting.proofs.Adding.{next_home_left, body_there}
use Rattle.ref_counting.proofs.Closing.{at_in, take_next}
use Rattle.ref_counting.proofs.rights.pass_on.Goals as goal

pub pass_body-requires-clause-body : goal.pass_body-requires-clause-body
pass_body-requires-clause-body c =
    let bs : List ℕ = c.at-body-items.result.now in
    let i : ℕ = c.loop-body.body-index in
    let within : i < length bs = search rules in
    body_there c.args.code.now c.args.lead.entry (get_or bs i 0)
    (c.requires.homes.only c.args.lead.entry (get_or bs i 0) (subst (In (get_or bs i 0)) c.at-body-items.ensures (at_in bs i 0 within)))

pub loop-body-preserved : goal.loop-body-preserved
loop-body-preserved c =
    let C : Code = c.args.code.now in
    let os : List (List BodyOpening) = c.args.index.now.openings in
    let q : Name = name_of c.args.lead in
    let bs : List ℕ = c.at-body-items.result.now in
    let i : ℕ = c.loop-body.body-index in
    let within : i < length bs = search rules in
    let b : ℕ = get_or bs i 0 in
    let step : Adds (ByOpenings C b q (row os b)) c.loop-body.leads.keys c.pass_body.new.leads.keys =
    subst (λ n. Adds (ByOpenings C b n (row os b)) c.loop-body.leads.keys c.pass_body.new.leads.keys) c.name.ensures
    (subst (λ ps. Adds (ByOpenings C b (name_view c.name.result) ps) c.loop-body.leads.keys c.pass_body.new.leads.keys) c.at-found.ensures c.in_ok-pass_body.ensures) in
    let taken : take i bs ++ b ∷ [] ≡ take (i + 1) (row c.args.index.now.homes c.args.lead.entry) = take_next bs i 0 within ∙ ap (take (i + 1)) c.at-body-items.ensures in
    let before : Adds (ByHomes C os q (take i bs)) c.args.leads.now.keys c.loop-body.leads.keys =
    subst (λ xs. Adds (ByHomes C os q (take i xs)) c.args.leads.now.keys c.loop-body.leads.keys) (sym c.at-body-items.ensures) c.loop-body.invariant in
    subst (λ xs. Adds (ByHomes C os q xs) c.args.leads.now.keys c.pass_body.new.leads.keys) taken
    (next_home_left C os q (take i bs) b c.args.leads.now.keys c.loop-body.leads.keys c.pass_body.new.leads.keys before step)
