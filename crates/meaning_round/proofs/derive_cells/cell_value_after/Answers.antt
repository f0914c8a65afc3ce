use Rattle.std.proofs.Common.{rules, ◌≡◌, ◌++◌, ◌∷◌, [], List, Some, None, Ok, Err, sym, ap, ◌∙◌}
use Rattle.flow.specs.View.{cell_view, form_view}
use Rattle.language.specs.Facts.{Fact}
use Rattle.meaning_facts.specs.declared.facts.Fact.TheVariants as Is
use Rattle.meaning_facts.specs.declared.facts.Place.{Place}
use Rattle.meaning_facts.specs.Growing.{fact_view}
use Rattle.meaning_facts.specs.Kinds.{kind_view}
use Rattle.meaning_facts.specs.Store.{value_at}
use Rattle.meaning_steps.specs.Environment.{outcome}
use Rattle.meaning_round.specs.Viewed.{facts_view}
use Rattle.meaning_round.specs.Faults.{past_at, path_at, sight_at}
use Rattle.meaning_round.specs.Told.{cell_news}
use Rattle.meaning_round.proofs.Behind.{cell_bad, cell_known, cell_new, cell_open, told_none, told_one}
use Rattle.meaning_round.proofs.Inside.{value_added}
use Rattle.meaning_round.proofs.derive_cells.cell_value_after.Goals as goal

pub returns-in_ok-push-in-Some-Ok-clause-inside : goal.returns-in_ok-push-in-Some-Ok-clause-inside
returns-in_ok-push-in-Some-Ok-clause-inside g c = value_added c.args.fact_base.now.instances.all.items c.args.site.instance c.place-place.result _ c.args.cell.now.node c.in_ok-push-in-Some-Ok.ensures.items c.place-place.ensures

pub returns-in-Some-clause-told : goal.returns-in-Some-clause-told
returns-in-Some-clause-told g c =
    let A = g.row.A.Denot in
    let l = c.args.fact_base.now in
    let t = c.args.site in
    let d = cell_view {A = A} c.args.cell.now in
    let known : value_at c.args.fact_base.now.facts (record { instance = c.args.site.instance; node = c.args.cell.now.node }) ≡ Some c.in-Some.value.now = search rules in
    told_none (facts_view l.instances.all.items c.args.news.now.items) (cell_news l t d)
    (cell_known (past_at l t) (path_at l t) t.at d.node (value_at l.facts (record { instance = t.instance; node = d.node })) (outcome (sight_at l t) d.form) c.in-Some.value.now known)

pub returns-in-None-clause-told : goal.returns-in-None-clause-told
returns-in-None-clause-told g c =
    let A = g.row.A.Denot in
    let l = c.args.fact_base.now in
    let t = c.args.site in
    let d = cell_view {A = A} c.args.cell.now in
    let none : value_at c.args.fact_base.now.facts (record { instance = c.args.site.instance; node = c.args.cell.now.node }) ≡ None = search rules in
    let waits : outcome (sight_at c.args.fact_base.now c.args.site) (form_view {A = g.row.A.Denot} c.args.cell.now.form) ≡ None = search rules in
    told_none (facts_view l.instances.all.items c.args.news.now.items) (cell_news l t d)
    (cell_open (past_at l t) (path_at l t) t.at d.node (value_at l.facts (record { instance = t.instance; node = d.node })) (outcome (sight_at l t) d.form) none waits)

pub returns-in_ok-add_fault-in-Some-Err-clause-told : goal.returns-in_ok-add_fault-in-Some-Err-clause-told
returns-in_ok-add_fault-in-Some-Err-clause-told g c =
    let A = g.row.A.Denot in
    let l = c.args.fact_base.now in
    let t = c.args.site in
    let d = cell_view {A = A} c.args.cell.now in
    let none : value_at c.args.fact_base.now.facts (record { instance = c.args.site.instance; node = c.args.cell.now.node }) ≡ None = search rules in
    let bad : outcome (sight_at c.args.fact_base.now c.args.site) (form_view {A = g.row.A.Denot} c.args.cell.now.form) ≡ Some (Err (kind_view c.in-Some-Err.kind)) = search rules in
    c.in_ok-add_fault-in-Some-Err.ensures.told
    ∙ ap (λ (z : List Fact). facts_view l.instances.all.items c.args.news.now.items ++ z)
    (sym (cell_bad (past_at l t) (path_at l t) t.at d.node (value_at l.facts (record { instance = t.instance; node = d.node })) (outcome (sight_at l t) d.form) (kind_view c.in-Some-Err.kind) none bad))

pub returns-in_ok-push-in-Some-Ok-clause-told : goal.returns-in_ok-push-in-Some-Ok-clause-told
returns-in_ok-push-in-Some-Ok-clause-told g c =
    let A = g.row.A.Denot in
    let l = c.args.fact_base.now in
    let t = c.args.site in
    let ns = c.args.fact_base.now.instances.all.items in
    let d = cell_view {A = A} c.args.cell.now in
    let none : value_at c.args.fact_base.now.facts (record { instance = c.args.site.instance; node = c.args.cell.now.node }) ≡ None = search rules in
    let come : outcome (sight_at c.args.fact_base.now c.args.site) (form_view {A = g.row.A.Denot} c.args.cell.now.form) ≡ Some (Ok c.in-Some-Ok.value) = search rules in
    let added : c.push.new.self.items ≡ c.args.news.now.items ++ Is.Value c.place-place.result c.in-Some-Ok.value ∷ [] = search rules in
    ap (facts_view ns) added
    ∙ told_one ns c.args.news.now.items (Is.Value c.place-place.result c.in-Some-Ok.value) (cell_news l t d)
    (cell_new (past_at l t) (path_at l t) t.at d.node (value_at l.facts (record { instance = t.instance; node = d.node })) (outcome (sight_at l t) d.form) c.in-Some-Ok.value none come
    ∙ ap (λ (z : Place). fact_view ns (Is.Value z c.in-Some-Ok.value) ∷ []) (sym c.place-place.ensures))
