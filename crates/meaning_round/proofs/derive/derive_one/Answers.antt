use Rattle.std.proofs.Common.{◌≡◌, Some, None, map, slice_get, ap, ◌∙◌}
use Rattle.std.proofs.lemmas.Option.{slice_get-map, slice_get_past}
use Rattle.std.proofs.lemmas.Result.{on_ok_weaker}
use Rattle.std.specs.Prelude.{option_map}
use Rattle.meaning_cells.proofs.Ending.{slice_there}
use Rattle.meaning_round.specs.Viewed.{facts_view}
use Rattle.meaning_round.specs.Standing.{active_of}
use Rattle.meaning_round.proofs.Asking.{nobody_tells, one_tells, places_one}
use Rattle.meaning_round.proofs.Heard.{heard_nobody}
use Rattle.meaning_round.proofs.derive.derive_one.Goals as goal

pub returns-in_default-clause-told : goal.returns-in_default-clause-told
returns-in_default-clause-told g c =
    let A = g.row.A.Denot in
    let l = c.args.fact_base.now in
    let past : slice_get c.args.tasks.now c.args.number ≡ None = slice_get_past c.args.tasks.now c.args.number c.in_default.ensures.lookup.3 in
    nobody_tells l (map (active_of {A = A}) c.args.tasks.now) c.args.number (facts_view l.instances.all.items c.args.news.now.items)
    (slice_get-map (active_of {A = A}) c.args.tasks.now c.args.number ∙ ap (option_map (active_of {A = A})) past)

pub returns-in_default-clause-inside : goal.returns-in_default-clause-inside
returns-in_default-clause-inside g c = λ h a. a

pub returns-in_default-clause-heard : goal.returns-in_default-clause-heard
returns-in_default-clause-heard g c =
    let A = g.row.A.Denot in
    let past : slice_get c.args.tasks.now c.args.number ≡ None = slice_get_past c.args.tasks.now c.args.number c.in_default.ensures.lookup.3 in
    λ places asked h. heard_nobody c.args.fact_base.now (map (active_of {A = A}) c.args.tasks.now) c.args.worklist.now c.args.number asked
    (slice_get-map (active_of {A = A}) c.args.tasks.now c.args.number ∙ ap (option_map (active_of {A = A})) past) h

pub returns-clause-told : goal.returns-clause-told
returns-clause-told g c =
    let A = g.row.A.Denot in
    let l = c.args.fact_base.now in
    let found : slice_get c.args.tasks.now c.args.number ≡ Some c.in-Some.task.now =
    slice_there c.args.tasks.now c.args.number c.in-Some.task.now c.in-Some.ensures.lookup.3.0 c.in-Some.ensures.lookup.1 in
    on_ok_weaker c.derive_task.result
    (λ e. one_tells l (map (active_of {A = A}) c.args.tasks.now) c.args.number (active_of {A = A} c.in-Some.task.now) (facts_view l.instances.all.items c.args.news.now.items)
    (facts_view l.instances.all.items c.derive_task.new.news.items) (slice_get-map (active_of {A = A}) c.args.tasks.now c.args.number ∙ ap (option_map (active_of {A = A})) found) e)
    c.derive_task.ensures.told

pub returns-clause-inside : goal.returns-clause-inside
returns-clause-inside g c =
    let A = g.row.A.Denot in
    let l = c.args.fact_base.now in
    let found : slice_get c.args.tasks.now c.args.number ≡ Some c.in-Some.task.now =
    slice_there c.args.tasks.now c.args.number c.in-Some.task.now c.in-Some.ensures.lookup.3.0 c.in-Some.ensures.lookup.1 in
    on_ok_weaker c.derive_task.result
    (λ f. λ h. f (places_one l.instances.all.items (map (active_of {A = A}) c.args.tasks.now) c.args.number (active_of {A = A} c.in-Some.task.now)
    (slice_get-map (active_of {A = A}) c.args.tasks.now c.args.number ∙ ap (option_map (active_of {A = A})) found) h))
    c.derive_task.ensures.inside

pub returns-clause-heard : goal.returns-clause-heard
returns-clause-heard g c =
    let A = g.row.A.Denot in
    let found : slice_get c.args.tasks.now c.args.number ≡ Some c.in-Some.task.now =
    slice_there c.args.tasks.now c.args.number c.in-Some.task.now c.in-Some.ensures.lookup.3.0 c.in-Some.ensures.lookup.1 in
    on_ok_weaker c.derive_task.result
    (λ f. λ places asked h. f (map (active_of {A = A}) c.args.tasks.now) (slice_get-map (active_of {A = A}) c.args.tasks.now c.args.number ∙ ap (option_map (active_of {A = A})) found) places asked h)
    c.derive_task.ensures.heard
