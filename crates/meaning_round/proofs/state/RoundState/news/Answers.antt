use Rattle.std.proofs.Common.{rules, ◌≡◌, [], List, length, map, subst}
use Rattle.std.proofs.lemmas.Result.{IfOk-weaker}
use Rattle.std.specs.Prelude.{IfOk, OnOk}
use Rattle.meaning_invariants.specs.Held.{AreInside}
use Rattle.meaning_round.specs.Viewed.{facts_view}
use Rattle.meaning_round.specs.declared.state.LiveTask.{LiveTask}
use Rattle.meaning_round.specs.Hearing.{numbers_of, AreHeard}
use Rattle.meaning_round.specs.Made.{picks, tasks_of, telling_of}
use Rattle.meaning_round.specs.Standing.{active_of, actives_news, HavePlaces}
use Rattle.meaning_round.proofs.Round.{round_told}
use Rattle.meaning_round.proofs.state.RoundState.news.Goals as goal

pub returns-clause-told : goal.returns-clause-told
returns-clause-told g c =
    let A = g.row.A.Denot in
    let l = c.args.self.now.fact_base in
    let value : c.as_slice.result.now ≡ c.args.self.now.tasks.items = search rules in
    subst (λ (z : List (LiveTask A)). IfOk c.derive_all.result (λ news. facts_view l.instances.all.items news.items
    ≡ actives_news l (picks (map (active_of {A = A}) z) (numbers_of c.args.self.now.worklist (length (map (active_of {A = A}) z)))))) value c.derive_all.ensures.told

pub returns-clause-round : goal.returns-clause-round
returns-clause-round g c =
    let A = g.row.A.Denot in
    let l = c.args.self.now.fact_base in
    IfOk-weaker c.derive_all.result _ _
    (λ news e. λ bytes t tree r w single n h f.
    round_told bytes t tree r w single n l (tasks_of {A = A} c.args.self.now) (telling_of {A = A} c.args.self.now) (facts_view l.instances.all.items news.items) e h f)
    (returns-clause-told g c)

pub returns-clause-inside : goal.returns-clause-inside
returns-clause-inside g c =
    let A = g.row.A.Denot in
    let l = c.args.self.now.fact_base in
    let value : c.as_slice.result.now ≡ c.args.self.now.tasks.items = search rules in
    subst (λ (z : List (LiveTask A)). IfOk c.derive_all.result (λ news. HavePlaces l.instances.all.items (picks (map (active_of {A = A}) z) (numbers_of c.args.self.now.worklist (length (map (active_of {A = A}) z))))
    → AreInside l.instances.all.items news.items)) value c.derive_all.ensures.inside

pub returns-clause-heard : goal.returns-clause-heard
returns-clause-heard g c =
    let A = g.row.A.Denot in
    let l = c.args.self.now.fact_base in
    let value : c.as_slice.result.now ≡ c.args.self.now.tasks.items = search rules in
    subst (λ (z : List (LiveTask A)). OnOk c.derive_all.result (HavePlaces l.instances.all.items (map (active_of {A = A}) z) → AreHeard l (map (active_of {A = A}) z) c.args.self.now.worklist []
    → AreHeard l (map (active_of {A = A}) z) c.derive_all.new.worklist [])) value c.derive_all.ensures.heard
