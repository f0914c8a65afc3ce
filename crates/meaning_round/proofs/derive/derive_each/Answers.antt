use Rattle.std.proofs.Common.{rules, ◌≡◌, ◌∷◌, ◌++◌, List, ℕ, length, map, subst}
use Rattle.std.specs.Vec.Iter.{into_iter_items}
use Rattle.std.proofs.lemmas.List.{nil_from_length}
use Rattle.meaning_round.specs.Viewed.{facts_view}
use Rattle.meaning_round.specs.Hearing.{AreHeard}
use Rattle.meaning_round.specs.Made.{picks}
use Rattle.meaning_round.specs.Standing.{active_of, actives_news, HavePlaces}
use Rattle.meaning_round.proofs.Asking.{asked_last, asked_next, places_next}
use Rattle.meaning_round.proofs.derive.derive_each.Goals as goal

pub loop-number-preserved : goal.loop-number-preserved
loop-number-preserved g c =
    let A = g.row.A.Denot in
    let l = c.args.fact_base.now in
    let ls = map (active_of {A = A}) c.args.tasks.now in
    let ns = c.args.fact_base.now.instances.all.items in
    let left = into_iter_items c.next.new.self in
    let split : into_iter_items c.loop-number.number-iterator ≡ c.in-Some.number ∷ into_iter_items c.next.new.self = search rules in
    let asked = c.in_ok-derive_one.ensures in
    record {
      told = asked_next l ls c.in-Some.number left (facts_view ns c.loop-number.news.items) (facts_view ns c.derive_one.new.news.items) (actives_news l (picks ls c.args.numbers.items))
          (subst (λ (z : List ℕ). facts_view ns c.loop-number.news.items ++ actives_news l (picks ls z) ≡ actives_news l (picks ls c.args.numbers.items)) split c.loop-number.invariant.told) asked.told;
      inside = λ h. (
          let before = c.loop-number.invariant.inside h in
          let places = places_next ns ls c.in-Some.number left (subst (λ (z : List ℕ). HavePlaces ns (picks ls z)) split before.1) in
          (asked.inside places.0 before.0, places.1)
          );
      heard = λ places h. asked.heard places left (subst (λ (z : List ℕ). AreHeard l ls c.loop-number.worklist z) split (c.loop-number.invariant.heard places h));
    }

pub returns : goal.returns
returns g c =
    let A = g.row.A.Denot in
    let l = c.args.fact_base.now in
    let ls = map (active_of {A = A}) c.args.tasks.now in
    let few : length (into_iter_items c.loop-number.number-iterator) ≡ 0 = search rules in
    let none = nil_from_length (into_iter_items c.loop-number.number-iterator) few in
    record {
      told = asked_last l ls (into_iter_items c.loop-number.number-iterator) (facts_view l.instances.all.items c.loop-number.news.items) (actives_news l (picks ls c.args.numbers.items)) none c.loop-number.invariant.told;
      inside = λ h. (c.loop-number.invariant.inside h).0;
      heard = λ places h. subst (λ (z : List ℕ). AreHeard l ls c.loop-number.worklist z) none (c.loop-number.invariant.heard places h);
    }
