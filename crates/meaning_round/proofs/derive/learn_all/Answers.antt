use Rattle.std.proofs.Common.{rules, ◌≡◌, ◌∷◌, ◌∙◌, List, length, subst, sym}
use Rattle.std.specs.Vec.Iter.{into_iter_items}
use Rattle.std.proofs.lemmas.List.{nil_from_length}
use Rattle.meaning_facts.specs.declared.facts.Fact.{Fact}
use Rattle.meaning_invariants.specs.Held.{AreAdded, no_more, one_more}
use Rattle.meaning_round.proofs.derive.learn_all.Goals as goal

pub loop-fact-preserved : goal.loop-fact-preserved
loop-fact-preserved c =
    let split : into_iter_items c.loop-fact.fact-iterator ≡ c.in-Some.fact ∷ into_iter_items c.next.new.self = search rules in
    record {
      facts = λ k r. c.loop-fact.invariant.facts k (subst (λ (left : List Fact). AreAdded c.loop-fact.fact_base.facts left k) (sym split) (one_more c.in_ok-learn_one.ensures.added r));
      heard = λ ls h. c.in_ok-learn_one.ensures.heard ls (c.loop-fact.invariant.heard ls h);
      instances = c.learn_one.ensures.instances ∙ c.loop-fact.invariant.instances;
      closed = c.learn_one.ensures.closed ∙ c.loop-fact.invariant.closed;
    }

pub returns : goal.returns
returns c =
    let few : length (into_iter_items c.loop-fact.fact-iterator) ≡ 0 = search rules in
    record {
      facts = c.loop-fact.invariant.facts c.loop-fact.fact_base.facts
          (subst (λ (left : List Fact). AreAdded c.loop-fact.fact_base.facts left c.loop-fact.fact_base.facts) (sym (nil_from_length (into_iter_items c.loop-fact.fact-iterator) few)) no_more);
      heard = c.loop-fact.invariant.heard;
      instances = c.loop-fact.invariant.instances;
      closed = c.loop-fact.invariant.closed;
    }
