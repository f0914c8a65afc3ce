use Rattle.std.proofs.Common.{◌≡◌, ◌<◌, ◌≤◌, ◌+◌, ℕ, suc, [], sym, ap, ◌∙◌, subst, rules, arith}
use Rattle.std.specs.Prelude.{nat_eq}
use Rattle.std.proofs.lemmas.List.{nil_from_length}
use Rattle.language.specs.Core.{Core}
use Rattle.language.specs.Resolved.{core}
use Rattle.language_accepted.proofs.Accepted.{accepted_formed}
use Rattle.language_accepted.proofs.Apart.{read_placed}
use Rattle.flow.specs.View.{core_of}
use Rattle.meaning_invariants.proofs.Offsets.{offsets_apart}
use Rattle.meaning_round.specs.Going.{IsBetween}
use Rattle.meaning_round.specs.Made.{tasks_of, telling_of}
use Rattle.meaning_round.proofs.Listed.{not_both}
use Rattle.meaning_openings.proofs.Larger.{answer_passes, memory_is_small}
use Rattle.meaning_outcomes.proofs.Knowing.{empty_so, finished_so, is_known, next_between, not_empty, same_stuck, starts_between, unfinished_so, IsAsking, IsLearning}
use Rattle.meaning.proofs.rounds_within.Goals as goal

pub loop-round-init : goal.loop-round-init
loop-round-init g c =
    let A = g.row.A.Denot in
    let made = c.in_ok-state.ensures in
    record {
      between = λ bytes t tree r w single e. subst (λ (z : Core). IsBetween {A = A} z 0 c.in_ok-state.state) e
          (starts_between {A = A} (core_of {A = A} c.args.flow.now) c.in_ok-state.state made.fact_base made.tasks made.fresh made.passed.0 made.passed.1 made.arrays);
      flow = made.flow;
    }

pub loop-round-preserved : goal.loop-round-preserved
loop-round-preserved g c =
    let A = g.row.A.Denot in
    let n = c.loop-round.round in
    let known = c.in_ok-news.ensures in
    let asks : IsAsking {A = g.row.A.Denot} c.compute_fixpoint.new.state c.news.new.self = record {
      heard = c.in_ok-news.ensures.heard;
      fact_base = c.news.ensures.fact_base;
      tasks = c.news.ensures.tasks;
      arrays = c.news.ensures.arrays;
      waiting = c.news.ensures.waiting;
      passed = c.news.ensures.passed;
    } in
    let learns : IsLearning {A = g.row.A.Denot} c.news.new.self c.learn-in-loop-round.new.self c.in_ok-news.news.items = record {
      facts = c.in_ok-learn.ensures.facts;
      heard = c.in_ok-learn.ensures.heard;
      instances = c.learn-in-loop-round.ensures.instances;
      closed = c.learn-in-loop-round.ensures.closed;
      tasks = c.learn-in-loop-round.ensures.tasks;
      arrays = c.learn-in-loop-round.ensures.arrays;
      waiting = c.learn-in-loop-round.ensures.waiting;
      passed = c.learn-in-loop-round.ensures.passed;
    } in
    record {
      between = λ bytes t tree r w single e. (
          let s = core t tree in
          let same : s ≡ core_of {A = A} c.loop-round.state.flow.now = sym e ∙ ap (core_of {A = A}) (sym c.loop-round.invariant.flow) in
          let settled = c.in_ok-compute_fixpoint.ensures.so s n same (accepted_formed bytes t tree r w single) single (offsets_apart t tree (read_placed bytes tree r)) (c.loop-round.invariant.between bytes t tree r w single e) in
          let one : suc n ≡ n + 1 = omega arith in
          subst (λ (z : ℕ). IsBetween {A = A} s z c.learn-in-loop-round.new.self) one
          (next_between bytes t tree r w single {A = A} n c.compute_fixpoint.new.state c.news.new.self c.learn-in-loop-round.new.self c.in_ok-news.news.items settled.0 settled.1 known.inside (known.round bytes t tree r w single n settled.1)
          asks learns)
          );
      flow = c.learn-in-loop-round.ensures.flow ∙ c.news.ensures.flow ∙ c.compute_fixpoint.ensures.flow ∙ c.loop-round.invariant.flow;
    }

pub returns-then-is_empty : goal.returns-then-is_empty
returns-then-is_empty g c =
    let A = g.row.A.Denot in
    let n = c.loop-round.round in
    let k = c.in_ok-known.known in
    let made = c.in_ok-known.ensures in
    let below : n < c.args.limit = search rules in
    let empty : c.in_ok-news.news.items ≡ [] = nil_from_length c.in_ok-news.news.items (search rules) in
    record {
      known = λ bytes t tree r w single e. (
          let s = core t tree in
          let same : s ≡ core_of {A = A} c.loop-round.state.flow.now = sym e ∙ ap (core_of {A = A}) (sym c.loop-round.invariant.flow) in
          let settled = c.in_ok-compute_fixpoint.ensures.so s n same (accepted_formed bytes t tree r w single) single (offsets_apart t tree (read_placed bytes tree r)) (c.loop-round.invariant.between bytes t tree r w single e) in
          let l = c.compute_fixpoint.new.state.fact_base in
          let ls = tasks_of {A = A} c.compute_fixpoint.new.state in
          let telling = telling_of {A = A} c.compute_fixpoint.new.state in
          let round = c.in_ok-news.ensures.round bytes t tree r w single n settled.1 in
          is_known bytes t tree r w single n l ls telling settled.1 settled.0.stands.good.holds k made.rounds (made.fact_base ∙ c.news.ensures.fact_base)
          (made.stuck ∙ same_stuck c.news.new.self.fact_base l (tasks_of {A = A} c.news.new.self) ls c.news.ensures.fact_base c.news.ensures.tasks)
          (λ f. finished_so bytes t tree r w single n l ls telling settled.1 settled.0.stands.good.holds c.in_ok-news.news.items round empty) (λ f. absurd (not_both (sym made.finished ∙ f)))
          );
      within = let rounds = made.rounds in (omega (arith, rounds, below), λ f. absurd (not_both (sym made.finished ∙ f)));
      large = tt;
    }

pub returns : goal.returns
returns g c =
    let A = g.row.A.Denot in
    let n = c.args.limit in
    let k = c.in_ok-knowledge.knowledge in
    let made = c.in_ok-knowledge.ensures in
    let news = c.in_ok-last.last.items in
    let test = made.finished ∙ c.is_empty-finished.ensures ∙ ap (λ (z : ℕ). nat_eq z 0) c.in_ok-last.last.ok.0 in
    let ended : c.loop-round.round ≡ n = search rules in
    record {
      known = λ bytes t tree r w single e. (
          let s = core t tree in
          let same : s ≡ core_of {A = A} c.loop-round.state.flow.now = sym e ∙ ap (core_of {A = A}) (sym c.loop-round.invariant.flow) in
          let between = subst (λ (z : ℕ). IsBetween {A = A} s z c.loop-round.state) ended (c.loop-round.invariant.between bytes t tree r w single e) in
          let settled = c.in_ok-compute_fixpoint-2.ensures.so s n same (accepted_formed bytes t tree r w single) single (offsets_apart t tree (read_placed bytes tree r)) between in
          let l = c.compute_fixpoint-2.new.state.fact_base in
          let ls = tasks_of {A = A} c.compute_fixpoint-2.new.state in
          let telling = telling_of {A = A} c.compute_fixpoint-2.new.state in
          let round = c.in_ok-last.ensures.round bytes t tree r w single n settled.1 in
          is_known bytes t tree r w single n l ls telling settled.1 settled.0.stands.good.holds k made.rounds (made.fact_base ∙ c.news-2.ensures.fact_base)
          (made.stuck ∙ same_stuck c.news-2.new.self.fact_base l (tasks_of {A = A} c.news-2.new.self) ls c.news-2.ensures.fact_base c.news-2.ensures.tasks)
          (λ f. finished_so bytes t tree r w single n l ls telling settled.1 settled.0.stands.good.holds news round (empty_so news k.finished test f))
          (λ f. unfinished_so bytes t tree r w single n l ls telling settled.1 settled.0.stands.good.holds news round c.in_ok-last.ensures.told (not_empty news k.finished test f))
          );
      within = let rounds = made.rounds in (omega (arith, rounds), λ f. rounds);
      large = tt;
    }

pub returns-in_err-compute_fixpoint-clause-large : goal.returns-in_err-compute_fixpoint-clause-large
returns-in_err-compute_fixpoint-clause-large g c =
    let A = g.row.A.Denot in
    let n = c.loop-round.round in
    let less : n < c.args.limit = search rules in
    let below : n ≤ c.args.limit = omega (arith, less) in
    answer_passes c.in_err-compute_fixpoint.field-0.0 c.from_residual-in_err-compute_fixpoint.result c.from_residual-in_err-compute_fixpoint.ensures.1
    (λ q bytes t tree r w single e. (
    let s = core t tree in
    let same : s ≡ core_of {A = A} c.loop-round.state.flow.now = sym e ∙ ap (core_of {A = A}) (sym c.loop-round.invariant.flow) in
    let large = c.in_err-compute_fixpoint.ensures.large q s n same (accepted_formed bytes t tree r w single) single (offsets_apart t tree (read_placed bytes tree r))
    (c.loop-round.invariant.between bytes t tree r w single e) in
    (n, (below, large))
    ))

pub returns-in_err-compute_fixpoint-2-clause-large : goal.returns-in_err-compute_fixpoint-2-clause-large
returns-in_err-compute_fixpoint-2-clause-large g c =
    let A = g.row.A.Denot in
    let n = c.args.limit in
    let ended : c.loop-round.round ≡ n = search rules in
    let within : n ≤ n = omega arith in
    answer_passes c.in_err-compute_fixpoint-2.field-0.0 c.from_residual-in_err-compute_fixpoint-2.result c.from_residual-in_err-compute_fixpoint-2.ensures.1
    (λ q bytes t tree r w single e. (
    let s = core t tree in
    let same : s ≡ core_of {A = A} c.loop-round.state.flow.now = sym e ∙ ap (core_of {A = A}) (sym c.loop-round.invariant.flow) in
    let between = subst (λ (z : ℕ). IsBetween {A = A} s z c.loop-round.state) ended (c.loop-round.invariant.between bytes t tree r w single e) in
    let large = c.in_err-compute_fixpoint-2.ensures.large q s n same (accepted_formed bytes t tree r w single) single (offsets_apart t tree (read_placed bytes tree r)) between in
    (n, (within, large))
    ))

pub returns-in_err-state-clause-large : goal.returns-in_err-state-clause-large
returns-in_err-state-clause-large g c = memory_is_small _ c.from_residual.result c.from_residual.ensures.1

pub returns-in_err-news-clause-large : goal.returns-in_err-news-clause-large
returns-in_err-news-clause-large g c = memory_is_small _ c.from_residual-in_err-news.result c.from_residual-in_err-news.ensures.1

pub returns-in_err-known-clause-large : goal.returns-in_err-known-clause-large
returns-in_err-known-clause-large g c = memory_is_small _ c.from_residual-in_err-known.result c.from_residual-in_err-known.ensures.1

pub returns-in_err-learn-clause-large : goal.returns-in_err-learn-clause-large
returns-in_err-learn-clause-large g c = memory_is_small _ c.from_residual-in_err-learn.result c.from_residual-in_err-learn.ensures.1

pub returns-in_err-last-clause-large : goal.returns-in_err-last-clause-large
returns-in_err-last-clause-large g c = memory_is_small _ c.from_residual-in_err-last.result c.from_residual-in_err-last.ensures.1

pub returns-in_err-knowledge-clause-large : goal.returns-in_err-knowledge-clause-large
returns-in_err-knowledge-clause-large g c = memory_is_small _ c.from_residual-in_err-knowledge.result c.from_residual-in_err-knowledge.ensures.1
