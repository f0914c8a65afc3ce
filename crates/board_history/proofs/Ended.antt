-- The counts of data after the end of an item of code, by the static counts.
use Rattle.std.proofs.Common.{◌≡◌, inl, inr, ℕ, ◌+◌, ◌*◌, Bool, true, false, List, [], ◌∷◌, ◌++◌, map, length, refl, sym, ap, ◌∙◌, subst, None, arith}
use Rattle.dataflow.specs.System.{In, Answer, Effect, Good, Bad, Opening, Outcome, tasks_of}
use Rattle.dataflow.specs.Machine.{End, Event, Run}
use Rattle.dataflow.specs.Log.{Ready}
use Rattle.dataflow.specs.History.{log_of}
use Rattle.dataflow.proofs.Ending.{fresh_made}
use Rattle.dataflow.proofs.Follows.{enabled}
use Rattle.dataflow.proofs.Lists.{in_left, in_map}
use Rattle.dataflow.proofs.Steps.{run_follows}
use Rattle.board_history.specs.Counts.{Exchanges, StartsWith, holds, readers, times, writers}
use Rattle.board_history.specs.Elements.{code_tests}
use Rattle.board_history.specs.Static.{EndCounts, added_by, blocks_hold, computed_by, opened, rests}
use Rattle.board_history.proofs.Counts.{run_starts}
use Rattle.board_history.proofs.Elements.{code_told}
use Rattle.board_history.proofs.Static.{adds_holds}
use Rattle.board_history.proofs.Turns.{all_held, rest_held}
use Rattle.task_code.proofs.Kept.{code_laws}
use Rattle.task_code.specs.Code.{Code, Variable, body, entry, loop_of}
use Rattle.task_code.specs.Compute.{Computed, EntryFault, Fails, Gives, Inserts, Opens, Takes, Turns, compute}
use Rattle.task_code.specs.Effects.{Item, Main, Task, block, effect_at, instances, is_too_deep, limited, outcome_of}
use Rattle.task_code.specs.Machine.{CodeState, CodeStep}
use Rattle.task_code.specs.Places.{Datum, Place, Step}
use Rattle.task_code.specs.System.{answered, code_system, task_reads, task_writes}
use Rattle.task_code.specs.Whole.{IsCode}
use Rattle.values.specs.declared.key.Key.{Key}
use Rattle.values.specs.declared.value.Scalar.{Scalar}

pub good_is : {x y : Effect Task Place Key Scalar} → ◌≡◌ {A = Outcome Task Place Key Scalar EntryFault} (Good x) (Good y) → x ≡ y
good_is h = cc

bad_good : {B : Type 0} {f : EntryFault} {y : Effect Task Place Key Scalar} → ◌≡◌ {A = Outcome Task Place Key Scalar EntryFault} (Bad f) (Good y) → B
bad_good h = absurd (cc)

limited_is : (b : Bool) (x y : Effect Task Place Key Scalar) → limited b x ≡ Good y → x ≡ y
limited_is true x y h = bad_good h
limited_is false x y h = good_is h

pub outcome_is : (c : Computed) (b : Bool) (x y : Effect Task Place Key Scalar) → outcome_of c b x ≡ Good y → x ≡ y
outcome_is (Fails f) b x y h = bad_good h
outcome_is (Gives v) b x y h = limited_is b x y h
outcome_is (Inserts xs) b x y h = limited_is b x y h
outcome_is (Takes t) b x y h = limited_is b x y h
outcome_is (Turns ts) b x y h = limited_is b x y h
outcome_is Opens b x y h = limited_is b x y h

module _ (C : Code) where
  -- what an effect opens
  pub opens_is : (u : Task) (xs : List (Answer Key Scalar)) (e : Effect Task Place Key Scalar) → (code_system C).effect u xs ≡ Good e → (y : Computed) × (e.opens ≡ map (block C) (opened C u y) ++ rests C u y) × (y ≡ computed_by C u xs)
  opens_is Main xs e h = (Opens, sym (ap (λ (x : Effect Task Place Key Scalar). x.opens) (good_is h)), refl)
  opens_is (Item i p c) xs e h =
      let y = compute (entry C i).act (answered C p (entry C i).needs xs) in
      (y, sym (ap (λ (x : Effect Task Place Key Scalar). x.opens) (outcome_is y (is_too_deep (entry C i).act p (instances (entry C i).act (entry C i).offset p c y)) (effect_at C i p c y) e h)), refl)

  reads_rest : (a : Place) (u : Task) (y : Computed) → holds (code_system C) code_tests (task_reads C) a (tasks_of (rests C u y)) ≡ length (rests C u y) * times (code_system C) code_tests a (task_reads C u)
  reads_rest a Main y = omega arith
  reads_rest a (Item i p c) y = rest_held C (task_reads C) a (loop_of (entry C i).act) i c p y refl

  writes_rest : (a : Place) (u : Task) (y : Computed) → holds (code_system C) code_tests (task_writes C) a (tasks_of (rests C u y)) ≡ length (rests C u y) * times (code_system C) code_tests a (task_writes C u)
  writes_rest a Main y = omega arith
  writes_rest a (Item i p c) y = rest_held C (task_writes C) a (loop_of (entry C i).act) i c p y refl

  -- blocks add to an older datum what their outer holds say
  reads_added : (q : List Step) (v : Variable) (ss : List (ℕ × List Step)) → ((s : ℕ × List Step) → In s ss → In v (body C s.0).makes → q ≡ s.1 → ⊥) → blocks_hold C (task_reads C) (Datum q v) ss ≡ added_by C (λ e. e.reads) (Datum q v) ss
  reads_added q v [] n = refl
  reads_added q v (s ∷ ss) n =
      let x = (adds_holds C s.0 s.1).outer_reads q v (n s (inl refl)) in
      let r = reads_added q v ss (λ u i. n u (inr i)) in
      λ k. x k + r k

  writes_added : (q : List Step) (v : Variable) (ss : List (ℕ × List Step)) → ((s : ℕ × List Step) → In s ss → In v (body C s.0).makes → q ≡ s.1 → ⊥) → blocks_hold C (task_writes C) (Datum q v) ss ≡ added_by C (λ e. e.writes) (Datum q v) ss
  writes_added q v [] n = refl
  writes_added q v (s ∷ ss) n =
      let x = (adds_holds C s.0 s.1).outer_writes q v (n s (inl refl)) in
      let r = writes_added q v ss (λ u i. n u (inr i)) in
      λ k. x k + r k

  module _ (I : IsCode C) (es : List Event) (s : CodeState) (run : Run (code_system C) es s) (t : CodeState) (n : ℕ) (x : Exchanges (code_system C) code_tests s n t) (starts : StartsWith (code_system C) code_tests t x.effect) (y : Computed) (o : x.effect.opens ≡ map (block C) (opened C x.item.task y) ++ rests C x.item.task y) (y_is : y ≡ computed_by C x.item.task x.answers) where
    block_in : (b : ℕ × List Step) → In b (opened C x.item.task y) → In (block C b) x.effect.opens
    block_in b i =
        subst (λ (os : List (Opening Task Place)). In (block C b) os) (sym o) (in_left (block C b) (map (block C) (opened C x.item.task y)) (rests C x.item.task y) (in_map (block C) b (opened C x.item.task y) i))

    -- what was there is none of theirs
    old : (q : List Step) (v : Variable) → In (Datum q v) s.places → (b : ℕ × List Step) → In b (opened C x.item.task y) → In v (body C b.0).makes → q ≡ b.1 → ⊥
    old q v h b i m e =
        let f = run_follows (code_system C) (code_laws C I) es s run in
        let log = log_of (code_system C) es s run in
        let en : Ready (code_system C) log x.item.task (Good x.effect) = subst (λ (r : Outcome Task Place Key Scalar EntryFault). Ready (code_system C) log x.item.task r) x.is (enabled (code_system C) (code_laws C I) s log f x.item.task (f.items.waits x.item x.there) x.answers x.known) in
        fresh_made (code_system C) (code_laws C I) log f.run x.item.task x.effect en (block C b) (Datum q v) (block_in b i)
        (subst (λ (r : List Step). In (Datum r v) (block C b).makes) (sym e) (in_map (Datum b.1) v (body C b.0).makes m))
        (f.store.data_in (Datum q v) h)

    sum_reads : (q : List Step) (v : Variable) → In (Datum q v) s.places → holds (code_system C) code_tests (task_reads C) (Datum q v) (tasks_of x.effect.opens) ≡ added_by C (λ e. e.reads) (Datum q v) (opened C x.item.task y) + length (rests C x.item.task y) * times (code_system C) code_tests (Datum q v) (task_reads C x.item.task)
    sum_reads q v h =
        ap (λ (os : List (Opening Task Place)). holds (code_system C) code_tests (task_reads C) (Datum q v) (tasks_of os)) o
        ∙ all_held C (task_reads C) (Datum q v) (opened C x.item.task y) (rests C x.item.task y) _ (reads_rest (Datum q v) x.item.task y)
        ∙ ap (λ (m : ℕ). m + length (rests C x.item.task y) * times (code_system C) code_tests (Datum q v) (task_reads C x.item.task)) (reads_added q v (opened C x.item.task y) (old q v h))

    sum_writes : (q : List Step) (v : Variable) → In (Datum q v) s.places → holds (code_system C) code_tests (task_writes C) (Datum q v) (tasks_of x.effect.opens) ≡ added_by C (λ e. e.writes) (Datum q v) (opened C x.item.task y) + length (rests C x.item.task y) * times (code_system C) code_tests (Datum q v) (task_writes C x.item.task)
    sum_writes q v h =
        ap (λ (os : List (Opening Task Place)). holds (code_system C) code_tests (task_writes C) (Datum q v) (tasks_of os)) o
        ∙ all_held C (task_writes C) (Datum q v) (opened C x.item.task y) (rests C x.item.task y) _ (writes_rest (Datum q v) x.item.task y)
        ∙ ap (λ (m : ℕ). m + length (rests C x.item.task y) * times (code_system C) code_tests (Datum q v) (task_writes C x.item.task)) (writes_added q v (opened C x.item.task y) (old q v h))

    counted : EndCounts C s n t
    counted = record {
      item = x.item;
      there = x.there;
      number_is = x.number_is;
      answers = x.answers;
      known = x.known;
      computed = y;
      computed_is = y_is;
      own_reads = λ b q v i m. starts.read (block C (b, q)) (Datum q v) (block_in (b, q) i) (in_map (Datum q) v (body C b).makes m) ∙ (adds_holds C b q).own_reads v;
      own_writes = λ b q v i m. starts.written (block C (b, q)) (Datum q v) (block_in (b, q) i) (in_map (Datum q) v (body C b).makes m) ∙ (adds_holds C b q).own_writes v;
      old_reads = λ q v h. x.counts (task_reads C) (Datum q v) ∙ ap (λ (m : ℕ). readers (code_system C) code_tests s (Datum q v) + m) (sum_reads q v h);
      old_writes = λ q v h. x.counts (task_writes C) (Datum q v) ∙ ap (λ (m : ℕ). writers (code_system C) code_tests s (Datum q v) + m) (sum_writes q v h);
    }

  pub end_counts_of : IsCode C → (es : List Event) (s : CodeState) → Run (code_system C) es s → (t : CodeState) (w n : ℕ) → CodeStep C s (End w n) t → t.fault ≡ None → EndCounts C s n t
  end_counts_of I es s run t w n step none =
      let both = run_starts (code_system C) code_tests (code_told C) (code_laws C I) (λ a i. i) es s run t w n step none in
      let o = opens_is both.0.item.task both.0.answers both.0.effect both.0.is in
      counted I es s run t n both.0 both.1 o.0 o.1 o.2
