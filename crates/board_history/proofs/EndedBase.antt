-- What an End without fault is told by: the fields before and after it, and the states that they stand for.
use Rattle.std.proofs.Common.{◌≡◌, ◌⊎◌, inl, inr, ℕ, suc, ◌+◌, ◌*◌, Bool, true, false, List, [], ◌∷◌, ◌++◌, map, length, sym, ap, ◌∙◌, subst, Option, None, Some, arith}
use Rattle.dataflow.specs.System.{Answer, Effect, Good, In, Opening, Outcome, Write, makes_of}
use Rattle.dataflow.specs.History.{log_of}
use Rattle.dataflow.specs.Laws.{Can}
use Rattle.dataflow.specs.Log.{Logged, Ready}
use Rattle.dataflow.specs.Machine.{End, Event, Free, Run, SeesAll, ended}
use Rattle.dataflow.proofs.Ending.{fresh_made}
use Rattle.dataflow.proofs.Follows.{Follows, enabled}
use Rattle.dataflow.proofs.Known.{answers_are_one, one_value}
use Rattle.dataflow.proofs.Lists.{in_left, in_map, in_split, in_unmap, in_makes, makes_in, seam_here, in_right}
use Rattle.dataflow.proofs.Numbers.{Numbered, run_numbered, step_numbered}
use Rattle.dataflow.proofs.Runs.{enabled_comes, run_settled}
use Rattle.dataflow.proofs.Settled.{Settled, can_of_comes}
use Rattle.dataflow.proofs.Steps.{run_follows}
use Rattle.board_history.specs.CodeReplay.{replayed}
use Rattle.board_history.specs.Elements.{code_tests}
use Rattle.board_history.specs.Ending.{EndsTo, OpensItems}
use Rattle.board_history.specs.Fields.{Fields, Layout, Row, row_of, task_of}
use Rattle.board_history.specs.Stands.{Stands}
use Rattle.board_history.specs.Counts.{readers, times, writers}
use Rattle.board_history.specs.Static.{EndCounts, added_by, computed_by, opened, own_count, rests}
use Rattle.board_history.specs.Tidy.{IsBare}
use Rattle.board_history.proofs.Counts.{made_to_read, made_to_write}
use Rattle.board_history.proofs.Elements.{code_told}
use Rattle.board_history.proofs.Ended.{end_counts_of, opens_is}
use Rattle.board_history.proofs.EndedItems.{opens_items, step as step_of}
use Rattle.board_history.proofs.Marking.{RowIs, row_found}
use Rattle.board_history.proofs.Quiet.{replayed_bare}
use Rattle.board_history.proofs.Replays.{run_replayed}
use Rattle.board_history.proofs.Seen.{OneValue}
use Rattle.task_code.proofs.Kept.{code_laws}
use Rattle.task_code.specs.Code.{Code, Loop, Variable, body, entry, loop_of}
use Rattle.task_code.specs.Compute.{Computed, EntryFault}
use Rattle.task_code.specs.Effects.{Item, Main, Task, block, is_some_list, left_at, rest, rest_if, turns_of}
use Rattle.task_code.specs.Machine.{CodeItem, CodeState, CodeStep}
use Rattle.task_code.specs.Places.{Datum, Place, Step}
use Rattle.task_code.specs.System.{code_system, task_inputs, task_reads, task_writes}
use Rattle.task_code.specs.Whole.{IsCode}
use Rattle.values.specs.declared.key.Key.{Key}
use Rattle.values.specs.declared.value.Scalar.{Scalar}
use Rattle.board_history.proofs.Tests.{some_same}
use Rattle.board_history.proofs.Standing.{one_number}

-- fields that stand for the state before an End, what the End is, and the fields after it
pub record Ending (C : Code) (L : Layout) (es : List Event) (F : Fields) (w n : ℕ) (t : CodeState) (G : Fields) : Type 0 where
  pub x : Stands C L es F
  pub reached : replayed C (es ++ End w n ∷ []) ≡ Some t
  pub good : t.fault ≡ None
  pub row : Row
  pub row_is : row_of F.rows n ≡ Some row
  pub answers : List (Answer Key Scalar)
  pub known : SeesAll (code_system C) x.state (task_inputs C (task_of F.frames row.job)) answers
  pub to : EndsTo C L F n row.job (computed_by C (task_of F.frames row.job) answers) G

module _ (C : Code) where
  -- an item that goes on with a loop makes no data
  pub rests_none : (u : Task) (y : Computed) (p : Opening Task Place) → In p (rests C u y) → p.makes ≡ []
  rests_none Main y p h = absurd h
  rests_none (Item i q c) y p h = by (loop_of (entry C i).act) h
    where
      rest_by : (b : Bool) → In p (rest_if b i q c) → p.makes ≡ []
      rest_by true h = elim h [ inl e ↦ ap (λ (z : Opening Task Place). z.makes) e | inr g ↦ absurd g ]
      rest_by false h = absurd h

      by : (l : Option Loop) → In p (rest l i q c y) → p.makes ≡ []
      by None h = absurd h
      by (Some w) h = rest_by (is_some_list (left_at (suc c) (turns_of y))) h

module _ (C : Code) (I : IsCode C) (L : Layout) (es : List Event) (F : Fields) (w n : ℕ) (t : CodeState) (G : Fields) (P : Ending C L es F w n t G) where
  abbrev pub s : CodeState
  s = P.x.state

  abbrev pub task : Task
  task = task_of F.frames P.row.job

  abbrev pub computed : Computed
  computed = computed_by C task P.answers

  pub run : Run (code_system C) es s
  run = (run_replayed (code_system C) code_tests (code_told C) (code_laws C I) es s P.x.reached).0

  pub run_t : Run (code_system C) (es ++ End w n ∷ []) t
  run_t = (run_replayed (code_system C) code_tests (code_told C) (code_laws C I) (es ++ End w n ∷ []) t P.reached).0

  abbrev pub log : List (Task × Effect Task Place Key Scalar)
  log = log_of (code_system C) es s run

  pub follows : Follows (code_system C) s log
  follows = run_follows (code_system C) (code_laws C I) es s run

  pub follows_t : Follows (code_system C) t (log_of (code_system C) (es ++ End w n ∷ []) t run_t)
  follows_t = run_follows (code_system C) (code_laws C I) (es ++ End w n ∷ []) t run_t

  pub one_s : OneValue (code_system C) code_tests (code_told C) s
  one_s = one_value (code_system C) (code_laws C I) s log follows

  pub one_t : OneValue (code_system C) code_tests (code_told C) t
  one_t = one_value (code_system C) (code_laws C I) t (log_of (code_system C) (es ++ End w n ∷ []) t run_t) follows_t

  abbrev pub step : CodeStep C s (End w n) t
  step = step_of C I L es F P.x w n t P.reached P.good

  abbrev pub o : OpensItems (code_system C) s w n t
  o = opens_items (code_system C) s t w n step P.good

  pub numbers : Numbered (code_system C) s
  numbers = run_numbered (code_system C) es s run

  pub numbers_t : Numbered (code_system C) t
  numbers_t = step_numbered (code_system C) s (End w n) t numbers step

  pub bare_s : IsBare (code_system C) s
  bare_s = replayed_bare (code_system C) code_tests (code_told C) es s P.x.reached

  pub bare_t : IsBare (code_system C) t
  bare_t = replayed_bare (code_system C) code_tests (code_told C) (es ++ End w n ∷ []) t P.reached

  pub here : In o.item s.items
  here = subst (λ (is : List CodeItem). In o.item is) (sym o.there) (seam_here o.item o.before o.after)

  pub row_there : (i : CodeItem) → In i s.items → RowIs F.frames F.rows 1 i
  row_there i h = row_found F.frames 1 F.rows i (subst (λ (is : List CodeItem). In i is) (sym P.x.items.items) h)

  pub own_row : (f : RowIs F.frames F.rows 1 o.item) → (f.row ≡ P.row) × (suc f.at ≡ n)
  own_row f =
      let a = f.number_is in
      let b = o.number_is in
      let at : suc f.at ≡ n = omega arith in
      (some_same (sym f.there ∙ subst (λ (m : ℕ). row_of F.rows m ≡ Some P.row) (sym at) P.row_is), at)

  -- the item that ends has the row's task
  pub own_task : o.item.task ≡ task
  own_task =
      let f = row_there o.item here in
      f.task_is ∙ ap (λ (r : Row). task_of F.frames r.job) (own_row f).0

  pub same_answers : o.answers ≡ P.answers
  same_answers =
      (answers_are_one (code_system C) (code_laws C I) s log follows).one o.item here o.answers P.answers o.known (subst (λ (u : Task). SeesAll (code_system C) s (task_inputs C u) P.answers) (sym own_task) P.known)

  -- its effect
  pub effect_is : (code_system C).effect task P.answers ≡ Good o.effect
  effect_is =
      (λ k. (code_system C).effect (sym own_task k) (sym same_answers k)) ∙ o.is

  pub opens_are : o.effect.opens ≡ map (block C) (opened C task computed) ++ rests C task computed
  opens_are =
      let p = opens_is C task P.answers o.effect effect_is in
      p.1 ∙ ap (λ (y : Computed). map (block C) (opened C task y) ++ rests C task y) p.2

  pub ready : Ready (code_system C) log o.item.task (Good o.effect)
  ready =
      subst (λ (r : Outcome Task Place Key Scalar EntryFault). Ready (code_system C) log o.item.task r) o.is (enabled (code_system C) (code_laws C I) s log follows o.item.task (follows.items.waits o.item here) o.answers o.known)

  pub settled : Settled (code_system C) (Logged (code_system C) log)
  settled = (run_settled (code_system C) (code_laws C I) follows.run).0

  pub can : Can (code_system C) o.item.task o.effect
  can =
      let sh = run_settled (code_system C) (code_laws C I) follows.run in
      can_of_comes (code_system C) (code_laws C I) (Logged (code_system C) log) sh.0 (enabled_comes (code_system C) (code_laws C I) log sh.0 sh.1 ready)

  -- what an item has a right to is there
  pub read_there : (i : CodeItem) → In i s.items → (a : Place) → In a ((code_system C).may_read i.task) → In a s.places
  read_there i h a m =
      follows.store.data_all a i.task (made_to_read (code_system C) code_tests (code_told C) (code_laws C I) (λ b k. k) (Logged (code_system C) log) settled a (follows.items.waits i h).live m) (follows.items.waits i h) (inl m)

  pub write_there : (i : CodeItem) → In i s.items → (a : Place) → In a ((code_system C).may_write i.task) → In a s.places
  write_there i h a m =
      follows.store.data_all a i.task (made_to_write (code_system C) code_tests (code_told C) (code_laws C I) (Logged (code_system C) log) settled a (follows.items.waits i h).live m) (follows.items.waits i h) (inr m)

  -- what is made was not there
  pub made_new : (b : ℕ × List Step) → In b (opened C task computed) → (a : Place) → In a (block C b).makes → In a s.places → ⊥
  made_new b i a m h =
      fresh_made (code_system C) (code_laws C I) log follows.run o.item.task o.effect ready (block C b) a
      (subst (λ (os : List (Opening Task Place)). In (block C b) os) (sym opens_are) (in_left (block C b) (map (block C) (opened C task computed)) (rests C task computed) (in_map (block C) b (opened C task computed) i)))
      m (follows.store.data_in a h)

  abbrev pub mid : CodeState
  mid = ended (code_system C) s (o.before ++ o.after) o.effect

  free_on : (a : Place) → Free (code_system C) mid a → Free (code_system C) t a
  free_on a f = record {
    unread = λ i h. f.unread i (subst (λ (is : List CodeItem). In i is) o.left.items h);
    unwritten = λ i h. f.unwritten i (subst (λ (is : List CodeItem). In i is) o.left.items h);
  }

  -- data and values afterwards
  pub place_stays : (a : Place) → In a mid.places → (Free (code_system C) t a → ⊥) → In a t.places
  place_stays a h nf = elim (o.left.stays a h) [ inl g ↦ g | inr f ↦ absurd (nf (free_on a f)) ]

  pub old_place : (a : Place) → In a s.places → (Free (code_system C) t a → ⊥) → In a t.places
  old_place a h nf = place_stays a (in_right a (makes_of o.effect.opens) s.places h) nf

  pub value_stays : (v : Write Place Key Scalar) → In v mid.stored → (Free (code_system C) t v.place → ⊥) → In v t.stored
  value_stays v h nf = elim (o.left.value_stays v h) [ inl g ↦ g | inr f ↦ absurd (nf (free_on v.place f)) ]

  pub value_was : (v : Write Place Key Scalar) → In v t.stored → In v o.effect.writes ⊎ In v s.stored
  value_was v h = in_split v o.effect.writes s.stored (o.left.no_new_value v h)

  -- what is made
  pub made_is : (a : Place) → In a (makes_of o.effect.opens) → (b : ℕ × List Step) × (v : Variable) × In b (opened C task computed) × In v (body C b.0).makes × (a ≡ Datum b.1 v)
  made_is a h =
      let p = in_makes a o.effect.opens h in
      elim (in_split p.0 (map (block C) (opened C task computed)) (rests C task computed) (subst (λ (os : List (Opening Task Place)). In p.0 os) opens_are p.1)) [
        | inl g ↦ (let b = in_unmap (block C) p.0 (opened C task computed) g in
            let v = in_unmap (Datum b.0.1) a (body C b.0.0).makes (subst (λ (z : Opening Task Place). In a z.makes) (sym b.2) p.2) in
            (b.0, v.0, b.1, v.1, sym v.2))
        | inr g ↦ absurd (subst (λ (l : List Place). In a l) (rests_none C task computed p.0 g) p.2)
      ]

  pub is_made : (b : ℕ × List Step) (v : Variable) → In b (opened C task computed) → In v (body C b.0).makes → In (Datum b.1 v) mid.places
  is_made b v i m =
      in_left (Datum b.1 v) (makes_of o.effect.opens) s.places
      (makes_in (Datum b.1 v) (block C b) o.effect.opens
      (subst (λ (os : List (Opening Task Place)). In (block C b) os) (sym opens_are) (in_left (block C b) (map (block C) (opened C task computed)) (rests C task computed) (in_map (block C) b (opened C task computed) i)))
      (in_map (Datum b.1) v (body C b.0).makes m))

  pub place_was : (a : Place) → In a t.places → In a (makes_of o.effect.opens) ⊎ In a s.places
  place_was a h = in_split a (makes_of o.effect.opens) s.places (o.left.no_new_place a h)

  -- the counts afterwards
  abbrev counts_of : EndCounts C s n t
  counts_of = end_counts_of C I es s run t w n step P.good

  count_item : counts_of.item ≡ o.item
  count_item = one_number s.items counts_of.item o.item numbers.once counts_of.there here (counts_of.number_is ∙ sym o.number_is)

  count_task : counts_of.item.task ≡ task
  count_task = ap (λ (i : CodeItem). i.task) count_item ∙ own_task

  count_answers : counts_of.answers ≡ P.answers
  count_answers =
      (answers_are_one (code_system C) (code_laws C I) s log follows).one counts_of.item counts_of.there counts_of.answers P.answers counts_of.known (subst (λ (u : Task). SeesAll (code_system C) s (task_inputs C u) P.answers) (sym count_task) P.known)

  count_computed : counts_of.computed ≡ computed
  count_computed = counts_of.computed_is ∙ (λ k. computed_by C (count_task k) (count_answers k))

  -- the same of the task and what it computed
  pub record Counts (u : Task) (y : Computed) : Type 0 where
    pub own_reads : (b : ℕ) (q : List Step) (v : Variable) → In (b, q) (opened C u y) → In v (body C b).makes → readers (code_system C) code_tests t (Datum q v) ≡ own_count C (λ e. e.reads) b v
    pub own_writes : (b : ℕ) (q : List Step) (v : Variable) → In (b, q) (opened C u y) → In v (body C b).makes → writers (code_system C) code_tests t (Datum q v) ≡ own_count C (λ e. e.writes) b v
    pub old_reads : (q : List Step) (v : Variable) → In (Datum q v) s.places → readers (code_system C) code_tests t (Datum q v) + times (code_system C) code_tests (Datum q v) (task_reads C u) ≡ readers (code_system C) code_tests s (Datum q v) + (added_by C (λ e. e.reads) (Datum q v) (opened C u y) + length (rests C u y) * times (code_system C) code_tests (Datum q v) (task_reads C u))
    pub old_writes : (q : List Step) (v : Variable) → In (Datum q v) s.places → writers (code_system C) code_tests t (Datum q v) + times (code_system C) code_tests (Datum q v) (task_writes C u) ≡ writers (code_system C) code_tests s (Datum q v) + (added_by C (λ e. e.writes) (Datum q v) (opened C u y) + length (rests C u y) * times (code_system C) code_tests (Datum q v) (task_writes C u))

  first_counts : Counts counts_of.item.task counts_of.computed
  first_counts = record { own_reads = counts_of.own_reads; own_writes = counts_of.own_writes; old_reads = counts_of.old_reads; old_writes = counts_of.old_writes }

  pub counts : Counts task computed
  counts = subst (λ (y : Computed). Counts task y) count_computed (subst (λ (u : Task). Counts u counts_of.computed) count_task first_counts)
