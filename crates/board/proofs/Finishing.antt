-- What a board comes to when an item ends without fault, step by step.
use Rattle.std.proofs.Common.{◌≡◌, ◌∙◌, ℕ, suc, ◌+◌, ◌-◌, ◌<◌, ◌≤◌, false, List, [], ◌∷◌, ◌++◌, map, length, refl, sym, ap, subst, Option, Some, None}
use Rattle.std.specs.Prelude.{◌*◌, ◌^◌, vec_capacity}
use Rattle.dataflow.specs.System.{Answer}
use Rattle.dataflow.specs.Machine.{End, Event, SeesAll}
use Rattle.board_history.specs.Fields.{Counted, Fields, Frame, Job, Over, Row, Running, row_of, task_of}
use Rattle.board_history.specs.Static.{computed_by}
use Rattle.board_history.proofs.EndedRows.{row_kept}
use Rattle.task_code.specs.Code.{Code, body}
use Rattle.task_code.specs.Compute.{Computed}
use Rattle.board_history.specs.CodeReplay.{replayed}
use Rattle.task_code.specs.Machine.{CodeState}
use Rattle.task_code.specs.System.{code_system, task_inputs}
use Rattle.task_code.specs.Whole.{IsCode}
use Rattle.values.specs.declared.key.Key.{Key}
use Rattle.values.specs.declared.value.Scalar.{Scalar}
use Rattle.board_program.specs.Spots.{layout_of}
use Rattle.board_data.specs.View.{cells_view}
use Rattle.board_effects.specs.Effects.{GoesWell, IsEffect}
use Rattle.board_effects.specs.declared.effect.Effect.{Effect}
use Rattle.board_effects.specs.declared.effect.Effect.TheVariants as To
use Rattle.board_instances.specs.View.{frames_view, row_view, rows_view}
use Rattle.board_items.proofs.Fits.{items_fit}
use Rattle.board_items.proofs.Learnt.{nothing_learnt}
use Rattle.board_items.specs.Ended.{AreSettled, AreShort, AreToSettle, numbers_behind}
use Rattle.board_items.specs.Learnt.{HaveLearnt}
use Rattle.board_items.specs.Progress.{AreOld, CanFinish, all_to_settle}
use Rattle.board_items.specs.Room.{IsRoomy}
use Rattle.board_items.specs.View.{queue_view, waiters_view}
use Rattle.board_changes.specs.declared.data_state.DataState.{DataState}
use Rattle.board_data.specs.Wanted.{FewSlots}
use Rattle.work_queue.specs.Both.{Both}
use Rattle.board_changes.proofs.Bridge.{are_blocks}
use Rattle.board_changes.specs.Room.{TakesMore}
use Rattle.board_changes.specs.World.{CanStore}
use Rattle.board.proofs.HoldsFit.{holds_fit}
use Rattle.board.proofs.Parts.{change_opens, change_prints, change_stores, goes_well}
use Rattle.board.proofs.Passed.{good_end, passed_core}
use Rattle.board.proofs.Passing.{ends_after, old_woken, short, to_settle, turns_then, within}
use Rattle.board.proofs.Targets.{change_takes}
use Rattle.board.proofs.WorldEnded.{ChangeFits, WorldPasses, passes}
use Rattle.board.specs.Board.{Rises}
use Rattle.board.specs.Changing.{change_of, line_of}
use Rattle.board.specs.Counted.{CanChange}
use Rattle.board.specs.Ending.{is_fault}
use Rattle.board_data.specs.Data.{AreRising}
use Rattle.board.specs.Inside.{Stand}
use Rattle.board.specs.Made.{CanNote, HasMade}
use Rattle.board.specs.Rows.{RunsOn}
use Rattle.board.specs.View.{fields_view}
use Rattle.board.specs.declared.state.BoardState.{BoardState}

map_length : {X Y : Type 0} (f : X → Y) (xs : List X) → length (map f xs) ≡ length xs
map_length f [] = refl
map_length f (x ∷ xs) = ap suc (map_length f xs)

runs_over : {B : Type 0} (w : ℕ) → Running w ≡ Over → B
runs_over w h = absurd (cc)

module _ (C : Code) (I : IsCode C) (es : List Event) (old mid : BoardState) (s : Stand C es old) (free : old.fault ≡ None) (w n : ℕ) (j : Job) (runs : RunsOn (rows_view old.items.rows.items) w n j)
    (xs : List (Answer Key Scalar)) (sees : SeesAll (code_system C) s.stands.state (task_inputs C (task_of (frames_view old.data_state.instances.slots) j)) xs) (e : Effect)
    (effect : IsEffect C (frames_view old.data_state.instances.slots) (cells_view old.data_state.store.cells) j (computed_by C (task_of (frames_view old.data_state.instances.slots) j) xs) e) (good : is_fault e ≡ false)
    (can : CanChange C (frames_view old.data_state.instances.slots) (length old.items.rows.items) j (change_of e)) (takes : TakesMore (change_of e) old.data_state.store) (note : CanNote old)
    (made : HasMade C j (change_of e) (line_of e) old mid) where
  abbrev F : Fields
  F = fields_view s.told old

  abbrev x : Computed
  x = computed_by C (task_of F.frames j) xs

  abbrev row : Row
  row = record { job = j; status = Running w }

  abbrev gs : List (Option Frame)
  gs = frames_view mid.data_state.instances.slots

  abbrev ds : List (Option Counted)
  ds = cells_view mid.data_state.store.cells

  abbrev rows : List Row
  rows = rows_view mid.items.rows.items

  well : GoesWell C F.frames F.cells j x e
  well = goes_well C F.frames F.cells j x e good effect

  count : length F.rows ≡ length old.items.rows.items
  count = map_length row_view old.items.rows.items

  -- the change fits
  fits : (e : Effect) → GoesWell C F.frames F.cells j x e → CanChange C F.frames (length old.items.rows.items) j (change_of e) → ChangeFits C F j old.data_state.store (change_of e)
  fits (To.Fails f) g c = tt
  fits (To.Stores d v) g c = tt
  fits (To.InsertsElement d k v) g c = tt
  fits (To.Inserts d ys) g c = tt
  fits (To.Prints v) g c = tt
  fits To.Passes g c = tt
  fits (To.Opens o) g c = (
    record { around = c.0.around; count = c.0.slots; first = c.0.first; few = c.0.few_slots },
    holds_fit C I es F s.stands j x old.data_state.store refl o (are_blocks C F.frames s.stands.frames.depth x o j g.opens) c.0.most c.0.names.reads c.0.names.writes
        (subst (λ k. k * c.0.most + (length o.list.items * (length (body C o.body).entries * c.0.most) + length o.list.items * (length (body C o.body).entries * c.0.most)) < 2 ^ 64) (sym count) c.0.few),
  )

  ended : (t : CodeState) × (replayed C (es ++ End w n ∷ []) ≡ Some t) × (t.fault ≡ None)
  ended = good_end C I es old mid s free w n j runs xs sees e effect good

  can_store : CanStore (change_of e) old.data_state.store
  can_store = change_takes C I es F s.stands w n ended.0 ended.1 row runs xs sees old.data_state.store refl e effect takes

  pub passed : WorldPasses C F j x gs ds rows made.news
  passed = passes C I es F s.stands n row runs (runs_over w) x old.data_state.store refl s.kept.few (change_of e) j refl can_store (change_opens C F.frames F.cells j x e well) (fits e well can) (change_stores C F.frames F.cells j x e well) gs rows mid.data_state.store made.news made.data_state

  pub heard : HaveLearnt made.news F.waiting mid.items.rules.waiting mid.items.woken.items
  heard = made.learnt note F.waiting (nothing_learnt old.items.rules.waiting (λ v h. ((items_fit C I (layout_of C) es F s.stands).waiting v h).0))

  pub settles : AreToSettle C gs ds rows (length F.rows) n (mid.items.woken.items ++ numbers_behind (length F.rows) (length rows - length F.rows))
  settles = to_settle C I es F s.stands w n j runs ended.0 ended.1 ended.2 xs sees gs ds rows made.news passed mid.items.rules.waiting mid.items.woken.items heard

  pub are_short : AreShort C gs ds rows (length F.rows) mid.items.woken.items
  are_short = short C I es F s.stands w n j runs ended.0 ended.1 ended.2 xs sees gs ds rows made.news passed mid.items.rules.waiting mid.items.woken.items heard

  same_first : (first : ℕ) → first ≡ length old.items.rows.items → first ≡ length F.rows
  same_first first e = e ∙ sym count

  all_same : (first : ℕ) → first ≡ length old.items.rows.items → all_to_settle first mid.items ≡ mid.items.woken.items ++ numbers_behind (length F.rows) (length rows - length F.rows)
  all_same first e =
      let a : length mid.items.rows.items ≡ length rows = sym (map_length row_view mid.items.rows.items) in
      let b : first ≡ length F.rows = same_first first e in
      λ i. mid.items.woken.items ++ numbers_behind (b i) (a i - b i)

  -- the item can end, where there is room
  pub can_finish : (first : ℕ) → first ≡ length old.items.rows.items → IsRoomy C mid.items → length mid.items.woken.items + (length mid.items.rows.items - first) ≤ mid.items.rules.room → length mid.items.woken.items + (length mid.items.rows.items - first) ≤ vec_capacity mid.items.newly →
      CanFinish C gs ds n j first mid.items
  can_finish first e roomy rules newly =
      record {
        row = row;
        there = ap (λ (l : List Row). row_of l n) passed.rows_are ∙ row_kept F.rows _ n row runs;
        runs = refl;
        job_is = refl;
        few = passed.few;
        to_settle = subst (λ (k : ℕ). AreToSettle C gs ds rows k n (all_to_settle first mid.items)) (sym (same_first first e)) (subst (λ (l : List ℕ). AreToSettle C gs ds rows (length F.rows) n l) (sym (all_same first e)) settles);
        old_woken = subst (λ (k : ℕ). AreOld k mid.items.woken.items) (sym (same_first first e)) (old_woken C I es F s.stands w n j runs ended.0 ended.1 ended.2 xs sees gs ds rows made.news passed mid.items.rules.waiting mid.items.woken.items heard);
        within = subst (λ (k : ℕ). k ≤ length mid.items.rows.items) (sym (same_first first e)) (subst (λ (k : ℕ). length F.rows ≤ k) (map_length row_view mid.items.rows.items) (within C I es F s.stands w n j runs ended.0 ended.1 ended.2 xs sees gs ds rows made.news passed mid.items.rules.waiting mid.items.woken.items heard));
        roomy = roomy;
        rules_fit = rules;
        newly_fit = newly;
      }

  pub are_short_from : (first : ℕ) → first ≡ length old.items.rows.items → AreShort C gs ds rows first mid.items.woken.items
  are_short_from first e = subst (λ (k : ℕ). AreShort C gs ds rows k mid.items.woken.items) (sym (same_first first e)) are_short

  -- once the items are settled, the fields stand for the next state
  pub finished : (new : BoardState) (first : ℕ) → first ≡ length old.items.rows.items → new.data_state ≡ mid.data_state → new.lines ≡ mid.lines → new.fault ≡ mid.fault →
      AreSettled C gs ds rows first n (waiters_view mid.items.rules.waiting) (queue_view mid.items.queue) (all_to_settle first mid.items) (rows_view new.items.rows.items) (waiters_view new.items.rules.waiting) (queue_view new.items.queue) new.items.newly.items →
      IsRoomy C new.items → new.items.running ≡ mid.items.running - 1 → Rises new.items.newly.items → Stand C (es ++ End w n ∷ []) new
  finished new first q data_state lines fault settled roomy running rises =
      passed_core C I es old new s free w n j runs xs sees e effect good (record { turns = turns_then F n x rows; fault = None })
      (ends_after C I es F s.stands w n j runs ended.0 ended.1 ended.2 xs sees gs ds rows made.news passed mid.items.rules.waiting mid.items.woken.items heard (fields_view (record { turns = turns_then F n x rows; fault = None }) new)
      (ap (λ (v : DataState). frames_view v.instances.slots) data_state) (ap (λ (v : DataState). cells_view v.store.cells) data_state)
      (subst (λ (u : Both). AreSettled C gs ds rows (length F.rows) n (waiters_view mid.items.rules.waiting) (queue_view u) (mid.items.woken.items ++ numbers_behind (length F.rows) (length rows - length F.rows)) (rows_view new.items.rows.items) (waiters_view new.items.rules.waiting) (queue_view new.items.queue) new.items.newly.items) made.queue
      (subst (λ (k : ℕ). AreSettled C gs ds rows k n (waiters_view mid.items.rules.waiting) (queue_view mid.items.queue) (mid.items.woken.items ++ numbers_behind (length F.rows) (length rows - length F.rows)) (rows_view new.items.rows.items) (waiters_view new.items.rules.waiting) (queue_view new.items.queue) new.items.newly.items) (same_first first q)
      (subst (λ (l : List ℕ). AreSettled C gs ds rows first n (waiters_view mid.items.rules.waiting) (queue_view mid.items.queue) l (rows_view new.items.rows.items) (waiters_view new.items.rules.waiting) (queue_view new.items.queue) new.items.newly.items) (all_same first q) settled)))
      (λ m. refl)
      (ap (λ l. l.items) lines ∙ made.lines ∙ ap (λ (l : List Scalar). old.lines.items ++ l) (sym (change_prints C F.frames F.cells j x e well)))
      (running ∙ ap (λ k. k - 1) made.running)
      refl)
      (fault ∙ made.fault ∙ free)
      (record {
        few = subst (λ (v : DataState). FewSlots (frames_view v.instances.slots)) (sym data_state) passed.few;
        rising = subst (λ (v : DataState). AreRising v.store) (sym data_state) (made.rising s.kept.rising);
        roomy = roomy;
        rises = rises;
      })
