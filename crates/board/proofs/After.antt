-- What the End of an item comes to, put together from what becomes of instances and data and from what becomes of the items.
use Rattle.std.proofs.Common.{◌≡◌, inl, inr, ◌∙◌, ℕ, zero, suc, ◌-◌, ◌<◌, ◌≤◌, Bool, true, false, not, List, [], ◌∷◌, ◌++◌, map, length, refl, sym, ap, subst, arith, Option, Some, None}
use Rattle.std.specs.Prelude.{if◌then◌else◌, nat_eq, nat_lt}
use Rattle.std.specs.List.{filter}
use Rattle.std.proofs.lemmas.Bool.Decides.{nat_tests}
use Rattle.std.proofs.lemmas.List.Sorted.{IsPermutation-refl}
use Rattle.dataflow.specs.System.{Answer, In}
use Rattle.dataflow.specs.Machine.{End, Event, SeesAll}
use Rattle.board_history.specs.CodeReplay.{replayed}
use Rattle.board_history.specs.Ending.{AreMade, BecomesKnown, CellsAfter, EndsTo, FramesOpen, Instance, NamesLead, TakenOff, TurnsAfter, home, is_one, job_stores, jobs_after, leaving, status_after, with_statuses, new_row, printed, turns_of_new}
use Rattle.board_history.specs.Fields.{Counted, Does, Fields, Frame, Job, Layout, Over, Ready, Row, Script, Waiting, Want, row_of, task_of}
use Rattle.board_history.specs.Needs.{job_missed}
use Rattle.board_history.specs.Stands.{Stands}
use Rattle.board_history.specs.Static.{computed_by, rests}
use Rattle.board_history.proofs.EndedBase.{Ending}
use Rattle.board_history.proofs.EndedFrames.{row_frame}
use Rattle.board_history.proofs.EndedItems.{row_below}
use Rattle.board_history.proofs.EndedRows.{row_kept, row_to}
use Rattle.board_history.proofs.Next.{nat_sound}
use Rattle.board_history.proofs.Rows.{no_row}
use Rattle.board_history.proofs.Tests.{choose, some_same}
use Rattle.rules.specs.Waiting as Rules
use Rattle.task_code.specs.Code.{Code}
use Rattle.task_code.specs.Compute.{Computed, Elements}
use Rattle.task_code.specs.Machine.{CodeState}
use Rattle.task_code.specs.System.{code_system, task_inputs}
use Rattle.task_code.specs.Whole.{IsCode}
use Rattle.values.specs.declared.key.Key.{Key}
use Rattle.values.specs.declared.value.Scalar.{Scalar}
use Rattle.board_program.specs.Spots.{layout_of}
use Rattle.board_items.specs.Ended.{AreSettled, AreShort, AreToSettle, IsSeen, ItemsFit, can_begin, misses, numbers_behind, runs_so, waiter_at}
use Rattle.board_items.specs.Learnt.{HaveLearnt, served}
use Rattle.board_items.specs.View.{waiters_view}
use Rattle.board_items.proofs.Fits.{items_fit}
use Rattle.board_items.proofs.Jobs.{seen_there}
use Rattle.board_items.proofs.Lists.{in_back}
use Rattle.board_items.proofs.Numbers.{served_was}
use Rattle.board_items.proofs.Tells.{all_settle, newly_after, queue_after, rows_after, waits_after}
use Rattle.board.proofs.Woken.{short_waiter}

-- what becomes of instances and data at the end of a job's item that computed this, and what becomes known
pub record WorldAfter (C : Code) (F : Fields) (j : Job) (x : Computed) (gs : List (Option Frame)) (ds : List (Option Counted)) : Type 0 where
  pub made : List Instance
  pub made_are : AreMade C made (task_of F.frames j) x
  pub middle : List (Option Frame)
  pub opens : FramesOpen C F.frames (home j) made middle
  pub leads : (k e c : ℕ) (m : Instance) → j ≡ Does k e c → In m made → NamesLead C (layout_of C) F.frames middle k e c m
  pub leaves : TakenOff gs middle (leaving j (rests C (task_of F.frames j) x))
  pub cells : CellsAfter C (layout_of C) F.frames middle j x made (rests C (task_of F.frames j) x) F.cells ds
  pub known : List (Want ℕ)
  pub becomes : BecomesKnown C (layout_of C) (job_stores C (layout_of C) F.frames j x) F.cells ds known

-- the jobs of the new items
abbrev pub new_jobs : (C : Code) (F : Fields) (j : Job) (x : Computed) (gs : List (Option Frame)) (ds : List (Option Counted)) → WorldAfter C F j x gs ds → List Job
new_jobs C F j x gs ds a = jobs_after C a.made j (rests C (task_of F.frames j) x)

-- all rows before any is settled
abbrev pub all_rows : (C : Code) (F : Fields) (j : Job) (x : Computed) (gs : List (Option Frame)) (ds : List (Option Counted)) → WorldAfter C F j x gs ds → List Row
all_rows C F j x gs ds a = F.rows ++ map new_row (new_jobs C F j x gs ds a)

-- the numbers of those that are settled
abbrev pub all_settled : (C : Code) (F : Fields) (j : Job) (x : Computed) (gs : List (Option Frame)) (ds : List (Option Counted)) → WorldAfter C F j x gs ds → List ℕ → List ℕ
all_settled C F j x gs ds a woken = woken ++ numbers_behind (length F.rows) (length (new_jobs C F j x gs ds a))

-- instances, data and items together are all that an End comes to
abbrev pub ends_to : (C : Code) (F G : Fields) (n : ℕ) (j : Job) (x : Computed) (a : WorldAfter C F j x G.frames G.cells) (left : List Rules.Waiting) (woken : List ℕ) → ItemsFit F → HaveLearnt a.known F.waiting left woken →
    AreSettled C G.frames G.cells (all_rows C F j x G.frames G.cells a) (length F.rows) n (waiters_view left) F.queue (all_settled C F j x G.frames G.cells a woken) G.rows G.waiting G.queue G.newly →
    TurnsAfter F G n x (all_rows C F j x G.frames G.cells a) → G.lines ≡ F.lines ++ printed C j x → G.running ≡ F.running - 1 → G.fault ≡ None → EndsTo C (layout_of C) F n j x G
ends_to C F G n j x a left woken fit learnt settled turns lines running fault =
    record {
      made = a.made;
      made_are = a.made_are;
      middle = a.middle;
      opens = a.opens;
      leads = a.leads;
      leaves = a.leaves;
      cells = a.cells;
      known = a.known;
      becomes = a.becomes;
      waits = waits_after C F G n (new_jobs C F j x G.frames G.cells a) a.known left woken fit learnt settled;
      newly = newly_after C F G n (new_jobs C F j x G.frames G.cells a) a.known left woken fit learnt settled;
      turns = turns;
      rows = rows_after C F G n (new_jobs C F j x G.frames G.cells a) a.known left woken fit learnt settled;
      queue = queue_after C F G n (new_jobs C F j x G.frames G.cells a) a.known left woken fit learnt settled;
      lines = lines;
      running = running;
      fault = fault;
    }

above : (a b : ℕ) → a < b → nat_lt a b ≡ true
above a b h = grind (arith, nat_tests)

not_above : (a b : ℕ) → b ≤ a → nat_lt a b ≡ false
not_above a b h = grind (arith, nat_tests)

-- a row's number is no more than there are rows
row_within : (rows : List Row) (m : ℕ) (r : Row) → row_of rows m ≡ Some r → m ≤ length rows
row_within rows zero r h = no_row rows r h
row_within rows (suc k) r h = let l = row_below rows k r h in omega arith

waiting_over : {B : Type 0} → Waiting ≡ Over → B
waiting_over h = absurd (cc)

ready_over : {B : Type 0} → Ready ≡ Over → B
ready_over h = absurd (cc)

module _ (C : Code) (F : Fields) (n : ℕ) (j : Job) (x : Computed) (gs : List (Option Frame)) (ds : List (Option Counted)) (a : WorldAfter C F j x gs ds) (left : List Rules.Waiting) (woken : List ℕ) where
  abbrev rows : List Row
  rows = all_rows C F j x gs ds a

  abbrev first : ℕ
  first = length F.rows

  abbrev done : List ℕ
  done = all_settled C F j x gs ds a woken

  abbrev begins : ℕ → Bool
  begins = can_begin C gs ds rows first

  -- the turns of a row that is new
  abbrev turns_of_row : Option Row → Option Elements
  turns_of_row None = None
  turns_of_row (Some r) = turns_of_new x (F.turns n) r.job

  -- fields to which the End leads, whatever their order
  abbrev after : Fields
  after =
      record {
        frames = gs;
        rows = with_statuses (status_after n (filter begins done)) 1 rows;
        cells = ds;
        waiting = waiters_view left ++ map (waiter_at C gs ds rows first) (filter (λ m. not (begins m)) done);
        turns = λ m. if nat_lt first m then turns_of_row (row_of rows m) else F.turns m;
        queue = λ k z. F.queue k z ++ filter (λ m. runs_so C k z (row_of rows m)) (filter begins done);
        lines = F.lines ++ printed C j x;
        fault = None;
        running = F.running - 1;
        newly = filter begins done;
      }

  pub settled : AreSettled C gs ds rows first n (waiters_view left) F.queue done after.rows after.waiting after.queue after.newly
  settled =
      record {
        rows_are = refl;
        newly_are = IsPermutation-refl (filter begins done);
        waits = IsPermutation-refl after.waiting;
        queue_is = λ k z. IsPermutation-refl (after.queue k z);
      }

  pub turns : TurnsAfter F after n x rows
  turns =
      record {
        others = λ m r h l d. ap (λ b. if b then turns_of_row (row_of rows m) else F.turns m) (not_above first m (row_within F.rows m r h));
        new = λ m r l h. ap (λ b. if b then turns_of_row (row_of rows m) else F.turns m) (above first m l) ∙ ap turns_of_row h;
      }

  abbrev pub after_ends : ItemsFit F → HaveLearnt a.known F.waiting left woken → EndsTo C (layout_of C) F n j x after
  after_ends fit learnt = ends_to C F after n j x a left woken fit learnt settled turns refl refl refl

-- what holds of the rows that are settled at an End without fault
module _ (C : Code) (I : IsCode C) (es : List Event) (F : Fields) (s : Stands C (layout_of C) es F) (w n : ℕ) (t : CodeState) (reached : replayed C (es ++ End w n ∷ []) ≡ Some t) (good : t.fault ≡ None) (row : Row) (row_is : row_of F.rows n ≡ Some row)
    (answers : List (Answer Key Scalar)) (sees : SeesAll (code_system C) s.state (task_inputs C (task_of F.frames row.job)) answers) (gs : List (Option Frame)) (ds : List (Option Counted)) (a : WorldAfter C F row.job (computed_by C (task_of F.frames row.job) answers) gs ds)
    (left : List Rules.Waiting) (woken : List ℕ) (learnt : HaveLearnt a.known F.waiting left woken) where
  abbrev L : Layout
  L = layout_of C

  abbrev x : Computed
  x = computed_by C (task_of F.frames row.job) answers

  abbrev G : Fields
  G = after C F n row.job x gs ds a left woken

  abbrev ending : Ending C L es F w n t G
  ending = record { x = s; reached = reached; good = good; row = row; row_is = row_is; answers = answers; known = sees; to = after_ends C F n row.job x gs ds a left woken (items_fit C I L es F s) learnt }

  same_missed : (j : Job) → misses C gs ds j ≡ job_missed C L G j
  same_missed Script = refl
  same_missed (Does k e c) = refl

  -- an item that was woken misses nothing, or waits for an element, and for two inputs at most
  pub woken_short : AreShort C gs ds (all_rows C F row.job x gs ds a) (length F.rows) woken
  woken_short m r h q =
      let v = served_was a.known F.waiting m (in_back (served a.known F.waiting) woken m learnt.noted h) in
      elim (short_waiter C I L es F w n t G ending v.was v.there v.none r (ap (row_of (all_rows C F row.job x gs ds a)) v.same ∙ q)) [
        | inl g ↦ inl g
        | inr g ↦ inr (same_missed r.job ∙ g)
      ]

  -- the instance of an item that waits is there
  module _ (idle : row.status ≡ Waiting → ⊥) where
    stays_live : (m : ℕ) → (m ≡ n → ⊥) → status_after n G.newly m Waiting ≡ Over → ⊥
    stays_live m d =
        choose (λ y. y ≡ Over → ⊥) (nat_eq m n) Over (if is_one m G.newly then Ready else Waiting)
        (λ e h. d (nat_sound m n e))
        (λ e. choose (λ y. y ≡ Over → ⊥) (is_one m G.newly) Ready Waiting (λ f h. ready_over h) (λ f h. waiting_over h))

    waits_seen : (m : ℕ) (r : Row) → row_of (all_rows C F row.job x gs ds a) m ≡ Some r → r.status ≡ Waiting → IsSeen C gs r.job
    waits_seen zero r h k = no_row (all_rows C F row.job x gs ds a) r h
    waits_seen (suc i) r h k = by r.job refl
      where
        other : suc i ≡ n → ⊥
        other e = idle (ap (λ (y : Row). y.status) (some_same (sym (row_kept F.rows _ n row row_is) ∙ ap (row_of (all_rows C F row.job x gs ds a)) (sym e) ∙ h)) ∙ k)

        by : (b : Job) → r.job ≡ b → IsSeen C gs r.job
        by Script q = subst (IsSeen C gs) (sym q) tt
        by (Does k1 e c) q =
            let f = row_frame C I L es F w n t G ending (suc i) k1 e c (record { job = r.job; status = status_after n G.newly (suc i) r.status }) (row_to (status_after n G.newly) 1 (all_rows C F row.job x gs ds a) i (suc i) r h (omega arith)) q (λ o. stays_live (suc i) other (ap (status_after n G.newly (suc i)) (sym k) ∙ o)) in
            subst (IsSeen C gs) (sym q) (seen_there C I gs k1 e c f.0 f.1 f.2)

    -- all that were woken, and all new ones, can be settled
    pub all_seen : AreToSettle C gs ds (all_rows C F row.job x gs ds a) (length F.rows) n (all_settled C F row.job x gs ds a woken)
    all_seen = all_settle F (new_jobs C F row.job x gs ds a) a.known left woken (items_fit C I L es F s) learnt C gs ds n row row_is idle waits_seen
