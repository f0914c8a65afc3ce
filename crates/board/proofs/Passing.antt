-- An item has ended without fault: what can be settled then, and for what the fields stand once it is settled.
use Rattle.std.proofs.Common.{◌≡◌, ◌∙◌, ℕ, zero, suc, ◌-◌, ◌<◌, ◌≤◌, true, false, List, [], ◌∷◌, ◌++◌, map, length, refl, sym, ap, subst, arith, Option, Some, None}
use Rattle.std.specs.Prelude.{if◌then◌else◌, nat_lt}
use Rattle.std.proofs.lemmas.Bool.Decides.{nat_tests}
use Rattle.std.proofs.lemmas.List.{length-append}
use Rattle.dataflow.specs.System.{Answer}
use Rattle.dataflow.specs.Machine.{End, Event, SeesAll}
use Rattle.board_history.specs.CodeReplay.{replayed}
use Rattle.board_history.specs.Ending.{EndsTo, TurnsAfter, new_row, printed, turns_of_new}
use Rattle.board_history.specs.Fields.{Counted, Fields, Frame, Job, Row, Running, Waiting, Want, row_of, task_of}
use Rattle.board_history.specs.Stands.{Stands}
use Rattle.board_history.specs.Static.{computed_by}
use Rattle.board_history.proofs.EndedFields.{end_stands}
use Rattle.board_history.proofs.EndedItems.{row_below}
use Rattle.board_history.proofs.Rows.{no_row}
use Rattle.rules.specs.Waiting as Rules
use Rattle.task_code.specs.Code.{Code}
use Rattle.task_code.specs.Compute.{Computed, Elements}
use Rattle.task_code.specs.Machine.{CodeState}
use Rattle.task_code.specs.System.{code_system, task_inputs}
use Rattle.task_code.specs.Whole.{IsCode}
use Rattle.values.specs.declared.key.Key.{Key}
use Rattle.values.specs.declared.value.Scalar.{Scalar}
use Rattle.board_program.specs.Spots.{layout_of}
use Rattle.board_items.specs.Ended.{AreSettled, AreShort, AreToSettle, numbers_behind}
use Rattle.board_items.specs.Learnt.{HaveLearnt}
use Rattle.board_items.specs.Progress.{AreOld}
use Rattle.board_items.specs.View.{waiters_view}
use Rattle.board_items.proofs.Fits.{items_fit}
use Rattle.board_items.proofs.Tells.{woken_old}
use Rattle.board.proofs.After.{WorldAfter, all_seen, ends_to, new_jobs, woken_short}
use Rattle.board.proofs.WorldEnded.{WorldPasses}

-- the turns that items keep afterwards
abbrev pub turns_in : (F : Fields) (n : ℕ) → Computed → Option Row → Option Elements
turns_in F n x None = None
turns_in F n x (Some r) = turns_of_new x (F.turns n) r.job

abbrev pub turns_then : (F : Fields) (n : ℕ) → Computed → (rows : List Row) → ℕ → Option Elements
turns_then F n x rows m = if nat_lt (length F.rows) m then turns_in F n x (row_of rows m) else F.turns m

above : (a b : ℕ) → a < b → nat_lt a b ≡ true
above a b h = grind (arith, nat_tests)

not_above : (a b : ℕ) → b ≤ a → nat_lt a b ≡ false
not_above a b h = grind (arith, nat_tests)

row_within : (rows : List Row) (m : ℕ) (r : Row) → row_of rows m ≡ Some r → m ≤ length rows
row_within rows zero r h = no_row rows r h
row_within rows (suc k) r h = let l = row_below rows k r h in omega arith

turns_kept : (F G : Fields) (n : ℕ) (x : Computed) (rows : List Row) → ((m : ℕ) → G.turns m ≡ turns_then F n x rows m) → TurnsAfter F G n x rows
turns_kept F G n x rows e =
    record {
      others = λ m r h l d. e m ∙ ap (λ b. if b then turns_in F n x (row_of rows m) else F.turns m) (not_above (length F.rows) m (row_within F.rows m r h));
      new = λ m r l h. e m ∙ ap (λ b. if b then turns_in F n x (row_of rows m) else F.turns m) (above (length F.rows) m l) ∙ ap (turns_in F n x) h;
    }

map_length : {X Y : Type 0} (f : X → Y) (xs : List X) → length (map f xs) ≡ length xs
map_length f [] = refl
map_length f (x ∷ xs) = ap suc (map_length f xs)

behind_count : (rows : List Row) (js : List Job) → length (rows ++ map new_row js) - length rows ≡ length js
behind_count rows js = let a = length-append rows (map new_row js) in let b = map_length new_row js in omega arith

runs_waits : {B : Type 0} (w : ℕ) → Running w ≡ Waiting → B
runs_waits w h = absurd (cc)

module _ (C : Code) (I : IsCode C) (es : List Event) (F : Fields) (st : Stands C (layout_of C) es F) (w n : ℕ) (j : Job) (there : row_of F.rows n ≡ Some (record { job = j; status = Running w }))
    (t : CodeState) (reached : replayed C (es ++ End w n ∷ []) ≡ Some t) (good : t.fault ≡ None) (answers : List (Answer Key Scalar)) (sees : SeesAll (code_system C) st.state (task_inputs C (task_of F.frames j)) answers)
    (gs : List (Option Frame)) (ds : List (Option Counted)) (rows : List Row) (news : List (Want ℕ)) (p : WorldPasses C F j (computed_by C (task_of F.frames j) answers) gs ds rows news)
    (left : List Rules.Waiting) (woken : List ℕ) (learnt : HaveLearnt news F.waiting left woken) where
  abbrev x : Computed
  x = computed_by C (task_of F.frames j) answers

  abbrev row : Row
  row = record { job = j; status = Running w }

  abbrev jobs : List Job
  jobs = new_jobs C F j x gs ds p.after

  abbrev first : ℕ
  first = length F.rows

  learnt_all : HaveLearnt p.after.known F.waiting left woken
  learnt_all = subst (λ (ws : List (Want ℕ)). HaveLearnt ws F.waiting left woken) (sym p.known_is) learnt

  -- so many are new
  count : length jobs ≡ length rows - first
  count = sym (ap (λ (l : List Row). length l - first) p.rows_are ∙ behind_count F.rows jobs)

  pub within : first ≤ length rows
  within = let a = ap length p.rows_are in let b = length-append F.rows (map new_row jobs) in omega arith

  pub old_woken : AreOld first woken
  old_woken = woken_old F jobs p.after.known left woken (items_fit C I (layout_of C) es F st) learnt_all

  -- all that were woken, and all new ones, can be settled
  pub to_settle : AreToSettle C gs ds rows first n (woken ++ numbers_behind first (length rows - first))
  to_settle =
      subst (λ (l : List Row). AreToSettle C gs ds l first n (woken ++ numbers_behind first (length rows - first))) (sym p.rows_are)
      (subst (λ (k : ℕ). AreToSettle C gs ds (F.rows ++ map new_row jobs) first n (woken ++ numbers_behind first k)) count
      (all_seen C I es F st w n t reached good row there answers sees gs ds p.after left woken learnt_all (runs_waits w)))

  -- those that were woken miss nothing, or may wait for two inputs at most
  pub short : AreShort C gs ds rows first woken
  short = subst (λ (l : List Row). AreShort C gs ds l first woken) (sym p.rows_are) (woken_short C I es F st w n t reached good row there answers sees gs ds p.after left woken learnt_all)

  -- once they are settled, all is as the End has it, and the fields stand for the next state
  pub ends_after : (G : Fields) → G.frames ≡ gs → G.cells ≡ ds → AreSettled C gs ds rows first n (waiters_view left) F.queue (woken ++ numbers_behind first (length rows - first)) G.rows G.waiting G.queue G.newly
      → ((m : ℕ) → G.turns m ≡ turns_then F n x rows m) → G.lines ≡ F.lines ++ printed C j x → G.running ≡ F.running - 1 → G.fault ≡ None → EndsTo C (layout_of C) F n j x G
  ends_after G frames cells settled turns lines running fault = by gs ds frames cells p.after p.known_is p.rows_are settled
    where
      by : (gs : List (Option Frame)) (ds : List (Option Counted)) → G.frames ≡ gs → G.cells ≡ ds → (a : WorldAfter C F j x gs ds) → a.known ≡ news → rows ≡ F.rows ++ map new_row (new_jobs C F j x gs ds a)
          → AreSettled C gs ds rows first n (waiters_view left) F.queue (woken ++ numbers_behind first (length rows - first)) G.rows G.waiting G.queue G.newly → EndsTo C (layout_of C) F n j x G
      by gs ds f c a k r s =
          subst (λ (gs : List (Option Frame)). (ds : List (Option Counted)) → G.cells ≡ ds → (a : WorldAfter C F j x gs ds) → a.known ≡ news → rows ≡ F.rows ++ map new_row (new_jobs C F j x gs ds a) → AreSettled C gs ds rows first n (waiters_view left) F.queue (woken ++ numbers_behind first (length rows - first)) G.rows G.waiting G.queue G.newly → EndsTo C (layout_of C) F n j x G) f
          (λ ds c. subst (λ (ds : List (Option Counted)). (a : WorldAfter C F j x G.frames ds) → a.known ≡ news → rows ≡ F.rows ++ map new_row (new_jobs C F j x G.frames ds a) → AreSettled C G.frames ds rows first n (waiters_view left) F.queue (woken ++ numbers_behind first (length rows - first)) G.rows G.waiting G.queue G.newly → EndsTo C (layout_of C) F n j x G) c
          at_own)
          ds c a k r s
        where
          at_own : (a : WorldAfter C F j x G.frames G.cells) → a.known ≡ news → rows ≡ F.rows ++ map new_row (new_jobs C F j x G.frames G.cells a) → AreSettled C G.frames G.cells rows first n (waiters_view left) F.queue (woken ++ numbers_behind first (length rows - first)) G.rows G.waiting G.queue G.newly → EndsTo C (layout_of C) F n j x G
          at_own a k r s =
              let js : List Job = new_jobs C F j x G.frames G.cells a in
              let many : length rows - first ≡ length js = ap (λ (l : List Row). length l - first) r ∙ behind_count F.rows js in
              ends_to C F G n j x a left woken (items_fit C I (layout_of C) es F st) (subst (λ (ws : List (Want ℕ)). HaveLearnt ws F.waiting left woken) (sym k) learnt)
              (subst (λ (i : ℕ). AreSettled C G.frames G.cells (F.rows ++ map new_row js) first n (waiters_view left) F.queue (woken ++ numbers_behind first i) G.rows G.waiting G.queue G.newly) many
              (subst (λ (l : List Row). AreSettled C G.frames G.cells l first n (waiters_view left) F.queue (woken ++ numbers_behind first (length rows - first)) G.rows G.waiting G.queue G.newly) r s))
              (subst (λ (l : List Row). TurnsAfter F G n x l) r (turns_kept F G n x rows turns)) lines running fault

  pub stands_after : (G : Fields) → G.frames ≡ gs → G.cells ≡ ds → AreSettled C gs ds rows first n (waiters_view left) F.queue (woken ++ numbers_behind first (length rows - first)) G.rows G.waiting G.queue G.newly
      → ((m : ℕ) → G.turns m ≡ turns_then F n x rows m) → G.lines ≡ F.lines ++ printed C j x → G.running ≡ F.running - 1 → G.fault ≡ None → Stands C (layout_of C) (es ++ End w n ∷ []) G
  stands_after G frames cells settled turns lines running fault =
      end_stands C I (layout_of C) es F st w n t reached good row there answers sees G (ends_after G frames cells settled turns lines running fault)
