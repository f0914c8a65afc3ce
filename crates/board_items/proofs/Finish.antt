-- The steps of the end of an item, one after the other.
use Rattle.std.proofs.lemmas.List.{reverse-reverse}
use Rattle.rules.specs.declared.input.Input.{Input}
use Rattle.smallvec.specs.SmallVec.{SmallVec}
use Rattle.board_items.specs.Room.{AreSpare}
use Rattle.std.proofs.Common.{◌≡◌, false, true, reverse, ◌∙◌, ℕ, ◌+◌, ◌-◌, List, [], ◌++◌, length, sym, ap, subst, arith, Option}
use Rattle.std.specs.Prelude.{vec_capacity, vec_len}
use Rattle.board_history.specs.Ending.{job_kind}
use Rattle.board_history.specs.Fields.{Counted, Frame, Job, Over}
use Rattle.board_history.specs.Marking.{with_status}
use Rattle.task_code.specs.Code.{Code}
use Rattle.board_instances.specs.View.{rows_view}
use Rattle.work_queue.specs.declared.entry.Kind.{Kind}
use Rattle.board_items.specs.Ended.{AreShort, AreToSettle, numbers_behind}
use Rattle.board_items.specs.Progress.{AreOld, CanFinish, Progress, all_to_settle}
use Rattle.board_items.specs.Settled.{one_less}
use Rattle.board_items.specs.View.{queue_view, waiters_view}
use Rattle.board_items.specs.declared.items.Items.{Items}
use Rattle.board_items.proofs.Progress.{closed, new_can, woken_can}

pub no_ok : {B : Type 0} → false ≡ true → B
no_ok h = absurd (cc (h))

pub spare_back : (C : Code) (js : List Job) (ls rs : List (SmallVec Input)) → rs ≡ reverse ls → AreSpare C js ls → AreSpare C js (reverse rs)
spare_back C js ls rs e s = subst (λ (l : List (SmallVec Input)). AreSpare C js l) (sym (ap (λ (l : List (SmallVec Input)). reverse l) e ∙ reverse-reverse ls)) s

module _ (C : Code) (fs : List (Option Frame)) (cs : List (Option Counted)) (number : ℕ) (job : Job) (first : ℕ) (old : Items) (can : CanFinish C fs cs number job first old) where
  abbrev pub Far : List ℕ → ℕ → Items → Type 0
  Far = Progress C fs cs (rows_view old.rows.items) first number (waiters_view old.rules.waiting) (queue_view old.queue)

  abbrev new_count : ℕ
  new_count = length old.rows.items - first

  -- once it is closed
  module _ (N : Items) (ew : N.woken ≡ old.woken) where
    pub first_far : (k : Kind) → k ≡ job_kind C job → rows_view N.rows.items ≡ with_status (rows_view old.rows.items) number Over → N.rules ≡ old.rules → N.queue ≡ old.queue → N.newly.items ≡ [] → vec_capacity N.newly ≡ vec_capacity old.newly → N.apart ≡ one_less k old.apart → Far [] (length N.woken.items + ((length old.rows.items - first) + 0)) N
    first_far k e er eu eq en ec ea =
        subst (λ v. Far [] (length v.items + (new_count + 0)) N) (sym ew)
        (closed C fs cs number job first old can N er eu eq en ec (ea ∙ ap (λ (k : Kind). one_less k old.apart) e))

    pub first_can : AreToSettle C fs cs (rows_view old.rows.items) first number N.woken.items
    first_can = subst (λ v. AreToSettle C fs cs (rows_view old.rows.items) first number v.items) (sym ew) (woken_can C fs cs number job first old can)

    pub first_old : AreOld first N.woken.items
    first_old = subst (λ v. AreOld first v.items) (sym ew) can.old_woken

    pub first_short : AreShort C fs cs (rows_view old.rows.items) first old.woken.items → AreShort C fs cs (rows_view old.rows.items) first N.woken.items
    first_short s = subst (λ v. AreShort C fs cs (rows_view old.rows.items) first v.items) (sym ew) s

    -- once those that were woken are settled
    module _ (W : Items) (lw : vec_len W.rows ≡ vec_len old.rows) where
      counts : length old.rows.items - first ≡ vec_len W.rows - first
      counts = let a = old.rows.ok.0 in omega arith

      pub next_far : Far N.woken.items ((length old.rows.items - first) + 0) W → Far N.woken.items ((vec_len W.rows - first) + 0) W
      next_far far = subst (λ (k : ℕ). Far N.woken.items (k + 0) W) counts far

      pub next_can : AreToSettle C fs cs (rows_view old.rows.items) first number (numbers_behind first (vec_len W.rows - first))
      next_can = subst (λ (k : ℕ). AreToSettle C fs cs (rows_view old.rows.items) first number (numbers_behind first k)) counts (new_can C fs cs number job first old can)

      pub last_far : (S : Items) → Far (N.woken.items ++ numbers_behind first (vec_len W.rows - first)) 0 S → Far (all_to_settle first old) 0 S
      last_far S far = subst (λ (k : ℕ). Far (old.woken.items ++ numbers_behind first k) 0 S) (sym counts) (subst (λ v. Far (v.items ++ numbers_behind first (vec_len W.rows - first)) 0 S) ew far)
