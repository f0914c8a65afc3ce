-- The items after inputs have become known.
use Rattle.std.specs.Prelude.{◌≡◌, ◌+◌, ◌≤◌, List, ◌++◌, map, length, vec_capacity, vec_len}
use Rattle.board_history.specs.Fields.{Waiter, Want}
use Rattle.std.specs.Prelude.{ℕ}
use Rattle.rules.specs.Waiting.{GivesRoomBack}
use Rattle.rules.specs.declared.input.Input.{Input}
use Rattle.board_data.specs.View.{want_view}
use Rattle.board_items.specs.Learnt.{HaveLearnt}
use Rattle.board_items.specs.declared.items.Items.{Items}

-- waiting items were notified of all these inputs, if there was room to record the woken ones, and nothing else has
-- changed
pub record HaveHeard (known : List Input) (old new : Items) : Type 0 where
  pub rows : new.rows ≡ old.rows
  pub queue : new.queue ≡ old.queue
  pub newly : new.newly ≡ old.newly
  pub apart : new.apart ≡ old.apart
  pub running : new.running ≡ old.running
  pub capacity : vec_capacity new.woken ≡ vec_capacity old.woken
  pub count : length new.rules.waiting + vec_len new.woken ≡ length old.rules.waiting + vec_len old.woken
  pub learnt : length old.rules.waiting + vec_len old.woken ≤ vec_capacity old.woken → (before : List (Want ℕ)) (start : List Waiter) → HaveLearnt before start old.rules.waiting old.woken.items → HaveLearnt (before ++ map want_view known) start new.rules.waiting new.woken.items
  pub room : length old.rules.waiting + vec_len old.woken ≤ vec_capacity old.woken → GivesRoomBack old.rules new.rules
