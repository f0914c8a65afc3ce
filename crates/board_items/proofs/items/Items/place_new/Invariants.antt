use Rattle.std.proofs.Common.{◌≡◌, ◌≤◌, ◌+◌, ◌-◌, ◌++◌, ℕ, ℤ, List, reverse}
use Rattle.std.specs.Prelude.{vec_len}
use Rattle.board_data.specs.View.{cells_view}
use Rattle.board_data.specs.Wanted.{FewSlots}
use Rattle.board_instances.specs.View.{frames_view}
use Rattle.board_history.specs.Fields.{Row, Waiter}
use Rattle.task_code.specs.Code.{Kind}
use Rattle.board_items.specs.Ended.{AreToSettle, numbers_behind}
use Rattle.board_items.specs.Progress.{AreOld, Progress, jobs_behind}
use Rattle.board_items.specs.Room.{AreSpare}
use Rattle.board_items.proofs.items.Items.place_new.Given as goal

abbrev pub invariant-loop-at : goal.invariant-loop-at
invariant-loop-at l =
    (l.self.woken ≡ l.initial.self.woken)
    × (vec_len l.self.rows ≡ vec_len l.initial.self.rows)
    × ((rows : List Row) (number : ℕ) (before : List Waiter) (queued : Kind → ℤ → List ℕ) (start : List ℕ) (left : ℕ) →
    FewSlots (frames_view l.board_view.instances.now.slots) → AreToSettle l.board_view.program.now (frames_view l.board_view.instances.now.slots) (cells_view l.board_view.store.now.cells) rows l.first number (numbers_behind l.first (vec_len l.initial.self.rows - l.first)) → AreOld l.first start →
    Progress l.board_view.program.now (frames_view l.board_view.instances.now.slots) (cells_view l.board_view.store.now.cells) rows l.first number before queued start ((vec_len l.initial.self.rows - l.first) + left) l.initial.self →
    Progress l.board_view.program.now (frames_view l.board_view.instances.now.slots) (cells_view l.board_view.store.now.cells) rows l.first number before queued (start ++ numbers_behind l.first (l.at - l.first)) (((vec_len l.initial.self.rows - l.first) - (l.at - l.first)) + left) l.self)
    × ((rows : List Row) (number : ℕ) (before : List Waiter) (queued : Kind → ℤ → List ℕ) (start : List ℕ) (left : ℕ) →
    FewSlots (frames_view l.board_view.instances.now.slots) → AreToSettle l.board_view.program.now (frames_view l.board_view.instances.now.slots) (cells_view l.board_view.store.now.cells) rows l.first number (numbers_behind l.first (vec_len l.initial.self.rows - l.first)) → AreOld l.first start →
    Progress l.board_view.program.now (frames_view l.board_view.instances.now.slots) (cells_view l.board_view.store.now.cells) rows l.first number before queued start ((vec_len l.initial.self.rows - l.first) + left) l.initial.self →
    AreSpare l.board_view.program.now (jobs_behind l.first rows) (reverse l.initial.spare.items) → AreSpare l.board_view.program.now (jobs_behind l.at rows) (reverse l.spare.items))
    × (l.at - l.first ≤ vec_len l.initial.self.rows - l.first)
    × (l.self.running ≡ l.initial.self.running)
