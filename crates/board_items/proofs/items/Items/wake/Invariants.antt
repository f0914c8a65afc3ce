use Rattle.std.proofs.Common.{◌≡◌, ◌+◌, ◌-◌, ℕ, ℤ, List, [], length, take}
use Rattle.std.specs.Prelude.{vec_len}
use Rattle.board_data.specs.View.{cells_view}
use Rattle.board_data.specs.Wanted.{FewSlots}
use Rattle.board_instances.specs.View.{frames_view}
use Rattle.board_history.specs.Fields.{Row, Waiter}
use Rattle.task_code.specs.Code.{Kind}
use Rattle.board_items.specs.Ended.{AreShort, AreToSettle}
use Rattle.board_items.specs.Progress.{AreOld, Progress}
use Rattle.board_items.proofs.items.Items.wake.Given as goal

abbrev pub invariant-loop-at : goal.invariant-loop-at
invariant-loop-at l =
    (l.self.woken ≡ l.initial.self.woken)
    × (vec_len l.self.rows ≡ vec_len l.initial.self.rows)
    × ((rows : List Row) (first number : ℕ) (before : List Waiter) (queued : Kind → ℤ → List ℕ) (left : ℕ) →
    FewSlots (frames_view l.board_view.instances.now.slots) → AreToSettle l.board_view.program.now (frames_view l.board_view.instances.now.slots) (cells_view l.board_view.store.now.cells) rows first number l.initial.self.woken.items → AreOld first l.initial.self.woken.items →
    Progress l.board_view.program.now (frames_view l.board_view.instances.now.slots) (cells_view l.board_view.store.now.cells) rows first number before queued [] (length l.initial.self.woken.items + left) l.initial.self →
    AreShort l.board_view.program.now (frames_view l.board_view.instances.now.slots) (cells_view l.board_view.store.now.cells) rows first l.initial.self.woken.items →
    Progress l.board_view.program.now (frames_view l.board_view.instances.now.slots) (cells_view l.board_view.store.now.cells) rows first number before queued (take l.at l.initial.self.woken.items) ((length l.initial.self.woken.items - l.at) + left) l.self)
    × (l.self.running ≡ l.initial.self.running)
