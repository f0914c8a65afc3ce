-- Conditions under which the counts of what an item opens do not overflow.
use Rattle.std.specs.Prelude.{◌≡◌, ◌+◌, ◌*◌, ◌<◌, ◌^◌, ℕ, List, Option, Some, length, slice_get}
use Rattle.board_history.specs.Ending.{home}
use Rattle.board_history.specs.Fields.{Frame, Job}
use Rattle.task_code.specs.Code.{Code, body}
use Rattle.board_program.specs.Program.{AreAtMost}
use Rattle.board_instances.specs.Made.{FitsAround}
use Rattle.board_instances.specs.declared.pending.PendingInstance.{PendingInstance}
use Rattle.board_instances.specs.declared.pending.PendingInstances.{PendingInstances}
use Rattle.board_changes.specs.Opened.{CanGoOn}
use Rattle.board_changes.specs.World.{goes_on}
use Rattle.board_changes.specs.declared.data_state.Change.{Change}
use Rattle.board_changes.specs.declared.data_state.Change.TheVariants as Changes

module _ (C : Code) (fs : List (Option Frame)) (rows : ℕ) (j : Job) where
  -- the children of the instance around the item, the slots of the first new instance, and the names of all items, with
  -- `rows` rows before
  pub record CanOpen (o : PendingInstances) : Type 0 where
    pub around : FitsAround fs (home j) (length o.list.items)
    pub slots : ℕ
    pub first : (one : PendingInstance) → slice_get o.list.items 0 ≡ Some one → slots ≡ length one.instance.slots.items
    pub few_slots : slots < 2 ^ 64
    pub most : ℕ
    pub names : AreAtMost C most
    pub few : rows * most + (length o.list.items * (length (body C o.body).entries * most) + length o.list.items * (length (body C o.body).entries * most)) < 2 ^ 64

  -- the same counts for a change, and the chunk number of a loop that continues
  abbrev pub CanChange : Change → Type 0
  CanChange Changes.Nothing = Unit {0}
  CanChange (Changes.Value d v) = Unit {0}
  CanChange (Changes.Element d k v) = Unit {0}
  CanChange (Changes.Elements d es) = Unit {0}
  CanChange (Changes.Opens o) = CanOpen o × CanGoOn j (goes_on (Changes.Opens o))
