-- The changes that an End makes to data, in order.
use Rattle.std.specs.Prelude.{◌≡◌, ◌≤◌, ℕ, false, List, [], Option, Some, None, option_map, if◌then◌else◌}
use Rattle.data_store.specs.Data.{is_spent, with_holds}
use Rattle.data_store.specs.Stores.{Store, at}
use Rattle.data_store.specs.declared.datum.Datum.{Datum}
use Rattle.dataflow.specs.System.{Opening}
use Rattle.board_history.specs.Ending.{Instance, added_times, given_times, job_stores}
use Rattle.board_history.specs.Fields.{Frame, Job, Layout}
use Rattle.task_code.specs.Code.{Code}
use Rattle.task_code.specs.Compute.{Computed, Elements}
use Rattle.task_code.specs.Effects.{Task}
use Rattle.task_code.specs.Places.{Place}
use Rattle.board_data.specs.Holds.{GivesUp}
use Rattle.board_program.specs.Tables.{is_place}
use Rattle.board_data.specs.Stored.{StoresIn}

-- it stores, makes data, adds the holds of new instances, and gives up its own
pub record Changes (target : Option ℕ) (values : Elements) (added_reads added_writes given_reads given_writes : ℕ → ℕ) (old new : Store) : Type 0 where
  pub stored : Store
  pub made : Store
  pub more : Store
  pub stores : StoresIn target values old stored
  pub makes : (d : ℕ) (x : Datum) → at stored d ≡ Some x → at made d ≡ Some x
  pub adds : (d : ℕ) → at more d ≡ option_map (with_holds (added_reads d) (added_writes d)) (at made d)
  pub gives : GivesUp given_reads given_writes more new

-- an item gives up no more holds than there are, and each datum has a hold
pub record Covers (given_reads given_writes : ℕ → ℕ) (old : Store) : Type 0 where
  pub held : (d : ℕ) (x : Datum) → at old d ≡ Some x → (is_spent x ≡ false) × (given_reads d ≤ x.reads) × (given_writes d ≤ x.writes)
  pub absent : (d : ℕ) → at old d ≡ None → (given_reads d ≡ 0) × (given_writes d ≡ 0)

module _ (C : Code) (L : Layout) where
  -- the changes by the item of a job, which computed this and opens these instances
  abbrev pub JobChanges : List (Option Frame) → List (Option Frame) → Job → Computed → List Instance → List (Opening Task Place) → Option ℕ → Elements → Store → Store → Type 0
  JobChanges fs hs j x made os target values old new =
      ((d : ℕ) → (if is_place d target then values else []) ≡ job_stores C L fs j x d)
      × Changes target values (λ d. added_times C L (λ e. e.reads) hs d made) (λ d. added_times C L (λ e. e.writes) hs d made) (λ d. given_times C L (λ e. e.reads) fs d j os) (λ d. given_times C L (λ e. e.writes) fs d j os) old new
      × Covers (λ d. given_times C L (λ e. e.reads) fs d j os) (λ d. given_times C L (λ e. e.writes) fs d j os) old
