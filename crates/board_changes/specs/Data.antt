-- The data of new instances, once they are made.
use Rattle.std.specs.Prelude.{◌≡◌, ◌⊎◌, ◌+◌, ◌<◌, ℕ, List, Option, Some}
use Rattle.dataflow.specs.System.{In}
use Rattle.data_store.specs.Stores.{Store, at}
use Rattle.data_store.specs.declared.datum.Datum.{Datum}
use Rattle.board_history.specs.Ending.{Instance, IsOwn, NewCell}
use Rattle.board_history.specs.Fields.{Frame, Job, Layout}
use Rattle.board_history.specs.Static.{own_count}
use Rattle.task_code.specs.Code.{Code, Variable, body}
use Rattle.task_code.specs.Compute.{Computed}
use Rattle.board_data.specs.View.{cells_view}

module _ (C : Code) (L : Layout) where
  -- one new datum for each variable that some entry names, under a number of its own, with its first counts and its
  -- value; other data are unchanged
  pub record MakesData (fs hs : List (Option Frame)) (j : Job) (x : Computed) (made : List Instance) (s t : Store) : Type 0 where
    pub older : (d : ℕ) (y : Datum) → at s d ≡ Some y → at t d ≡ Some y
    pub new : (m : Instance) (v : Variable) → In m made → In v (body C m.body).makes → 0 < own_count C (λ e. e.reads) m.body v + own_count C (λ e. e.writes) m.body v → NewCell C L fs hs j x m v (cells_view s.cells) (cells_view t.cells)
    pub apart : (m l : Instance) (v w : Variable) (d : ℕ) → In m made → In l made → IsOwn C L hs m v d → IsOwn C L hs l w d → (m.key ≡ l.key) × (v ≡ w)
    pub only : (d : ℕ) (y : Datum) → at t d ≡ Some y → (at s d ≡ Some y) ⊎ ((m : Instance) × (v : Variable) × In m made × IsOwn C L hs m v d)
