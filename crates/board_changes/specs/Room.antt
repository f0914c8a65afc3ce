-- Room for an End, reserved before anything changes.
use Rattle.std.specs.Prelude.{◌≡◌, ℕ, true, List, [], ◌∷◌, length, Option, Some}
use Rattle.values.specs.Maps.{element}
use Rattle.values.specs.declared.map.Element.{Element}
use Rattle.dataflow.specs.System.{In}
use Rattle.data_store.specs.Stores.{Store, array_at, at}
use Rattle.board_history.specs.Fields.{Job}
use Rattle.task_code.specs.Code.{Code}
use Rattle.board_data.specs.Data.{AreRising, is_keyed}
use Rattle.board_data.specs.Stored.{HasPlacesFor}
use Rattle.board_data.specs.View.{cells_view}
use Rattle.board_instances.specs.declared.pending.PendingInstance.{PendingInstance}
use Rattle.board_changes.specs.Filled.{HasSlots}
use Rattle.board_changes.specs.Opened.{CanGoOn, own_of}
use Rattle.board_changes.specs.declared.data_state.Change.{Change}
use Rattle.board_changes.specs.declared.data_state.Change.TheVariants as Changes
use Rattle.board_changes.specs.declared.data_state.DataState.{DataState}

-- an array, if there is one, has room for elements under keys of the kinds of these
abbrev pub HasPlaces : Option ℕ → List Element → Store → Type 0
HasPlaces target es s = (d : ℕ) → target ≡ Some d → is_keyed (at s d) ≡ true → HasPlacesFor es (array_at s d)

-- the array into which a change stores has room for the elements
abbrev pub TakesMore : Change → Store → Type 0
TakesMore Changes.Nothing s = Unit {0}
TakesMore (Changes.Value d v) s = Unit {0}
TakesMore (Changes.Element d k v) s = HasPlaces d (element k v ∷ []) s
TakesMore (Changes.Elements d es) s = HasPlaces d es.items s
TakesMore (Changes.Opens o) s = Unit {0}

-- opened instances have slots for their own data, and a loop that continues has a next chunk
abbrev pub OpensWell : Code → Job → Change → Type 0
OpensWell C j Changes.Nothing = Unit {0}
OpensWell C j (Changes.Value d v) = Unit {0}
OpensWell C j (Changes.Element d k v) = Unit {0}
OpensWell C j (Changes.Elements d es) = Unit {0}
OpensWell C j (Changes.Opens o) = ((x : PendingInstance) → In x o.list.items → HasSlots (length (own_of C o.body)) x) × CanGoOn j o.goes_on

-- only capacity differs
pub record OnlyRoom (old new : DataState) : Type 0 where
  pub frames : new.instances.slots ≡ old.instances.slots
  pub cells : cells_view new.store.cells ≡ cells_view old.store.cells
  pub rising : AreRising old.store → AreRising new.store
