-- The content of data after a store.
use Rattle.std.specs.Prelude.{◌≡◌, ◌≤◌, ◌<◌, ℕ, false, List, [], length, Option, Some, None, IsTrue, if◌then◌else◌}
use Rattle.dataflow.specs.System.{In}
use Rattle.data_store.specs.Arrays.{Array, room_for}
use Rattle.data_store.specs.Stores.{IsArrayAt, Store, array_at, at, datum}
use Rattle.data_store.specs.declared.datum.Content.{Content}
use Rattle.data_store.specs.declared.datum.Datum.{Datum}
use Rattle.board_history.specs.Ending.{ContentAfter}
use Rattle.task_code.specs.Compute.{Elements}
use Rattle.values.specs.Maps.{found, rising}
use Rattle.values.specs.declared.map.Element.{Element}
use Rattle.board_data.specs.Data.{is_keyed}
use Rattle.board_program.specs.Tables.{is_place}
use Rattle.board_data.specs.View.{content_view}

-- this is stored in the datum, and nothing in any other
pub record StoresIn (target : Option ℕ) (values : Elements) (old new : Store) : Type 0 where
  pub there : (d : ℕ) (x : Datum) → at old d ≡ Some x → (c : Content) × (at new d ≡ Some (record { content = c; reads = x.reads; writes = x.writes })) × ContentAfter (content_view x.content) (if is_place d target then values else []) (content_view c)
  pub nothing : (d : ℕ) → at old d ≡ None → at new d ≡ None

-- the target is a scalar
abbrev pub IsScalarTarget : Option ℕ → Store → Type 0
IsScalarTarget target s = (d : ℕ) → target ≡ Some d → is_keyed (at s d) ≡ false

-- an array has room for elements under keys of the kinds of these
abbrev pub HasPlacesFor : List Element → Array → Type 0
HasPlacesFor elements a = (e : Element) → In e elements → length elements ≤ room_for e.key a

-- an array takes all these elements: it may be written, has room for them, and has none of their keys
pub record Takes (d : ℕ) (elements : List Element) (s : Store) : Type 0 where
  pub is_array : IsArrayAt s d
  pub is_open : 0 < (datum s d).writes
  pub has_room : HasPlacesFor elements (array_at s d)
  pub apart : IsTrue (rising elements)
  pub unused : (e : Element) → In e elements → found e.key (array_at s d).elements ≡ None
