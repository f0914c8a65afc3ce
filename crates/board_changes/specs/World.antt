-- The changes that an End makes to instances and data, step by step.
use Rattle.std.specs.Prelude.{◌≡◌, ◌≤◌, ◌+◌, ◌*◌, ◌^◌, vec_len, vec_capacity, ℕ, Bool, true, false, List, [], ◌∷◌, ◌++◌, length, map, Option, Some, None, IsSome}
use Rattle.std.proofs.Common.{Vec, Global}
use Rattle.dataflow.specs.System.{In}
use Rattle.data_store.specs.Stores.{Store}
use Rattle.rules.specs.declared.input.Input.{Input}
use Rattle.slab.specs.Slab.{HasRoomFor, Slab}
use Rattle.smallvec.specs.SmallVec.{SmallVec}
use Rattle.board_instances.specs.declared.instance.Instance.{Instance}
use Rattle.board_instances.specs.declared.item.ItemRecord.{ItemRecord}
use Rattle.board_instances.specs.declared.pending.PendingInstance.{PendingInstance as OneOpening}
use Rattle.board_changes.specs.Filled.{HasSlots}
use Rattle.board_history.specs.Ending.{TakenOff, home, new_row}
use Rattle.board_history.specs.Fields.{AnElement, Does, Frame, Job, Row, Script, Want, Whole, slot_at}
use Rattle.task_code.specs.Code.{Code, body, entry}
use Rattle.task_code.specs.Compute.{Elements, pairs}
use Rattle.task_code.specs.Effects.{only}
use Rattle.values.specs.Keys.{hash_of}
use Rattle.values.specs.Maps.{element}
use Rattle.values.specs.declared.map.Element.{Element}
use Rattle.board_program.specs.Tables.{body_of, led_times, spots_in}
use Rattle.board_data.specs.Holds.{Closes, GivesUp}
use Rattle.board_data.specs.Stored.{IsScalarTarget, StoresIn, Takes}
use Rattle.board_instances.specs.Names.{spot_slot}
use Rattle.board_instances.specs.Nested.{IsNested}
use Rattle.board_instances.specs.declared.pending.PendingInstances.{PendingInstances}
use Rattle.board_changes.specs.Opened.{AreOpened, CanGoOn, IsShort, going, more_of, own_of}
use Rattle.board_changes.specs.declared.data_state.Change.{Change}
use Rattle.board_changes.specs.declared.data_state.DataState.{DataState}
use Rattle.board_changes.specs.declared.data_state.Change.TheVariants as Changes

-- the target of a change, and what it stores there
abbrev pub target_of : Change → Option ℕ
target_of Changes.Nothing = None
target_of (Changes.Value d v) = d
target_of (Changes.Element d k v) = d
target_of (Changes.Elements d es) = d
target_of (Changes.Opens o) = None

abbrev pub values_of : Change → Elements
values_of Changes.Nothing = []
values_of (Changes.Value d v) = (only, v) ∷ []
values_of (Changes.Element d k v) = (k, v) ∷ []
values_of (Changes.Elements d es) = pairs es.items
values_of (Changes.Opens o) = []

-- the target is a scalar, or an array that takes the elements
abbrev pub CanStore : Change → Store → Type 0
CanStore Changes.Nothing s = Unit {0}
CanStore (Changes.Value d v) s = IsScalarTarget d s
CanStore (Changes.Element d k v) s = (n : ℕ) → d ≡ Some n → Takes n (element k v ∷ []) s
CanStore (Changes.Elements d es) s = (n : ℕ) → d ≡ Some n → Takes n es.items s
CanStore (Changes.Opens o) s = Unit {0}

-- the inputs that become known by a store
abbrev pub whole_of : Option ℕ → List (Want ℕ)
whole_of None = []
whole_of (Some d) = Whole d ∷ []

abbrev pub elements_of : Option ℕ → List Element → List (Want ℕ)
elements_of None es = []
elements_of (Some d) es = map (λ (e : Element). AnElement d (hash_of e.key)) es

abbrev pub told_of : Change → List (Want ℕ)
told_of Changes.Nothing = []
told_of (Changes.Value d v) = whole_of d
told_of (Changes.Element d k v) = elements_of d (element k v ∷ [])
told_of (Changes.Elements d es) = elements_of d es.items
told_of (Changes.Opens o) = []

-- the number of inputs that become known by a store
abbrev pub told_by : Change → ℕ
told_by Changes.Nothing = 0
told_by (Changes.Value d v) = 1
told_by (Changes.Element d k v) = 1
told_by (Changes.Elements d es) = vec_len es
told_by (Changes.Opens o) = 0

-- another item continues the loop
abbrev pub goes_on : Change → Bool
goes_on Changes.Nothing = false
goes_on (Changes.Value d v) = false
goes_on (Changes.Element d k v) = false
goes_on (Changes.Elements d es) = false
goes_on (Changes.Opens o) = o.goes_on

-- the lists for the missing inputs of new items
abbrev pub spare_of : Change → List (SmallVec Input)
spare_of Changes.Nothing = []
spare_of (Changes.Value d v) = []
spare_of (Changes.Element d k v) = []
spare_of (Changes.Elements d es) = []
spare_of (Changes.Opens o) = o.spare.items

module _ (C : Code) where
  -- there is room for all that is opened
  pub record HasRoom (j : Job) (o : PendingInstances) (instances : Slab Instance) (s : Store) (rows : Vec ItemRecord Global) : Type 0 where
    pub slots : (x : OneOpening) → In x o.list.items → HasSlots (length (own_of C o.body)) x
    pub data_room : vec_len o.list * length (own_of C o.body) ≤ s.room
    pub data_numbers : s.bound ≤ 2 ^ 32
    pub instances_room : HasRoomFor instances (vec_len o.list)
    pub instances_numbers : instances.capacity ≤ 2 ^ 32
    pub rows_room : vec_len rows + (vec_len o.list * length (body C o.body).entries + more_of o.goes_on) ≤ vec_capacity rows
    pub goes : CanGoOn j o.goes_on
    pub short : IsShort j o.goes_on

  -- there is room for a change, which may open nothing
  abbrev pub CanOpen : Job → Change → Slab Instance → Store → Vec ItemRecord Global → Type 0
  CanOpen j Changes.Nothing instances s rows = Unit {0}
  CanOpen j (Changes.Value d v) instances s rows = Unit {0}
  CanOpen j (Changes.Element d k v) instances s rows = Unit {0}
  CanOpen j (Changes.Elements d es) instances s rows = Unit {0}
  CanOpen j (Changes.Opens o) instances s rows = HasRoom j o instances s rows

  -- the number of data that an entry may write, and that the item of a job may write
  abbrev pub spots_number : ℕ → ℕ
  spots_number e = length (spots_in C (body_of C e) (entry C e).writes)

  abbrev pub holds_of : Job → ℕ
  holds_of Script = 0
  holds_of (Does k e c) = spots_number e

  -- the maximum number of arrays that are closed when the item ends
  abbrev pub closes_of : Job → Bool → ℕ
  closes_of j true = 0
  closes_of j false = holds_of j

  -- there is room for all that an End does: for what it opens, for closed arrays, and for what becomes known
  pub record HasRoomToEnd (j : Job) (x : Change) (w : DataState) (rows : Vec ItemRecord Global) (known : Vec Input Global) : Type 0 where
    pub opens : CanOpen j x w.instances w.store rows
    pub closed : closes_of j (goes_on x) ≤ vec_capacity w.closed
    pub told : vec_len known + told_by x + closes_of j (goes_on x) ≤ vec_capacity known

  -- instances were opened, or nothing was changed
  pub record Opens (j : Job) (o : PendingInstances) (fs gs : List (Option Frame)) (old new : List Row) (s t : Store) : Type 0 where
    pub rows : List Row
    pub opened : AreOpened C j o fs gs old rows s t
    pub goes : new ≡ rows ++ map new_row (going j o.goes_on)

  pub record IsSame (fs gs : List (Option Frame)) (old new : List Row) (s t : Store) : Type 0 where
    pub frames : gs ≡ fs
    pub rows : new ≡ old
    pub data_same : t ≡ s

  abbrev pub Opening : Job → Change → List (Option Frame) → List (Option Frame) → List Row → List Row → Store → Store → Type 0
  Opening j Changes.Nothing fs gs old new s t = IsSame fs gs old new s t
  Opening j (Changes.Value d v) fs gs old new s t = IsSame fs gs old new s t
  Opening j (Changes.Element d k v) fs gs old new s t = IsSame fs gs old new s t
  Opening j (Changes.Elements d es) fs gs old new s t = IsSame fs gs old new s t
  Opening j (Changes.Opens o) fs gs old new s t = Opens j o fs gs old new s t

  -- the change of a job was made: it stored, and opened
  pub record Changed (j : Job) (x : Change) (fs gs : List (Option Frame)) (old new : List Row) (s t : Store) : Type 0 where
    pub stored : Store
    pub stores : CanStore x s → StoresIn (target_of x) (values_of x) s stored
    pub opens : Opening j x fs gs old new stored t

  -- the holds of the item of an entry on a datum, resolved from its instance
  abbrev pub reads_of : List (Option Frame) → Job → ℕ → ℕ
  reads_of fs Script d = 0
  reads_of fs (Does k e c) d = led_times (spot_slot fs k) d (spots_in C (body_of C e) (entry C e).reads)

  abbrev pub writes_of : List (Option Frame) → Job → ℕ → ℕ
  writes_of fs Script d = 0
  writes_of fs (Does k e c) d = led_times (spot_slot fs k) d (spots_in C (body_of C e) (entry C e).writes)

  -- the item of a job gave up its holds, which closed these arrays, and left its instance
  pub record LetsGo (j : Job) (fs gs : List (Option Frame)) (s t : Store) (closed : List ℕ) : Type 0 where
    pub gives : GivesUp (reads_of fs j) (writes_of fs j) s t
    pub closes : Closes (writes_of fs j) s closed
    pub leaves : IsNested fs → ((k : ℕ) → home j ≡ Some k → IsSome (slot_at fs k)) → TakenOff gs fs (home j)

  -- an item left, unless another continues its loop
  abbrev pub Goes : Bool → Job → List (Option Frame) → List (Option Frame) → Store → Store → List ℕ → Type 0
  Goes true j fs gs s t closed = (gs ≡ fs) × (t ≡ s) × (closed ≡ [])
  Goes false j fs gs s t closed = LetsGo j fs gs s t closed

  -- all that an End does to instances, rows and data, and what becomes known by it
  pub record WorldEnds (j : Job) (x : Change) (fs gs : List (Option Frame)) (old new : List Row) (s t : Store) (known : List (Want ℕ)) : Type 0 where
    pub middle : List (Option Frame)
    pub more : Store
    pub changed : Changed j x fs middle old new s more
    pub closed : List ℕ
    pub goes : Goes (goes_on x) j middle gs more t closed
    pub known_is : known ≡ told_of x ++ map Whole closed
