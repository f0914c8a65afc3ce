-- The tables of an entry and of a body, as determined by the code.
use Rattle.std.specs.Prelude.{◌≡◌, nat_eq, nat_lt, not, ℕ, suc, ◌+◌, Bool, true, false, List, [], ◌∷◌, map, length, Option, Some, None, if◌then◌else◌}
use Rattle.std.specs.List.{filter, filter_map, flat_map, list_all, list_any}
use Rattle.values.specs.declared.datum_kind.DatumKind.{DatumKind}
use Rattle.values.specs.declared.datum_kind.DatumKind.TheVariants.{Single, Keyed}
use Rattle.board_history.specs.Ending.{held_times, slot_is}
use Rattle.board_history.specs.Fields.{Absent, Slot}
use Rattle.board_history.specs.Static.{name_times, names_in, outer_holds}
use Rattle.task_code.specs.Check.{is_declared}
use Rattle.task_code.specs.Code.{Argument, At, AtKey, Closed, Code, Control, Entry, Fixed, Kind, Leaf, Local, Loop, Name, Named, Need, Stored, Variable, arguments, body, entry, here, kind_of, loop_of, scalar, stored_of}
use Rattle.task_code.specs.Code as Pure
use Rattle.task_code.specs.Shape.{is_plain}
use Rattle.board_program.specs.Spots.{home_of, homes_of, place_from, spot_in}
use Rattle.board_program.specs.declared.program.BodyTable.{BodyTable}
use Rattle.board_program.specs.declared.program.EntryTable.{EntryTable}
use Rattle.board_program.specs.declared.program.Hold.{Hold}
use Rattle.board_program.specs.declared.program.LocalVariable.{LocalVariable}
use Rattle.board_program.specs.declared.program.PassedArgument.{PassedArgument}
use Rattle.board_program.specs.declared.program.PassedArgument.TheVariants as Passes
use Rattle.board_program.specs.declared.program.ResolvedNeed.{ResolvedNeed}
use Rattle.board_program.specs.declared.program.ResolvedNeed.TheVariants as Wants
use Rattle.board_program.specs.declared.lexical_address.LexicalAddress.{LexicalAddress}

-- the body that contains an entry; an entry without a body is attributed to the script
abbrev pub body_or_script : Option ℕ → ℕ
body_or_script None = 0
body_or_script (Some b) = b

abbrev pub body_of : Code → ℕ → ℕ
body_of C i = body_or_script (home_of (homes_of C) i)

-- the datum kind of a variable
abbrev pub shape_of : Bool → DatumKind
shape_of false = Single
shape_of true = Keyed

-- the datum of a variable is at its first index among those that the body declares; its initial count is the number of
-- these names that are the variable
abbrev pub is_place : ℕ → Option ℕ → Bool
is_place n None = false
is_place n (Some k) = nat_eq n k

abbrev pub first_count : List Variable → ℕ → Variable → List Name → ℕ
first_count makes n v rs = if is_place n (place_from 0 v makes) then name_times (here v) rs else 0

-- a body's own datum at an index, with its kind and its initial counts
abbrev pub own_row : List Variable → (reads writes : List Name) → ℕ → Variable → LocalVariable
own_row makes rs ws n v = record { shape = shape_of v.array; reads = first_count makes n v rs; writes = first_count makes n v ws }

-- all from an index on
abbrev pub own_from : List Variable → (reads writes : List Name) → ℕ → List Variable → List LocalVariable
own_from makes rs ws n [] = []
own_from makes rs ws n (v ∷ vs) = own_row makes rs ws n v ∷ own_from makes rs ws (suc n) vs

abbrev pub is_kind : Kind → Kind → Bool
is_kind Control Control = true
is_kind Control Leaf = false
is_kind Leaf Control = false
is_kind Leaf Leaf = true

-- the sum of the holds on a datum, where addresses stand for slots
abbrev pub at_spot : (LexicalAddress → Slot) → Option LexicalAddress → Slot
at_spot f None = Absent
at_spot f (Some s) = f s

module _ (f : LexicalAddress → Slot) where
  abbrev pub hold_times : (Hold → ℕ) → ℕ → List Hold → ℕ
  hold_times count d [] = 0
  hold_times count d (h ∷ hs) = (if slot_is d (f h.spot) then count h else 0) + hold_times count d hs

  -- the number of addresses that refer to a datum
  abbrev pub led_times : ℕ → List LexicalAddress → ℕ
  led_times d [] = 0
  led_times d (p ∷ ps) = (if slot_is d (f p) then 1 else 0) + led_times d ps

-- the sum of k holds for each of these names that refers to a datum
abbrev pub named_by : ℕ → (Name → Slot) → ℕ → List Name → ℕ
named_by k f d [] = 0
named_by k f d (r ∷ rs) = (if slot_is d (f r) then k else 0) + named_by k f d rs

-- holds to which one more is added
pub record GainsHold (old new : List Hold) (h : Hold) : Type 0 where
  pub reads : (f : LexicalAddress → Slot) (d : ℕ) → hold_times f (λ x. x.reads) d new ≡ hold_times f (λ x. x.reads) d old + (if slot_is d (f h.spot) then h.reads else 0)
  pub writes : (f : LexicalAddress → Slot) (d : ℕ) → hold_times f (λ x. x.writes) d new ≡ hold_times f (λ x. x.writes) d old + (if slot_is d (f h.spot) then h.writes else 0)

-- the need is a closed array
abbrev pub is_closed : Need → Bool
is_closed (Stored r) = false
is_closed (Closed r) = true
is_closed (At a r) = false
is_closed (AtKey a k) = false

module _ (C : Code) where
  -- a need with its names resolved
  abbrev pub wanted_in : ℕ → Need → ResolvedNeed
  wanted_in b (Pure.Stored r) = Wants.Stored (spot_in C b r)
  wanted_in b (Pure.Closed r) = Wants.Closed (spot_in C b r)
  wanted_in b (Pure.At a r) = Wants.At (spot_in C b a) (spot_in C b r)
  wanted_in b (Pure.AtKey a k) = Wants.AtKey (spot_in C b a) k

  -- the argument that a call passes
  abbrev pub passed_in : ℕ → Argument → PassedArgument
  passed_in b (Named r) = Passes.Named (spot_in C b r)
  passed_in b (Fixed v) = Passes.Fixed

  -- the addresses of names, except for those that do not resolve
  abbrev pub spots_in : ℕ → List Name → List LexicalAddress
  spots_in b rs = filter_map (spot_in C b) rs

  -- the address of the first of these names
  abbrev pub first_spot : ℕ → List Name → Option LexicalAddress
  first_spot b [] = None
  first_spot b (r ∷ rs) = spot_in C b r

  -- the slots of a loop's variables in the instances of its body
  abbrev pub value_slot : Option Loop → Option ℕ
  value_slot None = None
  value_slot (Some w) = place_from 0 (scalar w.value) (body C w.body).makes

  abbrev pub node_slot : ℕ → Option ℕ → Option ℕ
  node_slot b None = None
  node_slot b (Some n) = place_from 0 (scalar n) (body C b).makes

  abbrev pub turn_slot : Option Loop → Option ℕ
  turn_slot None = None
  turn_slot (Some w) = node_slot w.body w.turn

  -- the table of an entry that the body b contains
  pub record IsEntryTable (b i : ℕ) (t : EntryTable) : Type 0 where
    pub kind : t.kind ≡ kind_of (entry C i).act
    pub priority : t.priority ≡ (entry C i).priority
    pub needs : t.needs.items ≡ map (wanted_in b) (entry C i).needs
    pub offset : t.offset ≡ (entry C i).offset
    pub plain : t.plain ≡ list_all is_plain (entry C i).needs
    pub closed : t.closed ≡ list_any is_closed (entry C i).needs
    pub reads : t.reads.items ≡ spots_in b (entry C i).reads
    pub writes : t.writes.items ≡ spots_in b (entry C i).writes
    pub target : t.target ≡ first_spot b (stored_of (entry C i).node (entry C i).act)
    pub arguments_are : t.arguments.items ≡ map (passed_in b) (arguments (entry C i).act)
    pub value : t.value ≡ value_slot (loop_of (entry C i).act)
    pub turn : t.turn ≡ turn_slot (loop_of (entry C i).act)

  -- the number of these entries of a kind
  abbrev pub runs_as : Kind → ℕ → Bool
  runs_as k i = is_kind k (kind_of (entry C i).act)

  abbrev pub run_as : Kind → List ℕ → ℕ
  run_as k js = length (filter (runs_as k) js)

  -- the names that the body does not declare
  abbrev pub outside : ℕ → List Name → List Name
  outside b rs = filter (λ r. not (is_declared C b r)) rs

  abbrev pub at_name : ℕ → (LexicalAddress → Slot) → Name → Slot
  at_name b f r = at_spot f (spot_in C b r)

  -- holds to which `reads` and `writes` are added for each of the names that the body does not declare
  pub record GainsNames (b reads writes : ℕ) (rs : List Name) (old new : List Hold) : Type 0 where
    pub reads_are : (f : LexicalAddress → Slot) (d : ℕ) → hold_times f (λ x. x.reads) d new ≡ hold_times f (λ x. x.reads) d old + named_by reads (at_name b f) d (outside b rs)
    pub writes_are : (f : LexicalAddress → Slot) (d : ℕ) → hold_times f (λ x. x.writes) d new ≡ hold_times f (λ x. x.writes) d old + named_by writes (at_name b f) d (outside b rs)

  -- holds to which one is added for each of an entry's rights whose name the body does not declare
  pub record GainsRights (b : ℕ) (e : Entry) (old new : List Hold) : Type 0 where
    pub reads_are : (f : LexicalAddress → Slot) (d : ℕ) → hold_times f (λ x. x.reads) d new ≡ hold_times f (λ x. x.reads) d old + named_by 1 (at_name b f) d (outside b e.reads)
    pub writes_are : (f : LexicalAddress → Slot) (d : ℕ) → hold_times f (λ x. x.writes) d new ≡ hold_times f (λ x. x.writes) d old + named_by 1 (at_name b f) d (outside b e.writes)

  -- holds of the names among the rights of these entries
  abbrev pub names_of : (Entry → List Name) → List ℕ → List Name
  names_of rights js = flat_map (λ j. rights (entry C j)) js

  pub record HoldsOf (b : ℕ) (js : List ℕ) (hs : List Hold) : Type 0 where
    pub reads : (f : LexicalAddress → Slot) (d : ℕ) → hold_times f (λ x. x.reads) d hs ≡ named_by 1 (at_name b f) d (outside b (names_of (λ e. e.reads) js))
    pub writes : (f : LexicalAddress → Slot) (d : ℕ) → hold_times f (λ x. x.writes) d hs ≡ named_by 1 (at_name b f) d (outside b (names_of (λ e. e.writes) js))

  -- an entry waits for more than two inputs
  abbrev pub waits_long : ℕ → Bool
  waits_long i = nat_lt 2 (length (entry C i).needs)

  -- the table of a body
  pub record IsBodyTable (b : ℕ) (t : BodyTable) : Type 0 where
    pub own : t.own.items ≡ own_from (body C b).makes (names_in C (λ e. e.reads) b) (names_in C (λ e. e.writes) b) 0 (body C b).makes
    pub reads : (f : LexicalAddress → Slot) (d : ℕ) → hold_times f (λ x. x.reads) d t.outer.items ≡ held_times (at_name b f) d (outer_holds C (λ e. e.reads) b)
    pub writes : (f : LexicalAddress → Slot) (d : ℕ) → hold_times f (λ x. x.writes) d t.outer.items ≡ held_times (at_name b f) d (outer_holds C (λ e. e.writes) b)
    pub controls : t.controls ≡ run_as Control (body C b).entries
    pub leaves : t.leaves ≡ run_as Leaf (body C b).entries
    pub long : t.long ≡ list_any waits_long (body C b).entries

-- each member satisfies the condition for its index, counted from a number on
abbrev pub AllFrom : {X : Type 0} → (ℕ → X → Type 0) → ℕ → List X → Type 0
AllFrom P n [] = Unit {0}
AllFrom P n (x ∷ xs) = P n x × AllFrom P (suc n) xs
