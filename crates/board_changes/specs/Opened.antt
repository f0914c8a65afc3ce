-- Opened instances: their data are made, they are placed with their items, and their holds on outer data are added.
use Rattle.std.specs.Prelude.{◌≡◌, ◌+◌, ◌*◌, ◌<◌, ◌^◌, ℕ, Bool, true, false, List, [], ◌∷◌, length, map, Option, Some, None, option_map, suc}
use Rattle.data_store.specs.Data.{with_holds}
use Rattle.data_store.specs.Stores.{Store, at}
use Rattle.board_history.specs.Ending.{held_times, home}
use Rattle.board_history.specs.Fields.{Does, Frame, Job, Row, Script}
use Rattle.board_history.specs.Static.{names_in, outer_holds}
use Rattle.task_code.specs.Code.{Code, Entry, Name, body}
use Rattle.board_program.specs.Spots.{spot_in}
use Rattle.board_program.specs.Tables.{at_spot, own_from}
use Rattle.board_program.specs.declared.program.LocalVariable.{LocalVariable}
use Rattle.board_data.specs.Holds.{Fit}
use Rattle.board_instances.specs.Names.{spot_slot}
use Rattle.board_instances.specs.Openings.{ArePlaced, WithMore}
use Rattle.board_instances.specs.View.{opening_frame}
use Rattle.board_instances.specs.declared.pending.PendingInstance.{PendingInstance}
use Rattle.board_instances.specs.declared.pending.PendingInstances.{PendingInstances}
use Rattle.board_changes.specs.Filled.{AreFilled}
use Rattle.board_changes.specs.declared.instance_data.TurnSlots.{TurnSlots}

-- the slots of a turn's variables
abbrev pub turn_slots : PendingInstances → TurnSlots
turn_slots o = record { value = o.value; turn = o.turn }

module _ (C : Code) where
  -- the data of a body's own variables
  abbrev pub own_of : ℕ → List LocalVariable
  own_of b = own_from (body C b).makes (names_in C (λ e. e.reads) b) (names_in C (λ e. e.writes) b) 0 (body C b).makes

  -- the number of holds on a datum among the outer holds of an instance of a body
  abbrev pub outer_of : (Entry → List Name) → List (Option Frame) → (instance body datum : ℕ) → ℕ
  outer_of rights fs k b d = held_times (λ r. at_spot (spot_slot fs k) (spot_in C b r)) d (outer_holds C rights b)

  -- these holds were added this number of times, resolved from one of the instances, if the counts fit
  abbrev pub AddsOuter : List (Option Frame) → (body times : ℕ) → (last : Option ℕ) → Store → Store → Type 0
  AddsOuter fs b n None s t = t ≡ s
  AddsOuter fs b n (Some k) s t = (d : ℕ) → Fit (n * outer_of (λ e. e.reads) fs k b d) (n * outer_of (λ e. e.writes) fs k b d) (at s d) → at t d ≡ option_map (with_holds (n * outer_of (λ e. e.reads) fs k b d) (n * outer_of (λ e. e.writes) fs k b d)) (at s d)

  -- all instances were opened by the item of a job
  pub record AreOpened (j : Job) (o : PendingInstances) (fs gs : List (Option Frame)) (old new : List Row) (s t : Store) : Type 0 where
    pub filled : List PendingInstance
    pub made : Store
    pub fills : AreFilled (own_of o.body) (turn_slots o) o.list.items s filled made
    pub middle : List (Option Frame)
    pub around : WithMore fs (home j) (length o.list.items) middle
    pub last : Option ℕ
    pub placed : ArePlaced (map opening_frame filled) (body C o.body).entries middle gs old new last
    pub holds : AddsOuter gs o.body (length o.list.items) last made t

-- the job of the item for the rest of a loop
abbrev pub going : Job → Bool → List Job
going Script b = []
going (Does k e c) true = Does k e (suc c) ∷ []
going (Does k e c) false = []

-- the chunk number of a loop that continues can be incremented
abbrev pub CanGoOn : Job → Bool → Type 0
CanGoOn Script b = Unit {0}
CanGoOn (Does k e c) true = c + 1 < 2 ^ 64
CanGoOn (Does k e c) false = Unit {0}

-- its instance and its next chunk have 32-bit numbers
abbrev pub IsShort : Job → Bool → Type 0
IsShort Script b = Unit {0}
IsShort (Does k e c) true = (k < 2 ^ 32) × (c + 1 < 2 ^ 32)
IsShort (Does k e c) false = Unit {0}

-- the number of items for the rest of a loop
abbrev pub more_of : Bool → ℕ
more_of true = 1
more_of false = 0
