-- The choice of a header in the environment of an instance: the blocks that it opens, their keys, and their loop
-- variables.
use Rattle.std.specs.Prelude.{◌≡◌, ◌<◌, ℕ, ℤ, pos, Bool, true, false, ◌&&◌, List, [], ◌∷◌, length, is_some, Option, Some, None, Result, Ok, Err, slice_get, if◌then◌else◌}
use Rattle.std.specs.Ordering.{int_eq}
use Rattle.values.specs.declared.fault.OpFault.{OpFault}
use Rattle.values.specs.declared.key.Key.{Key}
use Rattle.values.specs.declared.map.Element.{Element}
use Rattle.values.specs.declared.range.IntRange.{IntRange}
use Rattle.values.specs.declared.value.Scalar.{Scalar}
use Rattle.values.specs.declared.value.Scalar.TheVariants.{Number, Truth}
use Rattle.values.specs.declared.value.Value.{Value}
use Rattle.values.specs.declared.value.Value.TheVariants.{One}
use Rattle.values.specs.Ranges.{range_count, value_in}
use Rattle.language.specs.Core.{Awaited, scalar, array, Cell, Action, when, choose, range, each, Block}
use Rattle.language.specs.Openings.{Bounds, bounds}
use Rattle.language.specs.Parts.{outer_cells}
use Rattle.meaning_steps.specs.Environment.{Sight}
use Rattle.meaning_steps.specs.News.{with_value}
use Rattle.meaning_cells.specs.declared.choices.Choice.{Choice}
use Rattle.meaning_cells.specs.declared.choices.Choice.TheVariants as Is

-- number of values of a range
abbrev pub range_counted : Option (Result IntRange OpFault) → Option (Result ℕ OpFault)
range_counted (Some (Ok r)) = Some (Ok r.count)
range_counted (Some (Err f)) = Some (Err f)
range_counted None = None

-- INPUTS OF A WAIT

abbrev pub has_come_in : Sight → Awaited → Bool
has_come_in g (scalar x) = is_some (g.scalar x)
has_come_in g (array x) = g.closed x

abbrev pub have_come_in : Sight → List Awaited → Bool
have_come_in g [] = true
have_come_in g (x ∷ xs) = has_come_in g x && have_come_in g xs

-- CHOICES

-- a choice: no block, a branch, the turns of a range, or the elements of an array
pub data Chosen : Type 0 where
  nothing : Chosen
  branch : ℤ → Chosen
  turns : (low step : ℤ) → (count : ℕ) → Chosen
  items : List Element → Chosen

abbrev pub choice_view : Choice → Chosen
choice_view Is.Nothing = nothing
choice_view (Is.Branch k) = branch k
choice_view (Is.Turns r) = turns r.low r.step r.count
choice_view (Is.Items es) = items es

abbrev pub choice_seen : Option Choice → Option Chosen
choice_seen (Some c) = Some (choice_view c)
choice_seen None = None

abbrev pub turns_seen : Option (Result IntRange OpFault) → Option Chosen
turns_seen (Some (Ok r)) = Some (turns r.low r.step r.count)
turns_seen (Some (Err f)) = None
turns_seen None = None

-- number of blocks that the choice opens
abbrev pub count_in : Chosen → ℕ
count_in nothing = 0
count_in (branch k) = 1
count_in (turns low step n) = n
count_in (items es) = length es

abbrev pub item_key : Option Element → Key
item_key (Some e) = e.key
item_key None = Key.Number (pos 0)

abbrev pub item_value : Option Element → Scalar
item_value (Some e) = e.value
item_value None = Number (pos 0)

-- the key of the block at an index
abbrev pub key_in : Chosen → ℕ → Key
key_in nothing i = Key.Number (pos 0)
key_in (branch k) i = Key.Number k
key_in (turns low step n) i = Key.Number (pos i)
key_in (items es) i = item_key (slice_get es i)

-- the value of the loop variable in the turn at an index
abbrev pub value_at_turn : Chosen → ℕ → Scalar
value_at_turn nothing i = Number (pos 0)
value_at_turn (branch k) i = Number (pos 0)
value_at_turn (turns low step n) i = Number (value_in low step i)
value_at_turn (items es) i = item_value (slice_get es i)

abbrev pub is_other : Chosen → Bool
is_other nothing = false
is_other (branch k) = int_eq k (pos 1)
is_other (turns low step n) = false
is_other (items es) = false

-- the block that the choice opens
abbrev pub block_in : Action → Chosen → Option Block
block_in (when c b) o = Some b
block_in (choose c b d) o = if is_other o then Some d else Some b
block_in (range lo hi st x t b) o = Some b
block_in (each a x t b) o = Some b
block_in _ o = None

-- THE CHOICE FOR GIVEN VALUES

abbrev pub turns_by : Bounds → Result ℕ OpFault → Option Chosen
turns_by r (Ok n) = Some (turns r.low r.step n)
turns_by r (Err f) = None

abbrev pub turns_of : Option Bounds → Option Chosen
turns_of (Some r) = turns_by r (range_count r.low r.high r.step)
turns_of None = None

-- the truth value, if the values are exactly one
abbrev pub truth_in : List Value → Option Bool
truth_in (One (Truth t) ∷ []) = Some t
truth_in _ = None

abbrev pub when_by : Option Bool → Option Chosen
when_by (Some true) = Some (branch (pos 0))
when_by (Some false) = Some nothing
when_by None = None

abbrev pub choose_by : Option Bool → Option Chosen
choose_by (Some true) = Some (branch (pos 0))
choose_by (Some false) = Some (branch (pos 1))
choose_by None = None

-- the choice of a condition or a range for the values of its cells
abbrev pub chosen_by : Action → List Value → Option Chosen
chosen_by (when c b) vs = when_by (truth_in vs)
chosen_by (choose c b d) vs = choose_by (truth_in vs)
chosen_by (range lo hi st x t b) vs = turns_of (bounds vs)
chosen_by _ vs = None

-- the values of cells, if all are known
abbrev pub all_seen : Sight → List Cell → Option (List Value)
all_seen g [] = Some []
all_seen g (c ∷ cs) = with_value (g.cell c.node) (all_seen g cs)

abbrev pub chosen_from : Action → Option (List Value) → Option Chosen
chosen_from a (Some vs) = chosen_by a vs
chosen_from a None = None

abbrev pub items_seen : Bool → List Element → Option Chosen
items_seen true es = Some (items es)
items_seen false es = None

-- the choice of a header, if it is known
abbrev pub chosen_in : Sight → Action → Option Chosen
chosen_in g (when c b) = chosen_from (when c b) (all_seen g (outer_cells (when c b)))
chosen_in g (choose c b d) = chosen_from (choose c b d) (all_seen g (outer_cells (choose c b d)))
chosen_in g (range lo hi st x t b) = chosen_from (range lo hi st x t b) (all_seen g (outer_cells (range lo hi st x t b)))
chosen_in g (each a x t b) = items_seen (g.closed a) (g.elements a)
chosen_in g _ = None

-- a block is one of those that the choice opens, at its key
pub record OpensAt (a : Action) (c : Chosen) (k : Key) (b : Block) : Type 0 where
  pub index : ℕ
  pub below : index < count_in c
  pub key_is : key_in c index ≡ k
  pub block_is : block_in a c ≡ Some b
