-- The plain needs of entries.
use Rattle.std.specs.Prelude.{◌≡◌, ◌<◌, ◌^◌, length, ℕ, Bool, true, false, List, ◌++◌, map, if◌then◌else◌}
use Rattle.task_code.specs.Code.{Local, Name, Need, Closed, Stored, Parameter, is_array_name}
use Rattle.code_rules.specs.CodeNames.{each_once}
use Rattle.code_rules.specs.Room.{Each}
use Rattle.emit_cells.specs.declared.needs.PlainNeed.{PlainNeed}

abbrev pub name_of : PlainNeed → Name
name_of w = record { up = w.up; owned = if w.local then Local (record { node = w.node; array = w.array }) else Parameter w.place w.array }

abbrev pub need_of : PlainNeed → Need
need_of w = if w.array then Closed (name_of w) else Stored (name_of w)

-- the need with a name
abbrev pub need_named : Name → Need
need_named r = if is_array_name r then Closed r else Stored r

-- a variable has index 0, and a parameter has node 0
abbrev pub IsPlainAs : Bool → ℕ → ℕ → Type 0
IsPlainAs true n p = p ≡ 0
IsPlainAs false n p = n ≡ 0

abbrev pub IsPlain : PlainNeed → Type 0
IsPlain w = IsPlainAs w.local w.node w.place

-- these are the needs, each once
pub record Noted (ns : List Need) (ks : List PlainNeed) : Type 0 where
  pub are : map need_of ks ≡ each_once ns
  pub plain : Each IsPlain ks

-- more needs are appended to those
abbrev pub Notes : List PlainNeed → List PlainNeed → List Need → Type 0
Notes old new more = (ns : List Need) → Noted ns old → Noted (ns ++ more) new

-- the number of needs fits in 32 bits
pub record IsReady (ks : List PlainNeed) : Type 0 where
  pub plain : Each IsPlain ks
  pub few : length ks < 2 ^ 32
