-- The blocks that a header opens, given the values of its cells or the elements of its array. States docs/LANGUAGE.md:
-- Blocks and paths; Loops.
use Rattle.std.specs.Prelude.{◌≡◌, ℕ, ◌<◌, ℤ, pos, true, false, List, [], ◌∷◌, Option, Some, None, Bool, Ok}
use Rattle.values.specs.declared.key.Key.{Key}
use Rattle.values.specs.declared.map.Element.{Element}
use Rattle.values.specs.declared.value.Scalar.{Scalar}
use Rattle.values.specs.declared.value.Scalar.TheVariants.{Number, Truth}
use Rattle.values.specs.declared.value.Value.{Value}
use Rattle.values.specs.declared.value.Value.TheVariants.{One, Many}
use Rattle.values.specs.Maps.{element as entry}
use Rattle.values.specs.Ranges.{range_count, value_in}
use Rattle.language.specs.Core.{Name, Outer, Action, when, choose, range, each, Block}
use Rattle.language.specs.Facts.{key_value}
use Rattle.language.specs.Members.{◌∈◌}

-- the bounds of a range
pub record Bounds : Type 0 where
  pub low : ℤ
  pub high : ℤ
  pub step : ℤ

-- bounds by their values; a missing step is 1
abbrev pub bounds : List Value → Option Bounds
bounds (One (Number l) ∷ One (Number h) ∷ []) = Some (record { low = l; high = h; step = pos 1 })
bounds (One (Number l) ∷ One (Number h) ∷ One (Number d) ∷ []) = Some (record { low = l; high = h; step = d })
bounds _ = None

-- the values of a header's cells decide its choice: a condition, or a range without fault
pub data Decides : Action → List Value → Type 0 where
  one_way : {c : Outer} {b : Block} {t : Bool} → Decides (when c b) (One (Truth t) ∷ [])
  two_ways : {c : Outer} {b d : Block} {t : Bool} → Decides (choose c b d) (One (Truth t) ∷ [])
  in_turns : {lo hi : Outer} {st : Option Outer} {x : ℕ} {t : Option ℕ} {b : Block} {vs : List Value} {r : Bounds} {n : ℕ}
      → bounds vs ≡ Some r → range_count r.low r.high r.step ≡ Ok n → Decides (range lo hi st x t b) vs

-- the block that a header opens under a key: a branch under 0 or 1, a turn of a range under its number from 0, one of a loop
-- over an array under the element's key (docs/LANGUAGE.md, Blocks and paths)
pub data Opens : Action → List Value → Key → Block → Type 0 where
  then_alone : {c : Outer} {b : Block} → Opens (when c b) (One (Truth true) ∷ []) (Key.Number (pos 0)) b
  then_first : {c : Outer} {b d : Block} → Opens (choose c b d) (One (Truth true) ∷ []) (Key.Number (pos 0)) b
  else_second : {c : Outer} {b d : Block} → Opens (choose c b d) (One (Truth false) ∷ []) (Key.Number (pos 1)) d
  turn : {lo hi : Outer} {st : Option Outer} {x : ℕ} {t : Option ℕ} {b : Block} {vs : List Value} {r : Bounds} {n i : ℕ}
      → bounds vs ≡ Some r → range_count r.low r.high r.step ≡ Ok n → i < n → Opens (range lo hi st x t b) vs (Key.Number (pos i)) b
  item : {a : Name} {x : ℕ} {t : Option ℕ} {b : Block} {es : List Element} {k : Key} {v : Scalar} → entry k v ∈ es
      → Opens (each a x t b) (Many es ∷ []) k b

-- the value of a loop's variable in the turn under a key (docs/LANGUAGE.md, Loops)
pub data InTurn : Action → List Value → Key → (variable : ℕ) → Scalar → Type 0 where
  range_value : {lo hi : Outer} {st : Option Outer} {x : ℕ} {t : Option ℕ} {b : Block} {vs : List Value} {r : Bounds} {i : ℕ} {v : Scalar}
      → bounds vs ≡ Some r → v ≡ Number (value_in r.low r.step i) → InTurn (range lo hi st x t b) vs (Key.Number (pos i)) x v
  range_turn : {lo hi : Outer} {st : Option Outer} {x t : ℕ} {b : Block} {vs : List Value} {k : Key} {v : Scalar}
      → v ≡ key_value k → InTurn (range lo hi st x (Some t) b) vs k t v
  each_value : {a : Name} {x : ℕ} {t : Option ℕ} {b : Block} {es : List Element} {k : Key} {v : Scalar} → entry k v ∈ es
      → InTurn (each a x t b) (Many es ∷ []) k x v
  each_key : {a : Name} {x t : ℕ} {b : Block} {vs : List Value} {k : Key} {v : Scalar}
      → v ≡ key_value k → InTurn (each a x (Some t) b) vs k t v

-- a header that opens blocks under keys; a `wait` opens its content in place
abbrev pub Branches : Action → Type 0
Branches (when c b) = Unit {0}
Branches (choose c b d) = Unit {0}
Branches (range lo hi st v k b) = Unit {0}
Branches (each a v k b) = Unit {0}
Branches _ = ⊥
