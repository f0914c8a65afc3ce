-- The environment of a block instance, and the values of the expressions and cells of its statements in it. States
-- docs/LANGUAGE.md: Cells; Elements.
use Rattle.std.specs.Prelude.{◌≡◌, ℕ, Bool, true, false, List, [], ◌∷◌, Option, Some, None, Result, Ok, Err}
use Rattle.values.specs.declared.fault.OpFault.{OpFault}
use Rattle.values.specs.declared.key.Key.{Key}
use Rattle.values.specs.declared.map.Element.{Element}
use Rattle.values.specs.declared.value.Scalar.{Scalar}
use Rattle.values.specs.declared.value.Value.{Value}
use Rattle.values.specs.declared.value.Value.TheVariants.{One, Many}
use Rattle.values.specs.Keys.{value_key}
use Rattle.values.specs.Operators.{Operation, evaluated}
use Rattle.language.specs.Core.{Name, Expr, Exprs, literal, name, whole, operator, none, also, Form, compute, read, Core}
use Rattle.language.specs.Facts.{Fault, operation, no_element, value, element, Knowledge, Elements, OneWrite}
use Rattle.language.specs.Meaning.{Closed, HasValue}
use Rattle.language.specs.Places.{Path, place}

-- an environment: the scalar of a name, whether an array is closed, and its elements; the writes of a key, and the
-- value of a cell of the instance
pub record Sight : Type 0 where
  pub scalar : Name → Option Scalar
  pub closed : Name → Bool
  pub elements : Name → List Element
  pub writes : Name → Key → List Scalar
  pub cell : ℕ → Option Value

-- the environment at a path is exactly what is known there
pub record Sees (s : Core) (K : Knowledge) (path : Path) (g : Sight) : Type 0 where
  pub scalar_so : (x : Name) (v : Scalar) → g.scalar x ≡ Some v → HasValue s K (place s path x) v
  pub scalar_all : (x : Name) (v : Scalar) → HasValue s K (place s path x) v → g.scalar x ≡ Some v
  pub closed_so : (a : Name) → g.closed a ≡ true → Closed s K (place s path a)
  pub closed_all : (a : Name) → Closed s K (place s path a) → g.closed a ≡ true
  pub elements_so : (a : Name) → Closed s K (place s path a) → Elements K (place s path a) (g.elements a)
  pub elements_all : (a : Name) (es : List Element) → Closed s K (place s path a) → Elements K (place s path a) es → es ≡ g.elements a
  pub once_so : (a : Name) (k : Key) (v : Scalar) → g.writes a k ≡ v ∷ [] → OneWrite K (place s path a) k v
  pub once_all : (a : Name) (k : Key) (v : Scalar) → OneWrite K (place s path a) k v → g.writes a k ≡ v ∷ []
  pub never_so : (a : Name) (k : Key) → g.writes a k ≡ [] → (w : Path × ℕ) (v : Scalar) → K (element (place s path a) k w v) → ⊥
  pub never_all : (a : Name) (k : Key) → ((w : Path × ℕ) (v : Scalar) → K (element (place s path a) k w v) → ⊥) → g.writes a k ≡ []
  pub cell_so : (n : ℕ) (v : Value) → g.cell n ≡ Some v → K (value (path, n) v)
  pub cell_all : (n : ℕ) (v : Value) → K (value (path, n) v) → g.cell n ≡ Some v

-- the result of an expression, if all its parts are known
abbrev pub Come : Type 0
Come = Option (Result Value OpFault)

abbrev pub one_come : Option Scalar → Come
one_come (Some v) = Some (Ok (One v))
one_come None = None

abbrev pub many_come : Bool → List Element → Come
many_come true es = Some (Ok (Many es))
many_come false es = None

abbrev pub with_come : Come → Option (List (Result Value OpFault)) → Option (List (Result Value OpFault))
with_come (Some r) (Some rs) = Some (r ∷ rs)
with_come (Some r) None = None
with_come None rs = None

abbrev pub operated : Operation → Option (List (Result Value OpFault)) → Come
operated o (Some rs) = Some (evaluated o rs)
operated o None = None

abbrev mutual
  pub worked : Sight → Expr → Come
  worked g (literal v) = Some (Ok (One v))
  worked g (name x) = one_come (g.scalar x)
  worked g (whole a) = many_come (g.closed a) (g.elements a)
  worked g (operator o es) = operated o (worked_all g es)

  pub worked_all : Sight → Exprs → Option (List (Result Value OpFault))
  worked_all g none = Some []
  worked_all g (also e es) = with_come (worked g e) (worked_all g es)

-- the result of a cell, if it is known
abbrev pub Outcome : Type 0
Outcome = Option (Result Value Fault)

abbrev pub as_outcome : Come → Outcome
as_outcome (Some (Ok v)) = Some (Ok v)
as_outcome (Some (Err f)) = Some (Err (operation f))
as_outcome None = None

-- an element, given the writes of its key and whether its array is closed
abbrev pub element_come : List Scalar → Bool → Outcome
element_come (v ∷ []) c = Some (Ok (One v))
element_come [] true = Some (Err no_element)
element_come [] false = None
element_come (v ∷ u ∷ vs) c = None

abbrev pub element_under : Sight → Name → Option Key → Outcome
element_under g a (Some k) = element_come (g.writes a k) (g.closed a)
element_under g a None = None

-- an element, given the value of the index
abbrev pub read_come : Sight → Name → Option Value → Outcome
read_come g a (Some v) = element_under g a (value_key v)
read_come g a None = None

abbrev pub outcome : Sight → Form → Outcome
outcome g (compute e) = as_outcome (worked g e)
outcome g (read a i) = read_come g a (g.cell i)
