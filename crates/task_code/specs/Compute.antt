-- The result that an entry computes from its answers. A value of a wrong type is read as 0, false or the empty text, so
-- the result is total.
use Rattle.std.specs.Prelude.{ℕ, zero, suc, Bool, List, [], ◌∷◌, map, Option, Some, None, Result, Ok, Err, ℤ, pos, if◌then◌else◌}
use Rattle.dataflow.specs.System.{Answer, Found, Missing, Content}
use Rattle.values.specs.declared.fault.OpFault.{OpFault}
use Rattle.values.specs.declared.key.Key.{Key}
use Rattle.values.specs.declared.key.Key.TheVariants.{Number as number_key}
use Rattle.values.specs.declared.map.Element.{Element}
use Rattle.values.specs.declared.value.Scalar.{Scalar}
use Rattle.values.specs.declared.value.Scalar.TheVariants.{Number}
use Rattle.values.specs.declared.value.Value.{Value}
use Rattle.values.specs.declared.value.Value.TheVariants.{One, Many}
pub use Rattle.values.specs.Keys.{key_of, key_scalar}
use Rattle.values.specs.Maps.{rising}
use Rattle.values.specs.Ranges.{range_count, value_in}
use Rattle.values.specs.Values.{number_of, truth_of, scalar_of, elements_of}
use Rattle.values.specs.Operators.{literal, evaluated}
use Rattle.task_code.specs.Code.{Expr, constant, need, operation, Exprs, no_operand, operand, Act, Cell, Read, Call, Set, Fill, Copy, InsertElement, Print, Assert, If, Range, Each, Wait}

-- the faults of an entry: a fault of an operation, a missing element of an array, or a path that would be too long
pub data EntryFault : Type 0 where
  InOperation : OpFault → EntryFault
  NoElement : EntryFault
  TooDeep : EntryFault

-- elements of an array, each a scalar under its key
abbrev pub Elements : Type 0
Elements = List (Key × Scalar)

-- conversion to elements of a map, and back
abbrev pub elements : Elements → List Element
elements xs = map (λ (x : Key × Scalar). record { key = x.0; value = x.1 }) xs

abbrev pub pairs : List Element → Elements
pairs es = map (λ (e : Element). (e.key, e.value)) es

-- elements in their order: by ascending keys
abbrev pub in_key_order : Elements → Bool
in_key_order xs = rising (elements xs)

-- the answer to the need at an index
abbrev pub answer_at : List (Answer Key Scalar) → ℕ → Option (Answer Key Scalar)
answer_at [] n = None
answer_at (x ∷ xs) zero = Some x
answer_at (x ∷ xs) (suc n) = answer_at xs n

-- an answer as a value
abbrev pub answer_value : Option (Answer Key Scalar) → Value
answer_value None = One (Number (pos 0))
answer_value (Some (Found v)) = One v
answer_value (Some Missing) = One (Number (pos 0))
answer_value (Some (Content xs)) = Many (elements xs)

-- the value of an expression, or its first fault in reading order; each operation is strict
abbrev mutual
  pub eval : List (Answer Key Scalar) → Expr → Result Value OpFault
  eval xs (constant v) = Ok (One v)
  eval xs (need n) = Ok (answer_value (answer_at xs n))
  eval xs (operation o es) = evaluated o (evals xs es)

  pub evals : List (Answer Key Scalar) → Exprs → List (Result Value OpFault)
  evals xs no_operand = []
  evals xs (operand e es) = eval xs e ∷ evals xs es

-- the result of an entry: a fault, a scalar, elements, the branch that it takes, a loop's turns (key and value), or
-- that its block can be opened
pub data Computed : Type 0 where
  Fails : EntryFault → Computed
  Gives : Scalar → Computed
  Inserts : Elements → Computed
  Takes : Bool → Computed
  Turns : Elements → Computed
  Opens : Computed

-- a scalar to be stored or printed
abbrev pub given : Result Value OpFault → Computed
given (Ok v) = Gives (scalar_of v)
given (Err f) = Fails (InOperation f)

-- an element, if the array has it
abbrev pub read : Option (Answer Key Scalar) → Computed
read None = Gives (Number (pos 0))
read (Some (Found v)) = Gives v
read (Some Missing) = Fails NoElement
read (Some (Content xs)) = Gives (Number (pos 0))

-- the elements of a literal
abbrev pub filled : Result Value OpFault → Computed
filled (Ok v) = Inserts (pairs (elements_of v))
filled (Err f) = Fails (InOperation f)

-- elements if they are in order, as those of a closed array are
abbrev pub listed : Elements → Elements
listed xs = if in_key_order xs then xs else []

-- the elements of the awaited array
abbrev pub content : Option (Answer Key Scalar) → Elements
content None = []
content (Some (Found v)) = []
content (Some Missing) = []
content (Some (Content xs)) = listed xs

-- the index is evaluated before the right side
abbrev pub insert_element : Result Value OpFault → Result Value OpFault → Computed
insert_element (Err f) right = Fails (InOperation f)
insert_element (Ok i) (Err f) = Fails (InOperation f)
insert_element (Ok i) (Ok v) = Inserts ((key_of (scalar_of i), scalar_of v) ∷ [])

-- the branch that a condition takes
abbrev pub branched : Result Value OpFault → Computed
branched (Ok v) = Takes (truth_of v)
branched (Err f) = Fails (InOperation f)

-- the next turns of a range, starting at turn n
abbrev pub range_turns : ℤ → ℤ → ℕ → ℕ → Elements
range_turns low step n zero = []
range_turns low step n (suc c) = (number_key (pos n), Number (value_in low step n)) ∷ range_turns low step (suc n) c

-- the turns of a range, or its fault
abbrev pub turns_or : Result ℕ OpFault → ℤ → ℤ → Computed
turns_or (Ok n) low step = Turns (range_turns low step 0 n)
turns_or (Err f) low step = Fails (InOperation f)

-- the bounds are evaluated in order, then the range
abbrev pub ranged : Result Value OpFault → Result Value OpFault → Result Value OpFault → Computed
ranged (Err f) high step = Fails (InOperation f)
ranged (Ok low) (Err f) step = Fails (InOperation f)
ranged (Ok low) (Ok high) (Err f) = Fails (InOperation f)
ranged (Ok low) (Ok high) (Ok step) = turns_or (range_count (number_of low) (number_of high) (number_of step)) (number_of low) (number_of step)

-- the result of each act
abbrev pub compute : Act → List (Answer Key Scalar) → Computed
compute (Cell e) xs = given (eval xs e)
compute Read xs = read (answer_at xs 0)
compute (Call b rs os) xs = Opens
compute (Set r e) xs = given (eval xs e)
compute (Fill r es) xs = filled (evaluated literal (evals xs es))
compute (Copy r) xs = Inserts (content (answer_at xs 0))
compute (InsertElement r i e) xs = insert_element (eval xs i) (eval xs e)
compute (Print e) xs = given (eval xs e)
compute (Assert e) xs = given (eval xs e)
compute (If e b d) xs = branched (eval xs e)
compute (Range l h s w) xs = ranged (eval xs l) (eval xs h) (eval xs s)
compute (Each w) xs = Turns (content (answer_at xs 0))
compute (Wait hs b) xs = Opens

-- the result that a worker computes for a leaf entry before the item ends
abbrev pub leaf_result : Act → List (Answer Key Scalar) → Option (Result Value OpFault)
leaf_result (Cell e) xs = Some (eval xs e)
leaf_result Read xs = None
leaf_result (Call b rs os) xs = None
leaf_result (Set r e) xs = Some (eval xs e)
leaf_result (Fill r es) xs = Some (evaluated literal (evals xs es))
leaf_result (Copy r) xs = None
leaf_result (InsertElement r i e) xs = None
leaf_result (Print e) xs = Some (eval xs e)
leaf_result (Assert e) xs = Some (eval xs e)
leaf_result (If e b d) xs = None
leaf_result (Range l h s w) xs = None
leaf_result (Each w) xs = None
leaf_result (Wait hs b) xs = None
