-- Properties of the values that are known of a typed script: conditions are truth values, bounds are numbers.
use Rattle.std.specs.Prelude.{◌≡◌, ℕ, ℤ, Bool, Option, Some, List, [], ◌∷◌, ◌++◌}
use Rattle.values.specs.declared.value.Scalar.{Scalar}
use Rattle.values.specs.declared.value.Scalar.TheVariants.{Text, Truth}
use Rattle.values.specs.declared.value.Value.{Value}
use Rattle.values.specs.declared.value.Value.TheVariants.{One}
use Rattle.language.specs.Core.{Name, Stmt, Form, compute, read, Cell, Part, inner, Action, assign, fill, insert, print, assert, Outer, stmt, when, choose, range, Block, Core}
use Rattle.language.specs.Facts.{value, IsKey, Knowledge, KnownAll}
use Rattle.values.specs.Keys.{key_of}
use Rattle.language.specs.Members.{◌∈◌}
use Rattle.language.specs.Openings.{Bounds, bounds}
use Rattle.language.specs.Parts.{cells, outer_cells, parts, script_stmts}
use Rattle.language.specs.Places.{Path}

-- the cells before a statement's own cell: a read element that is the whole right side is one of them
abbrev pub own_cell : Cell → Form → List Part
own_cell c (compute e) = []
own_cell c (read a i) = inner c ∷ []

abbrev pub own_outer : Outer → List Part
own_outer o = o.parts ++ own_cell o.cell o.cell.form

-- the parts of a statement except the cell that an assignment, a print or an assertion computes itself
abbrev pub own_parts : Action → List Part
own_parts (assign x o) = own_outer o
own_parts (fill a o) = own_outer o
own_parts (print p o) = own_outer o
own_parts (assert p o) = own_outer o
own_parts a = parts a

pub record TypedValues (s : Core) (K : Knowledge) : Type 0 where
  pub when_truth : (path : Path) (at n : ℕ) (c : Outer) (b : Block) (v : Value) → stmt at n (when c b) ∈ script_stmts s → K (value (path, c.cell.node) v) → (t : Bool) × (v ≡ One (Truth t))
  pub choose_truth : (path : Path) (at n : ℕ) (c : Outer) (b d : Block) (v : Value) → stmt at n (choose c b d) ∈ script_stmts s → K (value (path, c.cell.node) v) → (t : Bool) × (v ≡ One (Truth t))
  pub range_bounds : (path : Path) (at n x : ℕ) (lo hi : Outer) (st : Option Outer) (t : Option ℕ) (b : Block) (vs : List Value) → stmt at n (range lo hi st x t b) ∈ script_stmts s
      → KnownAll K path (outer_cells (range lo hi st x t b)) vs → (r : Bounds) × (bounds vs ≡ Some r)
  -- a cell that is not the whole right side of an array has a scalar
  pub cell_one : (path : Path) (at n : ℕ) (a : Action) (c : Cell) (v : Value) → stmt at n a ∈ script_stmts s → inner c ∈ own_parts a → K (value (path, c.node) v) → (u : Scalar) × (v ≡ One u)
  pub assign_one : (path : Path) (at n : ℕ) (x : Name) (o : Outer) (v : Value) → stmt at n (assign x o) ∈ script_stmts s → K (value (path, o.cell.node) v) → (u : Scalar) × (v ≡ One u)
  -- an index is a number or a text
  pub index_key : (path : Path) (st : Stmt) (n i : ℕ) (a : Name) (v : Value) → st ∈ script_stmts s → record { node = n; form = read a i } ∈ cells st → K (value (path, i) v) → (u : Scalar) × (v ≡ One u) × IsKey v (key_of u)
  pub insert_key : (path : Path) (at n : ℕ) (a : Name) (i o : Outer) (v : Value) → stmt at n (insert a i o) ∈ script_stmts s → K (value (path, i.cell.node) v) → (u : Scalar) × (v ≡ One u) × IsKey v (key_of u)
  -- printf results in a text
  pub print_text : (path : Path) (at n : ℕ) (p : ℤ) (o : Outer) (v : Value) → stmt at n (print p o) ∈ script_stmts s → K (value (path, o.cell.node) v) → (bytes : List ℕ) × (v ≡ One (Text bytes))
