-- The entries emitted for some of the parts of a statement.
use Rattle.std.specs.Prelude.{◌≡◌, ℕ, suc, ℤ, Bool, true, false, List, [], ◌∷◌, ◌++◌, length, map, Option, Some, None, slice_get, option_map, nat_eq, cond, take, drop}
use Rattle.values.specs.declared.value.Scalar.{Scalar}
use Rattle.indexmap.specs.IndexMap.{IndexMap, get}
use Rattle.language.specs.Core.{Name, here, Expr, literal, name, whole, operator, Form, compute, read, Cell, Call, Part, inner}
use Rattle.language.specs.Members.{◌∈◌}
use Rattle.language.specs.Parts.{part_cells}
use Rattle.flow.specs.declared.cell.OuterCell.{OuterCell}
use Rattle.flow.specs.declared.script.Function.{Function}
use Rattle.flow.specs.Shapes.{kinds_of_function}
use Rattle.flow.specs.View.{cell_view, parts_view}
use Rattle.task_code.specs.Code as code
use Rattle.task_code.specs.Code.{Argument, Named, Fixed, At, AtKey, Need, Code, Entry, is_array_name}
use Rattle.task_code.specs.Compute.{key_of}
use Rattle.task_code.specs.View.{argument_view, entry_view}
use Rattle.task_code.specs.declared.entry.Argument.{Argument as Handed}
use Rattle.task_code.specs.declared.entry.Entry.{Entry as Made}
use Rattle.emit_cells.specs.declared.entries.StatementContext.{StatementContext}
use Rattle.code_rules.specs.CodeNames.{name_as}
use Rattle.code_rules.specs.IsCodeOf.{Layout, InputAs, PartsAs}
use Rattle.code_rules.specs.Laying.{CallsFit, IndexesStand, Kinds, PlainAs, StandsAmong, counted, is_array_argument}

-- the parts are among those of the statement, and no call directly before them has the first one's scalar as an output
pub record Inside (all ps : List Part) : Type 0 where
  pub plain : (l : Layout) → PlainAs l None all → PlainAs l None ps
  pub there : (x : Part) → x ∈ ps → x ∈ all

-- whether a cell has a datum, in each layout that agrees with the parts
abbrev pub Told : List Part → ℕ → Bool → Type 0
Told all n b = (l : Layout) → PlainAs l None all → l.plain n ≡ b

-- ARGUMENTS

-- the argument for the cell of a node
pub data HandedFor (k : ℕ) (all : List Part) (n : ℕ) (a : Argument) : Type 0 where
  literal_handed : {v : Scalar} → record { node = n; form = compute (literal v) } ∈ part_cells all → Told all n true → a ≡ Fixed v → HandedFor k all n a
  name_handed : {x : Name} → record { node = n; form = compute (name x) } ∈ part_cells all → Told all n true → a ≡ Named (name_as k false x)
      → HandedFor k all n a
  datum_handed : {c : Cell} → c ∈ part_cells all → n ≡ c.node → Told all n false → a ≡ Named (name_as k false (here n)) → HandedFor k all n a

-- the argument for a cell that is plain or not
abbrev pub passed_expr : ℕ → ℕ → Expr → Argument
passed_expr k n (literal v) = Fixed v
passed_expr k n (name x) = Named (name_as k false x)
passed_expr k n (whole a) = Named (name_as k false (here n))
passed_expr k n (operator o es) = Named (name_as k false (here n))

abbrev pub passed_as : ℕ → Bool → ℕ → Form → Argument
passed_as k true n (compute e) = passed_expr k n e
passed_as k true n (read a i) = Named (name_as k false (here n))
passed_as k false n f = Named (name_as k false (here n))

-- the recorded arguments, by the nodes of cells
abbrev pub handed_in : {S : Type 0} → IndexMap ℕ Handed S → ℕ → Option Argument
handed_in m n = option_map argument_view (get nat_eq m n)

pub record IsPassed {S : Type 0} (k : ℕ) (all : List Part) (m : IndexMap ℕ Handed S) : Type 0 where
  pub good : (n : ℕ) (a : Argument) → handed_in m n ≡ Some a → HandedFor k all n a
  pub found : (c : Cell) → c ∈ part_cells all → (a : Argument) × (handed_in m c.node ≡ Some a)

-- one more argument is recorded
abbrev pub Puts : {S : Type 0} → ℕ → Argument → IndexMap ℕ Handed S → IndexMap ℕ Handed S → Type 0
Puts n a old new = (m : ℕ) → handed_in new m ≡ cond (nat_eq n m) (Some a) (handed_in old m)

abbrev pub IsGood : {S : Type 0} → ℕ → List Part → IndexMap ℕ Handed S → Type 0
IsGood k all m = (n : ℕ) (a : Argument) → handed_in m n ≡ Some a → HandedFor k all n a

-- the arguments for the cells among some parts are recorded
pub record Passes {S : Type 0} (k : ℕ) (all ps : List Part) (old new : IndexMap ℕ Handed S) : Type 0 where
  pub good : IsGood k all old → IsGood k all new
  pub kept : (n : ℕ) (a : Argument) → handed_in old n ≡ Some a → (b : Argument) × (handed_in new n ≡ Some b)
  pub found : (c : Cell) → c ∈ part_cells ps → (a : Argument) × (handed_in new c.node ≡ Some a)

-- the part at an index, as a list
abbrev pub part_at : List Part → ℕ → List Part
part_at ps i = take 1 (drop i ps)

abbrev pub name_at : List Name → ℕ → List Name
name_at xs i = take 1 (drop i xs)

-- the element at an index given as an argument
abbrev pub element_at : code.Name → Argument → Need
element_at r (Named q) = At r q
element_at r (Fixed v) = AtKey r (key_of v)

-- the argument for a name that has to be an array or a scalar
pub record NamePasses (k : ℕ) (all : List Part) (b : Bool) (x : Name) (a : Argument) : Type 0 where
  pub input : (C : Code) (l : Layout) → PlainAs l None all → InputAs C l k all x a
  pub array : (b ≡ false → StandsAmong all x) → is_array_argument a ≡ b

-- the argument for an input of a function of these kinds
pub record InputPasses (fs : List Kinds) (k : ℕ) (all : List Part) (f i : ℕ) (x : Name) (a : Argument) : Type 0 where
  pub input : (C : Code) (l : Layout) → PlainAs l None all → InputAs C l k all x a
  pub array : (kinds : Kinds) (b : Bool) → slice_get fs f ≡ Some kinds → slice_get kinds.0 i ≡ Some b → (b ≡ false → StandsAmong all x)
      → is_array_argument a ≡ b

-- the name for an output of a function of these kinds
pub record OutputPasses (fs : List Kinds) (k f i : ℕ) (x : Name) (r : code.Name) : Type 0 where
  pub flag : Bool
  pub is : r ≡ name_as k flag x
  pub array : (kinds : Kinds) (b : Bool) → slice_get fs f ≡ Some kinds → slice_get kinds.1 i ≡ Some b → is_array_name r ≡ b

-- pairwise, from a number on
pub data OneByOne {X Y : Type 0} (R : ℕ → X → Y → Type 0) : ℕ → List X → List Y → Type 0 where
  no_pair : {i : ℕ} → OneByOne R i [] []
  one_pair : {i : ℕ} {x : X} {y : Y} {xs : List X} {ys : List Y} → R i x y → OneByOne R (suc i) xs ys → OneByOne R i (x ∷ xs) (y ∷ ys)

-- inputs and outputs from a number on, in a script with these functions
abbrev pub InputsPass : {A : Type 0} → List (Function A) → ℕ → List Part → ℕ → ℕ → List Name → List Argument → Type 0
InputsPass functions k all f i xs handed = OneByOne (InputPasses (map kinds_of_function functions) k all f) i xs handed

abbrev pub OutputsPass : {A : Type 0} → List (Function A) → ℕ → ℕ → ℕ → List Name → List code.Name → Type 0
OutputsPass functions k f i xs given = OneByOne (OutputPasses (map kinds_of_function functions) k f) i xs given

-- the act of a call's entry
pub record Calls (fs : List Kinds) (k : ℕ) (all : List Part) (c : Call) (a : code.Act) : Type 0 where
  pub ins : List Argument
  pub outs : List code.Name
  pub is : a ≡ code.Call (suc c.function) ins outs
  pub inputs : OneByOne (InputPasses fs k all c.function) 0 c.inputs ins
  pub outputs : OneByOne (OutputPasses fs k c.function) 0 c.outputs outs

-- EMITTED ENTRIES

-- in a function with k inputs, for a statement with these parts, at this offset and of this priority
module _ (fs : List Kinds) (k : ℕ) (all : List Part) (at : ℕ) (p : ℤ) where
  -- these entries are emitted for some of the parts
  pub record Chunk (ps : List Part) (more : List Entry) : Type 0 where
    pub fit : CallsFit fs all more
    pub parts_as : (C : Code) (front rest : List Entry) → C.entries ≡ front ++ (more ++ rest) → (l : Layout) → PlainAs l None all
        → ((i : ℕ) → l.body_of i ≡ suc i) → IndexesStand all
        → PartsAs C l k all at p ps (counted (length front) (length more))

  -- these entries are appended to the old ones
  pub record Added (ps : List Part) (old new : List Made) : Type 0 where
    pub more : List Entry
    pub is : map entry_view new ≡ map entry_view old ++ more
    pub chunk : Chunk ps more

-- in a script with these functions, for a statement in this context
abbrev pub AddedFor : {A : Type 0} → List (Function A) → StatementContext → List Part → List Part → List Made → List Made → Type 0
AddedFor functions s all ps old new = Added (map kinds_of_function functions) s.inputs all s.at s.priority ps old new

-- for all parts of the statement
abbrev pub AllAdded : {A : Type 0} → List (Function A) → StatementContext → List Part → List Made → List Made → Type 0
AllAdded functions s ps old new = AddedFor functions s ps ps old new

-- the cells and calls inside an outermost cell, followed by the cell itself
abbrev pub parts_inside : {A : Type 0} → OuterCell A → List Part
parts_inside o = parts_view o.parts.items ++ inner (cell_view o.cell) ∷ []
