-- Meaning of each rule of single assignment at a place of a script. States docs/LANGUAGE.md: Single assignment.
use Rattle.std.specs.Prelude.{◌≡◌, ◌⊎◌, ℕ, ◌≤◌, true, List, ◌∷◌, ◌++◌}
use Rattle.lexer.specs.declared.token.Span.{Span}
use Rattle.language.specs.declared.tree.Shape.TheVariants.{Scalar}
use Rattle.language.specs.Core.{Owned}
use Rattle.language.specs.Members.{◌∈◌}
use Rattle.language.specs.Table.{Table}
use Rattle.language.specs.Numbered.{numbered}
use Rattle.language.specs.Tree.{Tree}
use Rattle.language.specs.Typing.{WellTyped}
use Rattle.assign_check.specs.declared.fault.AssignFault.{AssignFault}
use Rattle.assign_check.specs.declared.fault.AssignFault.TheVariants.{AssignedTwice, PartlyAssigned, NeverAssigned, OuterInLoop, WholeAndElements, OutputUnassigned, Memory}
use Rattle.assign_check.specs.Outline.{Kind, named, written, read, Use, result, given, Declared, Outline, splits, repeats, outlines}
use Rattle.assign_check.specs.Faults.{is_before, uses_in, declared_in}
use Rattle.assign_check.specs.Through.{Within, Counts, OnWay, Reaches}

-- a use of this kind of a variable
pub record Used (k : Kind) (x : Owned) (us : List Use) : Type 0 where
  pub use_there : Use
  pub there : use_there ∈ us
  pub kind : use_there.kind ≡ k
  pub is : use_there.of ≡ x

-- a target: a use that assigns a variable by its name, or writes an element of it
abbrev pub IsTarget : Use → Type 0
IsTarget u = (u.kind ≡ named) ⊎ (u.kind ≡ written)

-- S1: some control path assigns the variable, and then by name here; or the variable counts as assigned at its
-- declaration
pub record IsTwice (o : Outline) (at : Span) : Type 0 where
  pub target : Use
  pub is_named : target.kind ≡ named
  pub place : target.span ≡ at
  pub before : ℕ
  pub reached : Reaches target.of target o before
  pub assigned : 1 ≤ before

-- a number of assignments to a variable on some control path through the one block, and on none through the other
pub record OnOne (x : Owned) (one other : Outline) : Type 0 where
  pub so_often : ℕ
  pub there : OnWay x one so_often
  pub nowhere : OnWay x other so_often → ⊥

-- S2: for a variable from outside an `if`, one branch has a number of assignments that the other does not have
pub record IsPartly (o : Outline) (at : Span) : Type 0 where
  pub number : ℕ
  pub branch : Outline
  pub other : Outline
  pub variable : Owned
  pub there : Counts variable (splits number at branch other) o
  pub outside : is_before number variable ≡ true
  pub differ : OnOne variable branch other ⊎ OnOne variable other branch

-- S3: a scalar is read and not assigned, neither by its name nor at its declaration
pub record IsNever (o : Outline) (at : Span) : Type 0 where
  pub variable : Declared
  pub declared : variable ∈ declared_in o
  pub place : variable.span ≡ at
  pub scalar : variable.shape ≡ Scalar
  pub not_given : variable.role ≡ given → ⊥
  pub is_read : Used read variable.what (uses_in o)
  pub not_named : Used named variable.what (uses_in o) → ⊥

-- S4: a variable from outside a loop is assigned by name in it
pub record IsOuter (o : Outline) (at : Span) : Type 0 where
  pub number : ℕ
  pub loop : Outline
  pub there : Within (repeats number loop) o
  pub target : Use
  pub inside : target ∈ uses_in loop
  pub is_named : target.kind ≡ named
  pub place : target.span ≡ at
  pub outside : is_before number target.of ≡ true

-- S5: a target whose form differs from all targets of the variable before it, of which there is one; for a variable
-- that counts as assigned whole, the first target that writes an element
pub record IsBoth (o : Outline) (at : Span) : Type 0 where
  pub variable : Declared
  pub declared : variable ∈ declared_in o
  pub target : Use
  pub earlier : List Use
  pub later : List Use
  pub there : uses_in o ≡ earlier ++ target ∷ later
  pub is : target.of ≡ variable.what
  pub form : IsTarget target
  pub place : target.span ≡ at
  pub differs : (u : Use) → u ∈ earlier → u.of ≡ variable.what → IsTarget u → u.kind ≡ target.kind → ⊥
  pub has_other : (variable.role ≡ given × target.kind ≡ written) ⊎ ((variable.role ≡ given → ⊥) × (u : Use) × (u ∈ earlier) × (u.of ≡ variable.what) × IsTarget u)

-- S6: an output is never assigned
pub record IsUnassigned (o : Outline) (at : Span) : Type 0 where
  pub variable : Declared
  pub declared : variable ∈ declared_in o
  pub output : variable.role ≡ result
  pub place : variable.span ≡ at
  pub not_named : Used named variable.what (uses_in o) → ⊥
  pub not_written : Used written variable.what (uses_in o) → ⊥

-- the meaning of a fault in an outline of the script
abbrev pub BreaksIn : Outline → AssignFault → Type 0
BreaksIn o (AssignedTwice at) = IsTwice o at
BreaksIn o (PartlyAssigned at) = IsPartly o at
BreaksIn o (NeverAssigned at) = IsNever o at
BreaksIn o (OuterInLoop at) = IsOuter o at
BreaksIn o (WholeAndElements at) = IsBoth o at
BreaksIn o (OutputUnassigned at) = IsUnassigned o at
BreaksIn o Memory = ⊥

-- the fault names a rule that the script breaks at its place
pub record Breaks (t : Table) (tree : Tree) (f : AssignFault) : Type 0 where
  pub block : Outline
  pub there : block ∈ outlines t tree
  pub broken : BreaksIn block f

-- the tree is well typed by the table, and its nodes are numbered in reading order
pub record IsTyped (t : Table) (tree : Tree) : Type 0 where
  pub first : ℕ
  pub plain : Tree
  pub is_numbered : tree ≡ numbered first plain
  pub typed : WellTyped tree t
