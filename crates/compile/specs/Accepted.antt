-- When a text is a script, of which core, and why it is refused.
use Rattle.std.specs.Prelude.{◌≡◌, ◌⊎◌, ℕ, List, Some}
use Rattle.language.specs.Core.{Core}
use Rattle.language.specs.Reads.{Reads}
use Rattle.language.specs.Resolved.{core}
use Rattle.language.specs.Single.{SinglyAssigned}
use Rattle.language.specs.Table.{Table}
use Rattle.language.specs.Tree.{Tree}
use Rattle.language.specs.Typing.{WellTyped}
use Rattle.syntax.specs.Refusals.{Refuses}
use Rattle.syntax.specs.declared.error.ParseFault.{ParseFault}
use Rattle.syntax.specs.declared.error.ParseFault.TheVariants as Parse
use Rattle.types.specs.declared.fault.TypeFault.{TypeFault}
use Rattle.types.specs.declared.fault.TypeFault.TheVariants as Typing
use Rattle.types.specs.Breaks as typing
use Rattle.types.specs.Outcomes.{refused}
use Rattle.types.specs.Scripts.{checked}
use Rattle.assign_check.specs.declared.fault.AssignFault.{AssignFault}
use Rattle.assign_check.specs.declared.fault.AssignFault.TheVariants as Assign
use Rattle.assign_check.specs.Breaks.{Breaks}
use Rattle.assign_check.specs.Faults.{faults, first_fault}
use Rattle.compile.specs.declared.fault.CompileFault.{CompileFault}
use Rattle.compile.specs.declared.fault.CompileFault.TheVariants as Fault

-- the text is read as this tree, which is well typed by this table of its names, and singly assigned
pub record IsAccepted (src : List ℕ) (table : Table) (tree : Tree) : Type 0 where
  pub reads : Reads src tree
  pub typed : WellTyped tree table
  pub single : SinglyAssigned (core table tree)

-- the text is a script
abbrev pub IsScript : List ℕ → Type 0
IsScript src = (table : Table) × (tree : Tree) × IsAccepted src table tree

-- the text is a script of this core
pub record IsScriptOf (src : List ℕ) (s : Core) : Type 0 where
  pub table : Table
  pub tree : Tree
  pub accepted : IsAccepted src table tree
  pub is : core table tree ≡ s

-- the text is read as a tree
abbrev pub IsRead : List ℕ → Type 0
IsRead src = (tree : Tree) × Reads src tree

-- the text is read as a tree that is well typed for no table of names, and this is the first fault met in reading it:
-- it names a rule that the tree breaks at its place
pub record IsIllTyped (src : List ℕ) (fault : TypeFault) : Type 0 where
  pub tree : Tree
  pub reads : Reads src tree
  pub is : checked tree ≡ refused fault
  pub broken : typing.Breaks tree fault
  pub ill_typed : (t : Table) → ¬ WellTyped tree t

-- the text is read as a tree that is well typed and not singly assigned, and this is its first fault by place: it names
-- a rule that the tree breaks there
pub record IsNotSingle (src : List ℕ) (fault : AssignFault) : Type 0 where
  pub tree : Tree
  pub table : Table
  pub reads : Reads src tree
  pub typed : WellTyped tree table
  pub is : first_fault (faults table tree) ≡ Some fault
  pub broken : Breaks table tree fault
  pub not_single : ¬ SinglyAssigned (core table tree)

abbrev pub IsRefusedByText : List ℕ → ParseFault → Type 0
IsRefusedByText src Parse.Memory = ⊥
IsRefusedByText src f = Refuses src f

abbrev pub IsRefusedByTypes : List ℕ → TypeFault → Type 0
IsRefusedByTypes src Typing.Memory = ⊥
IsRefusedByTypes src f = IsIllTyped src f

abbrev pub IsRefusedByAssignments : List ℕ → AssignFault → Type 0
IsRefusedByAssignments src Assign.Memory = ⊥
IsRefusedByAssignments src f = IsNotSingle src f

-- why a text is not a script, by the first step that refuses it; an allocation failure is not a refusal, and occurs
-- during or after reading a text that is not too long
abbrev pub IsUnfit : List ℕ → CompileFault → Type 0
IsUnfit src (Fault.Parse f) = IsRefusedByText src f
IsUnfit src (Fault.Types f) = IsRefusedByTypes src f
IsUnfit src (Fault.Assignments f) = IsRefusedByAssignments src f
IsUnfit src Fault.Memory = Refuses src Parse.Memory ⊎ IsRead src

-- the reported fault for the fault of a step
abbrev pub fault_of_text : ParseFault → CompileFault
fault_of_text Parse.Memory = Fault.Memory
fault_of_text f = Fault.Parse f

abbrev pub fault_of_types : TypeFault → CompileFault
fault_of_types Typing.Memory = Fault.Memory
fault_of_types f = Fault.Types f

abbrev pub fault_of_assignments : AssignFault → CompileFault
fault_of_assignments Assign.Memory = Fault.Memory
fault_of_assignments f = Fault.Assignments f
