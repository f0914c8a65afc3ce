-- Meaning of a verdict: a text is a script, a text is refused at a place, and a diagnostic begins with that place.
use Rattle.std.specs.Prelude.{◌≡◌, ◌⊎◌, ℕ, List, ◌∷◌, ◌++◌, Some, length, min}
use Rattle.lexer.specs.declared.token.Span.{Span}
use Rattle.language.specs.Reads.{Reads}
use Rattle.language.specs.Resolved.{core}
use Rattle.language.specs.Single.{SinglyAssigned}
use Rattle.language.specs.Table.{Table}
use Rattle.language.specs.Tree.{Tree}
use Rattle.language.specs.Typing.{WellTyped}
use Rattle.syntax.specs.Refusals as parsing
use Rattle.syntax.specs.declared.error.ParseFault.{ParseFault}
use Rattle.types.specs.Breaks as typing
use Rattle.types.specs.Faults as type_faults
use Rattle.types.specs.declared.fault.TypeFault.{TypeFault}
use Rattle.assign_check.specs.Breaks as assigning
use Rattle.assign_check.specs.Places as assign_places
use Rattle.assign_check.specs.declared.fault.AssignFault.{AssignFault}
use Rattle.explain_text.specs.Positions.{IsPosition, place_text}
use Rattle.explain_text.specs.declared.position.Position.{Position}

-- the text parses to a tree that is well typed and singly assigned
pub record IsScript (src : List ℕ) : Type 0 where
  pub tree : Tree
  pub table : Table
  pub reads : Reads src tree
  pub typed : WellTyped tree table
  pub single : SinglyAssigned (core table tree)

-- the text does not parse, and this is the place of its fault
pub record IsUnread (src : List ℕ) (at : Span) : Type 0 where
  pub fault : ParseFault
  pub refused : parsing.Refuses src fault
  pub place : parsing.place_of fault ≡ Some at

-- the tree is well typed for no table of names, and breaks a typing rule at this place
pub record IsIllTyped (src : List ℕ) (at : Span) : Type 0 where
  pub tree : Tree
  pub fault : TypeFault
  pub reads : Reads src tree
  pub ill_typed : (t : Table) → ¬ WellTyped tree t
  pub broken : typing.Breaks tree fault
  pub place : type_faults.span_of fault ≡ Some at

-- the tree is well typed but not singly assigned, and breaks a rule of single assignment at this place
pub record IsNotSingle (src : List ℕ) (at : Span) : Type 0 where
  pub tree : Tree
  pub table : Table
  pub fault : AssignFault
  pub reads : Reads src tree
  pub typed : WellTyped tree table
  pub not_single : ¬ SinglyAssigned (core table tree)
  pub broken : assigning.Breaks table tree fault
  pub place : assign_places.span_of fault ≡ Some at

abbrev pub IsRefusedAt : List ℕ → Span → Type 0
IsRefusedAt src at = IsUnread src at ⊎ (IsIllTyped src at ⊎ IsNotSingle src at)

-- the words begin with the file, and the line and the column at which the place begins
pub record BeginsAt (file src : List ℕ) (at : Span) (words : List ℕ) : Type 0 where
  pub position : Position
  pub is_position : IsPosition src (min at.from (length src)) position
  pub rest : List ℕ
  pub is : words ≡ place_text file position ++ 58 ∷ 32 ∷ rest

-- a diagnostic: the text is refused at the place with which the words begin
pub record Explains (file src words : List ℕ) : Type 0 where
  pub at : Span
  pub refused : IsRefusedAt src at
  pub begins : BeginsAt file src at words
