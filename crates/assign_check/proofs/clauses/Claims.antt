-- The three claims that the law of single assignment is put together from.
use Rattle.std.specs.Prelude.{◌≡◌, ℕ, []}
use Rattle.language.specs.Members.{◌∈◌}
use Rattle.language.specs.Numbered.{numbered}
use Rattle.language.specs.Resolved.{core}
use Rattle.language.specs.Single.{SinglyAssigned}
use Rattle.language.specs.Table.{Table}
use Rattle.language.specs.Tree.{Tree}
use Rattle.language.specs.Typing.{WellTyped}
use Rattle.assign_check.specs.Outline.{Outline, outlines}
use Rattle.assign_check.specs.Faults.{faults_of}
use Rattle.assign_check.proofs.clauses.SingleOutline.{Single}
use Rattle.assign_check.proofs.outlines.Scoped.{IsScoped}

-- the definition, said of blocks, is the one said of outlines
abbrev pub ByOutlines : Type 0
ByOutlines = (n : ℕ) (u tree : Tree) (t : Table) → tree ≡ numbered n u → WellTyped tree t → ((o : Outline) → o ∈ outlines t tree → Single o) → SinglyAssigned (core t tree)

abbrev pub ToOutlines : Type 0
ToOutlines = (n : ℕ) (u tree : Tree) (t : Table) → tree ≡ numbered n u → WellTyped tree t → SinglyAssigned (core t tree) → (o : Outline) → o ∈ outlines t tree → Single o

-- names of well typed scripts are those of visible variables
abbrev pub AllScoped : Type 0
AllScoped = (n : ℕ) (u tree : Tree) (t : Table) → tree ≡ numbered n u → WellTyped tree t → (o : Outline) → o ∈ outlines t tree → IsScoped o

-- a scoped outline has no fault exactly where it is singly assigned
abbrev pub NoFault : Type 0
NoFault = (o : Outline) → IsScoped o → faults_of o ≡ [] → Single o

abbrev pub NotSingle : Type 0
NotSingle = (o : Outline) → IsScoped o → Single o → faults_of o ≡ []
