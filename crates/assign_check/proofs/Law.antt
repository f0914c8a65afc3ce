-- The law of single assignment, put together from its claims.
use Rattle.std.proofs.Common.{◌≡◌, ℕ, []}
use Rattle.language.specs.Numbered.{numbered}
use Rattle.language.specs.Resolved.{core}
use Rattle.language.specs.Single.{SinglyAssigned}
use Rattle.language.specs.Table.{Table}
use Rattle.language.specs.Tree.{Tree}
use Rattle.language.specs.Typing.{WellTyped}
use Rattle.assign_check.specs.Outline.{outlines}
use Rattle.assign_check.specs.Faults.{faults_of, faults}
use Rattle.assign_check.proofs.clauses.Claims.{ByOutlines, ToOutlines, AllScoped, NoFault, NotSingle}
use Rattle.assign_check.proofs.clauses.ByOutlines.{by_outlines, to_outlines}
use Rattle.assign_check.proofs.counting.Counts.{none_each, each_none}
use Rattle.assign_check.proofs.outlines.TypedScopes.{all_scoped}
use Rattle.assign_check.proofs.faults.NoFault.{no_fault}
use Rattle.assign_check.proofs.faults.NotSingle.{not_single}

singly : ByOutlines → AllScoped → NoFault → (n : ℕ) (u tree : Tree) (t : Table) → tree ≡ numbered n u → WellTyped tree t → faults t tree ≡ [] → SinglyAssigned (core t tree)
singly blocks scoped clean n u tree t is typed none =
    blocks n u tree t is typed (λ o there. clean o (scoped n u tree t is typed o there) (none_each faults_of (outlines t tree) none o there))

without : ToOutlines → AllScoped → NotSingle → (n : ℕ) (u tree : Tree) (t : Table) → tree ≡ numbered n u → WellTyped tree t → SinglyAssigned (core t tree) → faults t tree ≡ []
without blocks scoped clean n u tree t is typed single =
    each_none faults_of (outlines t tree) (λ o there. clean o (scoped n u tree t is typed o there) (blocks n u tree t is typed single o there))

pub singly_assigned : (n : ℕ) (u tree : Tree) (t : Table) → tree ≡ numbered n u → WellTyped tree t → faults t tree ≡ [] → SinglyAssigned (core t tree)
singly_assigned = singly by_outlines all_scoped no_fault

pub without_fault : (n : ℕ) (u tree : Tree) (t : Table) → tree ≡ numbered n u → WellTyped tree t → SinglyAssigned (core t tree) → faults t tree ≡ []
without_fault = without to_outlines all_scoped not_single
