-- Each fault of a script names a rule that the script breaks at its place.
use Rattle.std.proofs.Common.{◌≡◌, inl, inr, ℕ, [], ◌++◌}
use Rattle.std.specs.Prelude.{None}
use Rattle.std.specs.List.{flat_map}
use Rattle.language.specs.Members.{◌∈◌}
use Rattle.language.specs.Numbered.{numbered}
use Rattle.language.specs.Table.{Table}
use Rattle.language.specs.Tree.{Tree}
use Rattle.language.specs.Typing.{WellTyped}
use Rattle.language.proofs.Members.{either}
use Rattle.assign_check.specs.declared.fault.AssignFault.{AssignFault}
use Rattle.assign_check.specs.Outline.{Outline, outlines}
use Rattle.assign_check.specs.Faults.{way_faults, split_faults, variable_faults, uses_in, declared_in, faults_of, faults}
use Rattle.assign_check.specs.Breaks.{BreaksIn, Breaks}
use Rattle.assign_check.proofs.outlines.Scoped.{IsScoped}
use Rattle.assign_check.proofs.outlines.TypedScopes.{all_scoped}
use Rattle.assign_check.proofs.faults.Broken.{came, variable_broken}
use Rattle.assign_check.proofs.through.BrokenWays.{on_way_broken, split_is_broken}

broken_in : (o : Outline) (f : AssignFault) → IsScoped o → f ∈ faults_of o → BreaksIn o f
broken_in o f scoped i = elim (either (way_faults None [] o ++ split_faults None o) (flat_map (variable_faults (uses_in o)) (declared_in o)) i) [
  | inl j ↦ elim (either (way_faults None [] o) (split_faults None o) j) [
    | inl k ↦ on_way_broken o f scoped k
    | inr k ↦ split_is_broken o f scoped k
  ]
  | inr j ↦ (let d = came (variable_faults (uses_in o)) (declared_in o) f j in variable_broken o d.from f d.there d.made)
]

pub breaks : (n : ℕ) (u tree : Tree) (t : Table) (f : AssignFault) → tree ≡ numbered n u → WellTyped tree t → f ∈ faults t tree → Breaks t tree f
breaks n u tree t f is typed i =
    let o = came faults_of (outlines t tree) f i in
    record { block = o.from; there = o.there; broken = broken_in o.from f (all_scoped n u tree t is typed o.from o.there) o.made }
