-- Each rule that a script breaks has its fault, so none is broken before the one that is answered.
use Rattle.std.specs.Prelude.{◌≡◌, ℕ, false, [], ◌++◌, Some, None, refl}
use Rattle.std.specs.List.{flat_map}
use Rattle.std.proofs.Common.{inl, subst, sym, ap, ◌∙◌}
use Rattle.lexer.specs.declared.token.Span.{Span}
use Rattle.language.specs.Members.{◌∈◌}
use Rattle.language.specs.Numbered.{numbered}
use Rattle.language.specs.Resolved.{core}
use Rattle.language.specs.Single.{SinglyAssigned}
use Rattle.language.specs.Table.{Table}
use Rattle.language.specs.Tree.{Tree}
use Rattle.language.specs.Typing.{WellTyped}
use Rattle.language.proofs.Members.{to_left, to_right}
use Rattle.assign_check.specs.declared.fault.AssignFault.{AssignFault}
use Rattle.assign_check.specs.declared.fault.AssignFault.TheVariants.{AssignedTwice, PartlyAssigned, NeverAssigned, OuterInLoop, WholeAndElements, OutputUnassigned, Memory}
use Rattle.assign_check.specs.Outline.{Outline, outlines}
use Rattle.assign_check.specs.Faults.{way_faults, split_faults, variable_faults, uses_in, declared_in, faults_of, faults, precedes, first_fault}
use Rattle.assign_check.specs.Breaks.{IsTwice, IsOuter, BreaksIn, Breaks, IsTyped}
use Rattle.assign_check.proofs.outlines.Scoped.{IsScoped}
use Rattle.assign_check.proofs.outlines.TypedScopes.{all_scoped}
use Rattle.assign_check.proofs.Earliest.{first_there, first_before_all}
use Rattle.assign_check.proofs.Law.{singly_assigned, without_fault}
use Rattle.assign_check.proofs.Named.{breaks}
use Rattle.assign_check.proofs.through.FoundWays.{twice_found, body_loop_found, partly_found}
use Rattle.assign_check.proofs.faults.Found.{in_flat, never_there, output_there, both_there}

twice_there : {o : Outline} {at : Span} → IsTwice o at → AssignedTwice at ∈ way_faults None [] o
twice_there {o} {at} w = subst (λ (z : Span). AssignedTwice z ∈ way_faults None [] o) w.place (twice_found None [] refl refl w.is_named w.reached (inl w.assigned))

outer_there : {o : Outline} {at : Span} → IsScoped o → IsOuter o at → OuterInLoop at ∈ way_faults None [] o
outer_there {o} {at} s w =
    subst (λ (z : Span). OuterInLoop z ∈ way_faults None [] o) w.place (body_loop_found [] s (λ v i. elim i [ ]) w.there.there w.there.has w.inside w.is_named w.outside)

found_in : (o : Outline) (f : AssignFault) → IsScoped o → BreaksIn o f → f ∈ faults_of o
found_in o (AssignedTwice at) s w =
    to_left (way_faults None [] o ++ split_faults None o) (flat_map (variable_faults (uses_in o)) (declared_in o)) (to_left (way_faults None [] o) (split_faults None o) (twice_there w))
found_in o (PartlyAssigned at) s w =
    to_left (way_faults None [] o ++ split_faults None o) (flat_map (variable_faults (uses_in o)) (declared_in o))
    (to_right (way_faults None [] o) (split_faults None o) (partly_found w))
found_in o (NeverAssigned at) s w = to_right (way_faults None [] o ++ split_faults None o) (flat_map (variable_faults (uses_in o)) (declared_in o)) (never_there w)
found_in o (OuterInLoop at) s w =
    to_left (way_faults None [] o ++ split_faults None o) (flat_map (variable_faults (uses_in o)) (declared_in o)) (to_left (way_faults None [] o) (split_faults None o) (outer_there s w))
found_in o (WholeAndElements at) s w = to_right (way_faults None [] o ++ split_faults None o) (flat_map (variable_faults (uses_in o)) (declared_in o)) (both_there w)
found_in o (OutputUnassigned at) s w = to_right (way_faults None [] o ++ split_faults None o) (flat_map (variable_faults (uses_in o)) (declared_in o)) (output_there w)
found_in o Memory s w = absurd w

pub found : (n : ℕ) (u tree : Tree) (t : Table) (f : AssignFault) → tree ≡ numbered n u → WellTyped tree t → Breaks t tree f → f ∈ faults t tree
found n u tree t f is typed w = in_flat faults_of (outlines t tree) w.block f w.there (found_in w.block f (all_scoped n u tree t is typed w.block w.there) w.broken)

pub none_before : (n : ℕ) (u tree : Tree) (t : Table) (f g : AssignFault) → tree ≡ numbered n u → WellTyped tree t → first_fault (faults t tree) ≡ Some f → Breaks t tree g → precedes g f ≡ false
none_before n u tree t f g is typed answered w = first_before_all (faults t tree) f g answered (found n u tree t g is typed w)

-- WHAT THE ANSWER SAYS OF A TYPED SCRIPT

pub is_single : (t : Table) (tree : Tree) → faults t tree ≡ [] → IsTyped t tree → SinglyAssigned (core t tree)
is_single t tree none w = singly_assigned w.first w.plain tree t w.is_numbered w.typed none

pub is_not_single : (t : Table) (tree : Tree) (f : AssignFault) → first_fault (faults t tree) ≡ Some f → IsTyped t tree → ¬ SinglyAssigned (core t tree)
is_not_single t tree f is w single =
    let nothing : None ≡ Some f = sym (ap first_fault (without_fault w.first w.plain tree t w.is_numbered w.typed single)) ∙ is in
    absurd (cc (nothing))

pub is_broken : (t : Table) (tree : Tree) (f : AssignFault) → first_fault (faults t tree) ≡ Some f → IsTyped t tree → Breaks t tree f
is_broken t tree f is w = breaks w.first w.plain tree t f w.is_numbered w.typed (first_there (faults t tree) f is)

pub is_first : (t : Table) (tree : Tree) (f : AssignFault) → first_fault (faults t tree) ≡ Some f → IsTyped t tree → (g : AssignFault) → Breaks t tree g → precedes g f ≡ false
is_first t tree f is w g broken = none_before w.first w.plain tree t f g w.is_numbered w.typed is broken
