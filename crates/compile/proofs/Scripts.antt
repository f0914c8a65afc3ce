-- What is known of a text that was read as a tree, and checked.
use Rattle.std.proofs.Common.{◌≡◌, inl, inr, ℕ, List, [], Some, None, sym, ap, ◌∙◌}
use Rattle.std.specs.Prelude.{◌≢◌}
use Rattle.language.specs.Numbered.{numbered}
use Rattle.language.specs.Reads.{Reads}
use Rattle.language.specs.Table.{Table}
use Rattle.language.specs.Tree.{Tree}
use Rattle.language.specs.Typing.{WellTyped}
use Rattle.types.specs.declared.fault.TypeFault.{TypeFault}
use Rattle.types.specs.declared.fault.TypeFault.TheVariants as Typing
use Rattle.types.specs.Breaks as typing
use Rattle.types.specs.Outcomes.{refused}
use Rattle.types.specs.Scripts.{checked}
use Rattle.assign_check.specs.declared.fault.AssignFault.{AssignFault}
use Rattle.assign_check.specs.declared.fault.AssignFault.TheVariants as Assign
use Rattle.assign_check.specs.Faults.{faults, first_fault}
use Rattle.assign_check.proofs.Earliest.{first_there}
use Rattle.assign_check.proofs.Law.{singly_assigned, without_fault}
use Rattle.assign_check.proofs.Named.{breaks}
use Rattle.syntax.specs.Refusals.{Refuses}
use Rattle.syntax.specs.declared.error.ParseFault.{ParseFault}
use Rattle.syntax.specs.declared.error.ParseFault.TheVariants as Parse
use Rattle.compile.specs.Accepted.{IsAccepted, IsIllTyped, IsNotSingle, IsUnfit, fault_of_text, fault_of_types, fault_of_assignments}

-- a numbered tree for which this holds
abbrev IfNumbered : Tree → Type 0 → Type 0
IfNumbered tree P = (n : ℕ) (u : Tree) → tree ≡ numbered n u → P

typed_as_read : (src : List ℕ) (tree : Tree) (t : Table) → Reads src tree → IfNumbered tree (WellTyped tree t) → WellTyped tree t
typed_as_read src tree t reads typed = typed 1 reads.parsed reads.is_numbered

pub accepted : (src : List ℕ) (tree : Tree) (t : Table) → Reads src tree → IfNumbered tree (WellTyped tree t) → faults t tree ≡ [] → IsAccepted src t tree
accepted src tree t reads typed none =
    let well = typed_as_read src tree t reads typed in
    record { reads = reads; typed = well; single = singly_assigned 1 reads.parsed tree t reads.is_numbered well none }

ill_typed : (src : List ℕ) (tree : Tree) (f : TypeFault) → Reads src tree → f ≢ Typing.Memory → (f ≢ Typing.Memory → checked tree ≡ refused f) → (f ≢ Typing.Memory → typing.Breaks tree f) → (f ≢ Typing.Memory → (t : Table) → ¬ WellTyped tree t)
    → IsIllTyped src f
ill_typed src tree f reads fault is broken none = record { tree = tree; reads = reads; is = is fault; broken = broken fault; ill_typed = none fault }

pub refused_by_types : (src : List ℕ) (tree : Tree) (f : TypeFault) → Reads src tree → (f ≢ Typing.Memory → checked tree ≡ refused f) → (f ≢ Typing.Memory → typing.Breaks tree f) → (f ≢ Typing.Memory → (t : Table) → ¬ WellTyped tree t)
    → IsUnfit src (fault_of_types f)
refused_by_types src tree (Typing.Unknown at) reads is broken none = ill_typed src tree (Typing.Unknown at) reads (λ same. absurd (cc)) is broken none
refused_by_types src tree (Typing.Declared at) reads is broken none = ill_typed src tree (Typing.Declared at) reads (λ same. absurd (cc)) is broken none
refused_by_types src tree (Typing.Mismatch at) reads is broken none = ill_typed src tree (Typing.Mismatch at) reads (λ same. absurd (cc)) is broken none
refused_by_types src tree (Typing.WrongCount at) reads is broken none = ill_typed src tree (Typing.WrongCount at) reads (λ same. absurd (cc)) is broken none
refused_by_types src tree (Typing.BadFormat at) reads is broken none = ill_typed src tree (Typing.BadFormat at) reads (λ same. absurd (cc)) is broken none
refused_by_types src tree (Typing.NotAFunction at) reads is broken none = ill_typed src tree (Typing.NotAFunction at) reads (λ same. absurd (cc)) is broken none
refused_by_types src tree Typing.Memory reads is broken none = inr (tree, reads)

no_first : (t : Table) (tree : Tree) (f : AssignFault) → first_fault (faults t tree) ≡ Some f → faults t tree ≡ [] → ⊥
no_first t tree f is none = let nothing : None ≡ Some f = sym (ap first_fault none) ∙ is in absurd (cc)

not_single : (src : List ℕ) (tree : Tree) (t : Table) (f : AssignFault) → Reads src tree → IfNumbered tree (WellTyped tree t) → f ≢ Assign.Memory → (f ≢ Assign.Memory → first_fault (faults t tree) ≡ Some f)
    → IsNotSingle src f
not_single src tree t f reads typed fault is =
    let well = typed_as_read src tree t reads typed in
    record {
      tree = tree;
      table = t;
      reads = reads;
      typed = well;
      is = is fault;
      broken = breaks 1 reads.parsed tree t f reads.is_numbered well (first_there (faults t tree) f (is fault));
      not_single = λ single. no_first t tree f (is fault) (without_fault 1 reads.parsed tree t reads.is_numbered well single);
    }

pub refused_by_assignments : (src : List ℕ) (tree : Tree) (t : Table) (f : AssignFault) → Reads src tree → IfNumbered tree (WellTyped tree t) → (f ≢ Assign.Memory → first_fault (faults t tree) ≡ Some f)
    → IsUnfit src (fault_of_assignments f)
refused_by_assignments src tree t (Assign.AssignedTwice at) reads typed is = not_single src tree t (Assign.AssignedTwice at) reads typed (λ same. absurd (cc)) is
refused_by_assignments src tree t (Assign.PartlyAssigned at) reads typed is = not_single src tree t (Assign.PartlyAssigned at) reads typed (λ same. absurd (cc)) is
refused_by_assignments src tree t (Assign.NeverAssigned at) reads typed is = not_single src tree t (Assign.NeverAssigned at) reads typed (λ same. absurd (cc)) is
refused_by_assignments src tree t (Assign.OuterInLoop at) reads typed is = not_single src tree t (Assign.OuterInLoop at) reads typed (λ same. absurd (cc)) is
refused_by_assignments src tree t (Assign.WholeAndElements at) reads typed is = not_single src tree t (Assign.WholeAndElements at) reads typed (λ same. absurd (cc)) is
refused_by_assignments src tree t (Assign.OutputUnassigned at) reads typed is = not_single src tree t (Assign.OutputUnassigned at) reads typed (λ same. absurd (cc)) is
refused_by_assignments src tree t Assign.Memory reads typed is = inr (tree, reads)

pub refused_by_text : (src : List ℕ) (f : ParseFault) → Refuses src f → IsUnfit src (fault_of_text f)
refused_by_text src (Parse.Lex f) refuses = refuses
refused_by_text src (Parse.Unexpected at) refuses = refuses
refused_by_text src (Parse.TooNested at) refuses = refuses
refused_by_text src (Parse.TooLong at) refuses = refuses
refused_by_text src Parse.Memory refuses = inl refuses
