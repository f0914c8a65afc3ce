-- What is known of a text that was read as a tree, and checked.
use Rattle.std.proofs.Common.{◌≡◌, ◌∙◌, ap, ℕ, List, ◌∷◌, ◌++◌, length, Some, inl, inr, append_assoc}
use Rattle.std.specs.Prelude.{◌≢◌, min}
use Rattle.lexer.specs.declared.token.Span.{Span}
use Rattle.language.specs.Numbered.{numbered}
use Rattle.language.specs.Reads.{Reads}
use Rattle.language.specs.Resolved.{core}
use Rattle.language.specs.Single.{SinglyAssigned}
use Rattle.language.specs.Table.{Table}
use Rattle.language.specs.Tree.{Tree}
use Rattle.language.specs.Typing.{WellTyped}
use Rattle.syntax.specs.Refusals as parsing
use Rattle.syntax.specs.declared.error.ParseFault.{ParseFault}
use Rattle.types.specs.declared.fault.TypeFault.{TypeFault}
use Rattle.types.specs.declared.fault.TypeFault.TheVariants as Typing
use Rattle.types.specs.Breaks as typing
use Rattle.types.specs.Faults as type_faults
use Rattle.assign_check.specs.declared.fault.AssignFault.{AssignFault}
use Rattle.assign_check.specs.declared.fault.AssignFault.TheVariants as Assign
use Rattle.assign_check.specs.Breaks as assigning
use Rattle.assign_check.specs.Places as assign_places
use Rattle.explain_text.specs.Positions.{IsPosition, place_text}
use Rattle.explain_refusals.specs.Verdicts.{IsScript, IsRefusedAt, BeginsAt, Explains}
use Rattle.explain_text.specs.declared.position.Position.{Position}

-- a numbered tree for which this holds
abbrev pub IfNumbered : Tree → Type 0 → Type 0
IfNumbered tree P = (n : ℕ) (u : Tree) → tree ≡ numbered n u → P

is_typed : (src : List ℕ) (tree : Tree) (t : Table) → Reads src tree → IfNumbered tree (WellTyped tree t) → assigning.IsTyped t tree
is_typed src tree t reads typed = record { first = 1; plain = reads.parsed; is_numbered = reads.is_numbered; typed = typed 1 reads.parsed reads.is_numbered }

pub accepted : (src : List ℕ) (tree : Tree) (t : Table) → Reads src tree → IfNumbered tree (WellTyped tree t)
    → (assigning.IsTyped t tree → SinglyAssigned (core t tree)) → IsScript src
accepted src tree t reads typed single =
    record { tree = tree; table = t; reads = reads; typed = typed 1 reads.parsed reads.is_numbered; single = single (is_typed src tree t reads typed) }

pub begins : (file src words rest : List ℕ) (at : Span) (p : Position) → IsPosition src (min at.from (length src)) p
    → words ≡ place_text file p ++ 58 ∷ 32 ∷ rest → BeginsAt file src at words
begins file src words rest at p position is = record { position = p; is_position = position; rest = rest; is = is }

-- words that begin with a place still do so if others follow
pub begins_more : (file src words more all : List ℕ) (at : Span) → BeginsAt file src at words → all ≡ words ++ more → BeginsAt file src at all
begins_more file src words more all at begun is =
    record {
      position = begun.position;
      is_position = begun.is_position;
      rest = begun.rest ++ more;
      is = is ∙ ap (λ ws. ws ++ more) begun.is ∙ append_assoc (place_text file begun.position) (58 ∷ 32 ∷ begun.rest) more;
    }

-- words on a place where the text is refused
pub explains : (file src words : List ℕ) (at : Span) → IsRefusedAt src at → BeginsAt file src at words → Explains file src words
explains file src words at refused begins = record { at = at; refused = refused; begins = begins }

pub unread : (src : List ℕ) (f : ParseFault) (at : Span) → parsing.Refuses src f → parsing.place_of f ≡ Some at → IsRefusedAt src at
unread src f at refused place = inl (record { fault = f; refused = refused; place = place })

has_place : (f : TypeFault) (at : Span) → type_faults.span_of f ≡ Some at → f ≢ Typing.Memory
has_place Typing.Memory at place = absurd (cc)
has_place (Typing.Unknown p) at place = λ same. absurd (cc)
has_place (Typing.Declared p) at place = λ same. absurd (cc)
has_place (Typing.Mismatch p) at place = λ same. absurd (cc)
has_place (Typing.WrongCount p) at place = λ same. absurd (cc)
has_place (Typing.BadFormat p) at place = λ same. absurd (cc)
has_place (Typing.NotAFunction p) at place = λ same. absurd (cc)

pub ill_typed : (src : List ℕ) (tree : Tree) (f : TypeFault) (at : Span) → Reads src tree
    → (f ≢ Typing.Memory → typing.Breaks tree f) → (f ≢ Typing.Memory → (t : Table) → ¬ WellTyped tree t) → type_faults.span_of f ≡ Some at → IsRefusedAt src at
ill_typed src tree f at reads broken none place =
    let fault = has_place f at place in
    inr (inl (record { tree = tree; fault = f; reads = reads; ill_typed = none fault; broken = broken fault; place = place }))

assign_place : (f : AssignFault) (at : Span) → assign_places.span_of f ≡ Some at → f ≢ Assign.Memory
assign_place Assign.Memory at place = absurd (cc)
assign_place (Assign.AssignedTwice p) at place = λ same. absurd (cc)
assign_place (Assign.PartlyAssigned p) at place = λ same. absurd (cc)
assign_place (Assign.NeverAssigned p) at place = λ same. absurd (cc)
assign_place (Assign.OuterInLoop p) at place = λ same. absurd (cc)
assign_place (Assign.WholeAndElements p) at place = λ same. absurd (cc)
assign_place (Assign.OutputUnassigned p) at place = λ same. absurd (cc)

pub not_single : (src : List ℕ) (tree : Tree) (t : Table) (f : AssignFault) (at : Span) → Reads src tree → IfNumbered tree (WellTyped tree t)
    → (f ≢ Assign.Memory → assigning.IsTyped t tree → ¬ SinglyAssigned (core t tree)) → (f ≢ Assign.Memory → assigning.IsTyped t tree → assigning.Breaks t tree f)
    → assign_places.span_of f ≡ Some at → IsRefusedAt src at
not_single src tree t f at reads typed single broken place =
    let fault = assign_place f at place in
    let well = is_typed src tree t reads typed in
    inr (inr (record { tree = tree; table = t; fault = f; reads = reads; typed = well.typed; not_single = single fault well; broken = broken fault well; place = place }))
