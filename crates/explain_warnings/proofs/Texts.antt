-- Texts and what is said of them.
use Rattle.std.proofs.Common.{◌≡◌, ℕ, List, [], Some, Option, None, refl, sym, ap, ◌∙◌, subst, inl, inr}
use Rattle.std.specs.Prelude.{◌≢◌, Vec, Result, Ok, Err, IfOk, IsErr, IsOkAnd, MatchOption}
use Rattle.std.proofs.lemmas.Option.{none-some}
use Rattle.std.proofs.lemmas.Result.{IfOk-from_err, IfOk-weaker}
use Rattle.lexer.specs.declared.token.Span.{Span}
use Rattle.language.specs.Numbered.{numbered}
use Rattle.language.specs.Reads.{Reads}
use Rattle.language.specs.Table.{Table}
use Rattle.language.specs.Tree.{Tree}
use Rattle.language.specs.Typing.{WellTyped}
use Rattle.syntax.specs.Refusals.{Refuses, place_of}
use Rattle.syntax.specs.declared.error.ParseFault.{ParseFault}
use Rattle.syntax.specs.declared.error.ParseFault.TheVariants.{Lex, Unexpected, TooNested, TooLong, Memory}
use Rattle.syntax.proofs.scripts.Trees.{one_text}
use Rattle.types.specs.Faults.{span_of}
use Rattle.types.specs.declared.fault.TypeFault.{TypeFault}
use Rattle.types.specs.declared.fault.TypeFault.TheVariants as Typing
use Rattle.explain_warnings.specs.declared.warning.Warning.{Warning}
use Rattle.explain_warnings.specs.Warnings.{warnings, AreWarnings, IsUntyped}

unread : (src : List ℕ) (f : ParseFault) (at : Span) → Refuses src f → place_of f ≡ Some at → IsUntyped src
unread src (Lex f) at refused place tree t reads typed = refused.1 tree reads
unread src (Unexpected s) at refused place tree t reads typed = refused.1 tree reads
unread src (TooNested s) at refused place tree t reads typed = refused.1 tree reads
unread src (TooLong s) at refused place tree t reads typed = refused.1 tree reads
unread src Memory at refused place tree t reads typed = none-some at place

ill_typed : (src : List ℕ) (tree : Tree) (f : TypeFault) (at : Span) → Reads src tree → (f ≢ Typing.Memory → (t : Table) → ¬ WellTyped tree t)
    → span_of f ≡ Some at → IsUntyped src
ill_typed src tree f at reads none place other t also typed =
    none (λ same. none-some at (sym (ap span_of same) ∙ place)) t (subst (λ u. WellTyped u t) (one_text src other tree also reads) typed)

-- nothing is said where a text is refused at a place
silent : {A E : Type 0} (src : List ℕ) (at : Option Span) (r : Result (Vec Warning A) E) → MatchOption at (IsErr r) (λ _. IsOkAnd r (λ found. found.items ≡ []))
    → ((s : Span) → at ≡ Some s → IsUntyped src) → IfOk r (λ found. AreWarnings src found.items)
silent src None r fails untyped = IfOk-from_err r (λ found. AreWarnings src found.items) fails
silent src (Some s) (Ok found) none untyped = inr (untyped s refl, none)
silent src (Some s) (Err e) none untyped = tt

-- the text has no tree
pub silent_unread : {A E : Type 0} (src : List ℕ) (f : ParseFault) (at : Option Span) (r : Result (Vec Warning A) E) → Refuses src f → at ≡ place_of f
    → MatchOption at (IsErr r) (λ _. IsOkAnd r (λ found. found.items ≡ [])) → IfOk r (λ found. AreWarnings src found.items)
silent_unread src f at r refused is none = silent src at r none (λ s place. unread src f s refused (sym is ∙ place))

-- its tree is not well typed
pub silent_untyped : {A E : Type 0} (src : List ℕ) (tree : Tree) (f : TypeFault) (at : Option Span) (r : Result (Vec Warning A) E) → Reads src tree
    → (f ≢ Typing.Memory → (t : Table) → ¬ WellTyped tree t) → at ≡ span_of f
    → MatchOption at (IsErr r) (λ _. IsOkAnd r (λ found. found.items ≡ [])) → IfOk r (λ found. AreWarnings src found.items)
silent_untyped src tree f at r reads untyped is none = silent src at r none (λ s place. ill_typed src tree f s reads untyped (sym is ∙ place))

-- its tree is well typed
pub said_of_tree : {A E : Type 0} (src : List ℕ) (tree : Tree) (t : Table) (r : Result (Vec Warning A) E) → Reads src tree
    → ((n : ℕ) (plain : Tree) → tree ≡ numbered n plain → WellTyped tree t) → IfOk r (λ found. found.items ≡ warnings t tree)
    → IfOk r (λ found. AreWarnings src found.items)
said_of_tree src tree t r reads typed said =
    IfOk-weaker r _ _ (λ found are. inl (record { tree = tree; table = t; reads = reads; typed = typed 1 reads.parsed reads.is_numbered; are = are })) said
