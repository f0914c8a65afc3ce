-- Occurrences of which the first call of a function is looked for, one after another.
use Rattle.std.proofs.Common.{◌≡◌, ℕ, ◌<◌, ◌≤◌, ◌+◌, List, drop, length, get_or, ap, sym, ◌∙◌, Option, Some, None}
use Rattle.std.specs.Prelude.{Bool, true, false, if◌then◌else◌}
use Rattle.std.proofs.lemmas.List.{drop_more, drop_all}
use Rattle.lexer.specs.declared.token.Span.{Span}
use Rattle.language.specs.Table.{Table}
use Rattle.explain_warnings.specs.declared.name_use.NameUse.{NameUse}
use Rattle.explain_warnings.specs.Endless.{first_call}
use Rattle.explain_warnings.specs.Marks.{called_function, is_number}

-- what is left of them, from the next one on
call_split : (t : Table) (p : ℕ) (total : Option Span) (ms : List NameUse) (i : ℕ) (d : NameUse) → total ≡ first_call t p (drop i ms) → i < length ms
    → total ≡ (if is_number p (called_function t (get_or ms i d)) then Some (get_or ms i d).at else first_call t p (drop (i + 1) ms))
call_split t p total ms i d so_far below = so_far ∙ ap (first_call t p) (drop_more ms i d below)

-- the next one does not call it
pub call_more : (t : Table) (p : ℕ) (total : Option Span) (ms : List NameUse) (i : ℕ) (d : NameUse) → total ≡ first_call t p (drop i ms) → i < length ms
    → is_number p (called_function t (get_or ms i d)) ≡ false → total ≡ first_call t p (drop (i + 1) ms)
call_more t p total ms i d so_far below other =
    call_split t p total ms i d so_far below
    ∙ ap (λ (b : Bool). if b then Some (get_or ms i d).at else first_call t p (drop (i + 1) ms)) other

-- the next one calls it
pub call_found : (t : Table) (p : ℕ) (total : Option Span) (ms : List NameUse) (i : ℕ) (d : NameUse) → total ≡ first_call t p (drop i ms) → i < length ms
    → is_number p (called_function t (get_or ms i d)) ≡ true → Some (get_or ms i d).at ≡ total
call_found t p total ms i d so_far below own =
    sym (call_split t p total ms i d so_far below
    ∙ ap (λ (b : Bool). if b then Some (get_or ms i d).at else first_call t p (drop (i + 1) ms)) own)

-- none is left
pub call_none : (t : Table) (p : ℕ) (total : Option Span) (ms : List NameUse) (i : ℕ) → total ≡ first_call t p (drop i ms) → length ms ≤ i → None ≡ total
call_none t p total ms i so_far ended = sym (so_far ∙ ap (first_call t p) (drop_all i ms ended))
