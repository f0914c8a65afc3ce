-- The tokens of a text, and what ends them.
use Rattle.std.proofs.Common.{◌≡◌, ℕ, List, [], ◌∷◌, ◌++◌, true, map, take, refl, ap, sym, ◌∙◌, subst}
use Rattle.std.specs.Prelude.{Ok, Err, Option, Some, None}
use Rattle.lexer.specs.Items.{Lexeme, Item, span}
use Rattle.lexer.specs.Tokens.{Tokens, TokensFrom, at_end, after_gap, a_token, a_fault, HasForm}
use Rattle.lexer.specs.declared.fault.LexFault.{LexFault}
use Rattle.lexer.specs.declared.token.TokenKind.{TokenKind}
use Rattle.lexer.specs.declared.token.TokenKind.TheVariants as Kind
use Rattle.language.specs.Rules.{Place}
use Rattle.syntax.specs.Endings.{ending}
use Rattle.syntax.specs.Formed.{has_form}
use Rattle.syntax.specs.Held.{Begins, tokens_of}
use Rattle.syntax.specs.Readers.{start}
use Rattle.syntax.proofs.spellings.Strings.{string_quoted}

pub form_of : (k : TokenKind) (text : List ℕ) → HasForm k text → has_form k text ≡ true
form_of Kind.Number text form = form.number refl
form_of Kind.Text text form = string_quoted text (form.string refl)
form_of _ text form = refl

-- the fault among some items
abbrev pub fault_in : List Item → Option LexFault
fault_in [] = None
fault_in (Ok t ∷ items) = fault_in items
fault_in (Err f ∷ items) = Some f

pub fault_in-ended : (ts : List Lexeme) (fault : Option LexFault) → fault_in (map Ok ts ++ ending fault) ≡ fault
fault_in-ended [] None = refl
fault_in-ended [] (Some f) = refl
fault_in-ended (t ∷ ts) fault = fault_in-ended ts fault

-- a fault is the last item
whole : {at : ℕ} {bytes : List ℕ} {items : List Item} → TokensFrom at bytes items → items ≡ map Ok (tokens_of items) ++ ending (fault_in items)
whole at_end = refl
whole (after_gap n stands rest) = whole rest
whole {at} {bytes} (a_token k n stands rest) = ap (λ (more : List Item). Ok (record { kind = k; span = span at n; text = take n bytes }) ∷ more) (whole rest)
whole (a_fault f stands) = refl

pub begins : (bytes : List ℕ) (items : List Item) (s : Place) → Tokens bytes items → s ≡ start (tokens_of items) → Begins bytes s
begins bytes items s lexed is = (tokens_of items, fault_in items, subst (Tokens bytes) (whole lexed) lexed, is)

-- what ends the rest of the items ends the text
pub ends_as : (bytes : List ℕ) (items rest : List Item) (end : Option LexFault) → ((xs : List Item) → Tokens bytes xs → xs ≡ items) → fault_in rest ≡ fault_in items → fault_in rest ≡ end
    → (ts : List Lexeme) (fault : Option LexFault) → Tokens bytes (map Ok ts ++ ending fault) → end ≡ fault
ends_as bytes items rest end only same is ts fault lexed = sym is ∙ same ∙ ap fault_in (sym (only (map Ok ts ++ ending fault) lexed)) ∙ fault_in-ended ts fault
