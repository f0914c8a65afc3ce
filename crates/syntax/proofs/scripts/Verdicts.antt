-- A text is refused in one way.
use Rattle.std.proofs.Common.{◌≡◌, ℕ, ◌<◌, ◌≤◌, length, List, [], ◌∷◌, ◌++◌, map, refl, ap, sym, ◌∙◌, inl, inr, arith}
use Rattle.std.specs.Prelude.{◌⊎◌, Ok, Option, Some, None}
use Rattle.lexer.specs.Items.{Lexeme, Item}
use Rattle.lexer.specs.Tokens.{Tokens}
use Rattle.lexer.specs.declared.fault.LexFault.{LexFault}
use Rattle.lexer.proofs.Items.{only_tokens}
use Rattle.language.specs.Tree.{Tree}
use Rattle.syntax.specs.declared.error.ParseFault.{ParseFault}
use Rattle.syntax.specs.declared.error.ParseFault.TheVariants.{Lex, Unexpected, TooNested, TooLong, Memory}
use Rattle.syntax.specs.Answers.{answer_of}
use Rattle.syntax.specs.Endings.{ending}
use Rattle.syntax.specs.Readers.{Read, refused, got, start}
use Rattle.syntax.specs.Reading.{read_script}
use Rattle.syntax.specs.Refusals.{Refuses}
use Rattle.syntax.proofs.scripts.Scripts.{script_complete}
use Rattle.values.specs.Limits.{max_source, max_nesting}

-- the tokens and the fault that ends them, by the two in one list
one_ending : (ts us : List Lexeme) (f g : Option LexFault) → ◌≡◌ {A = List Item} (map Ok ts ++ ending f) (map Ok us ++ ending g) → (ts ≡ us) × (f ≡ g)
one_ending [] [] None None h = (refl, refl)
one_ending [] [] None (Some g) h = absurd (cc)
one_ending [] [] (Some f) None h = absurd (cc)
one_ending [] [] (Some f) (Some g) h = let same : f ≡ g = cc in (refl, ap Some same)
one_ending [] (u ∷ us) None g h = absurd (cc)
one_ending [] (u ∷ us) (Some f) g h = absurd (cc)
one_ending (t ∷ ts) [] f None h = absurd (cc)
one_ending (t ∷ ts) [] f (Some g) h = absurd (cc)
one_ending (t ∷ ts) (u ∷ us) f g h =
    let first : t ≡ u = cc in
    let rest : ◌≡◌ {A = List Item} (map Ok ts ++ ending f) (map Ok us ++ ending g) = cc in
    let more = one_ending ts us f g rest in
    (ap (λ x. x ∷ ts) first ∙ ap (λ xs. u ∷ xs) more.0, more.1)

-- the refusal of a text of n bytes, by what is read of its tokens and the fault behind them
abbrev verdict : Read Tree → Option LexFault → ℕ → Option ParseFault
verdict (refused stop) fault n = Some (answer_of stop fault n)
verdict (got tree u) (Some f) n = Some (Lex f)
verdict (got tree u) None n = None

abbrev Told : List ℕ → ParseFault → Type 0
Told bytes f = (ts : List Lexeme) × (fault : Option LexFault) × Tokens bytes (map Ok ts ++ ending fault) × (verdict (read_script max_nesting (start ts)) fault (length bytes) ≡ Some f)

told : (bytes : List ℕ) (f : ParseFault) → Refuses bytes f → (f ≡ Memory → ⊥) → ((max_source < length bytes) × (f ≡ TooLong (record { from = max_source; to = max_source }))) ⊎ ((length bytes ≤ max_source) × Told bytes f)
told bytes (Lex f) (short, none, inl (ts, lexed, read, first)) other = inr (short, (ts, Some f, lexed, ap (λ r. verdict r (Some f) (length bytes)) read))
told bytes (Lex f) (short, none, inr (ts, tree, lexed, is)) other = inr (short, (ts, Some f, lexed, ap (λ r. verdict r (Some f) (length bytes)) (script_complete max_nesting ts tree is).1))
told bytes (Unexpected s) (short, none, inl (fault, (ts, lexed, read, first))) other = inr (short, (ts, fault, lexed, ap (λ r. verdict r fault (length bytes)) read))
told bytes (Unexpected s) (short, none, inr ((ts, lexed, read, first), is)) other =
    inr (short, (ts, None, lexed, ap (λ r. verdict r None (length bytes)) read ∙ ap (λ x. Some (Unexpected x)) (sym is)))
told bytes (TooNested s) (short, none, fault, (ts, lexed, read, first)) other = inr (short, (ts, fault, lexed, ap (λ r. verdict r fault (length bytes)) read))
told bytes (TooLong s) (long, none, is) other = inl (long, ap TooLong is)
told bytes Memory short other = absurd (other refl)

pub one_refusal : (bytes : List ℕ) (f g : ParseFault) → Refuses bytes f → Refuses bytes g → (f ≡ Memory → ⊥) → (g ≡ Memory → ⊥) → f ≡ g
one_refusal bytes f g one two other other' = cases (told bytes f one other) (told bytes g two other')
  where
    cases : ((max_source < length bytes) × (f ≡ TooLong (record { from = max_source; to = max_source }))) ⊎ ((length bytes ≤ max_source) × Told bytes f)
        → ((max_source < length bytes) × (g ≡ TooLong (record { from = max_source; to = max_source }))) ⊎ ((length bytes ≤ max_source) × Told bytes g) → f ≡ g
    cases (inl (long, is)) (inl (long', is')) = is ∙ sym is'
    cases (inl (long, is)) (inr (short, told')) = absurd (omega arith)
    cases (inr (short, told')) (inl (long, is)) = absurd (omega arith)
    cases (inr (short, (ts, fault, lexed, is))) (inr (short', (us, fault', lexed', is'))) =
        let same = one_ending ts us fault fault' (only_tokens 0 bytes (map Ok ts ++ ending fault) lexed ∙ sym (only_tokens 0 bytes (map Ok us ++ ending fault') lexed')) in
        let both : Some f ≡ Some g = sym is ∙ ap (λ xs. verdict (read_script max_nesting (start xs)) fault (length bytes)) same.0 ∙ ap (λ x. verdict (read_script max_nesting (start us)) x (length bytes)) same.1 ∙ is' in
        cc
