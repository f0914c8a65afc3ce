-- Strings in quotes, by a test of their bytes.
use Rattle.std.proofs.Common.{◌≡◌, ℕ, Bool, true, false, List, [], ◌∷◌, ◌++◌, refl, sym, ap, ◌∙◌, subst, arith}
use Rattle.std.specs.Prelude.{Option, Some, None, ◌&&◌, IsTrue, nat_eq, if◌then◌else◌, is_some}
use Rattle.std.proofs.lemmas.Bool.Decides.{nat_tests}
use borrow.Author.Tests.{eqb-true}
use Rattle.lexer.specs.Bytes.{is_plain, is_empty, escaped_byte}
use Rattle.lexer.specs.Tokens.{Spells, ended, plain, escape, Quotes, IsString}
use Rattle.language.specs.Grammar.{or_itself, spelled_from, behind_quote}
use Rattle.syntax.specs.Formed.{closes, is_quoted}
use Rattle.std.proofs.lemmas.Bool.{and_parts, and_from}

if_false : {A : Type 0} (b : Bool) (x y : A) → b ≡ false → (if b then x else y) ≡ y
if_false b x y is = ap (λ v. if v then x else y) is

if_true : {A : Type 0} (b : Bool) (x y : A) → b ≡ true → (if b then x else y) ≡ x
if_true b x y is = ap (λ v. if v then x else y) is

some_is : {A : Type 0} (o : Option A) (d : A) → o ≡ Some d → is_some o ≡ true
some_is o d e = ap (λ v. is_some v) e

-- what spells a string closes with the quote behind it
closes_quote : {body s : List ℕ} → Spells body s → closes false (body ++ 34 ∷ []) ≡ true
closes_quote ended = refl
closes_quote (plain {c} {bs} {s} is more) =
    let no_quote : nat_eq c 34 ≡ false = grind (arith, nat_tests) in
    let no_slash : nat_eq c 92 ≡ false = grind (arith, nat_tests) in
    if_false (nat_eq c 34) (is_empty (bs ++ 34 ∷ [])) _ no_quote ∙ if_false (nat_eq c 92) (closes true (bs ++ 34 ∷ [])) (is_plain c && closes false (bs ++ 34 ∷ [])) no_slash
    ∙ and_from (is_plain c) (closes false (bs ++ 34 ∷ [])) is (closes_quote more)
closes_quote (escape {c} {d} {bs} {s} is more) = and_from (is_some (escaped_byte c)) (closes false (bs ++ 34 ∷ [])) (some_is (escaped_byte c) d is) (closes_quote more)

-- and spells what is read up to that quote
spells_quote : {body s : List ℕ} → Spells body s → spelled_from false (body ++ 34 ∷ []) ≡ s
spells_quote ended = refl
spells_quote (plain {c} {bs} {s} is more) =
    let no_quote : nat_eq c 34 ≡ false = grind (arith, nat_tests) in
    let no_slash : nat_eq c 92 ≡ false = grind (arith, nat_tests) in
    if_false (nat_eq c 34) [] _ no_quote ∙ if_false (nat_eq c 92) (spelled_from true (bs ++ 34 ∷ [])) (c ∷ spelled_from false (bs ++ 34 ∷ [])) no_slash
    ∙ ap (λ v. c ∷ v) (spells_quote more)
spells_quote (escape {c} {d} {bs} {s} is more) = ap (λ o. or_itself c o ∷ spelled_from false (bs ++ 34 ∷ [])) is ∙ ap (λ v. d ∷ v) (spells_quote more)

pub spelled_as : (text s : List ℕ) → Quotes text s → behind_quote text ≡ s
spelled_as text s q = ap behind_quote q.is ∙ spells_quote q.spells

pub string_quoted : (text : List ℕ) → IsString text → IsTrue (is_quoted text)
string_quoted text (s, q) = ap is_quoted q.is ∙ closes_quote q.spells

-- bytes that close are spelled by what stands before the quote
abbrev Body : List ℕ → Type 0
Body cs = (body : List ℕ) × (s : List ℕ) × (cs ≡ body ++ 34 ∷ []) × Spells body s

no_bytes : (cs : List ℕ) → is_empty cs ≡ true → cs ≡ []
no_bytes [] e = refl
no_bytes (c ∷ cs) e = absurd (cc)

plain_body : (c : ℕ) (cs : List ℕ) → is_plain c ≡ true → Body cs → Body (c ∷ cs)
plain_body c cs is (body, s, eq, more) = (c ∷ body, c ∷ s, ap (λ v. c ∷ v) eq, plain is more)

escape_body : (c d : ℕ) (cs : List ℕ) → escaped_byte c ≡ Some d → Body cs → Body (92 ∷ c ∷ cs)
escape_body c d cs is (body, s, eq, more) = (92 ∷ c ∷ body, d ∷ s, ap (λ v. 92 ∷ c ∷ v) eq, escape is more)

escaped_body : (c : ℕ) (cs : List ℕ) (o : Option ℕ) → escaped_byte c ≡ o → is_some o ≡ true → Body cs → Body (92 ∷ c ∷ cs)
escaped_body c cs None e some more = absurd (cc)
escaped_body c cs (Some d) e some more = escape_body c d cs e more

-- with and without a `\` before them
bodies : (cs : List ℕ) → (closes false cs ≡ true → Body cs) × (closes true cs ≡ true → Body (92 ∷ cs))
bodies [] = (λ e. absurd (cc), λ e. absurd (cc))
bodies (c ∷ cs) = (
  elim (nat_eq c 34) as (λ b. nat_eq c 34 ≡ b → (if b then is_empty cs else (if nat_eq c 92 then closes true cs else is_plain c && closes false cs)) ≡ true → Body (c ∷ cs)) [
    | true ↦ λ quote empty. let is : c ≡ 34 = eqb-true c 34 quote in let none : cs ≡ [] = no_bytes cs empty in ([], [], cc, ended)
    | false ↦ λ no_quote. elim (nat_eq c 92) as (λ b. nat_eq c 92 ≡ b → (if b then closes true cs else is_plain c && closes false cs) ≡ true → Body (c ∷ cs)) [
      | true ↦ λ slash h. let is : c ≡ 92 = eqb-true c 92 slash in subst (λ d. Body (d ∷ cs)) (sym is) ((bodies cs).1 h)
      | false ↦ λ no_slash h. let p = and_parts (is_plain c) (closes false cs) h in plain_body c cs p.0 ((bodies cs).0 p.1)
    ] refl
  ] refl,
  λ e. let p = and_parts (is_some (escaped_byte c)) (closes false cs) e in escaped_body c cs (escaped_byte c) refl p.0 ((bodies cs).0 p.1),
)

pub quoted_string : (text : List ℕ) → IsTrue (is_quoted text) → IsString text
quoted_string [] e = absurd (cc)
quoted_string (c ∷ cs) e =
    let p = and_parts (nat_eq c 34) (closes false cs) e in
    let is : c ≡ 34 = eqb-true c 34 p.0 in
    let b = (bodies cs).0 p.1 in
    (b.1, record { body = b.0; is = subst (λ d. d ∷ cs ≡ 34 ∷ (b.0 ++ 34 ∷ [])) (sym is) (ap (λ v. 34 ∷ v) b.2); spells = b.3 })
