-- How the parts of a script are numbered, each when it was read.
use Rattle.std.proofs.Common.{◌≡◌, ℕ, ◌+◌, ◌*◌, ◌<◌, ◌≤◌, length, List, [], ◌∷◌, ◌++◌, map, ap, sym, ◌∙◌, arith}
use Rattle.std.specs.Prelude.{◌^◌, sum_by, Result, Ok, Option}
use Rattle.std.proofs.lemmas.List.{length-map, length-append}
use Rattle.std.proofs.lemmas.List.Sums.{sum_by-append, sum_by-cons}
use Rattle.lexer.specs.Items.{Lexeme}
use Rattle.lexer.specs.Reading.{items_from}
use Rattle.lexer.specs.Tokens.{Tokens}
use Rattle.lexer.specs.declared.fault.LexFault.{LexFault}
use Rattle.lexer.proofs.Items.{only_tokens, spans_rise}
use Rattle.language.specs.Tree.{Part}
use Rattle.language.specs.Numbered.{numbered, numbered_part, part_size}
use Rattle.language.specs.Rules.{Place}
use Rattle.syntax_trees.proofs.Numbering.{numbered_each-push}
use Rattle.syntax.specs.Endings.{ending}
use Rattle.syntax.specs.Held.{Begins}
use Rattle.syntax.specs.Readers.{got}
use Rattle.syntax.specs.Reading.{read_part}
use Rattle.syntax.proofs.Sizes.{part_fits, rising}
use Rattle.syntax.proofs.scripts.Scripts.{part_law}
use Rattle.values.specs.Limits.{max_source}

-- a part has at most two numbers for each token that it takes
pub part_within : (depth : ℕ) (s : Place) (p : Part) (u : Place) → read_part depth s ≡ got p u → part_size p + 2 * length u.rest ≤ 2 * length s.rest
part_within depth s p u read = ((part_fits depth).fits s p u ((part_law depth).sound s p u read).0).fits

-- the parts before are numbered, and this one behind them
pub part_pushed : {X : Type 0} (view : X → Part) (ps : List Part) (p : Part) (before after : List X) (one : X) (n : ℕ)
    → map view before ≡ numbered 1 ps → n ≡ 1 + sum_by part_size ps → map view after ≡ map view before ++ view one ∷ [] → view one ≡ numbered_part n p
    → map view after ≡ numbered 1 (ps ++ p ∷ [])
part_pushed view ps p before after one n done next more is =
    more ∙ ap (λ xs. xs ++ view one ∷ []) done ∙ ap (λ q. numbered 1 ps ++ q ∷ []) (is ∙ ap (λ m. numbered_part m p) next)
    ∙ sym (numbered_each-push numbered_part part_size 1 ps p)

pub part_counted : (ps : List Part) (p : Part) (n : ℕ) → n ≡ 1 + sum_by part_size ps → n + part_size p ≡ 1 + sum_by part_size (ps ++ p ∷ [])
part_counted ps p n next =
    let all = sum_by-append part_size ps (p ∷ []) in
    let one = sum_by-cons part_size p [] in
    omega arith

-- the tokens before the end or the first fault are at most as many as the bytes
begun_tokens : (bytes : List ℕ) (ts : List Lexeme) (fault : Option LexFault) → Tokens bytes (map Ok ts ++ ending fault) → length ts ≤ length bytes
begun_tokens bytes ts fault lexed =
    let all = rising 0 (length bytes) (items_from 0 bytes) (spans_rise bytes) (omega arith) in
    let same : length (items_from 0 bytes) ≡ length (map Ok ts ++ ending fault) = sym (ap length (only_tokens 0 bytes (map Ok ts ++ ending fault) lexed)) in
    let both : length (map Ok ts ++ ending fault) ≡ length (map Ok ts) + length (ending fault) = length-append (map Ok ts) (ending fault) in
    let tokens : length (map {A = Lexeme} {B = Result Lexeme LexFault} Ok ts) ≡ length ts = length-map ts Ok in
    omega arith

-- so the numbers of a text stay below 2^32
pub begun_short : (bytes : List ℕ) (s : Place) → length bytes ≤ max_source → Begins bytes s → 2 * length s.rest + 1 < 2 ^ 32
begun_short bytes s short begun =
    let few = begun_tokens bytes begun.0 begun.1 begun.2 in
    let all : length s.rest ≡ length begun.0 = ap (λ p. length p.rest) begun.3 in
    omega arith
