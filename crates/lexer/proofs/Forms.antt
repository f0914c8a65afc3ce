-- What a number token and a string token spell.
use Rattle.std.proofs.Common.{◌≡◌, ℕ, ◌+◌, ◌-◌, ◌<◌, ◌≤◌, Bool, true, false, List, [], ◌∷◌, ◌++◌, take, drop, length, refl, sym, ap, ◌∙◌, subst, arith, length-append, length-drop, append_assoc}
use Rattle.std.specs.Prelude.{Option, Some, None, IsTrue, not, ◌&&◌, codes, if◌then◌else◌, unwrap_or, nat_eq, slice_range}
use Rattle.std.proofs.lemmas.Bool.Decides.{nat_tests}
use Rattle.lexer.specs.declared.token.TokenKind.{TokenKind}
use Rattle.lexer.specs.declared.token.TokenKind.TheVariants.{Number, Text, Name, Int, String, Boolean, If, Else, Foreach, In, Wait, Import, True, False, OpenRound, CloseRound, OpenCurly, CloseCurly, OpenSquare, CloseSquare, Comma, Semicolon, Colon, Assign, Equal, NotEqual, Less, AtMost, Greater, AtLeast, Plus, Minus, Times, Quotient, Remainder, Not, And, Or, At, End}
use Rattle.lexer.specs.declared.scan.ScanResult.{ScanResult}
use Rattle.lexer.specs.declared.scan.ScanResult.TheVariants.{Gap, Token, Fault}
use Rattle.lexer.specs.Bytes.{is_number, escaped_byte}
use Rattle.lexer.specs.Kinds.{kind_of_word, symbol_of_one, symbol_of_two}
use Rattle.lexer.specs.Tokens.{Spells, ended, plain, escape, Quotes, IsString, HasForm, Stands, a_blank, a_line_comment, a_block_comment, a_word, a_number, a_string, a_symbol, a_pair, bad_byte, bad_byte_in_string, bad_byte_in_line, bad_byte_in_block, bad_number, open_string, open_escape, open_comment, bad_escape}
use Rattle.lexer.specs.Reading.{piece}
use Rattle.lexer.proofs.Laws.{other}
use Rattle.std.specs.List.{list_all}
use Rattle.std.specs.Str.{bytes_eq}
use Rattle.std.proofs.lemmas.Bool.{not-true}
use Rattle.lexer.proofs.Pieces.{and_left, and_right, append-nil}
use Rattle.lexer.proofs.Items.{stands_of, empty_text}

-- a kind of many spellings beside the names, or of none
abbrev is_open : TokenKind → Bool
is_open Number = true
is_open Text = true
is_open End = true
is_open _ = false

abbrev is_open_in : Option TokenKind → Bool
is_open_in None = false
is_open_in (Some k) = is_open k

-- `if`s in a row, as a list
abbrev chain : {A : Type 0} → List (Bool × A) → A → A
chain [] d = d
chain (e ∷ es) d = if e.0 then e.1 else chain es d

if_lacks : {A : Type 0} (test : A → Bool) (b : Bool) (x y : A) → test x ≡ false → test y ≡ false → test (if b then x else y) ≡ false
if_lacks test true x y p q = p
if_lacks test false x y p q = q

chain_lacks : {A : Type 0} (test : A → Bool) (es : List (Bool × A)) (d : A) → list_all (λ e. not (test e.1)) es ≡ true → test d ≡ false → test (chain es d) ≡ false
chain_lacks test [] d all p = p
chain_lacks test (e ∷ es) d all p =
    if_lacks test e.0 e.1 (chain es d) (not-true (test e.1) (and_left (not (test e.1)) (list_all (λ e. not (test e.1)) es) all))
    (chain_lacks test es d (and_right (not (test e.1)) (list_all (λ e. not (test e.1)) es) all) p)

abbrev keyword_chain : List ℕ → List (Bool × TokenKind)
keyword_chain w = (bytes_eq w (codes "int"), Int) ∷ (bytes_eq w (codes "string"), String) ∷ (bytes_eq w (codes "boolean"), Boolean) ∷ (bytes_eq w (codes "if"), If) ∷ (bytes_eq w (codes "else"), Else) ∷ (bytes_eq w (codes "foreach"), Foreach) ∷ (bytes_eq w (codes "in"), In) ∷ (bytes_eq w (codes "wait"), Wait) ∷ (bytes_eq w (codes "import"), Import) ∷ (bytes_eq w (codes "true"), True) ∷ (bytes_eq w (codes "false"), False) ∷ []

word_kind : (w : List ℕ) → is_open (kind_of_word w) ≡ false
word_kind w = chain_lacks is_open (keyword_chain w) Name refl refl

abbrev symbol_chain : ℕ → List (Bool × Option TokenKind)
symbol_chain c = (nat_eq c 40, Some OpenRound) ∷ (nat_eq c 41, Some CloseRound) ∷ (nat_eq c 123, Some OpenCurly) ∷ (nat_eq c 125, Some CloseCurly) ∷ (nat_eq c 91, Some OpenSquare) ∷ (nat_eq c 93, Some CloseSquare) ∷ (nat_eq c 44, Some Comma) ∷ (nat_eq c 59, Some Semicolon) ∷ (nat_eq c 58, Some Colon) ∷ (nat_eq c 61, Some Assign) ∷ (nat_eq c 60, Some Less) ∷ (nat_eq c 62, Some Greater) ∷ (nat_eq c 43, Some Plus) ∷ (nat_eq c 45, Some Minus) ∷ (nat_eq c 42, Some Times) ∷ (nat_eq c 33, Some Not) ∷ (nat_eq c 64, Some At) ∷ []

one_kind : (c : ℕ) → is_open_in (symbol_of_one c) ≡ false
one_kind c = chain_lacks is_open_in (symbol_chain c) None refl refl

abbrev pair_chain : ℕ → ℕ → List (Bool × Option TokenKind)
pair_chain c d = (nat_eq c 61 && nat_eq d 61, Some Equal) ∷ (nat_eq c 33 && nat_eq d 61, Some NotEqual) ∷ (nat_eq c 60 && nat_eq d 61, Some AtMost) ∷ (nat_eq c 62 && nat_eq d 61, Some AtLeast) ∷ (nat_eq c 37 && nat_eq d 47, Some Quotient) ∷ (nat_eq c 37 && nat_eq d 37, Some Remainder) ∷ (nat_eq c 38 && nat_eq d 38, Some And) ∷ (nat_eq c 124 && nat_eq d 124, Some Or) ∷ []

two_kind : (c d : ℕ) → is_open_in (symbol_of_two c d) ≡ false
two_kind c d = chain_lacks is_open_in (pair_chain c d) None refl refl

closed_form : (k : TokenKind) (w : List ℕ) → is_open k ≡ false → HasForm k w
closed_form k w e = record {
  number = λ is. let wrong : true ≡ false = sym (ap is_open is) ∙ e in cc;
  string = λ is. let wrong : true ≡ false = sym (ap is_open is) ∙ e in cc;
  no_end = λ is. let wrong : true ≡ false = sym (ap is_open is) ∙ e in cc;
}

take_front : (w rest : List ℕ) → take (length w) (w ++ rest) ≡ w
take_front [] rest = refl
take_front (c ∷ w) rest = ap (λ v. c ∷ v) (take_front w rest)

number_form : (w : List ℕ) → IsTrue (is_number w) → HasForm Number w
number_form w is = record { number = λ e. is; string = λ e. cc; no_end = λ e. cc }

string_form : (w : List ℕ) → IsString w → HasForm Text w
string_form w is = record { number = λ e. cc; string = λ e. is; no_end = λ e. cc }

-- the token of a piece
abbrev FormOf : List ℕ → ScanResult → Type 0
FormOf bs (Gap n) = Unit {0}
FormOf bs (Token k n) = HasForm k (take n bs)
FormOf bs (Fault f) = Unit {0}

form_at : {bs : List ℕ} {p q : ScanResult} (cs : List ℕ) → bs ≡ cs → p ≡ q → FormOf cs q → FormOf bs p
form_at {bs} {p} {q} cs eq is h = subst (FormOf bs) (sym is) (subst (λ v. FormOf v q) (sym eq) h)

stands_form : (at : ℕ) (bs : List ℕ) (p : ScanResult) → Stands at bs p → FormOf bs p
stands_form at bs p (a_blank c rest eq blank is) = subst (FormOf bs) (sym is) tt
stands_form at bs p (a_line_comment body rest eq all ends is) = subst (FormOf bs) (sym is) tt
stands_form at bs p (a_block_comment body rest eq all none is) = subst (FormOf bs) (sym is) tt
stands_form at bs p (a_word c cs rest eq letter all ends is) = subst (FormOf bs) (sym is) (closed_form _ _ (word_kind (c ∷ cs)))
stands_form at bs p (a_number c cs rest eq number ends is) =
    let size : length (c ∷ cs) ≡ 1 + length cs = omega arith in
    let front : take (1 + length cs) (c ∷ (cs ++ rest)) ≡ c ∷ cs = ap (λ m. take m (c ∷ (cs ++ rest))) (sym size) ∙ take_front (c ∷ cs) rest in
    form_at (c ∷ (cs ++ rest)) eq is (subst (HasForm Number) (sym front) (number_form (c ∷ cs) number))
stands_form at bs p (a_string body spelled rest eq spells is) =
    let text = 34 ∷ (body ++ 34 ∷ []) in
    let whole : 34 ∷ (body ++ 34 ∷ rest) ≡ text ++ rest = ap (λ v. 34 ∷ v) (sym (append_assoc body (34 ∷ []) rest)) in
    let size : length text ≡ 2 + length body = omega (arith, length-append body (34 ∷ [])) in
    let front : take (2 + length body) (text ++ rest) ≡ text = ap (λ m. take m (text ++ rest)) (sym size) ∙ take_front text rest in
    form_at (text ++ rest) (eq ∙ whole) is (subst (HasForm Text) (sym front) (string_form text (spelled, record { body = body; is = refl; spells = spells })))
stands_form at bs p (a_symbol c k rest eq one no_pair is) = subst (FormOf bs) (sym is) (closed_form k _ (sym (ap is_open_in one) ∙ one_kind c))
stands_form at bs p (a_pair c d k rest eq two is) = subst (FormOf bs) (sym is) (closed_form k _ (sym (ap is_open_in two) ∙ two_kind c d))
stands_form at bs p (bad_byte c rest eq no_blank no_word no_quote one no_pair no_comment is) = subst (FormOf bs) (sym is) tt
stands_form at bs p (bad_byte_in_string body spelled c rest eq spells bad is) = subst (FormOf bs) (sym is) tt
stands_form at bs p (bad_byte_in_line body c rest eq all bad is) = subst (FormOf bs) (sym is) tt
stands_form at bs p (bad_byte_in_block body c rest eq all none bad is) = subst (FormOf bs) (sym is) tt
stands_form at bs p (bad_number c cs rest eq digit all ends none is) = subst (FormOf bs) (sym is) tt
stands_form at bs p (open_string body spelled rest eq spells ends is) = subst (FormOf bs) (sym is) tt
stands_form at bs p (open_escape body spelled rest eq spells ends is) = subst (FormOf bs) (sym is) tt
stands_form at bs p (open_comment body eq all none is) = subst (FormOf bs) (sym is) tt
stands_form at bs p (bad_escape body spelled c rest eq spells none no_break is) = subst (FormOf bs) (sym is) tt

pub token_form : (at n : ℕ) (kind : TokenKind) (bs : List ℕ) → 0 < length bs → Token kind n ≡ piece at bs → HasForm kind (take n bs)
token_form at n kind bs some e = stands_form at bs (Token kind n) (stands_of at bs (Token kind n) some (sym e))

-- what the inside of a string spells; whether a `\` that begins an escape stands before it
abbrev pub unescaped : Bool → List ℕ → List ℕ
unescaped escaped [] = []
unescaped true (c ∷ bs) = unwrap_or (escaped_byte c) c ∷ unescaped false bs
unescaped false (c ∷ bs) = if nat_eq c 92 then unescaped true bs else c ∷ unescaped false bs

unescaped_is : {body spelled : List ℕ} → Spells body spelled → unescaped false body ≡ spelled
unescaped_is ended = refl
unescaped_is (plain {c} {bs} {s} is more) =
    let no_slash : nat_eq c 92 ≡ false = grind (arith, nat_tests) in
    other (nat_eq c 92) (unescaped true bs) (c ∷ unescaped false bs) no_slash ∙ ap (λ v. c ∷ v) (unescaped_is more)
unescaped_is (escape {c} {d} {bs} {s} is more) = ap (λ o. unwrap_or o c ∷ unescaped false bs) is ∙ ap (λ v. d ∷ v) (unescaped_is more)

pub string_length : (text : List ℕ) → IsString text → 2 ≤ length text
string_length text (s, q) = let e = ap length q.is in omega (arith, length-append q.body (34 ∷ []))

inside_is : (text body : List ℕ) → text ≡ 34 ∷ (body ++ 34 ∷ []) → slice_range text 1 (length text - 1) ≡ body
inside_is text body e =
    let size : length body ≡ length (34 ∷ (body ++ 34 ∷ [])) - 1 - 1 = omega (arith, length-append body (34 ∷ [])) in
    ap (λ v. slice_range v 1 (length v - 1)) e ∙ ap (λ m. take m (body ++ 34 ∷ [])) (sym size) ∙ take_front body (34 ∷ [])

pub content_is : (text : List ℕ) → IsString text → Quotes text (unescaped false (slice_range text 1 (length text - 1)))
content_is text (s, q) =
    let same : unescaped false (slice_range text 1 (length text - 1)) ≡ s = ap (unescaped false) (inside_is text q.body q.is) ∙ unescaped_is q.spells in
    subst (Quotes text) (sym same) q

-- at the end of the inside nothing is left to add
pub content_whole : (items inside : List ℕ) (i : ℕ) (escaped : Bool) → length inside ≤ i → items ++ unescaped escaped (drop i inside) ≡ items
content_whole items inside i escaped le =
    let none : drop i inside ≡ [] = empty_text (drop i inside) (omega (arith, length-drop i inside)) in
    ap (λ v. items ++ unescaped escaped v) none ∙ append-nil items
