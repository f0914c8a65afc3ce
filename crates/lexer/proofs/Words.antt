-- A word can only be a keyword of its length.
use Rattle.std.proofs.Common.{◌≡◌, ◌≢◌, ℕ, Bool, true, false, List, [], ◌∷◌, length, refl, sym, ap, ap₂, ◌∙◌, arith}
use Rattle.std.specs.Prelude.{nat_eq, codes, if◌then◌else◌}
use Rattle.std.specs.Str.{bytes_eq}
use Rattle.std.proofs.lemmas.Bool.Decides.{nat_tests}
use Rattle.std.proofs.lemmas.Slice.Eq.{bytes_eq-Decides}
use Rattle.lexer.specs.declared.token.TokenKind.{TokenKind}
use Rattle.lexer.specs.declared.token.TokenKind.TheVariants.{Name, Int, String, Boolean, If, Else, Foreach, In, Wait, Import, True, False}
use Rattle.lexer.specs.Kinds.{keywords, keyword_among, kind_of_word}
use Rattle.lexer.proofs.Laws.{other}

-- the words of a length
abbrev of_length : ℕ → List (List ℕ × TokenKind) → List (List ℕ × TokenKind)
of_length n [] = []
of_length n ((k, kind) ∷ ks) = if nat_eq (length k) n then (k, kind) ∷ of_length n ks else of_length n ks

apart_of : (m n : ℕ) → nat_eq m n ≡ false → m ≢ n
apart_of m n e same = grind (arith, nat_tests)

differ : (w k : List ℕ) → length k ≢ length w → bytes_eq w k ≡ false
differ w k apart = by (bytes_eq w k) refl
  where
    by : (x : Bool) → bytes_eq w k ≡ x → bytes_eq w k ≡ false
    by false e = e
    by true e = absurd (apart (sym (ap length ((bytes_eq-Decides w k).0 e))))

by_length : (w : List ℕ) (ks : List (List ℕ × TokenKind)) → keyword_among w ks ≡ keyword_among w (of_length (length w) ks)
by_length w [] = refl
by_length w ((k, kind) ∷ ks) = by (by_length w ks) (nat_eq (length k) (length w)) refl
  where
    by : keyword_among w ks ≡ keyword_among w (of_length (length w) ks) → (x : Bool) → nat_eq (length k) (length w) ≡ x
        → (if bytes_eq w k then kind else keyword_among w ks) ≡ keyword_among w (if x then (k, kind) ∷ of_length (length w) ks else of_length (length w) ks)
    by behind true e = ap (λ z. if bytes_eq w k then kind else z) behind
    by behind false e = other (bytes_eq w k) kind _ (differ w k (apart_of _ _ e)) ∙ behind

word_of_length : (w : List ℕ) (n : ℕ) → length w ≡ n → kind_of_word w ≡ keyword_among w (of_length n keywords)
word_of_length w n size = by_length w keywords ∙ ap (λ m. keyword_among w (of_length m keywords)) size

pub of_two : (w : List ℕ) → length w ≡ 2 → kind_of_word w ≡ (if bytes_eq w (codes "if") then If else (if bytes_eq w (codes "in") then In else Name))
of_two w size = word_of_length w 2 size

pub of_three : (w : List ℕ) → length w ≡ 3 → kind_of_word w ≡ (if bytes_eq w (codes "int") then Int else Name)
of_three w size = word_of_length w 3 size

pub of_four : (w : List ℕ) → length w ≡ 4 → kind_of_word w ≡ (if bytes_eq w (codes "else") then Else else (if bytes_eq w (codes "wait") then Wait else (if bytes_eq w (codes "true") then True else Name)))
of_four w size = word_of_length w 4 size

pub of_five : (w : List ℕ) → length w ≡ 5 → kind_of_word w ≡ (if bytes_eq w (codes "false") then False else Name)
of_five w size = word_of_length w 5 size

pub of_six : (w : List ℕ) → length w ≡ 6 → kind_of_word w ≡ (if bytes_eq w (codes "string") then String else (if bytes_eq w (codes "import") then Import else Name))
of_six w size = word_of_length w 6 size

pub of_seven : (w : List ℕ) → length w ≡ 7 → kind_of_word w ≡ (if bytes_eq w (codes "boolean") then Boolean else (if bytes_eq w (codes "foreach") then Foreach else Name))
of_seven w size = word_of_length w 7 size

-- the choice between two kinds, over what is equal
pub first_of : (w : List ℕ) (kind : TokenKind) {k k' : List ℕ} {other other' x : TokenKind} → x ≡ (if bytes_eq w k' then kind else other') → k' ≡ k → other' ≡ other
    → x ≡ (if bytes_eq w k then kind else other)
first_of w kind is key behind = is ∙ ap₂ (λ z o. if bytes_eq w z then kind else o) key behind

-- a length that no word of a list has
abbrev is_apart : ℕ → List (List ℕ × TokenKind) → Type 0
is_apart n [] = Unit {0}
is_apart n ((k, kind) ∷ ks) = (n ≢ length k) × is_apart n ks

none_of : (w : List ℕ) (ks : List (List ℕ × TokenKind)) → is_apart (length w) ks → keyword_among w ks ≡ Name
none_of w [] all = refl
none_of w ((k, kind) ∷ ks) all = other (bytes_eq w k) kind _ (differ w k (λ e. all.0 (sym e))) ∙ none_of w ks all.1

pub no_keyword : (w : List ℕ) → length w ≢ 2 → length w ≢ 3 → length w ≢ 4 → length w ≢ 5 → length w ≢ 6 → length w ≢ 7 → kind_of_word w ≡ Name
no_keyword w no_two no_three no_four no_five no_six no_seven = none_of w keywords (no_three, (no_six, (no_seven, (no_two, (no_four, (no_seven, (no_two, (no_four, (no_six, (no_four, (no_five, tt)))))))))))
