-- The unary by its depth, and by what its parts read at that depth.
use Rattle.std.proofs.Common.{◌≡◌, ℕ, zero, suc, ◌-◌, ◌<◌, length, List, [], ◌∷◌, ◌++◌, Bool, true, false, refl, ap, ap₂, sym, ◌∙◌, arith}
use mathlib.Core.Path.{fun_ext}
use Rattle.language.specs.declared.tree.Prefix.{Prefix}
use Rattle.language.specs.Tree.{Expression, Form, prefixed, element, call, expressions_of}
use Rattle.lexer.specs.Items.{Lexeme}
use Rattle.lexer.specs.declared.token.TokenKind.{TokenKind}
use Rattle.lexer.specs.declared.token.TokenKind.TheVariants as Kind
use Rattle.language.specs.Rules.{Place}
use Rattle.syntax.specs.declared.grammar.stop.ParseStop.{ParseStop}
use Rattle.syntax.specs.declared.grammar.stop.ParseStop.TheVariants.{AtEnd, Unexpected, TooNested, Memory}
use Rattle.language.specs.declared.tree.Level.{Level}
use Rattle.language.specs.Kinds.{repeats}
use Rattle.language.specs.Grammar.{spans}
use Rattle.syntax.specs.Readers.{Read, refused, got, Reader, ◌>>=◌, at, second, cond, the, ◌∗◌, ◌▸◌, ◌◂◌, made, tight, stop_at, many_over, many, once, perhaps, commas, round, square, bracket}
use Rattle.syntax.specs.Answers.{Fails}
use Rattle.syntax.specs.Reading.{at_operator, read_operator, operands, read_name, expr_over, arguments_over, read_unary, read_expr, read_exprs, read_form, read_prefixed, read_literal, read_test, read_named, read_index, read_arguments}
use Rattle.syntax.proofs.combining.Combine.{opened_deep, opened_zero, tight_stays}

pub bind_assoc : {A B C : Type 0} (x : Read A) (f : A → Place → Read B) (h : B → Place → Read C) → ((x >>= f) >>= h) ≡ (x >>= λ a v. f a v >>= h)
bind_assoc (refused stop) f h = refl
bind_assoc (got a v) f h = refl

cond_same : {A : Type 0} (b : Bool) (x x' y y' : Read A) → x ≡ x' → y ≡ y' → cond b x y ≡ cond b x' y'
cond_same b x x' y y' p q = ap₂ (cond b) p q

pub bracket_zero : {A : Type 0} (k l : TokenKind) (r : ℕ → Reader A) (s : Place) → bracket k l r zero s ≡ tight k s
bracket_zero k l r s = opened_zero k (λ d v. (r d ◂ the l) v) s

pub bracket_deep : {A : Type 0} (k l : TokenKind) (r : ℕ → Reader A) (depth : ℕ) (s : Place) → bracket k l r (suc depth) s ≡ (the k ▸ (r depth ◂ the l)) s
bracket_deep k l r depth s = opened_deep k depth (λ d v. (r d ◂ the l) v) s

pub prefix_zero : (k : TokenKind) (p : Prefix) (s : Place) → read_prefixed k p zero s ≡ made (λ s x u. spans s (prefixed p x) u) (tight k) s
unfolding read_prefixed
prefix_zero k p s = opened_zero k (λ d v. read_unary d v >>= λ x u. got (spans s (prefixed p x) u) u) s ∙ sym (tight_stays (the k s) (λ x u. got (spans s (prefixed p x) u) u))

pub prefix_deep : (k : TokenKind) (p : Prefix) (depth : ℕ) (s : Place) → read_prefixed k p (suc depth) s ≡ made (λ s x u. spans s (prefixed p x) u) (the k ▸ read_unary depth) s
unfolding read_prefixed
prefix_deep k p depth s =
    opened_deep k depth (λ d v. read_unary d v >>= λ x u. got (spans s (prefixed p x) u) u) s
    ∙ sym (bind_assoc (the k s) (λ t v. read_unary depth v) (λ x u. got (spans s (prefixed p x) u) u))

index_zero : read_index zero ≡ tight Kind.OpenSquare
unfolding read_index
index_zero = fun_ext (λ s. bracket_zero Kind.OpenSquare Kind.CloseSquare read_expr s)

index_deep : (depth : ℕ) → read_index (suc depth) ≡ square (expr_over (read_unary depth))
unfolding read_index read_expr
index_deep depth = fun_ext (λ s. bracket_deep Kind.OpenSquare Kind.CloseSquare read_expr depth s)

arguments_zero : read_arguments zero ≡ tight Kind.OpenRound
unfolding read_arguments
arguments_zero = fun_ext (λ s. bracket_zero Kind.OpenRound Kind.CloseRound (λ d. perhaps (at Kind.CloseRound) (read_exprs d)) s)

arguments_deep : (depth : ℕ) → read_arguments (suc depth) ≡ round (arguments_over (expr_over (read_unary depth)))
unfolding read_arguments read_exprs read_expr
arguments_deep depth = fun_ext (λ s. bracket_deep Kind.OpenRound Kind.CloseRound (λ d. perhaps (at Kind.CloseRound) (read_exprs d)) depth s)

test_zero : (s : Place) → read_test zero s ≡ tight Kind.OpenRound s
unfolding read_test
test_zero s = bracket_zero Kind.OpenRound Kind.CloseRound read_expr s

test_deep : (depth : ℕ) (s : Place) → read_test (suc depth) s ≡ round (expr_over (read_unary depth)) s
unfolding read_test read_expr
test_deep depth s = bracket_deep Kind.OpenRound Kind.CloseRound read_expr depth s

form_parts : (n m p i a : Reader Expression) (n' m' p' i' a' : Reader Expression) (s : Place) (x1 x2 x3 x4 x5 : Read Expression)
    → n s ≡ n' s → m s ≡ m' s → p s ≡ p' s → i s ≡ i' s → a s ≡ a' s
    → cond (at Kind.Not s) (n s) (cond (at Kind.Minus s) (m s) (cond (at Kind.Number s) x1 (cond (at Kind.Text s) x2 (cond (at Kind.True s) x3 (cond (at Kind.False s) x4 (cond (at Kind.OpenRound s) (p s) (cond (at Kind.Name s) (cond (second Kind.OpenSquare s) (i s) (cond (second Kind.OpenRound s) (a s) x5)) (refused (stop_at s)))))))))
    ≡ cond (at Kind.Not s) (n' s) (cond (at Kind.Minus s) (m' s) (cond (at Kind.Number s) x1 (cond (at Kind.Text s) x2 (cond (at Kind.True s) x3 (cond (at Kind.False s) x4 (cond (at Kind.OpenRound s) (p' s) (cond (at Kind.Name s) (cond (second Kind.OpenSquare s) (i' s) (cond (second Kind.OpenRound s) (a' s) x5)) (refused (stop_at s)))))))))
form_parts n m p i a n' m' p' i' a' s x1 x2 x3 x4 x5 hn hm hp hi ha = cc

pub form_same : (depth : ℕ) (s : Place) → read_form depth s ≡ read_unary depth s
unfolding read_form read_unary read_literal read_named
form_same zero s =
    form_parts (read_prefixed Kind.Not Prefix.Not zero) (read_prefixed Kind.Minus Prefix.Negative zero) (read_test zero)
    (made (λ s x u. spans s (element x.0 x.1) u) (read_name ∗ read_index zero)) (made (λ s x u. spans s (call x.0 (expressions_of x.1)) u) (read_name ∗ read_arguments zero))
    (made (λ s x u. spans s (prefixed Prefix.Not x) u) (tight Kind.Not)) (made (λ s x u. spans s (prefixed Prefix.Negative x) u) (tight Kind.Minus)) (tight Kind.OpenRound)
    (made (λ s x u. spans s (element x.0 x.1) u) (read_name ∗ tight Kind.OpenSquare)) (made (λ s x u. spans s (call x.0 (expressions_of x.1)) u) (read_name ∗ tight Kind.OpenRound))
    s _ _ _ _ _ (prefix_zero Kind.Not Prefix.Not s) (prefix_zero Kind.Minus Prefix.Negative s) (test_zero s)
    (ap (λ r. made (λ s x u. spans s (element x.0 x.1) u) (read_name ∗ r) s) index_zero) (ap (λ r. made (λ s x u. spans s (call x.0 (expressions_of x.1)) u) (read_name ∗ r) s) arguments_zero)
form_same (suc depth) s =
    form_parts (read_prefixed Kind.Not Prefix.Not (suc depth)) (read_prefixed Kind.Minus Prefix.Negative (suc depth)) (read_test (suc depth))
    (made (λ s x u. spans s (element x.0 x.1) u) (read_name ∗ read_index (suc depth))) (made (λ s x u. spans s (call x.0 (expressions_of x.1)) u) (read_name ∗ read_arguments (suc depth)))
    (made (λ s x u. spans s (prefixed Prefix.Not x) u) (the Kind.Not ▸ read_unary depth)) (made (λ s x u. spans s (prefixed Prefix.Negative x) u) (the Kind.Minus ▸ read_unary depth)) (round (expr_over (read_unary depth)))
    (made (λ s x u. spans s (element x.0 x.1) u) (read_name ∗ square (expr_over (read_unary depth)))) (made (λ s x u. spans s (call x.0 (expressions_of x.1)) u) (read_name ∗ round (arguments_over (expr_over (read_unary depth)))))
    s _ _ _ _ _ (prefix_deep Kind.Not Prefix.Not depth s) (prefix_deep Kind.Minus Prefix.Negative depth s) (test_deep depth s)
    (ap (λ r. made (λ s x u. spans s (element x.0 x.1) u) (read_name ∗ r) s) (index_deep depth)) (ap (λ r. made (λ s x u. spans s (call x.0 (expressions_of x.1)) u) (read_name ∗ r) s) (arguments_deep depth))

-- the steps of a repetition
pub many_stop : {A : Type 0} (test : Place → Bool) (r : Reader A) (n : ℕ) (xs : List A) (s : Place) → 0 < n → test s ≡ false → many_over test r n xs s ≡ got xs s
unfolding many_over
many_stop test r zero xs s pos fails = absurd (omega arith)
many_stop test r (suc n) xs s pos fails = ap (λ b. cond b (r s >>= λ a u. many_over test r n (xs ++ a ∷ []) u) (got xs s)) fails

pub many_more : {A : Type 0} (test : Place → Bool) (r : Reader A) (n : ℕ) (xs : List A) (s : Place) (a : A) (u : Place) → 0 < n → test s ≡ true → r s ≡ got a u
    → many_over test r n xs s ≡ many_over test r (n - 1) (xs ++ a ∷ []) u
unfolding many_over
many_more test r zero xs s a u pos holds read = absurd (omega arith)
many_more test r (suc n) xs s a u pos holds read =
    let less : n ≡ suc n - 1 = omega arith in
    ap (λ b. cond b (r s >>= λ a u. many_over test r n (xs ++ a ∷ []) u) (got xs s)) holds
    ∙ ap (λ z. z >>= λ a u. many_over test r n (xs ++ a ∷ []) u) read ∙ ap (λ m. many_over test r m (xs ++ a ∷ []) u) less

pub many_fails : {A : Type 0} (test : Place → Bool) (r : Reader A) (n : ℕ) (xs : List A) (s : Place) (stop : ParseStop) → 0 < n → test s ≡ true → r s ≡ refused stop → many_over test r n xs s ≡ refused stop
unfolding many_over
many_fails test r zero xs s stop pos holds read = absurd (omega arith)
many_fails test r (suc n) xs s stop pos holds read =
    ap (λ b. cond b (r s >>= λ a u. many_over test r n (xs ++ a ∷ []) u) (got xs s)) holds
    ∙ ap (λ z. z >>= λ a u. many_over test r n (xs ++ a ∷ []) u) read

-- what stands before a repetition
pub commas_begin : {A : Type 0} (r : Reader A) (s u : Place) (a : A) (xs : List A) → r s ≡ got a u → xs ≡ a ∷ []
    → commas r s ≡ many_over (at Kind.Comma) (the Kind.Comma ▸ r) (suc (length u.rest)) xs u
commas_begin r s u a xs read is =
    ap (λ z. z >>= λ a w. many_over (at Kind.Comma) (the Kind.Comma ▸ r) (suc (length w.rest)) (a ∷ []) w) read
    ∙ ap (λ ys. many_over (at Kind.Comma) (the Kind.Comma ▸ r) (suc (length u.rest)) ys u) (sym is)

pub drop_got : {A B : Type 0} (r : Reader A) (q : Reader B) (s : Place) (a : A) (v : Place) (b : B) (u : Place) → r s ≡ got a v → q v ≡ got b u → (r ▸ q) s ≡ got b u
drop_got r q s a v b u one two = ap (λ z. z >>= λ x w. q w) one ∙ two

pub drop_fails : {A B : Type 0} (r : Reader A) (q : Reader B) (s : Place) (a : A) (v : Place) (stop : ParseStop) → r s ≡ got a v → q v ≡ refused stop → (r ▸ q) s ≡ refused stop
drop_fails r q s a v stop one two = ap (λ z. z >>= λ x w. q w) one ∙ two

pub drop_none : {A B : Type 0} (r : Reader A) (q : Reader B) (s : Place) (stop : ParseStop) → r s ≡ refused stop → (r ▸ q) s ≡ refused stop
drop_none r q s stop one = ap (λ z. z >>= λ x w. q w) one

-- what fails by one reading fails by another that fails where it does
pub fails_on : {A B : Type 0} (f : ParseStop) (one : Read A) (other : Read B) → ((stop : ParseStop) → one ≡ refused stop → other ≡ refused stop) → Fails f one → Fails f other
fails_on AtEnd one other h fails = h AtEnd fails
fails_on (Unexpected s) one other h fails = h (Unexpected s) fails
fails_on (TooNested s) one other h fails = h (TooNested s) fails
fails_on Memory one other h fails = tt

pub both_got : {A B : Type 0} (r : Reader A) (q : Reader B) (s : Place) (a : A) (v : Place) (b : B) (u : Place) → r s ≡ got a v → q v ≡ got b u → (r ∗ q) s ≡ got (a, b) u
both_got r q s a v b u one two = ap (λ z. z >>= λ x w. q w >>= λ y t. got (x, y) t) one ∙ ap (λ z. z >>= λ y t. got (a, y) t) two

pub both_fails : {A B : Type 0} (r : Reader A) (q : Reader B) (s : Place) (a : A) (v : Place) (stop : ParseStop) → r s ≡ got a v → q v ≡ refused stop → (r ∗ q) s ≡ refused stop
both_fails r q s a v stop one two = ap (λ z. z >>= λ x w. q w >>= λ y t. got (x, y) t) one ∙ ap (λ z. z >>= λ y t. got (a, y) t) two

-- the operands of a chain
pub operands_begin : (l : Level) (operand : Reader Expression) (s : Place) → repeats l ≡ true
    → operands l operand [] s ≡ many_over (at_operator l) (read_operator l ∗ operand) (suc (length s.rest)) [] s
operands_begin l operand s is = ap (λ b. cond b (many (at_operator l) (read_operator l ∗ operand) []) (once (at_operator l) (read_operator l ∗ operand) []) s) is

pub operands_none : (l : Level) (operand : Reader Expression) (s : Place) → at_operator l s ≡ false → operands l operand [] s ≡ got [] s
operands_none l operand s none = cases (repeats l)
  where
    cases : (b : Bool) → cond b (many (at_operator l) (read_operator l ∗ operand) []) (once (at_operator l) (read_operator l ∗ operand) []) s ≡ got [] s
    cases true = many_stop (at_operator l) (read_operator l ∗ operand) (suc (length s.rest)) [] s (omega arith) none
    cases false = ap (λ b. cond b ((read_operator l ∗ operand) s >>= λ a u. got (a ∷ []) u) (got [] s)) none

pub literal_got : (k : TokenKind) (form : Lexeme → Form) (s : Place) (t : Lexeme) (u : Place) → the k s ≡ got t u → read_literal k form s ≡ got (spans s (form t) u) u
unfolding read_literal
literal_got k form s t u read = ap (λ z. z >>= λ t u. got (spans s (form t) u) u) read
