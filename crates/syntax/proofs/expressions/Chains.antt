-- What a chain is, by what its parts are.
use Rattle.std.proofs.Common.{◌≡◌, ℕ, zero, suc, length, List, [], ◌∷◌, ◌++◌, map, Bool, true, false, refl, ap, ap₂, sym, ◌∙◌, subst, append_assoc}
use Rattle.std.proofs.lemmas.List.{append-nil}
use Rattle.language.specs.declared.tree.Operator.{Operator}
use Rattle.language.specs.declared.tree.Level.{Level}
use Rattle.language.specs.declared.tree.Prefix.{Prefix}
use Rattle.language.specs.Tree.{Word, Expression, expression, prefixed, call, chain, expressions_of}
use Rattle.language.specs.Kinds.{repeats}
use Rattle.language.specs.Rules.{Place}
use Rattle.language.specs.Grammar.{spans}
use Rattle.lexer.specs.declared.token.Span.{Span}
use Rattle.lexer.specs.declared.token.TokenKind.{TokenKind}
use Rattle.syntax.specs.declared.grammar.stop.ParseStop.{ParseStop}
use Rattle.syntax.specs.Readers.{refused, got, Reader, ◌>>=◌, cond, choose, ◌∗◌, many_over, many, once, opened}
use Rattle.syntax.specs.Reading.{at_operator, read_operator, operands, read_name, read_unary, read_form, read_prefixed, read_arguments, read_application, read_operand, read_operands, joined, read_link}
use Rattle.syntax.proofs.combining.Combine.{bind_got, got_value}
use Rattle.syntax.proofs.expressions.Forms.{both_got, both_fails, operands_none, form_same}

-- a repetition only appends
many_extends : {A : Type 0} (test : Place → Bool) (r : Reader A) (n : ℕ) (xs : List A) (s : Place) (ys : List A) (u : Place) → many_over test r n xs s ≡ got ys u
    → (zs : List A) × (ys ≡ xs ++ zs)
unfolding many_over
many_extends test r zero xs s ys u h = absurd (cc)
many_extends {A} test r (suc n) xs s ys u h = cases (λ a v. many_extends test r n (xs ++ a ∷ []) v ys u) (test s) h
  where
    cases : ((a : A) (v : Place) → many_over test r n (xs ++ a ∷ []) v ≡ got ys u → (zs : List A) × (ys ≡ (xs ++ a ∷ []) ++ zs)) → (b : Bool)
        → cond b (r s >>= λ a v. many_over test r n (xs ++ a ∷ []) v) (got xs s) ≡ got ys u → (zs : List A) × (ys ≡ xs ++ zs)
    cases more true g =
        let p = bind_got (r s) (λ a v. many_over test r n (xs ++ a ∷ []) v) ys u g in
        let q = more p.0 p.1 p.3 in
        (p.0 ∷ q.0, q.1 ∙ append_assoc xs (p.0 ∷ []) q.0)
    cases more false g = ([], sym (got_value xs ys s u g) ∙ sym (append-nil xs))

-- one more where one begins
abbrev Some : {A : Type 0} → List A → Type 0
Some {A} ps = (p : A) × (qs : List A) × (ps ≡ p ∷ qs)

many_some : {A : Type 0} (test : Place → Bool) (r : Reader A) (n : ℕ) (s : Place) (ys : List A) (u : Place) → test s ≡ true → many_over test r n [] s ≡ got ys u → Some ys
unfolding many_over
many_some test r zero s ys u holds h = absurd (cc)
many_some test r (suc n) s ys u holds h =
    let g = sym (ap (λ b. cond b (r s >>= λ a v. many_over test r n (a ∷ []) v) (got [] s)) holds) ∙ h in
    let p = bind_got (r s) (λ a v. many_over test r n (a ∷ []) v) ys u g in
    let q = many_extends test r n (p.0 ∷ []) p.1 ys u p.3 in
    (p.0, q.0, q.1)

once_some : {A : Type 0} (test : Place → Bool) (r : Reader A) (s : Place) (ys : List A) (u : Place) → test s ≡ true → once test r [] s ≡ got ys u → Some ys
once_some test r s ys u holds h =
    let g = sym (ap (λ b. cond b (r s >>= λ a v. got (a ∷ []) v) (got [] s)) holds) ∙ h in
    let p = bind_got (r s) (λ a v. got (a ∷ []) v) ys u g in
    (p.0, [], sym (got_value (p.0 ∷ []) ys p.1 u p.3))

operands_some : (l : Level) (operand : Reader Expression) (s : Place) (ys : List (Operator × Expression)) (u : Place) → at_operator l s ≡ true → operands l operand [] s ≡ got ys u → Some ys
operands_some l operand s ys u holds h = cases (repeats l) h
  where
    cases : (b : Bool) → cond b (many (at_operator l) (read_operator l ∗ operand) []) (once (at_operator l) (read_operator l ∗ operand) []) s ≡ got ys u → Some ys
    cases true g = many_some (at_operator l) (read_operator l ∗ operand) (suc (length s.rest)) s ys u holds g
    cases false g = once_some (at_operator l) (read_operator l ∗ operand) s ys u holds g

joined_some : (first : Span) (x : Expression) (ps : List (Operator × Expression)) (u : Place) → Some ps
    → joined first x ps u ≡ expression (record { number = 0; first = first; to = u.before }) (chain (map (λ q. q.0) ps) (expressions_of (x ∷ map (λ q. q.1) ps)))
joined_some first x ps u (p, qs, is) =
    subst (λ rs. joined first x rs u ≡ expression (record { number = 0; first = first; to = u.before }) (chain (map (λ q. q.0) rs) (expressions_of (x ∷ map (λ q. q.1) rs)))) (sym is) refl

-- a chain with an operator
pub link_got : (depth : ℕ) (l : Level) (first : Span) (x : Expression) (v : Place) (ps : List (Operator × Expression)) (u : Place) (os : List Operator) (es : List Expression)
    → at_operator l v ≡ true → read_operands depth l [] v ≡ got ps u → os ≡ map (λ q. q.0) ps → es ≡ x ∷ map (λ q. q.1) ps
    → read_link depth l first x v ≡ got (expression (record { number = 0; first = first; to = u.before }) (chain os (expressions_of es))) u
unfolding read_link read_operands
link_got depth l first x v ps u os es holds more ops exprs =
    ap (λ r. r >>= λ ps u. got (joined first x ps u) u) more
    ∙ ap (λ e. got e u) (joined_some first x ps u (operands_some l (read_operand depth l) v ps u holds more))
    ∙ ap₂ (λ a b. got (expression (record { number = 0; first = first; to = u.before }) (chain a (expressions_of b))) u) (sym ops) (sym exprs)

pub link_fails : (depth : ℕ) (l : Level) (first : Span) (x : Expression) (v : Place) (stop : ParseStop) → read_operands depth l [] v ≡ refused stop → read_link depth l first x v ≡ refused stop
unfolding read_link
link_fails depth l first x v stop more = ap (λ r. r >>= λ ps u. got (joined first x ps u) u) more

-- at a level whose operators may not follow one another
pub operand_one : (depth : ℕ) (l : Level) (s : Place) (o : Operator) (v : Place) (e : Expression) (u : Place) → repeats l ≡ false → at_operator l s ≡ true
    → read_operator l s ≡ got o v → read_operand depth l v ≡ got e u → read_operands depth l [] s ≡ got ((o, e) ∷ []) u
unfolding read_operands
operand_one depth l s o v e u is holds one two =
    ap (λ b. cond b (many (at_operator l) (read_operator l ∗ read_operand depth l) []) (once (at_operator l) (read_operator l ∗ read_operand depth l) []) s) is
    ∙ ap (λ b. cond b ((read_operator l ∗ read_operand depth l) s >>= λ a u. got (a ∷ []) u) (got [] s)) holds
    ∙ ap (λ z. z >>= λ a u. got (a ∷ []) u) (both_got (read_operator l) (read_operand depth l) s o v e u one two)

pub operand_fails : (depth : ℕ) (l : Level) (s : Place) (o : Operator) (v : Place) (stop : ParseStop) → repeats l ≡ false → at_operator l s ≡ true
    → read_operator l s ≡ got o v → read_operand depth l v ≡ refused stop → read_operands depth l [] s ≡ refused stop
unfolding read_operands
operand_fails depth l s o v stop is holds one two =
    ap (λ b. cond b (many (at_operator l) (read_operator l ∗ read_operand depth l) []) (once (at_operator l) (read_operator l ∗ read_operand depth l) []) s) is
    ∙ ap (λ b. cond b ((read_operator l ∗ read_operand depth l) s >>= λ a u. got (a ∷ []) u) (got [] s)) holds
    ∙ ap (λ z. z >>= λ a u. got (a ∷ []) u) (both_fails (read_operator l) (read_operand depth l) s o v stop one two)

pub no_operand : (depth : ℕ) (l : Level) (s : Place) → at_operator l s ≡ false → read_operands depth l [] s ≡ got [] s
unfolding read_operands
no_operand depth l s none = operands_none l (read_operand depth l) s none

-- behind an operator before its operand
pub prefixed_got : (k : TokenKind) (p : Prefix) (depth : ℕ) (s : Place) (d : ℕ) (v : Place) (x : Expression) (u : Place) → opened k depth s ≡ got d v → read_form d v ≡ got x u
    → read_prefixed k p depth s ≡ got (spans s (prefixed p x) u) u
unfolding read_prefixed
prefixed_got k p depth s d v x u one two =
    ap (λ z. z >>= λ d v. read_unary d v >>= λ x u. got (spans s (prefixed p x) u) u) one
    ∙ ap (λ z. z >>= λ x u. got (spans s (prefixed p x) u) u) (sym (form_same d v) ∙ two)

-- the one of two readers that a test takes
pub taken : {A : Type 0} (test : Place → Bool) (r q : Reader A) (s : Place) → test s ≡ true → choose test r q s ≡ r s
taken test r q s is = ap (λ b. cond b (r s) (q s)) is

pub passed : {A : Type 0} (test : Place → Bool) (r q : Reader A) (s : Place) → test s ≡ false → choose test r q s ≡ q s
passed test r q s is = ap (λ b. cond b (r s) (q s)) is

-- a call
pub application_got : (depth : ℕ) (s : Place) (w : Word) (v : Place) (es : List Expression) (u : Place)
    → read_name s ≡ got w v → read_arguments depth v ≡ got es u → read_application depth s ≡ got (spans s (call w (expressions_of es)) u) u
application_got depth s w v es u one two = ap (λ z. z >>= λ x u. got (spans s (call x.0 (expressions_of x.1)) u) u) (both_got read_name (read_arguments depth) s w v es u one two)
