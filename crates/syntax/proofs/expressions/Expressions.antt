-- The laws of expressions.
use Rattle.std.proofs.Common.{◌≡◌, ℕ, zero, suc, ◌+◌, ◌≤◌, length, List, [], ◌∷◌, Option, Some, None, Bool, true, false, refl, ap, sym, ◌∙◌, subst, arith}
use denote.Enum.Bare.{same_true, true_same}
use Rattle.language.specs.contracts.tree.Level as levels
use Rattle.language.specs.declared.tree.Operator.{Operator}
use Rattle.language.specs.declared.tree.Prefix.TheVariants as Prefix
use Rattle.language.specs.Tree.{Expression, Form, number, text, truth, variable, element, call, prefixed, expressions_of}
use Rattle.lexer.specs.Items.{Lexeme}
use Rattle.lexer.specs.declared.token.TokenKind.{TokenKind}
use Rattle.lexer.specs.declared.token.TokenKind.TheVariants as Kind
use Rattle.language.specs.declared.tree.Level.{Level}
use Rattle.language.specs.Kinds.{same, same_level, operator_of, level_of, repeats}
use Rattle.language.specs.Rules.{Place, behind, Rule, The, ◌⋆◌, ◌▹◌, Never, Made, Round, Square}
use Rattle.language.specs.Grammar.{number_of, spelled, spans, word, IsName, IsOperator, chained, Repeated, IsChain, IsExprOver, AreArguments, IsUnaryOver, a_not, a_negative, a_number, a_string, a_true, a_false, a_name, an_element, a_call, a_parenthesis, IsUnary, IsExpr}
use Rattle.syntax.specs.Readers.{Read, refused, got, Reader, stop_at, kind_of, tail_of, kind_at, second_at, at, second, cond, the, ◌∗◌, made, many, once, round, square}
use Rattle.syntax.specs.Reading.{read_name, of_level, operator_at, is_some, at_operator, take_if, read_operator, chain_over, expr_over, arguments_over, unary_over, read_unary, read_expr}
use Rattle.syntax.proofs.combining.Combine.{Law, Any, Tests, Begins, Stops, Sound, got_value, got_place, kind_the, the_law, both_law, drop_law, keep_law, made_law, tight_law, sound_as, sound_never, sound_choose, not_kind, once_law, many_law, commas_law, perhaps_law, tests_at}

-- nothing that goes on behind a name
abbrev pub After_name : TokenKind → Type 0
After_name k = (same k Kind.OpenSquare ≡ false) × (same k Kind.OpenRound ≡ false)

-- whether a kind is an operator of a level
abbrev pub operates : Level → TokenKind → Bool
operates l k = is_some (of_level l (operator_of k))

-- nothing that goes on behind a chain of each level
abbrev pub After_product : TokenKind → Type 0
After_product = Stops After_name (operates Level.Product)

abbrev pub After_sum : TokenKind → Type 0
After_sum = Stops After_product (operates Level.Sum)

abbrev pub After_order : TokenKind → Type 0
After_order = Stops After_sum (operates Level.Order)

abbrev pub After_equality : TokenKind → Type 0
After_equality = Stops After_order (operates Level.Equality)

abbrev pub After_and : TokenKind → Type 0
After_and = Stops After_equality (operates Level.And)

-- nothing that goes on behind an expression
abbrev pub Ends : TokenKind → Type 0
Ends = Stops After_and (operates Level.Or)

-- a kind that is no operator and opens no bracket ends an expression
pub ends_of : (k : TokenKind) → operator_of k ≡ None → same k Kind.OpenSquare ≡ false → same k Kind.OpenRound ≡ false → Ends k
ends_of k none square round = (((((((square, round), other Level.Product), other Level.Sum), other Level.Order), other Level.Equality), other Level.And), other Level.Or)
  where
    other : (l : Level) → operates l k ≡ false
    other l = ap (λ m. is_some (of_level l m)) none

pub name_law : Law 1 read_name IsName Any
unfolding read_name
name_law = made_law (λ s t u. word t) (the_law Kind.Name)

-- OPERATORS

pub tests_operator : (l : Level) → Tests (at_operator l) (operates l)
unfolding operator_at
tests_operator l = record { is = λ s. refl }

op_more : (l : Level) (before : ℕ) (t : Lexeme) (ts : List Lexeme) (o : Operator) (u : Place) (p : Operator) → operator_of t.kind ≡ Some p → (b : Bool) → same_level (level_of p) l ≡ b
    → take_if (cond b (Some p) None) (record { before = before; rest = t ∷ ts }) ≡ got o u → IsOperator l (record { before = before; rest = t ∷ ts }) o u × (1 + length u.rest ≤ length (t ∷ ts))
op_more l before t ts o u p op true same h =
    let value = got_value p o (behind t ts) u h in
    let place = got_place p o (behind t ts) u h in
    let level = same_true levels.the_type tt (level_of p) l same in
    let here : IsOperator l (record { before = before; rest = t ∷ ts }) p (behind t ts) = (t, (ts, refl, refl, refl), op, level) in (
      subst (λ y. IsOperator l (record { before = before; rest = t ∷ ts }) y u) value (subst (λ w. IsOperator l (record { before = before; rest = t ∷ ts }) p w) place here),
      subst (λ w. 1 + length w.rest ≤ length (t ∷ ts)) place (omega arith),
    )
op_more l before t ts o u p op false same h = absurd (cc)

op_some : (l : Level) (before : ℕ) (t : Lexeme) (ts : List Lexeme) (o : Operator) (u : Place) (m : Option Operator) → operator_of t.kind ≡ m
    → take_if (of_level l m) (record { before = before; rest = t ∷ ts }) ≡ got o u → IsOperator l (record { before = before; rest = t ∷ ts }) o u × (1 + length u.rest ≤ length (t ∷ ts))
op_some l before t ts o u None op h = absurd (cc)
op_some l before t ts o u (Some p) op h = op_more l before t ts o u p op (same_level (level_of p) l) refl h

op_rest : (l : Level) (before : ℕ) (ts : List Lexeme) (o : Operator) (u : Place) → take_if (of_level l (operator_of (kind_of ts))) (record { before = before; rest = ts }) ≡ got o u
    → IsOperator l (record { before = before; rest = ts }) o u × (1 + length u.rest ≤ length ts)
op_rest l before [] o u h = absurd (cc)
op_rest l before (t ∷ ts) o u h = op_some l before t ts o u (operator_of t.kind) refl h

pub operator_law : (l : Level) → Law 1 (read_operator l) (IsOperator l) Any
unfolding read_operator operator_at
operator_law l = record {
  sound = λ s o u h. op_rest l s.before s.rest o u h;
  complete = λ s o u (t, (ts, kind, rest, is), op, level) after.
      ap (λ xs. take_if (of_level l (operator_of (kind_of xs))) (record { before = s.before; rest = xs })) rest
      ∙ ap (λ m. take_if (of_level l m) (record { before = s.before; rest = t ∷ ts })) op
      ∙ ap (λ b. take_if (cond b (Some o) None) (record { before = s.before; rest = t ∷ ts })) (true_same levels.the_type (level_of o) l level)
      ∙ ap (got o) (sym is);
}

pub op_yes : (l : Level) (m : Option Operator) → is_some (of_level l m) ≡ true → (o : Operator) × (m ≡ Some o) × (level_of o ≡ l)
op_yes l None h = absurd (cc)
op_yes l (Some o) h = (o, refl, same_true levels.the_type tt (level_of o) l (yes (same_level (level_of o) l) h))
  where
    yes : (b : Bool) → is_some (cond b (Some o) None) ≡ true → b ≡ true
    yes true k = refl
    yes false k = absurd (cc)

begins_op : {A : Type 0} (R : Rule A) (l : Level) → Begins (IsOperator l ⋆ R) (operates l)
begins_op R l s a u (v, (t, here, op, level), more) =
    ap (operates l) (kind_the t.kind s t v here) ∙ ap (λ m. is_some (of_level l m)) op ∙ ap (λ b. is_some (cond b (Some a.0) None)) (true_same levels.the_type (level_of a.0) l level)

-- an operator of one level is none of another, and no bracket
pub not_op : (l m : Level) (k : TokenKind) → same_level l m ≡ false → operates l k ≡ true → operates m k ≡ false
not_op l m k differ h =
    let p = op_yes l (operator_of k) h in
    ap (λ x. is_some (of_level m x)) p.1 ∙ ap (λ x. is_some (cond (same_level x m) (Some p.0) None)) p.2 ∙ ap (λ b. is_some (cond b (Some p.0) None)) differ

operator_follows : (l : Level) (k : TokenKind) → operates l k ≡ true → After_name k
operator_follows l k h = (not_kind (operates l) k Kind.OpenSquare h refl, not_kind (operates l) k Kind.OpenRound h refl)

sum_follows : (k : TokenKind) → operates Level.Sum k ≡ true → After_product k
sum_follows k h = (operator_follows Level.Sum k h, not_op Level.Sum Level.Product k refl h)

order_follows : (k : TokenKind) → operates Level.Order k ≡ true → After_sum k
order_follows k h = ((operator_follows Level.Order k h, not_op Level.Order Level.Product k refl h), not_op Level.Order Level.Sum k refl h)

equality_follows : (k : TokenKind) → operates Level.Equality k ≡ true → After_order k
equality_follows k h = (((operator_follows Level.Equality k h, not_op Level.Equality Level.Product k refl h), not_op Level.Equality Level.Sum k refl h), not_op Level.Equality Level.Order k refl h)

and_follows : (k : TokenKind) → operates Level.And k ≡ true → After_equality k
and_follows k h = ((((operator_follows Level.And k h, not_op Level.And Level.Product k refl h), not_op Level.And Level.Sum k refl h), not_op Level.And Level.Order k refl h), not_op Level.And Level.Equality k refl h)

or_follows : (k : TokenKind) → operates Level.Or k ≡ true → After_and k
or_follows k h = (((((operator_follows Level.Or k h, not_op Level.Or Level.Product k refl h), not_op Level.Or Level.Sum k refl h), not_op Level.Or Level.Order k refl h), not_op Level.Or Level.Equality k refl h), not_op Level.Or Level.And k refl h)

-- CHAINS

repeated_law : {A : Type 0} {r : Reader A} {R : Rule A} {F : TokenKind → Type 0} {test : Place → Bool} {T : TokenKind → Bool} → Tests test T → Law 1 r R F → Begins R T → ((k : TokenKind) → T k ≡ true → F k)
    → (b : Bool) → Law 0 (cond b (many test r []) (once test r [])) (Repeated b R) (Stops F T)
repeated_law tests one begins goes true = many_law tests one begins (λ s a u is. goes (kind_at s) (begins s a u is))
repeated_law tests one begins goes false = once_law tests one begins

follows_chain : {A : Type 0} {R : Rule A} {F : TokenKind → Type 0} {T : TokenKind → Bool} → Begins R T → ((k : TokenKind) → T k ≡ true → F k) → (b : Bool) (s : Place) (xs : List A) (u : Place) → Repeated b R s xs u → Stops F T (kind_at u) → F (kind_at s)
follows_chain {A} {R} {F} {T} begins goes true s [] u is after = subst (λ w. F (kind_at w)) is after.0
follows_chain begins goes true s (x ∷ xs) u (v, here, more) after = goes (kind_at s) (begins s x v here)
follows_chain {A} {R} {F} {T} begins goes false s [] u is after = subst (λ w. F (kind_at w)) is after.0
follows_chain begins goes false s (x ∷ []) u is after = goes (kind_at s) (begins s x u is)
follows_chain begins goes false s (x ∷ y ∷ ys) u is after = absurd is

pub chain_law : {r : Reader Expression} {R : Rule Expression} {F : TokenKind → Type 0} (l : Level) → Law 1 r R F → ((k : TokenKind) → operates l k ≡ true → F k) → Law 1 (chain_over l r) (IsChain l R) (Stops F (operates l))
chain_law {r} {R} {F} l one goes =
    made_law chained (both_law one (repeated_law (tests_operator l) (both_law (operator_law l) one (λ s b u is after. tt)) (begins_op R l) goes (repeats l))
    (λ s b u is after. follows_chain (begins_op R l) goes (repeats l) s b u is after))

pub expr_over_law : {r : Reader Expression} {R : Rule Expression} → Law 1 r R After_name → Law 1 (expr_over r) (IsExprOver R) Ends
expr_over_law one =
    chain_law Level.Or (chain_law Level.And (chain_law Level.Equality (chain_law Level.Order (chain_law Level.Sum (chain_law Level.Product one (operator_follows Level.Product)) sum_follows) order_follows) equality_follows) and_follows) or_follows

-- BRACKETS AND ARGUMENTS

pub round_law : {A : Type 0} {j : ℕ} {r : Reader A} {R : Rule A} {F : TokenKind → Type 0} → Law j r R F → F Kind.CloseRound → Law 1 (round r) (Round R) Any
round_law {A} {j} {r} {R} {F} one follows = drop_law (the_law Kind.OpenRound) (keep_law one (the_law Kind.CloseRound) (λ s b u is after. subst F (sym (kind_the Kind.CloseRound s b u is)) follows)) (λ s b u is after. tt)

pub square_law : {A : Type 0} {j : ℕ} {r : Reader A} {R : Rule A} {F : TokenKind → Type 0} → Law j r R F → F Kind.CloseSquare → Law 1 (square r) (Square R) Any
square_law {A} {j} {r} {R} {F} one follows = drop_law (the_law Kind.OpenSquare) (keep_law one (the_law Kind.CloseSquare) (λ s b u is after. subst F (sym (kind_the Kind.CloseSquare s b u is)) follows)) (λ s b u is after. tt)

pub second_the : (k l : TokenKind) (s : Place) (t : Lexeme) (v : Place) (t' : Lexeme) (u : Place) → The k s t v → The l v t' u → second_at s ≡ l
second_the k l s t v t' u (ts, kind, rest, is) other = ap (λ xs. kind_of (tail_of xs)) rest ∙ sym (ap kind_at is) ∙ kind_the l v t' u other

pub second_end : (k : TokenKind) (s : Place) (t : Lexeme) (u : Place) → The k s t u → second_at s ≡ kind_at u
second_end k s t u (ts, kind, rest, is) = ap (λ xs. kind_of (tail_of xs)) rest ∙ sym (ap kind_at is)

-- UNARIES

-- by the first two kinds
abbrev form_by : Reader Expression → Reader Expression → Reader Expression → Reader Expression → Reader (List Expression) → TokenKind → TokenKind → Place → Read Expression
form_by iv mi pa ix ar k l s =
    cond (same k Kind.Not) (made (λ s x u. spans s (prefixed Prefix.Not x) u) iv s)
    (cond (same k Kind.Minus) (made (λ s x u. spans s (prefixed Prefix.Negative x) u) mi s)
    (cond (same k Kind.Number) (made (λ s t u. spans s (number (number_of t)) u) (the Kind.Number) s)
    (cond (same k Kind.Text) (made (λ s t u. spans s (text (spelled t)) u) (the Kind.Text) s)
    (cond (same k Kind.True) (made (λ s t u. spans s (truth true) u) (the Kind.True) s)
    (cond (same k Kind.False) (made (λ s t u. spans s (truth false) u) (the Kind.False) s)
    (cond (same k Kind.OpenRound) (pa s)
    (cond (same k Kind.Name)
    (cond (same l Kind.OpenSquare) (made (λ s x u. spans s (element x.0 x.1) u) (read_name ∗ ix) s)
    (cond (same l Kind.OpenRound) (made (λ s x u. spans s (call x.0 (expressions_of x.1)) u) (read_name ∗ ar) s)
    (made (λ s w u. spans s (variable w) u) read_name s)))
    (refused (stop_at s)))))))))

form_is : (iv mi pa ix : Reader Expression) (ar : Reader (List Expression)) (s : Place) → unary_over iv mi pa ix ar s ≡ form_by iv mi pa ix ar (kind_at s) (second_at s) s
unfolding at second
form_is iv mi pa ix ar s = refl

-- given what begins with a prefix operator, and what stands in brackets
pub unary_over_law : {iv mi pa ix : Reader Expression} {ar : Reader (List Expression)} {U E : Rule Expression} {Ar : Rule (List Expression)}
    → Law 1 iv (The Kind.Not ▹ U) After_name → Law 1 mi (The Kind.Minus ▹ U) After_name → Law 1 pa (Round E) Any → Law 1 ix (Square E) Any → Law 1 ar (Round Ar) Any
    → Law 1 (unary_over iv mi pa ix ar) (IsUnaryOver U E Ar) After_name
unary_over_law {iv} {mi} {pa} {ix} {ar} {U} {E} {Ar} inverse minus parenthesis index arguments = record { sound = sound.gives; complete = complete }
  where
    not_law : Law 1 (made (λ s x u. spans s (prefixed Prefix.Not x) u) iv) (Made (λ s x u. spans s (prefixed Prefix.Not x) u) (The Kind.Not ▹ U)) After_name
    not_law = made_law (λ s x u. spans s (prefixed Prefix.Not x) u) inverse

    minus_law : Law 1 (made (λ s x u. spans s (prefixed Prefix.Negative x) u) mi) (Made (λ s x u. spans s (prefixed Prefix.Negative x) u) (The Kind.Minus ▹ U)) After_name
    minus_law = made_law (λ s x u. spans s (prefixed Prefix.Negative x) u) minus

    element_law : Law 1 (made (λ s x u. spans s (element x.0 x.1) u) (read_name ∗ ix)) (Made (λ s x u. spans s (element x.0 x.1) u) (IsName ⋆ Square E)) Any
    element_law = made_law (λ s x u. spans s (element x.0 x.1) u) (both_law name_law index (λ s b u is after. tt))

    call_law : Law 1 (made (λ s x u. spans s (call x.0 (expressions_of x.1)) u) (read_name ∗ ar)) (Made (λ s x u. spans s (call x.0 (expressions_of x.1)) u) (IsName ⋆ Round Ar)) Any
    call_law = made_law (λ s x u. spans s (call x.0 (expressions_of x.1)) u) (both_law name_law arguments (λ s b u is after. tt))

    variable_law : Law 1 (made (λ s w u. spans s (variable w) u) read_name) (Made (λ s w u. spans s (variable w) u) IsName) Any
    variable_law = made_law (λ s w u. spans s (variable w) u) name_law

    literal_law : (k : TokenKind) (form : Lexeme → Form) → Law 1 (made (λ s t u. spans s (form t) u) (the k)) (Made (λ s t u. spans s (form t) u) (The k)) Any
    literal_law k form = made_law (λ s t u. spans s (form t) u) (the_law k)

    sound : Sound (unary_over iv mi pa ix ar) (IsUnaryOver U E Ar)
    sound =
        sound_choose (at Kind.Not) (sound_as not_law (λ s e u h. a_not h.0 h.1 h.2))
        (sound_choose (at Kind.Minus) (sound_as minus_law (λ s e u h. a_negative h.0 h.1 h.2))
        (sound_choose (at Kind.Number) (sound_as (literal_law Kind.Number (λ t. number (number_of t))) (λ s e u h. a_number h.0 h.1 h.2))
        (sound_choose (at Kind.Text) (sound_as (literal_law Kind.Text (λ t. text (spelled t))) (λ s e u h. a_string h.0 h.1 h.2))
        (sound_choose (at Kind.True) (sound_as (literal_law Kind.True (λ t. truth true)) (λ s e u h. a_true h.0 h.1 h.2))
        (sound_choose (at Kind.False) (sound_as (literal_law Kind.False (λ t. truth false)) (λ s e u h. a_false h.0 h.1 h.2))
        (sound_choose (at Kind.OpenRound) (sound_as parenthesis (λ s e u h. a_parenthesis h))
        (sound_choose (at Kind.Name)
        (sound_choose (second Kind.OpenSquare) (sound_as element_law (λ s e u h. an_element h.0 h.1 h.2))
        (sound_choose (second Kind.OpenRound) (sound_as call_law (λ s e u h. a_call h.0 h.1 h.2))
        (sound_as variable_law (λ s e u h. a_name h.0 h.1 h.2))))
        sound_never)))))))

    by : (s : Place) (k : TokenKind) → kind_at s ≡ k → unary_over iv mi pa ix ar s ≡ form_by iv mi pa ix ar k (second_at s) s
    by s k is = form_is iv mi pa ix ar s ∙ ap (λ x. form_by iv mi pa ix ar x (second_at s) s) is

    complete : (s : Place) (e : Expression) (u : Place) → IsUnaryOver U E Ar s e u → After_name (kind_at u) → unary_over iv mi pa ix ar s ≡ got e u
    complete s e u (a_not x h is) after = by s Kind.Not (kind_the Kind.Not s h.0 h.1 h.2) ∙ not_law.complete s e u (x, h, is) after
    complete s e u (a_negative x h is) after = by s Kind.Minus (kind_the Kind.Minus s h.0 h.1 h.2) ∙ minus_law.complete s e u (x, h, is) after
    complete s e u (a_number t h is) after = by s Kind.Number (kind_the Kind.Number s t u h) ∙ (literal_law Kind.Number (λ t. number (number_of t))).complete s e u (t, h, is) tt
    complete s e u (a_string t h is) after = by s Kind.Text (kind_the Kind.Text s t u h) ∙ (literal_law Kind.Text (λ t. text (spelled t))).complete s e u (t, h, is) tt
    complete s e u (a_true t h is) after = by s Kind.True (kind_the Kind.True s t u h) ∙ (literal_law Kind.True (λ t. truth true)).complete s e u (t, h, is) tt
    complete s e u (a_false t h is) after = by s Kind.False (kind_the Kind.False s t u h) ∙ (literal_law Kind.False (λ t. truth false)).complete s e u (t, h, is) tt
    complete s e u (a_name w h is) after =
        by s Kind.Name (kind_the Kind.Name s h.0 u h.1)
        ∙ ap (λ b. cond b (made (λ s x u. spans s (element x.0 x.1) u) (read_name ∗ ix) s) (cond (same (second_at s) Kind.OpenRound) (made (λ s x u. spans s (call x.0 (expressions_of x.1)) u) (read_name ∗ ar) s) (made (λ s w u. spans s (variable w) u) read_name s)))
        (ap (λ x. same x Kind.OpenSquare) (second_end Kind.Name s h.0 u h.1) ∙ after.0)
        ∙ ap (λ b. cond b (made (λ s x u. spans s (call x.0 (expressions_of x.1)) u) (read_name ∗ ar) s) (made (λ s w u. spans s (variable w) u) read_name s))
        (ap (λ x. same x Kind.OpenRound) (second_end Kind.Name s h.0 u h.1) ∙ after.1)
        ∙ variable_law.complete s e u (w, h, is) tt
    complete s e u (an_element x h is) after =
        by s Kind.Name (kind_the Kind.Name s h.1.0 h.0 h.1.1) ∙ ap (λ l. form_by iv mi pa ix ar Kind.Name l s) (second_the Kind.Name Kind.OpenSquare s h.1.0 h.0 h.2.0 h.2.1 h.1.1 h.2.2) ∙ element_law.complete s e u (x, h, is) tt
    complete s e u (a_call x h is) after =
        by s Kind.Name (kind_the Kind.Name s h.1.0 h.0 h.1.1) ∙ ap (λ l. form_by iv mi pa ix ar Kind.Name l s) (second_the Kind.Name Kind.OpenRound s h.1.0 h.0 h.2.0 h.2.1 h.1.1 h.2.2) ∙ call_law.complete s e u (x, h, is) tt
    complete s e u (a_parenthesis h) after = by s Kind.OpenRound (kind_the Kind.OpenRound s h.0 h.1 h.2) ∙ parenthesis.complete s e u h tt

-- the kinds that begin an expression
abbrev pub starts_expr : TokenKind → Bool
starts_expr Kind.Not = true
starts_expr Kind.Minus = true
starts_expr Kind.Number = true
starts_expr Kind.Text = true
starts_expr Kind.True = true
starts_expr Kind.False = true
starts_expr Kind.Name = true
starts_expr Kind.OpenRound = true
starts_expr _ = false

pub starts_unary : (U E : Rule Expression) (Ar : Rule (List Expression)) → Begins (IsUnaryOver U E Ar) starts_expr
starts_unary U E Ar s e u (a_not x h is) = ap starts_expr (kind_the Kind.Not s h.0 h.1 h.2)
starts_unary U E Ar s e u (a_negative x h is) = ap starts_expr (kind_the Kind.Minus s h.0 h.1 h.2)
starts_unary U E Ar s e u (a_number t h is) = ap starts_expr (kind_the Kind.Number s t u h)
starts_unary U E Ar s e u (a_string t h is) = ap starts_expr (kind_the Kind.Text s t u h)
starts_unary U E Ar s e u (a_true t h is) = ap starts_expr (kind_the Kind.True s t u h)
starts_unary U E Ar s e u (a_false t h is) = ap starts_expr (kind_the Kind.False s t u h)
starts_unary U E Ar s e u (a_name w h is) = ap starts_expr (kind_the Kind.Name s h.0 u h.1)
starts_unary U E Ar s e u (an_element x h is) = ap starts_expr (kind_the Kind.Name s h.1.0 h.0 h.1.1)
starts_unary U E Ar s e u (a_call x h is) = ap starts_expr (kind_the Kind.Name s h.1.0 h.0 h.1.1)
starts_unary U E Ar s e u (a_parenthesis h) = ap starts_expr (kind_the Kind.OpenRound s h.0 h.1 h.2)

starts_chain : (l : Level) (R : Rule Expression) → Begins R starts_expr → Begins (IsChain l R) starts_expr
starts_chain l R starts s e u (x, (v, first, more), is) = starts s x.0 v first

pub starts_over : (R : Rule Expression) → Begins R starts_expr → Begins (IsExprOver R) starts_expr
starts_over R starts =
    starts_chain Level.Or (IsChain Level.And (IsChain Level.Equality (IsChain Level.Order (IsChain Level.Sum (IsChain Level.Product R)))))
    (starts_chain Level.And (IsChain Level.Equality (IsChain Level.Order (IsChain Level.Sum (IsChain Level.Product R))))
    (starts_chain Level.Equality (IsChain Level.Order (IsChain Level.Sum (IsChain Level.Product R)))
    (starts_chain Level.Order (IsChain Level.Sum (IsChain Level.Product R))
    (starts_chain Level.Sum (IsChain Level.Product R)
    (starts_chain Level.Product R starts)))))

pub unary_begins : (depth : ℕ) → Begins (IsUnary depth) starts_expr
unfolding IsUnary
unary_begins zero = starts_unary Never Never Never
unary_begins (suc depth) = starts_unary (IsUnary depth) (IsExprOver (IsUnary depth)) (AreArguments (IsExprOver (IsUnary depth)))

pub expr_begins : (depth : ℕ) → Begins (IsExpr depth) starts_expr
expr_begins depth = starts_over (IsUnary depth) (unary_begins depth)

-- what follows arguments
abbrev pub Closes : TokenKind → Type 0
Closes k = Stops Ends (λ x. same x Kind.Comma) k × (same k Kind.CloseRound ≡ true)

pub arguments_over_law : {r : Reader Expression} {R : Rule Expression} → Law 1 r R Ends → Begins R starts_expr → Law 0 (arguments_over r) (AreArguments R) Closes
arguments_over_law one starts =
    perhaps_law (tests_at Kind.CloseRound) (commas_law one (ends_of Kind.Comma refl refl refl))
    (λ s a u (x, (v, first, more), is). not_kind starts_expr (kind_at s) Kind.CloseRound (starts s x.0 v first) refl) (λ s u (x, more, is). absurd (cc))

pub unary_law : (depth : ℕ) → Law 1 (read_unary depth) (IsUnary depth) After_name
unfolding read_unary IsUnary
unary_law zero =
    unary_over_law (tight_law Kind.Not (λ s a u (t, v, first, is). is)) (tight_law Kind.Minus (λ s a u (t, v, first, is). is)) (tight_law Kind.OpenRound (λ s a u (t, v, first, (x, w, is, more)). is))
    (tight_law Kind.OpenSquare (λ s a u (t, v, first, (x, w, is, more)). is)) (tight_law Kind.OpenRound (λ s a u (t, v, first, (x, w, is, more)). is))
unary_law (suc depth) =
    unary_over_law (drop_law (the_law Kind.Not) (unary_law depth) (λ s b u is after. tt)) (drop_law (the_law Kind.Minus) (unary_law depth) (λ s b u is after. tt))
    (round_law (expr_over_law (unary_law depth)) (ends_of Kind.CloseRound refl refl refl)) (square_law (expr_over_law (unary_law depth)) (ends_of Kind.CloseSquare refl refl refl))
    (round_law (arguments_over_law (expr_over_law (unary_law depth)) (expr_begins depth)) ((ends_of Kind.CloseRound refl refl refl, refl), refl))

pub expr_law : (depth : ℕ) → Law 1 (read_expr depth) (IsExpr depth) Ends
unfolding read_expr
expr_law depth = expr_over_law (unary_law depth)
