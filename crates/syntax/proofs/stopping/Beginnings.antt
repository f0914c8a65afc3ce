-- How far the readers of the grammar look.
use Rattle.std.proofs.Common.{◌≡◌, ℕ, zero, suc, List, [], ◌∷◌, ◌++◌, Option, Some, None, Bool, true, false, refl, ap, sym, ◌∙◌, subst, inl, inr}
use Rattle.std.specs.Prelude.{◌⊎◌, nat_le}
use Rattle.std.proofs.lemmas.Bool.{leb-true}
use Rattle.lexer.specs.Bytes.{decimal}
use Rattle.lexer.specs.Items.{Lexeme}
use Rattle.lexer.specs.declared.token.TokenKind.{TokenKind}
use Rattle.lexer.specs.declared.token.TokenKind.TheVariants as Kind
use Rattle.language.specs.declared.tree.Base.{Base}
use Rattle.language.specs.declared.tree.Level.{Level}
use Rattle.language.specs.declared.tree.Prefix.{Prefix}
use Rattle.language.specs.Kinds.{same, operator_of, base_of, repeats}
use Rattle.language.specs.Tree.{Expression, Form, number, text, truth, variable, element, call, prefixed, expressions_of, value, list, array, range}
use Rattle.language.specs.Rules.{Place, behind, Rule, The, ◌⋆◌, ◌▹◌, Maybe, Perhaps, Made, cons, Commas, Round, Square}
use Rattle.language.specs.Grammar.{node, spans, word, number_of, spelled, chained, shape_of, keys_of, signed, IsName, IsOperator, Repeated, IsChain, IsExprOver, AreArguments, IsUnaryOver, a_not, a_negative, a_number, a_string, a_true, a_false, a_name, an_element, a_call, a_parenthesis, IsUnary, IsExpr, IsType, AreKeys, IsDecl, AreParameters, AreNames, IsCall, IsRight, a_value, a_list, IsPrio, IsSmall, IsPriority, IsSource, an_array, a_range}
use Rattle.syntax.specs.declared.grammar.stop.ParseStop.{ParseStop}
use Rattle.syntax.specs.declared.grammar.stop.ParseStop.TheVariants.{AtEnd, Unexpected}
use Rattle.syntax.specs.Readers.{refused, got, Reader, kind_of, kind_at, second_at, at, second, cond, the, ◌∗◌, made, perhaps, many, once, checked}
use Rattle.syntax.specs.Reading.{at_operator, read_operator, operands, chain_over, expr_over, read_name, read_unary, read_expr, read_exprs, read_arguments, read_index, read_test, read_named, read_prefixed, read_literal, read_form, base_over, read_type, read_keys, read_brackets, read_decl, read_decls, read_parameters, read_words, read_names, read_call, read_elements, read_right, is_prio, read_prio, read_small, read_priority, bounds_over, read_range, read_source}
use Rattle.syntax.proofs.combining.Combine.{tests_at}
use Rattle.syntax.proofs.expressions.Expressions.{operates, tests_operator, operator_law, op_yes}
use Rattle.syntax.proofs.statements.Declarations.{type_law, spells_is}
use Rattle.syntax.proofs.expressions.Forms.{form_same, prefix_zero, prefix_deep}
use Rattle.syntax.proofs.stopping.Prefixes.{before_of, Opens, Comes, Halts, At, Looks, wider, token, Spells, spells_to, spells_both, spells_drop, spells_made, spells_one, spells_nil, spells_zero, spells_no, token_looks, made_looks, both_here, both_looks, drop_looks, none_of_all, last_both_looks, choose_at, choose_second_at, never_at, maybe_looks, many_here, once_here, commas_looks, perhaps_looks, The_checked, checked_looks, level, level_looks, alike_looks, wider_looks, bracket_looks}
use Rattle.values.specs.Limits.{max_priority}

-- EXPRESSIONS

pub name_looks : {I : Type 0} → Looks {I = I} true (λ x. same x Kind.Name) read_name (λ i. read_name) (Spells IsName)
unfolding read_name
name_looks = made_looks (λ s t u. word t) (token_looks Kind.Name)

sign_read : (l : Level) (b : ℕ) (ts : List Lexeme) (f : ParseStop) → operates l (kind_of ts) ≡ true → read_operator l (before_of b ts) ≡ refused f → ⊥
sign_read l b [] f is h = absurd (cc)
sign_read l b (t ∷ ts) f is h =
    let p = op_yes l (operator_of t.kind) is in
    let bad = sym ((operator_law l).complete (before_of b (t ∷ ts)) p.0 (behind t ts) (t, (ts, refl, refl, refl), p.1, p.2) tt) ∙ h in
    absurd (cc)

-- an operator where one of the level stands
sign_here : {I : Type 0} (l : Level) (s : Place) → operates l (kind_at s) ≡ true → At {I = I} true none_of_all (read_operator l) (λ i. read_operator l) (Spells (IsOperator l)) s
sign_here l s is = record {
  gives = λ a u h.
      let p = ((operator_law l).sound s a u h).0 in
      let t = p.0 in
      let q = p.1 in (
        t ∷ [],
        q.2 ∙ ap (λ w. t ∷ w.rest) (sym q.3),
        λ takes none. absurd (cc),
        record { each = λ b ws. (a, t.span.to, (t, (ws, refl, refl, refl), p.2, p.3)) },
        λ i ws kind. inl (a, (operator_law l).complete (before_of s.before (t ∷ ws)) a (before_of u.before ws) (t, (ws, refl, refl, ap (λ w. before_of w.before ws) q.3), p.2, p.3) tt),
      );
  stops = λ f h. absurd (sign_read l s.before s.rest f is h);
}

repeated_here : {I : Type 0} {T : TokenKind → Bool} {operand : Reader Expression} {q : I → Reader Expression} {R : Rule Expression} (l : Level) (b : Bool) → Looks true T operand q (Spells R) → (s : Place)
    → At false none_of_all (cond b (many (at_operator l) (read_operator l ∗ operand) []) (once (at_operator l) (read_operator l ∗ operand) []))
    (λ i. cond b (many (at_operator l) (read_operator l ∗ q i) []) (once (at_operator l) (read_operator l ∗ q i) [])) (Spells (Repeated b (IsOperator l ⋆ R))) s
repeated_here l true one s = many_here (tests_operator l) (λ w is. both_here w (sign_here l w is) one) [] (λ i. []) s
repeated_here l false one s = once_here (tests_operator l) (λ w is. both_here w (sign_here l w is) one) s

repeated_none : {A : Type 0} (R : Rule A) (b : Bool) → Spells (Repeated b R) []
repeated_none R true = spells_nil R
repeated_none R false = spells_zero R [] refl

pub chain_looks : {I : Type 0} {T : TokenKind → Bool} {operand : Reader Expression} {q : I → Reader Expression} {R : Rule Expression} (l : Level) → Looks true T operand q (Spells R)
    → Looks true T (chain_over l operand) (λ i. chain_over l (q i)) (Spells (IsChain l R))
chain_looks {I} {T} {operand} {q} {R} l one = made_looks chained (both_looks one more)
  where
    more : Looks false none_of_all (operands l operand []) (λ i. operands l (q i) []) (Spells (Repeated (repeats l) (IsOperator l ⋆ R)))
    more = record { here = repeated_here l (repeats l) one; some = ([], repeated_none (IsOperator l ⋆ R) (repeats l)) }

pub expr_over_looks : {I : Type 0} {T : TokenKind → Bool} {unary : Reader Expression} {q : I → Reader Expression} {R : Rule Expression} → Looks true T unary q (Spells R)
    → Looks true T (expr_over unary) (λ i. expr_over (q i)) (Spells (IsExprOver R))
expr_over_looks one =
    chain_looks Level.Or (chain_looks Level.And (chain_looks Level.Equality (chain_looks Level.Order (chain_looks Level.Sum (chain_looks Level.Product one)))))

-- a word of each
repeated_end : {A : Type 0} (R : Rule A) (b : Bool) (u : Place) → Repeated b R u [] u
repeated_end R true u = refl
repeated_end R false u = refl

chain_word : {R : Rule Expression} (l : Level) (cs : List Lexeme) → Spells R cs → Spells (IsChain l R) cs
chain_word {R} l cs one = spells_to {R = R} {Q = IsChain l R} (λ s x u is. (x, ((x, []), (u, is, repeated_end (IsOperator l ⋆ R) (repeats l) u), refl))) cs one

pub unary_word : (depth : ℕ) → (cs : List Lexeme) × Spells (IsUnary depth) cs
unfolding IsUnary
unary_word zero = (token Kind.Number ∷ [], record { each = λ b ws. (spans (before_of b (token Kind.Number ∷ ws)) (number (number_of (token Kind.Number))) (before_of 0 ws), 0, a_number (token Kind.Number) (ws, refl, refl, refl) refl) })
unary_word (suc depth) = (token Kind.Number ∷ [], record { each = λ b ws. (spans (before_of b (token Kind.Number ∷ ws)) (number (number_of (token Kind.Number))) (before_of 0 ws), 0, a_number (token Kind.Number) (ws, refl, refl, refl) refl) })

pub expr_word : (depth : ℕ) → (cs : List Lexeme) × Spells (IsExpr depth) cs
expr_word depth =
    let one = unary_word depth in
    (one.0, chain_word Level.Or one.0 (chain_word Level.And one.0 (chain_word Level.Equality one.0 (chain_word Level.Order one.0 (chain_word Level.Sum one.0 (chain_word Level.Product one.0 one.1))))))

-- what is one level deeper
abbrev pub Below : {A : Type 0} → Bool → (ℕ → Reader A) → (ℕ → Rule A) → ℕ → Type 0
Below e r R n = (d : ℕ) → n ≡ suc d → Looks e none_of_all (r d) r (Spells (R (suc n)))

pub below : {A : Type 0} {e : Bool} {T : TokenKind → Bool} (r : ℕ → Reader A) (R : ℕ → Rule A) (n : ℕ) → ((d : ℕ) → n ≡ suc d → Looks e T (r d) r (Spells (R (suc (suc d))))) → Below e r R n
below {e = e} r R n all d is = wider_looks (λ cs h. subst (λ m. Spells (R (suc m)) cs) (sym is) h) (λ k h. refl) (all d is)

pub tests_second : (k : TokenKind) (s : Place) → second k s ≡ same (second_at s) k
unfolding second
tests_second k s = refl

expr_below : (n : ℕ) → Below true read_unary IsUnary n → Below true read_expr IsExpr n
unfolding read_expr
expr_below n deeper d is = expr_over_looks (deeper d is)

exprs_below : (n : ℕ) → Below true read_expr IsExpr n → Below true read_exprs (λ d. Commas (IsExpr d)) n
unfolding read_exprs
exprs_below n deeper d is = commas_looks (deeper d is)

arguments_below : (n : ℕ) → Below true read_expr IsExpr n → Below false (λ d. perhaps (at Kind.CloseRound) (read_exprs d)) (λ d. AreArguments (IsExpr d)) n
unfolding read_exprs
arguments_below n deeper d is = perhaps_looks (tests_at Kind.CloseRound) (deeper d is)

perhaps_word : {A : Type 0} (R : Rule A) → (cs : List Lexeme) × Spells (Perhaps (Commas R)) cs
perhaps_word R = ([], record { each = λ b ws. ([], b, refl) })

pub test_looks : (n : ℕ) → Below true read_expr IsExpr n → Looks true (λ x. same x Kind.OpenRound) (read_test n) read_test (Spells (Round (IsExpr (suc n))))
unfolding read_test
test_looks n deeper = bracket_looks {R = IsExpr (suc n)} Kind.OpenRound Kind.CloseRound n (expr_word (suc n)) deeper

pub index_looks : (n : ℕ) → Below true read_expr IsExpr n → Looks true (λ x. same x Kind.OpenSquare) (read_index n) read_index (Spells (Square (IsExpr (suc n))))
unfolding read_index
index_looks n deeper = bracket_looks {R = IsExpr (suc n)} Kind.OpenSquare Kind.CloseSquare n (expr_word (suc n)) deeper

arguments_looks : (n : ℕ) → Below true read_expr IsExpr n → Looks true (λ x. same x Kind.OpenRound) (read_arguments n) read_arguments (Spells (Round (AreArguments (IsExpr (suc n)))))
unfolding read_arguments
arguments_looks n deeper = bracket_looks {R = AreArguments (IsExpr (suc n))} Kind.OpenRound Kind.CloseRound n (perhaps_word (IsExpr (suc n))) (arguments_below n deeper)

prefix_level : (k : TokenKind) (p : Prefix) (m : ℕ) (v : Place) → read_prefixed k p m v ≡ made (λ s x u. spans s (prefixed p x) u) (level k read_unary m) v
prefix_level k p zero v = prefix_zero k p v
prefix_level k p (suc m) v = prefix_deep k p m v

prefixed_looks : (k : TokenKind) (p : Prefix) (n : ℕ) → Below true read_unary IsUnary n
    → Looks true (λ x. same x k) (read_prefixed k p n) (read_prefixed k p) (Spells (Made (λ s x u. spans s (prefixed p x) u) (The k ▹ IsUnary (suc n))))
prefixed_looks k p n deeper =
    alike_looks (prefix_level k p n) (λ m v. (m, prefix_level k p m v)) (made_looks (λ s x u. spans s (prefixed p x) u) (level_looks {R = IsUnary (suc n)} k read_unary n (unary_word (suc n)) deeper))

literal_looks : (k : TokenKind) (form : Lexeme → Form) → Looks {I = ℕ} true (λ x. same x k) (read_literal k form) (λ i. read_literal k form) (Spells (Made (λ s t u. spans s (form t) u) (The k)))
unfolding read_literal
literal_looks k form = made_looks (λ s t u. spans s (form t) u) (token_looks k)

abbrev Unary : ℕ → Rule Expression
Unary n = IsUnaryOver (IsUnary (suc n)) (IsExpr (suc n)) (AreArguments (IsExpr (suc n)))

named_here : (n : ℕ) → Below true read_expr IsExpr n → (s : Place) → same (kind_at s) Kind.Name ≡ true → At true (λ x. same x Kind.Name) (read_named n) read_named (Spells (Unary n)) s
unfolding read_named
named_here n deeper s is =
    choose_second_at (λ a b. same b Kind.OpenSquare) (tests_second Kind.OpenSquare) s is
    (wider (spells_to (λ s e u h. (e, an_element h.0 h.1 h.2))) (λ h. h) ((made_looks (λ s x u. spans s (element x.0 x.1) u) (both_looks name_looks (index_looks n deeper))).here s))
    (choose_second_at (λ a b. same b Kind.OpenRound) (tests_second Kind.OpenRound) s is
    (wider (spells_to (λ s e u h. (e, a_call h.0 h.1 h.2))) (λ h. h) ((made_looks (λ s x u. spans s (call x.0 (expressions_of x.1)) u) (both_looks name_looks (arguments_looks n deeper))).here s))
    (wider (spells_to (λ s e u h. (e, a_name h.0 h.1 h.2))) (λ h. h) ((made_looks (λ s w u. spans s (variable w) u) name_looks).here s)))

word_of_unary : (n : ℕ) → (cs : List Lexeme) × Spells (Unary n) cs
word_of_unary n = (token Kind.Number ∷ [], record { each = λ b ws. (spans (before_of b (token Kind.Number ∷ ws)) (number (number_of (token Kind.Number))) (before_of 0 ws), 0, a_number (token Kind.Number) (ws, refl, refl, refl) refl) })

form_looks : (n : ℕ) → Below true read_unary IsUnary n → Looks true none_of_all (read_form n) read_form (Spells (Unary n))
unfolding read_form
form_looks n deeper = record { here = here; some = word_of_unary n }
  where
    here : (s : Place) → At true none_of_all (read_form n) read_form (Spells (Unary n)) s
    here s =
        choose_at (tests_at Kind.Not) s (λ is. wider (spells_to (λ s e u h. (e, a_not h.0 h.1 h.2))) (λ h. refl) ((prefixed_looks Kind.Not Prefix.Not n deeper).here s)) (λ other.
        choose_at (tests_at Kind.Minus) s (λ is. wider (spells_to (λ s e u h. (e, a_negative h.0 h.1 h.2))) (λ h. refl) ((prefixed_looks Kind.Minus Prefix.Negative n deeper).here s)) (λ other.
        choose_at (tests_at Kind.Number) s (λ is. wider (spells_to (λ s e u h. (e, a_number h.0 h.1 h.2))) (λ h. refl) ((literal_looks Kind.Number (λ t. number (number_of t))).here s)) (λ other.
        choose_at (tests_at Kind.Text) s (λ is. wider (spells_to (λ s e u h. (e, a_string h.0 h.1 h.2))) (λ h. refl) ((literal_looks Kind.Text (λ t. text (spelled t))).here s)) (λ other.
        choose_at (tests_at Kind.True) s (λ is. wider (spells_to (λ s e u h. (e, a_true h.0 h.1 h.2))) (λ h. refl) ((literal_looks Kind.True (λ t. truth true)).here s)) (λ other.
        choose_at (tests_at Kind.False) s (λ is. wider (spells_to (λ s e u h. (e, a_false h.0 h.1 h.2))) (λ h. refl) ((literal_looks Kind.False (λ t. truth false)).here s)) (λ other.
        choose_at (tests_at Kind.OpenRound) s (λ is. wider (spells_to (λ s e u h. (e, a_parenthesis h))) (λ h. refl) ((test_looks n (expr_below n deeper)).here s)) (λ other.
        choose_at (tests_at Kind.Name) s (λ is. wider (λ cs h. h) (λ h. refl) (named_here n (expr_below n deeper) s is)) (λ other.
        never_at s (word_of_unary n) refl))))))))

pub unary_looks : (n : ℕ) → Looks true none_of_all (read_unary n) read_unary (Spells (IsUnary (suc (suc n))))
unfolding IsUnary
unary_looks zero = alike_looks (λ s. sym (form_same zero s)) (λ m v. (m, sym (form_same m v))) (form_looks zero (λ d is. absurd (cc)))
unary_looks (suc n) =
    alike_looks (λ s. sym (form_same (suc n) s)) (λ m v. (m, sym (form_same m v)))
    (form_looks (suc n) (λ d is. let less : n ≡ d = cc in subst (λ x. Looks true none_of_all (read_unary x) read_unary (Spells (IsUnary (suc (suc n))))) less (unary_looks n)))

pub expr_looks : (n : ℕ) → Looks true none_of_all (read_expr n) read_expr (Spells (IsExpr (suc (suc n))))
unfolding read_expr
expr_looks n = expr_over_looks (unary_looks n)

pub deep_expr : (n : ℕ) → Below true read_expr IsExpr n
deep_expr n = below read_expr IsExpr n (λ d is. expr_looks d)

-- DECLARATIONS, CALLS, RIGHT SIDES

type_missed : (b : ℕ) (ts : List Lexeme) (m : Option Base) (f : ParseStop) → base_of (kind_of ts) ≡ m → base_over m (before_of b ts) ≡ refused f
    → ((ts ≡ []) × (AtEnd ≡ f)) ⊎ ((t : Lexeme) × (us : List Lexeme) × (ts ≡ t ∷ us) × (Unexpected t.span ≡ f) × (base_of t.kind ≡ None))
type_missed b [] None f is h = let same' : AtEnd ≡ f = cc in inl (refl, same')
type_missed b (t ∷ ts) None f is h = let same' : Unexpected t.span ≡ f = cc in inr (t, ts, refl, same', is)
type_missed b [] (Some x) f is h = absurd (cc)
type_missed b (t ∷ ts) (Some x) f is h = absurd (cc)

type_word : (cs : List Lexeme) × Spells IsType cs
type_word = (token Kind.Int ∷ [], record { each = λ b ws. (Base.Int, 0, (token Kind.Int, (ws, refl, refl, refl), refl)) })

pub type_looks : {I : Type 0} → Looks {I = I} true none_of_all read_type (λ i. read_type) (Spells IsType)
unfolding read_type
type_looks {I} = record { here = λ s. record { gives = λ a u h. gives s a u h; stops = λ f h. stops s f (type_missed s.before s.rest (base_of (kind_at s)) f refl h) }; some = type_word }
  where
    gives : (s : Place) (a : Base) (u : Place) → base_over (base_of (kind_at s)) s ≡ got a u → (cs : List Lexeme) × (s.rest ≡ cs ++ u.rest) × (true ≡ true → cs ≡ [] → ⊥) × Spells IsType cs
        × ((i : I) (ws : List Lexeme) → kind_of ws ≡ kind_of u.rest → Comes (base_over (base_of (kind_of (cs ++ ws))) (before_of s.before (cs ++ ws))) (before_of u.before ws))
    gives s a u h =
        let p = (type_law.sound s a u h).0 in
        let t = p.0 in
        let q = p.1 in (
          t ∷ [],
          q.2 ∙ ap (λ w. t ∷ w.rest) (sym q.3),
          λ takes none. absurd (cc),
          record { each = λ b ws. (a, t.span.to, (t, (ws, refl, refl, refl), p.2)) },
          λ i ws kind. inl (a, type_law.complete (before_of s.before (t ∷ ws)) a (before_of u.before ws) (t, (ws, refl, refl, ap (λ w. before_of w.before ws) q.3), p.2) tt),
        )

    stops : (s : Place) (f : ParseStop) → ((s.rest ≡ []) × (AtEnd ≡ f)) ⊎ ((t : Lexeme) × (us : List Lexeme) × (s.rest ≡ t ∷ us) × (Unexpected t.span ≡ f) × (base_of t.kind ≡ None))
        → Halts none_of_all (λ (i : I) v. base_over (base_of (kind_at v)) v) (Spells IsType) s f
    stops s f (inl (none, is)) = subst (Halts none_of_all (λ (i : I) v. base_over (base_of (kind_at v)) v) (Spells IsType) s) is (subst (Opens (Spells IsType)) (sym none) type_word)
    stops s f (inr (t, us, rest, is, none)) =
        subst (Halts none_of_all (λ (i : I) v. base_over (base_of (kind_at v)) v) (Spells IsType) s) is
        ([], t, us, rest, refl, type_word, λ i ws. (Unexpected t.span, ap (λ m. base_over m (before_of s.before (t ∷ ws))) none), λ first. refl)

keys_looks : {I : Type 0} → Looks {I = I} false none_of_all read_keys (λ i. read_keys) (Spells AreKeys)
unfolding read_keys
keys_looks = made_looks (λ s x u. keys_of x) (maybe_looks {T'' = none_of_all} (tests_at Kind.String) (token_looks Kind.String) (λ k is other. refl))

keys_word : (cs : List Lexeme) × Spells AreKeys cs
keys_word = ([], spells_made (λ s x u. keys_of x) [] (spells_no (The Kind.String) [] refl))

brackets_looks : (n : ℕ) → Looks true (λ x. same x Kind.OpenSquare) (read_brackets n) read_brackets (Spells (Square AreKeys))
unfolding read_brackets
brackets_looks n = bracket_looks {R = AreKeys} Kind.OpenSquare Kind.CloseSquare n keys_word (λ d is. keys_looks)

pub decl_looks : (n : ℕ) → Looks true none_of_all (read_decl n) read_decl (Spells (IsDecl (suc (suc n))))
unfolding read_decl
decl_looks n =
    made_looks (λ s x u. record { base = x.0; name = x.1.0; shape = shape_of x.1.1 })
    (both_looks type_looks (both_looks name_looks (maybe_looks {T'' = none_of_all} (tests_at Kind.OpenSquare) (brackets_looks n) (λ k is other. refl))))

decl_below : (n : ℕ) → Below true read_decl IsDecl n
decl_below n = below read_decl IsDecl n (λ d is. decl_looks d)

pub parameters_looks : (n : ℕ) → Looks true (λ x. same x Kind.OpenRound) (read_parameters n) read_parameters (Spells (AreParameters (suc (suc n))))
unfolding read_parameters read_decls
parameters_looks n =
    bracket_looks {R = Perhaps (Commas (IsDecl (suc n)))} Kind.OpenRound Kind.CloseRound n (perhaps_word (IsDecl (suc n))) (λ d is. perhaps_looks (tests_at Kind.CloseRound) (decl_below n d is))

pub names_looks : (n : ℕ) → Looks true (λ x. same x Kind.OpenRound) (read_names n) read_names (Spells (AreNames (suc (suc n))))
unfolding read_names read_words
names_looks n = bracket_looks {R = Commas IsName} Kind.OpenRound Kind.CloseRound n (commas_looks (name_looks {I = ℕ})).some (λ d is. commas_looks name_looks)

pub call_looks : (n : ℕ) → Looks true (λ x. same x Kind.Name) (read_call n) read_call (Spells (IsCall (suc (suc n))))
unfolding read_call
call_looks n = made_looks (λ s x u. record { node = node s u; name = x.0; arguments = x.1 }) (both_looks name_looks (arguments_looks n (deep_expr n)))

elements_looks : (n : ℕ) → Looks true (λ x. same x Kind.OpenSquare) (read_elements n) read_elements (Spells (Square (Commas (IsExpr (suc n)))))
unfolding read_elements
elements_looks n =
    bracket_looks {R = Commas (IsExpr (suc n))} Kind.OpenSquare Kind.CloseSquare n (commas_word (expr_word (suc n))) (exprs_below n (deep_expr n))
  where
    commas_word : (cs : List Lexeme) × Spells (IsExpr (suc n)) cs → (cs : List Lexeme) × Spells (Commas (IsExpr (suc n))) cs
    commas_word one = (one.0 ++ [], spells_made cons (one.0 ++ []) (spells_both one.0 [] one.1 (spells_nil (The Kind.Comma ▹ IsExpr (suc n)))))

pub right_looks : (n : ℕ) → Looks true none_of_all (read_right n) read_right (Spells (IsRight (suc (suc n))))
unfolding read_right
right_looks n = record {
  here = λ s.
      choose_at (tests_at Kind.OpenSquare) s (λ is. wider (λ cs. spells_to (λ s r u h. (r, a_list h.0 h.1 h.2)) cs) (λ h. refl) ((made_looks (λ s es u. list (node s u) es) (elements_looks n)).here s))
      (λ other. wider (λ cs. spells_to (λ s r u h. (r, a_value h.0 h.1 h.2)) cs) (λ h. h) ((made_looks (λ s e u. value e) (expr_looks n)).here s));
  some =
      let one = (made_looks (λ s e u. value e) (expr_looks n)).some in
      (one.0, spells_to (λ s r u h. (r, a_value h.0 h.1 h.2)) one.0 one.1);
}

-- PRIORITIES

abbrev prio_token : Lexeme
prio_token = record { kind = Kind.Name; span = record { from = 0; to = 0 }; text = 112 ∷ 114 ∷ 105 ∷ 111 ∷ [] }

prio_looks : Looks {I = ℕ} true none_of_all read_prio (λ i. read_prio) (Spells IsPrio)
unfolding read_prio
prio_looks =
    wider_looks (λ cs. spells_to {R = The_checked is_prio Kind.Name} {Q = IsPrio} (λ s t u (is, holds). (t, (is, spells_is t.text (112 ∷ 114 ∷ 105 ∷ 111 ∷ []) holds))) cs) (λ k h. h)
    (checked_looks is_prio Kind.Name prio_token refl refl)

small_looks : Looks {I = ℕ} true none_of_all read_small (λ i. read_small) (Spells IsSmall)
unfolding read_small
small_looks =
    made_small (checked_looks (λ t. nat_le (decimal t.text) max_priority) Kind.Number (token Kind.Number) refl refl)
  where
    made_small : Looks {I = ℕ} true none_of_all (checked (λ t. nat_le (decimal t.text) max_priority) (the Kind.Number)) (λ i. checked (λ t. nat_le (decimal t.text) max_priority) (the Kind.Number)) (Spells (The_checked (λ t. nat_le (decimal t.text) max_priority) Kind.Number))
        → Looks {I = ℕ} true none_of_all (made (λ s t u. decimal t.text) (checked (λ t. nat_le (decimal t.text) max_priority) (the Kind.Number))) (λ i. made (λ s t u. decimal t.text) (checked (λ t. nat_le (decimal t.text) max_priority) (the Kind.Number))) (Spells IsSmall)
    made_small one =
        wider_looks (λ cs. spells_to {R = Made (λ s t u. decimal t.text) (The_checked (λ t. nat_le (decimal t.text) max_priority) Kind.Number)} {Q = IsSmall} (λ s n u (t, (is, holds), same'). (n, (t, is, leb-true (decimal t.text) max_priority holds, same'))) cs) (λ k h. h)
        (made_looks (λ s t u. decimal t.text) one)

pub priority_looks : Looks {I = ℕ} true (λ x. same x Kind.At) read_priority (λ i. read_priority) (Spells IsPriority)
unfolding read_priority
priority_looks =
    made_looks (λ s x u. signed x.0 x.1)
    (drop_looks (token_looks Kind.At) (drop_looks prio_looks (drop_looks (token_looks Kind.Assign)
    (last_both_looks none_of_all (maybe_looks {T'' = none_of_all} (tests_at Kind.Minus) (token_looks Kind.Minus) (λ k is other. refl)) small_looks (λ k h. h) (λ k h. h)))))

-- WHAT A LOOP GOES OVER

bounds_below : (n : ℕ) → Below true (λ d. bounds_over (read_expr d)) (λ d. IsExpr d ⋆ ((The Kind.Colon ▹ IsExpr d) ⋆ Maybe (The Kind.Colon ▹ IsExpr d))) n
bounds_below n d is =
    both_looks (deep_expr n d is)
    (both_looks (drop_looks (token_looks Kind.Colon) (deep_expr n d is)) (maybe_looks {T'' = none_of_all} (tests_at Kind.Colon) (drop_looks (token_looks Kind.Colon) (deep_expr n d is)) (λ k is other. refl)))

bounds_word : (n : ℕ) → (cs : List Lexeme) × Spells (IsExpr n ⋆ ((The Kind.Colon ▹ IsExpr n) ⋆ Maybe (The Kind.Colon ▹ IsExpr n))) cs
bounds_word n =
    let one = expr_word n in
    let colon = spells_drop (token Kind.Colon ∷ []) one.0 (spells_one Kind.Colon (token Kind.Colon ∷ []) (token Kind.Colon, refl, refl)) one.1 in
    (one.0 ++ ((token Kind.Colon ∷ one.0) ++ []), spells_both one.0 ((token Kind.Colon ∷ one.0) ++ []) one.1 (spells_both (token Kind.Colon ∷ one.0) [] colon (spells_no (The Kind.Colon ▹ IsExpr n) [] refl)))

pub source_looks : (n : ℕ) → Looks true none_of_all (read_source n) read_source (Spells (IsSource (suc (suc n))))
unfolding read_source read_range
source_looks n = record {
  here = λ s.
      choose_at (tests_at Kind.OpenSquare) s
      (λ is. wider (λ cs. spells_to (λ s o u h. (o, a_range h)) cs) (λ h. refl)
      ((made_looks (λ s x u. range x.0 x.1.0 x.1.1) (bracket_looks {R = IsExpr (suc n) ⋆ ((The Kind.Colon ▹ IsExpr (suc n)) ⋆ Maybe (The Kind.Colon ▹ IsExpr (suc n)))} Kind.OpenSquare Kind.CloseSquare n (bounds_word (suc n)) (bounds_below n))).here s))
      (λ other. wider (λ cs. spells_to (λ s o u h. (o, an_array h.0 h.1 h.2)) cs) (λ h. refl) ((made_looks (λ s w u. array w) name_looks).here s));
  some =
      let one = (made_looks (λ s w u. array w) (name_looks {I = ℕ})).some in
      (one.0, spells_to (λ s o u h. (o, an_array h.0 h.1 h.2)) one.0 one.1);
}
