-- The laws of declarations, calls, right sides, priorities and what a loop goes over.
use Rattle.std.specs.Prelude.{nat_eq, ◌&&◌}
use Rattle.std.proofs.lemmas.Bool.{eqb-true, leb-true, le-leb}
use Rattle.lexer.specs.Bytes.{decimal}
use Rattle.std.proofs.Common.{◌≡◌, ℕ, ◌+◌, ◌≤◌, length, List, [], ◌∷◌, Option, Some, None, Bool, true, false, refl, ap, sym, ◌∙◌, subst, arith}
use Rattle.language.specs.declared.tree.Base.{Base}
use Rattle.language.specs.Tree.{Expression, RightSide, value, list, Over, array, range}
use Rattle.lexer.specs.Items.{Lexeme}
use Rattle.lexer.specs.declared.token.TokenKind.{TokenKind}
use Rattle.lexer.specs.declared.token.TokenKind.TheVariants as Kind
use Rattle.language.specs.Kinds.{same, base_of}
use Rattle.language.specs.Rules.{Place, behind, Rule, The, ◌⋆◌, ◌▹◌, Made, Maybe, Commas, Round, Square, Deeper}
use Rattle.language.specs.Grammar.{node, IsName, IsExpr, AreArguments, IsType, shape_of, keys_of, AreKeys, IsDecl, AreParameters, AreNames, IsCall, IsRight, a_value, a_list, IsPrio, IsSmall, IsPriority, signed, IsRange, IsSource, an_array, a_range}
use Rattle.syntax.specs.Readers.{got, kind_of, kind_at, at, the, ◌▸◌, made}
use Rattle.syntax.specs.Reading.{is_some, base_over, at_type, read_name, read_type, read_keys, read_brackets, read_decl, read_decls, read_parameters, read_words, read_names, read_expr, read_exprs, read_arguments, read_index, read_test, read_call, read_elements, read_right, spells, read_prio, read_small, read_priority, bounds_over, read_range, read_source}
use Rattle.syntax.proofs.spellings.Spelling.{spells_true}
use Rattle.syntax.proofs.combining.Combine.{Law, Any, Tests, Begins, Stops, Sound, got_value, got_place, kind_the, same_kind, the_law, both_law, both_last_law, drop_law, made_law, rule_law, sound_as, sound_choose, choose_first, choose_second, begins_the, not_kind, maybe_law, commas_law, perhaps_law, tests_at, bracket_law, checked_law}
use Rattle.syntax.proofs.expressions.Expressions.{Ends, ends_of, name_law, expr_law, starts_expr, expr_begins, arguments_over_law}
use Rattle.values.specs.Limits.{max_priority}

-- TYPES

-- whether a kind names a type
abbrev pub names_type : TokenKind → Bool
names_type k = is_some (base_of k)

pub tests_type : Tests at_type names_type
unfolding at_type
tests_type = record { is = λ s. refl }

type_some : (before : ℕ) (t : Lexeme) (ts : List Lexeme) (b : Base) (u : Place) (m : Option Base) → base_of t.kind ≡ m → base_over m (record { before = before; rest = t ∷ ts }) ≡ got b u
    → IsType (record { before = before; rest = t ∷ ts }) b u × (1 + length u.rest ≤ length (t ∷ ts))
type_some before t ts b u None is h = absurd (cc)
type_some before t ts b u (Some c) is h =
    let value = got_value c b (behind t ts) u h in
    let place = got_place c b (behind t ts) u h in
    let here : IsType (record { before = before; rest = t ∷ ts }) c (behind t ts) = (t, (ts, refl, refl, refl), is) in (
      subst (λ y. IsType (record { before = before; rest = t ∷ ts }) y u) value (subst (λ w. IsType (record { before = before; rest = t ∷ ts }) c w) place here),
      subst (λ w. 1 + length w.rest ≤ length (t ∷ ts)) place (omega arith),
    )

type_rest : (before : ℕ) (ts : List Lexeme) (b : Base) (u : Place) → base_over (base_of (kind_of ts)) (record { before = before; rest = ts }) ≡ got b u
    → IsType (record { before = before; rest = ts }) b u × (1 + length u.rest ≤ length ts)
type_rest before [] b u h = absurd (cc)
type_rest before (t ∷ ts) b u h = type_some before t ts b u (base_of t.kind) refl h

pub type_law : Law 1 read_type IsType Any
unfolding read_type
type_law = record {
  sound = λ s b u h. type_rest s.before s.rest b u h;
  complete = λ s b u (t, (ts, kind, rest, is), base) after.
      ap (λ xs. base_over (base_of (kind_of xs)) (record { before = s.before; rest = xs })) rest
      ∙ ap (λ m. base_over m (record { before = s.before; rest = t ∷ ts })) base
      ∙ ap (got b) (sym is);
}

pub type_begins : Begins IsType names_type
type_begins s b u (t, here, base) = ap names_type (kind_the t.kind s t u here) ∙ ap is_some base

-- DECLARATIONS

keys_law : Law 0 read_keys AreKeys (Stops Any (λ k. same k Kind.String))
unfolding read_keys
keys_law =
    made_law (λ s x u. keys_of x)
    (maybe_law (tests_at Kind.String) (the_law Kind.String) (λ s t u is. same_kind (kind_at s) Kind.String (kind_the Kind.String s t u is)))

pub brackets_law : (depth : ℕ) → Law 1 (read_brackets depth) (Square (Deeper (λ d. AreKeys) depth)) Any
unfolding read_brackets
brackets_law depth = bracket_law Kind.OpenSquare Kind.CloseSquare (λ d. keys_law) (tt, refl) depth

-- no brackets follow a declaration
abbrev pub After_decl : TokenKind → Type 0
After_decl = Stops Any (λ k. same k Kind.OpenSquare)

pub decl_law : (depth : ℕ) → Law 1 (read_decl depth) (IsDecl depth) After_decl
unfolding read_decl
decl_law depth =
    made_law (λ s x u. record { base = x.0; name = x.1.0; shape = shape_of x.1.1 })
    (both_law type_law (both_law name_law (maybe_law (tests_at Kind.OpenSquare) (brackets_law depth) (begins_the Kind.OpenSquare _)) (λ s b u is after. tt)) (λ s b u is after. tt))

pub decl_begins : (depth : ℕ) → Begins (IsDecl depth) names_type
decl_begins depth s d u (x, (v, first, more), is) = type_begins s x.0 v first

pub decls_law : (depth : ℕ) → Law 1 (read_decls depth) (Commas (IsDecl depth)) (Stops After_decl (λ k. same k Kind.Comma))
unfolding read_decls
decls_law depth = commas_law (decl_law depth) (tt, refl)

pub parameters_law : (depth : ℕ) → Law 1 (read_parameters depth) (AreParameters depth) Any
unfolding read_parameters
parameters_law depth =
    bracket_law Kind.OpenRound Kind.CloseRound
    (λ d. perhaps_law (tests_at Kind.CloseRound) (decls_law d)
    (λ s a u (x, (v, first, more), is). not_kind names_type (kind_at s) Kind.CloseRound (decl_begins d s x.0 v first) refl) (λ s u (x, more, is). absurd (cc)))
    (((tt, refl), refl), refl) depth

-- NAMES, CALLS, INDEXES AND TESTS

pub words_law : Law 1 read_words (Commas IsName) (Stops Any (λ k. same k Kind.Comma))
unfolding read_words
words_law = commas_law name_law tt

pub names_law : (depth : ℕ) → Law 1 (read_names depth) (AreNames depth) Any
unfolding read_names
names_law depth = bracket_law Kind.OpenRound Kind.CloseRound (λ d. words_law) (tt, refl) depth

pub exprs_law : (depth : ℕ) → Law 1 (read_exprs depth) (Commas (IsExpr depth)) (Stops Ends (λ k. same k Kind.Comma))
unfolding read_exprs
exprs_law depth = commas_law (expr_law depth) (ends_of Kind.Comma refl refl refl)

pub arguments_law : (depth : ℕ) → Law 1 (read_arguments depth) (Round (Deeper (λ d. AreArguments (IsExpr d)) depth)) Any
unfolding read_arguments read_exprs
arguments_law depth =
    bracket_law Kind.OpenRound Kind.CloseRound (λ d. arguments_over_law (expr_law d) (expr_begins d))
    ((ends_of Kind.CloseRound refl refl refl, refl), refl) depth

pub index_law : (depth : ℕ) → Law 1 (read_index depth) (Square (Deeper IsExpr depth)) Any
unfolding read_index
index_law depth = bracket_law Kind.OpenSquare Kind.CloseSquare expr_law (ends_of Kind.CloseSquare refl refl refl) depth

pub test_law : (depth : ℕ) → Law 1 (read_test depth) (Round (Deeper IsExpr depth)) Any
unfolding read_test
test_law depth = bracket_law Kind.OpenRound Kind.CloseRound expr_law (ends_of Kind.CloseRound refl refl refl) depth

pub call_law : (depth : ℕ) → Law 1 (read_call depth) (IsCall depth) Any
unfolding read_call
call_law depth = made_law (λ s x u. record { node = node s u; name = x.0; arguments = x.1 }) (both_law name_law (arguments_law depth) (λ s b u is after. tt))

-- RIGHT SIDES

pub elements_law : (depth : ℕ) → Law 1 (read_elements depth) (Square (Deeper (λ d. Commas (IsExpr d)) depth)) Any
unfolding read_elements
elements_law depth = bracket_law Kind.OpenSquare Kind.CloseSquare exprs_law (ends_of Kind.CloseSquare refl refl refl, refl) depth

pub right_law : (depth : ℕ) → Law 1 (read_right depth) (IsRight depth) Ends
unfolding read_right at
right_law depth = record { sound = sound.gives; complete = complete }
  where
    list_law : Law 1 (made (λ s es u. list (node s u) es) (read_elements depth)) (Made (λ s es u. list (node s u) es) (Square (Deeper (λ d. Commas (IsExpr d)) depth))) Any
    list_law = made_law (λ s es u. list (node s u) es) (elements_law depth)

    value_law : Law 1 (made (λ s e u. value e) (read_expr depth)) (Made (λ s e u. value e) (IsExpr depth)) Ends
    value_law = made_law (λ s e u. value e) (expr_law depth)

    sound : Sound (read_right depth) (IsRight depth)
    sound = sound_choose (at Kind.OpenSquare) (sound_as list_law (λ s r u h. a_list h.0 h.1 h.2)) (sound_as value_law (λ s r u h. a_value h.0 h.1 h.2))

    complete : (s : Place) (r : RightSide) (u : Place) → IsRight depth s r u → Ends (kind_at u) → read_right depth s ≡ got r u
    complete s r u (a_value e h is) after =
        choose_second (at Kind.OpenSquare) (made (λ s es u. list (node s u) es) (read_elements depth)) (made (λ s e u. value e) (read_expr depth)) s
        (not_kind starts_expr (kind_at s) Kind.OpenSquare (expr_begins depth s e u h) refl)
        ∙ value_law.complete s r u (e, h, is) after
    complete s r u (a_list es h is) after =
        choose_first (at Kind.OpenSquare) (made (λ s es u. list (node s u) es) (read_elements depth)) (made (λ s e u. value e) (read_expr depth)) s
        (same_kind (kind_at s) Kind.OpenSquare (kind_the Kind.OpenSquare s h.0 h.1 h.2))
        ∙ list_law.complete s r u (es, h, is) tt

-- PRIORITIES

pub spells_is : (xs ys : List ℕ) → spells xs ys ≡ true → xs ≡ ys
spells_is [] [] h = refl
spells_is [] (y ∷ ys) h = absurd (cc)
spells_is (x ∷ xs) [] h = absurd (cc)
spells_is (x ∷ xs) (y ∷ ys) h = step (λ k. spells_is xs ys k) (nat_eq x y) refl h
  where
    step : (spells xs ys ≡ true → xs ≡ ys) → (b : Bool) → nat_eq x y ≡ b → (b && spells xs ys) ≡ true → ◌≡◌ {A = List ℕ} (x ∷ xs) (y ∷ ys)
    step rest true is more = ap (λ z. z ∷ xs) (eqb-true x y is) ∙ ap (λ zs. y ∷ zs) (rest more)
    step rest false is more = absurd (cc)

pub prio_law : Law 1 read_prio IsPrio Any
unfolding read_prio
prio_law =
    checked_law (the_law Kind.Name) (λ s t u is holds. (is, spells_is t.text (112 ∷ 114 ∷ 105 ∷ 111 ∷ []) holds))
    (λ s t u is. (is.0, spells_true t.text (112 ∷ 114 ∷ 105 ∷ 111 ∷ []) is.1))

-- a number token that spells at most a million
abbrev Is_small_token : Rule Lexeme
Is_small_token s t u = The Kind.Number s t u × (decimal t.text ≤ max_priority)

pub small_law : Law 1 read_small IsSmall Any
unfolding read_small
small_law =
    rule_law (made_law {R = Is_small_token} (λ s t u. decimal t.text)
    (checked_law (the_law Kind.Number) (λ s t u is holds. (is, leb-true (decimal t.text) max_priority holds)) (λ s t u is. (is.0, le-leb (decimal t.text) max_priority is.1))))
    (λ s n u (t, is, same). (t, is.0, is.1, same)) (λ s n u (t, is, small, same). (t, (is, small), same))

pub priority_law : Law 1 read_priority IsPriority Any
unfolding read_priority
priority_law =
    made_law (λ s x u. signed x.0 x.1)
    (drop_law (the_law Kind.At) (drop_law prio_law (drop_law (the_law Kind.Assign)
    (both_last_law (maybe_law (tests_at Kind.Minus) (the_law Kind.Minus) (λ s t u is. same_kind (kind_at s) Kind.Minus (kind_the Kind.Minus s t u is))) small_law
    (λ s n u (t, is, small, same') after. (tt, ap (λ k. same k Kind.Minus) (kind_the Kind.Number s t u is))))
    (λ s b u is after. tt)) (λ s b u is after. tt)) (λ s b u is after. tt))

pub priority_begins : Begins IsPriority (λ k. same k Kind.At)
priority_begins s p u (x, (t, v, here, more), is) = same_kind (kind_at s) Kind.At (kind_the Kind.At s t v here)

-- WHAT A LOOP GOES OVER

ends_colon : (s : Place) → kind_at s ≡ Kind.Colon → Ends (kind_at s)
ends_colon s is = subst Ends (sym is) (ends_of Kind.Colon refl refl refl)

pub bounds_law : (depth : ℕ) → Law 1 (bounds_over (read_expr depth)) (IsExpr depth ⋆ ((The Kind.Colon ▹ IsExpr depth) ⋆ Maybe (The Kind.Colon ▹ IsExpr depth))) (Stops Ends (λ k. same k Kind.Colon))
bounds_law depth =
    both_law (expr_law depth)
    (both_law colon (maybe_law (tests_at Kind.Colon) colon (begins_the Kind.Colon (IsExpr depth))) follows)
    (λ s b u (v, (t, w, here, more), rest) after. ends_colon s (kind_the Kind.Colon s t w here))
  where
    colon : Law 1 (the Kind.Colon ▸ read_expr depth) (The Kind.Colon ▹ IsExpr depth) Ends
    colon = drop_law (the_law Kind.Colon) (expr_law depth) (λ s b u is after. tt)

    follows : (s : Place) (b : Option Expression) (u : Place) → Maybe (The Kind.Colon ▹ IsExpr depth) s b u → Stops Ends (λ k. same k Kind.Colon) (kind_at u) → Ends (kind_at s)
    follows s None u is after = subst (λ w. Ends (kind_at w)) is after.0
    follows s (Some e) u (t, w, here, more) after = ends_colon s (kind_the Kind.Colon s t w here)

pub range_law : (depth : ℕ) → Law 1 (read_range depth) (IsRange depth) Any
unfolding read_range
range_law depth =
    made_law (λ s x u. range x.0 x.1.0 x.1.1)
    (bracket_law Kind.OpenSquare Kind.CloseSquare bounds_law (ends_of Kind.CloseSquare refl refl refl, refl) depth)

pub source_law : (depth : ℕ) → Law 1 (read_source depth) (IsSource depth) Any
unfolding read_source at
source_law depth = record { sound = sound.gives; complete = complete }
  where
    array_law : Law 1 (made (λ s w u. array w) read_name) (Made (λ s w u. array w) IsName) Any
    array_law = made_law (λ s w u. array w) name_law

    sound : Sound (read_source depth) (IsSource depth)
    sound = sound_choose (at Kind.OpenSquare) (sound_as (range_law depth) (λ s o u h. a_range h)) (sound_as array_law (λ s o u h. an_array h.0 h.1 h.2))

    complete : (s : Place) (o : Over) (u : Place) → IsSource depth s o u → Any (kind_at u) → read_source depth s ≡ got o u
    complete s o u (an_array w h is) after =
        choose_second (at Kind.OpenSquare) (read_range depth) (made (λ s w u. array w) read_name) s (ap (λ k. same k Kind.OpenSquare) (kind_the Kind.Name s h.0 u h.1))
        ∙ array_law.complete s o u (w, h, is) tt
    complete s o u (a_range h) after =
        choose_first (at Kind.OpenSquare) (read_range depth) (made (λ s w u. array w) read_name) s (same_kind (kind_at s) Kind.OpenSquare (kind_the Kind.OpenSquare s h.1.0 h.1.1 h.1.2))
        ∙ (range_law depth).complete s o u h tt
