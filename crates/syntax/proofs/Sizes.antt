-- What a reading takes: whole tokens, of which each has room for two numbers, so that those that are left end where they did.
use Rattle.std.specs.Prelude.{◌*◌, Ok, map, sum_by}
use Rattle.std.proofs.Common.{◌≡◌, ℕ, zero, suc, ◌+◌, ◌≤◌, length, List, [], ◌∷◌, Option, Some, None, Bool, true, false, refl, ap, sym, ◌∙◌, arith}
use Rattle.std.proofs.lemmas.List.{length-map}
use Rattle.std.proofs.lemmas.List.Sums.{sum_by-cons}
use Rattle.language.specs.declared.tree.Level.{Level}
use Rattle.language.specs.declared.tree.Operator.{Operator}
use Rattle.language.specs.Tree.{Expression, expressions_of, RightSide, Over, range, Statement, statements_of, Body, body, Part, Tree}
use Rattle.language.specs.Tree.{choice_of}
use Rattle.lexer.specs.Items.{Lexeme, Item, place, SpansRise, ends_at}
use Rattle.lexer.specs.Reading.{items_from}
use Rattle.lexer.specs.Tokens.{Tokens}
use Rattle.lexer.proofs.Items.{only_tokens, spans_rise}
use Rattle.lexer.specs.declared.token.TokenKind.{TokenKind}
use Rattle.lexer.specs.declared.token.TokenKind.TheVariants as Kind
use Rattle.language.specs.Kinds.{repeats}
use Rattle.language.specs.Rules.{Place, Rule, The, ◌⋆◌, ◌▹◌, ◌◃◌, Never, Many, Maybe, AtMostOne, Perhaps, Made, cons, Commas, Round, Square, Deeper}
use Rattle.language.specs.Grammar.{first_of, node, word, chained, shape_of, keys_of, signed, IsName, IsOperator, Repeated, IsChain, IsExprOver, AreArguments, IsUnaryOver, a_not, a_negative, a_number, a_string, a_true, a_false, a_name, an_element, a_call, a_parenthesis, IsUnary, IsExpr, IsType, AreKeys, IsDecl, AreParameters, AreNames, IsCall, IsRight, a_value, a_list, IsRange, IsSource, an_array, a_range}
use Rattle.language.specs.Grammar.{IsPrio, IsSmall, IsPriority, IsElse, a_block, IsStmtOver, a_declaration, an_assignment, a_write, many_assigned, an_if, a_foreach, a_wait, IsBlockOver, IsStmt, IsModule, io, assert, string, IsPart, an_import, a_function, a_statement, IsScript}
use Rattle.language.specs.Numbered.{expression_size, expressions_size, word_size, declaration_size, right_size, calling_size, option_size, over_size, statement_size, command_size, body_size, statements_size, part_size, tree_size}

-- where the tokens end that are left at a place
abbrev pub last_end : Place → ℕ
last_end s = ends_at s.before s.rest

-- from a place on to another one some tokens are taken, of which each has room for two numbers: so many, at least
pub record Steps (s : Place) (n : ℕ) (u : Place) : Type 0 where
  pub fits : n + 2 * length u.rest ≤ 2 * length s.rest
  pub ends : last_end u ≡ last_end s

none : (s u : Place) → u ≡ s → Steps s 0 u
none s u is = record { fits = let same = ap (λ w. length w.rest) is in omega arith; ends = ap last_end is }

both : {s v u : Place} {m n : ℕ} → Steps s m v → Steps v n u → Steps s (m + n) u
both one two = record { fits = let p = one.fits in let q = two.fits in omega arith; ends = two.ends ∙ one.ends }

fewer : {s u : Place} {m n : ℕ} → Steps s n u → m ≤ n → Steps s m u
fewer one le = record { fits = let p = one.fits in omega arith; ends = one.ends }

-- what is read by the rule is no larger than the room of its tokens
pub record Fits {A : Type 0} (size : A → ℕ) (R : Rule A) : Type 0 where
  pub fits : (s : Place) (a : A) (u : Place) → R s a u → Steps s (size a) u

pub the_fits : (k : TokenKind) → Fits (λ t. 2) (The k)
the_fits k = record {
  fits = λ s t u (ts, kind, rest, is). record {
    fits =
        let before = ap (λ xs. length xs) rest in
        let behind = ap (λ w. length w.rest) is in
        let more : length s.rest ≡ 1 + length u.rest = omega arith in
        omega arith;
    ends = ap last_end is ∙ sym (ap (ends_at s.before) rest);
  };
}

pub both_fits : {A B : Type 0} {f : A → ℕ} {g : B → ℕ} {R : Rule A} {Q : Rule B} → Fits f R → Fits g Q → Fits (λ x. f x.0 + g x.1) (R ⋆ Q)
both_fits one two = record { fits = λ s x u (v, first, second). both (one.fits s x.0 v first) (two.fits v x.1 u second) }

pub drop_fits : {A B : Type 0} {n : ℕ} {g : B → ℕ} {R : Rule A} {Q : Rule B} → Fits (λ a. n) R → Fits g Q → Fits (λ b. n + g b) (R ▹ Q)
drop_fits one two = record { fits = λ s b u (a, v, first, second). both (one.fits s a v first) (two.fits v b u second) }

pub keep_fits : {A B : Type 0} {n : ℕ} {f : A → ℕ} {R : Rule A} {Q : Rule B} → Fits f R → Fits (λ b. n) Q → Fits (λ a. f a + n) (R ◃ Q)
keep_fits one two = record { fits = λ s a u (b, v, first, second). both (one.fits s a v first) (two.fits v b u second) }

pub made_fits : {A B : Type 0} {f : A → ℕ} {R : Rule A} (make : Place → A → Place → B) (g : B → ℕ) → Fits f R → ((s : Place) (a : A) (u : Place) → g (make s a u) ≤ f a) → Fits g (Made make R)
made_fits make g one less = record { fits = λ s b u (a, first, is). fewer (one.fits s a u first) (let q = less s a u in let size = ap g is in omega arith) }

pub less_fits : {A : Type 0} {f : A → ℕ} {R : Rule A} (g : A → ℕ) → Fits f R → ((a : A) → g a ≤ f a) → Fits g R
less_fits g one less = record { fits = λ s a u is. fewer (one.fits s a u is) (less a) }

pub never_fits : {A : Type 0} (f : A → ℕ) → Fits f Never
never_fits f = record { fits = λ s a u is. absurd is }

many_within : {A : Type 0} {f : A → ℕ} {R : Rule A} → Fits f R → (s : Place) (xs : List A) (u : Place) → Many R s xs u → Steps s (sum_by f xs) u
many_within one s [] u is = none s u is
many_within {A} {f} one s (x ∷ xs) u (v, first, more) =
    fewer (both (one.fits s x v first) (many_within one v xs u more)) (let sum = sum_by-cons f x xs in omega arith)

pub many_fits : {A : Type 0} {f : A → ℕ} {R : Rule A} → Fits f R → Fits (sum_by f) (Many R)
many_fits one = record { fits = many_within one }

once_within : {A : Type 0} {f : A → ℕ} {R : Rule A} → Fits f R → (s : Place) (xs : List A) (u : Place) → AtMostOne R s xs u → Steps s (sum_by f xs) u
once_within one s [] u is = none s u is
once_within {A} {f} one s (x ∷ []) u is = fewer (one.fits s x u is) (let sum = sum_by-cons f x [] in omega arith)
once_within one s (x ∷ y ∷ ys) u is = absurd is

pub repeated_fits : {A : Type 0} {f : A → ℕ} {R : Rule A} → Fits f R → (b : Bool) → Fits (sum_by f) (Repeated b R)
repeated_fits one true = many_fits one
repeated_fits one false = record { fits = once_within one }

maybe_within : {A : Type 0} {f : A → ℕ} {R : Rule A} → Fits f R → (s : Place) (x : Option A) (u : Place) → Maybe R s x u → Steps s (option_size f x) u
maybe_within one s None u is = none s u is
maybe_within one s (Some a) u is = one.fits s a u is

pub maybe_fits : {A : Type 0} {f : A → ℕ} {R : Rule A} → Fits f R → Fits (option_size f) (Maybe R)
maybe_fits one = record { fits = maybe_within one }

pub commas_fits : {A : Type 0} {f : A → ℕ} {R : Rule A} → Fits f R → Fits (sum_by f) (Commas R)
commas_fits {A} {f} one =
    made_fits cons (sum_by f) (both_fits one (many_fits (less_fits f (drop_fits (the_fits Kind.Comma) one) (λ a. omega arith)))) (λ s x u. let sum = sum_by-cons f x.0 x.1 in omega arith)

perhaps_within : {A : Type 0} (f : A → ℕ) {R : Rule (List A)} → Fits (sum_by f) R → (s : Place) (xs : List A) (u : Place) → Perhaps R s xs u → Steps s (sum_by f xs) u
perhaps_within f one s [] u is = none s u is
perhaps_within f one s (x ∷ xs) u is = one.fits s (x ∷ xs) u is

pub perhaps_fits : {A : Type 0} (f : A → ℕ) {R : Rule (List A)} → Fits (sum_by f) R → Fits (sum_by f) (Perhaps R)
perhaps_fits f one = record { fits = perhaps_within f one }

-- in brackets
pub between_fits : {A : Type 0} {f : A → ℕ} {R : Rule A} (k l : TokenKind) → Fits f R → Fits (λ a. 4 + f a) (The k ▹ (R ◃ The l))
between_fits {A} {f} k l one = less_fits (λ a. 4 + f a) (drop_fits (the_fits k) (keep_fits one (the_fits l))) (λ a. omega arith)

pub deeper_fits : {A : Type 0} {f : A → ℕ} {R : ℕ → Rule A} → ((d : ℕ) → Fits f (R d)) → (depth : ℕ) → Fits f (Deeper R depth)
deeper_fits {A} {f} one zero = never_fits f
deeper_fits one (suc depth) = one depth

-- EXPRESSIONS

pub name_fits : Fits (λ w. 2) IsName
name_fits = made_fits (λ s t u. word t) (λ w. 2) (the_fits Kind.Name) (λ s t u. omega arith)

operator_fits : (l : Level) → Fits (λ o. 2) (IsOperator l)
operator_fits l = record { fits = λ s o u (t, here, op, level). (the_fits t.kind).fits s t u here }

abbrev operand_size : Operator × Expression → ℕ
operand_size p = 2 + expression_size p.1

operands_size : (ps : List (Operator × Expression)) → expressions_size (expressions_of (map (λ q. q.1) ps)) ≤ sum_by operand_size ps
operands_size [] = omega arith
operands_size (p ∷ ps) = let more = operands_size ps in let sum = sum_by-cons operand_size p ps in omega arith

chain_size : (s : Place) (x : Expression × List (Operator × Expression)) (u : Place) → expression_size (chained s x u) ≤ expression_size x.0 + sum_by operand_size x.1
chain_size s (x, []) u = omega arith
chain_size s (x, p ∷ ps) u = let more = operands_size ps in let sum = sum_by-cons operand_size p ps in omega arith

chain_fits : {R : Rule Expression} (l : Level) → Fits expression_size R → Fits expression_size (IsChain l R)
chain_fits l one = made_fits chained expression_size (both_fits one (repeated_fits (both_fits (operator_fits l) one) (repeats l))) chain_size

pub over_fits : {R : Rule Expression} → Fits expression_size R → Fits expression_size (IsExprOver R)
over_fits one =
    chain_fits Level.Or (chain_fits Level.And (chain_fits Level.Equality (chain_fits Level.Order (chain_fits Level.Sum (chain_fits Level.Product one)))))

pub arguments_fits : {R : Rule Expression} → Fits expression_size R → Fits (sum_by expression_size) (AreArguments R)
arguments_fits one = perhaps_fits expression_size (commas_fits one)

pub all_size : (es : List Expression) → expressions_size (expressions_of es) ≡ sum_by expression_size es
all_size [] = refl
all_size (e ∷ es) = ap (λ n. expression_size e + n) (all_size es) ∙ sym (sum_by-cons expression_size e es)

unary_fits : {U E : Rule Expression} {Ar : Rule (List Expression)} → Fits expression_size U → Fits expression_size E → Fits (sum_by expression_size) Ar → Fits expression_size (IsUnaryOver U E Ar)
unary_fits {U} {E} {Ar} unary expr arguments = record { fits = fits }
  where
    fits : (s : Place) (e : Expression) (u : Place) → IsUnaryOver U E Ar s e u → Steps s (expression_size e) u
    fits s e u (a_not x h is) =
        fewer ((drop_fits (the_fits Kind.Not) unary).fits s x u h)
        (let size : expression_size e ≡ 1 + expression_size x = ap expression_size is in omega arith)
    fits s e u (a_negative x h is) =
        fewer ((drop_fits (the_fits Kind.Minus) unary).fits s x u h)
        (let size : expression_size e ≡ 1 + expression_size x = ap expression_size is in omega arith)
    fits s e u (a_number t h is) = fewer ((the_fits Kind.Number).fits s t u h) (let size : expression_size e ≡ 1 = ap expression_size is in omega arith)
    fits s e u (a_string t h is) = fewer ((the_fits Kind.Text).fits s t u h) (let size : expression_size e ≡ 1 = ap expression_size is in omega arith)
    fits s e u (a_true t h is) = fewer ((the_fits Kind.True).fits s t u h) (let size : expression_size e ≡ 1 = ap expression_size is in omega arith)
    fits s e u (a_false t h is) = fewer ((the_fits Kind.False).fits s t u h) (let size : expression_size e ≡ 1 = ap expression_size is in omega arith)
    fits s e u (a_name w h is) = fewer (name_fits.fits s w u h) (let size : expression_size e ≡ 2 = ap expression_size is in omega arith)
    fits s e u (an_element x h is) =
        fewer ((both_fits name_fits (between_fits Kind.OpenSquare Kind.CloseSquare expr)).fits s x u h)
        (let size : expression_size e ≡ 1 + (1 + expression_size x.1) = ap expression_size is in omega arith)
    fits s e u (a_call x h is) =
        fewer ((both_fits name_fits (between_fits Kind.OpenRound Kind.CloseRound arguments)).fits s x u h)
        (let size : expression_size e ≡ 1 + (1 + expressions_size (expressions_of x.1)) = ap expression_size is in
        let all = all_size x.1 in
        omega arith)
    fits s e u (a_parenthesis h) = let p = (between_fits Kind.OpenRound Kind.CloseRound expr).fits s e u h in omega arith

pub depth_fits : (depth : ℕ) → Fits expression_size (IsUnary depth)
unfolding IsUnary
depth_fits zero = unary_fits (never_fits expression_size) (never_fits expression_size) (never_fits (sum_by expression_size))
depth_fits (suc depth) = unary_fits (depth_fits depth) (over_fits (depth_fits depth)) (arguments_fits (over_fits (depth_fits depth)))

pub expr_fits : (depth : ℕ) → Fits expression_size (IsExpr depth)
expr_fits depth = over_fits (depth_fits depth)

-- DECLARATIONS, CALLS AND RIGHT SIDES

type_fits : Fits (λ b. 2) IsType
type_fits = record { fits = λ s b u (t, here, base). (the_fits t.kind).fits s t u here }

keys_fits : Fits (λ κ. 0) AreKeys
keys_fits = made_fits (λ s x u. keys_of x) (λ κ. 0) (maybe_fits (the_fits Kind.String)) (λ s x u. omega arith)

decl_fits : (depth : ℕ) → Fits (λ d. 4) (IsDecl depth)
decl_fits depth =
    made_fits (λ s x u. record { base = x.0; name = x.1.0; shape = shape_of x.1.1 }) (λ d. 4)
    (both_fits type_fits (both_fits name_fits (maybe_fits (between_fits Kind.OpenSquare Kind.CloseSquare (deeper_fits (λ d. keys_fits) depth))))) (λ s x u. omega arith)

parameters_fits : (depth : ℕ) → Fits (λ ds. 4 + sum_by declaration_size ds) (AreParameters depth)
parameters_fits depth =
    between_fits Kind.OpenRound Kind.CloseRound
    (deeper_fits (λ d. perhaps_fits declaration_size (commas_fits (less_fits declaration_size (decl_fits d) (λ d. omega arith)))) depth)

names_fits : (depth : ℕ) → Fits (λ ws. 4 + sum_by word_size ws) (AreNames depth)
names_fits depth = between_fits Kind.OpenRound Kind.CloseRound (deeper_fits (λ d. commas_fits (less_fits word_size name_fits (λ w. omega arith))) depth)

call_fits : (depth : ℕ) → Fits (λ c. 4 + calling_size c) (IsCall depth)
call_fits depth =
    made_fits (λ s x u. record { node = node s u; name = x.0; arguments = x.1 }) (λ c. 4 + calling_size c)
    (both_fits name_fits (between_fits Kind.OpenRound Kind.CloseRound (deeper_fits (λ d. arguments_fits (expr_fits d)) depth))) (λ s x u. omega arith)

right_fits : (depth : ℕ) → Fits right_size (IsRight depth)
right_fits depth = record { fits = fits }
  where
    fits : (s : Place) (r : RightSide) (u : Place) → IsRight depth s r u → Steps s (right_size r) u
    fits s r u (a_value e h is) = fewer ((expr_fits depth).fits s e u h) (let size : right_size r ≡ expression_size e = ap right_size is in omega arith)
    fits s r u (a_list es h is) =
        fewer ((between_fits Kind.OpenSquare Kind.CloseSquare (deeper_fits (λ d. commas_fits (expr_fits d)) depth)).fits s es u h)
        (let size : right_size r ≡ 1 + sum_by expression_size es = ap right_size is in omega arith)

range_fits : (depth : ℕ) → Fits over_size (IsRange depth)
range_fits depth =
    made_fits (λ s x u. range x.0 x.1.0 x.1.1) over_size
    (between_fits Kind.OpenSquare Kind.CloseSquare
    (deeper_fits (λ d. both_fits (expr_fits d) (both_fits (drop_fits (the_fits Kind.Colon) (expr_fits d)) (maybe_fits (less_fits expression_size (drop_fits (the_fits Kind.Colon) (expr_fits d)) (λ e. omega arith))))) depth))
    (λ s x u. omega arith)

source_fits : (depth : ℕ) → Fits over_size (IsSource depth)
source_fits depth = record { fits = fits }
  where
    fits : (s : Place) (o : Over) (u : Place) → IsSource depth s o u → Steps s (over_size o) u
    fits s o u (an_array w h is) = fewer (name_fits.fits s w u h) (let size : over_size o ≡ 1 = ap over_size is in omega arith)
    fits s o u (a_range h) = (range_fits depth).fits s o u h

-- STATEMENTS

priority_fits : Fits (λ p. 0) IsPriority
priority_fits =
    made_fits (λ s x u. signed x.0 x.1) (λ p. 0)
    (drop_fits (the_fits Kind.At) (drop_fits prio (drop_fits (the_fits Kind.Assign) (both_fits (maybe_fits (the_fits Kind.Minus)) small)))) (λ s x u. omega arith)
  where
    prio : Fits (λ t. 2) IsPrio
    prio = record { fits = λ s t u is. (the_fits Kind.Name).fits s t u is.0 }

    small : Fits (λ n. 2) IsSmall
    small = record { fits = λ s n u (t, is, less, same). (the_fits Kind.Number).fits s t u is }

else_fits : {B : Rule Body} {S : Rule Statement} → Fits body_size B → Fits statement_size S → Fits body_size (IsElse B S)
else_fits {B} {S} block stmt = record { fits = fits }
  where
    fits : (s : Place) (b : Body) (u : Place) → IsElse B S s b u → Steps s (body_size b) u
    fits s b u (a_block h) = block.fits s b u h
    fits s b u (an_if x t v here h is) = fewer (stmt.fits s x u h) (let size : body_size b ≡ statement_size x + 0 = ap body_size is in omega arith)

choice_size : (e : Expression) (b : Body) (o : Option Body) → command_size (choice_of e b o) ≡ expression_size e + (body_size b + option_size body_size o)
choice_size e b None = omega arith
choice_size e b (Some other) = omega arith

stmt_fits : {B : Rule Body} {S : Rule Statement} (depth : ℕ) → Fits body_size B → Fits statement_size S → Fits statement_size (IsStmtOver depth B S)
stmt_fits {B} {S} depth block stmt = record { fits = fits }
  where
    index : Fits (λ e. 4 + expression_size e) (Square (Deeper IsExpr depth))
    index = between_fits Kind.OpenSquare Kind.CloseSquare (deeper_fits expr_fits depth)

    test : Fits (λ e. 4 + expression_size e) (Round (Deeper IsExpr depth))
    test = between_fits Kind.OpenRound Kind.CloseRound (deeper_fits expr_fits depth)

    fits : (s : Place) (c : Statement) (u : Place) → IsStmtOver depth B S s c u → Steps s (statement_size c) u
    fits s c u (a_declaration x h is) =
        fewer ((both_fits (decl_fits depth) (keep_fits (maybe_fits (less_fits right_size (drop_fits (the_fits Kind.Assign) (right_fits depth)) (λ r. omega arith))) (the_fits Kind.Semicolon))).fits s x u h)
        (let size : statement_size c ≡ 1 + (1 + option_size right_size x.1) = ap statement_size is in omega arith)
    fits s c u (an_assignment x h is) =
        fewer ((both_fits name_fits (drop_fits (the_fits Kind.Assign) (keep_fits (right_fits depth) (the_fits Kind.Semicolon)))).fits s x u h)
        (let size : statement_size c ≡ 1 + (1 + right_size x.1) = ap statement_size is in omega arith)
    fits s c u (a_write x h is) =
        fewer ((both_fits name_fits (both_fits index (drop_fits (the_fits Kind.Assign) (keep_fits (expr_fits depth) (the_fits Kind.Semicolon))))).fits s x u h)
        (let size : statement_size c ≡ 1 + (1 + expression_size x.1.0 + expression_size x.1.1) = ap statement_size is in omega arith)
    fits s c u (many_assigned x h is) =
        fewer ((both_fits (names_fits depth) (drop_fits (the_fits Kind.Assign) (keep_fits (call_fits depth) (the_fits Kind.Semicolon)))).fits s x u h)
        (let size : statement_size c ≡ 1 + (sum_by word_size x.0 + calling_size x.1) = ap statement_size is in omega arith)
    fits s c u (a_call x h is) =
        fewer ((both_fits (maybe_fits (priority_fits)) (keep_fits (call_fits depth) (the_fits Kind.Semicolon))).fits s x u h)
        (let size : statement_size c ≡ 1 + calling_size x.1 = ap statement_size is in omega arith)
    fits s c u (an_if x h is) =
        fewer ((drop_fits (the_fits Kind.If) (both_fits test (both_fits block (maybe_fits (less_fits body_size (drop_fits (the_fits Kind.Else) (else_fits block stmt)) (λ b. omega arith)))))).fits s x u h)
        (let size : statement_size c ≡ 1 + command_size (choice_of x.0 x.1.0 x.1.1) = ap statement_size is in
        let parts = choice_size x.0 x.1.0 x.1.1 in
        omega arith)
    fits s c u (a_foreach x h is) =
        fewer ((drop_fits (the_fits Kind.Foreach) (both_fits name_fits (both_fits (maybe_fits (less_fits word_size (drop_fits (the_fits Kind.Comma) name_fits) (λ w. omega arith))) (drop_fits (the_fits Kind.In) (both_fits (source_fits depth) block))))).fits s x u h)
        (let size : statement_size c ≡ 1 + (1 + option_size word_size x.1.0 + over_size x.1.1.0 + body_size x.1.1.1) = ap statement_size is in omega arith)
    fits s c u (a_wait x h is) =
        fewer ((drop_fits (the_fits Kind.Wait) (both_fits (names_fits depth) block)).fits s x u h)
        (let size : statement_size c ≡ 1 + (sum_by word_size x.0 + body_size x.1) = ap statement_size is in omega arith)

all_statements_size : (cs : List Statement) → statements_size (statements_of cs) ≡ sum_by statement_size cs
all_statements_size [] = refl
all_statements_size (c ∷ cs) = ap (λ n. statement_size c + n) (all_statements_size cs) ∙ sym (sum_by-cons statement_size c cs)

block_fits : {S : Rule Statement} → Fits statement_size S → Fits body_size (IsBlockOver S)
block_fits stmt =
    made_fits (λ s cs u. body (first_of s.rest).from (statements_of cs)) body_size (between_fits Kind.OpenCurly Kind.CloseCurly (many_fits stmt))
    (λ s cs u. let all = all_statements_size cs in omega arith)

pub statement_fits : (depth : ℕ) → Fits statement_size (IsStmt depth)
unfolding IsStmt
statement_fits zero = stmt_fits zero (never_fits body_size) (never_fits statement_size)
statement_fits (suc depth) = stmt_fits (suc depth) (block_fits (statement_fits depth)) (statement_fits depth)

-- SCRIPTS

module_within : (s : Place) (t : Lexeme) (u : Place) → IsModule s t u → Steps s 2 u
module_within s t u (io is text) = (the_fits Kind.Name).fits s t u is
module_within s t u (assert is text) = (the_fits Kind.Name).fits s t u is
module_within s t u (string is) = (the_fits Kind.String).fits s t u is

module_fits : Fits (λ t. 2) IsModule
module_fits = record { fits = module_within }

pub part_fits : (depth : ℕ) → Fits part_size (IsPart depth)
part_fits depth = record { fits = fits }
  where
    fits : (s : Place) (p : Part) (u : Place) → IsPart depth s p u → Steps s (part_size p) u
    fits s p u (an_import t h is) =
        fewer ((drop_fits (the_fits Kind.Import) (keep_fits module_fits (the_fits Kind.Semicolon))).fits s t u h)
        (let size : part_size p ≡ 0 = ap part_size is in omega arith)
    fits s p u (a_function x h is) =
        fewer ((both_fits (parameters_fits depth) (both_fits name_fits (both_fits (parameters_fits depth) (deeper_fits (λ d. block_fits (statement_fits d)) depth)))).fits s x u h)
        (let size : part_size p ≡ 1 + sum_by declaration_size x.0 + 1 + sum_by declaration_size x.1.1.0 + body_size x.1.1.1 = ap part_size is in omega arith)
    fits s p u (a_statement c h is) = fewer ((statement_fits depth).fits s c u h) (let size : part_size p ≡ statement_size c = ap part_size is in omega arith)

-- two numbers for each token at most
pub script_fits : (depth : ℕ) (ts : List Lexeme) (tree : Tree) → IsScript depth ts tree → tree_size tree ≤ 2 * length ts
script_fits depth ts tree (u, parts, end) = let p = ((many_fits (part_fits depth)).fits (record { before = 0; rest = ts }) tree u parts).fits in omega arith

-- behind all parts of a script, where nothing is left, the last token of the text ends
pub parts_end : (depth : ℕ) (s : Place) (ps : List Part) (u : Place) → Many (IsPart depth) s ps u → u.rest ≡ [] → u.before ≡ last_end s
parts_end depth s ps u parts end = sym (ap (ends_at u.before) end) ∙ ((many_fits (part_fits depth)).fits s ps u parts).ends

pub rising : (least most : ℕ) (items : List Item) → SpansRise least most items → least ≤ most → length items + least ≤ most
rising least most [] rise le = omega arith
rising least most (x ∷ items) (from, some, to, more) le = let rest = rising (place x).to most items more to in omega arith

count : (ts : List Lexeme) (items : List Item) → items ≡ map Ok ts → length items ≡ length ts
count ts items is = ap length is ∙ length-map ts Ok

-- a token has a byte at least
pub tokens_fit : (bytes : List ℕ) (ts : List Lexeme) → Tokens bytes (map Ok ts) → length ts ≤ length bytes
tokens_fit bytes ts lexed =
    let all = rising 0 (length bytes) (items_from 0 bytes) (spans_rise bytes) (omega arith) in
    let many : length (items_from 0 bytes) ≡ length ts = count ts (items_from 0 bytes) (sym (only_tokens 0 bytes (map Ok ts) lexed)) in
    omega arith
