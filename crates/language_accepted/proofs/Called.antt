-- The called names and the headers of a tree that a text reads as are tokens of the text, each another.
use Rattle.std.specs.Prelude.{◌≡◌, ℕ, zero, suc, ◌+◌, ◌≤◌, Bool, true, false, List, [], ◌∷◌, ◌++◌, map, Option, Some, None, refl}
use Rattle.std.proofs.Common.{ap, arith}
use Rattle.lexer.specs.declared.token.TokenKind.{TokenKind}
use Rattle.lexer.specs.declared.token.TokenKind.TheVariants as Kind
use Rattle.lexer.specs.Items.{Lexeme}
use Rattle.language.specs.declared.tree.Level.{Level}
use Rattle.language.specs.declared.tree.Operator.{Operator}
use Rattle.language.specs.Kinds.{repeats}
use Rattle.language.specs.Rules.{Place, Rule, The, ◌⋆◌, ◌▹◌, ◌◃◌, Never, Many, Maybe, AtMostOne, Perhaps, Made, Commas, Round, Square, Curly, Deeper, cons}
use Rattle.language.specs.Grammar.{IsName, IsOperator, chained, Repeated, IsChain, IsExprOver, AreArguments, IsUnaryOver, a_not, a_negative, a_number, a_string, a_true, a_false, a_name, an_element, a_call, a_parenthesis, IsUnary, IsExpr, IsType, keys_of, AreKeys, IsDecl, AreParameters, AreNames, IsCall, IsRight, a_value, a_list, IsPrio, IsSmall, IsPriority, IsRange, IsSource, an_array, a_range, IsElse, a_block, IsModule, io, assert, string, IsStmtOver, a_declaration, an_assignment, a_write, many_assigned, an_if, a_foreach, a_wait, IsBlockOver, IsStmt, IsBlock, IsPart, an_import, a_function, a_statement, first_of}
use Rattle.language.specs.Tree.{Word, Expression, expressions_of, RightSide, Calling, Over, Statement, Body, statements_of, Part, Tree, import, function, single}
use Rattle.language.specs.Tree.{choice_of}
use Rattle.language.proofs.Tested.{flat}
use Rattle.language.proofs.TreeNumbers.{times, times-append}
use Rattle.language_laws.specs.Offsets.{maybe_numbers}
use Rattle.language_laws.specs.Offsets.{expression_offsets, expressions_offsets, right_offsets, calling_offsets, over_offsets, header_offsets, statement_offsets, command_offsets, body_offsets, statements_offsets, tree_offsets}

-- where tokens begin
abbrev pub starts_of : List Lexeme → List ℕ
starts_of [] = []
starts_of (t ∷ ts) = t.span.from ∷ starts_of ts

abbrev pub left : ℕ → Place → ℕ
left n s = times n (starts_of s.rest)

-- what is read has offsets of the tokens that it takes, each at most as often
abbrev Counts : {A : Type 0} → Rule A → (A → List ℕ) → Type 0
Counts {A} R f = (n : ℕ) (s : Place) (x : A) (u : Place) → R s x u → times n (f x) + left n u ≤ left n s

abbrev none_of : {A : Type 0} → A → List ℕ
none_of x = []

stays : (n : ℕ) {s u : Place} → u ≡ s → 0 + left n u ≤ left n s
stays n e = let q = ap (left n) e in omega arith

c_token : (k : TokenKind) → Counts (The k) (λ t. t.span.from ∷ [])
c_token k n s t u h =
    let a = ap (λ (r : List Lexeme). times n (starts_of r)) h.2 in
    let b = ap (left n) h.3 in
    omega arith

c_less : {A : Type 0} (R : Rule A) (f : A → List ℕ) → Counts R f → Counts R none_of
c_less R f c n s x u h = let q = c n s x u h in omega arith

c_the : (k : TokenKind) → Counts (The k) none_of
c_the k = c_less (The k) (λ t. t.span.from ∷ []) (c_token k)

c_both : {A B : Type 0} (R : Rule A) (Q : Rule B) (f : A → List ℕ) (g : B → List ℕ) → Counts R f → Counts Q g → Counts (R ⋆ Q) (λ x. f x.0 ++ g x.1)
c_both R Q f g c d n s x u h =
    let p = c n s x.0 h.0 h.1 in
    let q = d n h.0 x.1 u h.2 in
    let a = times-append n (f x.0) (g x.1) in
    omega arith

c_then : {A B : Type 0} (R : Rule A) (Q : Rule B) (g : B → List ℕ) → Counts R none_of → Counts Q g → Counts (R ▹ Q) g
c_then R Q g c d n s x u h = let p = c n s h.0 h.1 h.2 in let q = d n h.1 x u h.3 in omega arith

-- with where the first token begins
c_head : {B : Type 0} (k : TokenKind) (Q : Rule B) (g : B → List ℕ) → Counts Q g → (n : ℕ) (s : Place) (x : B) (u : Place) → (The k ▹ Q) s x u
    → (times n ((first_of s.rest).from ∷ []) + times n (g x)) + left n u ≤ left n s
c_head k Q g d n s x u h =
    let p = c_token k n s h.0 h.1 h.2 in
    let q = d n h.1 x u h.3 in
    let e = ap (λ (r : List Lexeme). times n ((first_of r).from ∷ [])) (h.2).2 in
    omega arith

c_before : {A B : Type 0} (R : Rule A) (Q : Rule B) (f : A → List ℕ) → Counts R f → Counts Q none_of → Counts (R ◃ Q) f
c_before R Q f c d n s x u h = let p = c n s x h.1 h.2 in let q = d n h.1 h.0 u h.3 in omega arith

c_many : {A : Type 0} (R : Rule A) (f : A → List ℕ) → Counts R f → Counts (Many R) (flat f)
c_many R f c n s [] u h = stays n h
c_many R f c n s (x ∷ xs) u h =
    let p = c n s x h.0 h.1 in
    let q = c_many R f c n h.0 xs u h.2 in
    let a = times-append n (f x) (flat f xs) in
    omega arith

c_maybe : {A : Type 0} (R : Rule A) (f : A → List ℕ) → Counts R f → Counts (Maybe R) (maybe_numbers f)
c_maybe R f c n s None u h = stays n h
c_maybe R f c n s (Some x) u h = c n s x u h

c_one : {A : Type 0} (R : Rule A) (f : A → List ℕ) → Counts R f → Counts (AtMostOne R) (flat f)
c_one R f c n s [] u h = stays n h
c_one R f c n s (x ∷ []) u h = let p = c n s x u h in let a = times-append n (f x) [] in omega arith
c_one R f c n s (x ∷ y ∷ ys) u h = absurd h

c_perhaps : {A : Type 0} (R : Rule (List A)) (f : A → List ℕ) → Counts R (flat f) → Counts (Perhaps R) (flat f)
c_perhaps R f c n s [] u h = stays n h
c_perhaps R f c n s (x ∷ xs) u h = c n s (x ∷ xs) u h

c_made : {A B : Type 0} (make : Place → A → Place → B) (R : Rule A) (f : A → List ℕ) (g : B → List ℕ) → ((n : ℕ) (s : Place) (a : A) (u : Place) → times n (g (make s a u)) ≤ times n (f a))
    → Counts R f → Counts (Made make R) g
c_made make R f g less c n s x u h =
    let p = c n s h.0 u h.1 in
    let q = less n s h.0 u in
    let a = ap (λ (y : _). times n (g y)) h.2 in
    omega arith

c_never : {A : Type 0} (f : A → List ℕ) (n : ℕ) (s : Place) (x : A) (u : Place) → Never s x u → times n (f x) + left n u ≤ left n s
c_never f n s x u h = absurd h

c_deeper : {A : Type 0} (R : ℕ → Rule A) (f : A → List ℕ) → ((d : ℕ) → Counts (R d) f) → (depth : ℕ) → Counts (Deeper R depth) f
c_deeper R f c zero n s x u h = absurd h
c_deeper R f c (suc depth) n s x u h = c depth n s x u h

c_commas : {A : Type 0} (R : Rule A) (f : A → List ℕ) → Counts R f → Counts (Commas R) (flat f)
c_commas R f c =
    c_made cons (R ⋆ Many (The Kind.Comma ▹ R)) (λ x. f x.0 ++ flat f x.1) (flat f) (λ n s a u. omega arith)
    (c_both R (Many (The Kind.Comma ▹ R)) f (flat f) c (c_many (The Kind.Comma ▹ R) f (c_then (The Kind.Comma) R f (c_the Kind.Comma) c)))

c_round : {A : Type 0} (R : Rule A) (f : A → List ℕ) → Counts R f → Counts (Round R) f
c_round R f c = c_then (The Kind.OpenRound) (R ◃ The Kind.CloseRound) f (c_the Kind.OpenRound) (c_before R (The Kind.CloseRound) f c (c_the Kind.CloseRound))

c_square : {A : Type 0} (R : Rule A) (f : A → List ℕ) → Counts R f → Counts (Square R) f
c_square R f c = c_then (The Kind.OpenSquare) (R ◃ The Kind.CloseSquare) f (c_the Kind.OpenSquare) (c_before R (The Kind.CloseSquare) f c (c_the Kind.CloseSquare))

c_curly : {A : Type 0} (R : Rule A) (f : A → List ℕ) → Counts R f → Counts (Curly R) f
c_curly R f c = c_then (The Kind.OpenCurly) (R ◃ The Kind.CloseCurly) f (c_the Kind.OpenCurly) (c_before R (The Kind.CloseCurly) f c (c_the Kind.CloseCurly))

-- EXPRESSIONS

abbrev word_offset : Word → List ℕ
word_offset w = w.span.from ∷ []

c_word : Counts IsName word_offset
c_word n s x u h = let q = c_token Kind.Name n s h.0 u h.1 in let a = ap (λ (y : Word). times n (word_offset y)) h.2 in omega arith

c_name : Counts IsName none_of
c_name = c_less IsName word_offset c_word

c_operator : (l : Level) → Counts (IsOperator l) none_of
c_operator l n s x u h = c_the (h.0).kind n s h.0 u h.1

c_repeated : {A : Type 0} (c : Bool) (R : Rule A) (f : A → List ℕ) → Counts R f → Counts (Repeated c R) (flat f)
c_repeated true R f r = c_many R f r
c_repeated false R f r = c_one R f r

all_offsets : (n : ℕ) (es : List Expression) → times n (expressions_offsets (expressions_of es)) ≡ times n (flat expression_offsets es)
all_offsets n [] = refl
all_offsets n (e ∷ es) =
    let q = all_offsets n es in
    let a = times-append n (expression_offsets e) (expressions_offsets (expressions_of es)) in
    let b = times-append n (expression_offsets e) (flat expression_offsets es) in
    omega arith

abbrev pair_offsets : Operator × Expression → List ℕ
pair_offsets p = [] ++ expression_offsets p.1

pairs : (n : ℕ) (ps : List (Operator × Expression)) → times n (expressions_offsets (expressions_of (map (λ q. q.1) ps))) ≡ times n (flat pair_offsets ps)
pairs n [] = refl
pairs n (p ∷ ps) =
    let q = pairs n ps in
    let a = times-append n (expression_offsets p.1) (expressions_offsets (expressions_of (map (λ q. q.1) ps))) in
    let b = times-append n (pair_offsets p) (flat pair_offsets ps) in
    omega arith

chain_less : (n : ℕ) (s : Place) (x : Expression × List (Operator × Expression)) (u : Place) → times n (expression_offsets (chained s x u)) ≤ times n (expression_offsets x.0 ++ flat pair_offsets x.1)
chain_less n s (x, []) u = let a = times-append n (expression_offsets x) [] in omega arith
chain_less n s (x, p ∷ ps) u =
    let q = pairs n ps in
    let a = times-append n (expression_offsets x) (expression_offsets p.1 ++ expressions_offsets (expressions_of (map (λ q. q.1) ps))) in
    let b = times-append n (expression_offsets p.1) (expressions_offsets (expressions_of (map (λ q. q.1) ps))) in
    let c = times-append n (expression_offsets x) (flat pair_offsets (p ∷ ps)) in
    let d = times-append n (pair_offsets p) (flat pair_offsets ps) in
    omega arith

c_chain : (l : Level) (R : Rule Expression) → Counts R expression_offsets → Counts (IsChain l R) expression_offsets
c_chain l R r =
    c_made chained (R ⋆ Repeated (repeats l) (IsOperator l ⋆ R)) (λ x. expression_offsets x.0 ++ flat pair_offsets x.1) expression_offsets chain_less
    (c_both R (Repeated (repeats l) (IsOperator l ⋆ R)) expression_offsets (flat pair_offsets) r
    (c_repeated (repeats l) (IsOperator l ⋆ R) pair_offsets (c_both (IsOperator l) R none_of expression_offsets (c_operator l) r)))

c_expr_over : (R : Rule Expression) → Counts R expression_offsets → Counts (IsExprOver R) expression_offsets
c_expr_over R r =
    c_chain Level.Or _ (c_chain Level.And _ (c_chain Level.Equality _ (c_chain Level.Order _ (c_chain Level.Sum (IsChain Level.Product R) (c_chain Level.Product R r)))))

c_arguments : (R : Rule Expression) → Counts R expression_offsets → Counts (AreArguments R) (flat expression_offsets)
c_arguments R r = c_perhaps (Commas R) expression_offsets (c_commas R expression_offsets r)

c_unary_over : (U E : Rule Expression) (As : Rule (List Expression)) → Counts U expression_offsets → Counts E expression_offsets → Counts As (flat expression_offsets)
    → Counts (IsUnaryOver U E As) expression_offsets
c_unary_over U E As p q r n s x u (a_not y h e) = let a = ap (λ (z : Expression). times n (expression_offsets z)) e in let b = c_then (The Kind.Not) U expression_offsets (c_the Kind.Not) p n s y u h in omega arith
c_unary_over U E As p q r n s x u (a_negative y h e) = let a = ap (λ (z : Expression). times n (expression_offsets z)) e in let b = c_then (The Kind.Minus) U expression_offsets (c_the Kind.Minus) p n s y u h in omega arith
c_unary_over U E As p q r n s x u (a_number t h e) = let a = ap (λ (z : Expression). times n (expression_offsets z)) e in let b = c_the Kind.Number n s t u h in omega arith
c_unary_over U E As p q r n s x u (a_string t h e) = let a = ap (λ (z : Expression). times n (expression_offsets z)) e in let b = c_the Kind.Text n s t u h in omega arith
c_unary_over U E As p q r n s x u (a_true t h e) = let a = ap (λ (z : Expression). times n (expression_offsets z)) e in let b = c_the Kind.True n s t u h in omega arith
c_unary_over U E As p q r n s x u (a_false t h e) = let a = ap (λ (z : Expression). times n (expression_offsets z)) e in let b = c_the Kind.False n s t u h in omega arith
c_unary_over U E As p q r n s x u (a_name w h e) = let a = ap (λ (z : Expression). times n (expression_offsets z)) e in let b = c_name n s w u h in omega arith
c_unary_over U E As p q r n s x u (an_element y h e) =
    let a = ap (λ (z : Expression). times n (expression_offsets z)) e in
    let b = c_both IsName (Square E) none_of expression_offsets c_name (c_square E expression_offsets q) n s y u h in
    omega arith
c_unary_over U E As p q r n s x u (a_call y h e) =
    let a = ap (λ (z : Expression). times n (expression_offsets z)) e in
    let b = c_both IsName (Round As) word_offset (flat expression_offsets) c_word (c_round As (flat expression_offsets) r) n s y u h in
    let c = all_offsets n y.1 in
    omega arith
c_unary_over U E As p q r n s x u (a_parenthesis h) = c_round E expression_offsets q n s x u h

c_unary : (depth : ℕ) → Counts (IsUnary depth) expression_offsets
unfolding IsUnary
c_unary zero = c_unary_over Never Never Never (c_never expression_offsets) (c_never expression_offsets) (c_never (flat expression_offsets))
c_unary (suc depth) =
    let r = c_unary depth in
    let e = c_expr_over (IsUnary depth) r in
    c_unary_over (IsUnary depth) (IsExprOver (IsUnary depth)) (AreArguments (IsExprOver (IsUnary depth))) r e (c_arguments (IsExprOver (IsUnary depth)) e)

c_expr : (depth : ℕ) → Counts (IsExpr depth) expression_offsets
c_expr depth = c_expr_over (IsUnary depth) (c_unary depth)

-- STATEMENTS

c_type : Counts IsType none_of
c_type n s x u h = c_the (h.0).kind n s h.0 u h.1

c_keys : Counts AreKeys none_of
c_keys = c_made (λ s x u. keys_of x) (Maybe (The Kind.String)) (maybe_numbers none_of) none_of (λ n s a u. omega arith) (c_maybe (The Kind.String) none_of (c_the Kind.String))

c_decl : (depth : ℕ) → Counts (IsDecl depth) none_of
c_decl depth n s x u h =
    c_less (IsType ⋆ (IsName ⋆ Maybe (Square (Deeper (λ d. AreKeys) depth)))) (λ x. [] ++ ([] ++ maybe_numbers none_of x.1.1))
    (c_both IsType (IsName ⋆ Maybe (Square (Deeper (λ d. AreKeys) depth))) none_of (λ x. [] ++ maybe_numbers none_of x.1) c_type
    (c_both IsName (Maybe (Square (Deeper (λ d. AreKeys) depth))) none_of (maybe_numbers none_of) c_name
    (c_maybe (Square (Deeper (λ d. AreKeys) depth)) none_of (c_square (Deeper (λ d. AreKeys) depth) none_of (c_deeper (λ d. AreKeys) none_of (λ d. c_keys) depth)))))
    n s h.0 u h.1

c_right : (depth : ℕ) → Counts (IsRight depth) right_offsets
c_right depth n s x u (a_value e h q) = let a = ap (λ (z : RightSide). times n (right_offsets z)) q in let b = c_expr depth n s e u h in omega arith
c_right depth n s x u (a_list es h q) =
    let a = ap (λ (z : RightSide). times n (right_offsets z)) q in
    let b = c_square (Deeper (λ d. Commas (IsExpr d)) depth) (flat expression_offsets) (c_deeper (λ d. Commas (IsExpr d)) (flat expression_offsets) (λ d. c_commas (IsExpr d) expression_offsets (c_expr d)) depth) n s es u h in
    let c = all_offsets n es in
    omega arith

c_call : (depth : ℕ) → Counts (IsCall depth) calling_offsets
c_call depth n s x u h =
    let a = ap (λ (z : Calling). times n (calling_offsets z)) h.2 in
    let b = c_both IsName (Round (Deeper (λ d. AreArguments (IsExpr d)) depth)) word_offset (flat expression_offsets) c_word
    (c_round (Deeper (λ d. AreArguments (IsExpr d)) depth) (flat expression_offsets) (c_deeper (λ d. AreArguments (IsExpr d)) (flat expression_offsets) (λ d. c_arguments (IsExpr d) (c_expr d)) depth))
    n s h.0 u h.1 in
    let c = all_offsets n (h.0).1 in
    omega arith

c_prio : Counts IsPrio none_of
c_prio n s t u h = c_the Kind.Name n s t u h.0

c_small : Counts IsSmall none_of
c_small n s x u h = c_the Kind.Number n s h.0 u h.1

c_priority : Counts IsPriority none_of
c_priority n s x u h =
    c_then (The Kind.At) (IsPrio ▹ The Kind.Assign ▹ Maybe (The Kind.Minus) ⋆ IsSmall) none_of (c_the Kind.At)
    (c_then IsPrio (The Kind.Assign ▹ Maybe (The Kind.Minus) ⋆ IsSmall) none_of c_prio
    (c_then (The Kind.Assign) (Maybe (The Kind.Minus) ⋆ IsSmall) none_of (c_the Kind.Assign)
    (c_less (Maybe (The Kind.Minus) ⋆ IsSmall) (λ x. maybe_numbers none_of x.0 ++ [])
    (c_both (Maybe (The Kind.Minus)) IsSmall (maybe_numbers none_of) none_of (c_maybe (The Kind.Minus) none_of (c_the Kind.Minus)) c_small))))
    n s h.0 u h.1

c_module : Counts IsModule none_of
c_module n s t u (io h e) = c_the Kind.Name n s t u h
c_module n s t u (assert h e) = c_the Kind.Name n s t u h
c_module n s t u (string h) = c_the Kind.String n s t u h

c_names : (depth : ℕ) → Counts (AreNames depth) none_of
c_names depth =
    c_less (AreNames depth) (flat none_of)
    (c_round (Deeper (λ d. Commas IsName) depth) (flat none_of) (c_deeper (λ d. Commas IsName) (flat none_of) (λ d. c_commas IsName none_of c_name) depth))

c_parameters : (depth : ℕ) → Counts (AreParameters depth) none_of
c_parameters depth =
    c_less (AreParameters depth) (flat none_of)
    (c_round (Deeper (λ d. Perhaps (Commas (IsDecl d))) depth) (flat none_of)
    (c_deeper (λ d. Perhaps (Commas (IsDecl d))) (flat none_of) (λ d. c_perhaps (Commas (IsDecl d)) none_of (c_commas (IsDecl d) none_of (c_decl d))) depth))

abbrev range_offsets : Expression × (Expression × Option Expression) → List ℕ
range_offsets x = expression_offsets x.0 ++ (expression_offsets x.1.0 ++ maybe_numbers expression_offsets x.1.1)

c_range : (depth : ℕ) → Counts (IsRange depth) over_offsets
c_range depth n s x u h =
    let a = ap (λ (z : Over). times n (over_offsets z)) h.2 in
    let b = c_square (Deeper (λ d. IsExpr d ⋆ ((The Kind.Colon ▹ IsExpr d) ⋆ Maybe (The Kind.Colon ▹ IsExpr d))) depth) range_offsets
    (c_deeper (λ d. IsExpr d ⋆ ((The Kind.Colon ▹ IsExpr d) ⋆ Maybe (The Kind.Colon ▹ IsExpr d))) range_offsets
    (λ d. c_both (IsExpr d) ((The Kind.Colon ▹ IsExpr d) ⋆ Maybe (The Kind.Colon ▹ IsExpr d)) expression_offsets (λ y. expression_offsets y.0 ++ maybe_numbers expression_offsets y.1) (c_expr d)
    (c_both (The Kind.Colon ▹ IsExpr d) (Maybe (The Kind.Colon ▹ IsExpr d)) expression_offsets (maybe_numbers expression_offsets)
    (c_then (The Kind.Colon) (IsExpr d) expression_offsets (c_the Kind.Colon) (c_expr d))
    (c_maybe (The Kind.Colon ▹ IsExpr d) expression_offsets (c_then (The Kind.Colon) (IsExpr d) expression_offsets (c_the Kind.Colon) (c_expr d))))) depth)
    n s h.0 u h.1 in
    omega arith

c_source : (depth : ℕ) → Counts (IsSource depth) over_offsets
c_source depth n s x u (an_array w h e) = let a = ap (λ (z : Over). times n (over_offsets z)) e in let b = c_name n s w u h in omega arith
c_source depth n s x u (a_range h) = c_range depth n s x u h

c_else : (B : Rule Body) (S : Rule Statement) → Counts B body_offsets → Counts S statement_offsets → Counts (IsElse B S) body_offsets
c_else B S p q n s x u (a_block h) = p n s x u h
c_else B S p q n s x u (an_if y t v g h e) =
    let a = ap (λ (z : Body). times n (body_offsets z)) e in
    let b = q n s y u h in
    let c = times-append n (statement_offsets y) [] in
    omega arith

choice_less : (n at : ℕ) (e : Expression) (b : Body) (o : Option Body)
    → times n (header_offsets at (choice_of e b o) ++ command_offsets (choice_of e b o)) ≤ times n (at ∷ []) + times n (expression_offsets e ++ (body_offsets b ++ maybe_numbers body_offsets o))
choice_less n at e b None =
    let a = times-append n (expression_offsets e) (body_offsets b) in
    let c = times-append n (expression_offsets e) (body_offsets b ++ []) in
    let d = times-append n (body_offsets b) [] in
    omega arith
choice_less n at e b (Some o) = omega arith

c_statement_over : (depth : ℕ) (B : Rule Body) (S : Rule Statement) → Counts B body_offsets → Counts S statement_offsets → Counts (IsStmtOver depth B S) statement_offsets
c_statement_over depth B S p q n s c u (a_declaration x h e) =
    let a = ap (λ (z : Statement). times n (statement_offsets z)) e in
    let b = c_both (IsDecl depth) (Maybe (The Kind.Assign ▹ IsRight depth) ◃ The Kind.Semicolon) none_of (maybe_numbers right_offsets) (c_decl depth)
    (c_before (Maybe (The Kind.Assign ▹ IsRight depth)) (The Kind.Semicolon) (maybe_numbers right_offsets)
    (c_maybe (The Kind.Assign ▹ IsRight depth) right_offsets (c_then (The Kind.Assign) (IsRight depth) right_offsets (c_the Kind.Assign) (c_right depth))) (c_the Kind.Semicolon)) n s x u h in
    omega arith
c_statement_over depth B S p q n s c u (an_assignment x h e) =
    let a = ap (λ (z : Statement). times n (statement_offsets z)) e in
    let b = c_both IsName (The Kind.Assign ▹ (IsRight depth ◃ The Kind.Semicolon)) none_of right_offsets c_name
    (c_then (The Kind.Assign) (IsRight depth ◃ The Kind.Semicolon) right_offsets (c_the Kind.Assign)
    (c_before (IsRight depth) (The Kind.Semicolon) right_offsets (c_right depth) (c_the Kind.Semicolon))) n s x u h in
    omega arith
c_statement_over depth B S p q n s c u (a_write x h e) =
    let a = ap (λ (z : Statement). times n (statement_offsets z)) e in
    let b = c_both IsName (Square (Deeper IsExpr depth) ⋆ (The Kind.Assign ▹ (IsExpr depth ◃ The Kind.Semicolon))) none_of (λ y. expression_offsets y.0 ++ expression_offsets y.1) c_name
    (c_both (Square (Deeper IsExpr depth)) (The Kind.Assign ▹ (IsExpr depth ◃ The Kind.Semicolon)) expression_offsets expression_offsets
    (c_square (Deeper IsExpr depth) expression_offsets (c_deeper IsExpr expression_offsets c_expr depth))
    (c_then (The Kind.Assign) (IsExpr depth ◃ The Kind.Semicolon) expression_offsets (c_the Kind.Assign)
    (c_before (IsExpr depth) (The Kind.Semicolon) expression_offsets (c_expr depth) (c_the Kind.Semicolon)))) n s x u h in
    omega arith
c_statement_over depth B S p q n s c u (many_assigned x h e) =
    let a = ap (λ (z : Statement). times n (statement_offsets z)) e in
    let b = c_both (AreNames depth) (The Kind.Assign ▹ (IsCall depth ◃ The Kind.Semicolon)) none_of calling_offsets (c_names depth)
    (c_then (The Kind.Assign) (IsCall depth ◃ The Kind.Semicolon) calling_offsets (c_the Kind.Assign)
    (c_before (IsCall depth) (The Kind.Semicolon) calling_offsets (c_call depth) (c_the Kind.Semicolon))) n s x u h in
    omega arith
c_statement_over depth B S p q n s c u (a_call x h e) =
    let a = ap (λ (z : Statement). times n (statement_offsets z)) e in
    let b = c_both (Maybe IsPriority) (IsCall depth ◃ The Kind.Semicolon) none_of calling_offsets
    (c_less (Maybe IsPriority) (maybe_numbers none_of) (c_maybe IsPriority none_of c_priority))
    (c_before (IsCall depth) (The Kind.Semicolon) calling_offsets (c_call depth) (c_the Kind.Semicolon)) n s x u h in
    omega arith
c_statement_over depth B S p q n s c u (an_if x h e) =
    let a = ap (λ (z : Statement). times n (statement_offsets z)) e in
    let b = c_head Kind.If (Round (Deeper IsExpr depth) ⋆ (B ⋆ Maybe (The Kind.Else ▹ IsElse B S))) (λ y. expression_offsets y.0 ++ (body_offsets y.1.0 ++ maybe_numbers body_offsets y.1.1))
    (c_both (Round (Deeper IsExpr depth)) (B ⋆ Maybe (The Kind.Else ▹ IsElse B S)) expression_offsets (λ y. body_offsets y.0 ++ maybe_numbers body_offsets y.1)
    (c_round (Deeper IsExpr depth) expression_offsets (c_deeper IsExpr expression_offsets c_expr depth))
    (c_both B (Maybe (The Kind.Else ▹ IsElse B S)) body_offsets (maybe_numbers body_offsets) p
    (c_maybe (The Kind.Else ▹ IsElse B S) body_offsets (c_then (The Kind.Else) (IsElse B S) body_offsets (c_the Kind.Else) (c_else B S p q))))) n s x u h in
    let d = choice_less n (first_of s.rest).from x.0 x.1.0 x.1.1 in
    omega arith
c_statement_over depth B S p q n s c u (a_foreach x h e) =
    let a = ap (λ (z : Statement). times n (statement_offsets z)) e in
    let b = c_head Kind.Foreach (IsName ⋆ (Maybe (The Kind.Comma ▹ IsName) ⋆ (The Kind.In ▹ (IsSource depth ⋆ B)))) (λ y. [] ++ ([] ++ (over_offsets y.1.1.0 ++ body_offsets y.1.1.1)))
    (c_both IsName (Maybe (The Kind.Comma ▹ IsName) ⋆ (The Kind.In ▹ (IsSource depth ⋆ B))) none_of (λ y. [] ++ (over_offsets y.1.0 ++ body_offsets y.1.1)) c_name
    (c_both (Maybe (The Kind.Comma ▹ IsName)) (The Kind.In ▹ (IsSource depth ⋆ B)) none_of (λ y. over_offsets y.0 ++ body_offsets y.1)
    (c_less (Maybe (The Kind.Comma ▹ IsName)) (maybe_numbers none_of) (c_maybe (The Kind.Comma ▹ IsName) none_of (c_then (The Kind.Comma) IsName none_of (c_the Kind.Comma) c_name)))
    (c_then (The Kind.In) (IsSource depth ⋆ B) (λ y. over_offsets y.0 ++ body_offsets y.1) (c_the Kind.In) (c_both (IsSource depth) B over_offsets body_offsets (c_source depth) p)))) n s x u h in
    omega arith
c_statement_over depth B S p q n s c u (a_wait x h e) =
    let a = ap (λ (z : Statement). times n (statement_offsets z)) e in
    let b = c_then (The Kind.Wait) (AreNames depth ⋆ B) (λ y. [] ++ body_offsets y.1) (c_the Kind.Wait) (c_both (AreNames depth) B none_of body_offsets (c_names depth) p) n s x u h in
    omega arith

all_statements : (n : ℕ) (cs : List Statement) → times n (statements_offsets (statements_of cs)) ≡ times n (flat statement_offsets cs)
all_statements n [] = refl
all_statements n (c ∷ cs) =
    let q = all_statements n cs in
    let a = times-append n (statement_offsets c) (statements_offsets (statements_of cs)) in
    let b = times-append n (statement_offsets c) (flat statement_offsets cs) in
    omega arith

c_block : (S : Rule Statement) → Counts S statement_offsets → Counts (IsBlockOver S) body_offsets
c_block S q n s x u h =
    let a = ap (λ (z : Body). times n (body_offsets z)) h.2 in
    let b = c_curly (Many S) (flat statement_offsets) (c_many S statement_offsets q) n s h.0 u h.1 in
    let c = all_statements n h.0 in
    omega arith

c_statement : (depth : ℕ) → Counts (IsStmt depth) statement_offsets
unfolding IsStmt
c_statement zero = c_statement_over zero Never Never (c_never body_offsets) (c_never statement_offsets)
c_statement (suc depth) = let r = c_statement depth in c_statement_over (suc depth) (IsBlockOver (IsStmt depth)) (IsStmt depth) (c_block (IsStmt depth) r) r

-- SCRIPTS

abbrev part_offsets : Part → List ℕ
part_offsets (import sp) = []
part_offsets (function f) = body_offsets f.body
part_offsets (single s) = statement_offsets s

c_part : (depth : ℕ) → Counts (IsPart depth) part_offsets
c_part depth n s x u (an_import t h e) =
    let a = ap (λ (z : Part). times n (part_offsets z)) e in
    let b = c_then (The Kind.Import) (IsModule ◃ The Kind.Semicolon) none_of (c_the Kind.Import) (c_before IsModule (The Kind.Semicolon) none_of c_module (c_the Kind.Semicolon)) n s t u h in
    omega arith
c_part depth n s x u (a_function y h e) =
    let a = ap (λ (z : Part). times n (part_offsets z)) e in
    let b = c_both (AreParameters depth) (IsName ⋆ (AreParameters depth ⋆ IsBlock depth)) none_of (λ z. [] ++ ([] ++ body_offsets z.1.1)) (c_parameters depth)
    (c_both IsName (AreParameters depth ⋆ IsBlock depth) none_of (λ z. [] ++ body_offsets z.1) c_name
    (c_both (AreParameters depth) (IsBlock depth) none_of body_offsets (c_parameters depth)
    (c_deeper (λ d. IsBlockOver (IsStmt d)) body_offsets (λ d. c_block (IsStmt d) (c_statement d)) depth))) n s y u h in
    omega arith
c_part depth n s x u (a_statement c h e) =
    let a = ap (λ (z : Part). times n (part_offsets z)) e in
    let b = c_statement depth n s c u h in
    omega arith

of_parts : (n : ℕ) (ps : Tree) → times n (tree_offsets ps) ≡ times n (flat part_offsets ps)
of_parts n [] = refl
of_parts n (import sp ∷ ps) = of_parts n ps
of_parts n (function f ∷ ps) =
    let q = of_parts n ps in
    let a = times-append n (body_offsets f.body) (tree_offsets ps) in
    let b = times-append n (body_offsets f.body) (flat part_offsets ps) in
    omega arith
of_parts n (single s ∷ ps) =
    let q = of_parts n ps in
    let a = times-append n (statement_offsets s) (tree_offsets ps) in
    let b = times-append n (statement_offsets s) (flat part_offsets ps) in
    omega arith

pub c_script : (depth n : ℕ) (s : Place) (ps : Tree) (u : Place) → Many (IsPart depth) s ps u → times n (tree_offsets ps) ≤ left n s
c_script depth n s ps u h = let q = c_many (IsPart depth) part_offsets (c_part depth) n s ps u h in let a = of_parts n ps in omega arith
