-- Steps of the check of expressions, as the code takes them.
use Rattle.std.proofs.Common.{rules, ◌≡◌, ℕ, ◌+◌, ◌<◌, ◌≤◌, List, [], ◌∷◌, map, drop, length, get_or, refl, sym, ap, ap₂, ◌∙◌, arith}
use Rattle.std.specs.Prelude.{Option, Some, None, suc}
use Rattle.std.proofs.lemmas.List.{drop_more, drop_all, get_or_default}
use Rattle.lexer.specs.declared.token.Span.{Span}
use Rattle.types.specs.declared.fault.TypeFault.{TypeFault}
use Rattle.types.specs.declared.fault.TypeFault.TheVariants.{Mismatch, WrongCount}
use Rattle.types.specs.declared.typed.NameEntry.{NameEntry}
use Rattle.types.specs.declared.typed.Builtin.{Builtin}
use Rattle.types.specs.declared.typed.Builtin.TheVariants.{Strcat}
use Rattle.types.specs.declared.typed.NameMeaning.TheVariants.{Called}
use Rattle.types.specs.declared.typed.Callee.TheVariants.{BuiltIn}
use Rattle.language.specs.declared.tree.Base.{Base}
use Rattle.language.specs.declared.tree.Base.TheVariants.{Text}
use Rattle.language.specs.declared.tree.Operator.{Operator}
use Rattle.syntax_trees.specs.declared.tree.Expr.{Expr, out-Expr}
use Rattle.syntax_trees.specs.declared.tree.ExprKind.{the_lemmas}
use Rattle.language.specs.Tree.{Word, Expression, call, Expressions, no_expressions, and_expression, expressions_of}
use Rattle.syntax_trees.specs.View.{expression_view}
use Rattle.language.specs.Scopes.{Typ, one_of, Signature}
use Rattle.types.specs.Known.{Around}
use Rattle.types.specs.Outcomes.{Outcome, refused, got, ◌>>=◌}
use Rattle.types.specs.Statements.{same_types}
use Rattle.types.specs.Names.{builtin_of, called, function_called, settles}
use Rattle.types.specs.Expressions.{first_of, count, takes, fits, has_wanted, expected, first_given, of_one, builtin_by, output_of, either, whole, typed, whole_form, chained, further, elements, arguments, only, some_given, builtin_type}

-- LISTS

pub count_view : {X : Type 0} (f : X → Expression) (xs : List X) → count (expressions_of (map f xs)) ≡ length xs
count_view f [] = refl
count_view f (x ∷ xs) = ap suc (count_view f xs)

pub view_first : (A : Type 0) → (x : Expr A) → first_of (expression_view x) ≡ (out-Expr A x).first
view_first A x = search (rules, the_lemmas)

-- the first one and the others
pub first_list : {X : Type 0} (f : X → Expression) (xs ys : List X) (x : X) → ys ≡ xs → 0 < length ys → x ≡ get_or ys 0 x
    → expressions_of (map f xs) ≡ and_expression (f x) (expressions_of (map f (drop 1 xs)))
first_list f xs [] x same below is = absurd (omega arith)
first_list f xs (y ∷ ys) x same below is =
    let here : x ≡ y = is in
    ap (λ (zs : List _). expressions_of (map f zs)) (sym same) ∙ ap (λ z. and_expression (f z) (expressions_of (map f ys))) (sym here)
    ∙ ap (λ (zs : List _). and_expression (f x) (expressions_of (map f (drop 1 zs)))) same

-- the only one
pub single_list : {X : Type 0} (f : X → Expression) (xs ys : List X) (x : X) → ys ≡ xs → length xs ≡ 1 → x ≡ get_or ys 0 x
    → expressions_of (map f xs) ≡ and_expression (f x) no_expressions
single_list f [] ys x same one is = absurd (omega arith)
single_list f (z ∷ []) ys x same one is =
    let here : x ≡ z = is ∙ ap (λ (zs : List _). get_or zs 0 x) same in
    ap (λ y. and_expression (f y) no_expressions) (sym here)
single_list f (z ∷ y ∷ zs) ys x same one is = absurd (omega arith)

-- one that is there, and those behind it
pub some_at : {X : Type 0} (xs : List X) (i : ℕ) → i < length xs → (x : X) × (drop i xs ≡ x ∷ drop (i + 1) xs) × (x ≡ get_or xs i x)
some_at [] i below = absurd (omega arith)
some_at (x ∷ xs) i below = (get_or (x ∷ xs) i x, drop_more (x ∷ xs) i x below, get_or_default (x ∷ xs) i x (get_or (x ∷ xs) i x) below)

-- CHAINS

pub chain_first : (fs : List Signature) (g : Around) (all : Expressions) (os : List Operator) (at : Span) (s : List NameEntry) (e : Expression) (es : Expressions) (y : TypeFault)
    → all ≡ and_expression e es → typed fs g e s ≡ refused y → chained fs g all os at s ≡ refused y
unfolding chained
chain_first fs g all os at s e es y list fails =
    ap (λ (x : Expressions). chained fs g x os at s) list
    ∙ ap (λ (o : Outcome Base). o >>= λ b r. first_given os b (first_of e) r >>= λ c r. further fs g es os b c (first_of e) r >>= λ u. got c) fails

-- no operands
pub chain_none : {X : Type 0} (fs : List Signature) (g : Around) (os : List Operator) (at : Span) (s : List NameEntry) (f : X → Expression) (xs : List X) → length xs ≤ 0
    → chained fs g (expressions_of (map f xs)) os at s ≡ refused (Mismatch at)
unfolding chained
chain_none fs g os at s f [] none = refl
chain_none fs g os at s f (x ∷ xs) none = absurd (omega arith)

-- behind the first operand
after_first : (fs : List Signature) (g : Around) (all : Expressions) (os : List Operator) (at : Span) (s r : List NameEntry) (e : Expression) (es : Expressions) (b : Base) (sp : Span)
    → all ≡ and_expression e es → typed fs g e s ≡ got b r → first_of e ≡ sp
    → chained fs g all os at s ≡ (first_given os b sp r >>= λ c r. further fs g es os b c sp r >>= λ u. got c)
unfolding chained
after_first fs g all os at s r e es b sp list has is =
    ap (λ (x : Expressions). chained fs g x os at s) list
    ∙ ap (λ (o : Outcome Base). o >>= λ b r. first_given os b (first_of e) r >>= λ c r. further fs g es os b c (first_of e) r >>= λ u. got c) has
    ∙ ap (λ (q : Span). first_given os b q r >>= λ c r. further fs g es os b c q r >>= λ u. got c) is

pub chain_given : (fs : List Signature) (g : Around) (all : Expressions) (os : List Operator) (at : Span) (s : List NameEntry) (r : List NameEntry) (e : Expression) (es : Expressions) (b : Base) (sp : Span) (ps : List Operator) (y : TypeFault)
    → all ≡ and_expression e es → typed fs g e s ≡ got b r → first_of e ≡ sp → ps ≡ os → first_given ps b sp r ≡ refused y → chained fs g all os at s ≡ refused y
chain_given fs g all os at s r e es b sp ps y list has is same fails =
    after_first fs g all os at s r e es b sp list has is
    ∙ ap (λ (o : Outcome Base). o >>= λ c r. further fs g es os b c sp r >>= λ u. got c) (ap (λ (x : List Operator). first_given x b sp r) (sym same) ∙ fails)

pub chain_rest : (fs : List Signature) (g : Around) (all : Expressions) (os : List Operator) (at : Span) (s : List NameEntry) (r : List NameEntry) (e : Expression) (es : Expressions) (b c : Base) (sp : Span) (ps qs : List Operator) (y : TypeFault)
    → all ≡ and_expression e es → typed fs g e s ≡ got b r → first_of e ≡ sp → ps ≡ os → first_given ps b sp r ≡ got c r → qs ≡ os → further fs g es qs b c sp r ≡ refused y
    → chained fs g all os at s ≡ refused y
chain_rest fs g all os at s r e es b c sp ps qs y list has is same gives alike fails =
    after_first fs g all os at s r e es b sp list has is
    ∙ ap (λ (o : Outcome Base). o >>= λ c r. further fs g es os b c sp r >>= λ u. got c) (ap (λ (x : List Operator). first_given x b sp r) (sym same) ∙ gives)
    ∙ ap (λ (o : Outcome (Unit {0})). o >>= λ u. got c) (ap (λ (x : List Operator). further fs g es x b c sp r) (sym alike) ∙ fails)

pub chain_all : (fs : List Signature) (g : Around) (all : Expressions) (os : List Operator) (at : Span) (s : List NameEntry) (r r' : List NameEntry) (e : Expression) (es : Expressions) (b c : Base) (sp : Span) (ps qs : List Operator)
    → all ≡ and_expression e es → typed fs g e s ≡ got b r → first_of e ≡ sp → ps ≡ os → first_given ps b sp r ≡ got c r → qs ≡ os → further fs g es qs b c sp r ≡ got (tt {0}) r'
    → chained fs g all os at s ≡ got c r'
chain_all fs g all os at s r r' e es b c sp ps qs list has is same gives alike rest =
    after_first fs g all os at s r e es b sp list has is
    ∙ ap (λ (o : Outcome Base). o >>= λ c r. further fs g es os b c sp r >>= λ u. got c) (ap (λ (x : List Operator). first_given x b sp r) (sym same) ∙ gives)
    ∙ ap (λ (o : Outcome (Unit {0})). o >>= λ u. got c) (ap (λ (x : List Operator). further fs g es x b c sp r) (sym alike) ∙ rest)

-- CALLS

call_none : (fs : List Signature) (g : Around) (w : Word) (es : Expressions) (at : Span) (s : List NameEntry) (n : ℕ) → builtin_of w.text ≡ None → count es ≡ n
    → whole_form fs g (call w es) at s ≡ (function_called fs w n 1 s >>= λ f s. arguments fs g es f.inputs w.span s >>= λ u. output_of f.outputs w.span)
unfolding whole_form
call_none fs g w es at s n none many =
    ap (λ (o : Option Builtin). either o (λ f. (called w (BuiltIn f) s >>= λ u. builtin_by f es (elements fs g es (Some Text)) (only fs g es f w.span) w.span) >>= λ b. got (one_of b))
    (function_called fs w (count es) 1 s >>= λ f s. arguments fs g es f.inputs w.span s >>= λ u. output_of f.outputs w.span)) none
    ∙ ap (λ (k : ℕ). function_called fs w k 1 s >>= λ f s. arguments fs g es f.inputs w.span s >>= λ u. output_of f.outputs w.span) many

pub call_unknown : (fs : List Signature) (g : Around) (w : Word) (es : Expressions) (at : Span) (s : List NameEntry) (n : ℕ) (y : TypeFault) → builtin_of w.text ≡ None → count es ≡ n
    → function_called fs w n 1 s ≡ refused y → whole_form fs g (call w es) at s ≡ refused y
call_unknown fs g w es at s n y none many fails =
    call_none fs g w es at s n none many ∙ ap (λ (o : Outcome Signature). o >>= λ f s. arguments fs g es f.inputs w.span s >>= λ u. output_of f.outputs w.span) fails

pub call_refused : (fs : List Signature) (g : Around) (w : Word) (es : Expressions) (at : Span) (s : List NameEntry) (n : ℕ) (y : TypeFault) (σ : Signature) (τs : List Typ) (r : List NameEntry) → builtin_of w.text ≡ None → count es ≡ n
    → function_called fs w n 1 s ≡ got σ r → τs ≡ σ.inputs → arguments fs g es τs w.span r ≡ refused y → whole_form fs g (call w es) at s ≡ refused y
call_refused fs g w es at s n y σ τs r none many is same fails =
    call_none fs g w es at s n none many ∙ ap (λ (o : Outcome Signature). o >>= λ f s. arguments fs g es f.inputs w.span s >>= λ u. output_of f.outputs w.span) is
    ∙ ap (λ (o : Outcome (Unit {0})). o >>= λ u. output_of σ.outputs w.span) (ap (λ (x : List Typ). arguments fs g es x w.span r) (sym same) ∙ fails)

pub call_gives : (fs : List Signature) (g : Around) (w : Word) (es : Expressions) (at : Span) (s : List NameEntry) (n : ℕ) (τ : Typ) (σ : Signature) (τs σs : List Typ) (r r' : List NameEntry) → builtin_of w.text ≡ None → count es ≡ n
    → function_called fs w n 1 s ≡ got σ r → τs ≡ σ.inputs → arguments fs g es τs w.span r ≡ got (tt {0}) r' → σs ≡ σ.outputs → output_of σs w.span r' ≡ got τ r' → whole_form fs g (call w es) at s ≡ got τ r'
call_gives fs g w es at s n τ σ τs σs r r' none many is same given alike gives =
    call_none fs g w es at s n none many ∙ ap (λ (o : Outcome Signature). o >>= λ f s. arguments fs g es f.inputs w.span s >>= λ u. output_of f.outputs w.span) is
    ∙ ap (λ (o : Outcome (Unit {0})). o >>= λ u. output_of σ.outputs w.span) (ap (λ (x : List Typ). arguments fs g es x w.span r) (sym same) ∙ given)
    ∙ ap (λ (x : List Typ). output_of x w.span r') (sym alike) ∙ gives

-- a call whose name is a built-in function's
call_some : (fs : List Signature) (g : Around) (w : Word) (es : Expressions) (at : Span) (s r : List NameEntry) (f : Builtin) → builtin_of w.text ≡ Some f → r ≡ settles w (Called (BuiltIn f)) s
    → whole_form fs g (call w es) at s ≡ (builtin_type fs g f es w.span r >>= λ b. got (one_of b))
unfolding whole_form
call_some fs g w es at s r f named after =
    ap (λ (o : Option Builtin). either o (λ f. (called w (BuiltIn f) s >>= λ u. builtin_by f es (elements fs g es (Some Text)) (only fs g es f w.span) w.span) >>= λ b. got (one_of b))
    (function_called fs w (count es) 1 s >>= λ f s. arguments fs g es f.inputs w.span s >>= λ u. output_of f.outputs w.span)) named
    ∙ ap (λ (x : List NameEntry). builtin_type fs g f es w.span x >>= λ b. got (one_of b)) (sym after)

pub builtin_refused : (fs : List Signature) (g : Around) (w : Word) (es : Expressions) (at : Span) (s r : List NameEntry) (f : Builtin) (y : TypeFault) → builtin_of w.text ≡ Some f → r ≡ settles w (Called (BuiltIn f)) s
    → builtin_type fs g f es w.span r ≡ refused y → whole_form fs g (call w es) at s ≡ refused y
builtin_refused fs g w es at s r f y named after fails = call_some fs g w es at s r f named after ∙ ap (λ (o : Outcome Base). o >>= λ b. got (one_of b)) fails

pub builtin_gives : (fs : List Signature) (g : Around) (w : Word) (es : Expressions) (at : Span) (s r r' : List NameEntry) (f : Builtin) (b : Base) (τ : Typ) → builtin_of w.text ≡ Some f → r ≡ settles w (Called (BuiltIn f)) s
    → builtin_type fs g f es w.span r ≡ got b r' → τ ≡ one_of b → whole_form fs g (call w es) at s ≡ got τ r'
builtin_gives fs g w es at s r r' f b τ named after given is =
    call_some fs g w es at s r f named after ∙ ap (λ (o : Outcome Base). o >>= λ b. got (one_of b)) given ∙ ap (λ (σ : Typ). got σ r') (sym is)

-- the arguments of `strcat`
texts : {X : Type 0} (fs : List Signature) (g : Around) (f : Builtin) (at : Span) (s : List NameEntry) (h : X → Expression) (xs ys : List X) (o : Outcome (Unit {0})) → f ≡ Strcat → ys ≡ xs
    → some_given (expressions_of (map h ys)) at s ≡ got (tt {0}) s → elements fs g (expressions_of (map h xs)) (Some Text) s ≡ o → builtin_type fs g f (expressions_of (map h xs)) at s ≡ (o >>= λ u. got Text)
texts fs g f at s h xs ys o named same some is =
    ap (λ (f : Builtin). builtin_type fs g f (expressions_of (map h xs)) at s) named
    ∙ ap (λ (v : Outcome (Unit {0})). (v >>= λ u. elements fs g (expressions_of (map h xs)) (Some Text)) >>= λ u. got Text) (ap (λ (zs : List _). some_given (expressions_of (map h zs)) at s) (sym same) ∙ some)
    ∙ ap (λ (v : Outcome (Unit {0})). v >>= λ u. got Text) is

pub texts_refused : {X : Type 0} (fs : List Signature) (g : Around) (f : Builtin) (at : Span) (s : List NameEntry) (h : X → Expression) (xs ys : List X) (y : TypeFault) → f ≡ Strcat → ys ≡ xs
    → some_given (expressions_of (map h ys)) at s ≡ got (tt {0}) s → elements fs g (expressions_of (map h xs)) (Some Text) s ≡ refused y → builtin_type fs g f (expressions_of (map h xs)) at s ≡ refused y
texts_refused fs g f at s h xs ys y named same some fails = texts fs g f at s h xs ys (refused y) named same some fails

pub texts_given : {X : Type 0} (fs : List Signature) (g : Around) (f : Builtin) (at : Span) (s r : List NameEntry) (h : X → Expression) (xs ys : List X) → f ≡ Strcat → ys ≡ xs
    → some_given (expressions_of (map h ys)) at s ≡ got (tt {0}) s → elements fs g (expressions_of (map h xs)) (Some Text) s ≡ got (tt {0}) r → builtin_type fs g f (expressions_of (map h xs)) at s ≡ got Text r
texts_given fs g f at s r h xs ys named same some has = texts fs g f at s h xs ys (got tt r) named same some has

-- ONE ARGUMENT

pub only_many : (fs : List Signature) (g : Around) (f : Builtin) (at : Span) (s : List NameEntry) (es : Expressions) (n : ℕ) → count es ≡ n → ¬ (n ≡ 1) → only fs g es f at s ≡ refused (WrongCount at)
unfolding only
only_many fs g f at s no_expressions n many other = refl
only_many fs g f at s (and_expression e no_expressions) n many other = absurd (other (sym many))
only_many fs g f at s (and_expression e (and_expression d es)) n many other = refl

pub only_fails : (fs : List Signature) (g : Around) (all : Expressions) (f : Builtin) (at : Span) (s : List NameEntry) (e : Expression) (y : TypeFault)
    → all ≡ and_expression e no_expressions → whole fs g e s ≡ refused y → only fs g all f at s ≡ refused y
unfolding only
only_fails fs g all f at s e y list fails = ap (λ (x : Expressions). only fs g x f at s) list ∙ ap (λ (o : Outcome Typ). o >>= λ τ. of_one f τ e at) fails

pub only_then : (fs : List Signature) (g : Around) (all : Expressions) (f : Builtin) (at : Span) (s : List NameEntry) (e : Expression) (τ : Typ) (r : List NameEntry) (o : Outcome Base)
    → all ≡ and_expression e no_expressions → whole fs g e s ≡ got τ r → of_one f τ e at r ≡ o → only fs g all f at s ≡ o
unfolding only
only_then fs g all f at s e τ r o list has is = ap (λ (x : Expressions). only fs g x f at s) list ∙ ap (λ (o : Outcome Typ). o >>= λ τ. of_one f τ e at) has ∙ is

-- MANY ARGUMENTS

pub arguments_few : {X Y : Type 0} (fs : List Signature) (g : Around) (at : Span) (s : List NameEntry) (f : X → Expression) (h : Y → Typ) (xs : List X) (ys : List Y) (i j : ℕ) → i < length xs → length ys ≤ j
    → arguments fs g (expressions_of (map f (drop i xs))) (map h (drop j ys)) at s ≡ refused (WrongCount at)
unfolding arguments
arguments_few fs g at s f h xs ys i j below past =
    let it = some_at xs i below in
    ap₂ (λ (zs : List _) (us : List _). arguments fs g (expressions_of (map f zs)) (map h us) at s) it.1 (drop_all j ys past)

-- all arguments have been seen
pub arguments_done : {X Y : Type 0} (fs : List Signature) (g : Around) (at : Span) (s : List NameEntry) (f : X → Expression) (h : Y → Typ) (xs : List X) (ys : List Y) (i j : ℕ) → length xs ≤ i
    → arguments fs g (expressions_of (map f (drop i xs))) (map h (drop j ys)) at s ≡ got (tt {0}) s
unfolding arguments
arguments_done fs g at s f h xs ys i j past = ap (λ (zs : List _). arguments fs g (expressions_of (map f zs)) (map h (drop j ys)) at s) (drop_all i xs past)

-- the argument at a place, for the input at another
arguments_now : {X Y : Type 0} (fs : List Signature) (g : Around) (at : Span) (s : List NameEntry) (f : X → Expression) (h : Y → Typ) (xs : List X) (ys : List Y) (i j : ℕ) (x : X) (y : Y)
    → i < length xs → x ≡ get_or xs i x → j < length ys → y ≡ get_or ys j y
    → arguments fs g (expressions_of (map f (drop i xs))) (map h (drop j ys)) at s
    ≡ ((whole fs g (f x) s >>= λ found. fits found (h y) (f x)) >>= λ u. arguments fs g (expressions_of (map f (drop (i + 1) xs))) (map h (drop (j + 1) ys)) at)
unfolding arguments
arguments_now fs g at s f h xs ys i j x y below is under input =
    ap₂ (λ (zs : List _) (us : List _). arguments fs g (expressions_of (map f zs)) (map h us) at s)
    (drop_more xs i x below ∙ ap (λ z. z ∷ drop (i + 1) xs) (sym is)) (drop_more ys j y under ∙ ap (λ z. z ∷ drop (j + 1) ys) (sym input))

pub arguments_refused : {X Y : Type 0} (fs : List Signature) (g : Around) (at : Span) (s : List NameEntry) (f : X → Expression) (h : Y → Typ) (xs : List X) (ys : List Y) (i j : ℕ) (x : X) (y : Y) (v : TypeFault)
    → i < length xs → x ≡ get_or xs i x → j < length ys → y ≡ get_or ys j y → whole fs g (f x) s ≡ refused v
    → arguments fs g (expressions_of (map f (drop i xs))) (map h (drop j ys)) at s ≡ refused v
arguments_refused fs g at s f h xs ys i j x y v below is under input fails =
    arguments_now fs g at s f h xs ys i j x y below is under input
    ∙ ap (λ (o : Outcome Typ). (o >>= λ found. fits found (h y) (f x)) >>= λ u. arguments fs g (expressions_of (map f (drop (i + 1) xs))) (map h (drop (j + 1) ys)) at) fails

-- where its type is known
arguments_found : {X Y : Type 0} (fs : List Signature) (g : Around) (at : Span) (s r : List NameEntry) (f : X → Expression) (h : Y → Typ) (xs : List X) (ys : List Y) (i j : ℕ) (x : X) (y : Y) (τ : Typ) (o : Outcome (Unit {0}))
    → i < length xs → x ≡ get_or xs i x → j < length ys → y ≡ get_or ys j y → whole fs g (f x) s ≡ got τ r → fits τ (h y) (f x) r ≡ o
    → arguments fs g (expressions_of (map f (drop i xs))) (map h (drop j ys)) at s ≡ (o >>= λ u. arguments fs g (expressions_of (map f (drop (i + 1) xs))) (map h (drop (j + 1) ys)) at)
arguments_found fs g at s r f h xs ys i j x y τ o below is under input has fit =
    arguments_now fs g at s f h xs ys i j x y below is under input
    ∙ ap (λ (v : Outcome Typ). (v >>= λ found. fits found (h y) (f x)) >>= λ u. arguments fs g (expressions_of (map f (drop (i + 1) xs))) (map h (drop (j + 1) ys)) at) has
    ∙ ap (λ (v : Outcome (Unit {0})). v >>= λ u. arguments fs g (expressions_of (map f (drop (i + 1) xs))) (map h (drop (j + 1) ys)) at) fit

pub arguments_unfit : {X Y : Type 0} (fs : List Signature) (g : Around) (at : Span) (s r : List NameEntry) (f : X → Expression) (h : Y → Typ) (xs : List X) (ys : List Y) (i j : ℕ) (x : X) (y : Y) (τ : Typ) (v : TypeFault)
    → i < length xs → x ≡ get_or xs i x → j < length ys → y ≡ get_or ys j y → whole fs g (f x) s ≡ got τ r → fits τ (h y) (f x) r ≡ refused v
    → arguments fs g (expressions_of (map f (drop i xs))) (map h (drop j ys)) at s ≡ refused v
arguments_unfit fs g at s r f h xs ys i j x y τ v below is under input has fails = arguments_found fs g at s r f h xs ys i j x y τ (refused v) below is under input has fails

pub arguments_next : {X Y : Type 0} (fs : List Signature) (g : Around) (at : Span) (s r : List NameEntry) (f : X → Expression) (h : Y → Typ) (xs : List X) (ys : List Y) (i j k : ℕ) (x : X) (y : Y) (τ : Typ)
    → i < length xs → x ≡ get_or xs i x → j < length ys → y ≡ get_or ys j y → whole fs g (f x) s ≡ got τ r → fits τ (h y) (f x) r ≡ got (tt {0}) r → j + 1 ≡ k
    → arguments fs g (expressions_of (map f (drop i xs))) (map h (drop j ys)) at s ≡ arguments fs g (expressions_of (map f (drop (i + 1) xs))) (map h (drop k ys)) at r
arguments_next fs g at s r f h xs ys i j k x y τ below is under input has fit next =
    arguments_found fs g at s r f h xs ys i j x y τ (got tt r) below is under input has fit
    ∙ ap (λ (n : ℕ). arguments fs g (expressions_of (map f (drop (i + 1) xs))) (map h (drop n ys)) at r) next

-- EXPRESSIONS OF A TYPE THAT IS WANTED

pub elements_done : {X : Type 0} (fs : List Signature) (g : Around) (b : Option Base) (s : List NameEntry) (f : X → Expression) (xs : List X) (i : ℕ) → length xs ≤ i
    → elements fs g (expressions_of (map f (drop i xs))) b s ≡ got (tt {0}) s
unfolding elements
elements_done fs g b s f xs i past = ap (λ (zs : List _). elements fs g (expressions_of (map f zs)) b s) (drop_all i xs past)

-- the one at a place
elements_now : {X : Type 0} (fs : List Signature) (g : Around) (b : Option Base) (s : List NameEntry) (f : X → Expression) (xs : List X) (i : ℕ) (x : X) → i < length xs → x ≡ get_or xs i x
    → elements fs g (expressions_of (map f (drop i xs))) b s ≡ ((whole fs g (f x) s >>= λ τ. has_wanted τ b (first_of (f x))) >>= λ u. elements fs g (expressions_of (map f (drop (i + 1) xs))) b)
unfolding elements
elements_now fs g b s f xs i x below is =
    ap (λ (zs : List _). elements fs g (expressions_of (map f zs)) b s) (drop_more xs i x below ∙ ap (λ z. z ∷ drop (i + 1) xs) (sym is))

pub elements_refused : {X : Type 0} (fs : List Signature) (g : Around) (b : Option Base) (s : List NameEntry) (f : X → Expression) (xs : List X) (i : ℕ) (x : X) (y : TypeFault) → i < length xs → x ≡ get_or xs i x
    → whole fs g (f x) s ≡ refused y → elements fs g (expressions_of (map f (drop i xs))) b s ≡ refused y
elements_refused fs g b s f xs i x y below is fails =
    elements_now fs g b s f xs i x below is
    ∙ ap (λ (o : Outcome Typ). (o >>= λ τ. has_wanted τ b (first_of (f x))) >>= λ u. elements fs g (expressions_of (map f (drop (i + 1) xs))) b) fails

-- where its type is known
elements_found : {X : Type 0} (fs : List Signature) (g : Around) (b : Option Base) (s r : List NameEntry) (f : X → Expression) (xs : List X) (i : ℕ) (x : X) (τ : Typ) (at : Span) (o : Outcome (Unit {0})) → i < length xs → x ≡ get_or xs i x
    → whole fs g (f x) s ≡ got τ r → first_of (f x) ≡ at → has_wanted τ b at r ≡ o
    → elements fs g (expressions_of (map f (drop i xs))) b s ≡ (o >>= λ u. elements fs g (expressions_of (map f (drop (i + 1) xs))) b)
elements_found fs g b s r f xs i x τ at o below is has here like =
    elements_now fs g b s f xs i x below is
    ∙ ap (λ (v : Outcome Typ). (v >>= λ τ. has_wanted τ b (first_of (f x))) >>= λ u. elements fs g (expressions_of (map f (drop (i + 1) xs))) b) has
    ∙ ap (λ (q : Span). has_wanted τ b q r >>= λ u. elements fs g (expressions_of (map f (drop (i + 1) xs))) b) here
    ∙ ap (λ (v : Outcome (Unit {0})). v >>= λ u. elements fs g (expressions_of (map f (drop (i + 1) xs))) b) like

pub elements_unlike : {X : Type 0} (fs : List Signature) (g : Around) (b : Option Base) (s r : List NameEntry) (f : X → Expression) (xs : List X) (i : ℕ) (x : X) (τ : Typ) (at : Span) (y : TypeFault) → i < length xs → x ≡ get_or xs i x
    → whole fs g (f x) s ≡ got τ r → first_of (f x) ≡ at → has_wanted τ b at r ≡ refused y → elements fs g (expressions_of (map f (drop i xs))) b s ≡ refused y
elements_unlike fs g b s r f xs i x τ at y below is has here fails = elements_found fs g b s r f xs i x τ at (refused y) below is has here fails

pub elements_next : {X : Type 0} (fs : List Signature) (g : Around) (b : Option Base) (s r : List NameEntry) (f : X → Expression) (xs : List X) (i : ℕ) (x : X) (τ : Typ) (at : Span) → i < length xs → x ≡ get_or xs i x
    → whole fs g (f x) s ≡ got τ r → first_of (f x) ≡ at → has_wanted τ b at r ≡ got (tt {0}) r
    → elements fs g (expressions_of (map f (drop i xs))) b s ≡ elements fs g (expressions_of (map f (drop (i + 1) xs))) b r
elements_next fs g b s r f xs i x τ at below is has here like = elements_found fs g b s r f xs i x τ at (got tt r) below is has here like

-- OPERANDS BEHIND THE FIRST ONE

pub further_few : {X : Type 0} (fs : List Signature) (g : Around) (b c : Base) (before : Span) (s : List NameEntry) (f : X → Expression) (xs : List X) (os : List Operator) (i j : ℕ) → i < length xs → length os ≤ j
    → further fs g (expressions_of (map f (drop i xs))) (drop j os) b c before s ≡ refused (Mismatch before)
unfolding further
further_few fs g b c before s f xs os i j below past =
    let it = some_at xs i below in
    ap₂ (λ (zs : List _) (us : List Operator). further fs g (expressions_of (map f zs)) us b c before s) it.1 (drop_all j os past)

pub further_left : {X : Type 0} (fs : List Signature) (g : Around) (b c : Base) (before : Span) (s : List NameEntry) (f : X → Expression) (xs : List X) (os : List Operator) (i j : ℕ) → length xs ≤ i → j < length os
    → further fs g (expressions_of (map f (drop i xs))) (drop j os) b c before s ≡ refused (Mismatch before)
unfolding further
further_left fs g b c before s f xs os i j past below =
    let it = some_at os j below in
    ap₂ (λ (zs : List _) (us : List Operator). further fs g (expressions_of (map f zs)) us b c before s) (drop_all i xs past) it.1

pub further_done : {X : Type 0} (fs : List Signature) (g : Around) (b c : Base) (before : Span) (s : List NameEntry) (f : X → Expression) (xs : List X) (os : List Operator) (i j : ℕ) → length xs ≤ i → length os ≤ j
    → further fs g (expressions_of (map f (drop i xs))) (drop j os) b c before s ≡ got (tt {0}) s
unfolding further
further_done fs g b c before s f xs os i j past none =
    ap₂ (λ (zs : List _) (us : List Operator). further fs g (expressions_of (map f zs)) us b c before s) (drop_all i xs past) (drop_all j os none)

-- the operand at a place, behind the operator at another
further_now : {X : Type 0} (fs : List Signature) (g : Around) (b c : Base) (before : Span) (s : List NameEntry) (f : X → Expression) (xs : List X) (os : List Operator) (i j : ℕ) (x : X) (o : Operator)
    → i < length xs → x ≡ get_or xs i x → j < length os → o ≡ get_or os j o
    → further fs g (expressions_of (map f (drop i xs))) (drop j os) b c before s
    ≡ (takes o b c before s >>= λ u s. expected fs g (f x) b s >>= λ u. further fs g (expressions_of (map f (drop (i + 1) xs))) (drop (j + 1) os) b c (first_of (f x)))
unfolding further
further_now fs g b c before s f xs os i j x o below is under sign =
    ap₂ (λ (zs : List _) (us : List Operator). further fs g (expressions_of (map f zs)) us b c before s)
    (drop_more xs i x below ∙ ap (λ z. z ∷ drop (i + 1) xs) (sym is)) (drop_more os j o under ∙ ap (λ z. z ∷ drop (j + 1) os) (sym sign))

pub further_untaken : {X : Type 0} (fs : List Signature) (g : Around) (b c : Base) (before : Span) (s : List NameEntry) (f : X → Expression) (xs : List X) (os : List Operator) (i j : ℕ) (x : X) (o : Operator) (y : TypeFault)
    → i < length xs → x ≡ get_or xs i x → j < length os → o ≡ get_or os j o → takes o b c before s ≡ refused y
    → further fs g (expressions_of (map f (drop i xs))) (drop j os) b c before s ≡ refused y
further_untaken fs g b c before s f xs os i j x o y below is under sign fails =
    further_now fs g b c before s f xs os i j x o below is under sign
    ∙ ap (λ (v : Outcome (Unit {0})). v >>= λ u s. expected fs g (f x) b s >>= λ u. further fs g (expressions_of (map f (drop (i + 1) xs))) (drop (j + 1) os) b c (first_of (f x))) fails

pub further_unlike : {X : Type 0} (fs : List Signature) (g : Around) (b c : Base) (before : Span) (s : List NameEntry) (f : X → Expression) (xs : List X) (os : List Operator) (i j : ℕ) (x : X) (o : Operator) (y : TypeFault)
    → i < length xs → x ≡ get_or xs i x → j < length os → o ≡ get_or os j o → takes o b c before s ≡ got (tt {0}) s → expected fs g (f x) b s ≡ refused y
    → further fs g (expressions_of (map f (drop i xs))) (drop j os) b c before s ≡ refused y
further_unlike fs g b c before s f xs os i j x o y below is under sign taken fails =
    further_now fs g b c before s f xs os i j x o below is under sign
    ∙ ap (λ (v : Outcome (Unit {0})). v >>= λ u s. expected fs g (f x) b s >>= λ u. further fs g (expressions_of (map f (drop (i + 1) xs))) (drop (j + 1) os) b c (first_of (f x))) taken
    ∙ ap (λ (v : Outcome (Unit {0})). v >>= λ u. further fs g (expressions_of (map f (drop (i + 1) xs))) (drop (j + 1) os) b c (first_of (f x))) fails

pub further_next : {X : Type 0} (fs : List Signature) (g : Around) (b c : Base) (before at : Span) (s r : List NameEntry) (f : X → Expression) (xs : List X) (os : List Operator) (i j k : ℕ) (x : X) (o : Operator)
    → i < length xs → x ≡ get_or xs i x → j < length os → o ≡ get_or os j o → takes o b c before s ≡ got (tt {0}) s → expected fs g (f x) b s ≡ got (tt {0}) r → first_of (f x) ≡ at → j + 1 ≡ k
    → further fs g (expressions_of (map f (drop i xs))) (drop j os) b c before s ≡ further fs g (expressions_of (map f (drop (i + 1) xs))) (drop k os) b c at r
further_next fs g b c before at s r f xs os i j k x o below is under sign taken has here next =
    further_now fs g b c before s f xs os i j x o below is under sign
    ∙ ap (λ (v : Outcome (Unit {0})). v >>= λ u s. expected fs g (f x) b s >>= λ u. further fs g (expressions_of (map f (drop (i + 1) xs))) (drop (j + 1) os) b c (first_of (f x))) taken
    ∙ ap (λ (v : Outcome (Unit {0})). v >>= λ u. further fs g (expressions_of (map f (drop (i + 1) xs))) (drop (j + 1) os) b c (first_of (f x))) has
    ∙ ap₂ (λ (q : Span) (n : ℕ). further fs g (expressions_of (map f (drop (i + 1) xs))) (drop n os) b c q r) here next

pub types_few : {X Y : Type 0} (f : X → Typ) (h : Y → Typ) (xs : List X) (ys : List Y) (i : ℕ) (at : Span) (s : List NameEntry) → i < length xs → length ys ≤ i
    → same_types (map f (drop i xs)) (map h (drop i ys)) at s ≡ refused (WrongCount at)
types_few f h xs ys i at s below past =
    let it = some_at xs i below in
    ap₂ (λ (zs : List _) (us : List _). same_types (map f zs) (map h us) at s) it.1 (drop_all i ys past)
