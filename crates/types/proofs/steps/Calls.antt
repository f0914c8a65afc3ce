-- Steps of the check of calls that are statements, as the code takes them.
use Rattle.std.proofs.Common.{◌≡◌, ◌-◌, ◌<◌, List, [], ◌∷◌, map, drop, length, get_or, nat_eq, eq-eqb, sym, ap, ◌∙◌, arith}
use Rattle.std.specs.Prelude.{Option, Some, Result, Ok, Err, cond}
use Rattle.std.proofs.lemmas.Bool.{ne_eqb}
use Rattle.std.proofs.lemmas.List.{length-map, length-drop}
use Rattle.lexer.specs.declared.token.Span.{Span}
use Rattle.types.specs.declared.fault.TypeFault.{TypeFault}
use Rattle.types.specs.declared.fault.TypeFault.TheVariants.{WrongCount}
use Rattle.types.specs.declared.typed.NameEntry.{NameEntry}
use Rattle.types.specs.declared.typed.Builtin.{Builtin}
use Rattle.types.specs.declared.typed.NameMeaning.TheVariants.{Called}
use Rattle.types.specs.declared.typed.Callee.TheVariants.{BuiltIn}
use Rattle.language.specs.declared.tree.Base.{Base}
use Rattle.language.specs.Tree.{Expression, expressions_of, Calling}
use Rattle.language.specs.Scopes.{Typ, one_of, Signature}
use Rattle.types.specs.Known.{Around}
use Rattle.types.specs.Outcomes.{Outcome, refused, got, Check, ◌>>=◌, Gives, Judges}
use Rattle.types.specs.Names.{builtin_of, called, function_called, settles}
use Rattle.types.specs.Expressions.{has_type, either, arguments, builtin_type}
use Rattle.types.specs.Statements.{same_types, only_target, several, conversions, print}

-- what settles nothing gives what it says of the names settled so far
pub judged : {X A : Type 0} (view : X → A) (r : Result X TypeFault) (check : Check A) (s : List NameEntry) (o : Outcome A) → Judges view r check → o ≡ check s → Gives view r s o
judged view (Ok x) check s o says is = is ∙ says s
judged view (Err f) check s o says is = λ m. is ∙ says s

pub given_of : {X A : Type 0} (view : X → A) (r : Result X TypeFault) (s : List NameEntry) (o o' : Outcome A) → Gives view r s o → o' ≡ o → Gives view r s o'
given_of view (Ok x) s o o' gives is = is ∙ gives
given_of view (Err f) s o o' gives is = λ m. is ∙ gives m

-- a call of a built-in function, where its arguments have been checked
pub several_builtin : (fs : List Signature) (g : Around) (c : Calling) (ts : List Typ) (s r r' : List NameEntry) (f : Builtin) (τ σ : Typ) (b : Base)
    → builtin_of c.name.text ≡ Some f → only_target ts c.name.span s ≡ got τ s → r ≡ settles c.name (Called (BuiltIn f)) s
    → builtin_type fs g f (expressions_of c.arguments) c.name.span r ≡ got b r' → σ ≡ one_of b
    → several fs g c ts s ≡ has_type σ τ c.name.span r'
several_builtin fs g c ts s r r' f τ σ b named target after given is =
    ap (λ (o : Option Builtin). either o
    (λ f. only_target ts c.name.span s >>= λ target s. called c.name (BuiltIn f) s >>= λ u s. builtin_type fs g f (expressions_of c.arguments) c.name.span s >>= λ b. has_type (one_of b) target c.name.span)
    (function_called fs c.name (length c.arguments) (length ts) s >>= λ f s. arguments fs g (expressions_of c.arguments) f.inputs c.name.span s >>= λ u. same_types f.outputs ts c.name.span)) named
    ∙ ap (λ (o : Outcome Typ). o >>= λ target s. called c.name (BuiltIn f) s >>= λ u s. builtin_type fs g f (expressions_of c.arguments) c.name.span s >>= λ b. has_type (one_of b) target c.name.span) target
    ∙ ap (λ (x : List NameEntry). builtin_type fs g f (expressions_of c.arguments) c.name.span x >>= λ b. has_type (one_of b) τ c.name.span) (sym after)
    ∙ ap (λ (o : Outcome Base). o >>= λ b. has_type (one_of b) τ c.name.span) given
    ∙ ap (λ (x : Typ). has_type x τ c.name.span r') (sym is)

-- the first one and the others
first_view : {X : Type 0} (f : X → Expression) (xs ys : List X) (x : X) → ys ≡ xs → 0 < length ys → x ≡ get_or ys 0 x → map f xs ≡ f x ∷ map f (drop 1 xs)
first_view f xs [] x same below is = absurd (omega arith)
first_view f xs (y ∷ ys) x same below is =
    let here : x ≡ y = is in
    ap (map f) (sym same) ∙ ap (λ z. f z ∷ map f ys) (sym here) ∙ ap (λ (zs : List _). f x ∷ map f (drop 1 zs)) same

-- a call of `printf` whose first argument has been read
print_read : {X : Type 0} (fs : List Signature) (g : Around) (f : X → Expression) (xs ys : List X) (x : X) (at : Span) (s : List NameEntry) (o : Outcome (List Typ))
    → ys ≡ xs → 0 < length ys → x ≡ get_or ys 0 x → conversions (f x) s ≡ o
    → print fs g (map f xs) at s
    ≡ (o >>= λ τs s. cond (nat_eq (length (map f (drop 1 xs))) (length τs)) (arguments fs g (expressions_of (map f (drop 1 xs))) τs at s) (refused (WrongCount at)))
print_read fs g f xs ys x at s o same below is reads =
    ap (λ (es : List Expression). print fs g es at s) (first_view f xs ys x same below is)
    ∙ ap (λ (o : Outcome (List Typ)). o >>= λ τs s. cond (nat_eq (length (map f (drop 1 xs))) (length τs)) (arguments fs g (expressions_of (map f (drop 1 xs))) τs at s) (refused (WrongCount at))) reads

rest_length : {X : Type 0} (f : X → Expression) (xs : List X) → length (map f (drop 1 xs)) ≡ length xs - 1
rest_length f xs = length-map (drop 1 xs) f ∙ length-drop 1 xs

pub print_refused : {X : Type 0} (fs : List Signature) (g : Around) (f : X → Expression) (xs ys : List X) (x : X) (at : Span) (s : List NameEntry) (y : TypeFault)
    → ys ≡ xs → 0 < length ys → x ≡ get_or ys 0 x → conversions (f x) s ≡ refused y → print fs g (map f xs) at s ≡ refused y
print_refused fs g f xs ys x at s y same below is fails = print_read fs g f xs ys x at s (refused y) same below is fails

pub print_other : {X : Type 0} (fs : List Signature) (g : Around) (f : X → Expression) (xs ys : List X) (x : X) (at : Span) (s : List NameEntry) (τs : List Typ)
    → ys ≡ xs → 0 < length ys → x ≡ get_or ys 0 x → conversions (f x) s ≡ got τs s → ¬ (length xs - 1 ≡ length τs) → print fs g (map f xs) at s ≡ refused (WrongCount at)
print_other fs g f xs ys x at s τs same below is reads other =
    print_read fs g f xs ys x at s (got τs s) same below is reads
    ∙ ap (λ b. cond b (arguments fs g (expressions_of (map f (drop 1 xs))) τs at s) (refused (WrongCount at))) (ne_eqb _ _ (λ e. other (sym (rest_length f xs) ∙ e)))

pub print_rest : {X : Type 0} (fs : List Signature) (g : Around) (f : X → Expression) (xs ys : List X) (x : X) (at : Span) (s : List NameEntry) (τs : List Typ)
    → ys ≡ xs → 0 < length ys → x ≡ get_or ys 0 x → conversions (f x) s ≡ got τs s → length xs - 1 ≡ length τs
    → print fs g (map f xs) at s ≡ arguments fs g (expressions_of (map f (drop 1 xs))) τs at s
print_rest fs g f xs ys x at s τs same below is reads many =
    print_read fs g f xs ys x at s (got τs s) same below is reads
    ∙ ap (λ b. cond b (arguments fs g (expressions_of (map f (drop 1 xs))) τs at s) (refused (WrongCount at))) (eq-eqb _ _ (rest_length f xs ∙ many))
