-- Statements that the check accepts are well typed, for each table that says what was settled.
use Rattle.std.proofs.Common.{◌≡◌, ℕ, true, false, List, [], ◌∷◌, length, refl, sym, ap, ap₂, ◌∙◌, subst, arith, inl, inr}
use Rattle.std.specs.Prelude.{◌⊎◌, Option, Some, None, cond, nat_eq, suc}
use Rattle.std.proofs.lemmas.Bool.{eqb-true}
use Rattle.std.specs.Str.{bytes_eq}
use Rattle.values.specs.Formats.{pieces}
use Rattle.lexer.specs.declared.token.Span.{Span}
use Rattle.types.specs.declared.fault.TypeFault.TheVariants.{Declared, Mismatch, WrongCount}
use Rattle.types.specs.declared.typed.NameEntry.{NameEntry}
use Rattle.types.specs.declared.typed.ElementTypes.{ElementTypes}
use Rattle.types.specs.declared.typed.Binding.TheVariants.{Local}
use Rattle.types.specs.declared.typed.NameMeaning.TheVariants.{Called}
use Rattle.types.specs.declared.typed.Callee.TheVariants.{BuiltIn}
use Rattle.types.specs.declared.typed.Builtin.{Builtin}
use Rattle.types.specs.declared.typed.Builtin.TheVariants as Named
use Rattle.language.specs.declared.tree.Base.{Base}
use Rattle.language.specs.declared.tree.Base.TheVariants.{Int, Text, Boolean}
use Rattle.language.specs.declared.tree.Keys.{Keys}
use Rattle.language.specs.declared.tree.Keys.TheVariants.{Numbers, Texts}
use Rattle.language.specs.declared.tree.Shape.{Shape}
use Rattle.language.specs.declared.tree.Shape.TheVariants.{Scalar, Array}
use Rattle.language.specs.Tree.{Word, Node, Declaration, Expression, expression, number, text, truth, variable, element, call, prefixed, chain, Expressions, no_expressions, and_expression, expressions_of, RightSide, value, list, Calling, Over, array, range, Statement, statement, Command, declare, assign, write, assign_all, calls, choice, choice_else, loop, waits, Body, body, Statements, no_statements, and_statement}
use Rattle.language.specs.Table.{Table}
use Rattle.language.specs.Scopes.{Typ, one_of, declared_type, Scope, own, IsVisible, Signature, Refers, Calls, CallsBuiltin}
use Rattle.language.specs.Typing as rules
use Rattle.language.specs.Typing.{HasType, ArgumentTypes, BuiltinType, RightType, ReferAll, Declares, LoopScope, StepType, SourceType, CallTyped, StatementTyped, StatementsTyped, BodyTyped, wanted}
use Rattle.types.specs.Known.{Around}
use Rattle.types.specs.Typed.{builtin_name}
use Rattle.types.specs.Outcomes.{refused, got, ◌>>=◌}
use Rattle.types.specs.Names.{refer, fresh, builtin_of, called, settles, function_called}
use Rattle.types.specs.Expressions.{has_type, elements_of, first_of, count, either, whole, expected, elements, arguments, builtin_type}
use Rattle.types.specs.Statements.{under_numbers, literal_by, right, initial, refer_all, same_types, only_target, several, format_by, print, builtin_statement, call_alone, step_of, source, fresh_key, fresh_variables, inside, declared, loop_scope, stated, commanded, enclosed, in_order}
use Rattle.types.specs.Agrees.{Agrees, scope_of}
use Rattle.types.specs.Accepted.{WholeType, Fits}
use Rattle.types.proofs.settled.Settling.{refer_sound, call_sound}
use Rattle.types.proofs.accepted.Typing.{bind_got, has_type_got, elements_got}
use Rattle.types.proofs.accepted.Accepted.{kept, call_counted, builtin_called, whole_sound, expected_sound, arguments_sound, elements_sound, builtin_sound}
use Rattle.types.proofs.visible.Sight.{Inside, inside_more, inside_added, scope_declared, scope_inside, none_first, other_text, fresh_got}

abbrev made : Base → Shape → Typ
made b h = record { base = b; shape = h }

pub count_of : (es : List Expression) → count (expressions_of es) ≡ length es
count_of [] = refl
count_of (e ∷ es) = ap suc (count_of es)

-- RIGHT SIDES

right_type : (fs : List Signature) (t : Table) (g : Scope) (e : Expression) (h : Shape) (b : Base) → WholeType fs t g e h b → RightType fs t g (value e) (made b h)
right_type fs t g e Scalar b has = rules.of_scalar has
right_type fs t g (expression nd (variable w)) (Array κ) b has = rules.of_copy has
right_type fs t g (expression nd (call w es)) (Array κ) b has = rules.of_array_call has.1 has.2 has.3
right_type fs t g (expression nd (number z)) (Array κ) b has = absurd has
right_type fs t g (expression nd (text z)) (Array κ) b has = absurd has
right_type fs t g (expression nd (truth z)) (Array κ) b has = absurd has
right_type fs t g (expression nd (element w i)) (Array κ) b has = absurd has
right_type fs t g (expression nd (prefixed p e)) (Array κ) b has = absurd has
right_type fs t g (expression nd (chain os es)) (Array κ) b has = absurd has

pub numbers_got : (κ : Keys) (at : Span) (s s' : List NameEntry) → under_numbers κ at s ≡ got (tt {0}) s' → (κ ≡ Numbers) × (s ≡ s')
numbers_got Numbers at s s' is = (refl, cc)
numbers_got Texts at s s' is = absurd (cc)

literal_sound : (fs : List Signature) (g : Around) (t : Table) (h : Shape) (b : Base) (es : List Expression) (nd : Node) (s s' : List NameEntry)
    → literal_by h fs g b es nd s ≡ got (tt {0}) s' → Agrees t s' → Agrees t s × RightType fs t (scope_of g) (list nd es) (made b h)
literal_sound fs g t (Array κ) b es nd s s' is all =
    let one = bind_got (elements fs g (expressions_of es) (Some b) s) (λ u. under_numbers κ nd.first) (tt {0}) s' is in
    let keys = numbers_got κ nd.first one.1 s' one.3 in
    let has = elements_sound fs g t (expressions_of es) b s one.1 one.2 (kept t one.1 s' keys.1 all) in
    (has.0, subst (λ (ι : Keys). RightType fs t (scope_of g) (list nd es) (made b (Array ι))) (sym keys.0) (rules.of_list has.1))
literal_sound fs g t Scalar b es nd s s' is all =
    let one = bind_got (elements fs g (expressions_of es) None s) (λ u r. refused (Mismatch nd.first)) (tt {0}) s' is in
    absurd (cc (one.3))

pub right_sound : (fs : List Signature) (g : Around) (t : Table) (r : RightSide) (τ : Typ) (s s' : List NameEntry)
    → right fs g r τ s ≡ got (tt {0}) s' → Agrees t s' → Agrees t s × RightType fs t (scope_of g) r τ
right_sound fs g t (value e) τ s s' is all =
    let one = bind_got (whole fs g e s) (λ found. has_type found τ (first_of e)) (tt {0}) s' is in
    let same = has_type_got one.0 τ (first_of e) one.1 s' one.3 in
    let has = whole_sound fs g t e one.0 s one.1 one.2 (kept t one.1 s' same.1 all) in
    (has.0, subst (λ (σ : Typ). RightType fs t (scope_of g) (value e) σ) same.0 (right_type fs t (scope_of g) e one.0.shape one.0.base has.1))
right_sound fs g t (list nd es) τ s s' is all = literal_sound fs g t τ.shape τ.base es nd s s' is all

-- CALLS

pub refer_all_sound : (g : Around) (t : Table) (ws : List Word) (τs : List Typ) (s s' : List NameEntry)
    → refer_all g ws s ≡ got τs s' → Agrees t s' → Agrees t s × ReferAll t (scope_of g) ws τs
refer_all_sound g t [] τs s s' is all =
    let none : [] ≡ τs = cc in
    (kept t s s' (cc) all, subst (ReferAll t (scope_of g) []) none rules.no_name)
refer_all_sound g t (w ∷ ws) τs s s' is all =
    let one = bind_got (refer g w s) (λ τ r. refer_all g ws r >>= λ σs. got (τ ∷ σs)) τs s' is in
    let two = bind_got (refer_all g ws one.1) (λ σs. got (one.0 ∷ σs)) τs s' one.3 in
    let end : two.1 ≡ s' = cc in
    let others = refer_all_sound g t ws two.0 one.1 two.1 two.2 (kept t two.1 s' end all) in
    let refers = refer_sound g t w one.0 s one.1 one.2 others.0 in
    let same : one.0 ∷ two.0 ≡ τs = cc in
    (refers.0, subst (ReferAll t (scope_of g) (w ∷ ws)) same (rules.one_name refers.1 others.1))

pub same_types_got : (τs σs : List Typ) (at : Span) (s s' : List NameEntry) → same_types τs σs at s ≡ got (tt {0}) s' → length τs ≡ length σs → (τs ≡ σs) × (s ≡ s')
same_types_got [] [] at s s' is many = (refl, cc)
same_types_got [] (σ ∷ σs) at s s' is many = absurd (omega arith)
same_types_got (τ ∷ τs) [] at s s' is many = absurd (cc)
same_types_got (τ ∷ τs) (σ ∷ σs) at s s' is many =
    let one = bind_got (has_type τ σ at s) (λ u. same_types τs σs at) (tt {0}) s' is in
    let here = has_type_got τ σ at s one.1 one.2 in
    let fewer : length τs ≡ length σs = omega arith in
    let others = same_types_got τs σs at one.1 s' one.3 fewer in
    (ap₂ (λ (x : Typ) (xs : List Typ). x ∷ xs) here.0 others.0, here.1 ∙ others.1)

pub only_got : (τs : List Typ) (at : Span) (τ : Typ) (s s' : List NameEntry) → only_target τs at s ≡ got τ s' → (τs ≡ τ ∷ []) × (s ≡ s')
only_got [] at τ s s' is = absurd (cc)
only_got (σ ∷ []) at τ s s' is = let same : σ ≡ τ = cc in (ap (λ (x : Typ). x ∷ []) same, cc)
only_got (σ ∷ ρ ∷ ρs) at τ s s' is = absurd (cc)

-- a call of a function of the script with these outputs, or of a built-in function with one
abbrev CallsFor : List Signature → Table → Scope → Calling → List Typ → Type 0
CallsFor fs t g c τs =
    ((f : Signature) × Calls fs t c.name f × ArgumentTypes fs t g (expressions_of c.arguments) f.inputs × (f.outputs ≡ τs))
    ⊎ ((f : Builtin) × (b : Base) × CallsBuiltin t c.name (builtin_name f) × BuiltinType fs t g (builtin_name f) (expressions_of c.arguments) b × (τs ≡ one_of b ∷ []))

several_sound : (fs : List Signature) (g : Around) (t : Table) (c : Calling) (τs : List Typ) (s s' : List NameEntry)
    → several fs g c τs s ≡ got (tt {0}) s' → Agrees t s' → Agrees t s × CallsFor fs t (scope_of g) c τs
several_sound fs g t c τs s s' is all =
    elim (builtin_of c.name.text) as (λ o. builtin_of c.name.text ≡ o →
    either o (λ f. only_target τs c.name.span s >>= λ target r. called c.name (BuiltIn f) r >>= λ u r. builtin_type fs g f (expressions_of c.arguments) c.name.span r >>= λ b. has_type (one_of b) target c.name.span)
    (function_called fs c.name (length c.arguments) (length τs) s >>= λ f r. arguments fs g (expressions_of c.arguments) f.inputs c.name.span r >>= λ u. same_types f.outputs τs c.name.span) ≡ got (tt {0}) s'
    → Agrees t s × CallsFor fs t (scope_of g) c τs) [
      | None ↦ λ none here.
          let one = bind_got (function_called fs c.name (length c.arguments) (length τs) s) (λ f r. arguments fs g (expressions_of c.arguments) f.inputs c.name.span r >>= λ u. same_types f.outputs τs c.name.span) (tt {0}) s' here in
          let two = bind_got (arguments fs g (expressions_of c.arguments) one.0.inputs c.name.span one.1) (λ u. same_types one.0.outputs τs c.name.span) (tt {0}) s' one.3 in
          let counts = call_counted fs c.name (length c.arguments) (length τs) one.0 s one.1 one.2 in
          let outputs = same_types_got one.0.outputs τs c.name.span two.1 s' two.3 counts.1 in
          let given = arguments_sound fs g t (expressions_of c.arguments) one.0.inputs c.name.span one.1 two.1 two.2 (kept t two.1 s' outputs.1 all) (count_of c.arguments ∙ sym counts.0) in
          let found = call_sound fs t c.name (length c.arguments) (length τs) one.0 s one.1 one.2 given.0 in
          (found.0, inl (one.0, found.1, given.1, outputs.0))
      | Some f ↦ λ some here.
          let one = bind_got (only_target τs c.name.span s) (λ target r. called c.name (BuiltIn f) r >>= λ u r. builtin_type fs g f (expressions_of c.arguments) c.name.span r >>= λ b. has_type (one_of b) target c.name.span) (tt {0}) s' here in
          let two = bind_got (builtin_type fs g f (expressions_of c.arguments) c.name.span (settles c.name (Called (BuiltIn f)) one.1)) (λ b. has_type (one_of b) one.0 c.name.span) (tt {0}) s' one.3 in
          let target = only_got τs c.name.span one.0 s one.1 one.2 in
          let same = has_type_got (one_of two.0) one.0 c.name.span two.1 s' two.3 in
          let type = builtin_sound fs g t f (expressions_of c.arguments) c.name.span two.0 (settles c.name (Called (BuiltIn f)) one.1) two.1 two.2 (kept t two.1 s' same.1 all) in
          let found = builtin_called t c.name f one.1 some type.0 in
          (kept t s one.1 target.1 found.0, inr (f, two.0, found.1, type.1, target.0 ∙ ap (λ (σ : Typ). σ ∷ []) (sym same.0)))
    ] refl is

-- the one name, of which the variable has the type that a built-in function gives
one_target : (fs : List Signature) (t : Table) (g : Scope) (nd : Node) (ws : List Word) (c : Calling) (τs : List Typ) (f : Builtin) (b : Base)
    → ReferAll t g ws τs → τs ≡ one_of b ∷ [] → CallsBuiltin t c.name (builtin_name f) → BuiltinType fs t g (builtin_name f) (expressions_of c.arguments) b
    → StatementTyped fs t g (statement nd (assign_all ws c)) g
one_target fs t g nd ws c τs f b rules.no_name one found type = absurd (cc)
one_target fs t g nd ws c τs f b (rules.one_name {w = w} {τ = τ} refers rules.no_name) one found type =
    let same : τ ≡ one_of b = cc in
    rules.several_builtin (subst (Refers g t w) same refers) found type
one_target fs t g nd ws c τs f b (rules.one_name refers (rules.one_name other others)) one found type = absurd (cc)

assigned_all : (fs : List Signature) (t : Table) (g : Scope) (nd : Node) (ws : List Word) (c : Calling) (τs : List Typ)
    → ReferAll t g ws τs → CallsFor fs t g c τs → StatementTyped fs t g (statement nd (assign_all ws c)) g
assigned_all fs t g nd ws c τs refers (inl h) = rules.several (subst (ReferAll t g ws) (sym h.3) refers) h.1 h.2
assigned_all fs t g nd ws c τs refers (inr h) = one_target fs t g nd ws c τs h.0 h.1 refers h.4 h.2 h.3

-- what arguments are, one by one
abbrev AllFit : List Signature → Table → Scope → Expressions → List Typ → Type 0
AllFit fs t g no_expressions [] = Unit {0}
AllFit fs t g no_expressions (τ ∷ τs) = ⊥
AllFit fs t g (and_expression e es) [] = ⊥
AllFit fs t g (and_expression e es) (τ ∷ τs) = Fits fs t g e τ.shape τ.base × AllFit fs t g es τs

all_fit : {fs : List Signature} {t : Table} {g : Scope} {es : Expressions} {τs : List Typ} → ArgumentTypes fs t g es τs → AllFit fs t g es τs
all_fit rules.no_argument = tt
all_fit (rules.scalar_argument has others) = (has, all_fit others)
all_fit (rules.array_argument refers others) = (refers, all_fit others)

assert_sound : (fs : List Signature) (g : Around) (t : Table) (w : Word) (es : List Expression) (at : Span) (s s' : List NameEntry) → CallsBuiltin t w (builtin_name Named.Assert)
    → length es ≡ 2 → ArgumentTypes fs t (scope_of g) (expressions_of es) (one_of Boolean ∷ one_of Text ∷ []) → CallTyped fs t (scope_of g) w es
assert_sound fs g t w [] at s s' found two given = absurd (omega arith)
assert_sound fs g t w (a ∷ []) at s s' found two given = absurd (omega arith)
assert_sound fs g t w (a ∷ b ∷ []) at s s' found two given = let fit = all_fit given in rules.assert_called found fit.0 fit.1.0
assert_sound fs g t w (a ∷ b ∷ c ∷ cs) at s s' found two given = absurd (omega arith)

format_sound : (fs : List Signature) (g : Around) (t : Table) (w : Word) (nd : Node) (bytes : List ℕ) (es : List Expression) (at : Span) (s s' : List NameEntry)
    → (format_by (pieces false bytes) (record { from = nd.first.from; to = nd.to }) s >>= λ τs r. cond (nat_eq (length es) (length τs)) (arguments fs g (expressions_of es) τs at r) (refused (WrongCount at))) ≡ got (tt {0}) s'
    → Agrees t s' → Agrees t s × (CallsBuiltin t w (builtin_name Named.Printf) → CallTyped fs t (scope_of g) w (expression nd (text bytes) ∷ es))
format_sound fs g t w nd bytes es at s s' is all =
    elim (pieces false bytes) as (λ o. pieces false bytes ≡ o → (format_by o (record { from = nd.first.from; to = nd.to }) s >>= λ τs r. cond (nat_eq (length es) (length τs)) (arguments fs g (expressions_of es) τs at r) (refused (WrongCount at))) ≡ got (tt {0}) s'
    → Agrees t s × (CallsBuiltin t w (builtin_name Named.Printf) → CallTyped fs t (scope_of g) w (expression nd (text bytes) ∷ es))) [
      | None ↦ λ none here. absurd (cc)
      | Some ps ↦ λ some here.
          elim (nat_eq (length es) (length (wanted ps))) as (λ v. nat_eq (length es) (length (wanted ps)) ≡ v → cond v (arguments fs g (expressions_of es) (wanted ps) at s) (refused (WrongCount at)) ≡ got (tt {0}) s'
          → Agrees t s × (CallsBuiltin t w (builtin_name Named.Printf) → CallTyped fs t (scope_of g) w (expression nd (text bytes) ∷ es))) [
            | true ↦ λ many here.
                let given = arguments_sound fs g t (expressions_of es) (wanted ps) at s s' here all (count_of es ∙ eqb-true (length es) (length (wanted ps)) many) in
                (given.0, λ found. rules.printf_called found some given.1)
            | false ↦ λ other here. absurd (cc)
          ] refl here
    ] refl is

print_sound : (fs : List Signature) (g : Around) (t : Table) (w : Word) (es : List Expression) (at : Span) (s s' : List NameEntry)
    → print fs g es at s ≡ got (tt {0}) s' → Agrees t s' → Agrees t s × (CallsBuiltin t w (builtin_name Named.Printf) → CallTyped fs t (scope_of g) w es)
print_sound fs g t w [] at s s' is all = absurd (cc)
print_sound fs g t w (expression nd (text bytes) ∷ es) at s s' is all = format_sound fs g t w nd bytes es at s s' is all
print_sound fs g t w (expression nd (number z) ∷ es) at s s' is all = absurd (cc)
print_sound fs g t w (expression nd (truth z) ∷ es) at s s' is all = absurd (cc)
print_sound fs g t w (expression nd (variable v) ∷ es) at s s' is all = absurd (cc)
print_sound fs g t w (expression nd (element v i) ∷ es) at s s' is all = absurd (cc)
print_sound fs g t w (expression nd (call v ds) ∷ es) at s s' is all = absurd (cc)
print_sound fs g t w (expression nd (prefixed p e) ∷ es) at s s' is all = absurd (cc)
print_sound fs g t w (expression nd (chain os ds) ∷ es) at s s' is all = absurd (cc)

builtin_statement_sound : (fs : List Signature) (g : Around) (t : Table) (w : Word) (f : Builtin) (es : List Expression) (at : Span) (s s' : List NameEntry)
    → builtin_statement f fs g es at s ≡ got (tt {0}) s' → Agrees t s' → Agrees t s × (CallsBuiltin t w (builtin_name f) → CallTyped fs t (scope_of g) w es)
builtin_statement_sound fs g t w Named.Printf es at s s' is all = print_sound fs g t w es at s s' is all
builtin_statement_sound fs g t w Named.Assert es at s s' is all =
    elim (nat_eq (length es) 2) as (λ v. nat_eq (length es) 2 ≡ v → cond v (arguments fs g (expressions_of es) (one_of Boolean ∷ one_of Text ∷ []) at s) (refused (WrongCount at)) ≡ got (tt {0}) s'
    → Agrees t s × (CallsBuiltin t w (builtin_name Named.Assert) → CallTyped fs t (scope_of g) w es)) [
      | true ↦ λ many here.
          let two : length es ≡ 2 = eqb-true (length es) 2 many in
          let given = arguments_sound fs g t (expressions_of es) (one_of Boolean ∷ one_of Text ∷ []) at s s' here all (count_of es ∙ two) in
          (given.0, λ found. assert_sound fs g t w es at s s' found two given.1)
      | false ↦ λ other here. absurd (cc)
    ] refl is
builtin_statement_sound fs g t w Named.Strcat es at s s' is all = absurd (cc)
builtin_statement_sound fs g t w Named.FromInt es at s s' is all = absurd (cc)
builtin_statement_sound fs g t w Named.ToInt es at s s' is all = absurd (cc)
builtin_statement_sound fs g t w Named.Size es at s s' is all = absurd (cc)

no_outputs : (τs : List Typ) → length τs ≡ 0 → τs ≡ []
no_outputs [] none = refl
no_outputs (τ ∷ τs) none = absurd (omega arith)

call_alone_sound : (fs : List Signature) (g : Around) (t : Table) (c : Calling) (s s' : List NameEntry)
    → call_alone fs g c s ≡ got (tt {0}) s' → Agrees t s' → Agrees t s × CallTyped fs t (scope_of g) c.name c.arguments
call_alone_sound fs g t c s s' is all =
    elim (builtin_of c.name.text) as (λ o. builtin_of c.name.text ≡ o →
    either o (λ f. called c.name (BuiltIn f) s >>= λ u. builtin_statement f fs g c.arguments c.name.span)
    (function_called fs c.name (length c.arguments) 0 s >>= λ f. arguments fs g (expressions_of c.arguments) f.inputs c.name.span) ≡ got (tt {0}) s'
    → Agrees t s × CallTyped fs t (scope_of g) c.name c.arguments) [
      | None ↦ λ none here.
          let one = bind_got (function_called fs c.name (length c.arguments) 0 s) (λ f. arguments fs g (expressions_of c.arguments) f.inputs c.name.span) (tt {0}) s' here in
          let counts = call_counted fs c.name (length c.arguments) 0 one.0 s one.1 one.2 in
          let given = arguments_sound fs g t (expressions_of c.arguments) one.0.inputs c.name.span one.1 s' one.3 all (count_of c.arguments ∙ sym counts.0) in
          let found = call_sound fs t c.name (length c.arguments) 0 one.0 s one.1 one.2 given.0 in
          (found.0, rules.function_called found.1 (no_outputs one.0.outputs counts.1) given.1)
      | Some f ↦ λ some here.
          let type = builtin_statement_sound fs g t c.name f c.arguments c.name.span (settles c.name (Called (BuiltIn f)) s) s' here all in
          let found = builtin_called t c.name f s some type.0 in
          (found.0, type.1 found.1)
    ] refl is

-- LOOPS

step_sound : (fs : List Signature) (g : Around) (t : Table) (e : Option Expression) (s s' : List NameEntry)
    → step_of fs g e s ≡ got (tt {0}) s' → Agrees t s' → Agrees t s × StepType fs t (scope_of g) e
step_sound fs g t None s s' is all = (kept t s s' (cc) all, rules.no_step)
step_sound fs g t (Some e) s s' is all = let has = expected_sound fs g t e Int s s' is all in (has.0, rules.a_step has.1)

abbrev pub numbers : ElementTypes
numbers = record { value = Int; key = Int }

source_sound : (fs : List Signature) (g : Around) (t : Table) (o : Over) (a : ElementTypes) (s s' : List NameEntry)
    → source fs g o s ≡ got a s' → Agrees t s' → Agrees t s × SourceType fs t (scope_of g) o a.value a.key
source_sound fs g t (array w) a s s' is all =
    let one = bind_got (refer g w s) (λ τ. elements_of τ w.span) a s' is in
    let type = elements_got one.0 w.span one.1 s' a one.3 in
    let refers = refer_sound g t w one.0 s one.1 one.2 (kept t one.1 s' type.3 all) in
    (refers.0, subst (λ (c : Base). SourceType fs t (scope_of g) (array w) a.value c) type.2 (rules.of_elements (subst (Refers (scope_of g) t w) type.1 refers.1)))
source_sound fs g t (range low high step) a s s' is all =
    let one = bind_got (expected fs g low Int s) (λ u r. expected fs g high Int r >>= λ u r. step_of fs g step r >>= λ u. got numbers) a s' is in
    let two = bind_got (expected fs g high Int one.1) (λ u r. step_of fs g step r >>= λ u. got numbers) a s' one.3 in
    let three = bind_got (step_of fs g step two.1) (λ u. got numbers) a s' two.3 in
    let end : three.1 ≡ s' = cc in
    let same : numbers ≡ a = cc in
    let last = step_sound fs g t step two.1 three.1 three.2 (kept t three.1 s' end all) in
    let h = expected_sound fs g t high Int one.1 two.1 two.2 last.0 in
    let l = expected_sound fs g t low Int s one.1 one.2 h.0 in
    (l.0, subst (λ (x : ElementTypes). SourceType fs t (scope_of g) (range low high step) x.value x.key) same (rules.of_range l.1 h.1 last.1))

declares : (g : Around) (w : Word) (τ : Typ) → ¬ IsVisible (scope_of g) w.text → Declares (scope_of g) w τ (scope_of (declared g w τ))
declares g w τ new = subst (Declares (scope_of g) w τ) (sym (scope_declared g w τ)) (rules.fresh new)

loop_with : (g : Around) (v : Word) (k : Option Word) (a : ElementTypes) (s s' : List NameEntry) → Inside g → ¬ IsVisible (scope_of (inside g)) v.text → fresh_key g v k s ≡ got (tt {0}) s'
    → LoopScope (scope_of g) v a.value k a.key (scope_of (loop_scope g v k a)) × (s ≡ s')
loop_with g v None a s s' low new is =
    (rules.value_only (subst (λ (x : Scope). Declares x v (one_of a.value) (scope_of (declared (inside g) v (one_of a.value)))) (scope_inside g low) (declares (inside g) v (one_of a.value) new)), cc)
loop_with g v (Some k) a s s' low new is =
    let one = bind_got (fresh g k s) (λ u r. cond (bytes_eq k.text v.text) (refused (Declared k.span)) (got (tt {0}) r)) (tt {0}) s' is in
    let key = fresh_got (inside g) k s one.1 one.2 in
    elim (bytes_eq k.text v.text) as (λ q. bytes_eq k.text v.text ≡ q → cond q (refused (Declared k.span)) (got (tt {0}) one.1) ≡ got (tt {0}) s' → LoopScope (scope_of g) v a.value (Some k) a.key (scope_of (loop_scope g v (Some k) a)) × (s ≡ s')) [
      | true ↦ λ same here. absurd (cc)
      | false ↦ λ other here.
          let end : one.1 ≡ s' = cc in
          let apart = other_text k.text v.text other in
          let unseen : ¬ IsVisible (scope_of (declared (inside g) v (one_of a.value))) k.text =
          subst (λ (x : Scope). ¬ IsVisible x k.text) (sym (scope_declared (inside g) v (one_of a.value))) (none_first (own v (one_of a.value)) (scope_of (inside g)) k.text (λ e. apart (sym e)) key.0) in
          (rules.with_key (subst (λ (x : Scope). Declares x v (one_of a.value) (scope_of (declared (inside g) v (one_of a.value)))) (scope_inside g low) (declares (inside g) v (one_of a.value) new)) (declares (declared (inside g) v (one_of a.value)) k (one_of a.key) unseen), key.1 ∙ end)
    ] refl one.3

pub loop_inside : (g : Around) (v : Word) (k : Option Word) (a : ElementTypes) → Inside g → Inside (loop_scope g v k a)
loop_inside g v None a low = inside_added (inside g) v (Local v.number) (one_of a.value) (inside_more g low)
loop_inside g v (Some k) a low = inside_added (declared (inside g) v (one_of a.value)) k (Local k.number) (one_of a.key) (inside_added (inside g) v (Local v.number) (one_of a.value) (inside_more g low))

-- STATEMENTS

initial_sound : (fs : List Signature) (g : Around) (t : Table) (nd : Node) (d : Declaration) (r : Option RightSide) (s s' : List NameEntry) → ¬ IsVisible (scope_of g) d.name.text
    → initial fs (declared g d.name (declared_type d)) r (declared_type d) s ≡ got (tt {0}) s' → Agrees t s'
    → Agrees t s × StatementTyped fs t (scope_of g) (statement nd (declare d r)) (scope_of (declared g d.name (declared_type d)))
initial_sound fs g t nd d None s s' new is all = (kept t s s' (cc) all, rules.declaration (declares g d.name (declared_type d) new))
initial_sound fs g t nd d (Some r) s s' new is all =
    let has = right_sound fs (declared g d.name (declared_type d)) t r (declared_type d) s s' is all in
    (has.0, rules.definition (declares g d.name (declared_type d) new) has.1)

-- a statement that leaves its scope as it was
same_scope : (fs : List Signature) (t : Table) (g h : Around) (st : Statement) (s s' : List NameEntry) → got g s ≡ got h s' → Inside g
    → Inside h × (Agrees t s' → Agrees t s) × (StatementTyped fs t (scope_of g) st (scope_of g) → StatementTyped fs t (scope_of g) st (scope_of h))
same_scope fs t g h st s s' is low =
    let same : g ≡ h = cc in
    let end : s ≡ s' = cc in
    (subst Inside same low, kept t s s' end, λ typed. subst (λ (x : Around). StatementTyped fs t (scope_of g) st (scope_of x)) same typed)

mutual
  unfolding stated commanded enclosed in_order

  pub stated_sound : (fs : List Signature) (g h : Around) (t : Table) (st : Statement) (s s' : List NameEntry) → Inside g → stated fs g st s ≡ got h s'
      → Inside h × (Agrees t s' → Agrees t s × StatementTyped fs t (scope_of g) st (scope_of h))
  stated_sound fs g h t (statement nd c) s s' low is = commanded_sound fs g h t nd c s s' low is

  commanded_sound : (fs : List Signature) (g h : Around) (t : Table) (nd : Node) (c : Command) (s s' : List NameEntry) → Inside g → commanded fs g c s ≡ got h s'
      → Inside h × (Agrees t s' → Agrees t s × StatementTyped fs t (scope_of g) (statement nd c) (scope_of h))
  commanded_sound fs g h t nd (declare d r) s s' low is =
      let one = bind_got (fresh g d.name s) (λ u r'. initial fs (declared g d.name (declared_type d)) r (declared_type d) r' >>= λ u. got (declared g d.name (declared_type d))) h s' is in
      let two = bind_got (initial fs (declared g d.name (declared_type d)) r (declared_type d) one.1) (λ u. got (declared g d.name (declared_type d))) h s' one.3 in
      let same : declared g d.name (declared_type d) ≡ h = cc in
      let end : two.1 ≡ s' = cc in
      let new = fresh_got g d.name s one.1 one.2 in (
        subst Inside same (inside_added g d.name (Local d.name.number) (declared_type d) low),
        λ all.
            let has = initial_sound fs g t nd d r one.1 two.1 new.0 two.2 (kept t two.1 s' end all) in
            (kept t s one.1 new.1 has.0, subst (λ (x : Around). StatementTyped fs t (scope_of g) (statement nd (declare d r)) (scope_of x)) same has.1),
      )
  commanded_sound fs g h t nd (assign w r) s s' low is =
      let one = bind_got (refer g w s) (λ τ r'. right fs g r τ r' >>= λ u. got g) h s' is in
      let two = bind_got (right fs g r one.0 one.1) (λ u. got g) h s' one.3 in
      let same = same_scope fs t g h (statement nd (assign w r)) two.1 s' two.3 low in (
        same.0,
        λ all.
            let has = right_sound fs g t r one.0 one.1 two.1 two.2 (same.1 all) in
            let refers = refer_sound g t w one.0 s one.1 one.2 has.0 in
            (refers.0, same.2 (rules.assignment refers.1 has.1)),
      )
  commanded_sound fs g h t nd (write w i e) s s' low is =
      let one = bind_got (refer g w s >>= λ τ. elements_of τ w.span) (λ a r. expected fs g i a.key r >>= λ u r. expected fs g e a.value r >>= λ u. got g) h s' is in
      let name = bind_got (refer g w s) (λ τ. elements_of τ w.span) one.0 one.1 one.2 in
      let two = bind_got (expected fs g i one.0.key one.1) (λ u r. expected fs g e one.0.value r >>= λ u. got g) h s' one.3 in
      let three = bind_got (expected fs g e one.0.value two.1) (λ u. got g) h s' two.3 in
      let type = elements_got name.0 w.span name.1 one.1 one.0 name.3 in
      let same = same_scope fs t g h (statement nd (write w i e)) three.1 s' three.3 low in (
        same.0,
        λ all.
            let has = expected_sound fs g t e one.0.value two.1 three.1 three.2 (same.1 all) in
            let index = expected_sound fs g t i one.0.key one.1 two.1 two.2 has.0 in
            let refers = refer_sound g t w name.0 s name.1 name.2 (kept t name.1 one.1 type.3 index.0) in
            let key = subst (HasType fs t (scope_of g) i) (sym type.2) index.1 in
            (refers.0, same.2 (rules.element_write (subst (Refers (scope_of g) t w) type.1 refers.1) key has.1)),
      )
  commanded_sound fs g h t nd (assign_all ws c) s s' low is =
      let one = bind_got (refer_all g ws s) (λ τs r. several fs g c τs r >>= λ u. got g) h s' is in
      let two = bind_got (several fs g c one.0 one.1) (λ u. got g) h s' one.3 in
      let same = same_scope fs t g h (statement nd (assign_all ws c)) two.1 s' two.3 low in (
        same.0,
        λ all.
            let has = several_sound fs g t c one.0 one.1 two.1 two.2 (same.1 all) in
            let refers = refer_all_sound g t ws one.0 s one.1 one.2 has.0 in
            (refers.0, same.2 (assigned_all fs t (scope_of g) nd ws c one.0 refers.1 has.1)),
      )
  commanded_sound fs g h t nd (calls p c) s s' low is =
      let one = bind_got (call_alone fs g c s) (λ u. got g) h s' is in
      let same = same_scope fs t g h (statement nd (calls p c)) one.1 s' one.3 low in (
        same.0,
        λ all.
            let has = call_alone_sound fs g t c s one.1 one.2 (same.1 all) in
            (has.0, same.2 (rules.call_statement has.1)),
      )
  commanded_sound fs g h t nd (choice e b) s s' low is =
      let one = bind_got (expected fs g e Boolean s) (λ u r. enclosed fs (inside g) b r >>= λ u. got g) h s' is in
      let two = bind_got (enclosed fs (inside g) b one.1) (λ u. got g) h s' one.3 in
      let same = same_scope fs t g h (statement nd (choice e b)) two.1 s' two.3 low in (
        same.0,
        λ all.
            let content = enclosed_sound fs (inside g) t b one.1 two.1 (inside_more g low) two.2 (same.1 all) in
            let has = expected_sound fs g t e Boolean s one.1 one.2 content.0 in
            (has.0, same.2 (rules.if_statement has.1 (subst (λ (x : Scope). BodyTyped fs t x b) (scope_inside g low) content.1))),
      )
  commanded_sound fs g h t nd (choice_else e b d) s s' low is =
      let one = bind_got (expected fs g e Boolean s) (λ u r. enclosed fs (inside g) b r >>= λ u r. enclosed fs (inside g) d r >>= λ u. got g) h s' is in
      let two = bind_got (enclosed fs (inside g) b one.1) (λ u r. enclosed fs (inside g) d r >>= λ u. got g) h s' one.3 in
      let three = bind_got (enclosed fs (inside g) d two.1) (λ u. got g) h s' two.3 in
      let same = same_scope fs t g h (statement nd (choice_else e b d)) three.1 s' three.3 low in (
        same.0,
        λ all.
            let other = enclosed_sound fs (inside g) t d two.1 three.1 (inside_more g low) three.2 (same.1 all) in
            let content = enclosed_sound fs (inside g) t b one.1 two.1 (inside_more g low) two.2 other.0 in
            let has = expected_sound fs g t e Boolean s one.1 one.2 content.0 in
            (has.0, same.2 (rules.if_else_statement has.1 (subst (λ (x : Scope). BodyTyped fs t x b) (scope_inside g low) content.1) (subst (λ (x : Scope). BodyTyped fs t x d) (scope_inside g low) other.1))),
      )
  commanded_sound fs g h t nd (loop v k o b) s s' low is =
      let one = bind_got (fresh_variables g v k s) (λ u r. source fs g o r >>= λ a r. enclosed fs (loop_scope g v k a) b r >>= λ u. got g) h s' is in
      let two = bind_got (source fs g o one.1) (λ a r. enclosed fs (loop_scope g v k a) b r >>= λ u. got g) h s' one.3 in
      let three = bind_got (enclosed fs (loop_scope g v k two.0) b two.1) (λ u. got g) h s' two.3 in
      let names = bind_got (fresh g v s) (λ u. fresh_key g v k) (tt {0}) one.1 one.2 in
      let new = fresh_got (inside g) v s names.1 names.2 in
      let scope = loop_with g v k two.0 names.1 one.1 low new.0 names.3 in
      let same = same_scope fs t g h (statement nd (loop v k o b)) three.1 s' three.3 low in (
        same.0,
        λ all.
            let content = enclosed_sound fs (loop_scope g v k two.0) t b two.1 three.1 (loop_inside g v k two.0 low) three.2 (same.1 all) in
            let over = source_sound fs g t o two.0 one.1 two.1 two.2 content.0 in
            (kept t s one.1 (new.1 ∙ scope.1) over.0, same.2 (rules.loop_statement over.1 scope.0 content.1)),
      )
  commanded_sound fs g h t nd (waits ws b) s s' low is =
      let one = bind_got (refer_all g ws s) (λ τs r. enclosed fs g b r >>= λ u. got g) h s' is in
      let two = bind_got (enclosed fs g b one.1) (λ u. got g) h s' one.3 in
      let same = same_scope fs t g h (statement nd (waits ws b)) two.1 s' two.3 low in (
        same.0,
        λ all.
            let content = enclosed_sound fs g t b one.1 two.1 low two.2 (same.1 all) in
            let refers = refer_all_sound g t ws one.0 s one.1 one.2 content.0 in
            (refers.0, same.2 (rules.wait_statement refers.1 content.1)),
      )

  pub enclosed_sound : (fs : List Signature) (g : Around) (t : Table) (b : Body) (s s' : List NameEntry) → Inside g → enclosed fs g b s ≡ got (tt {0}) s' → Agrees t s'
      → Agrees t s × BodyTyped fs t (scope_of g) b
  enclosed_sound fs g t (body from ss) s s' low is all =
      let has = in_order_sound fs g t ss s s' low is all in
      (has.0, rules.in_braces has.1)

  in_order_sound : (fs : List Signature) (g : Around) (t : Table) (ss : Statements) (s s' : List NameEntry) → Inside g → in_order fs g ss s ≡ got (tt {0}) s' → Agrees t s'
      → Agrees t s × StatementsTyped fs t (scope_of g) ss
  in_order_sound fs g t no_statements s s' low is all = (kept t s s' (cc) all, rules.no_more_statements)
  in_order_sound fs g t (and_statement st ss) s s' low is all =
      let one = bind_got (stated fs g st s) (λ h. in_order fs h ss) (tt {0}) s' is in
      let sound = stated_sound fs g one.0 t st s one.1 low one.2 in
      let others = in_order_sound fs one.0 t ss one.1 s' sound.0 one.3 all in
      let has = sound.1 others.0 in
      (has.0, rules.next_statement has.1 others.1)
