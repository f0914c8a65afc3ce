-- What the check accepts of expressions is well typed, for each table that says what was settled.
use Rattle.std.proofs.Common.{◌≡◌, ℕ, true, false, List, [], ◌∷◌, length, refl, sym, ap, ◌∙◌, subst, arith}
use Rattle.std.specs.Prelude.{Option, Some, None, cond, nat_eq}
use Rattle.std.proofs.lemmas.Bool.{eqb-true}
use Rattle.std.specs.Str.{bytes_eq}
use Rattle.std.specs.Prelude.{codes}
use Rattle.lexer.specs.declared.token.Span.{Span}
use Rattle.types.specs.declared.fault.TypeFault.TheVariants.{Mismatch, WrongCount}
use Rattle.types.specs.declared.typed.NameEntry.{NameEntry}
use Rattle.types.specs.declared.typed.ElementTypes.{ElementTypes}
use Rattle.types.specs.declared.typed.NameMeaning.TheVariants.{Called}
use Rattle.types.specs.declared.typed.Callee.TheVariants.{Function, BuiltIn}
use Rattle.types.specs.declared.typed.Builtin.{Builtin}
use Rattle.types.specs.declared.typed.Builtin.TheVariants as Named
use Rattle.language.specs.declared.tree.Base.{Base}
use Rattle.language.specs.declared.tree.Base.TheVariants.{Int, Text, Boolean}
use Rattle.language.specs.declared.tree.Keys.{Keys}
use Rattle.language.specs.declared.tree.Shape.{Shape}
use Rattle.language.specs.declared.tree.Shape.TheVariants.{Scalar, Array}
use Rattle.language.specs.declared.tree.Operator.{Operator}
use Rattle.language.specs.Tree.{Word, Node, Expression, expression, Form, number, text, truth, variable, element, call, prefixed, chain, Expressions, no_expressions, and_expression}
use Rattle.language.specs.Table.{Table, builtin_text}
use Rattle.language.specs.Kinds.{base_of_keys}
use Rattle.language.specs.Scopes.{Typ, one_of, many_of, Scope, Signature, Refers, CallsBuiltin}
use Rattle.language.specs.Typing as rules
use Rattle.language.specs.Typing.{HasType, RestType, ArgumentTypes, BuiltinType, AllHaveType}
use Rattle.types.specs.Known.{Around}
use Rattle.types.specs.Typed.{builtin_name}
use Rattle.types.specs.Outcomes.{refused, got, ◌>>=◌}
use Rattle.types.specs.Names.{refer, builtin_of, called, settles, missing, found, find, counted, function_called}
use Rattle.types.specs.Agrees.{Agrees, scope_of}
use Rattle.types.specs.Accepted.{NamesArray, CallGives, GivesArray, WholeType, Fits}
use Rattle.types.specs.Expressions.{has_base, has_type, scalar, elements_of, gives, base_of, given_or, given_by, takes, first_given, first_of, count, has_wanted, named, array_name, fits_by, fits, of_one, builtin_by, output_of, either, whole, typed, expected, whole_form, chained, further, elements, arguments, only, builtin_type}
use Rattle.types.proofs.settled.Settling.{agrees_last, refer_sound, call_sound, same_text}
use Rattle.types.proofs.accepted.Typing.{bind_got, has_base_got, has_type_got, scalar_got, elements_got, gives_sound, prefix_sound}

abbrev made : Base → Shape → Typ
made b h = record { base = b; shape = h }

-- an answer that is known, and what holds of it
pub known : {A : Type 0} (P : A → Type 0) (t : Table) (x y : A) (s s' : List NameEntry) → got x s ≡ got y s' → Agrees t s' → P x → Agrees t s × P y
known P t x y s s' is all holds =
    let same : x ≡ y = cc in
    let end : s ≡ s' = cc in
    (subst (Agrees t) (sym end) all, subst P same holds)

pub kept : (t : Table) (s s' : List NameEntry) → s ≡ s' → Agrees t s' → Agrees t s
kept t s s' same all = subst (Agrees t) (sym same) all

-- SMALL TESTS

pub given_got : (o : Operator) (b c : Base) (at : Span) (s s' : List NameEntry) → given_by o b at s ≡ got c s' → rules.Operates o b c × (s ≡ s')
given_got o b c at s s' is =
    elim (gives o b) as (λ v. gives o b ≡ v → given_or v at s ≡ got c s' → rules.Operates o b c × (s ≡ s')) [
      | None ↦ λ none refusal. absurd (cc)
      | Some d ↦ λ some here. let same : d ≡ c = cc in (gives_sound o b c (some ∙ ap Some same), cc)
    ] refl is

pub array_name_got : (τ : Typ) (e : Expression) (a : ElementTypes) (s s' : List NameEntry) → array_name τ e s ≡ got a s' → (named e ≡ true) × (κ : Keys) × (τ ≡ many_of κ a.value) × (s ≡ s')
array_name_got τ e a s s' is =
    elim (named e) as (λ v. named e ≡ v → cond v (elements_of τ (first_of e) s) (refused (Mismatch (first_of e))) ≡ got a s' → (named e ≡ true) × (κ : Keys) × (τ ≡ many_of κ a.value) × (s ≡ s')) [
      | true ↦ λ it_is here. let r = elements_got τ (first_of e) s s' a here in (it_is, r.0, r.1, r.3)
      | false ↦ λ other refusal. absurd (cc)
    ] refl is

-- the name of an array, of what has an array's type
pub names_array : (fs : List Signature) (t : Table) (g : Scope) (e : Expression) (σ : Typ) → named e ≡ true → GivesArray fs t g e σ → NamesArray t g e σ
names_array fs t g (expression nd (variable w)) σ is gives = gives
names_array fs t g (expression nd (number z)) σ is gives = absurd (cc)
names_array fs t g (expression nd (text z)) σ is gives = absurd (cc)
names_array fs t g (expression nd (truth z)) σ is gives = absurd (cc)
names_array fs t g (expression nd (element w i)) σ is gives = absurd (cc)
names_array fs t g (expression nd (call w es)) σ is gives = absurd (cc)
names_array fs t g (expression nd (prefixed p e)) σ is gives = absurd (cc)
names_array fs t g (expression nd (chain os es)) σ is gives = absurd (cc)

-- what has a scalar's type
pub scalar_sound : (fs : List Signature) (t : Table) (g : Scope) (e : Expression) (τ : Typ) (b : Base) → τ ≡ one_of b → WholeType fs t g e τ.shape τ.base → HasType fs t g e b
scalar_sound fs t g e τ b same has = subst (λ (σ : Typ). WholeType fs t g e σ.shape σ.base) same has

pub array_sound : (fs : List Signature) (t : Table) (g : Scope) (e : Expression) (τ : Typ) (κ : Keys) (b : Base) → named e ≡ true → τ ≡ many_of κ b → WholeType fs t g e τ.shape τ.base
    → NamesArray t g e (many_of κ b)
array_sound fs t g e τ κ b is same has = names_array fs t g e (many_of κ b) is (subst (λ (σ : Typ). WholeType fs t g e σ.shape σ.base) same has)

-- a name of a variable, of its type
pub name_type : (fs : List Signature) (t : Table) (g : Scope) (nd : Node) (w : Word) (h : Shape) (b : Base) → Refers g t w (made b h) → WholeType fs t g (expression nd (variable w)) h b
name_type fs t g nd w Scalar b refers = rules.of_variable refers
name_type fs t g nd w (Array κ) b refers = refers

-- a call of a function, of its output's type
pub call_type : (fs : List Signature) (t : Table) (g : Scope) (nd : Node) (w : Word) (es : Expressions) (h : Shape) (b : Base)
    → CallGives fs t g w es (made b h) → WholeType fs t g (expression nd (call w es)) h b
call_type fs t g nd w es Scalar b gives = rules.of_call gives.1 gives.2 gives.3
call_type fs t g nd w es (Array κ) b gives = gives

pub fits_sound : (fs : List Signature) (t : Table) (g : Scope) (e : Expression) (τ σ : Typ) (h : Shape) (s s' : List NameEntry)
    → σ.shape ≡ h → fits_by h τ σ e s ≡ got (tt {0}) s' → (s ≡ s') × (WholeType fs t g e τ.shape τ.base → Fits fs t g e h σ.base)
fits_sound fs t g e τ σ Scalar s s' shape is =
    let one = bind_got (scalar τ (first_of e) s) (λ c. has_base c σ.base (first_of e)) (tt {0}) s' is in
    let type = scalar_got τ (first_of e) s one.1 one.0 one.2 in
    let base = has_base_got one.0 σ.base (first_of e) one.1 s' one.3 in
    (type.1 ∙ base.1, λ has. scalar_sound fs t g e τ σ.base (type.0 ∙ ap one_of base.0) has)
fits_sound fs t g e τ σ (Array κ) s s' shape is =
    let one = bind_got (array_name τ e s) (λ a. has_type τ σ (first_of e)) (tt {0}) s' is in
    let name = array_name_got τ e one.0 s one.1 one.2 in
    let type = has_type_got τ σ (first_of e) one.1 s' one.3 in
    (name.3 ∙ type.1, λ has. array_sound fs t g e τ κ σ.base name.0 (type.0 ∙ ap (made σ.base) shape) has)

pub one_argument : (fs : List Signature) (t : Table) (g : Scope) (e : Expression) (es : Expressions) (h : Shape) (b : Base) (τs : List Typ)
    → Fits fs t g e h b → ArgumentTypes fs t g es τs → ArgumentTypes fs t g (and_expression e es) (made b h ∷ τs)
one_argument fs t g e es Scalar b τs fit others = rules.scalar_argument fit others
one_argument fs t g (expression nd (variable w)) es (Array κ) b τs fit others = rules.array_argument fit others
one_argument fs t g (expression nd (number z)) es (Array κ) b τs fit others = absurd fit
one_argument fs t g (expression nd (text z)) es (Array κ) b τs fit others = absurd fit
one_argument fs t g (expression nd (truth z)) es (Array κ) b τs fit others = absurd fit
one_argument fs t g (expression nd (element w i)) es (Array κ) b τs fit others = absurd fit
one_argument fs t g (expression nd (call w ds)) es (Array κ) b τs fit others = absurd fit
one_argument fs t g (expression nd (prefixed p e)) es (Array κ) b τs fit others = absurd fit
one_argument fs t g (expression nd (chain os ds)) es (Array κ) b τs fit others = absurd fit

-- the operators of a chain with the operands behind the first one; no operator and no operand are none
abbrev Rests : List Signature → Table → Scope → List Operator → Expressions → Base → Base → Type 0
Rests fs t g [] no_expressions b c = Unit {0}
Rests fs t g [] (and_expression e es) b c = ⊥
Rests fs t g (o ∷ os) es b c = RestType fs t g (o ∷ os) es b c

rest_more : (fs : List Signature) (t : Table) (g : Scope) (o : Operator) (os : List Operator) (e : Expression) (es : Expressions) (b c : Base)
    → rules.Operates o b c → HasType fs t g e b → Rests fs t g os es b c → RestType fs t g (o ∷ os) (and_expression e es) b c
rest_more fs t g o [] e no_expressions b c op has rest = rules.last_operand op has
rest_more fs t g o [] e (and_expression d ds) b c op has rest = absurd rest
rest_more fs t g o (p ∷ os) e es b c op has rest = rules.next_operand op has rest

-- an array's name is what `size` takes
size_type : (fs : List Signature) (t : Table) (g : Scope) (e : Expression) (κ : Keys) (b : Base) → NamesArray t g e (many_of κ b) → BuiltinType fs t g (builtin_name Named.Size) (and_expression e no_expressions) Int
size_type fs t g (expression nd (variable w)) κ b is = rules.of_size is
size_type fs t g (expression nd (number z)) κ b is = absurd is
size_type fs t g (expression nd (text z)) κ b is = absurd is
size_type fs t g (expression nd (truth z)) κ b is = absurd is
size_type fs t g (expression nd (element w i)) κ b is = absurd is
size_type fs t g (expression nd (call w ds)) κ b is = absurd is
size_type fs t g (expression nd (prefixed p e)) κ b is = absurd is
size_type fs t g (expression nd (chain os ds)) κ b is = absurd is

pub of_one_sound : (fs : List Signature) (t : Table) (g : Scope) (f : Builtin) (τ : Typ) (e : Expression) (at : Span) (b : Base) (s s' : List NameEntry)
    → of_one f τ e at s ≡ got b s' → (s ≡ s') × (WholeType fs t g e τ.shape τ.base → BuiltinType fs t g (builtin_name f) (and_expression e no_expressions) b)
of_one_sound fs t g Named.FromInt τ e at b s s' is =
    let all = bind_got (scalar τ (first_of e) s >>= λ c. has_base c Int (first_of e)) (λ u. got Text) b s' is in
    let one = bind_got (scalar τ (first_of e) s) (λ c. has_base c Int (first_of e)) all.0 all.1 all.2 in
    let type = scalar_got τ (first_of e) s one.1 one.0 one.2 in
    let base = has_base_got one.0 Int (first_of e) one.1 all.1 one.3 in
    let given : got Text all.1 ≡ got b s' = all.3 in
    let same : Text ≡ b = cc in
    let end : all.1 ≡ s' = cc in
    (type.1 ∙ base.1 ∙ end, λ has. subst (λ (c : Base). BuiltinType fs t g (builtin_name Named.FromInt) (and_expression e no_expressions) c) same (rules.of_fromint (scalar_sound fs t g e τ Int (type.0 ∙ ap one_of base.0) has)))
of_one_sound fs t g Named.ToInt τ e at b s s' is =
    let all = bind_got (scalar τ (first_of e) s >>= λ c. has_base c Text (first_of e)) (λ u. got Int) b s' is in
    let one = bind_got (scalar τ (first_of e) s) (λ c. has_base c Text (first_of e)) all.0 all.1 all.2 in
    let type = scalar_got τ (first_of e) s one.1 one.0 one.2 in
    let base = has_base_got one.0 Text (first_of e) one.1 all.1 one.3 in
    let given : got Int all.1 ≡ got b s' = all.3 in
    let same : Int ≡ b = cc in
    let end : all.1 ≡ s' = cc in
    (type.1 ∙ base.1 ∙ end, λ has. subst (λ (c : Base). BuiltinType fs t g (builtin_name Named.ToInt) (and_expression e no_expressions) c) same (rules.of_toint (scalar_sound fs t g e τ Text (type.0 ∙ ap one_of base.0) has)))
of_one_sound fs t g Named.Size τ e at b s s' is =
    let one = bind_got (array_name τ e s) (λ a. got Int) b s' is in
    let type = array_name_got τ e one.0 s one.1 one.2 in
    let given : got Int one.1 ≡ got b s' = one.3 in
    let same : Int ≡ b = cc in
    let end : one.1 ≡ s' = cc in
    (type.3 ∙ end, λ has. subst (λ (c : Base). BuiltinType fs t g (builtin_name Named.Size) (and_expression e no_expressions) c) same (size_type fs t g e type.1 one.0.value (array_sound fs t g e τ type.1 one.0.value type.0 type.2 has)))
of_one_sound fs t g Named.Strcat τ e at b s s' is = absurd (cc)
of_one_sound fs t g Named.Printf τ e at b s s' is = absurd (cc)
of_one_sound fs t g Named.Assert τ e at b s s' is = absurd (cc)

-- CALLED NAMES

abbrev after_printf : List ℕ → Option Builtin
after_printf letters = cond (bytes_eq letters (codes "assert")) (Some Named.Assert) None

abbrev after_size : List ℕ → Option Builtin
after_size letters = cond (bytes_eq letters (codes "printf")) (Some Named.Printf) (after_printf letters)

abbrev after_toint : List ℕ → Option Builtin
after_toint letters = cond (bytes_eq letters (codes "size")) (Some Named.Size) (after_size letters)

abbrev after_fromint : List ℕ → Option Builtin
after_fromint letters = cond (bytes_eq letters (codes "toint")) (Some Named.ToInt) (after_toint letters)

abbrev after_strcat : List ℕ → Option Builtin
after_strcat letters = cond (bytes_eq letters (codes "fromint")) (Some Named.FromInt) (after_fromint letters)

named_so : (letters code : List ℕ) (b f : Builtin) → bytes_eq letters code ≡ true → code ≡ builtin_text (builtin_name b) → Some b ≡ Some f → letters ≡ builtin_text (builtin_name f)
named_so letters code b f it_is there same =
    let it : b ≡ f = cc in
    same_text letters code it_is ∙ there ∙ ap (λ (h : Builtin). builtin_text (builtin_name h)) it

pub builtin_named : (letters : List ℕ) (f : Builtin) → builtin_of letters ≡ Some f → letters ≡ builtin_text (builtin_name f)
builtin_named letters f is =
    elim (bytes_eq letters (codes "strcat")) as (λ v. bytes_eq letters (codes "strcat") ≡ v → cond v (Some Named.Strcat) (after_strcat letters) ≡ Some f → letters ≡ builtin_text (builtin_name f)) [
      | true ↦ λ it_is here. named_so letters (codes "strcat") Named.Strcat f it_is refl here
      | false ↦ λ other here.
          elim (bytes_eq letters (codes "fromint")) as (λ v. bytes_eq letters (codes "fromint") ≡ v → cond v (Some Named.FromInt) (after_fromint letters) ≡ Some f → letters ≡ builtin_text (builtin_name f)) [
            | true ↦ λ it_is here. named_so letters (codes "fromint") Named.FromInt f it_is refl here
            | false ↦ λ other here.
                elim (bytes_eq letters (codes "toint")) as (λ v. bytes_eq letters (codes "toint") ≡ v → cond v (Some Named.ToInt) (after_toint letters) ≡ Some f → letters ≡ builtin_text (builtin_name f)) [
                  | true ↦ λ it_is here. named_so letters (codes "toint") Named.ToInt f it_is refl here
                  | false ↦ λ other here.
                      elim (bytes_eq letters (codes "size")) as (λ v. bytes_eq letters (codes "size") ≡ v → cond v (Some Named.Size) (after_size letters) ≡ Some f → letters ≡ builtin_text (builtin_name f)) [
                        | true ↦ λ it_is here. named_so letters (codes "size") Named.Size f it_is refl here
                        | false ↦ λ other here.
                            elim (bytes_eq letters (codes "printf")) as (λ v. bytes_eq letters (codes "printf") ≡ v → cond v (Some Named.Printf) (after_printf letters) ≡ Some f → letters ≡ builtin_text (builtin_name f)) [
                              | true ↦ λ it_is here. named_so letters (codes "printf") Named.Printf f it_is refl here
                              | false ↦ λ other here.
                                  elim (bytes_eq letters (codes "assert")) as (λ v. bytes_eq letters (codes "assert") ≡ v → cond v (Some Named.Assert) None ≡ Some f → letters ≡ builtin_text (builtin_name f)) [
                                    | true ↦ λ it_is here. named_so letters (codes "assert") Named.Assert f it_is refl here
                                    | false ↦ λ other here. absurd (cc)
                                  ] refl here
                            ] refl here
                      ] refl here
                ] refl here
          ] refl here
    ] refl is

-- the length of a function that is called
pub call_counted : (fs : List Signature) (w : Word) (n m : ℕ) (f : Signature) (s s' : List NameEntry) → function_called fs w n m s ≡ got f s'
    → (length f.inputs ≡ n) × (length f.outputs ≡ m)
call_counted fs w n m f s s' is =
    elim (find fs w.text) as (λ o. counted w n m o s ≡ got f s' → (length f.inputs ≡ n) × (length f.outputs ≡ m)) [
      | missing ↦ λ refusal. absurd (cc)
      | found p x ↦ λ here.
          elim (nat_eq (length x.inputs) n) as (λ b. nat_eq (length x.inputs) n ≡ b → cond b (cond (nat_eq (length x.outputs) m) (got x (settles w (Called (Function p)) s)) (refused (WrongCount w.span))) (refused (WrongCount w.span)) ≡ got f s' → (length f.inputs ≡ n) × (length f.outputs ≡ m)) [
            | true ↦ λ ins here.
                elim (nat_eq (length x.outputs) m) as (λ b. nat_eq (length x.outputs) m ≡ b → cond b (got x (settles w (Called (Function p)) s)) (refused (WrongCount w.span)) ≡ got f s' → (length f.inputs ≡ n) × (length f.outputs ≡ m)) [
                  | true ↦ λ outs here.
                      let same : x ≡ f = cc in
                      let P : Signature → Type 0 = λ y. (length y.inputs ≡ n) × (length y.outputs ≡ m) in
                      subst P same (eqb-true (length x.inputs) n ins, eqb-true (length x.outputs) m outs)
                  | false ↦ λ other refusal. absurd (cc)
                ] refl here
            | false ↦ λ other refusal. absurd (cc)
          ] refl here
    ] is

-- a called name of a built-in function, which is settled
pub builtin_called : (t : Table) (w : Word) (f : Builtin) (s : List NameEntry) → builtin_of w.text ≡ Some f → Agrees t (settles w (Called (BuiltIn f)) s)
    → Agrees t s × CallsBuiltin t w (builtin_name f)
builtin_called t w f s is all =
    let agreed = agrees_last t s (record { number = w.number; meaning = Called (BuiltIn f) }) all in
    (agreed.0, record { same = builtin_named w.text f is; named = agreed.1 })

-- the one output
pub output_got : (τs : List Typ) (at : Span) (τ : Typ) (s s' : List NameEntry) → output_of τs at s ≡ got τ s' → length τs ≡ 1 → (τs ≡ τ ∷ []) × (s ≡ s')
output_got [] at τ s s' is one = absurd (cc)
output_got (σ ∷ []) at τ s s' is one = let same : σ ≡ τ = cc in (ap (λ x. x ∷ []) same, cc)
output_got (σ ∷ ρ ∷ σs) at τ s s' is one = absurd (omega arith)

-- a built-in function's type, from what holds of its arguments as texts and as one argument
builtin_by_sound : (fs : List Signature) (g : Around) (t : Table) (f : Builtin) (es : Expressions) (at : Span) (b : Base) (s s' : List NameEntry)
    → ((r r' : List NameEntry) → elements fs g es (Some Text) r ≡ got (tt {0}) r' → Agrees t r' → Agrees t r × AllHaveType fs t (scope_of g) es Text)
    → ((c : Base) (r r' : List NameEntry) → only fs g es f at r ≡ got c r' → Agrees t r' → Agrees t r × BuiltinType fs t (scope_of g) (builtin_name f) es c)
    → builtin_type fs g f es at s ≡ got b s' → Agrees t s' → Agrees t s × BuiltinType fs t (scope_of g) (builtin_name f) es b
builtin_by_sound fs g t Named.Strcat no_expressions at b s s' texts one is all = absurd (cc)
builtin_by_sound fs g t Named.Strcat (and_expression e es) at b s s' texts one is all =
    let it = bind_got (elements fs g (and_expression e es) (Some Text) s) (λ u. got Text) b s' is in
    let end : it.1 ≡ s' = cc in
    let has = texts s it.1 it.2 (kept t it.1 s' end all) in
    let type = known (λ (c : Base). BuiltinType fs t (scope_of g) (builtin_name Named.Strcat) (and_expression e es) c) t Text b it.1 s' it.3 all (rules.of_strcat has.1) in
    (has.0, type.1)
builtin_by_sound fs g t Named.FromInt es at b s s' texts one is all = one b s s' is all
builtin_by_sound fs g t Named.ToInt es at b s s' texts one is all = one b s s' is all
builtin_by_sound fs g t Named.Size es at b s s' texts one is all = one b s s' is all
builtin_by_sound fs g t Named.Printf es at b s s' texts one is all = absurd (cc)
builtin_by_sound fs g t Named.Assert es at b s s' texts one is all = absurd (cc)

-- EXPRESSIONS

mutual
  unfolding whole typed expected whole_form chained further elements arguments only

  pub whole_sound : (fs : List Signature) (g : Around) (t : Table) (e : Expression) (τ : Typ) (s s' : List NameEntry) → whole fs g e s ≡ got τ s' → Agrees t s'
      → Agrees t s × WholeType fs t (scope_of g) e τ.shape τ.base
  whole_sound fs g t (expression nd f) τ s s' is all = form_sound fs g t nd f τ s s' is all

  pub typed_sound : (fs : List Signature) (g : Around) (t : Table) (e : Expression) (b : Base) (s s' : List NameEntry) → typed fs g e s ≡ got b s' → Agrees t s'
      → Agrees t s × HasType fs t (scope_of g) e b
  typed_sound fs g t (expression nd f) b s s' is all =
      let one = bind_got (whole_form fs g f nd.first s) (λ τ. scalar τ nd.first) b s' is in
      let type = scalar_got one.0 nd.first one.1 s' b one.3 in
      let has = form_sound fs g t nd f one.0 s one.1 one.2 (kept t one.1 s' type.1 all) in
      (has.0, scalar_sound fs t (scope_of g) (expression nd f) one.0 b type.0 has.1)

  pub expected_sound : (fs : List Signature) (g : Around) (t : Table) (e : Expression) (b : Base) (s s' : List NameEntry) → expected fs g e b s ≡ got (tt {0}) s' → Agrees t s'
      → Agrees t s × HasType fs t (scope_of g) e b
  expected_sound fs g t (expression nd f) b s s' is all =
      let two = bind_got (whole_form fs g f nd.first s >>= λ τ. scalar τ nd.first) (λ c. has_base c b nd.first) (tt {0}) s' is in
      let base = has_base_got two.0 b nd.first two.1 s' two.3 in
      let one = bind_got (whole_form fs g f nd.first s) (λ τ. scalar τ nd.first) two.0 two.1 two.2 in
      let type = scalar_got one.0 nd.first one.1 two.1 two.0 one.3 in
      let has = form_sound fs g t nd f one.0 s one.1 one.2 (kept t one.1 s' (type.1 ∙ base.1) all) in
      (has.0, scalar_sound fs t (scope_of g) (expression nd f) one.0 b (type.0 ∙ ap one_of base.0) has.1)

  form_sound : (fs : List Signature) (g : Around) (t : Table) (nd : Node) (f : Form) (τ : Typ) (s s' : List NameEntry) → whole_form fs g f nd.first s ≡ got τ s' → Agrees t s'
      → Agrees t s × WholeType fs t (scope_of g) (expression nd f) τ.shape τ.base
  form_sound fs g t nd (number z) τ s s' is all = known (λ (σ : Typ). WholeType fs t (scope_of g) (expression nd (number z)) σ.shape σ.base) t (one_of Int) τ s s' is all rules.of_number
  form_sound fs g t nd (text bytes) τ s s' is all = known (λ (σ : Typ). WholeType fs t (scope_of g) (expression nd (text bytes)) σ.shape σ.base) t (one_of Text) τ s s' is all rules.of_text
  form_sound fs g t nd (truth b) τ s s' is all = known (λ (σ : Typ). WholeType fs t (scope_of g) (expression nd (truth b)) σ.shape σ.base) t (one_of Boolean) τ s s' is all rules.of_truth
  form_sound fs g t nd (variable w) τ s s' is all =
      let refers = refer_sound g t w τ s s' is all in
      (refers.0, name_type fs t (scope_of g) nd w τ.shape τ.base refers.1)
  form_sound fs g t nd (element w i) τ s s' is all =
      let two = bind_got (refer g w s >>= λ τ. elements_of τ w.span) (λ a s. expected fs g i a.key s >>= λ u. got (one_of a.value)) τ s' is in
      let three = bind_got (expected fs g i two.0.key two.1) (λ u. got (one_of two.0.value)) τ s' two.3 in
      let one = bind_got (refer g w s) (λ τ. elements_of τ w.span) two.0 two.1 two.2 in
      let type = elements_got one.0 w.span one.1 two.1 two.0 one.3 in
      let end : three.1 ≡ s' = cc in
      let index = expected_sound fs g t i two.0.key two.1 three.1 three.2 (kept t three.1 s' end all) in
      let refers = refer_sound g t w one.0 s one.1 one.2 (kept t one.1 two.1 type.3 index.0) in
      let is_array : Refers (scope_of g) t w (many_of type.0 two.0.value) = subst (Refers (scope_of g) t w) type.1 refers.1 in
      let key : HasType fs t (scope_of g) i (base_of_keys type.0) = subst (HasType fs t (scope_of g) i) (sym type.2) index.1 in
      let whole_type = known (λ (σ : Typ). WholeType fs t (scope_of g) (expression nd (element w i)) σ.shape σ.base) t (one_of two.0.value) τ three.1 s' three.3 all (rules.of_element is_array key) in
      (refers.0, whole_type.1)
  form_sound fs g t nd (prefixed p e) τ s s' is all =
      let one = bind_got (expected fs g e (base_of p) s) (λ u. got (one_of (base_of p))) τ s' is in
      let end : one.1 ≡ s' = cc in
      let operand = expected_sound fs g t e (base_of p) s one.1 one.2 (kept t one.1 s' end all) in
      let whole_type = known (λ (σ : Typ). WholeType fs t (scope_of g) (expression nd (prefixed p e)) σ.shape σ.base) t (one_of (base_of p)) τ one.1 s' one.3 all (rules.of_prefixed (prefix_sound p) operand.1) in
      (operand.0, whole_type.1)
  form_sound fs g t nd (chain os es) τ s s' is all =
      let one = bind_got (chained fs g es os nd.first s) (λ b. got (one_of b)) τ s' is in
      let end : one.1 ≡ s' = cc in
      let chain_type = chained_sound fs g t nd es os nd.first one.0 s one.1 one.2 (kept t one.1 s' end all) in
      let whole_type = known (λ (σ : Typ). WholeType fs t (scope_of g) (expression nd (chain os es)) σ.shape σ.base) t (one_of one.0) τ one.1 s' one.3 all chain_type.1 in
      (chain_type.0, whole_type.1)
  form_sound fs g t nd (call w es) τ s s' is all =
      elim (builtin_of w.text) as (λ o. builtin_of w.text ≡ o →
      either o (λ f. (called w (BuiltIn f) s >>= λ u. builtin_by f es (elements fs g es (Some Text)) (only fs g es f w.span) w.span) >>= λ b. got (one_of b))
      (function_called fs w (count es) 1 s >>= λ f s. arguments fs g es f.inputs w.span s >>= λ u. output_of f.outputs w.span) ≡ got τ s'
      → Agrees t s × WholeType fs t (scope_of g) (expression nd (call w es)) τ.shape τ.base) [
        | None ↦ λ none here.
            let one = bind_got (function_called fs w (count es) 1 s) (λ f s. arguments fs g es f.inputs w.span s >>= λ u. output_of f.outputs w.span) τ s' here in
            let two = bind_got (arguments fs g es one.0.inputs w.span one.1) (λ u. output_of one.0.outputs w.span) τ s' one.3 in
            let counts = call_counted fs w (count es) 1 one.0 s one.1 one.2 in
            let output = output_got one.0.outputs w.span τ two.1 s' two.3 counts.1 in
            let given = arguments_sound fs g t es one.0.inputs w.span one.1 two.1 two.2 (kept t two.1 s' output.1 all) (sym counts.0) in
            let calls = call_sound fs t w (count es) 1 one.0 s one.1 one.2 given.0 in
            (calls.0, call_type fs t (scope_of g) nd w es τ.shape τ.base (one.0, calls.1, given.1, output.0))
        | Some f ↦ λ some here.
            let two = bind_got (called w (BuiltIn f) s >>= λ u. builtin_by f es (elements fs g es (Some Text)) (only fs g es f w.span) w.span) (λ b. got (one_of b)) τ s' here in
            let end : two.1 ≡ s' = cc in
            let type = builtin_by_sound fs g t f es w.span two.0 (settles w (Called (BuiltIn f)) s) two.1 (elements_sound fs g t es Text) (only_sound fs g t es f w.span) two.2 (kept t two.1 s' end all) in
            let calls = builtin_called t w f s some type.0 in
            let whole_type = known (λ (σ : Typ). WholeType fs t (scope_of g) (expression nd (call w es)) σ.shape σ.base) t (one_of two.0) τ two.1 s' two.3 all (rules.of_builtin calls.1 type.1) in
            (calls.0, whole_type.1)
      ] refl is

  only_sound : (fs : List Signature) (g : Around) (t : Table) (es : Expressions) (f : Builtin) (at : Span) (b : Base) (s s' : List NameEntry)
      → only fs g es f at s ≡ got b s' → Agrees t s' → Agrees t s × BuiltinType fs t (scope_of g) (builtin_name f) es b
  only_sound fs g t no_expressions f at b s s' is all = absurd (cc)
  only_sound fs g t (and_expression e no_expressions) f at b s s' is all =
      let one = bind_got (whole fs g e s) (λ τ. of_one f τ e at) b s' is in
      let it = of_one_sound fs t (scope_of g) f one.0 e at b one.1 s' one.3 in
      let type = whole_sound fs g t e one.0 s one.1 one.2 (kept t one.1 s' it.0 all) in
      (type.0, it.1 type.1)
  only_sound fs g t (and_expression e (and_expression d es)) f at b s s' is all = absurd (cc)

  pub arguments_sound : (fs : List Signature) (g : Around) (t : Table) (es : Expressions) (τs : List Typ) (at : Span) (s s' : List NameEntry)
      → arguments fs g es τs at s ≡ got (tt {0}) s' → Agrees t s' → count es ≡ length τs → Agrees t s × ArgumentTypes fs t (scope_of g) es τs
  arguments_sound fs g t no_expressions [] at s s' is all many = (kept t s s' (cc) all, rules.no_argument)
  arguments_sound fs g t no_expressions (τ ∷ τs) at s s' is all many = absurd (omega arith)
  arguments_sound fs g t (and_expression e es) [] at s s' is all many = absurd (omega arith)
  arguments_sound fs g t (and_expression e es) (τ ∷ τs) at s s' is all many =
      let two = bind_got (whole fs g e s >>= λ found. fits found τ e) (λ u. arguments fs g es τs at) (tt {0}) s' is in
      let one = bind_got (whole fs g e s) (λ found. fits found τ e) (tt {0}) two.1 two.2 in
      let fewer : count es ≡ length τs = omega arith in
      let others = arguments_sound fs g t es τs at two.1 s' two.3 all fewer in
      let fit = fits_sound fs t (scope_of g) e one.0 τ τ.shape one.1 two.1 refl one.3 in
      let type = whole_sound fs g t e one.0 s one.1 one.2 (kept t one.1 two.1 fit.0 others.0) in
      (type.0, one_argument fs t (scope_of g) e es τ.shape τ.base τs (fit.1 type.1) others.1)

  pub elements_sound : (fs : List Signature) (g : Around) (t : Table) (es : Expressions) (b : Base) (s s' : List NameEntry)
      → elements fs g es (Some b) s ≡ got (tt {0}) s' → Agrees t s' → Agrees t s × AllHaveType fs t (scope_of g) es b
  elements_sound fs g t no_expressions b s s' is all = (kept t s s' (cc) all, rules.none_left)
  elements_sound fs g t (and_expression e es) b s s' is all =
      let two = bind_got (whole fs g e s >>= λ τ. has_wanted τ (Some b) (first_of e)) (λ u. elements fs g es (Some b)) (tt {0}) s' is in
      let one = bind_got (whole fs g e s) (λ τ. has_wanted τ (Some b) (first_of e)) (tt {0}) two.1 two.2 in
      let three = bind_got (scalar one.0 (first_of e) one.1) (λ c. has_base c b (first_of e)) (tt {0}) two.1 one.3 in
      let type = scalar_got one.0 (first_of e) one.1 three.1 three.0 three.2 in
      let base = has_base_got three.0 b (first_of e) three.1 two.1 three.3 in
      let others = elements_sound fs g t es b two.1 s' two.3 all in
      let has = whole_sound fs g t e one.0 s one.1 one.2 (kept t one.1 two.1 (type.1 ∙ base.1) others.0) in
      let scalar_type = scalar_sound fs t (scope_of g) e one.0 three.0 type.0 has.1 in
      (has.0, rules.one_more (subst (λ (c : Base). HasType fs t (scope_of g) e c) base.0 scalar_type) others.1)

  chained_sound : (fs : List Signature) (g : Around) (t : Table) (nd : Node) (es : Expressions) (os : List Operator) (at : Span) (c : Base) (s s' : List NameEntry)
      → chained fs g es os at s ≡ got c s' → Agrees t s' → Agrees t s × HasType fs t (scope_of g) (expression nd (chain os es)) c
  chained_sound fs g t nd no_expressions os at c s s' is all = absurd (cc)
  chained_sound fs g t nd (and_expression e es) [] at c s s' is all =
      let one = bind_got (typed fs g e s) (λ b s. first_given [] b (first_of e) s >>= λ c s. further fs g es [] b c (first_of e) s >>= λ u. got c) c s' is in
      absurd (cc (one.3))
  chained_sound fs g t nd (and_expression e es) (o ∷ os) at c s s' is all =
      let one = bind_got (typed fs g e s) (λ b s. first_given (o ∷ os) b (first_of e) s >>= λ c s. further fs g es (o ∷ os) b c (first_of e) s >>= λ u. got c) c s' is in
      let two = bind_got (first_given (o ∷ os) one.0 (first_of e) one.1) (λ c s. further fs g es (o ∷ os) one.0 c (first_of e) s >>= λ u. got c) c s' one.3 in
      let three = bind_got (further fs g es (o ∷ os) one.0 two.0 (first_of e) two.1) (λ u. got two.0) c s' two.3 in
      let given = given_got o one.0 two.0 (first_of e) one.1 two.1 two.2 in
      let end : three.1 ≡ s' = cc in
      let rest = further_sound fs g t es (o ∷ os) one.0 two.0 (first_of e) two.1 three.1 three.2 (kept t three.1 s' end all) in
      let has = typed_sound fs g t e one.0 s one.1 one.2 (kept t one.1 two.1 given.1 rest.0) in
      let type = known (λ (b : Base). HasType fs t (scope_of g) (expression nd (chain (o ∷ os) (and_expression e es))) b) t two.0 c three.1 s' three.3 all (rules.of_chain has.1 rest.1) in
      (has.0, type.1)

  further_sound : (fs : List Signature) (g : Around) (t : Table) (es : Expressions) (os : List Operator) (b c : Base) (before : Span) (s s' : List NameEntry)
      → further fs g es os b c before s ≡ got (tt {0}) s' → Agrees t s' → Agrees t s × Rests fs t (scope_of g) os es b c
  further_sound fs g t no_expressions [] b c before s s' is all = (kept t s s' (cc) all, tt)
  further_sound fs g t no_expressions (o ∷ os) b c before s s' is all = absurd (cc)
  further_sound fs g t (and_expression e es) [] b c before s s' is all = absurd (cc)
  further_sound fs g t (and_expression e es) (o ∷ os) b c before s s' is all =
      let two = bind_got (takes o b c before s) (λ u s. expected fs g e b s >>= λ u. further fs g es os b c (first_of e)) (tt {0}) s' is in
      let one = bind_got (given_by o b before s) (λ d. has_base d c before) (tt {0}) two.1 two.2 in
      let three = bind_got (expected fs g e b two.1) (λ u. further fs g es os b c (first_of e)) (tt {0}) s' two.3 in
      let given = given_got o b one.0 before s one.1 one.2 in
      let base = has_base_got one.0 c before one.1 two.1 one.3 in
      let rest = further_sound fs g t es os b c (first_of e) three.1 s' three.3 all in
      let has = expected_sound fs g t e b two.1 three.1 three.2 rest.0 in
      (kept t s two.1 (given.1 ∙ base.1) has.0, rest_more fs t (scope_of g) o os e es b c (subst (rules.Operates o b) base.0 given.0) has.1 rest.1)

pub builtin_sound : (fs : List Signature) (g : Around) (t : Table) (f : Builtin) (es : Expressions) (at : Span) (b : Base) (s s' : List NameEntry)
    → builtin_type fs g f es at s ≡ got b s' → Agrees t s' → Agrees t s × BuiltinType fs t (scope_of g) (builtin_name f) es b
builtin_sound fs g t f es at b s s' is all = builtin_by_sound fs g t f es at b s s' (elements_sound fs g t es Text) (only_sound fs g t es f at) is all
