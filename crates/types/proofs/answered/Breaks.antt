-- A refusal of names, calls and expressions names a rule that is broken there.
use Rattle.std.proofs.Common.{◌≡◌, ◌≢◌, ℕ, ◌+◌, true, false, List, [], ◌∷◌, length, map, refl, sym, ap, ◌∙◌, subst, arith, inl, inr}
use Rattle.std.specs.Prelude.{◌⊎◌, Option, Some, None, cond, nat_eq, suc}
use Rattle.std.proofs.lemmas.Bool.{eq-eqb}
use Rattle.std.specs.Str.{bytes_eq}
use Rattle.lexer.specs.declared.token.Span.{Span}
use Rattle.types.specs.declared.fault.TypeFault.{TypeFault}
use Rattle.types.specs.declared.fault.TypeFault.TheVariants.{Unknown, Declared, Mismatch, WrongCount, NotAFunction}
use Rattle.types.specs.declared.typed.NameEntry.{NameEntry}
use Rattle.types.specs.declared.typed.NameMeaning.TheVariants.{Called}
use Rattle.types.specs.declared.typed.Callee.TheVariants.{Function, BuiltIn}
use Rattle.types.specs.declared.typed.Builtin.{Builtin}
use Rattle.types.specs.declared.typed.Builtin.TheVariants as Named
use Rattle.language.specs.declared.tree.Base.{Base}
use Rattle.language.specs.declared.tree.Base.TheVariants.{Int, Text}
use Rattle.language.specs.declared.tree.Keys.{Keys}
use Rattle.language.specs.declared.tree.Keys.TheVariants.{Numbers, Texts}
use Rattle.language.specs.declared.tree.Shape.{Shape}
use Rattle.language.specs.declared.tree.Shape.TheVariants.{Scalar, Array}
use Rattle.language.specs.declared.tree.Operator.{Operator}
use Rattle.language.specs.Members.{◌∈◌}
use Rattle.language.proofs.Members.{split_in}
use Rattle.language.specs.Tree.{Word, Node, Expression, expression, Form, number, text, truth, variable, element, prefixed, chain, Expressions, no_expressions, and_expression}
use Rattle.language.specs.Tree as tree
use Rattle.language.specs.Scopes.{Typ, one_of, Scope, IsVisible, Signature}
use Rattle.language.specs.Typing.{Operates}
use Rattle.types.specs.Known.{Around}
use Rattle.types.specs.Typed.{builtin_name}
use Rattle.types.specs.Outcomes.{Outcome, refused, got, Check, ◌>>=◌}
use Rattle.types.specs.Names.{seen, referred, refer, free, fresh, builtin_of, called, settles, missing, found, find, find_from, counted, function_called}
use Rattle.types.specs.Agrees.{visible_at, scope_of}
use Rattle.types.specs.Expressions.{same_base, same_keys, same_shape, has_base, has_type, scalar, scalar_by, elements_of, elements_by, gives, base_of, given_or, given_by, takes, first_given, first_of, count, has_wanted, named, array_name, fits_by, fits, of_one, builtin_by, output_of, either, whole, typed, expected, whole_form, chained, further, elements, arguments, only, builtin_type}
use Rattle.types.specs.Wants.{OfType, Gives, Want, of_type, anything, any_array, before, IsName, Meets, each, argument_by, argument, Takes, function_takes, builtin_takes, strcat_takes, fromint_takes, toint_takes, size_takes}
use Rattle.types.specs.Breaks.{Purpose, giving, outputs_for, Thing, used, introduced, call, expects, as_array, uneven, BuiltinCounts, Broken, unknown, visible_before, wrong_count, wrong_count_of_builtin, no_function, wrong_type, no_array, no_chain, InExpression, its_name, its_array, its_elements, its_index, its_operand, no_operands, no_operators, first_operand, in_first_operand, its_operands, its_call, its_arguments, InOperands, its_operator, next_operand, behind_operand, too_few, too_many, InWanted, itself, within, InExpressions, first_expression, later_expression}
use Rattle.types.proofs.accepted.Accepted.{given_got, call_counted, builtin_named}
use Rattle.types.proofs.accepted.Typing.{same_self, bind_got, scalar_got, elements_got, gives_complete, prefix_sound}
use Rattle.types.proofs.accepted.Gives.{refer_type, found_in, function_found, whole_gives, typed_gives, form_gives, expected_gives}
use Rattle.types.proofs.settled.Settling.{seen_in}
use Rattle.types.proofs.visible.Sight.{other_text, none_visible, unseen_onto}
use Rattle.types.proofs.accepted.Checked.{not_builtin}

-- a refusal of two checks in a row comes from a refusal of the first, or of the second behind what the first found
pub bind_refused : {A B : Type 0} (o : Outcome A) (k : A → Check B) (y : TypeFault) → (o >>= k) ≡ refused y
    → (o ≡ refused y) ⊎ ((a : A) × (r : List NameEntry) × (o ≡ got a r) × (k a r ≡ refused y))
bind_refused (refused f) k y is = let same : f ≡ y = cc in inl (ap refused same)
bind_refused (got a r) k y is = inr (a, r, refl, is)

abbrev pub Breaking : List Signature → TypeFault → Scope → Thing → Type 0
Breaking fs y g x = Broken fs g x y

-- TYPES

abbrev made : Base → Shape → Typ
made b h = record { base = b; shape = h }

base_apart : (b c : Base) → same_base b c ≡ false → b ≢ c
base_apart b c other same = let it : same_base b c ≡ true = subst (λ x. same_base b x ≡ true) same (same_self b) in absurd (cc)

-- one type is not another where their bases or shapes differ
pub other_base : (b c : Base) → b ≢ c → one_of b ≢ one_of c
other_base b c other same = other (ap (λ (x : Typ). x.base) same)

pub array_apart : (τ : Typ) (b : Base) → τ.shape ≢ Scalar → τ ≢ one_of b
array_apart τ b shape same = shape (ap (λ (x : Typ). x.shape) same)

keys_self : (κ : Keys) → same_keys κ κ ≡ true
keys_self Numbers = refl
keys_self Texts = refl

shape_self : (h : Shape) → same_shape h h ≡ true
shape_self Scalar = refl
shape_self (Array κ) = keys_self κ

pub has_type_refused : (τ σ : Typ) (at : Span) (s : List NameEntry) (y : TypeFault) → has_type τ σ at s ≡ refused y → (Mismatch at ≡ y) × (τ ≢ σ)
has_type_refused τ σ at s y is =
    elim (same_base τ.base σ.base) as (λ v. same_base τ.base σ.base ≡ v → cond v (cond (same_shape τ.shape σ.shape) (got (tt {0}) s) (refused (Mismatch at))) (refused (Mismatch at)) ≡ refused y → (Mismatch at ≡ y) × (τ ≢ σ)) [
      | true ↦ λ bases here. elim (same_shape τ.shape σ.shape) as (λ v. same_shape τ.shape σ.shape ≡ v → cond v (got (tt {0}) s) (refused (Mismatch at)) ≡ refused y → (Mismatch at ≡ y) × (τ ≢ σ)) [
        | true ↦ λ shapes here. absurd (cc)
        | false ↦ λ other here. (cc, λ same. let it : same_shape τ.shape σ.shape ≡ true = subst (λ (x : Typ). same_shape τ.shape x.shape ≡ true) same (shape_self τ.shape) in absurd (cc))
      ] refl here
      | false ↦ λ other here. (cc, λ same. let it : same_base τ.base σ.base ≡ true = subst (λ (x : Typ). same_base τ.base x.base ≡ true) same (same_self τ.base) in absurd (cc))
    ] refl is

has_base_refused : (b c : Base) (at : Span) (s : List NameEntry) (y : TypeFault) → has_base b c at s ≡ refused y → (Mismatch at ≡ y) × (b ≢ c)
has_base_refused b c at s y is =
    elim (same_base b c) as (λ v. same_base b c ≡ v → cond v (got (tt {0}) s) (refused (Mismatch at)) ≡ refused y → (Mismatch at ≡ y) × (b ≢ c)) [
      | true ↦ λ same here. absurd (cc)
      | false ↦ λ other here. (cc, base_apart b c other)
    ] refl is

scalar_refused : (τ : Typ) (at : Span) (s : List NameEntry) (y : TypeFault) → scalar τ at s ≡ refused y → (Mismatch at ≡ y) × (τ.shape ≢ Scalar)
scalar_refused τ at s y is =
    elim τ.shape as (λ h. scalar_by h τ.base at s ≡ refused y → (Mismatch at ≡ y) × (h ≢ Scalar)) [
      | Scalar ↦ λ here. absurd (cc)
      | Array κ ↦ λ here. (cc, λ same. absurd (cc))
    ] is

pub elements_refused : (τ : Typ) (at : Span) (s : List NameEntry) (y : TypeFault) → elements_of τ at s ≡ refused y → (Mismatch at ≡ y) × (τ.shape ≡ Scalar)
elements_refused τ at s y is =
    elim τ.shape as (λ h. elements_by h τ.base at s ≡ refused y → (Mismatch at ≡ y) × (h ≡ Scalar)) [
      | Scalar ↦ λ here. (cc, refl)
      | Array κ ↦ λ here. absurd (cc)
    ] is

-- a scalar of a type that is wanted
type_refused : (τ : Typ) (b : Base) (at : Span) (s : List NameEntry) (y : TypeFault) → (scalar τ at s >>= λ c. has_base c b at) ≡ refused y → (Mismatch at ≡ y) × (τ ≢ one_of b)
type_refused τ b at s y is =
    elim (bind_refused (scalar τ at s) (λ c. has_base c b at) y is) [
      | inl a ↦ let it = scalar_refused τ at s y a in (it.0, array_apart τ b it.1)
      | inr a ↦
          let it = has_base_refused a.0 b at a.1 y a.3 in
          let type = scalar_got τ at s a.1 a.0 a.2 in
          (it.0, λ same. other_base a.0 b it.1 (sym type.0 ∙ same))
    ]

given_refused : (o : Operator) (b : Base) (at : Span) (s : List NameEntry) (y : TypeFault) → given_by o b at s ≡ refused y → (Mismatch at ≡ y) × ((c : Base) → ¬ Operates o b c)
given_refused o b at s y is =
    elim (gives o b) as (λ v. gives o b ≡ v → given_or v at s ≡ refused y → (Mismatch at ≡ y) × ((c : Base) → ¬ Operates o b c)) [
      | None ↦ λ none here. (cc, λ c rule. let some : gives o b ≡ Some c = gives_complete o b c rule in absurd (cc))
      | Some d ↦ λ some here. absurd (cc)
    ] refl is

takes_refused : (o : Operator) (b c : Base) (at : Span) (s : List NameEntry) (y : TypeFault) → takes o b c at s ≡ refused y → (Mismatch at ≡ y) × (¬ Operates o b c)
takes_refused o b c at s y is =
    elim (bind_refused (given_by o b at s) (λ d. has_base d c at) y is) [
      | inl a ↦ let it = given_refused o b at s y a in (it.0, it.1 c)
      | inr a ↦
          let it = has_base_refused a.0 c at a.1 y a.3 in
          let there : gives o b ≡ Some a.0 = gives_complete o b a.0 (given_got o b a.0 at s a.1 a.2).0 in
          (it.0, λ rule. it.1 (let here : gives o b ≡ Some c = gives_complete o b c rule in let both : Some a.0 ≡ Some c = sym there ∙ here in cc))
    ]

is_name : (e : Expression) → IsName e → named e ≡ true
is_name e name = ap named name.2

name_refused : (τ : Typ) (e : Expression) (s : List NameEntry) (y : TypeFault) → array_name τ e s ≡ refused y → (Mismatch (first_of e) ≡ y) × (¬ Meets any_array e τ)
name_refused τ e s y is =
    elim (named e) as (λ v. named e ≡ v → cond v (elements_of τ (first_of e) s) (refused (Mismatch (first_of e))) ≡ refused y → (Mismatch (first_of e) ≡ y) × (¬ Meets any_array e τ)) [
      | true ↦ λ it_is here.
          let it = elements_refused τ (first_of e) s y here in
          (it.0, λ meets. let scalar : τ.shape ≡ Scalar = it.1 in let array : τ.shape ≡ Array meets.1 = meets.2 in absurd (cc))
      | false ↦ λ other here. (cc, λ meets. let it : named e ≡ true = is_name e meets.0 in absurd (cc))
    ] refl is

pub fits_refused : (h : Shape) (τ σ : Typ) (e : Expression) (s : List NameEntry) (y : TypeFault) → σ.shape ≡ h → fits_by h τ σ e s ≡ refused y
    → (Mismatch (first_of e) ≡ y) × (¬ Meets (argument_by h σ.base) e τ)
fits_refused Scalar τ σ e s y shape is = type_refused τ σ.base (first_of e) s y is
fits_refused (Array κ) τ σ e s y shape is =
    elim (bind_refused (array_name τ e s) (λ a. has_type τ σ (first_of e)) y is) [
      | inl a ↦ let it = name_refused τ e s y a in (it.0, λ meets. it.1 (meets.0, κ, ap (λ (x : Typ). x.shape) meets.1))
      | inr a ↦
          let it = has_type_refused τ σ (first_of e) a.1 y a.3 in
          (it.0, λ meets. it.1 (meets.1 ∙ sym (ap (made σ.base) shape)))
    ]

-- an expression that gives another type than what is wanted of it
pub type_broken : (fs : List Signature) (g : Scope) (e : Expression) (want : Want) (τ : Typ) (y : TypeFault) → Gives fs g e τ → (Mismatch (first_of e) ≡ y) × (¬ Meets want e τ)
    → Broken fs g (expects want e) y
type_broken fs g e want τ y it why = subst (Broken fs g (expects want e)) why.0 (wrong_type it why.1)

-- a name of a scalar where an array's is wanted
pub array_broken : (fs : List Signature) (g : Scope) (w : Word) (τ : Typ) (y : TypeFault) → OfType g w τ → (Mismatch w.span ≡ y) × (τ.shape ≡ Scalar) → Broken fs g (as_array w) y
array_broken fs g w τ y it why =
    let type : τ ≡ one_of τ.base = ap (made τ.base) why.1 in
    subst (Broken fs g (as_array w)) why.0 (no_array (subst (OfType g w) type it))

chain_broken : (fs : List Signature) (g : Scope) (e : Expression) (y : TypeFault) → Mismatch (first_of e) ≡ y → Broken fs g (uneven e) y
chain_broken fs g e y same = subst (Broken fs g (uneven e)) same no_chain

-- NAMES

pub refer_broken : (fs : List Signature) (g : Around) (w : Word) (s : List NameEntry) (y : TypeFault) → refer g w s ≡ refused y → Broken fs (scope_of g) (used w) y
refer_broken fs g w s y is =
    elim (seen g.names w.text) as (λ o. seen g.names w.text ≡ o → referred g w o s ≡ refused y → Broken fs (scope_of g) (used w) y) [
      | None ↦ λ none here.
          let same : Unknown w.span ≡ y = cc in
          subst (Broken fs (scope_of g) (used w)) same (unknown (unseen_onto g.depth g.names [] w.text none (none_visible w.text)))
      | Some k ↦ λ some here. absurd (cc)
    ] refl is

pub fresh_visible : (g : Around) (w : Word) (s : List NameEntry) (y : TypeFault) → fresh g w s ≡ refused y → IsVisible (scope_of g) w.text × (Declared w.span ≡ y)
fresh_visible g w s y is =
    elim (seen g.names w.text) as (λ o. seen g.names w.text ≡ o → free w o s ≡ refused y → IsVisible (scope_of g) w.text × (Declared w.span ≡ y)) [
      | None ↦ λ none here. absurd (cc)
      | Some k ↦ λ some here. let there = seen_in g.depth g.names [] w.text k some in ((visible_at g.depth k, there.0, there.1), cc)
    ] refl is

pub fresh_broken : (fs : List Signature) (g : Around) (w : Word) (s : List NameEntry) (y : TypeFault) → fresh g w s ≡ refused y → Broken fs (scope_of g) (introduced w) y
fresh_broken fs g w s y is = let it = fresh_visible g w s y is in subst (Broken fs (scope_of g) (introduced w)) it.1 (visible_before it.0)

-- CALLED NAMES

none_in : (n : ℕ) (fs : List Signature) (x : List ℕ) → find_from n fs x ≡ missing → (f : Signature) → f ∈ fs → ¬ (f.text ≡ x)
none_in n [] x is f m = elim m [ ]
none_in n (h ∷ hs) x is f m =
    elim (bytes_eq h.text x) as (λ b. bytes_eq h.text x ≡ b → cond b (found n h) (find_from (n + 1) hs x) ≡ missing → ¬ (f.text ≡ x)) [
      | true ↦ λ it_is here. absurd (cc)
      | false ↦ λ other here. elim (split_in m) [
        | inl e ↦ λ same. other_text h.text x other (ap (λ (z : Signature). z.text) (sym e) ∙ same)
        | inr l ↦ none_in (n + 1) hs x here f l
      ]
    ] refl is

pub different : (n m : ℕ) → nat_eq n m ≡ false → ¬ (n ≡ m)
different n m other same = let it : nat_eq n m ≡ true = eq-eqb n m same in absurd (cc)

pub function_broken : (fs : List Signature) (g : Scope) (w : Word) (es : Expressions) (u : Purpose) (n m : ℕ) (s : List NameEntry) (y : TypeFault) → builtin_of w.text ≡ None
    → count es ≡ n → outputs_for u ≡ m → function_called fs w n m s ≡ refused y → Broken fs g (call w es u) y
function_broken fs g w es u n m s y no_builtin many outs is =
    elim (find fs w.text) as (λ o. find fs w.text ≡ o → counted w n m o s ≡ refused y → Broken fs g (call w es u) y) [
      | missing ↦ λ none here.
          let same : NotAFunction w.span ≡ y = cc in
          subst (Broken fs g (call w es u)) same (no_function (none_in 0 fs w.text none) (λ b. not_builtin w.text no_builtin b.0 b.1))
      | found p f ↦ λ there here.
          let at = found_in 0 fs w.text p f there in
          elim (nat_eq (length f.inputs) n) as (λ b. nat_eq (length f.inputs) n ≡ b → cond b (cond (nat_eq (length f.outputs) m) (got f (settles w (Called (Function p)) s)) (refused (WrongCount w.span))) (refused (WrongCount w.span)) ≡ refused y → Broken fs g (call w es u) y) [
            | true ↦ λ ins here.
                elim (nat_eq (length f.outputs) m) as (λ b. nat_eq (length f.outputs) m ≡ b → cond b (got f (settles w (Called (Function p)) s)) (refused (WrongCount w.span)) ≡ refused y → Broken fs g (call w es u) y) [
                  | true ↦ λ same_outs here. absurd (cc)
                  | false ↦ λ other here.
                      let same : WrongCount w.span ≡ y = cc in
                      subst (Broken fs g (call w es u)) same (wrong_count f at.0 at.1 (λ c. different (length f.outputs) m other (c.1 ∙ outs)))
                ] refl here
            | false ↦ λ other here.
                let same : WrongCount w.span ≡ y = cc in
                subst (Broken fs g (call w es u)) same (wrong_count f at.0 at.1 (λ c. different (length f.inputs) n other (c.0 ∙ many)))
          ] refl here
    ] refl is

pub builtin_broken : (fs : List Signature) (g : Scope) (w : Word) (es : Expressions) (u : Purpose) (f : Builtin) (y : TypeFault) → builtin_of w.text ≡ Some f
    → WrongCount w.span ≡ y → ¬ BuiltinCounts (builtin_name f) (count es) u → Broken fs g (call w es u) y
builtin_broken fs g w es u f y is same other = subst (Broken fs g (call w es u)) same (wrong_count_of_builtin (builtin_name f) (builtin_named w.text f is) other)

-- EXPRESSIONS

-- what a built-in function wants of its one argument
abbrev one_want : Builtin → Want
one_want Named.FromInt = of_type (one_of Int)
one_want Named.ToInt = of_type (one_of Text)
one_want Named.Size = any_array
one_want Named.Strcat = anything
one_want Named.Printf = anything
one_want Named.Assert = anything

one_taken : (fs : List Signature) (f : Builtin) (name : List ℕ) (es : Expressions) → BuiltinCounts (builtin_name f) 1 (giving 1) → (f ≢ Named.Strcat) → builtin_of name ≡ Some f → Takes fs name es (one_want f ∷ [])
one_taken fs Named.FromInt name es counts one is = builtin_takes (builtin_name Named.FromInt) (builtin_named name Named.FromInt is) fromint_takes
one_taken fs Named.ToInt name es counts one is = builtin_takes (builtin_name Named.ToInt) (builtin_named name Named.ToInt is) toint_takes
one_taken fs Named.Size name es counts one is = builtin_takes (builtin_name Named.Size) (builtin_named name Named.Size is) size_takes
one_taken fs Named.Strcat name es counts one is = absurd (one refl)
one_taken fs Named.Printf name es counts one is = let bad = counts.1 in absurd (cc)
one_taken fs Named.Assert name es counts one is = let bad = counts.1 in absurd (cc)

one_refused : (f : Builtin) (τ : Typ) (e : Expression) (at : Span) (s : List NameEntry) (y : TypeFault) → BuiltinCounts (builtin_name f) 1 (giving 1) → (f ≢ Named.Strcat) → of_one f τ e at s ≡ refused y
    → (Mismatch (first_of e) ≡ y) × (¬ Meets (one_want f) e τ)
one_refused Named.FromInt τ e at s y counts one is =
    elim (bind_refused (scalar τ (first_of e) s >>= λ c. has_base c Int (first_of e)) (λ u. got Text) y is) [
      | inl a ↦ type_refused τ Int (first_of e) s y a
      | inr a ↦ absurd (let here = a.3 in cc)
    ]
one_refused Named.ToInt τ e at s y counts one is =
    elim (bind_refused (scalar τ (first_of e) s >>= λ c. has_base c Text (first_of e)) (λ u. got Int) y is) [
      | inl a ↦ type_refused τ Text (first_of e) s y a
      | inr a ↦ absurd (let here = a.3 in cc)
    ]
one_refused Named.Size τ e at s y counts one is =
    elim (bind_refused (array_name τ e s) (λ c. got Int) y is) [
      | inl a ↦ name_refused τ e s y a
      | inr a ↦ absurd (let here = a.3 in cc)
    ]
one_refused Named.Strcat τ e at s y counts one is = absurd (one refl)
one_refused Named.Printf τ e at s y counts one is = let bad = counts.1 in absurd (cc)
one_refused Named.Assert τ e at s y counts one is = let bad = counts.1 in absurd (cc)

-- one of the arguments of a call, by what is wanted of them
abbrev pub ArgumentBroken : List Signature → TypeFault → Scope → Word → Expressions → Type 0
ArgumentBroken fs y g w es = (wants : List Want) × Takes fs w.text es wants × InExpressions fs (Breaking fs y) g wants es

-- a call whose counts are wrong, or one of its arguments
abbrev pub CallBroken : List Signature → TypeFault → Scope → Word → Expressions → Purpose → Type 0
CallBroken fs y g w es u = Broken fs g (call w es u) y ⊎ ArgumentBroken fs y g w es

pub built_broken : (fs : List Signature) (g : Scope) (w : Word) (es : Expressions) (f : Builtin) (texts : Check (Unit {0})) (only : Check Base) (s : List NameEntry) (y : TypeFault)
    → builtin_of w.text ≡ Some f → (texts s ≡ refused y → InExpressions fs (Breaking fs y) g (each (of_type (one_of Text)) es) es)
    → ((BuiltinCounts (builtin_name f) 1 (giving 1)) → (f ≢ Named.Strcat) → ((n : ℕ) → BuiltinCounts (builtin_name f) n (giving 1) → n ≡ 1) → only s ≡ refused y → CallBroken fs y g w es (giving 1))
    → builtin_by f es texts only w.span s ≡ refused y → CallBroken fs y g w es (giving 1)
built_broken fs g w es Named.FromInt texts only s y named in_texts in_only is = in_only (refl, refl) (λ e. absurd (cc)) (λ n c. c.0) is
built_broken fs g w es Named.ToInt texts only s y named in_texts in_only is = in_only (refl, refl) (λ e. absurd (cc)) (λ n c. c.0) is
built_broken fs g w es Named.Size texts only s y named in_texts in_only is = in_only (refl, refl) (λ e. absurd (cc)) (λ n c. c.0) is
built_broken fs g w es Named.Printf texts only s y named in_texts in_only is =
    inl (builtin_broken fs g w es (giving 1) Named.Printf y named (cc) (λ c. let bad = c.1 in absurd (cc)))
built_broken fs g w es Named.Assert texts only s y named in_texts in_only is =
    inl (builtin_broken fs g w es (giving 1) Named.Assert y named (cc) (λ c. let bad = c.1 in absurd (cc)))
built_broken fs g w no_expressions Named.Strcat texts only s y named in_texts in_only is =
    inl (builtin_broken fs g w no_expressions (giving 1) Named.Strcat y named (cc) (λ c. c.0 refl))
built_broken fs g w (and_expression e es) Named.Strcat texts only s y named in_texts in_only is =
    elim (bind_refused (texts s) (λ u. got Text) y is) [
      | inl a ↦ inr (each (of_type (one_of Text)) (and_expression e es), builtin_takes (builtin_name Named.Strcat) (builtin_named w.text Named.Strcat named) strcat_takes, in_texts a)
      | inr a ↦ absurd (let here = a.3 in cc)
    ]

output_there : (τs : List Typ) (at : Span) (s : List NameEntry) (y : TypeFault) → length τs ≡ 1 → output_of τs at s ≡ refused y → ⊥
output_there [] at s y one is = absurd (cc)
output_there (τ ∷ τs) at s y one is = absurd (cc)

-- what is wanted of elements
abbrev pub element_want : Option Base → Want
element_want None = anything
element_want (Some b) = of_type (one_of b)

-- an expression that is no scalar
abbrev NoScalar : List Signature → TypeFault → Scope → Expression → Type 0
NoScalar fs y g e = (τ : Typ) × Gives fs g e τ × (Mismatch (first_of e) ≡ y) × (τ.shape ≢ Scalar)

no_operand_broken : (fs : List Signature) (g : Scope) (e : Expression) (o : Operator) (y : TypeFault) → NoScalar fs y g e → (c : Base) → Broken fs g (expects (before o c) e) y
no_operand_broken fs g e o y it c = type_broken fs g e (before o c) it.0 y it.1 (it.2, λ meets. array_apart it.0 meets.0 it.3 meets.1)

-- an operand of a type that its operator does not take
operator_apart : (e : Expression) (o : Operator) (b c : Base) → ¬ Operates o b c → ¬ Meets (before o c) e (one_of b)
operator_apart e o b c other meets =
    let same : b ≡ meets.0 = ap (λ (x : Typ). x.base) meets.1 in
    other (subst (λ (x : Base). Operates o x c) (sym same) meets.2)

wanted_refused : (τ : Typ) (o : Option Base) (e : Expression) (s : List NameEntry) (y : TypeFault) → has_wanted τ o (first_of e) s ≡ refused y
    → (Mismatch (first_of e) ≡ y) × (¬ Meets (element_want o) e τ)
wanted_refused τ None e s y is = absurd (cc)
wanted_refused τ (Some b) e s y is = type_refused τ b (first_of e) s y is

mutual
  unfolding whole typed expected whole_form chained further elements arguments only

  pub whole_broken : (fs : List Signature) (g : Around) (e : Expression) (s : List NameEntry) (y : TypeFault) → whole fs g e s ≡ refused y → InExpression fs (Breaking fs y) (scope_of g) e
  whole_broken fs g (expression nd f) s y is = form_broken fs g nd f s y is

  typed_broken : (fs : List Signature) (g : Around) (e : Expression) (s : List NameEntry) (y : TypeFault) → typed fs g e s ≡ refused y
      → InExpression fs (Breaking fs y) (scope_of g) e ⊎ NoScalar fs y (scope_of g) e
  typed_broken fs g (expression nd f) s y is =
      elim (bind_refused (whole_form fs g f nd.first s) (λ τ. scalar τ nd.first) y is) [
        | inl a ↦ inl (form_broken fs g nd f s y a)
        | inr a ↦ let it = scalar_refused a.0 nd.first a.1 y a.3 in inr (a.0, form_gives fs g nd f a.0 s a.1 a.2, it.0, it.1)
      ]

  pub expected_broken : (fs : List Signature) (g : Around) (e : Expression) (b : Base) (s : List NameEntry) (y : TypeFault) → expected fs g e b s ≡ refused y
      → InWanted fs (Breaking fs y) (scope_of g) (of_type (one_of b)) e
  expected_broken fs g (expression nd f) b s y is =
      elim (bind_refused (whole_form fs g f nd.first s >>= λ τ. scalar τ nd.first) (λ c. has_base c b nd.first) y is) [
        | inl c ↦ elim (bind_refused (whole_form fs g f nd.first s) (λ τ. scalar τ nd.first) y c) [
          | inl a ↦ within (form_broken fs g nd f s y a)
          | inr a ↦
              let it = scalar_refused a.0 nd.first a.1 y a.3 in
              itself (type_broken fs (scope_of g) (expression nd f) (of_type (one_of b)) a.0 y (form_gives fs g nd f a.0 s a.1 a.2) (it.0, array_apart a.0 b it.1))
        ]
        | inr c ↦
            let one = bind_got (whole_form fs g f nd.first s) (λ τ. scalar τ nd.first) c.0 c.1 c.2 in
            let type = scalar_got one.0 nd.first one.1 c.1 c.0 one.3 in
            let it = has_base_refused c.0 b nd.first c.1 y c.3 in
            itself (type_broken fs (scope_of g) (expression nd f) (of_type (one_of b)) one.0 y (form_gives fs g nd f one.0 s one.1 one.2) (it.0, λ same. other_base c.0 b it.1 (sym type.0 ∙ same)))
      ]

  form_broken : (fs : List Signature) (g : Around) (nd : Node) (f : Form) (s : List NameEntry) (y : TypeFault) → whole_form fs g f nd.first s ≡ refused y
      → InExpression fs (Breaking fs y) (scope_of g) (expression nd f)
  form_broken fs g nd (number z) s y is = absurd (cc)
  form_broken fs g nd (text bytes) s y is = absurd (cc)
  form_broken fs g nd (truth b) s y is = absurd (cc)
  form_broken fs g nd (variable w) s y is = its_name (refer_broken fs g w s y is)
  form_broken fs g nd (element w i) s y is =
      elim (bind_refused (refer g w s >>= λ τ. elements_of τ w.span) (λ a r. expected fs g i a.key r >>= λ u. got (one_of a.value)) y is) [
        | inl c ↦ elim (bind_refused (refer g w s) (λ τ. elements_of τ w.span) y c) [
          | inl a ↦ its_array (refer_broken fs g w s y a)
          | inr a ↦ its_elements (array_broken fs (scope_of g) w a.0 y (refer_type g w a.0 s a.1 a.2) (elements_refused a.0 w.span a.1 y a.3))
        ]
        | inr c ↦ elim (bind_refused (expected fs g i c.0.key c.1) (λ u. got (one_of c.0.value)) y c.3) [
          | inl a ↦
              let name = bind_got (refer g w s) (λ τ. elements_of τ w.span) c.0 c.1 c.2 in
              let type = elements_got name.0 w.span name.1 c.1 c.0 name.3 in
              its_index (subst (OfType (scope_of g) w) type.1 (refer_type g w name.0 s name.1 name.2))
              (subst (λ (z : Base). InWanted fs (Breaking fs y) (scope_of g) (of_type (one_of z)) i) (sym type.2) (expected_broken fs g i c.0.key c.1 y a))
          | inr a ↦ absurd (let here = a.3 in cc)
        ]
      ]
  form_broken fs g nd (prefixed p e) s y is =
      elim (bind_refused (expected fs g e (base_of p) s) (λ u. got (one_of (base_of p))) y is) [
        | inl a ↦ its_operand (prefix_sound p) (expected_broken fs g e (base_of p) s y a)
        | inr a ↦ absurd (let here = a.3 in cc)
      ]
  form_broken fs g nd (chain os es) s y is =
      elim (bind_refused (chained fs g es os nd.first s) (λ b. got (one_of b)) y is) [
        | inl a ↦ chained_broken fs g nd es os s y a
        | inr a ↦ absurd (let here = a.3 in cc)
      ]
  form_broken fs g nd (tree.call w es) s y is =
      elim (builtin_of w.text) as (λ o. builtin_of w.text ≡ o →
      either o (λ f. (called w (BuiltIn f) s >>= λ u. builtin_by f es (elements fs g es (Some Text)) (only fs g es f w.span) w.span) >>= λ b. got (one_of b))
      (function_called fs w (count es) 1 s >>= λ f r. arguments fs g es f.inputs w.span r >>= λ u. output_of f.outputs w.span) ≡ refused y
      → InExpression fs (Breaking fs y) (scope_of g) (expression nd (tree.call w es))) [
        | None ↦ λ none here.
            elim (bind_refused (function_called fs w (count es) 1 s) (λ f r. arguments fs g es f.inputs w.span r >>= λ u. output_of f.outputs w.span) y here) [
              | inl a ↦ its_call (function_broken fs (scope_of g) w es (giving 1) (count es) 1 s y none refl refl a)
              | inr c ↦
                  let counts = call_counted fs w (count es) 1 c.0 s c.1 c.2 in
                  let there = function_found fs w (count es) 1 c.0 s c.1 c.2 in
                  elim (bind_refused (arguments fs g es c.0.inputs w.span c.1) (λ u. output_of c.0.outputs w.span) y c.3) [
                    | inl a ↦ its_arguments (function_takes c.0 there.0 there.1) (arguments_broken fs g es c.0.inputs w.span c.1 y (sym counts.0) a)
                    | inr a ↦ absurd (output_there c.0.outputs w.span a.1 y counts.1 a.3)
                  ]
            ]
        | Some f ↦ λ some here.
            elim (bind_refused (called w (BuiltIn f) s >>= λ u. builtin_by f es (elements fs g es (Some Text)) (only fs g es f w.span) w.span) (λ b. got (one_of b)) y here) [
              | inl a ↦ elim (built_broken fs (scope_of g) w es f (elements fs g es (Some Text)) (only fs g es f w.span) (settles w (Called (BuiltIn f)) s) y some
                  (elements_broken fs g es (Some Text) (settles w (Called (BuiltIn f)) s) y)
                  (λ counts one single. only_broken fs g w es f (settles w (Called (BuiltIn f)) s) y some counts one single) a) [
                    | inl b ↦ its_call b
                    | inr b ↦ its_arguments b.1 b.2
                  ]
              | inr a ↦ absurd (let here = a.3 in cc)
            ]
      ] refl is

  chained_broken : (fs : List Signature) (g : Around) (nd : Node) (es : Expressions) (os : List Operator) (s : List NameEntry) (y : TypeFault) → chained fs g es os nd.first s ≡ refused y
      → InExpression fs (Breaking fs y) (scope_of g) (expression nd (chain os es))
  chained_broken fs g nd no_expressions os s y is = no_operands (chain_broken fs (scope_of g) (expression nd (chain os no_expressions)) y (cc))
  chained_broken fs g nd (and_expression e es) [] s y is =
      elim (bind_refused (typed fs g e s) (λ b r. first_given [] b (first_of e) r >>= λ c r. further fs g es [] b c (first_of e) r >>= λ u. got c) y is) [
        | inl a ↦ elim (typed_broken fs g e s y a) [
          | inl x ↦ in_first_operand x
          | inr x ↦ no_operators (chain_broken fs (scope_of g) e y x.2)
        ]
        | inr b ↦ no_operators (chain_broken fs (scope_of g) e y (let here = b.3 in cc))
      ]
  chained_broken fs g nd (and_expression e es) (o ∷ os) s y is =
      elim (bind_refused (typed fs g e s) (λ b r. first_given (o ∷ os) b (first_of e) r >>= λ c r. further fs g es (o ∷ os) b c (first_of e) r >>= λ u. got c) y is) [
        | inl a ↦ elim (typed_broken fs g e s y a) [
          | inl x ↦ in_first_operand x
          | inr x ↦ first_operand (no_operand_broken fs (scope_of g) e o y x)
        ]
        | inr b ↦
            let first_gives = typed_gives fs g e b.0 s b.1 b.2 in
            elim (bind_refused (first_given (o ∷ os) b.0 (first_of e) b.1) (λ c r. further fs g es (o ∷ os) b.0 c (first_of e) r >>= λ u. got c) y b.3) [
              | inl a ↦
                  let it = given_refused o b.0 (first_of e) b.1 y a in
                  first_operand (λ c. type_broken fs (scope_of g) e (before o c) (one_of b.0) y first_gives (it.0, operator_apart e o b.0 c (it.1 c)))
              | inr c ↦ elim (bind_refused (further fs g es (o ∷ os) b.0 c.0 (first_of e) c.1) (λ u. got c.0) y c.3) [
                | inl a ↦ its_operands first_gives (given_got o b.0 c.0 (first_of e) b.1 c.1 c.2).0 (further_broken fs g e es (o ∷ os) b.0 c.0 c.1 y first_gives a)
                | inr a ↦ absurd (let here = a.3 in cc)
              ]
            ]
      ]

  further_broken : (fs : List Signature) (g : Around) (d : Expression) (es : Expressions) (os : List Operator) (b c : Base) (s : List NameEntry) (y : TypeFault) → Gives fs (scope_of g) d (one_of b)
      → further fs g es os b c (first_of d) s ≡ refused y → InOperands fs (Breaking fs y) (scope_of g) b c d os es
  further_broken fs g d no_expressions [] b c s y it is = absurd (cc)
  further_broken fs g d no_expressions (o ∷ os) b c s y it is = too_few (chain_broken fs (scope_of g) d y (cc))
  further_broken fs g d (and_expression e es) [] b c s y it is = too_many (chain_broken fs (scope_of g) d y (cc))
  further_broken fs g d (and_expression e es) (o ∷ os) b c s y it is =
      elim (bind_refused (takes o b c (first_of d) s) (λ u r. expected fs g e b r >>= λ u. further fs g es os b c (first_of e)) y is) [
        | inl a ↦
            let why = takes_refused o b c (first_of d) s y a in
            its_operator (type_broken fs (scope_of g) d (before o c) (one_of b) y it (why.0, operator_apart d o b c why.1))
        | inr k ↦ elim (bind_refused (expected fs g e b k.1) (λ u. further fs g es os b c (first_of e)) y k.3) [
          | inl a ↦ next_operand (expected_broken fs g e b k.1 y a)
          | inr a ↦ behind_operand (further_broken fs g e es os b c a.1 y (expected_gives fs g e b k.1 a.1 a.2) a.3)
        ]
      ]

  pub elements_broken : (fs : List Signature) (g : Around) (es : Expressions) (b : Option Base) (s : List NameEntry) (y : TypeFault) → elements fs g es b s ≡ refused y
      → InExpressions fs (Breaking fs y) (scope_of g) (each (element_want b) es) es
  elements_broken fs g no_expressions b s y is = absurd (cc)
  elements_broken fs g (and_expression e es) b s y is =
      elim (bind_refused (whole fs g e s >>= λ τ. has_wanted τ b (first_of e)) (λ u. elements fs g es b) y is) [
        | inl c ↦ elim (bind_refused (whole fs g e s) (λ τ. has_wanted τ b (first_of e)) y c) [
          | inl a ↦ first_expression (within (whole_broken fs g e s y a))
          | inr a ↦ first_expression (itself (type_broken fs (scope_of g) e (element_want b) a.0 y (whole_gives fs g e a.0 s a.1 a.2) (wanted_refused a.0 b e a.1 y a.3)))
        ]
        | inr a ↦ later_expression (elements_broken fs g es b a.1 y a.3)
      ]

  pub arguments_broken : (fs : List Signature) (g : Around) (es : Expressions) (τs : List Typ) (at : Span) (s : List NameEntry) (y : TypeFault) → count es ≡ length τs
      → arguments fs g es τs at s ≡ refused y → InExpressions fs (Breaking fs y) (scope_of g) (map argument τs) es
  arguments_broken fs g no_expressions τs at s y many is = absurd (cc)
  arguments_broken fs g (and_expression e es) [] at s y many is = absurd (cc)
  arguments_broken fs g (and_expression e es) (τ ∷ τs) at s y many is =
      let fewer : count es ≡ length τs = omega arith in
      elim (bind_refused (whole fs g e s >>= λ x. fits x τ e) (λ u. arguments fs g es τs at) y is) [
        | inl c ↦ elim (bind_refused (whole fs g e s) (λ x. fits x τ e) y c) [
          | inl a ↦ first_expression (within (whole_broken fs g e s y a))
          | inr a ↦ first_expression (itself (type_broken fs (scope_of g) e (argument τ) a.0 y (whole_gives fs g e a.0 s a.1 a.2) (fits_refused τ.shape a.0 τ e a.1 y refl a.3)))
        ]
        | inr a ↦ later_expression (arguments_broken fs g es τs at a.1 y fewer a.3)
      ]

  pub only_broken : (fs : List Signature) (g : Around) (w : Word) (es : Expressions) (f : Builtin) (s : List NameEntry) (y : TypeFault) → builtin_of w.text ≡ Some f
      → BuiltinCounts (builtin_name f) 1 (giving 1) → (f ≢ Named.Strcat) → ((n : ℕ) → BuiltinCounts (builtin_name f) n (giving 1) → n ≡ 1)
      → only fs g es f w.span s ≡ refused y → CallBroken fs y (scope_of g) w es (giving 1)
  only_broken fs g w no_expressions f s y some counts one single is =
      inl (builtin_broken fs (scope_of g) w no_expressions (giving 1) f y some (cc) (λ c. let bad = single 0 c in absurd (cc)))
  only_broken fs g w (and_expression e no_expressions) f s y some counts one single is =
      inr (
        one_want f ∷ [],
        one_taken fs f w.text (and_expression e no_expressions) counts one some,
        elim (bind_refused (whole fs g e s) (λ τ. of_one f τ e w.span) y is) [
          | inl a ↦ first_expression (within (whole_broken fs g e s y a))
          | inr a ↦ first_expression (itself (type_broken fs (scope_of g) e (one_want f) a.0 y (whole_gives fs g e a.0 s a.1 a.2) (one_refused f a.0 e w.span a.1 y counts one a.3)))
        ],
      )
  only_broken fs g w (and_expression e (and_expression d es)) f s y some counts one single is =
      inl (builtin_broken fs (scope_of g) w (and_expression e (and_expression d es)) (giving 1) f y some (cc) (λ c. let bad = single (suc (suc (count es))) c in absurd (cc)))

-- a built-in function that is called for its value
pub builtin_value_broken : (fs : List Signature) (g : Around) (w : Word) (f : Builtin) (es : Expressions) (s : List NameEntry) (y : TypeFault) → builtin_of w.text ≡ Some f
    → builtin_type fs g f es w.span s ≡ refused y → CallBroken fs y (scope_of g) w es (giving 1)
builtin_value_broken fs g w f es s y some is =
    built_broken fs (scope_of g) w es f (elements fs g es (Some Text)) (only fs g es f w.span) s y some (elements_broken fs g es (Some Text) s y)
    (λ counts one single. only_broken fs g w es f s y some counts one single) is
