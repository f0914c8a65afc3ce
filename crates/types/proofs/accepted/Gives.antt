-- What the check finds of an expression is the type that it gives by its form.
use Rattle.std.proofs.Common.{◌≡◌, ℕ, ◌+◌, true, false, List, [], ◌∷◌, length, refl, ap, ◌∙◌, subst}
use Rattle.std.specs.Prelude.{Some, None, cond, nat_eq}
use Rattle.std.specs.Str.{bytes_eq}
use Rattle.lexer.specs.declared.token.Span.{Span}
use Rattle.types.specs.declared.fault.TypeFault.TheVariants.{WrongCount}
use Rattle.types.specs.declared.typed.NameEntry.{NameEntry}
use Rattle.types.specs.declared.typed.NameMeaning.TheVariants.{Called}
use Rattle.types.specs.declared.typed.Callee.TheVariants.{Function, BuiltIn}
use Rattle.types.specs.declared.typed.Builtin.{Builtin}
use Rattle.types.specs.declared.typed.Builtin.TheVariants as Named
use Rattle.language.specs.declared.tree.Base.{Base}
use Rattle.language.specs.declared.tree.Base.TheVariants.{Int, Text, Boolean}
use Rattle.language.specs.declared.tree.Operator.{Operator}
use Rattle.language.specs.Members.{◌∈◌, first, later}
use Rattle.language.specs.Tree.{Word, Node, Expression, expression, Form, number, text, truth, variable, element, call, prefixed, chain, Expressions, no_expressions, and_expression}
use Rattle.language.specs.Scopes.{Typ, one_of, Signature}
use Rattle.language.specs.Typing.{Operates}
use Rattle.types.specs.Known.{Around}
use Rattle.types.specs.Typed.{builtin_name}
use Rattle.types.specs.Outcomes.{refused, got, ◌>>=◌}
use Rattle.types.specs.Names.{seen, referred, refer, builtin_of, called, settles, Found, missing, found, find, find_from, counted, function_called}
use Rattle.types.specs.Agrees.{visible_at, scope_of}
use Rattle.types.specs.Expressions.{has_base, scalar, elements_of, base_of, first_given, first_of, count, array_name, of_one, some_given, builtin_by, output_of, either, whole, typed, expected, whole_form, chained, further, elements, arguments, only, builtin_type}
use Rattle.types.specs.Wants.{OfType, value_of, of_function, of_builtin, Gives, gives_number, gives_text, gives_truth, gives_variable, gives_element, gives_prefixed, gives_chain, gives_call}
use Rattle.types.proofs.accepted.Accepted.{given_got, output_got, call_counted, builtin_named}
use Rattle.types.proofs.settled.Settling.{seen_in, same_text}
use Rattle.types.proofs.accepted.Typing.{bind_got, has_base_got, scalar_got, elements_got, prefix_sound}

-- NAMES

pub refer_type : (g : Around) (w : Word) (τ : Typ) (s s' : List NameEntry) → refer g w s ≡ got τ s' → OfType (scope_of g) w τ
refer_type g w τ s s' is =
    elim (seen g.names w.text) as (λ o. seen g.names w.text ≡ o → referred g w o s ≡ got τ s' → OfType (scope_of g) w τ) [
      | None ↦ λ none here. absurd (cc)
      | Some k ↦ λ some here.
          let type : k.of ≡ τ = cc in
          let there = seen_in g.depth g.names [] w.text k some in
          (visible_at g.depth k, there.0, there.1, type)
    ] refl is

pub found_in : (n : ℕ) (fs : List Signature) (x : List ℕ) (p : ℕ) (f : Signature) → find_from n fs x ≡ found p f → (f ∈ fs) × (f.text ≡ x)
found_in n [] x p f is = absurd (cc)
found_in n (h ∷ hs) x p f is =
    elim (bytes_eq h.text x) as (λ b. bytes_eq h.text x ≡ b → cond b (found n h) (find_from (n + 1) hs x) ≡ found p f → (f ∈ (h ∷ hs)) × (f.text ≡ x)) [
      | true ↦ λ it_is here.
          let same : h ≡ f = cc in
          let P : Signature → Type 0 = λ z. (z ∈ (h ∷ hs)) × (z.text ≡ x) in
          subst P same (first, same_text h.text x it_is)
      | false ↦ λ other here. let it = found_in (n + 1) hs x p f here in (later it.0, it.1)
    ] refl is

-- a function that is called is the one that was found
counted_found : (w : Word) (n m : ℕ) (o : Found) (f : Signature) (s s' : List NameEntry) → counted w n m o s ≡ got f s' → (p : ℕ) × (o ≡ found p f)
counted_found w n m missing f s s' is = absurd (cc)
counted_found w n m (found p x) f s s' is =
    elim (nat_eq (length x.inputs) n) as (λ b. cond b (cond (nat_eq (length x.outputs) m) (got x (settles w (Called (Function p)) s)) (refused (WrongCount w.span))) (refused (WrongCount w.span)) ≡ got f s' → (q : ℕ) × (found p x ≡ found q f)) [
      | true ↦ λ here.
          elim (nat_eq (length x.outputs) m) as (λ b. cond b (got x (settles w (Called (Function p)) s)) (refused (WrongCount w.span)) ≡ got f s' → (q : ℕ) × (found p x ≡ found q f)) [
            | true ↦ λ here. let same : x ≡ f = cc in (p, ap (found p) same)
            | false ↦ λ refusal. absurd (cc)
          ] here
      | false ↦ λ refusal. absurd (cc)
    ] is

pub function_found : (fs : List Signature) (w : Word) (n m : ℕ) (f : Signature) (s s' : List NameEntry) → function_called fs w n m s ≡ got f s' → (f ∈ fs) × (f.text ≡ w.text)
function_found fs w n m f s s' is = let it = counted_found w n m (find fs w.text) f s s' is in found_in 0 fs w.text it.0 f it.1

-- BUILT-IN FUNCTIONS

one_value : (f : Builtin) (τ : Typ) (e : Expression) (at : Span) (b : Base) (s s' : List NameEntry) → of_one f τ e at s ≡ got b s' → value_of (builtin_name f) ≡ Some b
one_value Named.FromInt τ e at b s s' is =
    let one = bind_got (scalar τ (first_of e) s >>= λ c. has_base c Int (first_of e)) (λ u. got Text) b s' is in
    let last : got Text one.1 ≡ got b s' = one.3 in cc
one_value Named.ToInt τ e at b s s' is =
    let one = bind_got (scalar τ (first_of e) s >>= λ c. has_base c Text (first_of e)) (λ u. got Int) b s' is in
    let last : got Int one.1 ≡ got b s' = one.3 in cc
one_value Named.Size τ e at b s s' is =
    let one = bind_got (array_name τ e s) (λ c. got Int) b s' is in
    let last : got Int one.1 ≡ got b s' = one.3 in cc
one_value Named.Strcat τ e at b s s' is = absurd (cc)
one_value Named.Printf τ e at b s s' is = absurd (cc)
one_value Named.Assert τ e at b s s' is = absurd (cc)

only_value : (fs : List Signature) (g : Around) (es : Expressions) (f : Builtin) (at : Span) (b : Base) (s s' : List NameEntry) → only fs g es f at s ≡ got b s' → value_of (builtin_name f) ≡ Some b
unfolding only
only_value fs g no_expressions f at b s s' is = absurd (cc)
only_value fs g (and_expression e no_expressions) f at b s s' is =
    let one = bind_got (whole fs g e s) (λ τ. of_one f τ e at) b s' is in one_value f one.0 e at b one.1 s' one.3
only_value fs g (and_expression e (and_expression d es)) f at b s s' is = absurd (cc)

pub builtin_value : (fs : List Signature) (g : Around) (f : Builtin) (es : Expressions) (at : Span) (b : Base) (s s' : List NameEntry) → builtin_type fs g f es at s ≡ got b s' → value_of (builtin_name f) ≡ Some b
builtin_value fs g Named.FromInt es at b s s' is = only_value fs g es Named.FromInt at b s s' is
builtin_value fs g Named.ToInt es at b s s' is = only_value fs g es Named.ToInt at b s s' is
builtin_value fs g Named.Size es at b s s' is = only_value fs g es Named.Size at b s s' is
builtin_value fs g Named.Strcat es at b s s' is =
    let one = bind_got (some_given es at s >>= λ u. elements fs g es (Some Text)) (λ u. got Text) b s' is in
    let last : got Text one.1 ≡ got b s' = one.3 in cc
builtin_value fs g Named.Printf es at b s s' is = absurd (cc)
builtin_value fs g Named.Assert es at b s s' is = absurd (cc)

-- EXPRESSIONS

mutual
  unfolding whole typed expected whole_form chained

  pub whole_gives : (fs : List Signature) (g : Around) (e : Expression) (τ : Typ) (s s' : List NameEntry) → whole fs g e s ≡ got τ s' → Gives fs (scope_of g) e τ
  whole_gives fs g (expression nd f) τ s s' is = form_gives fs g nd f τ s s' is

  pub typed_gives : (fs : List Signature) (g : Around) (e : Expression) (b : Base) (s s' : List NameEntry) → typed fs g e s ≡ got b s' → Gives fs (scope_of g) e (one_of b)
  typed_gives fs g (expression nd f) b s s' is =
      let one = bind_got (whole_form fs g f nd.first s) (λ τ. scalar τ nd.first) b s' is in
      let type = scalar_got one.0 nd.first one.1 s' b one.3 in
      subst (Gives fs (scope_of g) (expression nd f)) type.0 (form_gives fs g nd f one.0 s one.1 one.2)

  pub form_gives : (fs : List Signature) (g : Around) (nd : Node) (f : Form) (τ : Typ) (s s' : List NameEntry) → whole_form fs g f nd.first s ≡ got τ s' → Gives fs (scope_of g) (expression nd f) τ
  form_gives fs g nd (number z) τ s s' is = let same : one_of Int ≡ τ = cc in subst (Gives fs (scope_of g) (expression nd (number z))) same gives_number
  form_gives fs g nd (text z) τ s s' is = let same : one_of Text ≡ τ = cc in subst (Gives fs (scope_of g) (expression nd (text z))) same gives_text
  form_gives fs g nd (truth z) τ s s' is = let same : one_of Boolean ≡ τ = cc in subst (Gives fs (scope_of g) (expression nd (truth z))) same gives_truth
  form_gives fs g nd (variable w) τ s s' is = gives_variable (refer_type g w τ s s' is)
  form_gives fs g nd (element w i) τ s s' is =
      let one = bind_got (refer g w s >>= λ τ. elements_of τ w.span) (λ a r. expected fs g i a.key r >>= λ u. got (one_of a.value)) τ s' is in
      let name = bind_got (refer g w s) (λ τ. elements_of τ w.span) one.0 one.1 one.2 in
      let two = bind_got (expected fs g i one.0.key one.1) (λ u. got (one_of one.0.value)) τ s' one.3 in
      let type = elements_got name.0 w.span name.1 one.1 one.0 name.3 in
      let last : got (one_of one.0.value) two.1 ≡ got τ s' = two.3 in
      let same : one_of one.0.value ≡ τ = cc in
      subst (Gives fs (scope_of g) (expression nd (element w i))) same (gives_element (subst (OfType (scope_of g) w) type.1 (refer_type g w name.0 s name.1 name.2)))
  form_gives fs g nd (prefixed p e) τ s s' is =
      let one = bind_got (expected fs g e (base_of p) s) (λ u. got (one_of (base_of p))) τ s' is in
      let last : got (one_of (base_of p)) one.1 ≡ got τ s' = one.3 in
      let same : one_of (base_of p) ≡ τ = cc in
      subst (Gives fs (scope_of g) (expression nd (prefixed p e))) same (gives_prefixed (prefix_sound p))
  form_gives fs g nd (chain os es) τ s s' is =
      let one = bind_got (chained fs g es os nd.first s) (λ b. got (one_of b)) τ s' is in
      let last : got (one_of one.0) one.1 ≡ got τ s' = one.3 in
      let same : one_of one.0 ≡ τ = cc in
      subst (Gives fs (scope_of g) (expression nd (chain os es))) same (chain_gives fs g nd es os one.0 s one.1 one.2)
  form_gives fs g nd (call w es) τ s s' is =
      elim (builtin_of w.text) as (λ o. builtin_of w.text ≡ o →
      either o (λ f. (called w (BuiltIn f) s >>= λ u. builtin_by f es (elements fs g es (Some Text)) (only fs g es f w.span) w.span) >>= λ b. got (one_of b))
      (function_called fs w (count es) 1 s >>= λ f r. arguments fs g es f.inputs w.span r >>= λ u. output_of f.outputs w.span) ≡ got τ s'
      → Gives fs (scope_of g) (expression nd (call w es)) τ) [
        | None ↦ λ none here.
            let one = bind_got (function_called fs w (count es) 1 s) (λ f r. arguments fs g es f.inputs w.span r >>= λ u. output_of f.outputs w.span) τ s' here in
            let two = bind_got (arguments fs g es one.0.inputs w.span one.1) (λ u. output_of one.0.outputs w.span) τ s' one.3 in
            let counts = call_counted fs w (count es) 1 one.0 s one.1 one.2 in
            let it = function_found fs w (count es) 1 one.0 s one.1 one.2 in
            let out = output_got one.0.outputs w.span τ two.1 s' two.3 counts.1 in
            gives_call (of_function one.0 it.0 it.1 out.0)
        | Some f ↦ λ some here.
            let one = bind_got (called w (BuiltIn f) s >>= λ u. builtin_type fs g f es w.span) (λ b. got (one_of b)) τ s' here in
            let last : got (one_of one.0) one.1 ≡ got τ s' = one.3 in
            let same : one_of one.0 ≡ τ = cc in
            subst (Gives fs (scope_of g) (expression nd (call w es))) same (gives_call (of_builtin (builtin_name f) (builtin_named w.text f some)
            (builtin_value fs g f es w.span one.0 (settles w (Called (BuiltIn f)) s) one.1 one.2)))
      ] refl is

  chain_gives : (fs : List Signature) (g : Around) (nd : Node) (es : Expressions) (os : List Operator) (c : Base) (s s' : List NameEntry) → chained fs g es os nd.first s ≡ got c s'
      → Gives fs (scope_of g) (expression nd (chain os es)) (one_of c)
  chain_gives fs g nd no_expressions os c s s' is = absurd (cc)
  chain_gives fs g nd (and_expression e es) [] c s s' is =
      let one = bind_got (typed fs g e s) (λ b r. first_given [] b (first_of e) r >>= λ c r. further fs g es [] b c (first_of e) r >>= λ u. got c) c s' is in
      let two = bind_got (first_given [] one.0 (first_of e) one.1) (λ c r. further fs g es [] one.0 c (first_of e) r >>= λ u. got c) c s' one.3 in
      absurd (let here = two.2 in cc)
  chain_gives fs g nd (and_expression e es) (o ∷ os) c s s' is =
      let one = bind_got (typed fs g e s) (λ b r. first_given (o ∷ os) b (first_of e) r >>= λ c r. further fs g es (o ∷ os) b c (first_of e) r >>= λ u. got c) c s' is in
      let two = bind_got (first_given (o ∷ os) one.0 (first_of e) one.1) (λ c r. further fs g es (o ∷ os) one.0 c (first_of e) r >>= λ u. got c) c s' one.3 in
      let three = bind_got (further fs g es (o ∷ os) one.0 two.0 (first_of e) two.1) (λ u. got two.0) c s' two.3 in
      let last : got two.0 three.1 ≡ got c s' = three.3 in
      let same : two.0 ≡ c = cc in
      let op = given_got o one.0 two.0 (first_of e) one.1 two.1 two.2 in
      gives_chain (typed_gives fs g e one.0 s one.1 one.2) (subst (Operates o one.0) same op.0)

pub expected_gives : (fs : List Signature) (g : Around) (e : Expression) (b : Base) (s s' : List NameEntry) → expected fs g e b s ≡ got (tt {0}) s' → Gives fs (scope_of g) e (one_of b)
unfolding expected
expected_gives fs g (expression nd f) b s s' is =
    let one = bind_got (whole_form fs g f nd.first s >>= λ τ. scalar τ nd.first) (λ c. has_base c b nd.first) (tt {0}) s' is in
    let two = bind_got (whole_form fs g f nd.first s) (λ τ. scalar τ nd.first) one.0 one.1 one.2 in
    let type = scalar_got two.0 nd.first two.1 one.1 one.0 two.3 in
    let base = has_base_got one.0 b nd.first one.1 s' one.3 in
    subst (Gives fs (scope_of g) (expression nd f)) (type.0 ∙ ap one_of base.0) (form_gives fs g nd f two.0 s two.1 two.2)
