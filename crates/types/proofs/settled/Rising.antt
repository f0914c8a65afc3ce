-- The names of a numbered script are settled in the order of their numbers.
use Rattle.std.proofs.Common.{◌≡◌, ℕ, ◌+◌, ◌-◌, ◌≤◌, true, false, List, [], ◌∷◌, length, refl, ◌∙◌, subst, arith}
use Rattle.std.specs.Prelude.{Option, Some, None, cond, nat_eq}
use Rattle.lexer.specs.declared.token.Span.{Span}
use Rattle.types.specs.declared.fault.TypeFault.TheVariants.{WrongCount}
use Rattle.types.specs.declared.typed.NameEntry.{NameEntry}
use Rattle.types.specs.declared.typed.NameMeaning.{NameMeaning}
use Rattle.types.specs.declared.typed.NameMeaning.TheVariants.{Variable, Called}
use Rattle.types.specs.declared.typed.Callee.TheVariants.{Function, BuiltIn}
use Rattle.types.specs.declared.typed.Builtin.{Builtin}
use Rattle.types.specs.declared.typed.Builtin.TheVariants as Named
use Rattle.language.specs.declared.tree.Base.{Base}
use Rattle.language.specs.declared.tree.Base.TheVariants.{Int, Text}
use Rattle.language.specs.declared.tree.Shape.TheVariants.{Scalar}
use Rattle.language.specs.declared.tree.Operator.{Operator}
use Rattle.language.specs.Core.{here}
use Rattle.language.specs.Tree.{Word, Expression, expression, Form, number, text, truth, variable, element, call, prefixed, chain, Expressions, no_expressions, and_expression}
use Rattle.language.specs.Table.{Table, composite}
use Rattle.language.specs.Scopes.{Typ, one_of, Signature}
use Rattle.language.specs.Numbered.{expression_size, form_size, expressions_size, numbered_word, numbered_expression, numbered_form, numbered_expressions}
use Rattle.types.specs.Known.{Around}
use Rattle.types.specs.Outcomes.{refused, got, ◌>>=◌}
use Rattle.types.specs.Names.{seen, refer, referred, builtin_of, called, settles, missing, found, find, counted, function_called}
use Rattle.types.specs.Rising.{Rises, none_settled, one_settled}
use Rattle.types.specs.Expressions.{has_base, scalar, elements_of, base_of, given_by, takes, first_given, first_of, count, has_wanted, fits, of_one, builtin_by, output_of, either, whole, typed, expected, whole_form, chained, further, elements, arguments, only, builtin_type}
use Rattle.types.proofs.accepted.Typing.{bind_got, has_base_got, scalar_got, elements_got}
use Rattle.types.proofs.accepted.Accepted.{given_got, fits_sound, of_one_sound}

-- RISING NUMBERS

pub rises_on : {n : ℕ} (m : ℕ) {ss : List NameEntry} → Rises n ss → n ≤ m → Rises m ss
rises_on m none_settled more = none_settled
rises_on m (one_settled s less low high is) more = one_settled s less low (omega arith) is

pub rises_same : (n : ℕ) (s s' : List NameEntry) → s ≡ s' → Rises n s → Rises n s'
rises_same n s s' same rises = subst (Rises n) same rises

pub settles_rises : (n : ℕ) (w : Word) (m : NameMeaning) (s : List NameEntry) → Rises n s → Rises (n + 1) (settles (numbered_word n w) m s)
settles_rises n w m s rises = one_settled (record { number = n; meaning = m }) rises (omega arith) (omega arith) refl

-- NAMES

pub refer_rises : (g : Around) (w : Word) (n : ℕ) (τ : Typ) (s s' : List NameEntry) → refer g (numbered_word n w) s ≡ got τ s' → Rises n s → Rises (n + 1) s'
refer_rises g w n τ s s' is rises =
    elim (seen g.names w.text) as (λ o. referred g (numbered_word n w) o s ≡ got τ s' → Rises (n + 1) s') [
      | None ↦ λ refusal. absurd (cc)
      | Some k ↦ λ here.
          let end : settles (numbered_word n w) (Variable (record { up = g.depth - k.depth; what = k.what }) k.of.shape) s ≡ s' = cc in
          rises_same (n + 1) (settles (numbered_word n w) (Variable (record { up = g.depth - k.depth; what = k.what }) k.of.shape) s) s' end (settles_rises n w (Variable (record { up = g.depth - k.depth; what = k.what }) k.of.shape) s rises)
    ] is

pub function_rises : (fs : List Signature) (w : Word) (n k m : ℕ) (f : Signature) (s s' : List NameEntry) → function_called fs (numbered_word n w) k m s ≡ got f s' → Rises n s → Rises (n + 1) s'
function_rises fs w n k m f s s' is rises =
    elim (find fs w.text) as (λ o. counted (numbered_word n w) k m o s ≡ got f s' → Rises (n + 1) s') [
      | missing ↦ λ refusal. absurd (cc)
      | found p x ↦ λ here.
          elim (nat_eq (length x.inputs) k) as (λ b. cond b (cond (nat_eq (length x.outputs) m) (got x (settles (numbered_word n w) (Called (Function p)) s)) (refused (WrongCount w.span))) (refused (WrongCount w.span)) ≡ got f s' → Rises (n + 1) s') [
            | true ↦ λ here.
                elim (nat_eq (length x.outputs) m) as (λ b. cond b (got x (settles (numbered_word n w) (Called (Function p)) s)) (refused (WrongCount w.span)) ≡ got f s' → Rises (n + 1) s') [
                  | true ↦ λ here.
                      let end : settles (numbered_word n w) (Called (Function p)) s ≡ s' = cc in
                      rises_same (n + 1) (settles (numbered_word n w) (Called (Function p)) s) s' end (settles_rises n w (Called (Function p)) s rises)
                  | false ↦ λ refusal. absurd (cc)
                ] here
            | false ↦ λ refusal. absurd (cc)
          ] here
    ] is

-- EXPRESSIONS

abbrev no_table : Table
no_table = record { name_of = λ n. here 0; shape_of = λ n. Scalar; callee_of = λ n. composite 0 }

pub builtin_rises : (fs : List Signature) (g : Around) (f : Builtin) (es : Expressions) (at : Span) (n m : ℕ) (b : Base) (s s' : List NameEntry)
    → ((r r' : List NameEntry) → elements fs g es (Some Text) r ≡ got (tt {0}) r' → Rises n r → Rises m r')
    → ((c : Base) (r r' : List NameEntry) → only fs g es f at r ≡ got c r' → Rises n r → Rises m r')
    → builtin_type fs g f es at s ≡ got b s' → Rises n s → Rises m s'
builtin_rises fs g Named.Strcat no_expressions at n m b s s' texts one is rises = absurd (cc)
builtin_rises fs g Named.Strcat (and_expression e es) at n m b s s' texts one is rises =
    let it = bind_got (elements fs g (and_expression e es) (Some Text) s) (λ u. got Text) b s' is in
    let end : it.1 ≡ s' = cc in
    rises_same m it.1 s' end (texts s it.1 it.2 rises)
builtin_rises fs g Named.FromInt es at n m b s s' texts one is rises = one b s s' is rises
builtin_rises fs g Named.ToInt es at n m b s s' texts one is rises = one b s s' is rises
builtin_rises fs g Named.Size es at n m b s s' texts one is rises = one b s s' is rises
builtin_rises fs g Named.Printf es at n m b s s' texts one is rises = absurd (cc)
builtin_rises fs g Named.Assert es at n m b s s' texts one is rises = absurd (cc)

pub output_end : (τs : List Typ) (at : Span) (τ : Typ) (s s' : List NameEntry) → output_of τs at s ≡ got τ s' → s ≡ s'
output_end [] at τ s s' is = absurd (cc)
output_end (σ ∷ σs) at τ s s' is = cc

wanted_end : (τ : Typ) (b : Option Base) (at : Span) (s s' : List NameEntry) → has_wanted τ b at s ≡ got (tt {0}) s' → s ≡ s'
wanted_end τ None at s s' is = cc
wanted_end τ (Some b) at s s' is =
    let one = bind_got (scalar τ at s) (λ c. has_base c b at) (tt {0}) s' is in
    (scalar_got τ at s one.1 one.0 one.2).1 ∙ (has_base_got one.0 b at one.1 s' one.3).1

first_end : (os : List Operator) (b c : Base) (at : Span) (s s' : List NameEntry) → first_given os b at s ≡ got c s' → s ≡ s'
first_end [] b c at s s' is = absurd (cc)
first_end (o ∷ os) b c at s s' is = (given_got o b c at s s' is).1

mutual
  unfolding whole typed expected whole_form chained further elements arguments only

  pub whole_rises : (fs : List Signature) (g : Around) (n : ℕ) (e : Expression) (τ : Typ) (s s' : List NameEntry) → whole fs g (numbered_expression n e) s ≡ got τ s' → Rises n s
      → Rises (n + expression_size e) s'
  whole_rises fs g n (expression nd f) τ s s' is rises = rises_on (n + (1 + form_size f)) (form_rises fs g (n + 1) f nd.first τ s s' is (rises_on (n + 1) rises (omega arith))) (omega arith)

  pub typed_rises : (fs : List Signature) (g : Around) (n : ℕ) (e : Expression) (b : Base) (s s' : List NameEntry) → typed fs g (numbered_expression n e) s ≡ got b s' → Rises n s
      → Rises (n + expression_size e) s'
  typed_rises fs g n (expression nd f) b s s' is rises =
      let one = bind_got (whole_form fs g (numbered_form (n + 1) f) nd.first s) (λ τ. scalar τ nd.first) b s' is in
      let type = scalar_got one.0 nd.first one.1 s' b one.3 in
      rises_same (n + (1 + form_size f)) one.1 s' type.1 (rises_on (n + (1 + form_size f)) (form_rises fs g (n + 1) f nd.first one.0 s one.1 one.2 (rises_on (n + 1) rises (omega arith))) (omega arith))

  pub expected_rises : (fs : List Signature) (g : Around) (n : ℕ) (e : Expression) (b : Base) (s s' : List NameEntry) → expected fs g (numbered_expression n e) b s ≡ got (tt {0}) s' → Rises n s
      → Rises (n + expression_size e) s'
  expected_rises fs g n (expression nd f) b s s' is rises =
      let two = bind_got (whole_form fs g (numbered_form (n + 1) f) nd.first s >>= λ τ. scalar τ nd.first) (λ c. has_base c b nd.first) (tt {0}) s' is in
      let base = has_base_got two.0 b nd.first two.1 s' two.3 in
      let one = bind_got (whole_form fs g (numbered_form (n + 1) f) nd.first s) (λ τ. scalar τ nd.first) two.0 two.1 two.2 in
      let type = scalar_got one.0 nd.first one.1 two.1 two.0 one.3 in
      rises_same (n + (1 + form_size f)) one.1 s' (type.1 ∙ base.1) (rises_on (n + (1 + form_size f)) (form_rises fs g (n + 1) f nd.first one.0 s one.1 one.2 (rises_on (n + 1) rises (omega arith))) (omega arith))

  form_rises : (fs : List Signature) (g : Around) (n : ℕ) (f : Form) (at : Span) (τ : Typ) (s s' : List NameEntry) → whole_form fs g (numbered_form n f) at s ≡ got τ s' → Rises n s
      → Rises (n + form_size f) s'
  form_rises fs g n (number z) at τ s s' is rises = rises_same (n + 0) s s' (cc) (rises_on (n + 0) rises (omega arith))
  form_rises fs g n (text z) at τ s s' is rises = rises_same (n + 0) s s' (cc) (rises_on (n + 0) rises (omega arith))
  form_rises fs g n (truth z) at τ s s' is rises = rises_same (n + 0) s s' (cc) (rises_on (n + 0) rises (omega arith))
  form_rises fs g n (variable w) at τ s s' is rises = refer_rises g w n τ s s' is rises
  form_rises fs g n (element w i) at τ s s' is rises =
      let two = bind_got (refer g (numbered_word n w) s >>= λ τ. elements_of τ w.span) (λ a s. expected fs g (numbered_expression (n + 1) i) a.key s >>= λ u. got (one_of a.value)) τ s' is in
      let three = bind_got (expected fs g (numbered_expression (n + 1) i) two.0.key two.1) (λ u. got (one_of two.0.value)) τ s' two.3 in
      let one = bind_got (refer g (numbered_word n w) s) (λ τ. elements_of τ w.span) two.0 two.1 two.2 in
      let type = elements_got one.0 w.span one.1 two.1 two.0 one.3 in
      let end : three.1 ≡ s' = cc in
      let name = rises_same (n + 1) one.1 two.1 type.3 (refer_rises g w n one.0 s one.1 one.2 rises) in
      rises_same (n + (1 + expression_size i)) three.1 s' end (rises_on (n + (1 + expression_size i)) (expected_rises fs g (n + 1) i two.0.key two.1 three.1 three.2 name) (omega arith))
  form_rises fs g n (prefixed p e) at τ s s' is rises =
      let one = bind_got (expected fs g (numbered_expression n e) (base_of p) s) (λ u. got (one_of (base_of p))) τ s' is in
      let end : one.1 ≡ s' = cc in
      rises_same (n + expression_size e) one.1 s' end (expected_rises fs g n e (base_of p) s one.1 one.2 rises)
  form_rises fs g n (chain os es) at τ s s' is rises =
      let one = bind_got (chained fs g (numbered_expressions n es) os at s) (λ b. got (one_of b)) τ s' is in
      let end : one.1 ≡ s' = cc in
      rises_same (n + expressions_size es) one.1 s' end (chained_rises fs g n es os at one.0 s one.1 one.2 rises)
  form_rises fs g n (call w es) at τ s s' is rises =
      elim (builtin_of w.text) as (λ o.
      either o (λ f. (called (numbered_word n w) (BuiltIn f) s >>= λ u. builtin_by f (numbered_expressions (n + 1) es) (elements fs g (numbered_expressions (n + 1) es) (Some Text)) (only fs g (numbered_expressions (n + 1) es) f w.span) w.span) >>= λ b. got (one_of b))
      (function_called fs (numbered_word n w) (count (numbered_expressions (n + 1) es)) 1 s >>= λ f s. arguments fs g (numbered_expressions (n + 1) es) f.inputs w.span s >>= λ u. output_of f.outputs w.span) ≡ got τ s'
      → Rises (n + (1 + expressions_size es)) s') [
        | None ↦ λ here.
            let one = bind_got (function_called fs (numbered_word n w) (count (numbered_expressions (n + 1) es)) 1 s) (λ f s. arguments fs g (numbered_expressions (n + 1) es) f.inputs w.span s >>= λ u. output_of f.outputs w.span) τ s' here in
            let two = bind_got (arguments fs g (numbered_expressions (n + 1) es) one.0.inputs w.span one.1) (λ u. output_of one.0.outputs w.span) τ s' one.3 in
            let name = function_rises fs w n (count (numbered_expressions (n + 1) es)) 1 one.0 s one.1 one.2 rises in
            let given = arguments_rises fs g (n + 1) es one.0.inputs w.span one.1 two.1 two.2 name in
            let end = output_end one.0.outputs w.span τ two.1 s' two.3 in
            rises_same (n + (1 + expressions_size es)) two.1 s' end (rises_on (n + (1 + expressions_size es)) given (omega arith))
        | Some f ↦ λ here.
            let two = bind_got (called (numbered_word n w) (BuiltIn f) s >>= λ u. builtin_by f (numbered_expressions (n + 1) es) (elements fs g (numbered_expressions (n + 1) es) (Some Text)) (only fs g (numbered_expressions (n + 1) es) f w.span) w.span) (λ b. got (one_of b)) τ s' here in
            let end : two.1 ≡ s' = cc in
            let given = builtin_rises fs g f (numbered_expressions (n + 1) es) w.span (n + 1) (n + 1 + expressions_size es) two.0 (settles (numbered_word n w) (Called (BuiltIn f)) s) two.1 (elements_rises fs g (n + 1) es (Some Text)) (only_rises fs g (n + 1) es f w.span) two.2 (settles_rises n w (Called (BuiltIn f)) s rises) in
            rises_same (n + (1 + expressions_size es)) two.1 s' end (rises_on (n + (1 + expressions_size es)) given (omega arith))
      ] is

  pub only_rises : (fs : List Signature) (g : Around) (n : ℕ) (es : Expressions) (f : Builtin) (at : Span) (b : Base) (s s' : List NameEntry) → only fs g (numbered_expressions n es) f at s ≡ got b s' → Rises n s
      → Rises (n + expressions_size es) s'
  only_rises fs g n no_expressions f at b s s' is rises = absurd (cc)
  only_rises fs g n (and_expression e no_expressions) f at b s s' is rises =
      let one = bind_got (whole fs g (numbered_expression n e) s) (λ τ. of_one f τ (numbered_expression n e) at) b s' is in
      let it = of_one_sound fs no_table [] f one.0 (numbered_expression n e) at b one.1 s' one.3 in
      rises_same (n + (expression_size e + 0)) one.1 s' it.0 (rises_on (n + (expression_size e + 0)) (whole_rises fs g n e one.0 s one.1 one.2 rises) (omega arith))
  only_rises fs g n (and_expression e (and_expression d es)) f at b s s' is rises = absurd (cc)

  pub arguments_rises : (fs : List Signature) (g : Around) (n : ℕ) (es : Expressions) (τs : List Typ) (at : Span) (s s' : List NameEntry) → arguments fs g (numbered_expressions n es) τs at s ≡ got (tt {0}) s' → Rises n s
      → Rises (n + expressions_size es) s'
  arguments_rises fs g n no_expressions τs at s s' is rises = rises_same (n + 0) s s' (cc) (rises_on (n + 0) rises (omega arith))
  arguments_rises fs g n (and_expression e es) [] at s s' is rises = absurd (cc)
  arguments_rises fs g n (and_expression e es) (τ ∷ τs) at s s' is rises =
      let two = bind_got (whole fs g (numbered_expression n e) s >>= λ found. fits found τ (numbered_expression n e)) (λ u. arguments fs g (numbered_expressions (n + expression_size e) es) τs at) (tt {0}) s' is in
      let one = bind_got (whole fs g (numbered_expression n e) s) (λ found. fits found τ (numbered_expression n e)) (tt {0}) two.1 two.2 in
      let fit = fits_sound fs no_table [] (numbered_expression n e) one.0 τ τ.shape one.1 two.1 refl one.3 in
      let first = rises_same (n + expression_size e) one.1 two.1 fit.0 (whole_rises fs g n e one.0 s one.1 one.2 rises) in
      rises_on (n + (expression_size e + expressions_size es)) (arguments_rises fs g (n + expression_size e) es τs at two.1 s' two.3 first) (omega arith)

  pub elements_rises : (fs : List Signature) (g : Around) (n : ℕ) (es : Expressions) (b : Option Base) (s s' : List NameEntry) → elements fs g (numbered_expressions n es) b s ≡ got (tt {0}) s' → Rises n s
      → Rises (n + expressions_size es) s'
  elements_rises fs g n no_expressions b s s' is rises = rises_same (n + 0) s s' (cc) (rises_on (n + 0) rises (omega arith))
  elements_rises fs g n (and_expression e es) b s s' is rises =
      let two = bind_got (whole fs g (numbered_expression n e) s >>= λ τ. has_wanted τ b (first_of (numbered_expression n e))) (λ u. elements fs g (numbered_expressions (n + expression_size e) es) b) (tt {0}) s' is in
      let one = bind_got (whole fs g (numbered_expression n e) s) (λ τ. has_wanted τ b (first_of (numbered_expression n e))) (tt {0}) two.1 two.2 in
      let end = wanted_end one.0 b (first_of (numbered_expression n e)) one.1 two.1 one.3 in
      let first = rises_same (n + expression_size e) one.1 two.1 end (whole_rises fs g n e one.0 s one.1 one.2 rises) in
      rises_on (n + (expression_size e + expressions_size es)) (elements_rises fs g (n + expression_size e) es b two.1 s' two.3 first) (omega arith)

  chained_rises : (fs : List Signature) (g : Around) (n : ℕ) (es : Expressions) (os : List Operator) (at : Span) (c : Base) (s s' : List NameEntry) → chained fs g (numbered_expressions n es) os at s ≡ got c s' → Rises n s
      → Rises (n + expressions_size es) s'
  chained_rises fs g n no_expressions os at c s s' is rises = absurd (cc)
  chained_rises fs g n (and_expression e es) os at c s s' is rises =
      let one = bind_got (typed fs g (numbered_expression n e) s) (λ b s. first_given os b (first_of (numbered_expression n e)) s >>= λ c s. further fs g (numbered_expressions (n + expression_size e) es) os b c (first_of (numbered_expression n e)) s >>= λ u. got c) c s' is in
      let two = bind_got (first_given os one.0 (first_of (numbered_expression n e)) one.1) (λ c s. further fs g (numbered_expressions (n + expression_size e) es) os one.0 c (first_of (numbered_expression n e)) s >>= λ u. got c) c s' one.3 in
      let three = bind_got (further fs g (numbered_expressions (n + expression_size e) es) os one.0 two.0 (first_of (numbered_expression n e)) two.1) (λ u. got two.0) c s' two.3 in
      let end : three.1 ≡ s' = cc in
      let given = first_end os one.0 two.0 (first_of (numbered_expression n e)) one.1 two.1 two.2 in
      let first = rises_same (n + expression_size e) one.1 two.1 given (typed_rises fs g n e one.0 s one.1 one.2 rises) in
      rises_same (n + (expression_size e + expressions_size es)) three.1 s' end (rises_on (n + (expression_size e + expressions_size es)) (further_rises fs g (n + expression_size e) es os one.0 two.0 (first_of (numbered_expression n e)) two.1 three.1 three.2 first) (omega arith))

  further_rises : (fs : List Signature) (g : Around) (n : ℕ) (es : Expressions) (os : List Operator) (b c : Base) (before : Span) (s s' : List NameEntry) → further fs g (numbered_expressions n es) os b c before s ≡ got (tt {0}) s' → Rises n s
      → Rises (n + expressions_size es) s'
  further_rises fs g n no_expressions [] b c before s s' is rises = rises_same (n + 0) s s' (cc) (rises_on (n + 0) rises (omega arith))
  further_rises fs g n no_expressions (o ∷ os) b c before s s' is rises = absurd (cc)
  further_rises fs g n (and_expression e es) [] b c before s s' is rises = absurd (cc)
  further_rises fs g n (and_expression e es) (o ∷ os) b c before s s' is rises =
      let two = bind_got (takes o b c before s) (λ u s. expected fs g (numbered_expression n e) b s >>= λ u. further fs g (numbered_expressions (n + expression_size e) es) os b c (first_of (numbered_expression n e))) (tt {0}) s' is in
      let one = bind_got (given_by o b before s) (λ d. has_base d c before) (tt {0}) two.1 two.2 in
      let three = bind_got (expected fs g (numbered_expression n e) b two.1) (λ u. further fs g (numbered_expressions (n + expression_size e) es) os b c (first_of (numbered_expression n e))) (tt {0}) s' two.3 in
      let given = given_got o b one.0 before s one.1 one.2 in
      let base = has_base_got one.0 c before one.1 two.1 one.3 in
      let first = expected_rises fs g n e b two.1 three.1 three.2 (rises_same n s two.1 (given.1 ∙ base.1) rises) in
      rises_on (n + (expression_size e + expressions_size es)) (further_rises fs g (n + expression_size e) es os b c (first_of (numbered_expression n e)) three.1 s' three.3 first) (omega arith)
