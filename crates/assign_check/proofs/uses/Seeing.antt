-- The uses of well typed expressions, right sides and calls are of visible variables.
use Rattle.std.proofs.Common.{◌≡◌, ℕ, List, [], ◌∷◌, ◌++◌, refl, sym, ap, ◌∙◌}
use Rattle.std.specs.Prelude.{map, Option}
use Rattle.language.specs.declared.tree.Base.{Base}
use Rattle.language.specs.declared.tree.Operator.{Operator}
use Rattle.language.specs.declared.tree.Keys.{Keys}
use Rattle.language.specs.declared.tree.Shape.{Shape}
use Rattle.language.specs.declared.tree.Shape.TheVariants.{Scalar, Array}
use Rattle.language.specs.Members.{◌∈◌, first, later}
use Rattle.language.specs.Table.{Table, Builtin}
use Rattle.language.specs.Tree.{Word, Expression, Expressions, expressions_of, RightSide, Over}
use Rattle.language.specs.Scopes.{Typ, one_of, many_of, Visible, Scope, deeper, Signature, Refers}
use Rattle.language.specs.Typing as rules
use Rattle.language.specs.Typing.{HasType, RestType, ArgumentTypes, BuiltinType, AllHaveType, RightType, ReferAll, StepType, SourceType, CallTyped}
use Rattle.assign_check.specs.Outline.{Kind, named, written, read, Use, followed, Step, uses, outlined, use_of, reading, name_read, read_in, read_all, read_right, read_step, read_over, read_names}
use Rattle.assign_check.proofs.outlines.Scoped.{Seen, Sees, Scoped, scoped_use}

-- a variable of the typing rules, as it is seen here
abbrev pub seen_as : Visible → Seen
seen_as v = record { what = v.refers_to.what; shape = v.type.shape }

-- the variables of a scope are among these
pub data Knows (vs : List Seen) : Scope → Type 0 where
  knows_none : Knows vs []
  knows_one : {v : Visible} {g : Scope} → seen_as v ∈ vs → Knows vs g → Knows vs (v ∷ g)

pub knows_deeper : (vs : List Seen) (g : Scope) → Knows vs g → Knows vs (deeper g)
knows_deeper vs [] knows_none = knows_none
knows_deeper vs (v ∷ g) (knows_one one more) = knows_one one (knows_deeper vs g more)

pub knows_more : (s : Seen) (vs : List Seen) (g : Scope) → Knows vs g → Knows (s ∷ vs) g
knows_more s vs [] knows_none = knows_none
knows_more s vs (v ∷ g) (knows_one one more) = knows_one (later one) (knows_more s vs g more)

known : (vs : List Seen) (g : Scope) (v : Visible) → v ∈ g → Knows vs g → seen_as v ∈ vs
known vs g v first (knows_one one more) = one
known vs g v (later {xs = h} there) (knows_one one more) = known vs h v there more

-- a name that refers to a variable is that of a visible one
pub sees : (vs : List Seen) (g : Scope) (t : Table) (w : Word) (τ : Typ) (k : Kind) → Knows vs g → Refers g t w τ → ((κ : Keys) → τ.shape ≡ Array κ → k ≡ read → ⊥)
    → Sees vs (record { kind = k; of = (t.name_of w.number).what; span = w.span })
sees vs g t w τ k knows r no_array = record {
  variable = seen_as r.variable;
  visible = known vs g r.variable r.visible knows;
  is = sym (ap (λ x. x.what) r.named);
  scalar = λ κ shape is. no_array κ (sym (ap (λ y. y.shape) r.typed) ∙ shape) is;
}

-- steps that are uses of visible variables
pub data Seeing (vs : List Seen) : List Step → Type 0 where
  sees_none : Seeing vs []
  sees_one : {u : Use} {ss : List Step} → Sees vs u → Seeing vs ss → Seeing vs (uses u ∷ ss)

pub seeing_both : (vs : List Seen) (xs ys : List Step) → Seeing vs xs → Seeing vs ys → Seeing vs (xs ++ ys)
seeing_both vs xs ys sees_none others = others
seeing_both vs xs ys (sees_one {ss = ss} one more) others = sees_one one (seeing_both vs ss ys more others)

-- in front of a block
pub behind_uses : (vs : List Seen) (from to : ℕ) (xs ys : List Step) → Seeing vs xs → Scoped vs from (outlined ys) to → Scoped vs from (outlined (xs ++ ys)) to
behind_uses vs from to xs ys sees_none rest = rest
behind_uses vs from to xs ys (sees_one {ss = ss} one more) rest = scoped_use one (behind_uses vs from to ss ys more rest)

-- and with one more step between
pub behind_uses_and : (vs : List Seen) (from to : ℕ) (xs ys : List Step) (s : Step) → Seeing vs xs → Scoped vs from (followed s (outlined ys)) to
    → Scoped vs from (outlined ((xs ++ s ∷ []) ++ ys)) to
behind_uses_and vs from to xs ys s sees_none rest = rest
behind_uses_and vs from to xs ys s (sees_one {ss = ss} one more) rest = scoped_use one (behind_uses_and vs from to ss ys s more rest)

named_is_no_read : named ≡ read → ⊥
named_is_no_read is = absurd (cc)

written_is_no_read : written ≡ read → ⊥
written_is_no_read is = absurd (cc)

-- TARGETS

pub sees_named : (vs : List Seen) (g : Scope) (t : Table) (w : Word) (τ : Typ) → Knows vs g → Refers g t w τ → Seeing vs (use_of t named w ∷ [])
sees_named vs g t w τ knows r = sees_one (sees vs g t w τ named knows r (λ κ shape is. named_is_no_read is)) sees_none

pub sees_written : (vs : List Seen) (g : Scope) (t : Table) (w : Word) (τ : Typ) → Knows vs g → Refers g t w τ → Seeing vs (use_of t written w ∷ [])
sees_written vs g t w τ knows r = sees_one (sees vs g t w τ written knows r (λ κ shape is. written_is_no_read is)) sees_none

pub sees_all_named : (vs : List Seen) (g : Scope) (t : Table) (ws : List Word) (τs : List Typ) → Knows vs g → ReferAll t g ws τs → Seeing vs (map (use_of t named) ws)
sees_all_named vs g t ws τs knows rules.no_name = sees_none
sees_all_named vs g t ws τs knows (rules.one_name {w = w} {ws = us} {τ = τ} {τs = σs} r more) =
    sees_one (sees vs g t w τ named knows r (λ κ shape is. named_is_no_read is)) (sees_all_named vs g t us σs knows more)

-- READS

reading_seen : (vs : List Seen) (t : Table) (w : Word) (h : Shape) → (h ≡ Scalar → Sees vs (record { kind = read; of = (t.name_of w.number).what; span = w.span })) → Seeing vs (reading h t w)
reading_seen vs t w Scalar how = sees_one (how refl) sees_none
reading_seen vs t w (Array κ) how = sees_none

scalar_is_no_array : (κ : Keys) → Scalar ≡ Array κ → ⊥
scalar_is_no_array κ is = absurd (cc)

pub name_seen : (vs : List Seen) (g : Scope) (t : Table) (w : Word) (τ : Typ) → Knows vs g → Refers g t w τ → Seeing vs (name_read t w)
name_seen vs g t w τ knows r =
    reading_seen vs t w (t.shape_of w.number) (λ scalar. sees vs g t w τ read knows r (λ κ shape is. scalar_is_no_array κ (sym scalar ∙ r.shaped ∙ shape)))

pub names_seen : (vs : List Seen) (g : Scope) (t : Table) (ws : List Word) (τs : List Typ) → Knows vs g → ReferAll t g ws τs → Seeing vs (read_names t ws)
names_seen vs g t ws τs knows rules.no_name = sees_none
names_seen vs g t ws τs knows (rules.one_name {w = w} {ws = us} {τ = τ} {τs = σs} r more) =
    seeing_both vs (name_read t w) (read_names t us) (name_seen vs g t w τ knows r) (names_seen vs g t us σs knows more)

mutual
  pub expression_seen : (vs : List Seen) (fs : List Signature) (t : Table) (g : Scope) (e : Expression) (b : Base) → Knows vs g → HasType fs t g e b → Seeing vs (read_in t e)
  expression_seen vs fs t g e b knows rules.of_number = sees_none
  expression_seen vs fs t g e b knows rules.of_text = sees_none
  expression_seen vs fs t g e b knows rules.of_truth = sees_none
  expression_seen vs fs t g e b knows (rules.of_variable {w = w} r) = name_seen vs g t w (one_of b) knows r
  expression_seen vs fs t g e b knows (rules.of_element {i = i} r index) = expression_seen vs fs t g i _ knows index
  expression_seen vs fs t g e b knows (rules.of_prefixed {e = x} p of) = expression_seen vs fs t g x _ knows of
  expression_seen vs fs t g e b knows (rules.of_chain {os = os} {e = x} {es = es} one rest) =
      seeing_both vs (read_in t x) (read_all t es) (expression_seen vs fs t g x _ knows one) (rest_seen vs fs t g os es _ _ knows rest)
  expression_seen vs fs t g e b knows (rules.of_call {es = es} {f = f} calls fit gives) = arguments_seen vs fs t g es f.inputs knows fit
  expression_seen vs fs t g e b knows (rules.of_builtin {es = es} {f = f} calls fit) = builtin_seen vs fs t g f es _ knows fit

  pub rest_seen : (vs : List Seen) (fs : List Signature) (t : Table) (g : Scope) (os : List Operator) (es : Expressions) (b c : Base) → Knows vs g → RestType fs t g os es b c → Seeing vs (read_all t es)
  rest_seen vs fs t g os es b c knows (rules.last_operand {e = x} o one) = seeing_both vs (read_in t x) [] (expression_seen vs fs t g x _ knows one) sees_none
  rest_seen vs fs t g os es b c knows (rules.next_operand {os = ps} {e = x} {es = xs} o one rest) =
      seeing_both vs (read_in t x) (read_all t xs) (expression_seen vs fs t g x _ knows one) (rest_seen vs fs t g ps xs _ _ knows rest)

  pub arguments_seen : (vs : List Seen) (fs : List Signature) (t : Table) (g : Scope) (es : Expressions) (τs : List Typ) → Knows vs g → ArgumentTypes fs t g es τs → Seeing vs (read_all t es)
  arguments_seen vs fs t g es τs knows rules.no_argument = sees_none
  arguments_seen vs fs t g es τs knows (rules.scalar_argument {e = x} {es = xs} {τs = σs} one rest) =
      seeing_both vs (read_in t x) (read_all t xs) (expression_seen vs fs t g x _ knows one) (arguments_seen vs fs t g xs σs knows rest)
  arguments_seen vs fs t g es τs knows (rules.array_argument {w = w} {es = xs} {κ = κ} {b = b} {τs = σs} r rest) =
      seeing_both vs (name_read t w) (read_all t xs) (name_seen vs g t w (many_of κ b) knows r) (arguments_seen vs fs t g xs σs knows rest)

  pub builtin_seen : (vs : List Seen) (fs : List Signature) (t : Table) (g : Scope) (f : Builtin) (es : Expressions) (b : Base) → Knows vs g → BuiltinType fs t g f es b → Seeing vs (read_all t es)
  builtin_seen vs fs t g f es b knows (rules.of_strcat {e = x} {es = xs} all) = all_seen vs fs t g _ _ knows all
  builtin_seen vs fs t g f es b knows (rules.of_fromint {e = x} one) = seeing_both vs (read_in t x) [] (expression_seen vs fs t g x _ knows one) sees_none
  builtin_seen vs fs t g f es b knows (rules.of_toint {e = x} one) = seeing_both vs (read_in t x) [] (expression_seen vs fs t g x _ knows one) sees_none
  builtin_seen vs fs t g f es b knows (rules.of_size {w = w} {κ = κ} {b = c} r) = seeing_both vs (name_read t w) [] (name_seen vs g t w (many_of κ c) knows r) sees_none

  pub all_seen : (vs : List Seen) (fs : List Signature) (t : Table) (g : Scope) (es : Expressions) (b : Base) → Knows vs g → AllHaveType fs t g es b → Seeing vs (read_all t es)
  all_seen vs fs t g es b knows rules.none_left = sees_none
  all_seen vs fs t g es b knows (rules.one_more {e = x} {es = xs} one rest) =
      seeing_both vs (read_in t x) (read_all t xs) (expression_seen vs fs t g x _ knows one) (all_seen vs fs t g xs _ knows rest)

-- RIGHT SIDES, LOOPS, CALLS

pub right_seen : (vs : List Seen) (fs : List Signature) (t : Table) (g : Scope) (r : RightSide) (τ : Typ) → Knows vs g → RightType fs t g r τ → Seeing vs (read_right t r)
right_seen vs fs t g r τ knows (rules.of_scalar {e = x} one) = expression_seen vs fs t g x _ knows one
right_seen vs fs t g r τ knows (rules.of_copy {w = w} {κ = κ} {b = b} one) = name_seen vs g t w (many_of κ b) knows one
right_seen vs fs t g r τ knows (rules.of_list {es = es} all) = all_seen vs fs t g (expressions_of es) _ knows all
right_seen vs fs t g r τ knows (rules.of_array_call {es = es} {f = f} calls fit gives) = arguments_seen vs fs t g es f.inputs knows fit

step_seen : (vs : List Seen) (fs : List Signature) (t : Table) (g : Scope) (o : Option Expression) → Knows vs g → StepType fs t g o → Seeing vs (read_step t o)
step_seen vs fs t g o knows rules.no_step = sees_none
step_seen vs fs t g o knows (rules.a_step {e = x} one) = expression_seen vs fs t g x _ knows one

pub source_seen : (vs : List Seen) (fs : List Signature) (t : Table) (g : Scope) (o : Over) (b c : Base) → Knows vs g → SourceType fs t g o b c → Seeing vs (read_over t o)
source_seen vs fs t g o b c knows (rules.of_elements r) = sees_none
source_seen vs fs t g o b c knows (rules.of_range {low = low} {high = high} {step = step} one two three) =
    seeing_both vs (read_in t low ++ read_in t high) (read_step t step)
    (seeing_both vs (read_in t low) (read_in t high) (expression_seen vs fs t g low _ knows one) (expression_seen vs fs t g high _ knows two)) (step_seen vs fs t g step knows three)

pub call_seen : (vs : List Seen) (fs : List Signature) (t : Table) (g : Scope) (w : Word) (es : List Expression) → Knows vs g → CallTyped fs t g w es → Seeing vs (read_all t (expressions_of es))
call_seen vs fs t g w es knows (rules.function_called {f = f} calls gives fit) = arguments_seen vs fs t g (expressions_of es) f.inputs knows fit
call_seen vs fs t g w es knows (rules.printf_called {es = xs} {ps = ps} calls format fit) = arguments_seen vs fs t g (expressions_of xs) _ knows fit
call_seen vs fs t g w es knows (rules.assert_called {c = c} {m = m} calls one two) =
    seeing_both vs (read_in t c) (read_in t m ++ []) (expression_seen vs fs t g c _ knows one) (seeing_both vs (read_in t m) [] (expression_seen vs fs t g m _ knows two) sees_none)
