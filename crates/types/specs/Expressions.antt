-- Types of expressions, inferred from left to right, or the first fault.
use Rattle.std.specs.Prelude.{ℕ, suc, Bool, true, false, List, [], ◌∷◌, Option, Some, None, cond}
use Rattle.lexer.specs.declared.token.Span.{Span}
use Rattle.types.specs.declared.fault.TypeFault.TheVariants.{Mismatch, WrongCount}
use Rattle.types.specs.declared.typed.Callee.TheVariants.{BuiltIn}
use Rattle.types.specs.declared.typed.Builtin.{Builtin}
use Rattle.types.specs.declared.typed.ElementTypes.{ElementTypes}
use Rattle.types.specs.declared.typed.Builtin.TheVariants as Named
use Rattle.language.specs.declared.tree.Base.{Base}
use Rattle.language.specs.declared.tree.Base.TheVariants.{Int, Text, Boolean}
use Rattle.language.specs.declared.tree.Keys.{Keys}
use Rattle.language.specs.declared.tree.Keys.TheVariants.{Numbers, Texts}
use Rattle.language.specs.declared.tree.Shape.{Shape}
use Rattle.language.specs.declared.tree.Shape.TheVariants.{Scalar, Array}
use Rattle.language.specs.declared.tree.Operator.{Operator}
use Rattle.language.specs.declared.tree.Operator.TheVariants as Sign
use Rattle.language.specs.declared.tree.Prefix.{Prefix}
use Rattle.language.specs.declared.tree.Prefix.TheVariants as Before
use Rattle.language.specs.Tree.{Expression, expression, Form, number, text, truth, variable, element, call, prefixed, chain, Expressions, no_expressions, and_expression}
use Rattle.language.specs.Kinds.{base_of_keys}
use Rattle.language.specs.Scopes.{Typ, one_of, Signature}
use Rattle.types.specs.Known.{Around}
use Rattle.types.specs.Outcomes.{refused, got, Check, ◌>>=◌}
use Rattle.types.specs.Names.{refer, builtin_of, called, function_called}

-- TYPES

abbrev pub same_base : Base → Base → Bool
same_base Int Int = true
same_base Text Text = true
same_base Boolean Boolean = true
same_base b c = false

abbrev pub same_keys : Keys → Keys → Bool
same_keys Numbers Numbers = true
same_keys Texts Texts = true
same_keys κ ι = false

abbrev pub same_shape : Shape → Shape → Bool
same_shape Scalar Scalar = true
same_shape (Array κ) (Array ι) = same_keys κ ι
same_shape s r = false

-- a check that the found type is the wanted one
abbrev pub has_base : Base → Base → Span → Check (Unit {0})
has_base found wanted at settled = cond (same_base found wanted) (got tt settled) (refused (Mismatch at))

abbrev pub has_type : Typ → Typ → Span → Check (Unit {0})
has_type found wanted at settled =
    cond (same_base found.base wanted.base) (cond (same_shape found.shape wanted.shape) (got tt settled) (refused (Mismatch at))) (refused (Mismatch at))

abbrev pub scalar_by : Shape → Base → Span → Check Base
scalar_by Scalar b at settled = got b settled
scalar_by (Array κ) b at settled = refused (Mismatch at)

abbrev pub scalar : Typ → Span → Check Base
scalar τ at = scalar_by τ.shape τ.base at

-- the element and key types of an array
abbrev pub elements_by : Shape → Base → Span → Check ElementTypes
elements_by Scalar b at settled = refused (Mismatch at)
elements_by (Array κ) b at settled = got (record { value = b; key = base_of_keys κ }) settled

abbrev pub elements_of : Typ → Span → Check ElementTypes
elements_of τ at = elements_by τ.shape τ.base at

-- the result type of an operator on two operands of one type
abbrev pub number_only : Base → Base → Option Base
number_only c Int = Some c
number_only c b = None

abbrev pub truth_only : Base → Option Base
truth_only Boolean = Some Boolean
truth_only b = None

abbrev pub sum_of : Base → Option Base
sum_of Int = Some Int
sum_of Text = Some Text
sum_of Boolean = None

abbrev pub gives : Operator → Base → Option Base
gives Sign.Or b = truth_only b
gives Sign.And b = truth_only b
gives Sign.Equal b = Some Boolean
gives Sign.NotEqual b = Some Boolean
gives Sign.Less b = number_only Boolean b
gives Sign.AtMost b = number_only Boolean b
gives Sign.Greater b = number_only Boolean b
gives Sign.AtLeast b = number_only Boolean b
gives Sign.Plus b = sum_of b
gives Sign.Minus b = number_only Int b
gives Sign.Times b = number_only Int b
gives Sign.Quotient b = number_only Int b
gives Sign.Remainder b = number_only Int b

abbrev pub base_of : Prefix → Base
base_of Before.Not = Boolean
base_of Before.Negative = Int

abbrev pub given_or : Option Base → Span → Check Base
given_or None at settled = refused (Mismatch at)
given_or (Some c) at settled = got c settled

-- the result type of an operator; one that does not accept its operands is refused at the preceding operand
abbrev pub given_by : Operator → Base → Span → Check Base
given_by o b before = given_or (gives o b) before

-- a check that the operator also has the wanted result type
abbrev pub takes : Operator → Base → Base → Span → Check (Unit {0})
takes o b c before settled = given_by o b before settled >>= λ d. has_base d c before

abbrev pub first_given : List Operator → Base → Span → Check Base
first_given [] b at settled = refused (Mismatch at)
first_given (o ∷ os) b at settled = given_by o b at settled

-- PARTS OF EXPRESSIONS

abbrev pub first_of : Expression → Span
first_of (expression nd f) = nd.first

abbrev pub count : Expressions → ℕ
count no_expressions = 0
count (and_expression e es) = suc (count es)

-- a scalar of the wanted type if there is one; else any type, also an array's
abbrev pub has_wanted : Typ → Option Base → Span → Check (Unit {0})
has_wanted τ None at settled = got tt settled
has_wanted τ (Some b) at settled = scalar τ at settled >>= λ c. has_base c b at

-- true if an expression is the name of a variable
abbrev pub named_form : Form → Bool
named_form (variable w) = true
named_form f = false

abbrev pub named : Expression → Bool
named (expression nd f) = named_form f

-- the element and key types of an array that is given by its name
abbrev pub array_name : Typ → Expression → Check ElementTypes
array_name τ e settled = cond (named e) (elements_of τ (first_of e) settled) (refused (Mismatch (first_of e)))

-- a check that an argument fits an input: for an array input it is the name of an array
abbrev pub fits_by : Shape → Typ → Typ → Expression → Check (Unit {0})
fits_by Scalar τ σ e settled = scalar τ (first_of e) settled >>= λ c. has_base c σ.base (first_of e)
fits_by (Array κ) τ σ e settled = array_name τ e settled >>= λ given. has_type τ σ (first_of e)

abbrev pub fits : Typ → Typ → Expression → Check (Unit {0})
fits found input e = fits_by input.shape found input e

-- the result type of a built-in function of one argument
abbrev pub of_one : Builtin → Typ → Expression → Span → Check Base
of_one Named.FromInt τ e at settled = (scalar τ (first_of e) settled >>= λ c. has_base c Int (first_of e)) >>= λ u. got Text
of_one Named.ToInt τ e at settled = (scalar τ (first_of e) settled >>= λ c. has_base c Text (first_of e)) >>= λ u. got Int
of_one Named.Size τ e at settled = array_name τ e settled >>= λ given. got Int
of_one Named.Strcat τ e at settled = refused (WrongCount at)
of_one Named.Printf τ e at settled = refused (WrongCount at)
of_one Named.Assert τ e at settled = refused (WrongCount at)

-- a check that there is at least one argument
abbrev pub some_given : Expressions → Span → Check (Unit {0})
some_given no_expressions at settled = refused (WrongCount at)
some_given (and_expression e es) at settled = got tt settled

-- the result type of a built-in function, by the checks of its arguments as texts and as one argument
abbrev pub builtin_by : Builtin → Expressions → Check (Unit {0}) → Check Base → Span → Check Base
builtin_by Named.Strcat es texts only at settled = (some_given es at settled >>= λ u. texts) >>= λ u. got Text
builtin_by Named.FromInt es texts only at settled = only settled
builtin_by Named.ToInt es texts only at settled = only settled
builtin_by Named.Size es texts only at settled = only settled
builtin_by Named.Printf es texts only at settled = refused (WrongCount at)
builtin_by Named.Assert es texts only at settled = refused (WrongCount at)

-- the type of the only output of a function
abbrev pub output_of : List Typ → Span → Check Typ
output_of [] at settled = refused (WrongCount at)
output_of (τ ∷ τs) at settled = got τ settled

-- one result for a built-in function, another for any other
abbrev pub either : {A : Type 0} → Option Builtin → (Builtin → A) → A → A
either None f other = other
either (Some b) f other = f b

-- EXPRESSIONS

unfoldable mutual
  -- the type of an expression that may be the name of an array or a call whose value is an array
  pub whole : List Signature → Around → Expression → Check Typ
  whole fs g (expression nd f) settled = whole_form fs g f nd.first settled

  -- the type of a scalar expression
  pub typed : List Signature → Around → Expression → Check Base
  typed fs g (expression nd f) settled = whole_form fs g f nd.first settled >>= λ τ. scalar τ nd.first

  -- a check that an expression has the wanted type
  pub expected : List Signature → Around → Expression → Base → Check (Unit {0})
  expected fs g (expression nd f) b settled = (whole_form fs g f nd.first settled >>= λ τ. scalar τ nd.first) >>= λ c. has_base c b nd.first

  pub whole_form : List Signature → Around → Form → Span → Check Typ
  whole_form fs g (number z) at settled = got (one_of Int) settled
  whole_form fs g (text bytes) at settled = got (one_of Text) settled
  whole_form fs g (truth b) at settled = got (one_of Boolean) settled
  whole_form fs g (variable w) at settled = refer g w settled
  whole_form fs g (element w i) at settled =
      (refer g w settled >>= λ τ. elements_of τ w.span) >>= λ given s. expected fs g i given.key s >>= λ u. got (one_of given.value)
  whole_form fs g (prefixed p e) at settled = expected fs g e (base_of p) settled >>= λ u. got (one_of (base_of p))
  whole_form fs g (chain os es) at settled = chained fs g es os at settled >>= λ b. got (one_of b)
  whole_form fs g (call w es) at settled =
      either (builtin_of w.text)
      (λ f. (called w (BuiltIn f) settled >>= λ u. builtin_by f es (elements fs g es (Some Text)) (only fs g es f w.span) w.span) >>= λ b. got (one_of b))
      (function_called fs w (count es) 1 settled >>= λ f s. arguments fs g es f.inputs w.span s >>= λ u. output_of f.outputs w.span)

  -- the type of a chain, by its operands and operators
  pub chained : List Signature → Around → Expressions → List Operator → Span → Check Base
  chained fs g no_expressions os at settled = refused (Mismatch at)
  chained fs g (and_expression e es) os at settled =
      typed fs g e settled >>= λ b s. first_given os b (first_of e) s >>= λ c s. further fs g es os b c (first_of e) s >>= λ u. got c

  -- the operands after the first one, each with its preceding operator
  pub further : List Signature → Around → Expressions → List Operator → Base → Base → Span → Check (Unit {0})
  further fs g no_expressions [] b c before settled = got tt settled
  further fs g no_expressions (o ∷ os) b c before settled = refused (Mismatch before)
  further fs g (and_expression e es) [] b c before settled = refused (Mismatch before)
  further fs g (and_expression e es) (o ∷ os) b c before settled =
      takes o b c before settled >>= λ u s. expected fs g e b s >>= λ u. further fs g es os b c (first_of e)

  -- expressions of the wanted type, or of any type
  pub elements : List Signature → Around → Expressions → Option Base → Check (Unit {0})
  elements fs g no_expressions b settled = got tt settled
  elements fs g (and_expression e es) b settled = (whole fs g e settled >>= λ τ. has_wanted τ b (first_of e)) >>= λ u. elements fs g es b

  -- arguments, each of the type of its input
  pub arguments : List Signature → Around → Expressions → List Typ → Span → Check (Unit {0})
  arguments fs g no_expressions τs at settled = got tt settled
  arguments fs g (and_expression e es) [] at settled = refused (WrongCount at)
  arguments fs g (and_expression e es) (τ ∷ τs) at settled = (whole fs g e settled >>= λ found. fits found τ e) >>= λ u. arguments fs g es τs at

  -- the only argument of a built-in function
  pub only : List Signature → Around → Expressions → Builtin → Span → Check Base
  only fs g no_expressions f at settled = refused (WrongCount at)
  only fs g (and_expression e no_expressions) f at settled = whole fs g e settled >>= λ τ. of_one f τ e at
  only fs g (and_expression e (and_expression d es)) f at settled = refused (WrongCount at)

-- the result type of a built-in function that is called for its value
abbrev pub builtin_type : List Signature → Around → Builtin → Expressions → Span → Check Base
builtin_type fs g f es at = builtin_by f es (elements fs g es (Some Text)) (only fs g es f at) at
