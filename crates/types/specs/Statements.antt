-- The check of statements from left to right: each results in the scope after it, or in the first fault.
use Rattle.std.specs.Prelude.{◌+◌, false, List, [], ◌∷◌, length, Option, Some, None, cond, nat_eq}
use Rattle.std.specs.Str.{bytes_eq}
use Rattle.values.specs.declared.format.FormatPiece.{FormatPiece}
use Rattle.values.specs.Formats.{pieces}
use Rattle.lexer.specs.declared.token.Span.{Span}
use Rattle.types.specs.declared.fault.TypeFault.TheVariants.{Declared, Mismatch, WrongCount, BadFormat}
use Rattle.types.specs.declared.typed.Binding.TheVariants.{Local}
use Rattle.types.specs.declared.typed.Callee.TheVariants.{BuiltIn}
use Rattle.types.specs.declared.typed.Builtin.{Builtin}
use Rattle.types.specs.declared.typed.ElementTypes.{ElementTypes}
use Rattle.types.specs.declared.typed.Builtin.TheVariants as Named
use Rattle.language.specs.declared.tree.Base.{Base}
use Rattle.language.specs.declared.tree.Base.TheVariants.{Int, Text, Boolean}
use Rattle.language.specs.declared.tree.Keys.{Keys}
use Rattle.language.specs.declared.tree.Keys.TheVariants.{Numbers, Texts}
use Rattle.language.specs.declared.tree.Shape.{Shape}
use Rattle.language.specs.declared.tree.Shape.TheVariants.{Scalar, Array}
use Rattle.language.specs.Tree.{Word, Node, Expression, expression, Form, number, text, truth, variable, element, call, prefixed, chain, expressions_of, RightSide, value, list, Calling, Over, array, range, Statement, statement, Command, declare, assign, write, assign_all, calls, choice, choice_else, loop, waits, Body, body, Statements, no_statements, and_statement}
use Rattle.language.specs.Scopes.{Typ, one_of, declared_type, Signature}
use Rattle.language.specs.Typing.{wanted}
use Rattle.types.specs.Known.{Around}
use Rattle.types.specs.Outcomes.{refused, got, Check, ◌>>=◌}
use Rattle.types.specs.Names.{refer, fresh, added, builtin_of, called, function_called}
use Rattle.types.specs.Expressions.{has_type, elements_of, first_of, either, whole, expected, elements, arguments, builtin_type}

-- RIGHT SIDES

abbrev pub under_numbers : Keys → Span → Check (Unit {0})
under_numbers Numbers at settled = got tt settled
under_numbers Texts at settled = refused (Mismatch at)

-- an array literal: its target is an array with numbers as keys, and its elements have the element type of the target;
-- with a scalar target their types are not compared
abbrev pub literal_by : Shape → List Signature → Around → Base → List Expression → Node → Check (Unit {0})
literal_by (Array κ) fs g b es nd settled = elements fs g (expressions_of es) (Some b) settled >>= λ u. under_numbers κ nd.first
literal_by Scalar fs g b es nd settled = elements fs g (expressions_of es) None settled >>= λ u s. refused (Mismatch nd.first)

-- a right side of the type of its target
abbrev pub right : List Signature → Around → RightSide → Typ → Check (Unit {0})
right fs g (value e) target settled = whole fs g e settled >>= λ found. has_type found target (first_of e)
right fs g (list nd es) target settled = literal_by target.shape fs g target.base es nd settled

abbrev pub initial : List Signature → Around → Option RightSide → Typ → Check (Unit {0})
initial fs g None target settled = got tt settled
initial fs g (Some r) target settled = right fs g r target settled

-- CALLS

-- the types of the variables that names refer to
abbrev pub refer_all : Around → List Word → Check (List Typ)
refer_all g [] settled = got [] settled
refer_all g (w ∷ ws) settled = refer g w settled >>= λ τ s. refer_all g ws s >>= λ τs. got (τ ∷ τs)

-- a check that outputs have the types of their targets
abbrev pub same_types : List Typ → List Typ → Span → Check (Unit {0})
same_types [] targets at settled = got tt settled
same_types (τ ∷ τs) [] at settled = refused (WrongCount at)
same_types (τ ∷ τs) (σ ∷ σs) at settled = has_type τ σ at settled >>= λ u. same_types τs σs at

-- the only target of a call with one output
abbrev pub only_target : List Typ → Span → Check Typ
only_target [] at settled = refused (WrongCount at)
only_target (τ ∷ []) at settled = got τ settled
only_target (τ ∷ σ ∷ σs) at settled = refused (WrongCount at)

-- a call whose outputs are assigned to variables of these types
abbrev pub several : List Signature → Around → Calling → List Typ → Check (Unit {0})
several fs g c targets settled =
    either (builtin_of c.name.text)
    (λ f. only_target targets c.name.span settled >>= λ target s. called c.name (BuiltIn f) s >>= λ u s. builtin_type fs g f (expressions_of c.arguments) c.name.span s >>= λ b. has_type (one_of b) target c.name.span)
    (function_called fs c.name (length c.arguments) (length targets) settled >>= λ f s. arguments fs g (expressions_of c.arguments) f.inputs c.name.span s >>= λ u. same_types f.outputs targets c.name.span)

-- the types that the conversions of a format take
abbrev pub format_by : Option (List FormatPiece) → Span → Check (List Typ)
format_by None at settled = refused (BadFormat at)
format_by (Some ps) at settled = got (wanted ps) settled

abbrev pub format_form : Form → Span → Check (List Typ)
format_form (text bytes) at settled = format_by (pieces false bytes) at settled
format_form (number z) at settled = refused (BadFormat at)
format_form (truth b) at settled = refused (BadFormat at)
format_form (variable w) at settled = refused (BadFormat at)
format_form (element w i) at settled = refused (BadFormat at)
format_form (call w es) at settled = refused (BadFormat at)
format_form (prefixed p e) at settled = refused (BadFormat at)
format_form (chain os es) at settled = refused (BadFormat at)

abbrev pub conversions : Expression → Check (List Typ)
conversions (expression nd f) = format_form f (record { from = nd.first.from; to = nd.to })

-- the arguments of `printf`: a format, and one for each conversion
abbrev pub print : List Signature → Around → List Expression → Span → Check (Unit {0})
print fs g [] at settled = refused (WrongCount at)
print fs g (e ∷ es) at settled =
    conversions e settled >>= λ τs s. cond (nat_eq (length es) (length τs)) (arguments fs g (expressions_of es) τs at s) (refused (WrongCount at))

-- the arguments of a built-in function that is called as a statement
abbrev pub builtin_statement : Builtin → List Signature → Around → List Expression → Span → Check (Unit {0})
builtin_statement Named.Printf fs g es at settled = print fs g es at settled
builtin_statement Named.Assert fs g es at settled =
    cond (nat_eq (length es) 2) (arguments fs g (expressions_of es) (one_of Boolean ∷ one_of Text ∷ []) at settled) (refused (WrongCount at))
builtin_statement Named.Strcat fs g es at settled = refused (WrongCount at)
builtin_statement Named.FromInt fs g es at settled = refused (WrongCount at)
builtin_statement Named.ToInt fs g es at settled = refused (WrongCount at)
builtin_statement Named.Size fs g es at settled = refused (WrongCount at)

-- a call that is a statement: of a function without outputs, of `printf` or of `assert`
abbrev pub call_alone : List Signature → Around → Calling → Check (Unit {0})
call_alone fs g c settled =
    either (builtin_of c.name.text)
    (λ f. called c.name (BuiltIn f) settled >>= λ u. builtin_statement f fs g c.arguments c.name.span)
    (function_called fs c.name (length c.arguments) 0 settled >>= λ f. arguments fs g (expressions_of c.arguments) f.inputs c.name.span)

-- LOOPS

abbrev pub step_of : List Signature → Around → Option Expression → Check (Unit {0})
step_of fs g None settled = got tt settled
step_of fs g (Some e) settled = expected fs g e Int settled

-- the source of a loop, with the types of its values and keys
abbrev pub source : List Signature → Around → Over → Check ElementTypes
source fs g (array w) settled = refer g w settled >>= λ τ. elements_of τ w.span
source fs g (range low high step) settled =
    expected fs g low Int settled >>= λ u s. expected fs g high Int s >>= λ u s. step_of fs g step s >>= λ u. got (record { value = Int; key = Int })

-- a check that the variables of a loop are not visible and have two names
abbrev pub fresh_key : Around → Word → Option Word → Check (Unit {0})
fresh_key g v None settled = got tt settled
fresh_key g v (Some k) settled = fresh g k settled >>= λ u s. cond (bytes_eq k.text v.text) (refused (Declared k.span)) (got tt s)

abbrev pub fresh_variables : Around → Word → Option Word → Check (Unit {0})
fresh_variables g v k settled = fresh g v settled >>= λ u. fresh_key g v k

-- the same variables, in a block that is nested one level deeper
abbrev pub inside : Around → Around
inside g = record { depth = g.depth + 1; names = g.names }

-- the scope with a variable that is declared in its block
abbrev pub declared : Around → Word → Typ → Around
declared g w τ = added g w (Local w.number) τ

-- the scope of the body of a loop
abbrev pub with_key : Around → Option Word → Base → Around
with_key g None c = g
with_key g (Some k) c = declared g k (one_of c)

abbrev pub loop_scope : Around → Word → Option Word → ElementTypes → Around
loop_scope g v k given = with_key (declared (inside g) v (one_of given.value)) k given.key

-- STATEMENTS

unfoldable mutual
  -- a statement, with the scope after it
  pub stated : List Signature → Around → Statement → Check Around
  stated fs g (statement nd c) settled = commanded fs g c settled

  pub commanded : List Signature → Around → Command → Check Around
  commanded fs g (declare d r) settled =
      fresh g d.name settled >>= λ u s. initial fs (declared g d.name (declared_type d)) r (declared_type d) s >>= λ u. got (declared g d.name (declared_type d))
  commanded fs g (assign w r) settled = refer g w settled >>= λ τ s. right fs g r τ s >>= λ u. got g
  commanded fs g (write w i e) settled =
      (refer g w settled >>= λ τ. elements_of τ w.span) >>= λ given s. expected fs g i given.key s >>= λ u s. expected fs g e given.value s >>= λ u. got g
  commanded fs g (assign_all ws c) settled = refer_all g ws settled >>= λ τs s. several fs g c τs s >>= λ u. got g
  commanded fs g (calls p c) settled = call_alone fs g c settled >>= λ u. got g
  commanded fs g (choice e b) settled = expected fs g e Boolean settled >>= λ u s. enclosed fs (inside g) b s >>= λ u. got g
  commanded fs g (choice_else e b d) settled =
      expected fs g e Boolean settled >>= λ u s. enclosed fs (inside g) b s >>= λ u s. enclosed fs (inside g) d s >>= λ u. got g
  commanded fs g (loop v k o b) settled =
      fresh_variables g v k settled >>= λ u s. source fs g o s >>= λ given s. enclosed fs (loop_scope g v k given) b s >>= λ u. got g
  commanded fs g (waits ws b) settled = refer_all g ws settled >>= λ τs s. enclosed fs g b s >>= λ u. got g

  -- the statements of a block; its variables are not visible after it
  pub enclosed : List Signature → Around → Body → Check (Unit {0})
  enclosed fs g (body from ss) settled = in_order fs g ss settled

  pub in_order : List Signature → Around → Statements → Check (Unit {0})
  in_order fs g no_statements settled = got tt settled
  in_order fs g (and_statement st ss) settled = stated fs g st settled >>= λ h. in_order fs h ss
