-- Occurrences in the statements of a script, in the order of the text: of variables, of called functions, and of forms that are mistakes.
use Rattle.std.specs.Prelude.{ℕ, ◌+◌, min, Bool, false, List, [], ◌∷◌, ◌++◌, map, Option, Some, None, if◌then◌else◌, nat_eq}
use Rattle.lexer.specs.declared.token.Span.{Span}
use Rattle.language.specs.declared.tree.Operator.{Operator}
use Rattle.language.specs.declared.tree.Shape.{Shape}
use Rattle.language.specs.declared.tree.Shape.TheVariants.{Scalar, Array}
use Rattle.language.specs.Tree.{Word, Declaration, Expression, expression, Form, number, text, truth, variable, element, call, prefixed, chain, Expressions, no_expressions, and_expression, expressions_of, RightSide, value, list, Calling, Over, array, range, Statement, statement, Command, declare, assign, write, assign_all, calls, choice, choice_else, loop, waits, Body, body, Statements, no_statements, and_statement, Part, Tree, import, function, single}
use Rattle.explain_warnings.specs.declared.name_use.NameUseKind.{NameUseKind}
use Rattle.explain_warnings.specs.declared.name_use.NameUseKind.TheVariants.{Declared, DeclaredArray, Read, ReadElement, Written, Called, EmptyRange, ExtraLine, EmptyBlock, StepBelowOne, AlwaysHolds, WaitsForItself, IdleGuard, AlwaysFails}
use Rattle.explain_warnings.specs.declared.name_use.NameUse.{NameUse}
use Rattle.explain_warnings.specs.Failures.{form_overflows, is_zero_divisor, is_no_number, never_holds}
use Rattle.explain_warnings.specs.Guards.{guards_nothing}
use Rattle.explain_warnings.specs.Lists.{list_mistakes}
pub use Rattle.explain_warnings.specs.Occurrences.{name_use, at_expression, noted}
use Rattle.explain_warnings.specs.Forms.{is_empty, below_one, is_extra_line, always_holds, is_without, right_needs}

-- EXPRESSIONS

-- the mistakes of an expression by its own form
abbrev pub own_mistakes : Expression → List NameUse
own_mistakes (expression nd f) =
    noted (guards_nothing f) (at_expression IdleGuard (expression nd f)) ++ noted (form_overflows f) (at_expression AlwaysFails (expression nd f))

abbrev pub first_failures : (called : List ℕ) → Expression → List NameUse
first_failures called e = noted (is_no_number called e) (at_expression AlwaysFails e)

-- a call in an expression that fails by its first argument
abbrev pub argument_failures : (called : List ℕ) → Expressions → List NameUse
argument_failures called no_expressions = []
argument_failures called (and_expression e es) = first_failures called e

abbrev mutual
  pub reads_of : Expression → List NameUse
  reads_of (expression nd f) = own_mistakes (expression nd f) ++ form_reads f

  pub form_reads : Form → List NameUse
  form_reads (number z) = []
  form_reads (text bytes) = []
  form_reads (truth b) = []
  form_reads (variable w) = name_use Read w ∷ []
  form_reads (element w i) = name_use Read w ∷ name_use ReadElement w ∷ reads_of i
  form_reads (call w es) = (name_use Called w ∷ argument_failures w.text es) ++ all_reads es
  form_reads (prefixed p e) = reads_of e
  form_reads (chain os es) = operand_reads os 0 es

  pub all_reads : Expressions → List NameUse
  all_reads no_expressions = []
  all_reads (and_expression e es) = reads_of e ++ all_reads es

  -- the operands of a chain from place i on, each divisor that is 0 before its reads
  pub operand_reads : List Operator → (i : ℕ) → Expressions → List NameUse
  operand_reads os i no_expressions = []
  operand_reads os i (and_expression e es) = noted (is_zero_divisor os i e) (at_expression AlwaysFails e) ++ (reads_of e ++ operand_reads os (i + 1) es)

-- STATEMENTS

abbrev pub right_reads : RightSide → List NameUse
right_reads (value e) = reads_of e
right_reads (list nd es) = all_reads (expressions_of es)

abbrev pub calling_reads : Calling → List NameUse
calling_reads c = name_use Called c.name ∷ all_reads (expressions_of c.arguments)

-- the mistakes of a call by its first argument
abbrev pub first_mistakes : (called : List ℕ) → Expression → List NameUse
first_mistakes called e = noted (is_extra_line called e) (at_expression ExtraLine e)
    ++ (noted (always_holds called e) (at_expression AlwaysHolds e) ++ noted (never_holds called e) (at_expression AlwaysFails e))

abbrev pub argument_mistakes : (called : List ℕ) → List Expression → List NameUse
argument_mistakes called [] = []
argument_mistakes called (e ∷ es) = first_mistakes called e

-- a call that is a statement
abbrev pub call_mentions : Calling → List NameUse
call_mentions c = argument_mistakes c.name.text c.arguments ++ calling_reads c

abbrev pub step_reads : Option Expression → List NameUse
step_reads None = []
step_reads (Some e) = noted (below_one e) (at_expression StepBelowOne e) ++ reads_of e

-- a name that begins with `_` is that of a variable that is unused on purpose
abbrev pub is_spared : List ℕ → Bool
is_spared [] = false
is_spared (c ∷ cs) = nat_eq c 95

abbrev pub shape_kind : Shape → NameUseKind
shape_kind Scalar = Declared
shape_kind (Array k) = DeclaredArray

-- an array without a value is told apart, since its elements can be written
abbrev pub declared_kind : Declaration → Option RightSide → NameUseKind
declared_kind d None = shape_kind d.shape
declared_kind d (Some r) = Declared

abbrev pub declared : NameUseKind → Word → List NameUse
declared k w = if is_spared w.text then [] else name_use k w ∷ []

-- the right side of an assignment to this name
abbrev pub assigned_reads : Word → RightSide → List NameUse
assigned_reads w r = noted (right_needs w.text r) (name_use WaitsForItself w) ++ right_reads r

abbrev pub initial_reads : Word → Option RightSide → List NameUse
initial_reads w None = []
initial_reads w (Some r) = assigned_reads w r

abbrev pub emptiness : (low high : Expression) → Option Expression → List NameUse
emptiness low high step = noted (is_empty low high step) (at_expression EmptyRange low)

abbrev pub over_mentions : Over → List NameUse
over_mentions (array w) = name_use Read w ∷ []
over_mentions (range low high step) = emptiness low high step ++ (reads_of low ++ (reads_of high ++ step_reads step))

-- the place of one byte
abbrev pub byte_at : ℕ → Span
byte_at from = record { from = from; to = min (from + 1) 18446744073709551615 }

-- a block without a statement, at its brace, and the mistakes of its statements as a whole
abbrev pub block_mistakes : Body → List NameUse
block_mistakes (body from ss) = noted (is_without ss) (record { kind = EmptyBlock; number = 0; at = byte_at from }) ++ list_mistakes ss

abbrev mutual
  pub mentions_in : Statement → List NameUse
  mentions_in (statement nd c) = command_mentions c

  pub command_mentions : Command → List NameUse
  command_mentions (declare d r) = declared (declared_kind d r) d.name ++ initial_reads d.name r
  command_mentions (assign w r) = name_use Written w ∷ assigned_reads w r
  command_mentions (write w i e) = name_use Written w ∷ (reads_of i ++ reads_of e)
  command_mentions (assign_all ws c) = map (name_use Written) ws ++ calling_reads c
  command_mentions (calls p c) = call_mentions c
  command_mentions (choice e b) = reads_of e ++ body_mentions b
  command_mentions (choice_else e b d) = reads_of e ++ (body_mentions b ++ body_mentions d)
  command_mentions (loop v k o b) = over_mentions o ++ body_mentions b
  command_mentions (waits ws b) = map (name_use Read) ws ++ body_mentions b

  pub body_mentions : Body → List NameUse
  body_mentions (body from ss) = block_mistakes (body from ss) ++ all_mentions ss

  pub all_mentions : Statements → List NameUse
  all_mentions no_statements = []
  all_mentions (and_statement s ss) = mentions_in s ++ all_mentions ss

-- SCRIPTS

-- a function may be without a statement
abbrev pub function_mentions : Body → List NameUse
function_mentions (body from ss) = list_mistakes ss ++ all_mentions ss

-- the occurrences in all statements, including those in functions
abbrev pub part_mentions : Part → List NameUse
part_mentions (import sp) = []
part_mentions (function f) = function_mentions f.body
part_mentions (single s) = mentions_in s

abbrev pub tree_mentions : Tree → List NameUse
tree_mentions [] = []
tree_mentions (p ∷ ps) = part_mentions p ++ tree_mentions ps
