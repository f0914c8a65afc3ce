-- The typing judgement, which also determines the table of names. States docs/LANGUAGE.md: Types.
use Rattle.std.specs.Prelude.{◌≡◌, ℕ, suc, ℤ, false, Bool, List, [], ◌∷◌, Option, Some, None}
use Rattle.values.specs.declared.format.FormatPiece.{FormatPiece}
use Rattle.values.specs.Formats.{pieces}
use Rattle.lexer.specs.declared.token.Span.{Span}
use Rattle.language.specs.declared.tree.Base.{Base}
use Rattle.language.specs.declared.tree.Base.TheVariants.{Int, Text, Boolean}
use Rattle.language.specs.declared.tree.Operator.{Operator}
use Rattle.language.specs.declared.tree.Keys.{Keys}
use Rattle.language.specs.declared.tree.Keys.TheVariants.{Numbers}
use Rattle.language.specs.declared.tree.Prefix.{Prefix}
use Rattle.language.specs.Kinds.{base_of_keys}
use Rattle.language.specs.Tree.{Word, Node, Declaration, Expression, expression, number, text, truth, variable, element, call, prefixed, chain, Expressions, no_expressions, and_expression, expressions_of, RightSide, value, list, Calling, Over, array, range, Statement, statement, declare, assign, write, assign_all, calls, choice, choice_else, loop, waits, Body, body, Statements, no_statements, and_statement, Composite, Tree, import, function, single}
use Rattle.language.specs.Core.{Owned, input, output}
use Rattle.language.specs.Table.{Table, Builtin, strcat, fromint, toint, size, printf, assert}
use Rattle.language.specs.Members.{◌∈◌}
use Rattle.language.specs.Scopes.{Typ, one_of, many_of, declared_type, Scope, deeper, own, IsVisible, Signature, signatures, Refers, Calls, CallsBuiltin, IsBuiltinName}

-- EXPRESSIONS

-- a binary operator, the type of its operands, and the type of its result
pub data Operates : Operator → Base → Base → Type 0 where
  sum_of_numbers : Operates Operator.Plus Int Int
  sum_of_texts : Operates Operator.Plus Text Text
  difference : Operates Operator.Minus Int Int
  product : Operates Operator.Times Int Int
  quotient : Operates Operator.Quotient Int Int
  remainder : Operates Operator.Remainder Int Int
  less : Operates Operator.Less Int Boolean
  at_most : Operates Operator.AtMost Int Boolean
  greater : Operates Operator.Greater Int Boolean
  at_least : Operates Operator.AtLeast Int Boolean
  equal : (b : Base) → Operates Operator.Equal b Boolean
  unequal : (b : Base) → Operates Operator.NotEqual b Boolean
  conjunction : Operates Operator.And Boolean Boolean
  disjunction : Operates Operator.Or Boolean Boolean

-- a prefix operator and the type of its operand
pub data Prefixes : Prefix → Base → Type 0 where
  negative : Prefixes Prefix.Negative Int
  inverted : Prefixes Prefix.Not Boolean

mutual
  -- an expression has a scalar type (docs/LANGUAGE.md, Types)
  pub data HasType (fs : List Signature) (t : Table) (g : Scope) : Expression → Base → Type 0 where
    of_number : {nd : Node} {z : ℤ} → HasType fs t g (expression nd (number z)) Int
    of_text : {nd : Node} {bytes : List ℕ} → HasType fs t g (expression nd (text bytes)) Text
    of_truth : {nd : Node} {b : Bool} → HasType fs t g (expression nd (truth b)) Boolean
    of_variable : {nd : Node} {w : Word} {b : Base} → Refers g t w (one_of b) → HasType fs t g (expression nd (variable w)) b
    of_element : {nd : Node} {w : Word} {i : Expression} {κ : Keys} {b : Base} → Refers g t w (many_of κ b) → HasType fs t g i (base_of_keys κ)
        → HasType fs t g (expression nd (element w i)) b
    of_prefixed : {nd : Node} {p : Prefix} {e : Expression} {b : Base} → Prefixes p b → HasType fs t g e b
        → HasType fs t g (expression nd (prefixed p e)) b
    of_chain : {nd : Node} {os : List Operator} {e : Expression} {es : Expressions} {b c : Base} → HasType fs t g e b → RestType fs t g os es b c
        → HasType fs t g (expression nd (chain os (and_expression e es))) c
    of_call : {nd : Node} {w : Word} {es : Expressions} {f : Signature} {b : Base} → Calls fs t w f → ArgumentTypes fs t g es f.inputs
        → f.outputs ≡ one_of b ∷ [] → HasType fs t g (expression nd (call w es)) b
    of_builtin : {nd : Node} {w : Word} {es : Expressions} {f : Builtin} {b : Base} → CallsBuiltin t w f → BuiltinType fs t g f es b
        → HasType fs t g (expression nd (call w es)) b

  -- the operators and further operands of a chain: all operands have one type, and each operator results in the other
  pub data RestType (fs : List Signature) (t : Table) (g : Scope) : List Operator → Expressions → Base → Base → Type 0 where
    last_operand : {o : Operator} {e : Expression} {b c : Base} → Operates o b c → HasType fs t g e b
        → RestType fs t g (o ∷ []) (and_expression e no_expressions) b c
    next_operand : {o : Operator} {os : List Operator} {e : Expression} {es : Expressions} {b c : Base} → Operates o b c → HasType fs t g e b
        → RestType fs t g os es b c → RestType fs t g (o ∷ os) (and_expression e es) b c

  -- arguments fit the inputs: an array's name for an array
  pub data ArgumentTypes (fs : List Signature) (t : Table) (g : Scope) : Expressions → List Typ → Type 0 where
    no_argument : ArgumentTypes fs t g no_expressions []
    scalar_argument : {e : Expression} {es : Expressions} {b : Base} {τs : List Typ} → HasType fs t g e b → ArgumentTypes fs t g es τs
        → ArgumentTypes fs t g (and_expression e es) (one_of b ∷ τs)
    array_argument : {nd : Node} {w : Word} {es : Expressions} {κ : Keys} {b : Base} {τs : List Typ} → Refers g t w (many_of κ b) → ArgumentTypes fs t g es τs
        → ArgumentTypes fs t g (and_expression (expression nd (variable w)) es) (many_of κ b ∷ τs)

  -- the built-in functions that are expressions
  pub data BuiltinType (fs : List Signature) (t : Table) (g : Scope) : Builtin → Expressions → Base → Type 0 where
    of_strcat : {e : Expression} {es : Expressions} → AllHaveType fs t g (and_expression e es) Text
        → BuiltinType fs t g strcat (and_expression e es) Text
    of_fromint : {e : Expression} → HasType fs t g e Int → BuiltinType fs t g fromint (and_expression e no_expressions) Text
    of_toint : {e : Expression} → HasType fs t g e Text → BuiltinType fs t g toint (and_expression e no_expressions) Int
    of_size : {nd : Node} {w : Word} {κ : Keys} {b : Base} → Refers g t w (many_of κ b)
        → BuiltinType fs t g size (and_expression (expression nd (variable w)) no_expressions) Int

  -- all expressions have one type
  pub data AllHaveType (fs : List Signature) (t : Table) (g : Scope) : Expressions → Base → Type 0 where
    none_left : {b : Base} → AllHaveType fs t g no_expressions b
    one_more : {e : Expression} {es : Expressions} {b : Base} → HasType fs t g e b → AllHaveType fs t g es b
        → AllHaveType fs t g (and_expression e es) b

-- the types that the conversions of a format require
abbrev pub wanted : List FormatPiece → List Typ
wanted [] = []
wanted (FormatPiece.Byte c ∷ ps) = wanted ps
wanted (FormatPiece.Number ∷ ps) = one_of Int ∷ wanted ps
wanted (FormatPiece.Text ∷ ps) = one_of Text ∷ wanted ps

-- STATEMENTS

-- a right side has a type
pub data RightType (fs : List Signature) (t : Table) (g : Scope) : RightSide → Typ → Type 0 where
  of_scalar : {e : Expression} {b : Base} → HasType fs t g e b → RightType fs t g (value e) (one_of b)
  of_copy : {nd : Node} {w : Word} {κ : Keys} {b : Base} → Refers g t w (many_of κ b) → RightType fs t g (value (expression nd (variable w))) (many_of κ b)
  of_list : {nd : Node} {es : List Expression} {b : Base} → AllHaveType fs t g (expressions_of es) b → RightType fs t g (list nd es) (many_of Numbers b)
  of_array_call : {nd : Node} {w : Word} {es : Expressions} {f : Signature} {κ : Keys} {b : Base} → Calls fs t w f → ArgumentTypes fs t g es f.inputs
      → f.outputs ≡ many_of κ b ∷ [] → RightType fs t g (value (expression nd (call w es))) (many_of κ b)

-- names refer to variables of these types
pub data ReferAll (t : Table) (g : Scope) : List Word → List Typ → Type 0 where
  no_name : ReferAll t g [] []
  one_name : {w : Word} {ws : List Word} {τ : Typ} {τs : List Typ} → Refers g t w τ → ReferAll t g ws τs → ReferAll t g (w ∷ ws) (τ ∷ τs)

-- the scope with one more variable, whose name was not visible
pub data Declares : Scope → Word → Typ → Scope → Type 0 where
  fresh : {g : Scope} {w : Word} {τ : Typ} → ¬ IsVisible g w.text → Declares g w τ (own w τ ∷ g)

-- the scope of a loop's body: its value, and its key if it has one, of these types
pub data LoopScope : Scope → Word → Base → Option Word → Base → Scope → Type 0 where
  value_only : {g h : Scope} {v : Word} {b c : Base} → Declares (deeper g) v (one_of b) h → LoopScope g v b None c h
  with_key : {g h i : Scope} {v k : Word} {b c : Base} → Declares (deeper g) v (one_of b) h → Declares h k (one_of c) i → LoopScope g v b (Some k) c i

-- a missing step has the type that a step needs
pub data StepType (fs : List Signature) (t : Table) (g : Scope) : Option Expression → Type 0 where
  no_step : StepType fs t g None
  a_step : {e : Expression} → HasType fs t g e Int → StepType fs t g (Some e)

-- the source of a loop has values of a type, under keys of a type
pub data SourceType (fs : List Signature) (t : Table) (g : Scope) : Over → Base → Base → Type 0 where
  of_elements : {w : Word} {κ : Keys} {b : Base} → Refers g t w (many_of κ b) → SourceType fs t g (array w) b (base_of_keys κ)
  of_range : {low high : Expression} {step : Option Expression} → HasType fs t g low Int → HasType fs t g high Int → StepType fs t g step
      → SourceType fs t g (range low high step) Int Int

-- a call that is a statement: of a function without outputs, of printf with a format, or of assert
pub data CallTyped (fs : List Signature) (t : Table) (g : Scope) : Word → List Expression → Type 0 where
  function_called : {w : Word} {es : List Expression} {f : Signature} → Calls fs t w f → f.outputs ≡ []
      → ArgumentTypes fs t g (expressions_of es) f.inputs → CallTyped fs t g w es
  printf_called : {w : Word} {nd : Node} {bytes : List ℕ} {es : List Expression} {ps : List FormatPiece} → CallsBuiltin t w printf
      → pieces false bytes ≡ Some ps → ArgumentTypes fs t g (expressions_of es) (wanted ps)
      → CallTyped fs t g w (expression nd (text bytes) ∷ es)
  assert_called : {w : Word} {c m : Expression} → CallsBuiltin t w assert → HasType fs t g c Boolean → HasType fs t g m Text
      → CallTyped fs t g w (c ∷ m ∷ [])

mutual
  -- a statement is well typed, and determines the scope of the following statements (docs/LANGUAGE.md, Types)
  pub data StatementTyped (fs : List Signature) (t : Table) : Scope → Statement → Scope → Type 0 where
    declaration : {g h : Scope} {nd : Node} {d : Declaration} → Declares g d.name (declared_type d) h
        → StatementTyped fs t g (statement nd (declare d None)) h
    definition : {g h : Scope} {nd : Node} {d : Declaration} {r : RightSide} → Declares g d.name (declared_type d) h
        → RightType fs t h r (declared_type d) → StatementTyped fs t g (statement nd (declare d (Some r))) h
    assignment : {g : Scope} {nd : Node} {w : Word} {r : RightSide} {τ : Typ} → Refers g t w τ → RightType fs t g r τ
        → StatementTyped fs t g (statement nd (assign w r)) g
    element_write : {g : Scope} {nd : Node} {w : Word} {i e : Expression} {κ : Keys} {b : Base} → Refers g t w (many_of κ b)
        → HasType fs t g i (base_of_keys κ) → HasType fs t g e b → StatementTyped fs t g (statement nd (write w i e)) g
    several : {g : Scope} {nd : Node} {ws : List Word} {c : Calling} {f : Signature} → ReferAll t g ws f.outputs → Calls fs t c.name f
        → ArgumentTypes fs t g (expressions_of c.arguments) f.inputs → StatementTyped fs t g (statement nd (assign_all ws c)) g
    several_builtin : {g : Scope} {nd : Node} {w : Word} {c : Calling} {f : Builtin} {b : Base} → Refers g t w (one_of b) → CallsBuiltin t c.name f
        → BuiltinType fs t g f (expressions_of c.arguments) b → StatementTyped fs t g (statement nd (assign_all (w ∷ []) c)) g
    call_statement : {g : Scope} {nd : Node} {p : ℤ} {c : Calling} → CallTyped fs t g c.name c.arguments
        → StatementTyped fs t g (statement nd (calls p c)) g
    if_statement : {g : Scope} {nd : Node} {c : Expression} {b : Body} → HasType fs t g c Boolean → BodyTyped fs t (deeper g) b
        → StatementTyped fs t g (statement nd (choice c b)) g
    if_else_statement : {g : Scope} {nd : Node} {c : Expression} {b d : Body} → HasType fs t g c Boolean → BodyTyped fs t (deeper g) b
        → BodyTyped fs t (deeper g) d → StatementTyped fs t g (statement nd (choice_else c b d)) g
    loop_statement : {g h : Scope} {nd : Node} {v : Word} {k : Option Word} {o : Over} {b : Body} {β γ : Base}
        → SourceType fs t g o β γ → LoopScope g v β k γ h → BodyTyped fs t h b → StatementTyped fs t g (statement nd (loop v k o b)) g
    wait_statement : {g : Scope} {nd : Node} {ws : List Word} {τs : List Typ} {b : Body} → ReferAll t g ws τs → BodyTyped fs t g b
        → StatementTyped fs t g (statement nd (waits ws b)) g

  pub data StatementsTyped (fs : List Signature) (t : Table) : Scope → Statements → Type 0 where
    no_more_statements : {g : Scope} → StatementsTyped fs t g no_statements
    next_statement : {g h : Scope} {s : Statement} {ss : Statements} → StatementTyped fs t g s h → StatementsTyped fs t h ss
        → StatementsTyped fs t g (and_statement s ss)

  pub data BodyTyped (fs : List Signature) (t : Table) : Scope → Body → Type 0 where
    in_braces : {g : Scope} {from : ℕ} {ss : Statements} → StatementsTyped fs t g ss → BodyTyped fs t g (body from ss)

-- SCRIPTS

-- the scope with the outputs or inputs of a function, each by its index
pub data Parameters (owned : ℕ → Owned) : Scope → ℕ → List Declaration → Scope → Type 0 where
  no_more : {g : Scope} {i : ℕ} → Parameters owned g i [] g
  one_parameter : {g h : Scope} {i : ℕ} {d : Declaration} {ds : List Declaration} → ¬ IsVisible g d.name.text
      → Parameters owned (record { text = d.name.text; refers_to = record { up = 0; what = owned i }; type = declared_type d } ∷ g) (suc i) ds h
      → Parameters owned g i (d ∷ ds) h

-- a function's name differs from those of the functions above it and of the built-in ones; its outputs and inputs are
-- visible in its body
pub data FunctionTyped (fs : List Signature) (t : Table) (names : List (List ℕ)) (f : Composite) : Type 0 where
  function_typed : {g h : Scope} → ¬ (f.name.text ∈ names) → ¬ IsBuiltinName f.name.text
      → Parameters output [] 0 f.outputs g → Parameters input g 0 f.inputs h → BodyTyped fs t h f.body → FunctionTyped fs t names f

-- the parts one after another, with the names of the functions above and the scope of the script's block
pub data PartsTyped (fs : List Signature) (t : Table) : List (List ℕ) → Scope → Tree → Type 0 where
  no_parts : {names : List (List ℕ)} {g : Scope} → PartsTyped fs t names g []
  an_import : {names : List (List ℕ)} {g : Scope} {sp : Span} {ps : Tree} → PartsTyped fs t names g ps → PartsTyped fs t names g (import sp ∷ ps)
  a_function : {names : List (List ℕ)} {g : Scope} {f : Composite} {ps : Tree} → FunctionTyped fs t names f
      → PartsTyped fs t (f.name.text ∷ names) g ps → PartsTyped fs t names g (function f ∷ ps)
  a_statement : {names : List (List ℕ)} {g h : Scope} {s : Statement} {ps : Tree} → StatementTyped fs t g s h → PartsTyped fs t names h ps
      → PartsTyped fs t names g (single s ∷ ps)

-- a script is well typed, and the table records the references of its names (docs/LANGUAGE.md, Types)
abbrev pub WellTyped : Tree → Table → Type 0
WellTyped tree t = PartsTyped (signatures tree) t [] [] tree
