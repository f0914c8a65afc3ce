-- Rules that a refusal names, with their places: the rules of names, calls and types, and the parts of a script that
-- they concern.
use Rattle.std.specs.Prelude.{◌≡◌, ◌≢◌, ℕ, suc, ℤ, false, List, [], ◌∷◌, length, Option, Some, None}
use Rattle.lexer.specs.declared.token.Span.{Span}
use Rattle.values.specs.declared.format.FormatPiece.{FormatPiece}
use Rattle.values.specs.Formats.{pieces}
use Rattle.types.specs.declared.fault.TypeFault.{TypeFault}
use Rattle.types.specs.declared.fault.TypeFault.TheVariants.{Unknown, Declared, Mismatch, WrongCount, BadFormat, NotAFunction}
use Rattle.language.specs.declared.tree.Base.{Base}
use Rattle.language.specs.declared.tree.Base.TheVariants.{Int, Boolean}
use Rattle.language.specs.declared.tree.Keys.{Keys}
use Rattle.language.specs.declared.tree.Keys.TheVariants.{Texts}
use Rattle.language.specs.declared.tree.Shape.TheVariants.{Scalar, Array}
use Rattle.language.specs.declared.tree.Operator.{Operator}
use Rattle.language.specs.declared.tree.Prefix.{Prefix}
use Rattle.language.specs.Core.{Owned, input, output}
use Rattle.language.specs.Members.{◌∈◌}
use Rattle.language.specs.Table.{Table, Builtin, builtin_text, strcat, fromint, toint, size, printf, assert}
use Rattle.language.specs.Tree as tree
use Rattle.language.specs.Tree.{Word, Node, Declaration, Expression, expression, text, variable, element, prefixed, chain, Expressions, no_expressions, and_expression, expressions_of, RightSide, value, list, Calling, Over, array, range, Statement, statement, Command, declare, assign, write, assign_all, choice, choice_else, loop, waits, Body, body, Statements, no_statements, and_statement, Composite, Tree, import, function, single}
use Rattle.language.specs.Kinds.{base_of_keys}
use Rattle.language.specs.Scopes.{Typ, one_of, many_of, declared_type, Visible, Scope, deeper, own, IsVisible, Signature, signatures, IsBuiltinName}
use Rattle.language.specs.Typing.{Operates, Prefixes, wanted, WellTyped}
use Rattle.types.specs.Outcomes.{refused}
use Rattle.types.specs.Expressions.{first_of, count}
use Rattle.types.specs.Scripts.{checked}
use Rattle.types.specs.Wants.{OfType, OfTypes, Outputs, Gives, Want, of_type, before, Meets, each, element_of, Takes}

-- SUBJECTS OF RULES

-- the purpose of a call: n outputs, or a statement
pub data Purpose : Type 0 where
  giving : ℕ → Purpose
  alone : Purpose

abbrev pub outputs_for : Purpose → ℕ
outputs_for (giving n) = n
outputs_for alone = 0

pub data Thing : Type 0 where
  -- the name of a variable where it is used, or declared
  used : Word → Thing
  introduced : Word → Thing
  -- the name of a function, with the names of those above it
  composite : (above : List (List ℕ)) → Word → Thing
  -- a called name with its arguments
  call : Word → Expressions → Purpose → Thing
  -- an expression with the type that its context wants
  expects : Want → Expression → Thing
  -- a name where that of an array is wanted
  as_array : Word → Thing
  -- an array literal with the type of its target
  literal : Node → Typ → Thing
  -- a called name with the variables that receive its outputs
  outputs_to : Word → List Word → Thing
  -- a chain without operands, or an operand of a chain that has not one operand more than operators; the parser makes
  -- none
  uneven : Expression → Thing

-- BROKEN RULES

-- a built-in function can be called with n arguments for this purpose
abbrev pub BuiltinCounts : Builtin → ℕ → Purpose → Type 0
BuiltinCounts strcat n u = (n ≢ 0) × (u ≡ giving 1)
BuiltinCounts fromint n u = (n ≡ 1) × (u ≡ giving 1)
BuiltinCounts toint n u = (n ≡ 1) × (u ≡ giving 1)
BuiltinCounts size n u = (n ≡ 1) × (u ≡ giving 1)
BuiltinCounts printf n u = (n ≢ 0) × (u ≡ alone)
BuiltinCounts assert n u = (n ≡ 2) × (u ≡ alone)

abbrev pub Counts : Signature → ℕ → Purpose → Type 0
Counts f n u = (length f.inputs ≡ n) × (length f.outputs ≡ outputs_for u)

-- a string literal with a valid format
abbrev pub IsFormat : Expression → Type 0
IsFormat e = (nd : Node) × (bytes : List ℕ) × (ps : List FormatPiece) × (e ≡ expression nd (text bytes)) × (pieces false bytes ≡ Some ps)

-- the span from the first token of an expression to its end
abbrev pub whole_of : Expression → Span
whole_of (expression nd f) = record { from = nd.first.from; to = nd.to }

-- a rule that a thing breaks in this scope, as the fault that names it with its place
pub data Broken (fs : List Signature) (g : Scope) : Thing → TypeFault → Type 0 where
  unknown : {w : Word} → ¬ IsVisible g w.text → Broken fs g (used w) (Unknown w.span)
  visible_before : {w : Word} → IsVisible g w.text → Broken fs g (introduced w) (Declared w.span)
  named_before : {above : List (List ℕ)} {w : Word} → w.text ∈ above → Broken fs g (composite above w) (Declared w.span)
  named_as_builtin : {above : List (List ℕ)} {w : Word} → IsBuiltinName w.text → Broken fs g (composite above w) (Declared w.span)
  wrong_count : {w : Word} {es : Expressions} {u : Purpose} → (f : Signature) → f ∈ fs → f.text ≡ w.text → ¬ Counts f (count es) u
      → Broken fs g (call w es u) (WrongCount w.span)
  wrong_count_of_builtin : {w : Word} {es : Expressions} {u : Purpose} → (b : Builtin) → w.text ≡ builtin_text b → ¬ BuiltinCounts b (count es) u
      → Broken fs g (call w es u) (WrongCount w.span)
  wrong_count_of_conversions : {w : Word} {nd : Node} {bytes : List ℕ} {es : Expressions} → (ps : List FormatPiece) → w.text ≡ builtin_text printf
      → pieces false bytes ≡ Some ps → ¬ (count es ≡ length (wanted ps))
      → Broken fs g (call w (and_expression (expression nd (text bytes)) es) alone) (WrongCount w.span)
  no_format : {w : Word} {e : Expression} {es : Expressions} → w.text ≡ builtin_text printf → ¬ IsFormat e
      → Broken fs g (call w (and_expression e es) alone) (BadFormat (whole_of e))
  no_function : {w : Word} {es : Expressions} {u : Purpose} → ((f : Signature) → f ∈ fs → ¬ (f.text ≡ w.text)) → ¬ IsBuiltinName w.text
      → Broken fs g (call w es u) (NotAFunction w.span)
  wrong_type : {e : Expression} {want : Want} {τ : Typ} → Gives fs g e τ → ¬ Meets want e τ → Broken fs g (expects want e) (Mismatch (first_of e))
  no_array : {w : Word} {b : Base} → OfType g w (one_of b) → Broken fs g (as_array w) (Mismatch w.span)
  literal_for_scalar : {nd : Node} {τ : Typ} → τ.shape ≡ Scalar → Broken fs g (literal nd τ) (Mismatch nd.first)
  literal_under_texts : {nd : Node} {τ : Typ} → τ.shape ≡ Array Texts → Broken fs g (literal nd τ) (Mismatch nd.first)
  other_outputs : {w : Word} {ws : List Word} {τs σs : List Typ} → Outputs fs w.text τs → OfTypes g ws σs → length τs ≡ length σs → τs ≢ σs
      → Broken fs g (outputs_to w ws) (Mismatch w.span)
  no_chain : {e : Expression} → Broken fs g (uneven e) (Mismatch (first_of e))

-- OCCURRENCES OF THINGS

-- some thing in an expression, for which B holds
mutual
  pub data InExpression (fs : List Signature) (B : Scope → Thing → Type 0) (g : Scope) : Expression → Type 0 where
    its_name : {nd : Node} {w : Word} → B g (used w) → InExpression fs B g (expression nd (variable w))
    its_array : {nd : Node} {w : Word} {i : Expression} → B g (used w) → InExpression fs B g (expression nd (element w i))
    its_elements : {nd : Node} {w : Word} {i : Expression} → B g (as_array w) → InExpression fs B g (expression nd (element w i))
    its_index : {nd : Node} {w : Word} {i : Expression} {κ : Keys} {b : Base} → OfType g w (many_of κ b) → InWanted fs B g (of_type (one_of (base_of_keys κ))) i
        → InExpression fs B g (expression nd (element w i))
    its_operand : {nd : Node} {p : Prefix} {e : Expression} {b : Base} → Prefixes p b → InWanted fs B g (of_type (one_of b)) e
        → InExpression fs B g (expression nd (prefixed p e))
    no_operands : {nd : Node} {os : List Operator} → B g (uneven (expression nd (chain os no_expressions))) → InExpression fs B g (expression nd (chain os no_expressions))
    no_operators : {nd : Node} {e : Expression} {es : Expressions} → B g (uneven e) → InExpression fs B g (expression nd (chain [] (and_expression e es)))
    first_operand : {nd : Node} {o : Operator} {os : List Operator} {e : Expression} {es : Expressions} → ((c : Base) → B g (expects (before o c) e))
        → InExpression fs B g (expression nd (chain (o ∷ os) (and_expression e es)))
    in_first_operand : {nd : Node} {os : List Operator} {e : Expression} {es : Expressions} → InExpression fs B g e
        → InExpression fs B g (expression nd (chain os (and_expression e es)))
    its_operands : {nd : Node} {o : Operator} {os : List Operator} {e : Expression} {es : Expressions} {b c : Base} → Gives fs g e (one_of b) → Operates o b c
        → InOperands fs B g b c e (o ∷ os) es → InExpression fs B g (expression nd (chain (o ∷ os) (and_expression e es)))
    its_call : {nd : Node} {w : Word} {es : Expressions} → B g (call w es (giving 1)) → InExpression fs B g (expression nd (tree.call w es))
    its_arguments : {nd : Node} {w : Word} {es : Expressions} {wants : List Want} → Takes fs w.text es wants → InExpressions fs B g wants es
        → InExpression fs B g (expression nd (tree.call w es))

  -- in an operand or in the following operators and operands, in a chain of operands of type b with results of type c
  pub data InOperands (fs : List Signature) (B : Scope → Thing → Type 0) (g : Scope) : Base → Base → Expression → List Operator → Expressions → Type 0 where
    its_operator : {b c : Base} {e : Expression} {o : Operator} {os : List Operator} {es : Expressions} → B g (expects (before o c) e) → InOperands fs B g b c e (o ∷ os) es
    next_operand : {b c : Base} {e d : Expression} {o : Operator} {os : List Operator} {es : Expressions} → InWanted fs B g (of_type (one_of b)) d
        → InOperands fs B g b c e (o ∷ os) (and_expression d es)
    behind_operand : {b c : Base} {e d : Expression} {o : Operator} {os : List Operator} {es : Expressions} → InOperands fs B g b c d os es
        → InOperands fs B g b c e (o ∷ os) (and_expression d es)
    too_few : {b c : Base} {e : Expression} {o : Operator} {os : List Operator} → B g (uneven e) → InOperands fs B g b c e (o ∷ os) no_expressions
    too_many : {b c : Base} {e d : Expression} {es : Expressions} → B g (uneven e) → InOperands fs B g b c e [] (and_expression d es)

  -- in an expression for which a type is wanted
  pub data InWanted (fs : List Signature) (B : Scope → Thing → Type 0) (g : Scope) : Want → Expression → Type 0 where
    itself : {want : Want} {e : Expression} → B g (expects want e) → InWanted fs B g want e
    within : {want : Want} {e : Expression} → InExpression fs B g e → InWanted fs B g want e

  pub data InExpressions (fs : List Signature) (B : Scope → Thing → Type 0) (g : Scope) : List Want → Expressions → Type 0 where
    first_expression : {want : Want} {wants : List Want} {e : Expression} {es : Expressions} → InWanted fs B g want e → InExpressions fs B g (want ∷ wants) (and_expression e es)
    later_expression : {want : Want} {wants : List Want} {e : Expression} {es : Expressions} → InExpressions fs B g wants es
        → InExpressions fs B g (want ∷ wants) (and_expression e es)

pub data InWords (B : Scope → Thing → Type 0) (g : Scope) : List Word → Type 0 where
  first_word : {w : Word} {ws : List Word} → B g (used w) → InWords B g (w ∷ ws)
  later_word : {w : Word} {ws : List Word} → InWords B g ws → InWords B g (w ∷ ws)

-- in a right side, by the type of its target
pub data InRight (fs : List Signature) (B : Scope → Thing → Type 0) (g : Scope) (τ : Typ) : RightSide → Type 0 where
  in_value : {e : Expression} → InWanted fs B g (of_type τ) e → InRight fs B g τ (value e)
  the_list : {nd : Node} {es : List Expression} → B g (literal nd τ) → InRight fs B g τ (list nd es)
  in_list : {nd : Node} {es : List Expression} → InExpressions fs B g (each (element_of τ) (expressions_of es)) (expressions_of es) → InRight fs B g τ (list nd es)

pub data InOver (fs : List Signature) (B : Scope → Thing → Type 0) (g : Scope) : Over → Type 0 where
  looped_name : {w : Word} → B g (used w) → InOver fs B g (array w)
  looped_array : {w : Word} → B g (as_array w) → InOver fs B g (array w)
  from_low : {low high : Expression} {step : Option Expression} → InWanted fs B g (of_type (one_of Int)) low → InOver fs B g (range low high step)
  to_high : {low high : Expression} {step : Option Expression} → InWanted fs B g (of_type (one_of Int)) high → InOver fs B g (range low high step)
  by_step : {low high step : Expression} → InWanted fs B g (of_type (one_of Int)) step → InOver fs B g (range low high (Some step))

-- the types of the values and of the keys that a loop iterates over
pub data Values : Scope → Over → Base → Base → Type 0 where
  of_array : {g : Scope} {w : Word} {κ : Keys} {b : Base} → OfType g w (many_of κ b) → Values g (array w) b (base_of_keys κ)
  of_range : {g : Scope} {low high : Expression} {step : Option Expression} → Values g (range low high step) Int Int

abbrev pub with_key : Scope → Option Word → Base → Scope
with_key g None c = g
with_key g (Some k) c = own k (one_of c) ∷ g

-- the scope after a statement
abbrev pub behind_command : Scope → Command → Scope
behind_command g (declare d r) = own d.name (declared_type d) ∷ g
behind_command g (assign w r) = g
behind_command g (write w i e) = g
behind_command g (assign_all ws c) = g
behind_command g (tree.calls p c) = g
behind_command g (choice e b) = g
behind_command g (choice_else e b d) = g
behind_command g (loop v k o b) = g
behind_command g (waits ws b) = g

abbrev pub behind : Scope → Statement → Scope
behind g (statement nd c) = behind_command g c

-- some thing in a statement, for which B holds in the scope at its place
mutual
  pub data InCommand (fs : List Signature) (B : Scope → Thing → Type 0) : Scope → Command → Type 0 where
    its_declaration : {g : Scope} {d : Declaration} {r : Option RightSide} → B g (introduced d.name) → InCommand fs B g (declare d r)
    its_initial : {g : Scope} {d : Declaration} {r : RightSide} → InRight fs B (own d.name (declared_type d) ∷ g) (declared_type d) r → InCommand fs B g (declare d (Some r))
    its_target : {g : Scope} {w : Word} {r : RightSide} → B g (used w) → InCommand fs B g (assign w r)
    its_right : {g : Scope} {w : Word} {r : RightSide} {τ : Typ} → OfType g w τ → InRight fs B g τ r → InCommand fs B g (assign w r)
    its_written : {g : Scope} {w : Word} {i e : Expression} → B g (used w) → InCommand fs B g (write w i e)
    its_written_array : {g : Scope} {w : Word} {i e : Expression} → B g (as_array w) → InCommand fs B g (write w i e)
    its_place : {g : Scope} {w : Word} {i e : Expression} {κ : Keys} {b : Base} → OfType g w (many_of κ b) → InWanted fs B g (of_type (one_of (base_of_keys κ))) i
        → InCommand fs B g (write w i e)
    its_element : {g : Scope} {w : Word} {i e : Expression} {κ : Keys} {b : Base} → OfType g w (many_of κ b) → InWanted fs B g (of_type (one_of b)) e → InCommand fs B g (write w i e)
    its_targets : {g : Scope} {ws : List Word} {c : Calling} → InWords B g ws → InCommand fs B g (assign_all ws c)
    its_called : {g : Scope} {ws : List Word} {c : Calling} → B g (call c.name (expressions_of c.arguments) (giving (length ws))) → InCommand fs B g (assign_all ws c)
    its_outputs : {g : Scope} {ws : List Word} {c : Calling} → B g (outputs_to c.name ws) → InCommand fs B g (assign_all ws c)
    its_inputs : {g : Scope} {ws : List Word} {c : Calling} {wants : List Want} → Takes fs c.name.text (expressions_of c.arguments) wants
        → InExpressions fs B g wants (expressions_of c.arguments) → InCommand fs B g (assign_all ws c)
    called_alone : {g : Scope} {p : ℤ} {c : Calling} → B g (call c.name (expressions_of c.arguments) alone) → InCommand fs B g (tree.calls p c)
    inputs_alone : {g : Scope} {p : ℤ} {c : Calling} {wants : List Want} → Takes fs c.name.text (expressions_of c.arguments) wants
        → InExpressions fs B g wants (expressions_of c.arguments) → InCommand fs B g (tree.calls p c)
    its_condition : {g : Scope} {e : Expression} {b : Body} → InWanted fs B g (of_type (one_of Boolean)) e → InCommand fs B g (choice e b)
    its_branch : {g : Scope} {e : Expression} {b : Body} → InBody fs B (deeper g) b → InCommand fs B g (choice e b)
    either_condition : {g : Scope} {e : Expression} {b d : Body} → InWanted fs B g (of_type (one_of Boolean)) e → InCommand fs B g (choice_else e b d)
    either_branch : {g : Scope} {e : Expression} {b d : Body} → InBody fs B (deeper g) b → InCommand fs B g (choice_else e b d)
    other_branch : {g : Scope} {e : Expression} {b d : Body} → InBody fs B (deeper g) d → InCommand fs B g (choice_else e b d)
    its_value : {g : Scope} {v : Word} {k : Option Word} {o : Over} {b : Body} → B (deeper g) (introduced v) → InCommand fs B g (loop v k o b)
    its_key : {g : Scope} {v k : Word} {o : Over} {b : Body} → ((τ : Typ) → B (own v τ ∷ deeper g) (introduced k)) → InCommand fs B g (loop v (Some k) o b)
    its_source : {g : Scope} {v : Word} {k : Option Word} {o : Over} {b : Body} → InOver fs B g o → InCommand fs B g (loop v k o b)
    its_loop : {g : Scope} {v : Word} {k : Option Word} {o : Over} {b : Body} → (β γ : Base) → Values g o β γ → InBody fs B (with_key (own v (one_of β) ∷ deeper g) k γ) b
        → InCommand fs B g (loop v k o b)
    its_awaited : {g : Scope} {ws : List Word} {b : Body} → InWords B g ws → InCommand fs B g (waits ws b)
    its_waiting : {g : Scope} {ws : List Word} {b : Body} → InBody fs B g b → InCommand fs B g (waits ws b)

  pub data InBody (fs : List Signature) (B : Scope → Thing → Type 0) : Scope → Body → Type 0 where
    in_braces : {g : Scope} {from : ℕ} {ss : Statements} → InStatements fs B g ss → InBody fs B g (body from ss)

  pub data InStatements (fs : List Signature) (B : Scope → Thing → Type 0) : Scope → Statements → Type 0 where
    first_statement : {g : Scope} {nd : Node} {c : Command} {ss : Statements} → InCommand fs B g c → InStatements fs B g (and_statement (statement nd c) ss)
    later_statement : {g : Scope} {s : Statement} {ss : Statements} → InStatements fs B (behind g s) ss → InStatements fs B g (and_statement s ss)

-- an output or input of a function, by its position
abbrev pub parameter : (ℕ → Owned) → ℕ → Declaration → Visible
parameter owned i d = record { text = d.name.text; refers_to = record { up = 0; what = owned i }; type = declared_type d }

abbrev pub with_parameters : (ℕ → Owned) → Scope → ℕ → List Declaration → Scope
with_parameters owned g i [] = g
with_parameters owned g i (d ∷ ds) = with_parameters owned (parameter owned i d ∷ g) (suc i) ds

pub data InParameters (B : Scope → Thing → Type 0) (owned : ℕ → Owned) : Scope → ℕ → List Declaration → Type 0 where
  first_parameter : {g : Scope} {i : ℕ} {d : Declaration} {ds : List Declaration} → B g (introduced d.name) → InParameters B owned g i (d ∷ ds)
  later_parameter : {g : Scope} {i : ℕ} {d : Declaration} {ds : List Declaration} → InParameters B owned (parameter owned i d ∷ g) (suc i) ds
      → InParameters B owned g i (d ∷ ds)

abbrev pub outputs_scope : Composite → Scope
outputs_scope f = with_parameters output [] 0 f.outputs

abbrev pub inputs_scope : Composite → Scope
inputs_scope f = with_parameters input (outputs_scope f) 0 f.inputs

pub data InFunction (fs : List Signature) (B : Scope → Thing → Type 0) (above : List (List ℕ)) (f : Composite) : Type 0 where
  in_outputs : InParameters B output [] 0 f.outputs → InFunction fs B above f
  in_name : B (outputs_scope f) (composite above f.name) → InFunction fs B above f
  in_inputs : InParameters B input (outputs_scope f) 0 f.inputs → InFunction fs B above f
  in_body : InBody fs B (inputs_scope f) f.body → InFunction fs B above f

-- some thing in a script, for which B holds at its place
pub data InParts (fs : List Signature) (B : Scope → Thing → Type 0) : List (List ℕ) → Scope → Tree → Type 0 where
  in_function : {above : List (List ℕ)} {g : Scope} {f : Composite} {ps : Tree} → InFunction fs B above f → InParts fs B above g (function f ∷ ps)
  in_statement : {above : List (List ℕ)} {g : Scope} {nd : Node} {c : Command} {ps : Tree} → InCommand fs B g c → InParts fs B above g (single (statement nd c) ∷ ps)
  behind_import : {above : List (List ℕ)} {g : Scope} {sp : Span} {ps : Tree} → InParts fs B above g ps → InParts fs B above g (import sp ∷ ps)
  behind_function : {above : List (List ℕ)} {g : Scope} {f : Composite} {ps : Tree} → InParts fs B (f.name.text ∷ above) g ps → InParts fs B above g (function f ∷ ps)
  behind_statement : {above : List (List ℕ)} {g : Scope} {s : Statement} {ps : Tree} → InParts fs B above (behind g s) ps → InParts fs B above g (single s ∷ ps)

-- the script breaks the rule that the fault names, at the place of the fault
abbrev pub Breaks : Tree → TypeFault → Type 0
Breaks tree y = InParts (signatures tree) (λ g x. Broken (signatures tree) g x y) [] [] tree

-- a refusal names a rule that the script breaks at its place
abbrev pub RefusalNames : Type 0
RefusalNames = (tree : Tree) (y : TypeFault) → checked tree ≡ refused y → Breaks tree y

-- a well typed script breaks no rule
abbrev pub BreaksNothing : Type 0
BreaksNothing = (tree : Tree) (y : TypeFault) (t : Table) → WellTyped tree t → ¬ Breaks tree y
