-- Types of expressions by their form, and the types that their contexts want.
use Rattle.std.specs.Prelude.{◌≡◌, ℕ, ℤ, false, Bool, List, [], ◌∷◌, map, Option, Some, None}
use Rattle.values.specs.declared.format.FormatPiece.{FormatPiece}
use Rattle.values.specs.Formats.{pieces}
use Rattle.language.specs.declared.tree.Base.{Base}
use Rattle.language.specs.declared.tree.Base.TheVariants.{Int, Text, Boolean}
use Rattle.language.specs.declared.tree.Keys.{Keys}
use Rattle.language.specs.declared.tree.Shape.{Shape}
use Rattle.language.specs.declared.tree.Shape.TheVariants.{Scalar, Array}
use Rattle.language.specs.declared.tree.Operator.{Operator}
use Rattle.language.specs.declared.tree.Prefix.{Prefix}
use Rattle.language.specs.Members.{◌∈◌}
use Rattle.language.specs.Table.{Builtin, builtin_text, strcat, fromint, toint, size, printf, assert}
use Rattle.language.specs.Tree.{Word, Node, Expression, expression, number, text, truth, variable, element, call, prefixed, chain, Expressions, no_expressions, and_expression}
use Rattle.language.specs.Scopes.{Typ, one_of, many_of, Visible, Scope, Signature}
use Rattle.language.specs.Typing.{Operates, Prefixes, wanted}

-- TYPES OF EXPRESSIONS

-- the name of a visible variable of this type
abbrev pub OfType : Scope → Word → Typ → Type 0
OfType g w τ = (v : Visible) × (v ∈ g) × (v.text ≡ w.text) × (v.type ≡ τ)

-- names of visible variables, with their types in the same order
pub data OfTypes (g : Scope) : List Word → List Typ → Type 0 where
  no_names : OfTypes g [] []
  and_name : {w : Word} {ws : List Word} {τ : Typ} {τs : List Typ} → OfType g w τ → OfTypes g ws τs → OfTypes g (w ∷ ws) (τ ∷ τs)

-- the result type of a built-in function
abbrev pub value_of : Builtin → Option Base
value_of strcat = Some Text
value_of fromint = Some Text
value_of toint = Some Int
value_of size = Some Int
value_of printf = None
value_of assert = None

-- the types of the outputs of a function with this name, or the result type of the built-in function
pub data Outputs (fs : List Signature) (name : List ℕ) : List Typ → Type 0 where
  of_function : {τs : List Typ} → (f : Signature) → f ∈ fs → f.text ≡ name → f.outputs ≡ τs → Outputs fs name τs
  of_builtin : {b : Base} → (f : Builtin) → name ≡ builtin_text f → value_of f ≡ Some b → Outputs fs name (one_of b ∷ [])

-- the type of an expression, by its form and the variables and functions that it names
pub data Gives (fs : List Signature) (g : Scope) : Expression → Typ → Type 0 where
  gives_number : {nd : Node} {z : ℤ} → Gives fs g (expression nd (number z)) (one_of Int)
  gives_text : {nd : Node} {bytes : List ℕ} → Gives fs g (expression nd (text bytes)) (one_of Text)
  gives_truth : {nd : Node} {b : Bool} → Gives fs g (expression nd (truth b)) (one_of Boolean)
  gives_variable : {nd : Node} {w : Word} {τ : Typ} → OfType g w τ → Gives fs g (expression nd (variable w)) τ
  gives_element : {nd : Node} {w : Word} {i : Expression} {κ : Keys} {b : Base} → OfType g w (many_of κ b) → Gives fs g (expression nd (element w i)) (one_of b)
  gives_prefixed : {nd : Node} {p : Prefix} {e : Expression} {b : Base} → Prefixes p b → Gives fs g (expression nd (prefixed p e)) (one_of b)
  gives_chain : {nd : Node} {o : Operator} {os : List Operator} {e : Expression} {es : Expressions} {b c : Base} → Gives fs g e (one_of b) → Operates o b c
      → Gives fs g (expression nd (chain (o ∷ os) (and_expression e es))) (one_of c)
  gives_call : {nd : Node} {w : Word} {es : Expressions} {τ : Typ} → Outputs fs w.text (τ ∷ []) → Gives fs g (expression nd (call w es)) τ

-- WANTED TYPES

-- what the context wants of an expression
pub data Want : Type 0 where
  of_type : Typ → Want
  anything : Want
  -- the name of an array, with these types of keys and elements, or with any
  array_of : Keys → Base → Want
  any_array : Want
  -- a scalar of a type that the following operator accepts with this result type
  before : Operator → Base → Want

abbrev pub IsName : Expression → Type 0
IsName e = (nd : Node) × (w : Word) × (e ≡ expression nd (variable w))

-- an expression of this type meets what is wanted
abbrev pub Meets : Want → Expression → Typ → Type 0
Meets (of_type σ) e τ = τ ≡ σ
Meets anything e τ = Unit {0}
Meets (array_of κ b) e τ = IsName e × (τ ≡ many_of κ b)
Meets any_array e τ = IsName e × (κ : Keys) × (τ.shape ≡ Array κ)
Meets (before o c) e τ = (b : Base) × (τ ≡ one_of b) × Operates o b c

-- one want for each expression
abbrev pub each : Want → Expressions → List Want
each w no_expressions = []
each w (and_expression e es) = w ∷ each w es

-- the want for an argument, by its input
abbrev pub argument_by : Shape → Base → Want
argument_by Scalar b = of_type (one_of b)
argument_by (Array κ) b = array_of κ b

abbrev pub argument : Typ → Want
argument τ = argument_by τ.shape τ.base

-- the want for an element of an array literal, by the type of its target; for a scalar target any
abbrev pub element_by : Shape → Base → Want
element_by Scalar b = anything
element_by (Array κ) b = of_type (one_of b)

abbrev pub element_of : Typ → Want
element_of τ = element_by τ.shape τ.base

-- the wants for the arguments of a built-in function
pub data BuiltinTakes : Builtin → Expressions → List Want → Type 0 where
  strcat_takes : {es : Expressions} → BuiltinTakes strcat es (each (of_type (one_of Text)) es)
  fromint_takes : {es : Expressions} → BuiltinTakes fromint es (of_type (one_of Int) ∷ [])
  toint_takes : {es : Expressions} → BuiltinTakes toint es (of_type (one_of Text) ∷ [])
  size_takes : {es : Expressions} → BuiltinTakes size es (any_array ∷ [])
  printf_takes : {nd : Node} {bytes : List ℕ} {es : Expressions} → (ps : List FormatPiece) → pieces false bytes ≡ Some ps
      → BuiltinTakes printf (and_expression (expression nd (text bytes)) es) (of_type (one_of Text) ∷ map argument (wanted ps))
  assert_takes : {es : Expressions} → BuiltinTakes assert es (of_type (one_of Boolean) ∷ of_type (one_of Text) ∷ [])

-- the wants for the arguments of a function with this name, or of the built-in function
pub data Takes (fs : List Signature) (name : List ℕ) : Expressions → List Want → Type 0 where
  function_takes : {es : Expressions} → (f : Signature) → f ∈ fs → f.text ≡ name → Takes fs name es (map argument f.inputs)
  builtin_takes : {es : Expressions} {wants : List Want} → (f : Builtin) → name ≡ builtin_text f → BuiltinTakes f es wants → Takes fs name es wants
