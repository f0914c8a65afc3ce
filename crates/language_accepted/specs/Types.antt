-- Types in a core: each node has one, and every name, cell, call and statement agrees with the types of the nodes and
-- of the functions. States docs/LANGUAGE.md: Types.
use Rattle.std.specs.Prelude.{◌≡◌, ℕ, suc, ℤ, Bool, List, [], ◌∷◌, ◌++◌, length, Option, Some, slice_get}
use Rattle.values.specs.declared.map.Element.{Element}
use Rattle.values.specs.declared.op.Factor.{Factor}
use Rattle.values.specs.declared.op.Order.{Order}
use Rattle.values.specs.declared.op.Sign.{Sign}
use Rattle.values.specs.declared.format.FormatPiece.{FormatPiece}
use Rattle.values.specs.declared.value.Scalar.{Scalar}
use Rattle.values.specs.declared.value.Value.{Value}
use Rattle.values.specs.declared.value.Value.TheVariants.{One, Many}
use Rattle.values.specs.Operators as op
use Rattle.values.specs.Operators.{Operation}
use Rattle.values.specs.declared.key.Key.{Key}
use Rattle.language.specs.declared.tree.Keys.{Keys}
use Rattle.language.specs.declared.tree.Keys.TheVariants.{Numbers, Texts}
use Rattle.language.specs.Kinds.{base_of_keys}
use Rattle.language.specs.declared.tree.Base.{Base}
use Rattle.language.specs.declared.tree.Base.TheVariants.{Int, Text, Boolean}
use Rattle.language.specs.Core.{Owned, local, input, output, Name, Expr, literal, name, whole, operator, Exprs, none, also, Form, compute, read, Cell, Call, Part, inner, calls, Outer, Awaited, scalar, array, stmt, Action, declare, call_alone, assign, fill, insert, print, assert, when, choose, range, each, wait, Block, no_stmts, stmts, Function, Core}
use Rattle.language.specs.Facts.{Fact, value, element, line, fault}
use Rattle.language.specs.Meaning.{Live, Meaning}
use Rattle.language.specs.Members.{◌∈◌}
use Rattle.language.specs.Parts.{outers, outer_cells}
use Rattle.language.specs.Places.{Path, place}
use Rattle.language.specs.Resolved.{core}
use Rattle.language.specs.Scopes.{Typ, one_of, many_of, declared_type, Signature, signatures}
use Rattle.language.specs.Table.{Table}
use Rattle.language.specs.Tree as T
use Rattle.language.specs.Tree.{Declaration, Statement, statement, Command, Body, body, Statements, no_statements, and_statement, Tree, import, function, single}

-- a scalar of a type
pub data OfBase : Scalar → Base → Type 0 where
  a_number : {z : ℤ} → OfBase (Scalar.Number z) Int
  a_text : {bytes : List ℕ} → OfBase (Scalar.Text bytes) Text
  a_truth : {b : Bool} → OfBase (Scalar.Truth b) Boolean

-- a key of an array under numbers or texts
pub data OfKeys : Key → Keys → Type 0 where
  of_numbers : {z : ℤ} → OfKeys (Key.Number z) Numbers
  of_texts : {bytes : List ℕ} → OfKeys (Key.Text bytes) Texts

-- a value of a type
pub data OfType : Value → Typ → Type 0 where
  one_scalar : {v : Scalar} {b : Base} → OfBase v b → OfType (One v) (one_of b)
  many_scalars : {es : List Element} {κ : Keys} {b : Base} → ((e : Element) → e ∈ es → OfKeys e.key κ × OfBase e.value b) → OfType (Many es) (many_of κ b)

-- the script's block has neither inputs nor outputs
abbrev pub no_signature : Signature
no_signature = record { text = []; inputs = []; outputs = [] }

-- the functions; the types of nodes: variables, loop variables, cells, and outputs of calls in expressions; the
-- function whose body is considered; and below, how many headers lie between its body and the considered block
module _ (fs : List Signature) (type_of : ℕ → Typ) (f : Signature) where
  -- a name has a type; inputs and outputs are used from their function's body
  abbrev pub OwnedHas : ℕ → ℕ → Owned → Typ → Type 0
  OwnedHas depth up (local n) τ = type_of n ≡ τ
  OwnedHas depth up (input i) τ = (up ≡ depth) × (slice_get f.inputs i ≡ Some τ)
  OwnedHas depth up (output j) τ = (up ≡ depth) × (slice_get f.outputs j ≡ Some τ)

  abbrev pub NameHas : ℕ → Name → Typ → Type 0
  NameHas depth x τ = OwnedHas depth x.up x.what τ

  pub data NamesHave (depth : ℕ) : List Name → List Typ → Type 0 where
    no_name : NamesHave depth [] []
    one_name : {x : Name} {xs : List Name} {τ : Typ} {τs : List Typ} → NameHas depth x τ → NamesHave depth xs τs → NamesHave depth (x ∷ xs) (τ ∷ τs)

  mutual
    -- an expression evaluates to a scalar of a type
    pub data ExprHas (depth : ℕ) : Expr → Base → Type 0 where
      literal_has : {v : Scalar} {b : Base} → OfBase v b → ExprHas depth (literal v) b
      name_has : {x : Name} {b : Base} → NameHas depth x (one_of b) → ExprHas depth (name x) b
      operator_has : {o : Operation} {es : Exprs} {b : Base} → OperatorHas depth o es b → ExprHas depth (operator o es) b

    pub data OperatorHas (depth : ℕ) : Operation → Exprs → Base → Type 0 where
      sum_has : {ss : List Sign} {es : Exprs} → AllHave depth es Int → OperatorHas depth (op.sum_of ss) es Int
      texts_have : {ss : List Sign} {e : Expr} {es : Exprs} → AllHave depth (also e es) Text → OperatorHas depth (op.sum_of ss) (also e es) Text
      product_has : {gs : List Factor} {es : Exprs} → AllHave depth es Int → OperatorHas depth (op.product_of gs) es Int
      compare_has : {o : Order} {es : Exprs} → AllHave depth es Int → OperatorHas depth (op.compare o) es Boolean
      equal_has : {es : Exprs} (b : Base) → AllHave depth es b → OperatorHas depth op.equal es Boolean
      unequal_has : {es : Exprs} (b : Base) → AllHave depth es b → OperatorHas depth op.unequal es Boolean
      all_has : {es : Exprs} → AllHave depth es Boolean → OperatorHas depth op.all_true es Boolean
      any_has : {es : Exprs} → AllHave depth es Boolean → OperatorHas depth op.any_true es Boolean
      not_has : {es : Exprs} → AllHave depth es Boolean → OperatorHas depth op.not_true es Boolean
      negate_has : {es : Exprs} → AllHave depth es Int → OperatorHas depth op.negate es Int
      join_has : {es : Exprs} → AllHave depth es Text → OperatorHas depth op.join es Text
      from_int_has : {es : Exprs} → AllHave depth es Int → OperatorHas depth op.from_int es Text
      to_int_has : {es : Exprs} → AllHave depth es Text → OperatorHas depth op.to_int es Int
      size_has : {a : Name} (κ : Keys) (b : Base) → NameHas depth a (many_of κ b) → OperatorHas depth op.size (also (whole a) none) Int
      printf_has : {ps : List FormatPiece} {es : Exprs} → EachHas depth es → OperatorHas depth (op.printf ps) es Text
      assert_has : {c m : Expr} → ExprHas depth c Boolean → ExprHas depth m Text → OperatorHas depth op.assert (also c (also m none)) Boolean

    -- all expressions have one type
    pub data AllHave (depth : ℕ) : Exprs → Base → Type 0 where
      none_left : {b : Base} → AllHave depth none b
      one_more : {e : Expr} {es : Exprs} {b : Base} → ExprHas depth e b → AllHave depth es b → AllHave depth (also e es) b

    -- each expression has some type
    pub data EachHas (depth : ℕ) : Exprs → Type 0 where
      no_other : EachHas depth none
      another : {e : Expr} {es : Exprs} {b : Base} → ExprHas depth e b → EachHas depth es → EachHas depth (also e es)

  -- the form of a cell evaluates to a value of a type
  pub data FormHas (depth : ℕ) : Form → Typ → Type 0 where
    computes : {e : Expr} {b : Base} → ExprHas depth e b → FormHas depth (compute e) (one_of b)
    copies : {a : Name} {κ : Keys} {b : Base} → NameHas depth a (many_of κ b) → FormHas depth (compute (whole a)) (many_of κ b)
    lists : {es : Exprs} {b : Base} → AllHave depth es b → FormHas depth (compute (operator op.literal es)) (many_of Numbers b)
    reads : {a : Name} {i : ℕ} (κ : Keys) {b : Base} → NameHas depth a (many_of κ b) → type_of i ≡ one_of (base_of_keys κ) → FormHas depth (read a i) (one_of b)

  -- the arguments and outputs of a call match the inputs and outputs of the called function
  pub record CallHas (depth : ℕ) (c : Call) : Type 0 where
    pub signature : Signature
    pub there : slice_get fs c.function ≡ Some signature
    pub inputs : NamesHave depth c.inputs signature.inputs
    pub outputs : NamesHave depth c.outputs signature.outputs

  -- a cell before another one, or before a call, has a scalar
  abbrev pub PartHas : ℕ → Part → Type 0
  PartHas depth (inner c) = (b : Base) × (type_of c.node ≡ one_of b) × FormHas depth c.form (one_of b)
  PartHas depth (calls c) = CallHas depth c

  abbrev pub PartsHave : ℕ → List Part → Type 0
  PartsHave depth ps = (p : Part) → p ∈ ps → PartHas depth p

  pub record OuterHas (depth : ℕ) (o : Outer) : Type 0 where
    pub before : PartsHave depth o.parts
    pub cell : FormHas depth o.cell.form (type_of o.cell.node)

  abbrev pub OutersHave : ℕ → Action → Type 0
  OutersHave depth a = (o : Outer) → o ∈ outers a → OuterHas depth o

  pub data AwaitedHas (depth : ℕ) : Awaited → Type 0 where
    awaits_one : {x : Name} (b : Base) → NameHas depth x (one_of b) → AwaitedHas depth (scalar x)
    awaits_many : {x : Name} (κ : Keys) (b : Base) → NameHas depth x (many_of κ b) → AwaitedHas depth (array x)

  -- the variable for the number or the key of a turn
  abbrev pub TurnHas : Base → Option ℕ → Type 0
  TurnHas β turn = (t : ℕ) → turn ≡ Some t → type_of t ≡ one_of β

  mutual
    pub data BlockHas : ℕ → Block → Type 0 where
      no_statement : {depth : ℕ} → BlockHas depth no_stmts
      a_statement : {depth at n : ℕ} {a : Action} {b : Block} → OutersHave depth a → ActionHas depth a → BlockHas depth b → BlockHas depth (stmts (stmt at n a) b)

    -- the action of a statement agrees with the types of its outermost cells
    pub data ActionHas : ℕ → Action → Type 0 where
      of_declare : {depth v : ℕ} → ActionHas depth (declare v)
      of_call : {depth : ℕ} {p : ℤ} {ps : List Part} {c : Call} → PartsHave depth ps → CallHas depth c → ActionHas depth (call_alone p ps c)
      of_assign : {depth : ℕ} {x : Name} {o : Outer} {b : Base} → NameHas depth x (one_of b) → type_of o.cell.node ≡ one_of b → ActionHas depth (assign x o)
      of_fill : {depth : ℕ} {x : Name} {o : Outer} {κ : Keys} {b : Base} → NameHas depth x (many_of κ b) → type_of o.cell.node ≡ many_of κ b → ActionHas depth (fill x o)
      of_insert : {depth : ℕ} {x : Name} {i o : Outer} (κ : Keys) {b : Base} → NameHas depth x (many_of κ b) → type_of i.cell.node ≡ one_of (base_of_keys κ) → type_of o.cell.node ≡ one_of b → ActionHas depth (insert x i o)
      of_print : {depth : ℕ} {p : ℤ} {o : Outer} → type_of o.cell.node ≡ one_of Text → ActionHas depth (print p o)
      of_assert : {depth : ℕ} {p : ℤ} {o : Outer} → type_of o.cell.node ≡ one_of Boolean → ActionHas depth (assert p o)
      of_when : {depth : ℕ} {c : Outer} {b : Block} → type_of c.cell.node ≡ one_of Boolean → BlockHas (suc depth) b → ActionHas depth (when c b)
      of_choose : {depth : ℕ} {c : Outer} {b d : Block} → type_of c.cell.node ≡ one_of Boolean → BlockHas (suc depth) b → BlockHas (suc depth) d → ActionHas depth (choose c b d)
      of_range : {depth x : ℕ} {lo hi : Outer} {st : Option Outer} {turn : Option ℕ} {b : Block}
          → ((c : Cell) → c ∈ outer_cells (range lo hi st x turn b) → type_of c.node ≡ one_of Int) → type_of x ≡ one_of Int → TurnHas Int turn → BlockHas (suc depth) b
          → ActionHas depth (range lo hi st x turn b)
      of_each : {depth x : ℕ} {a : Name} {turn : Option ℕ} {b : Block} (κ : Keys) {β : Base} → NameHas depth a (many_of κ β) → type_of x ≡ one_of β → TurnHas (base_of_keys κ) turn → BlockHas (suc depth) b
          → ActionHas depth (each a x turn b)
      of_wait : {depth : ℕ} {ns : List Awaited} {b : Block} → ((x : Awaited) → x ∈ ns → AwaitedHas depth x) → BlockHas depth b → ActionHas depth (wait ns b)

-- a function's body agrees with its signature, which has a type for each input and output
pub record FunctionHas (fs : List Signature) (type_of : ℕ → Typ) (i : ℕ) (f : Function) : Type 0 where
  pub signature : Signature
  pub there : slice_get fs i ≡ Some signature
  pub inputs : length signature.inputs ≡ f.inputs
  pub outputs : length signature.outputs ≡ f.outputs
  pub body : BlockHas fs type_of signature 0 f.body

-- an element of an array of a type
pub data OfElement : Key → Scalar → Typ → Type 0 where
  of_array : {k : Key} {v : Scalar} {κ : Keys} {b : Base} → OfKeys k κ → OfBase v b → OfElement k v (many_of κ b)

-- a fact about a node has the node's type
abbrev pub FactHas : (ℕ → Typ) → Fact → Type 0
FactHas type_of (value p v) = OfType v (type_of p.1)
FactHas type_of (element a k w v) = OfElement k v (type_of a.1)
FactHas type_of (line w bytes) = Unit {0}
FactHas type_of (fault f at p) = Unit {0}

-- all parts of a core agree with the types
pub record HasTypes (fs : List Signature) (type_of : ℕ → Typ) (s : Core) : Type 0 where
  pub script : BlockHas fs type_of no_signature 0 s.body
  pub functions : (i : ℕ) (f : Function) → slice_get s.functions i ≡ Some f → FunctionHas fs type_of i f

-- a block at a path agrees with the types, and each of its names stands for a place whose node has the name's type
pub record TypedAt (fs : List Signature) (type_of : ℕ → Typ) (s : Core) (path : Path) (b : Block) : Type 0 where
  pub signature : Signature
  pub depth : ℕ
  pub typed : BlockHas fs type_of signature depth b
  pub names : (x : Name) (τ : Typ) → NameHas fs type_of signature depth x τ → type_of (place s path x).1 ≡ τ

-- VARIABLES THAT A TREE DECLARES

abbrev mutual
  pub statement_declarations : Statement → List Declaration
  statement_declarations (statement nd c) = command_declarations c

  pub command_declarations : Command → List Declaration
  command_declarations (T.declare d r) = d ∷ []
  command_declarations (T.choice e b) = body_declarations b
  command_declarations (T.choice_else e b d) = body_declarations b ++ body_declarations d
  command_declarations (T.loop v k o b) = body_declarations b
  command_declarations (T.waits ws b) = body_declarations b
  command_declarations (T.assign w r) = []
  command_declarations (T.write w i e) = []
  command_declarations (T.assign_all ws c) = []
  command_declarations (T.calls p c) = []

  pub body_declarations : Body → List Declaration
  body_declarations (body from ss) = statements_declarations ss

  pub statements_declarations : Statements → List Declaration
  statements_declarations no_statements = []
  statements_declarations (and_statement s ss) = statement_declarations s ++ statements_declarations ss

-- the variables declared by statements, in the script's block and in the functions' bodies
abbrev pub tree_declarations : Tree → List Declaration
tree_declarations [] = []
tree_declarations (import sp ∷ ps) = tree_declarations ps
tree_declarations (function f ∷ ps) = body_declarations f.body ++ tree_declarations ps
tree_declarations (single s ∷ ps) = statement_declarations s ++ tree_declarations ps

-- each variable has its declared type
abbrev pub DeclaredAs : (ℕ → Typ) → List Declaration → Type 0
DeclaredAs type_of ds = (d : Declaration) → d ∈ ds → type_of d.name.number ≡ declared_type d

-- OF A SCRIPT

-- types of a script's core, with which everything that is ever known and live agrees
pub record Types (t : Table) (tree : Tree) : Type 0 where
  pub type_of : ℕ → Typ
  pub has : HasTypes (signatures tree) type_of (core t tree)
  pub declared : DeclaredAs type_of (tree_declarations tree)
  pub facts : (f : Fact) → Meaning (core t tree) f → FactHas type_of f
  pub live : (path : Path) (b : Block) → Live (core t tree) (Meaning (core t tree)) path b → TypedAt (signatures tree) type_of (core t tree) path b
