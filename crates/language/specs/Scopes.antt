-- Types of variables and functions, and their visibility. States docs/LANGUAGE.md: Types.
use Rattle.std.specs.Prelude.{◌≡◌, ℕ, suc, List, [], ◌∷◌, map, Some, slice_get}
use Rattle.language.specs.declared.tree.Base.{Base}
use Rattle.language.specs.declared.tree.Keys.{Keys}
use Rattle.language.specs.declared.tree.Shape.{Shape}
use Rattle.language.specs.declared.tree.Shape.TheVariants.{Scalar, Array}
use Rattle.language.specs.Tree.{Word, Declaration, Composite, Tree, import, function, single}
use Rattle.language.specs.Core.{Name, here}
use Rattle.language.specs.Table.{Table, Builtin, builtin_text, composite, built_in}
use Rattle.language.specs.Members.{◌∈◌}

-- the type of a variable: that of a scalar, or that of an array with its elements' type
pub record Typ : Type 0 where
  pub base : Base
  pub shape : Shape

abbrev pub one_of : Base → Typ
one_of b = record { base = b; shape = Scalar }

abbrev pub many_of : Keys → Base → Typ
many_of κ b = record { base = b; shape = Array κ }

abbrev pub declared_type : Declaration → Typ
declared_type d = record { base = d.base; shape = d.shape }

-- a visible variable: its text, its name as seen from here, and its type
pub record Visible : Type 0 where
  pub text : List ℕ
  pub refers_to : Name
  pub type : Typ

abbrev pub Scope : Type 0
Scope = List Visible

abbrev pub further : Name → Name
further x = record { up = suc x.up; what = x.what }

-- the same variables, seen from a block one step further in
abbrev pub deeper : Scope → Scope
deeper g = map (λ v. record { text = v.text; refers_to = further v.refers_to; type = v.type }) g

-- a variable that is declared in this block
abbrev pub own : Word → Typ → Visible
own w τ = record { text = w.text; refers_to = here w.number; type = τ }

abbrev pub IsVisible : Scope → List ℕ → Type 0
IsVisible g w = (v : Visible) × (v ∈ g) × (v.text ≡ w)

-- a function: its text, and the types of its inputs and outputs
pub record Signature : Type 0 where
  pub text : List ℕ
  pub inputs : List Typ
  pub outputs : List Typ

abbrev pub signature_of : Composite → Signature
signature_of f = record { text = f.name.text; inputs = map declared_type f.inputs; outputs = map declared_type f.outputs }

-- the functions of a script, in its order
abbrev pub signatures : Tree → List Signature
signatures [] = []
signatures (import sp ∷ ps) = signatures ps
signatures (function f ∷ ps) = signature_of f ∷ signatures ps
signatures (single s ∷ ps) = signatures ps

-- a name refers to a visible variable of this type, as the table records
pub record Refers (g : Scope) (t : Table) (w : Word) (τ : Typ) : Type 0 where
  pub variable : Visible
  pub visible : variable ∈ g
  pub same : variable.text ≡ w.text
  pub typed : variable.type ≡ τ
  pub named : t.name_of w.number ≡ variable.refers_to
  pub shaped : t.shape_of w.number ≡ τ.shape

-- a called name is a function of the script, as the table records
pub record Calls (fs : List Signature) (t : Table) (w : Word) (f : Signature) : Type 0 where
  pub place : ℕ
  pub there : slice_get fs place ≡ Some f
  pub same : f.text ≡ w.text
  pub named : t.callee_of w.number ≡ composite place

-- a called name is a built-in function, as the table records
pub record CallsBuiltin (t : Table) (w : Word) (b : Builtin) : Type 0 where
  pub same : w.text ≡ builtin_text b
  pub named : t.callee_of w.number ≡ built_in b

abbrev pub IsBuiltinName : List ℕ → Type 0
IsBuiltinName w = (b : Builtin) × (w ≡ builtin_text b)
