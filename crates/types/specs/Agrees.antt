-- Agreement of the recorded names with a table, and with the scopes of the typing rules.
use Rattle.std.specs.Prelude.{◌≡◌, ℕ, ◌-◌, List, [], ◌∷◌}
use Rattle.types.specs.declared.typed.NameEntry.{NameEntry}
use Rattle.types.specs.declared.typed.NameMeaning.{NameMeaning}
use Rattle.types.specs.declared.typed.NameMeaning.TheVariants.{Nothing, Variable, Called}
use Rattle.language.specs.Tree.{Word}
use Rattle.language.specs.Table.{Table}
use Rattle.language.specs.Scopes.{Typ, Visible, Scope, Signature, Refers, Calls}
use Rattle.types.specs.Known.{Seen, Around}
use Rattle.types.specs.Typed.{owned_name, reference_name, callee_name}
use Rattle.types.specs.Outcomes.{got}
use Rattle.types.specs.Names.{refer, function_called}
use Rattle.std.specs.Prelude.{Some}
use Rattle.language.specs.declared.tree.Base.{Base}
use Rattle.language.specs.declared.tree.Operator.{Operator}
use Rattle.language.specs.declared.tree.Prefix.{Prefix}
use Rattle.language.specs.Typing.{Operates, Prefixes}
use Rattle.types.specs.Expressions.{gives, base_of}

-- the table has this meaning at a number
abbrev pub SaysOf : Table → ℕ → NameMeaning → Type 0
SaysOf t n Nothing = Unit {0}
SaysOf t n (Variable r shape) = (t.name_of n ≡ reference_name r) × (t.shape_of n ≡ shape)
SaysOf t n (Called c) = t.callee_of n ≡ callee_name c

abbrev pub Says : Table → NameEntry → Type 0
Says t s = SaysOf t s.number s.meaning

-- the table has all recorded meanings
abbrev pub Agrees : Table → List NameEntry → Type 0
Agrees t [] = Unit {0}
Agrees t (s ∷ ss) = Says t s × Agrees t ss

-- a visible variable, as seen from a point at which d blocks are open
abbrev pub visible_at : ℕ → Seen → Visible
visible_at d k = record { text = k.text; refers_to = record { up = d - k.depth; what = owned_name k.what }; type = k.of }

abbrev pub scope_onto : ℕ → List Seen → Scope → Scope
scope_onto d [] g = g
scope_onto d (k ∷ ks) g = scope_onto d ks (visible_at d k ∷ g)

-- the scope of the typing rules, latest variable first
abbrev pub scope_of : Around → Scope
scope_of a = scope_onto a.depth a.names []

-- soundness of name resolution: a resolved name refers to a visible variable, for each table that agrees with the
-- recorded names
abbrev pub ReferSound : Type 0
ReferSound = (g : Around) (t : Table) (w : Word) (τ : Typ) (s s' : List NameEntry) → refer g w s ≡ got τ s' → Agrees t s' → Agrees t s × Refers (scope_of g) t w τ

-- soundness of calls: a resolved function is the one called, for each table that agrees with the recorded names
abbrev pub CallSound : Type 0
CallSound = (fs : List Signature) (t : Table) (w : Word) (n m : ℕ) (f : Signature) (s s' : List NameEntry) → function_called fs w n m s ≡ got f s' → Agrees t s' → Agrees t s × Calls fs t w f

-- exactness of operators: an operator has exactly the result types of the typing rules
abbrev pub OperatorsExact : Type 0
OperatorsExact = (o : Operator) (b c : Base) → (gives o b ≡ Some c → Operates o b c) × (Operates o b c → gives o b ≡ Some c)

-- soundness of prefix operators: they have the types of the typing rules
abbrev pub PrefixesSound : Type 0
PrefixesSound = (p : Prefix) → Prefixes p (base_of p)
