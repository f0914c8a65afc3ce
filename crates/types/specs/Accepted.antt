-- Meaning of the check's results by the typing rules, for each table that agrees with the recorded names.
use Rattle.std.specs.Prelude.{◌≡◌, ◌≢◌, ℕ, List, [], ◌∷◌, length, Some, Result, Ok, Err}
use Rattle.lexer.specs.declared.token.Span.{Span}
use Rattle.types.specs.declared.typed.NameEntry.{NameEntry}
use Rattle.types.specs.declared.typed.Builtin.{Builtin}
use Rattle.language.specs.declared.tree.Base.{Base}
use Rattle.language.specs.declared.tree.Shape.{Shape}
use Rattle.language.specs.declared.tree.Shape.TheVariants.{Scalar, Array}
use Rattle.language.specs.Tree.{Word, Expression, expression, Form, number, text, truth, variable, element, call, prefixed, chain, Expressions, Tree}
use Rattle.language.specs.Table.{Table}
use Rattle.language.specs.Scopes.{Typ, many_of, Scope, Signature, Refers, Calls}
use Rattle.language.specs.Typing.{HasType, ArgumentTypes, BuiltinType, AllHaveType, WellTyped}
use Rattle.types.specs.Known.{Around}
use Rattle.types.specs.declared.fault.TypeFault.{TypeFault}
use Rattle.types.specs.declared.fault.TypeFault.TheVariants.{Memory}
use Rattle.types.specs.Outcomes.{refused, got}
use Rattle.types.specs.declared.typed.Typed as typed
use Rattle.types.specs.declared.typed.NameMeaning.TheVariants.{Nothing}
use Rattle.language.specs.Numbered.{numbered}
use Rattle.types.specs.Typed.{builtin_name, table_of, meaning_at, settled_at}
use Rattle.types.specs.Agrees.{Agrees, scope_of}
use Rattle.types.specs.Scripts.{checked}
use Rattle.types.specs.Expressions.{count, whole, elements, arguments, builtin_type}

-- an expression that is the name of an array of this type
abbrev pub NamesArrayForm : Table → Scope → Form → Typ → Type 0
NamesArrayForm t g (variable w) τ = Refers g t w τ
NamesArrayForm t g (number z) τ = ⊥
NamesArrayForm t g (text bytes) τ = ⊥
NamesArrayForm t g (truth v) τ = ⊥
NamesArrayForm t g (element w i) τ = ⊥
NamesArrayForm t g (call w es) τ = ⊥
NamesArrayForm t g (prefixed p e) τ = ⊥
NamesArrayForm t g (chain os es) τ = ⊥

abbrev pub NamesArray : Table → Scope → Expression → Typ → Type 0
NamesArray t g (expression nd f) τ = NamesArrayForm t g f τ

-- a call of a function of the script whose only output has this type
abbrev pub CallGives : List Signature → Table → Scope → Word → Expressions → Typ → Type 0
CallGives fs t g w es τ = (f : Signature) × Calls fs t w f × ArgumentTypes fs t g es f.inputs × (f.outputs ≡ τ ∷ [])

-- the name of an array of this type, or a call whose value is one
abbrev pub GivesArrayForm : List Signature → Table → Scope → Form → Typ → Type 0
GivesArrayForm fs t g (variable w) τ = Refers g t w τ
GivesArrayForm fs t g (call w es) τ = CallGives fs t g w es τ
GivesArrayForm fs t g (number z) τ = ⊥
GivesArrayForm fs t g (text bytes) τ = ⊥
GivesArrayForm fs t g (truth v) τ = ⊥
GivesArrayForm fs t g (element w i) τ = ⊥
GivesArrayForm fs t g (prefixed p e) τ = ⊥
GivesArrayForm fs t g (chain os es) τ = ⊥

abbrev pub GivesArray : List Signature → Table → Scope → Expression → Typ → Type 0
GivesArray fs t g (expression nd f) τ = GivesArrayForm fs t g f τ

-- an expression of a type: a scalar one, or an array's name or a call whose value is an array
abbrev pub WholeType : List Signature → Table → Scope → Expression → Shape → Base → Type 0
WholeType fs t g e Scalar b = HasType fs t g e b
WholeType fs t g e (Array κ) b = GivesArray fs t g e (many_of κ b)

-- an argument that fits an input: a scalar, or the name of an array
abbrev pub Fits : List Signature → Table → Scope → Expression → Shape → Base → Type 0
Fits fs t g e Scalar b = HasType fs t g e b
Fits fs t g e (Array κ) b = NamesArray t g e (many_of κ b)

-- soundness of type inference: an expression has the inferred type by the rules
abbrev pub WholeSound : Type 0
WholeSound = (fs : List Signature) (g : Around) (t : Table) (e : Expression) (τ : Typ) (s s' : List NameEntry) → whole fs g e s ≡ got τ s' → Agrees t s'
    → Agrees t s × WholeType fs t (scope_of g) e τ.shape τ.base

-- soundness for arguments: accepted ones fit their inputs, if the counts are equal
abbrev pub ArgumentsSound : Type 0
ArgumentsSound = (fs : List Signature) (g : Around) (t : Table) (es : Expressions) (τs : List Typ) (at : Span) (s s' : List NameEntry)
    → arguments fs g es τs at s ≡ got (tt {0}) s' → Agrees t s' → count es ≡ length τs → Agrees t s × ArgumentTypes fs t (scope_of g) es τs

-- soundness for elements: accepted ones have the wanted type
abbrev pub ElementsSound : Type 0
ElementsSound = (fs : List Signature) (g : Around) (t : Table) (es : Expressions) (b : Base) (s s' : List NameEntry)
    → elements fs g es (Some b) s ≡ got (tt {0}) s' → Agrees t s' → Agrees t s × AllHaveType fs t (scope_of g) es b

-- soundness for built-in functions: an accepted call has its type by the rules
abbrev pub BuiltinSound : Type 0
BuiltinSound = (fs : List Signature) (g : Around) (t : Table) (f : Builtin) (es : Expressions) (at : Span) (b : Base) (s s' : List NameEntry)
    → builtin_type fs g f es at s ≡ got b s' → Agrees t s' → Agrees t s × BuiltinType fs t (scope_of g) (builtin_name f) es b

-- soundness for scripts: an accepted one is well typed, for each table that agrees with the recorded names
abbrev pub ScriptSound : Type 0
ScriptSound = (tree : Tree) (t : Table) (s : List NameEntry) → checked tree ≡ got (tt {0}) s → Agrees t s → WellTyped tree t

-- an accepted numbered script is well typed for the table of the last entry of each number
abbrev pub ScriptTyped : Type 0
ScriptTyped = (n : ℕ) (tree : Tree) (t : typed.Typed) (s : List NameEntry) → checked (numbered n tree) ≡ got (tt {0}) s → ((k : ℕ) → meaning_at t k ≡ settled_at s k Nothing)
    → WellTyped (numbered n tree) (table_of t)

-- a refused script is well typed for no table
abbrev pub ScriptRefused : Type 0
ScriptRefused = (tree : Tree) (y : TypeFault) → checked tree ≡ refused y → (t : Table) → ¬ WellTyped tree t

-- the result of `check`: the table of the last entry of each number, or the first fault, except after an allocation
-- failure
abbrev pub Checks : Result typed.Typed TypeFault → Tree → Type 0
Checks (Ok t) tree = (s : List NameEntry) × (checked tree ≡ got (tt {0}) s) × ((k : ℕ) → meaning_at t k ≡ settled_at s k Nothing)
Checks (Err y) tree = y ≢ Memory → checked tree ≡ refused y
