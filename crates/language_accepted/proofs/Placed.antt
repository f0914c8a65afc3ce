-- Blocks of a core whose names are visible ones, with what each statement keeps, and with the numbers of what is declared.
use Rattle.std.specs.Prelude.{◌≡◌, ◌⊎◌, ℕ, suc, ◌<◌, ◌≤◌, List, [], ◌∷◌, Option, Some, length, slice_get}
use Rattle.language.specs.Core.{Name, here, Call, Part, inner, calls, Outer, Awaited, stmt, Action, declare, when, choose, range, each, wait, Block, no_stmts, stmts}
use Rattle.language.specs.Members.{◌∈◌}
use Rattle.language.specs.Parts.{parts, by_name, by_element}
use Rattle.language.specs.Scopes.{Visible, Scope, deeper, Signature}
use Rattle.language.proofs.Tested.{roles_of}
use Rattle.language_laws.specs.Scoped.{IsIn, FormIn, AwaitedIn}

-- a name is that of a visible variable
pub record Sees (g : Scope) (x : Name) : Type 0 where
  pub variable : Visible
  pub visible : variable ∈ g
  pub is : x ≡ variable.refers_to

-- a call is of a function of the script, with an argument for each input and a variable for each output
pub record CallFits (fs : List Signature) (k : ℕ) (c : Call) : Type 0 where
  pub signature : Signature
  pub there : slice_get fs c.function ≡ Some signature
  pub outputs : length c.outputs ≡ length signature.outputs
  pub inputs : length c.inputs ≡ length signature.inputs
  pub given : (x : Name) → x ∈ c.inputs → IsIn k x
  pub taken : (x : Name) → x ∈ c.outputs → IsIn k x

abbrev pub PartFits : List Signature → ℕ → Part → Type 0
PartFits fs k (inner c) = FormIn k c.form
PartFits fs k (calls c) = CallFits fs k c

abbrev pub PartsFit : List Signature → ℕ → List Part → Type 0
PartsFit fs k ps = (p : Part) → p ∈ ps → PartFits fs k p

-- the array that a loop goes over
abbrev pub looped : Action → List Name
looped (each a v t b) = a ∷ []
looped _ = []

-- what a `wait` waits for
abbrev pub waited : Action → List Awaited
waited (wait ns b) = ns
waited _ = []

-- what a statement keeps, in a body with so many inputs and such a scope
pub record Fits (fs : List Signature) (k : ℕ) (g : Scope) (a : Action) : Type 0 where
  pub among : (x : Name) → Sees g x → IsIn k x
  pub named : (x : Name) → x ∈ by_name a → Sees g x
  pub written : (x : Name) → x ∈ by_element a → Sees g x
  pub inside : PartsFit fs k (parts a)
  pub over : (x : Name) → x ∈ looped a → IsIn k x
  pub waits : (x : Awaited) → x ∈ waited a → AwaitedIn k x

-- no declaration, and without a block inside it
abbrev pub IsPlain : Action → Type 0
IsPlain (declare v) = ⊥
IsPlain (when c b) = ⊥
IsPlain (choose c b d) = ⊥
IsPlain (range lo hi st v t b) = ⊥
IsPlain (each a v t b) = ⊥
IsPlain (wait ns b) = ⊥
IsPlain _ = Unit {0}

-- a loop with its body
pub data Loops : Action → Block → Type 0 where
  over_range : {lo hi : Outer} {st : Option Outer} {v : ℕ} {t : Option ℕ} {b : Block} → Loops (range lo hi st v t b) b
  over_each : {a : Name} {v : ℕ} {t : Option ℕ} {b : Block} → Loops (each a v t b) b

-- a variable of the loop, with a number below this one
pub record IsRole (a : Action) (to : ℕ) (v : Visible) : Type 0 where
  pub node : ℕ
  pub is : v.refers_to ≡ here node
  pub role : node ∈ roles_of a
  pub less : node < to

-- what a loop's body sees: what is seen round it, and the loop's own variables
abbrev pub LoopSees : Scope → Action → ℕ → Scope → Type 0
LoopSees g a to h = (v : Visible) → v ∈ h → (v ∈ deeper g) ⊎ IsRole a to v

-- a block in a scope; what it declares has numbers from the first on, below the second
pub data Placed (fs : List Signature) (k : ℕ) : Scope → ℕ → Block → ℕ → Type 0 where
  placed_end : {g : Scope} {from to : ℕ} → from ≤ to → Placed fs k g from no_stmts to
  placed_declaration : {g : Scope} {from v at n to : ℕ} {w : Visible} {b : Block} → Fits fs k g (declare v) → w.refers_to ≡ here v → from ≤ v → Placed fs k (w ∷ g) (suc v) b to
      → Placed fs k g from (stmts (stmt at n (declare v)) b) to
  placed_plain : {g : Scope} {from m at n to : ℕ} {a : Action} {b : Block} → IsPlain a → Fits fs k g a → from ≤ m → Placed fs k g m b to
      → Placed fs k g from (stmts (stmt at n a) b) to
  placed_when : {g : Scope} {from m l j at n to : ℕ} {c : Outer} {d b : Block} → Fits fs k g (when c d) → from ≤ m → Placed fs k (deeper g) m d l → l ≤ j → Placed fs k g j b to
      → Placed fs k g from (stmts (stmt at n (when c d)) b) to
  placed_choose : {g : Scope} {from m l i j at n to : ℕ} {c : Outer} {d e b : Block} → Fits fs k g (choose c d e) → from ≤ m → Placed fs k (deeper g) m d l
      → Placed fs k (deeper g) l e i → i ≤ j → Placed fs k g j b to → Placed fs k g from (stmts (stmt at n (choose c d e)) b) to
  placed_loop : {g h : Scope} {from m l j at n to : ℕ} {a : Action} {d b : Block} → Loops a d → Fits fs k g a → LoopSees g a m h → from ≤ m → Placed fs k h m d l → l ≤ j
      → Placed fs k g j b to → Placed fs k g from (stmts (stmt at n a) b) to
  placed_wait : {g : Scope} {from m l j at n to : ℕ} {ns : List Awaited} {d b : Block} → Fits fs k g (wait ns d) → from ≤ m → Placed fs k g m d l → l ≤ j → Placed fs k g j b to
      → Placed fs k g from (stmts (stmt at n (wait ns d)) b) to
