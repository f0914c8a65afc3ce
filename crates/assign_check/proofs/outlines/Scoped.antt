-- Outlines whose uses are of visible variables, and whose declarations and statements have numbers in reading order.
use Rattle.std.specs.Prelude.{◌≡◌, ℕ, suc, ◌≤◌, List, [], ◌∷◌}
use Rattle.lexer.specs.declared.token.Span.{Span}
use Rattle.language.specs.declared.tree.Keys.{Keys}
use Rattle.language.specs.declared.tree.Shape.{Shape}
use Rattle.language.specs.declared.tree.Shape.TheVariants.{Array}
use Rattle.language.specs.Core.{Owned, local}
use Rattle.language.specs.Members.{◌∈◌}
use Rattle.assign_check.specs.Outline.{read, Use, own, result, Declared, Outline, nothing, followed, declares, uses, splits, repeats, encloses}

-- a variable that is visible here: what it is, and whether it is a scalar or an array
pub record Seen : Type 0 where
  pub what : Owned
  pub shape : Shape

-- a name is that of a visible variable; what is read is no array
pub record Sees (vs : List Seen) (u : Use) : Type 0 where
  pub variable : Seen
  pub visible : variable ∈ vs
  pub is : variable.what ≡ u.of
  pub scalar : (κ : Keys) → variable.shape ≡ Array κ → u.kind ≡ read → ⊥

abbrev pub seen : Declared → Seen
seen d = record { what = d.what; shape = d.shape }

-- a block, with the variables that are visible at its beginning; its numbers are at least the first and below the second
pub data Scoped : List Seen → ℕ → Outline → ℕ → Type 0 where
  scoped_end : {vs : List Seen} {from to : ℕ} → from ≤ to → Scoped vs from nothing to
  scoped_declaration : {vs : List Seen} {from n to : ℕ} {d : Declared} {o : Outline} → d.what ≡ local n → (d.role ≡ result → ⊥) → from ≤ n
      → Scoped (seen d ∷ vs) (suc n) o to → Scoped vs from (followed (declares d) o) to
  scoped_use : {vs : List Seen} {from to : ℕ} {u : Use} {o : Outline} → Sees vs u → Scoped vs from o to → Scoped vs from (followed (uses u) o) to
  scoped_split : {vs : List Seen} {from n m k to : ℕ} {at : Span} {p q o : Outline} → from ≤ n → Scoped vs (suc n) p m → Scoped vs m q k → Scoped vs k o to
      → Scoped vs from (followed (splits n at p q) o) to
  scoped_loop : {vs : List Seen} {from n m to : ℕ} {p o : Outline} → from ≤ n → Scoped vs (suc n) p m → Scoped vs m o to → Scoped vs from (followed (repeats n p) o) to
  scoped_wait : {vs : List Seen} {from m to : ℕ} {p o : Outline} → Scoped vs from p m → Scoped vs m o to → Scoped vs from (followed (encloses p) o) to

abbrev pub IsLocal : Owned → Type 0
IsLocal (local n) = Unit {0}
IsLocal _ = ⊥

-- a script's own block, or a function's body behind its outputs and inputs, each of them another
pub data ScopedBody : List Seen → Outline → Type 0 where
  behind_parameters : {vs : List Seen} {from to : ℕ} {o : Outline} → Scoped vs from o to → ScopedBody vs o
  a_parameter : {vs : List Seen} {d : Declared} {o : Outline} → ¬ IsLocal d.what → (d.role ≡ own → ⊥) → ((v : Seen) → v ∈ vs → v.what ≡ d.what → ⊥) → ScopedBody (seen d ∷ vs) o
      → ScopedBody vs (followed (declares d) o)

abbrev pub IsScoped : Outline → Type 0
IsScoped o = ScopedBody [] o
