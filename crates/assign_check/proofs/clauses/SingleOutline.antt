-- What single assignment asks of one outline: the definition's clauses, said of outlines in place of blocks.
use Rattle.std.specs.Prelude.{◌≡◌, ◌⊎◌, ℕ, ◌≤◌}
use Rattle.lexer.specs.declared.token.Span.{Span}
use Rattle.language.specs.Core.{Owned}
use Rattle.language.specs.Members.{◌∈◌}
use Rattle.assign_check.specs.Outline.{Kind, named, written, read, Use, result, given, Declared, Outline, declares, splits, repeats}
use Rattle.assign_check.specs.Through.{HasStep, BlockIn, Within, OnWay}
use Rattle.assign_check.specs.Faults.{uses_in}

-- the variable is used so in a block or inside it
pub record HasUse (k : Kind) (x : Owned) (o : Outline) : Type 0 where
  pub use_there : Use
  pub there : use_there ∈ uses_in o
  pub kind : use_there.kind ≡ k
  pub is : use_there.of ≡ x

-- the variable is declared in a block, and is to be assigned there or counts as assigned
pub record Owns (o : Outline) (d : Declared) (b : Outline) : Type 0 where
  pub block : BlockIn b o
  pub declared : HasStep (declares d) b

pub record Single (o : Outline) : Type 0 where
  pub once : (d : Declared) (b : Outline) (n : ℕ) → Owns o d b → (d.role ≡ given → ⊥) → OnWay d.what b n → n ≤ 1
  pub given_once : (d : Declared) (b : Outline) (n : ℕ) → Owns o d b → d.role ≡ given → OnWay d.what b n → n ≡ 0
  pub alike : (d : Declared) (b : Outline) (n : ℕ) (at : Span) (p q : Outline) (i j : ℕ) → Owns o d b → (d.role ≡ given → ⊥) → Within (splits n at p q) b
      → OnWay d.what p i → OnWay d.what q j → i ≡ j
  pub assigned : (d : Declared) (b : Outline) → Owns o d b → (d.role ≡ given → ⊥) → HasUse read d.what b → HasUse named d.what b
  pub outside_loops : (d : Declared) (b : Outline) (n : ℕ) (p : Outline) → Owns o d b → Within (repeats n p) b → HasUse named d.what p → ⊥
  pub one_form : (d : Declared) (b : Outline) → Owns o d b → (d.role ≡ given → ⊥) → HasUse named d.what b → HasUse written d.what b → ⊥
  pub given_form : (d : Declared) (b : Outline) → Owns o d b → d.role ≡ given → HasUse written d.what b → ⊥
  pub output_assigned : (d : Declared) (b : Outline) → Owns o d b → d.role ≡ result → HasUse named d.what b ⊎ HasUse written d.what b
