-- The name that an entry that opens a body has for a name of the body.
use Rattle.std.specs.Prelude.{◌≡◌, ℕ, Bool, List, Option, Some}
use Rattle.dataflow.specs.System.{In}
use Rattle.task_code.specs.Code as pure
use Rattle.task_code.specs.Code.{Argument, Code, Named, Variable, Way, entry, here, is_array_name}
use Rattle.task_code.specs.declared.entry.Name.{Name}
use Rattle.task_code.specs.View.{name_view}
use Rattle.task_code.specs.Whole.{Declared, Seen}
use Rattle.ref_counting.specs.declared.declarations.DeclaredIn.{DeclaredIn}
use Rattle.ref_counting.specs.Makes.{made_by}

-- the answer is the one name that satisfies the condition, or none if there is none
pub record Answers (answer : Option Name) (P : pure.Name → Type 0) : Type 0 where
  pub such : (x : Name) → answer ≡ Some x → P (name_view x)
  pub all : (r : pure.Name) → P r → (x : Name) × (answer ≡ Some x) × (name_view x ≡ r)

-- an argument passes a name that is an array or a scalar, as b requires
abbrev pub Hands : Argument → Bool → pure.Name → Type 0
Hands a b r = (a ≡ Named r) × (is_array_name r ≡ b)

-- the name itself, unless the body is recorded to declare it
pub record Outlives (ms : List DeclaredIn) (b : ℕ) (q r : pure.Name) : Type 0 where
  pub lives : (v : Variable) → q ≡ here v → In (made_by b v) ms → ⊥
  pub is : q ≡ r

-- the body does not declare the name, and r is the name that the opening entry has for it
pub record Sees (C : Code) (i : ℕ) (w : Way) (b : ℕ) (q r : pure.Name) : Type 0 where
  pub outer : Declared C b q → ⊥
  pub seen : Seen C (entry C i).offset w q r
