-- Declarations of the bodies that a `wait` opens, as a list.
use Rattle.std.specs.Prelude.{ℕ, ◌<◌, ◌⊎◌, ◌≡◌, List, length}
use Rattle.dataflow.specs.System.{In}
use Rattle.task_code.specs.Code.{Code, InPlace, Variable, Way, body, entry, ways}
use Rattle.ref_counting.specs.declared.declarations.DeclaredIn.{DeclaredIn}

abbrev pub made_by : ℕ → Variable → DeclaredIn
made_by b v = record { body = b; node = v.node; array = v.array }

abbrev pub variable_of : DeclaredIn → Variable
variable_of m = record { node = m.node; array = m.array }

-- the variables of a body are recorded, and nothing else is
pub record NotesMade (b : ℕ) (vs : List Variable) (old new : List DeclaredIn) : Type 0 where
  pub kept : (m : DeclaredIn) → In m old → In m new
  pub only : (m : DeclaredIn) → In m new → In m old ⊎ ((m.body ≡ b) × In (variable_of m) vs)
  pub all : (v : Variable) → In v vs → In (made_by b v) new

module _ (C : Code) where
  -- a `wait` opens the body
  pub record IsWaited (b : ℕ) : Type 0 where
    pub opener : ℕ
    pub opens : In {X = Way × ℕ} (InPlace, b) (ways (entry C opener).act)

  -- the variables of a body are recorded if a `wait` opens it, and nothing else is
  pub record NotesWaited (b : ℕ) (old new : List DeclaredIn) : Type 0 where
    pub kept : (m : DeclaredIn) → In m old → In m new
    pub only : (m : DeclaredIn) → In m new → In m old ⊎ ((m.body ≡ b) × In (variable_of m) (body C b).makes)
    pub all : IsWaited b → (v : Variable) → In v (body C b).makes → In (made_by b v) new

  -- the declarations of the bodies below a number that a `wait` opens
  pub record MadeUpTo (n : ℕ) (ms : List DeclaredIn) : Type 0 where
    pub only : (m : DeclaredIn) → In m ms → In (variable_of m) (body C m.body).makes
    pub all : (b : ℕ) (v : Variable) → b < n → IsWaited b → In v (body C b).makes → In (made_by b v) ms

  abbrev pub AreMade : List DeclaredIn → Type 0
  AreMade ms = MadeUpTo (length C.bodies) ms
