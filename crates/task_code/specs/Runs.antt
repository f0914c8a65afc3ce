-- Observations of a state of code: its blocked statements, and the statement of its fault.
use Rattle.std.specs.Prelude.{◌≡◌, ◌⊎◌, ℕ, Bool, true, false, List, [], ◌∷◌, Some}
use Rattle.dataflow.specs.System.{In, Input, Effect}
use Rattle.dataflow.specs.Facts.{Live, Known, Ever, EverGiven}
use Rattle.dataflow.specs.Machine.{Fault, IsKnown}
use Rattle.values.specs.declared.key.Key.{Key}
use Rattle.values.specs.declared.value.Scalar.{Scalar}
use Rattle.task_code.specs.Code.{Need, Header, Act, Cell, Read, Call, Set, Fill, Copy, InsertElement, Print, Assert, If, Range, Each, Wait, Code, entry}
use Rattle.task_code.specs.Compute.{EntryFault}
use Rattle.task_code.specs.Places.{Step, Place}
use Rattle.task_code.specs.Effects.{Task, Item}
use Rattle.task_code.specs.System.{inputs_at, code_system}
use Rattle.task_code.specs.Machine.{CodeItem, CodeState}

-- the statements that can be blocked: assignments, `printf`, `assert`, and the headers of `if`, `foreach` and `wait`
abbrev pub counts : Act → Bool
counts (Cell e) = false
counts Read = false
counts (Call b rs os) = false
counts (Set r e) = true
counts (Fill r es) = true
counts (Copy r) = true
counts (InsertElement r i e) = true
counts (Print e) = true
counts (Assert e) = true
counts (If e b d) = true
counts (Range l h s w) = true
counts (Each w) = true
counts (Wait hs b) = true

module _ (C : Code) (IsIn : Input Place Key → Type 0) where
  -- all needs of a header are known
  abbrev pub IsHeaderKnown : List Step → Header → Type 0
  IsHeaderKnown p h = (n : Need) (i : Input Place Key) → In n h.needs → In i (inputs_at C p n) → IsIn i

  -- the first header with an unknown need has this offset
  abbrev pub FirstUnknown : List Step → List Header → ℕ → Type 0
  FirstUnknown p [] at = ⊥
  FirstUnknown p (h ∷ hs) at = ((IsHeaderKnown p h → ⊥) × (at ≡ h.at)) ⊎ (IsHeaderKnown p h × FirstUnknown p hs at)

  -- the offset at which a statement of this act is blocked: merged waits at the outermost one with an unknown name,
  -- others at their own offset
  abbrev pub IsBlockedAt : List Step → Act → ℕ → ℕ → Type 0
  IsBlockedAt p (Wait hs b) own at = FirstUnknown p hs at
  IsBlockedAt p _ own at = at ≡ own

module _ (C : Code) where
  -- a blocked statement of a quiet state: the statement's own item has not ended
  pub record Blocked (s : CodeState) (at : ℕ) (path : List Step) : Type 0 where
    pub item : CodeItem
    pub there : In item s.items
    pub number : ℕ
    pub chunk : ℕ
    pub is : item.task ≡ Item number path chunk
    pub counted : counts (entry C number).act ≡ true
    pub stands : IsBlockedAt C (IsKnown (code_system C) s) path (entry C number).act (entry C number).at at

  -- a blocked statement of the code's meaning: it is live and never has its fact
  pub record EverBlocked (at : ℕ) (path : List Step) : Type 0 where
    pub round : ℕ
    pub number : ℕ
    pub chunk : ℕ
    pub live : Live (code_system C) (Known (code_system C) round) (Item number path chunk)
    pub never : (e : Effect Task Place Key Scalar) → Ever (code_system C) (Item number path chunk) e → ⊥
    pub counted : counts (entry C number).act ≡ true
    pub stands : IsBlockedAt C (EverGiven (code_system C)) path (entry C number).act (entry C number).at at

  -- the fault is reported at the statement of the entry that caused it
  pub record FaultAt (s : CodeState) (fault : Fault EntryFault) (at : ℕ) (path : List Step) : Type 0 where
    pub number : ℕ
    pub chunk : ℕ
    pub is : s.fault ≡ Some (Item number path chunk, fault)
    pub stands : at ≡ (entry C number).at
