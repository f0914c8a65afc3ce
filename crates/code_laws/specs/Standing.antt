-- The conditions on whole code that laid code with exact rights of any script satisfies: all that involve no scope of a
-- name.
use Rattle.std.specs.Prelude.{◌≡◌, ℕ, ◌<◌, true, length, Some}
use Rattle.dataflow.specs.System.{Distinct, In}
use Rattle.task_code.specs.Code.{ByMain, Calling, Code, InPlace, Loop, Name, Need, Variable, Way, body, call_at, entry, here, loop_of, loop_variables, needed, targets, ways}
use Rattle.task_code.specs.Shape.{is_shaped}
use Rattle.task_code.specs.Whole.{OpenedBy}

module _ (C : Code) where
  -- each call is found by the offset that a listing shows
  abbrev pub CallsAreFound : Type 0
  CallsAreFound = (i b : ℕ) → In (Calling, b) (ways (entry C i).act) → call_at C (entry C i).offset ≡ i

  pub record IsStanding : Type 0 where
    pub script : (body C 0).opener ≡ ByMain
    pub shape : (i : ℕ) → is_shaped (entry C i) ≡ true
    pub there : (b j : ℕ) → In j (body C b).entries → j < length C.entries
    pub needs : (i : ℕ) (n : Need) (r : Name) → In n (entry C i).needs → In r (needed n) → In r (entry C i).reads
    pub stores : (i : ℕ) (r : Name) → In r (targets (entry C i)) → In r (entry C i).writes
    pub opened : (i : ℕ) (w : Way) (b : ℕ) → In (w, b) (ways (entry C i).act) → OpenedBy C i w (body C b).opener
    pub inside : (i b : ℕ) (v : Variable) → In (InPlace, b) (ways (entry C i).act) → In v (body C b).makes → In (here v) (entry C i).writes → ⊥
    pub made : (i : ℕ) (l : Loop) (v : Variable) → loop_of (entry C i).act ≡ Some l → In v (loop_variables l) → In v (body C l.body).makes
    pub distinct : (i : ℕ) (l : Loop) → loop_of (entry C i).act ≡ Some l → Distinct (loop_variables l)
    pub makes_once : (b b' : ℕ) (v : Variable) → In v (body C b).makes → In v (body C b').makes → b ≡ b'
    pub entries_once : (b b' j : ℕ) → In j (body C b).entries → In j (body C b').entries → b ≡ b'
    pub entries_distinct : (b : ℕ) → Distinct (body C b).entries
