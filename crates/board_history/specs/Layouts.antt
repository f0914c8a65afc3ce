-- Layouts of names in slots, and their obligations, so that the names of new instances resolve correctly.
use Rattle.std.specs.Prelude.{◌≡◌, ℕ, suc, Bool, List, ◌++◌, Option, Some}
use Rattle.dataflow.specs.System.{In}
use Rattle.board_history.specs.Ending.{Instance, job_slot}
use Rattle.board_history.specs.Fields.{Absent, Does, Frame, Layout, LiteralOf}
use Rattle.board_history.specs.Static.{names_in}
use Rattle.task_code.specs.Code.{ByCalls, Code, Fixed, InPlace, Name, Named, Parameter, Through, Way, argument, body, entry, nth, ways}
use Rattle.task_code.specs.Whole.{Declared}
use Rattle.values.specs.declared.value.Scalar.{Scalar}

-- a name one step further out, and a parameter of a function's body
abbrev pub outward : Name → Name
outward r = record { up = suc r.up; owned = r.owned }

abbrev pub parameter : ℕ → Bool → Name
parameter n a = record { up = 0; owned = Parameter n a }

-- the names of a body's entries
abbrev pub all_names : Code → ℕ → List Name
all_names C b = names_in C (λ e. e.reads ++ e.writes) b

-- the bodies that runs open: the script, and those that an entry of such a body opens
pub data Reached (C : Code) : ℕ → Type 0 where
  reached_script : Reached C 0
  reached_inside : (c i b : ℕ) (w : Way) → Reached C c → In i (body C c).entries → In (w, b) (ways (entry C i).act) → Reached C b

module _ (C : Code) (L : Layout) where
  -- a name that a wait's content does not declare is one instance further out, and so is an outer name of a branch or a
  -- turn; a parameter is in the instance itself
  pub record IsLayout : Type 0 where
    pub wait : (i b c : ℕ) (r : Name) → Reached C c → In i (body C c).entries → In (InPlace, b) (ways (entry C i).act) → In r (all_names C b) → (Declared C b r → ⊥) → (L.levels b r ≡ suc (L.levels c r)) × (L.slot b r ≡ L.slot c r)
    pub step : (i b c : ℕ) (r : Name) → Reached C c → In i (body C c).entries → In (Through, b) (ways (entry C i).act) → In (outward r) (all_names C b) → (L.levels b (outward r) ≡ suc (L.levels c r)) × (L.slot b (outward r) ≡ L.slot c r)
    pub call : (b n : ℕ) (a : Bool) → (body C b).opener ≡ ByCalls → In (parameter n a) (all_names C b) → L.levels b (parameter n a) ≡ 0

  -- a call fills the slots of the parameters: with the slots of the caller's names, and with its literals
  pub record Passes (fs : List (Option Frame)) (k e c : ℕ) (m : Instance) (f : Frame) : Type 0 where
    pub named : (n : ℕ) (a : Bool) (s : Name) → In (parameter n a) (all_names C m.body) → argument C (entry C e).offset n a ≡ Some (Named s) → In s ((entry C e).reads ++ (entry C e).writes) → nth Absent f.slots (L.slot m.body (parameter n a)) ≡ job_slot C L fs (Does k e c) s
    pub fixed : (n : ℕ) (a : Bool) (v : Scalar) → In (parameter n a) (all_names C m.body) → argument C (entry C e).offset n a ≡ Some (Fixed v) → nth Absent f.slots (L.slot m.body (parameter n a)) ≡ LiteralOf e n
