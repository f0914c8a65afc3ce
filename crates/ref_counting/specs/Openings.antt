-- The entries that open each body, and the opened bodies that contain each entry, as lists by number.
use Rattle.std.specs.Prelude.{◌≡◌, ℕ, ◌<◌, List, length}
use Rattle.dataflow.specs.System.{In}
use Rattle.task_code.specs.Code as pure
use Rattle.task_code.specs.Code.{Code, InPlace, Through, Calling, body, entry, ways}
use Rattle.ref_counting.specs.declared.openings.BodyOpening.{BodyOpening}
use Rattle.ref_counting.specs.declared.openings.OpenKind.{OpenKind}
use Rattle.ref_counting.specs.declared.openings.OpenKind.TheVariants as Is
use Rattle.ref_counting.specs.Rows.{row, Fills}

abbrev pub way_of : OpenKind → pure.Way
way_of Is.InPlace = InPlace
way_of Is.Through = Through
way_of Is.Calling = Calling

-- these openings contain one by this entry in this way
pub record Noted (i : ℕ) (w : pure.Way) (os : List BodyOpening) : Type 0 where
  pub opening : BodyOpening
  pub there : In opening os
  pub of : opening.entry ≡ i
  pub by : way_of opening.way ≡ w

-- the bodies that an entry opens are recorded, and nothing else is
pub record NotesAll (i : ℕ) (ws : List (pure.Way × ℕ)) (old new : List (List BodyOpening)) : Type 0 where
  pub fills : Fills (λ b o. (o.entry ≡ i) × In (way_of o.way, b) ws) old new
  pub all : (w : pure.Way) (b : ℕ) → In (w, b) ws → b < length old → Noted i w (row new b)

-- the body is recorded for its entries, and nothing else is
pub record NotesHomes (b : ℕ) (js : List ℕ) (old new : List (List ℕ)) : Type 0 where
  pub fills : Fills (λ j c. (c ≡ b) × In j js) old new
  pub all : (j : ℕ) → In j js → j < length old → In b (row new j)

module _ (C : Code) where
  -- the entries below a number that open each body
  pub record OpeningsUpTo (n : ℕ) (os : List (List BodyOpening)) : Type 0 where
    pub count : length os ≡ length C.bodies
    pub only : (b : ℕ) (o : BodyOpening) → In o (row os b) → In (way_of o.way, b) (ways (entry C o.entry).act)
    pub all : (i b : ℕ) (w : pure.Way) → i < n → b < length C.bodies → In (w, b) (ways (entry C i).act) → Noted i w (row os b)

  abbrev pub AreOpenings : List (List BodyOpening) → Type 0
  AreOpenings os = OpeningsUpTo (length C.entries) os

  -- an entry opens the body
  pub record IsOpened (b : ℕ) : Type 0 where
    pub opener : ℕ
    pub way : pure.Way
    pub opens : In (way, b) (ways (entry C opener).act)

  -- the body is recorded for its entries if an entry opens it, and nothing else is
  pub record NotesOpened (b : ℕ) (old new : List (List ℕ)) : Type 0 where
    pub fills : Fills (λ j c. (c ≡ b) × In j (body C b).entries) old new
    pub all : IsOpened b → (j : ℕ) → In j (body C b).entries → j < length old → In b (row new j)

  -- the bodies below a number that an entry opens, listed for each of their entries
  pub record HomesUpTo (n : ℕ) (hs : List (List ℕ)) : Type 0 where
    pub count : length hs ≡ length C.entries
    pub only : (j b : ℕ) → In b (row hs j) → In j (body C b).entries
    pub all : (j b : ℕ) → b < n → IsOpened b → j < length C.entries → In j (body C b).entries → In b (row hs j)

  abbrev pub AreHomes : List (List ℕ) → Type 0
  AreHomes hs = HomesUpTo (length C.bodies) hs
