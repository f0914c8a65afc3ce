-- Holds that are added and given up, by the slots of addresses.
use Rattle.std.specs.Prelude.{◌≡◌, ◌+◌, ◌-◌, ◌<◌, ◌≤◌, ◌^◌, ℕ, true, false, List, [], ◌∷◌, Option, Some, None, if◌then◌else◌}
use Rattle.data_store.specs.Data.{is_spent, kept}
use Rattle.data_store.specs.Stores.{Store, at}
use Rattle.data_store.specs.declared.datum.Datum.{Datum}
use Rattle.dataflow.specs.System.{In}
use Rattle.board_data.specs.Data.{closes, held, is_keyed, released, writer_closed}

-- a call on the datum of a slot, if it has one
abbrev pub held_at : Option ℕ → (reads writes : ℕ) → Store → Store
held_at None r w s = s
held_at (Some d) r w s = held d r w s

abbrev pub released_at : Option ℕ → Store → Store
released_at None s = s
released_at (Some d) s = released d s

abbrev pub closed_at : Option ℕ → Store → Store
closed_at None s = s
closed_at (Some d) s = writer_closed d s

-- the array that it closes
abbrev pub closing : Option ℕ → Store → List ℕ
closing None s = []
closing (Some d) s = if closes (at s d) then d ∷ [] else []

-- both counts with these additions fit in 64 bits
abbrev pub Fit : (reads writes : ℕ) → Option Datum → Type 0
Fit r w None = Unit {0}
Fit r w (Some x) = (x.reads + r < 2 ^ 64) × (x.writes + w < 2 ^ 64)

-- these holds less
abbrev pub fewer : (reads writes : ℕ) → Datum → Datum
fewer r w x = record x { reads = x.reads - r; writes = x.writes - w }

-- each datum gives up these holds, and is removed if none is left
pub record GivesUp (reads writes : ℕ → ℕ) (old new : Store) : Type 0 where
  pub there : (d : ℕ) (x : Datum) → at old d ≡ Some x → is_spent x ≡ false → reads d ≤ x.reads → writes d ≤ x.writes → at new d ≡ kept (fewer (reads d) (writes d) x)
  pub nothing : (d : ℕ) → at old d ≡ None → at new d ≡ None

-- the arrays that this closes: those that lose their last holds for writing
pub record Closes (writes : ℕ → ℕ) (old : Store) (closed : List ℕ) : Type 0 where
  pub all : (d : ℕ) (x : Datum) → at old d ≡ Some x → is_keyed (Some x) ≡ true → 0 < x.writes → writes d ≡ x.writes → In d closed
  pub only : (d : ℕ) → In d closed → (x : Datum) × (at old d ≡ Some x) × (is_keyed (Some x) ≡ true) × (x.writes ≤ writes d)
