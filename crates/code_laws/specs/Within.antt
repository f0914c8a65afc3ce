-- The conditions on scopes of names that laid code of an accepted script satisfies: the entries of a body may read and
-- write only what is declared in it, or is the opener's.
use Rattle.std.specs.Prelude.{◌⊎◌, ℕ}
use Rattle.dataflow.specs.System.{In}
use Rattle.task_code.specs.Code.{Code, Name, Way, body, entry, ways}
use Rattle.task_code.specs.Whole.{Declared, Fixes, SeenFrom}

pub record IsWithin (C : Code) : Type 0 where
  pub script_reads : (j : ℕ) (r : Name) → In j (body C 0).entries → In r (entry C j).reads → Declared C 0 r
  pub script_writes : (j : ℕ) (r : Name) → In j (body C 0).entries → In r (entry C j).writes → Declared C 0 r
  pub reads : (i : ℕ) (w : Way) (b j : ℕ) (r : Name) → In (w, b) (ways (entry C i).act) → In j (body C b).entries → In r (entry C j).reads → (Declared C b r ⊎ SeenFrom C (λ e. e.reads) i w r) ⊎ Fixes C (entry C i).offset w r
  pub writes : (i : ℕ) (w : Way) (b j : ℕ) (r : Name) → In (w, b) (ways (entry C i).act) → In j (body C b).entries → In r (entry C j).writes → Declared C b r ⊎ SeenFrom C (λ e. e.writes) i w r
