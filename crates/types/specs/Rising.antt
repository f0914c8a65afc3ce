-- Recorded names in increasing order of their numbers.
use Rattle.std.specs.Prelude.{◌≡◌, ℕ, ◌<◌, ◌≤◌, List, [], ◌∷◌, ◌++◌}
use Rattle.types.specs.declared.typed.NameEntry.{NameEntry}

-- a list whose numbers increase and are all below n
pub data Rises : ℕ → List NameEntry → Type 0 where
  none_settled : {n : ℕ} → Rises n []
  one_settled : {n m : ℕ} {ss rs : List NameEntry} → (s : NameEntry) → Rises n ss → n ≤ s.number → s.number < m → rs ≡ ss ++ s ∷ [] → Rises m rs
