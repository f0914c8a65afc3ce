-- What is right is so.
use Rattle.std.specs.Prelude.{◌≡◌, true, List, Option, Some, None, refl}
use Rattle.std.proofs.Common.{subst}
use Rattle.values.specs.declared.value.Scalar.{Scalar}
use Rattle.values.specs.declared.value.Value.{Value}
use Rattle.values.specs.declared.value.Value.TheVariants.{One, Many}
use Rattle.language.specs.Core.{Core}
use Rattle.language.specs.Facts.{Knowledge, OneWriter}
use Rattle.language.specs.Meaning.{Closed, closed, HasValue, stored, LiveStmt}
use Rattle.language.specs.Places.{Path, Place}
use Rattle.meaning_steps.specs.Kept.{scalar_by}
use Rattle.meaning_steps.specs.Taken.{IsSo}
use Rattle.meaning_facts.specs.declared.fact_base.FactBase.{FactBase}
use Rattle.meaning_facts.specs.Growing.{KeepsFacts}
use Rattle.meaning_facts.specs.Keeping.{kept_of}
use Rattle.meaning_invariants.specs.Active.{Active, active, taken_by, IsRight}

one_writer : {s : Core} {K : Knowledge} {a : Place} → Closed s K a → OneWriter K a
one_writer (closed l m f o) = o

module _ (s : Core) (K : Knowledge) (l : FactBase) (ls : List Active) where
  pub right_apart : IsRight s K l ls → (a : Place) → (kept_of l).closed a ≡ true → OneWriter K a
  right_apart right a e = one_writer (right.closed a e)

  scalar_so : KeepsFacts K l → IsRight s K l ls → (p : Place) (o : Option Value) (v : Scalar) → (kept_of l).value p ≡ o → scalar_by o ((kept_of l).turn p) ≡ Some v → HasValue s K p v
  scalar_so keeps right p (Some (One u)) v e q = let same : u ≡ v = cc (q) in subst (λ (z : Scalar). HasValue s K p z) same (stored (keeps.value_so p (One u) e))
  scalar_so keeps right p (Some (Many es)) v e q = right.turn p v q
  scalar_so keeps right p None v e q = right.turn p v q

  pub right_so : KeepsFacts K l → IsRight s K l ls → IsSo s K (taken_by l ls)
  right_so keeps right = record {
    live = λ path st h. subst (λ (z : Path). LiveStmt s K z st) h.path_is (right.live (active h.instance st) h.there);
    closed = λ a e. right.closed a e;
    has = λ p v e. scalar_so keeps right p ((kept_of l).value p) v refl e;
  }
