-- The meaning of a clean script is knowledge of the kind that is asked for.
use Rattle.std.proofs.Common.{max, arith}
use Rattle.language.specs.Core.{Core}
use Rattle.language.specs.Facts.{OneWriter}
use Rattle.language.specs.Meaning.{Meaning}
use Rattle.language.specs.Outcomes.{Clean}
use Rattle.language.specs.Places.{Place}
use Rattle.language.specs.Single.{SinglyAssigned}
use Rattle.language.specs.WellFormed.{WellFormed}
use Rattle.language_laws.proofs.Ever.{shut, backed, one_value, one_element}
use Rattle.language_laws.proofs.Rounds.{known_later}
use Rattle.language_laws.proofs.Whole as law
use Rattle.headline.specs.Knows.{Knows}

module _ (s : Core) (w : WellFormed s) (single : SinglyAssigned s) (clean : Clean s) where
  writers : (a : Place) → OneWriter (Meaning s) a
  writers a k u u' v v' h g =
      let m = max h.0 g.0 in
      clean m a k u u' v v' (known_later s h.0 m _ (omega arith) h.1) (known_later s g.0 m _ (omega arith) g.1)

  pub meaning_knows : Knows s (Meaning s)
  meaning_knows = record {
    shut = shut s w single;
    backed = backed s w single clean;
    one_value = one_value s w single;
    one_element = one_element s w single;
    one_writer = writers;
    one_scalar = λ p v u a b. law.one_scalar s w single p v u a b;
    listed = λ a d. law.listed_meaning s w single a d;
  }
