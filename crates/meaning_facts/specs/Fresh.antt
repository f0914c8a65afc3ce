-- The fact base before the first round.
use Rattle.std.specs.Prelude.{◌≡◌, false, length}
use Rattle.meaning_facts.specs.declared.facts.Place.{Place}
use Rattle.meaning_facts.specs.declared.fact_base.FactBase.{FactBase}
use Rattle.meaning_facts.specs.Added.{IsNothing}
use Rattle.meaning_facts.specs.Paths.{IsTree}
use Rattle.meaning_facts.specs.Sighted.{closed_at}

-- empty, except for the instance of the script
pub record IsFresh (l : FactBase) : Type 0 where
  pub facts : IsNothing l.facts
  pub tree : IsTree l.instances
  pub one : length l.instances.all.items ≡ 1
  pub closed : (p : Place) → closed_at l p ≡ false
