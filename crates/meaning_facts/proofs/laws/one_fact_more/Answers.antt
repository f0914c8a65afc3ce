use Rattle.meaning_steps.specs.Taken.{Knows}
use Rattle.meaning_facts.proofs.Growing as law
use Rattle.meaning_facts.proofs.laws.one_fact_more.Goals as goal

pub returns : goal.returns
returns c = λ fs l k f h keeps added within agreed. law.fact_more (Knows fs) l k h keeps f added within agreed
