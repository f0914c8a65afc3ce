use Rattle.meaning_cells.proofs.Readying.{chosen_ready, ready_chosen}
use Rattle.meaning_steps.specs.Taken.{Knows, taken}
use Rattle.meaning_cells.proofs.laws.what_is_ready.Goals as goal

pub returns-clause-ready : goal.returns-clause-ready
returns-clause-ready c = λ s fs ls cs us path g sees a o e. let r = chosen_ready s (Knows fs) (taken ls cs us) path g sees a o e in (r.values, r.ready, r.opens)

pub returns-clause-chosen : goal.returns-clause-chosen
returns-clause-chosen c = λ s fs ls cs us path g sees a vs b ready. let r = ready_chosen s (Knows fs) (taken ls cs us) path g sees a vs b ready in (r.choice, r.chosen_is, r.opens)
