use Rattle.std.specs.Prelude.{refl}
use Rattle.language.specs.Meaning.{Known}
use Rattle.meaning_cells.specs.Chosen.{key_in}
use Rattle.meaning_invariants.specs.Active.{taken_by}
use Rattle.meaning_invariants.proofs.EndedTurning as law
use Rattle.meaning_invariants.proofs.ended_laws.what_a_variable_is.Goals as goal

pub returns-clause-given : goal.returns-clause-given
returns-clause-given c = λ s n l ls path g loops sees at node header vs m o e ready i below x v turn.
    law.by_ready s loops at node (Known s n) (taken_by l ls) path g sees header vs m o e ready i below (key_in o i) refl x v turn

pub returns-clause-so : goal.returns-clause-so
returns-clause-so c = λ s n l ls path g sees header vs o e ready i below x v h. law.by_given s (Known s n) (taken_by l ls) path g sees header vs o e ready i below x v h
