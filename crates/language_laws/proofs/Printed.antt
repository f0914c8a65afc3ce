-- The lines of the examples, and nothing else.
use Rattle.std.specs.Prelude.{[], ◌∷◌, refl, codes}
use Rattle.language_laws.specs.Examples as example
use Rattle.language.specs.Meaning.{Meaning}
use Rattle.language.specs.Outcomes.{Lines}
use Rattle.language_laws.proofs.Loop.{prints_four}
use Rattle.language_laws.proofs.Passing as passing
use Rattle.language_laws.proofs.Printing.{flat_prints, main_prints, one_line}
use Rattle.language_laws.proofs.Scripts.{prints_three, prints_both}

pub three : Lines (Meaning example.read_before_assignment) (codes "3" ∷ [])
three = let k = passing.read_before_assignment in one_line example.read_before_assignment k.0 k.1 14 _ (flat_prints example.read_before_assignment refl) (codes "3") (3, prints_three)

pub four : Lines (Meaning example.loop_reads_what_it_writes) (codes "4" ∷ [])
four = let k = passing.loop_reads_what_it_writes in one_line example.loop_reads_what_it_writes k.0 k.1 23 _ (main_prints example.loop_reads_what_it_writes refl) (codes "4") (8, prints_four)

pub four_eight : Lines (Meaning example.outputs_are_the_callers) (codes "4 8" ∷ [])
four_eight = let k = passing.outputs_are_the_callers in one_line example.outputs_are_the_callers k.0 k.1 28 _ (main_prints example.outputs_are_the_callers refl) (codes "4 8") (4, prints_both)
