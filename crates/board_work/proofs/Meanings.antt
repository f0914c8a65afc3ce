-- What an outcome means follows from its parts.
use Rattle.std.proofs.Common.{◌≡◌, List, ap, sym}
use Rattle.std.proofs.lemmas.Option.{none-some, same_Some}
use Rattle.dataflow.specs.System.{Answer}
use Rattle.values.specs.declared.key.Key.{Key}
use Rattle.values.specs.declared.value.Scalar.{Scalar}
use Rattle.task_code.specs.Code.{Act, Cell, Read, Call, Set, Fill, Copy, InsertElement, Print, Assert, If, Range, Each, Wait}
use Rattle.task_code.specs.Compute as Pure
use Rattle.board_work.specs.declared.outcome.Outcome.{Outcome}
use Rattle.board_work.specs.declared.outcome.Outcome.TheVariants as Of
use Rattle.board_work.specs.Outcome.{computed_in, control_in, control_result, result_in}
use Rattle.board_work.specs.Assigned.{Task, opens_script, runs, job_computed, job_control, job_result, meaning}

pub computed_of_parts : (a : Act) (xs : List (Answer Key Scalar)) (o : Outcome) → result_in o ≡ Pure.leaf_result a xs → control_in o ≡ control_result a xs → computed_in a o ≡ Pure.compute a xs
computed_of_parts (Cell e) xs (Of.Leaf v) p q = ap Pure.given (same_Some _ _ p)
computed_of_parts (Cell e) xs (Of.Control made) p q = absurd (none-some _ p)
computed_of_parts Read xs (Of.Leaf v) p q = absurd (none-some _ (sym p))
computed_of_parts Read xs (Of.Control made) p q = same_Some _ _ q
computed_of_parts (Call b rs os) xs (Of.Leaf v) p q = absurd (none-some _ (sym p))
computed_of_parts (Call b rs os) xs (Of.Control made) p q = same_Some _ _ q
computed_of_parts (Set r e) xs (Of.Leaf v) p q = ap Pure.given (same_Some _ _ p)
computed_of_parts (Set r e) xs (Of.Control made) p q = absurd (none-some _ p)
computed_of_parts (Fill r es) xs (Of.Leaf v) p q = ap Pure.filled (same_Some _ _ p)
computed_of_parts (Fill r es) xs (Of.Control made) p q = absurd (none-some _ p)
computed_of_parts (Copy r) xs (Of.Leaf v) p q = absurd (none-some _ (sym p))
computed_of_parts (Copy r) xs (Of.Control made) p q = same_Some _ _ q
computed_of_parts (InsertElement r i e) xs (Of.Leaf v) p q = absurd (none-some _ (sym p))
computed_of_parts (InsertElement r i e) xs (Of.Control made) p q = same_Some _ _ q
computed_of_parts (Print e) xs (Of.Leaf v) p q = ap Pure.given (same_Some _ _ p)
computed_of_parts (Print e) xs (Of.Control made) p q = absurd (none-some _ p)
computed_of_parts (Assert e) xs (Of.Leaf v) p q = ap Pure.given (same_Some _ _ p)
computed_of_parts (Assert e) xs (Of.Control made) p q = absurd (none-some _ p)
computed_of_parts (If e b d) xs (Of.Leaf v) p q = absurd (none-some _ (sym p))
computed_of_parts (If e b d) xs (Of.Control made) p q = same_Some _ _ q
computed_of_parts (Range l h s w) xs (Of.Leaf v) p q = absurd (none-some _ (sym p))
computed_of_parts (Range l h s w) xs (Of.Control made) p q = same_Some _ _ q
computed_of_parts (Each w) xs (Of.Leaf v) p q = absurd (none-some _ (sym p))
computed_of_parts (Each w) xs (Of.Control made) p q = same_Some _ _ q
computed_of_parts (Wait hs b) xs (Of.Leaf v) p q = absurd (none-some _ (sym p))
computed_of_parts (Wait hs b) xs (Of.Control made) p q = same_Some _ _ q

pub meaning_of_parts : (t : Task) (xs : List (Answer Key Scalar)) (o : Outcome) → result_in o ≡ job_result t xs → control_in o ≡ job_control t xs → meaning t o ≡ job_computed t xs
meaning_of_parts opens_script xs (Of.Leaf v) r c = absurd (none-some _ (sym r))
meaning_of_parts opens_script xs (Of.Control made) r c = same_Some _ _ c
meaning_of_parts (runs e) xs o r c = computed_of_parts e.act xs o r c
