use Rattle.std.proofs.Common.{arith, ap, ◌∙◌, ℕ, List}
use Rattle.std.proofs.lemmas.Grind.{common_steps}
use Rattle.task_code.specs.Code.{nth}
use Rattle.code_listing.proofs.Ordering.{nth_zero}
use Rattle.code_listing.proofs.bodies.zeros.Goals as goal

pub loop-preserved : goal.loop-preserved
loop-preserved c = record {
  many = grind (arith, common_steps);
  each = λ b. ap (λ (z : List ℕ). nth 0 z b) c.in_ok-push.ensures.items ∙ nth_zero c.loop.zeros.items b ∙ c.loop.invariant.each b;
}
