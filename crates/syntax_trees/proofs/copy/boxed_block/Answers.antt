use Rattle.std.proofs.Common.{◌≡◌, ap, ◌∙◌, arith}
use Rattle.std.proofs.lemmas.Grind.{common_steps}
use Rattle.syntax_trees.specs.View.{body_view}
use Rattle.syntax_trees.proofs.copy.boxed_block.Goals as goal

pub returns : goal.returns
returns g c =
    let boxed : c.in_ok-new.field-0.value ≡ c.block.result = grind (arith, common_steps) in
    ap body_view boxed ∙ c.block.ensures
