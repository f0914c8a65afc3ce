use Rattle.std.proofs.Common.{◌≡◌, ap, sym, ◌∙◌, arith}
use Rattle.std.proofs.lemmas.Grind.{common_steps}
use Rattle.language.specs.Tree.{function}
use Rattle.syntax_trees.specs.View.{composite_of, part_of}
use Rattle.syntax_trees.proofs.copy.copy_item.Goals as goal

pub returns-in_ok-new-in-Function : goal.returns-in_ok-new-in-Function
returns-in_ok-new-in-Function g c =
    let boxed : c.in_ok-new-in-Function.field-0.value ≡ c.in_ok-copy_function-in-Function.field-0 = grind (arith, common_steps) in
    ap (λ f. function (composite_of f)) boxed
    ∙ ap function (c.in_ok-copy_function-in-Function.ensures ∙ ap composite_of c.deref.ensures)
    ∙ sym (ap part_of c.in-Function.is)
