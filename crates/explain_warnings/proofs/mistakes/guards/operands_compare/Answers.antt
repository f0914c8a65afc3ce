use Rattle.std.proofs.Common.{◌-◌, ap, arith, drop, length, map, sym, ◌∙◌}
use Rattle.std.proofs.lemmas.Grind.{common_steps}
use Rattle.std.proofs.lemmas.List.{take_all}
use Rattle.language.specs.Tree.{expressions_of}
use Rattle.syntax_trees.specs.View.{expression_view}
use Rattle.explain_warnings.specs.Guards.{right_compares}
use Rattle.explain_warnings.proofs.Guarding.{first_left}
use Rattle.explain_warnings.proofs.mistakes.guards.operands_compare.Goals as goal

pub returns-in-len1-up : goal.returns-in-len1-up
returns-in-len1-up g c =
    let view = expression_view {A = g.row.A.Denot} in
    let xs = c.args.operands.now in
    c.right_compares.ensures
    ∙ ap (λ l. right_compares (view c.args.next.now) (view c.left-item.result) (expressions_of (map view l)))
    (take_all (length xs - 1) (drop 1 xs) (grind (arith, common_steps)))
    ∙ sym (first_left view (view c.args.next.now) xs c.left-item.result c.in-len1-up.len_at_least c.left-item.is)
