use Rattle.std.proofs.Common.{◌++◌, map, ap, sym, ◌∙◌}
use Rattle.std.proofs.lemmas.Result.{on_ok_weaker}
use Rattle.syntax_trees.specs.View.{expression_view}
use Rattle.explain_warnings.specs.Mentions.{first_mistakes, argument_mistakes}
use Rattle.explain_warnings.proofs.First.{first_of}
use Rattle.explain_warnings.proofs.occurrences.name_uses.argument_mistakes.Goals as goal

pub returns-in-len1-up : goal.returns-in-len1-up
returns-in-len1-up g c =
    let f = expression_view {A = g.row.A.Denot} in
    let called = c.args.function.now.text.items in
    let same = first_of f called c.as_slice.result.now c.argument-item.result c.in-len1-up.len_at_least c.argument-item.is in
    on_ok_weaker c.first_mistakes.result (λ adds. adds ∙ ap (λ l. c.args.name_uses.now.items ++ l)
    (ap (λ t. first_mistakes t (f c.argument-item.result)) c.as_slice-in-len1-up.ensures.value ∙ sym same
    ∙ ap (λ xs. argument_mistakes called (map f xs)) c.as_slice.ensures.value)) c.first_mistakes.ensures
