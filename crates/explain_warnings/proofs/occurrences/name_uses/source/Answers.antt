use Rattle.std.proofs.Common.{rules, ◌≡◌, ◌++◌, ap, sym, ◌∙◌}
use Rattle.std.proofs.lemmas.Result.{on_ok_weaker}
use Rattle.syntax_trees.specs.View.{over_of, range_of}
use Rattle.language.specs.Tree.{Over}
use Rattle.explain_warnings.specs.Mentions.{over_mentions}
use Rattle.explain_warnings.proofs.occurrences.name_uses.source.Goals as goal

pub returns-in-Range : goal.returns-in-Range
returns-in-Range g c =
    let content : c.deref.result.now ≡ c.in-Range.range.value = search rules in
    on_ok_weaker c.add_range.result
    (λ adds. adds ∙ ap (λ (o : Over). c.args.name_uses.now.items ++ over_mentions o) (ap (range_of {A = g.row.A.Denot}) content ∙ ap (over_of {A = g.row.A.Denot}) (sym c.in-Range.is)))
    c.add_range.ensures
