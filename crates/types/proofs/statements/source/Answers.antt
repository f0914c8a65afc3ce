use Rattle.std.proofs.Common.{◌≡◌, ap, sym, ◌∙◌}
use Rattle.std.proofs.lemmas.Result.{err_from_is_err_and}
use Rattle.language.specs.Tree.{Over}
use Rattle.syntax_trees.specs.View.{over_of, range_of}
use Rattle.types.specs.Known.{around_of}
use Rattle.types.specs.Functions.{signatures_of}
use Rattle.types.specs.Statements as steps
use Rattle.types.proofs.statements.source.Goals as goal

pub returns-in_ok-given-in-Range : goal.returns-in_ok-given-in-Range
returns-in_ok-given-in-Range g c =
    let over : over_of c.args.source.now ≡ range_of c.deref.result.now = ap over_of c.in-Range.is ∙ sym (ap range_of c.deref.ensures) in
    ap (λ (o : Over). steps.source (signatures_of c.args.functions.now) (around_of c.args.scope.now) o c.args.settled.now.items) over ∙ c.in_ok-given-in-Range.ensures

pub returns-in_err-given-in-Range : goal.returns-in_err-given-in-Range
returns-in_err-given-in-Range g c =
    let over : over_of c.args.source.now ≡ range_of c.deref.result.now = ap over_of c.in-Range.is ∙ sym (ap range_of c.deref.ensures) in
    let p = err_from_is_err_and c.from_residual-in_err-given-in-Range.result c.from_residual-in_err-given-in-Range.ensures.1 in
    rw (p.1, p.2) (λ m. ap (λ (o : Over). steps.source (signatures_of c.args.functions.now) (around_of c.args.scope.now) o c.args.settled.now.items) over ∙ c.in_err-given-in-Range.ensures m)
