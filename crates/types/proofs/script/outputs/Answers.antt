use Rattle.std.proofs.Common.{◌≡◌, ◌<◌, ◌≤◌, length, get_or, ap, sym, ◌∙◌, arith}
use Rattle.std.proofs.lemmas.Result.{err_from_is_err_and}
use Rattle.syntax_trees.specs.View.{declaration_of}
use Rattle.types.specs.Outcomes.{refused}
use Rattle.types.proofs.lists.Turns.{turns_left}
use Rattle.types.proofs.steps.Walks.{parameters_done, parameters_refused}
use Rattle.types.proofs.script.outputs.Goals as goal

pub returns-in_err-declare : goal.returns-in_err-declare
returns-in_err-declare g c =
    let below : c.loop-i.i < length c.args.decls.now = c.loop-i-test.true in
    let is : c.index-decls-i.result ≡ get_or c.args.decls.now c.loop-i.i c.index-decls-i.result = c.index-decls-i.is in
    let p = err_from_is_err_and c.from_residual.result c.from_residual.ensures.1 in
    rw (p.1, p.2) (λ m settled.
    let why = c.in_err-declare.ensures.free m in
    c.loop-i.invariant settled ∙ parameters_refused _ _ _ settled (declaration_of {A = g.row.A.Denot}) c.args.decls.now c.loop-i.i c.index-decls-i.result below is why.1 ∙ ap refused (sym why.0))

pub returns : goal.returns
returns g c =
    let past : length c.args.decls.now ≤ c.loop-i.i = omega arith in
    λ settled. c.loop-i.invariant settled ∙ parameters_done _ _ _ settled (declaration_of {A = g.row.A.Denot}) c.args.decls.now c.loop-i.i past

pub loop-i-smaller : goal.loop-i-smaller
loop-i-smaller g c = turns_left _ _ c.loop-i-test.true
