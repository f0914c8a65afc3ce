use Rattle.std.proofs.Common.{◌≡◌, ◌-◌, map, drop, length, ap, sym, ◌∙◌, arith}
use Rattle.std.proofs.lemmas.List.{length-map}
use Rattle.std.proofs.lemmas.Result.{err_from_is_err_and}
use Rattle.language.specs.Tree.{expressions_of}
use Rattle.syntax_trees.specs.View.{expression_view}
use Rattle.types.specs.Known.{type_of, around_of}
use Rattle.types.specs.Functions.{signatures_of}
use Rattle.types.specs.Expressions.{arguments}
use Rattle.types.proofs.steps.Calls.{given_of, print_refused, print_other, print_rest}
use Rattle.types.proofs.statements.print.Goals as goal

pub returns-in_err-wanted : goal.returns-in_err-wanted
returns-in_err-wanted g c =
    let p = err_from_is_err_and c.from_residual.result c.from_residual.ensures.1 in
    rw (p.1, p.2) (λ m. print_refused _ _ (expression_view {A = g.row.A.Denot}) c.args.given.now.items c.deref.result.now c.in-Some.format.now _ _ _ c.deref.ensures.value c.in-Some.ensures.item.3.0 c.in-Some.ensures.item.1 (c.in_err-wanted.ensures m c.args.settled.now.items))

pub returns-then-len : goal.returns-then-len
returns-then-len g c =
    let other : ¬ (length c.args.given.now.items - 1 ≡ length (map type_of c.in_ok-wanted.wanted.items)) = rw length-map (omega arith) in
    λ m. print_other _ _ (expression_view {A = g.row.A.Denot}) c.args.given.now.items c.deref.result.now c.in-Some.format.now _ _ _ c.deref.ensures.value c.in-Some.ensures.item.3.0 c.in-Some.ensures.item.1 (c.in_ok-wanted.ensures c.args.settled.now.items) other

pub returns : goal.returns
returns g c =
    let taken : map type_of c.as_slice.result.now ≡ map type_of c.in_ok-wanted.wanted.items = ap (map type_of) c.as_slice.ensures.value in
    let many : length c.args.given.now.items - 1 ≡ length (map type_of c.in_ok-wanted.wanted.items) = rw length-map (omega arith) in
    given_of _ c.arguments.result c.arguments.new.settled.items _ _ c.arguments.ensures
    (print_rest (signatures_of c.args.functions.now) (around_of c.args.scope.now) (expression_view {A = g.row.A.Denot}) c.args.given.now.items c.deref.result.now c.in-Some.format.now _ _ _ c.deref.ensures.value c.in-Some.ensures.item.3.0 c.in-Some.ensures.item.1 (c.in_ok-wanted.ensures c.args.settled.now.items) many
    ∙ ap (λ τs. arguments (signatures_of c.args.functions.now) (around_of c.args.scope.now) (expressions_of (map (expression_view {A = g.row.A.Denot}) (drop 1 c.args.given.now.items))) τs c.args.at c.args.settled.now.items) (sym taken))
