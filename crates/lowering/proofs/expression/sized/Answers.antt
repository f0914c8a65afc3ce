use Rattle.std.proofs.Common.{arith, ◌≡◌, ◌∷◌, [], map, option_map, ap, sym, ◌∙◌, ◌<◌, length}
use Rattle.std.specs.Prelude.{Vec}
use Rattle.std.proofs.lemmas.Grind.{common_steps}
use Rattle.std.proofs.lemmas.Result.{IfOk-weaker}
use Rattle.syntax_trees.specs.View.{expression_view}
use Rattle.language.specs.Tree.{expressions_of}
use Rattle.language.specs.Core.{none, also}
use Rattle.language.specs.Resolved.{sized}
use Rattle.types.specs.Typed.{table_of}
use Rattle.flow.specs.declared.expression.Expr.{Expr, Whole}
use Rattle.flow.specs.View.{name_view, exprs_view}
use Rattle.lowering.proofs.Views.{sized_first, sized_by, view_whole}
use Rattle.lowering.proofs.expression.sized.Goals as goal

pub returns-in-Some : goal.returns-in-Some
returns-in-Some g c =
    let A = g.row.A.Denot in
    let t = table_of c.args.typed.now in
    let xs = c.args.arguments.now.items in
    let below : 0 < length xs = grind (arith, common_steps) in
    let whole = sized_first A t xs c.index.result.now below c.index.ensures
    ∙ ap sized_by (sym c.variable_named.ensures ∙ ap (option_map name_view) c.in-Some.is) in
    let told : Vec (Expr A) A → Type 0 = λ v. v.items ≡ Whole c.in-Some.array ∷ [] in
    let wanted : Vec (Expr A) A → Type 0 = λ v. exprs_view v.items ≡ sized t (expressions_of (map (expression_view {A = A}) xs)) in
    IfOk-weaker c.single.result told wanted (λ v is. ap exprs_view is ∙ ap (λ e. also e none) (view_whole A c.in-Some.array) ∙ sym whole) c.single.ensures

pub returns-in_ok-clone-in-None : goal.returns-in_ok-clone-in-None
returns-in_ok-clone-in-None g c =
    let A = g.row.A.Denot in
    let t = table_of c.args.typed.now in
    let xs = c.args.arguments.now.items in
    let below : 0 < length xs = grind (arith, common_steps) in
    let whole = sized_first A t xs c.index.result.now below c.index.ensures
    ∙ ap sized_by (sym c.variable_named.ensures ∙ ap (option_map name_view) c.in-None.is) in
    ap exprs_view c.new-in-None.ensures.items ∙ sym whole
