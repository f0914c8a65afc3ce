use Rattle.std.proofs.Common.{rules, arith, ◌≡◌, ◌<◌, ◌+◌, length, get_or, drop, map, sym, ap, ◌∙◌}
use Rattle.std.proofs.lemmas.Grind.{common_steps}
use Rattle.std.specs.List.{list_all}
use Rattle.flow.specs.declared.script.Function.{Function}
use Rattle.flow.specs.View.{function_view}
use Rattle.flow.specs.Tests.{function_fits}
use Rattle.flow.proofs.Fits.{and_true, and_false, functions_step}
use Rattle.flow.proofs.whole.are_functions_fit.Goals as goal

pub returns-then-not-is_function_fit : goal.returns-then-not-is_function_fit
returns-then-not-is_function_fit g c =
    let A = g.row.A.Denot in
    let n = c.args.count in
    let fs = c.args.functions.now.items in
    let i = c.loop-function.function-index in
    let within : c.loop-function.function-index < length c.args.functions.now.items = grind (arith, common_steps) in
    let item : get_or c.args.functions.now.items c.loop-function.function-index c.function-item.result ≡ c.function-item.result = search rules in
    let here = ap (λ (z : Function g.row.A.Denot). function_fits n (function_view z)) item ∙ sym c.is_function_fit.ensures ∙ c.if-not-is_function_fit.true in
    and_false (list_all (function_fits n) (map function_view (drop (i + 1) fs))) here ∙ sym (c.loop-function.invariant ∙ functions_step A n fs i c.function-item.result within)

pub loop-function-preserved : goal.loop-function-preserved
loop-function-preserved g c =
    let A = g.row.A.Denot in
    let n = c.args.count in
    let fs = c.args.functions.now.items in
    let i = c.loop-function.function-index in
    let within : c.loop-function.function-index < length c.args.functions.now.items = grind (arith, common_steps) in
    let item : get_or c.args.functions.now.items c.loop-function.function-index c.function-item.result ≡ c.function-item.result = search rules in
    let here = ap (λ (z : Function g.row.A.Denot). function_fits n (function_view z)) item ∙ sym c.is_function_fit.ensures ∙ c.if-not-is_function_fit.false in
    c.loop-function.invariant ∙ functions_step A n fs i c.function-item.result within ∙ and_true (list_all (function_fits n) (map function_view (drop (i + 1) fs))) here
