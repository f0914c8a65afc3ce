use Rattle.std.proofs.Common.{rules, ◌≡◌, length, [], ◌∷◌, refl, ap, ◌∙◌}
use Rattle.flow.specs.View.{block_view}
use Rattle.flow.specs.Names.{block_nodes}
use Rattle.flow.specs.Tests.{fits}
use Rattle.flow.proofs.Outwards.{owners_only}
use Rattle.flow.proofs.whole.is_function_fit.Goals as goal

pub returns : goal.returns
returns g c =
    let A = g.row.A.Denot in
    let body = block_view {A = A} c.args.function.now.body in
    let inputs : c.len.result ≡ length c.args.function.now.inputs.items = search rules in
    let outputs : c.len-2.result ≡ length c.args.function.now.outputs.items = search rules in
    c.is_block_fit.ensures
    ∙ ap (λ os. fits os c.args.count body) (owners_only {A = A} _ _ refl)
    ∙ ap (λ n. fits (record { inputs = n; outputs = c.len-2.result; nodes = block_nodes body } ∷ []) c.args.count body) inputs
    ∙ ap (λ n. fits (record { inputs = length c.args.function.now.inputs.items; outputs = n; nodes = block_nodes body } ∷ []) c.args.count body) outputs
