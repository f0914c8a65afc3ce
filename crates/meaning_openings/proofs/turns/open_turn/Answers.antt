use Rattle.std.proofs.Common.{rules, ◌≡◌, [], refl}
use Rattle.flow.specs.View.{action_view, block_view}
use Rattle.meaning_facts.specs.declared.instances.InstanceBindings.{InstanceBindings}
use Rattle.paths.specs.declared.steps.Step.{Step}
use Rattle.meaning_cells.specs.Chosen.{choice_view}
use Rattle.meaning_openings.proofs.Entering.{turn_step}
use Rattle.meaning_openings.proofs.turns.open_turn.Goals as goal

pub returns-clause-so : goal.returns-clause-so
returns-clause-so g c =
    let A = g.row.A.Denot in
    let x : Step = record { offset = c.args.at; key = c.in_ok-key_at.field-0 } in
    let given : InstanceBindings = record { inputs = c.new.result; outputs = c.new-2.result; variables = c.in_ok-variables_of.field-0 } in
    let ins : c.new.result.items ≡ [] = search rules in
    let outs : c.new-2.result.items ≡ [] = search rules in
    λ s n w offsets good node there chosen below block short.
    turn_step {A = A} s n c.args.state.now c.enter.new.state c.args.instance c.args.at node (action_view {A = A} c.args.action.now) (choice_view c.args.choice.now) c.args.i (block_view {A = A} c.args.block.now) x given
    w offsets good there chosen below block short refl (c.in_ok-key_at.ensures below) ins outs (c.in_ok-variables_of.ensures below) c.in_ok-enter.ensures.entered
