use Rattle.std.proofs.Common.{subst, [], Option, Some, option_map}
use Rattle.paths.specs.declared.steps.Step.{Step}
use Rattle.values.specs.Keys.{key_seen}
use Rattle.board_instances.specs.Turns.{IsOpening}
use Rattle.board_instances.specs.View.{frames_view, step_view}
use Rattle.board_instances.proofs.Turned.{one_turn}
use Rattle.board_instances.proofs.turns.push_turn.Goals as goal

pub returns-clause-added : goal.returns-clause-added
returns-clause-added c = λ some there. (let p = c.in_ok-push_block.ensures.added some there in one_turn c.args.site.around.program.now (frames_view c.args.site.around.instances.now.slots) c.args.site.around.at c.args.site.body c.args.site.offset (key_seen c.args.key) c.args.value c.in_ok-turn.turn c.args.list.now.items c.push_block.new.list.items p.0 p.1 c.in_ok-turn.ensures (subst (λ (w : Option Step). IsOpening c.args.site.around.program.now (frames_view c.args.site.around.instances.now.slots) c.args.site.around.at c.args.site.body (option_map step_view w) [] (Some c.args.value) (Some c.in_ok-turn.turn) p.0) c.in_ok-way.ensures p.2))
