use Rattle.std.proofs.Common.{rules, to_z, of_z, w64}
use Rattle.board_instances.specs.View.{frames_view}
use Rattle.board_instances.proofs.Turned.{turn_same, turns_are}
use Rattle.board_instances.proofs.turns.push_number.Goals as goal

pub returns-clause-added : goal.returns-clause-added
returns-clause-added c = λ some there. turns_are c.args.site.around.program.now (frames_view c.args.site.around.instances.now.slots) c.args.site.around.at c.args.site.body c.args.site.offset _ _ c.args.list.now.items c.push_turn.new.list.items (turn_same (to_z w64 (of_z w64 c.in-Ok.key)) (to_z w64 (of_z w64 c.value.result)) c.args.range.now.low c.args.range.now.step c.args.n (search rules) (search rules)) (c.in_ok-push_turn.ensures.added some there)
