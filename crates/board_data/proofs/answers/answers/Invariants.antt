use Rattle.std.proofs.Common.{◌≡◌, map, take}
use Rattle.board_work.specs.View.{answers_view}
use Rattle.board_instances.specs.Names.{led_slot}
use Rattle.board_instances.specs.View.{frames_view}
use Rattle.board_data.specs.Answered.{wanted_answer}
use Rattle.board_data.specs.View.{cells_view}
use Rattle.board_data.proofs.answers.answers.Given as goal

abbrev pub invariant-loop-wanted : goal.invariant-loop-wanted
invariant-loop-wanted l =
    answers_view l.list.items
    ≡ map (wanted_answer l.view.program.now (cells_view l.view.store.now.cells) (led_slot (frames_view l.view.instances.now.slots) l.view.at)) (take l.wanted-index l.needs)
