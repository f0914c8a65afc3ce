use Rattle.std.proofs.Common.{◌≡◌, ◌↔◌, ℕ, drop, map}
use Rattle.std.specs.Prelude.{IsTrue}
use Rattle.board_instances.specs.Names.{led_slot}
use Rattle.board_instances.specs.View.{frames_view}
use Rattle.board_work.specs.View.{answers_view}
use Rattle.data_store.specs.Stores.{array_at}
use Rattle.values.specs.Maps.{rising}
use Rattle.board_data.specs.Answered.{wanted_answer}
use Rattle.board_data.specs.View.{cells_view}
use Rattle.board_data.proofs.answers.are_answers.Given as goal

abbrev pub invariant-loop-wanted : goal.invariant-loop-wanted
invariant-loop-wanted l =
    ((d : ℕ) → IsTrue (rising (array_at l.view.store.now d).elements))
    → (answers_view l.rest ≡ map (wanted_answer l.view.program.now (cells_view l.view.store.now.cells) (led_slot (frames_view l.view.instances.now.slots) l.view.at)) (drop l.wanted-index l.needs))
    ↔ (answers_view l.answers ≡ map (wanted_answer l.view.program.now (cells_view l.view.store.now.cells) (led_slot (frames_view l.view.instances.now.slots) l.view.at)) l.needs)
