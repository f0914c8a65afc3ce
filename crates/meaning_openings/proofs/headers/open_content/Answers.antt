use Rattle.std.proofs.Common.{rules, ◌≡◌, true, map}
use Rattle.std.proofs.lemmas.Result.{on_ok_weaker}
use Rattle.flow.specs.View.{awaited_view}
use Rattle.meaning_cells.specs.Chosen.{have_come_in}
use Rattle.meaning_facts.specs.Sighted.{sight_of}
use Rattle.meaning_round.specs.Standing.{active_of, content_view}
use Rattle.meaning_openings.proofs.Moving.{stay_more}
use Rattle.meaning_openings.proofs.Waits.{content_step}
use Rattle.meaning_openings.proofs.headers.open_content.Goals as goal

pub returns-in_ok-add_block-clause-so : goal.returns-in_ok-add_block-clause-so
returns-in_ok-add_block-clause-so g c =
    let A = g.row.A.Denot in
    let come : have_come_in (sight_of c.args.state.now.fact_base c.args.task.site.instance) (map awaited_view c.args.names.now) ≡ true = search rules in
    λ s n good there e. content_step {A = A} s n c.args.state.now c.add_block.new.self (active_of {A = A} c.args.task) (map awaited_view c.args.names.now) (content_view {A = A} c.args.content) good there e come
    c.add_block.ensures.fact_base c.in_ok-add_block.ensures.tasks c.in_ok-add_block.ensures.arrays c.add_block.ensures.waiting

pub returns-else-have_come-clause-more : goal.returns-else-have_come-clause-more
returns-else-have_come-clause-more g c =
    on_ok_weaker c.keep_waiting.result (λ h. stay_more {A = g.row.A.Denot} c.args.state.now c.keep_waiting.new.state c.keep_waiting.ensures.fact_base c.keep_waiting.ensures.tasks c.keep_waiting.ensures.worklist) c.keep_waiting.ensures.waiting
