use Rattle.std.proofs.Common.{◌≡◌, map, sym, ap, ◌∙◌}
use Rattle.std.proofs.lemmas.Result.{on_ok_weaker, IfErr-weaker}
use Rattle.flow.specs.View.{action_view, awaited_view}
use Rattle.meaning_round.specs.Standing.{active_of, content_view, deed_view}
use Rattle.meaning_openings.specs.Insides.{inside, inside_view, no_block, choices, awaited}
use Rattle.meaning_openings.proofs.Choosing.{awaited_same, choices_branch, choices_same, nothing_opened}
use Rattle.meaning_openings.proofs.Entering.{more_none}
use Rattle.meaning_openings.proofs.Larger.{memory_is_small}
use Rattle.meaning_openings.proofs.headers.open_header.Goals as goal

pub returns-in-Nothing-clause-so : goal.returns-in-Nothing-clause-so
returns-in-Nothing-clause-so g c =
    let A = g.row.A.Denot in
    let e : no_block ≡ inside (deed_view {A = g.row.A.Denot} c.args.task.live_action) = ap (inside_view {A = g.row.A.Denot}) (sym c.in-Nothing.is) ∙ c.inside_of.ensures in
    λ s n w offsets good there. nothing_opened {A = A} s n c.args.state.now (active_of {A = A} c.args.task) good e

pub returns-in-Nothing-clause-more : goal.returns-in-Nothing-clause-more
returns-in-Nothing-clause-more g c = more_none {A = g.row.A.Denot} c.args.state.now

pub returns-in-Branches-clause-so : goal.returns-in-Branches-clause-so
returns-in-Branches-clause-so g c =
    let A = g.row.A.Denot in
    let x = deed_view {A = A} c.args.task.live_action in
    let y = action_view {A = A} c.in-Branches.action.now in
    let e : choices (action_view {A = g.row.A.Denot} c.in-Branches.action.now) ≡ inside (deed_view {A = g.row.A.Denot} c.args.task.live_action) = ap (inside_view {A = g.row.A.Denot}) (sym c.in-Branches.is) ∙ c.inside_of.ensures in
    on_ok_weaker c.open_branches.result (λ h s n w offsets good there. h s n w offsets good there (choices_same x y e) (choices_branch x y e)) c.open_branches.ensures.so

pub returns-in-Branches-clause-large : goal.returns-in-Branches-clause-large
returns-in-Branches-clause-large g c =
    let A = g.row.A.Denot in
    let x = deed_view {A = A} c.args.task.live_action in
    let y = action_view {A = A} c.in-Branches.action.now in
    let e : choices (action_view {A = g.row.A.Denot} c.in-Branches.action.now) ≡ inside (deed_view {A = g.row.A.Denot} c.args.task.live_action) = ap (inside_view {A = g.row.A.Denot}) (sym c.in-Branches.is) ∙ c.inside_of.ensures in
    IfErr-weaker c.open_branches.result _ _ (λ fault h f s n w offsets good there. h f s n w offsets good there (choices_same x y e) (choices_branch x y e)) c.open_branches.ensures.large

pub returns-in_ok-open_content-in-Waits-clause-so : goal.returns-in_ok-open_content-in-Waits-clause-so
returns-in_ok-open_content-in-Waits-clause-so g c =
    let A = g.row.A.Denot in
    let e : awaited (map awaited_view c.in-Waits.names.now) (content_view {A = g.row.A.Denot} c.in-Waits.content) ≡ inside (deed_view {A = g.row.A.Denot} c.args.task.live_action) = ap (inside_view {A = g.row.A.Denot}) (sym c.in-Waits.is) ∙ c.inside_of.ensures in
    λ s n w offsets good there. c.in_ok-open_content-in-Waits.ensures.so s n good there (awaited_same (deed_view {A = A} c.args.task.live_action) (map awaited_view c.in-Waits.names.now) (content_view {A = A} c.in-Waits.content) e)

pub returns-in_err-open_content-in-Waits-clause-large : goal.returns-in_err-open_content-in-Waits-clause-large
returns-in_err-open_content-in-Waits-clause-large g c = memory_is_small _ c.from_residual.result c.from_residual.ensures.1
