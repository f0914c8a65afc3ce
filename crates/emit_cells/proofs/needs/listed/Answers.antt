use Rattle.std.proofs.Common.{◌≡◌, Option, Some, arith, map, ap, sym, ◌∷◌, [], ◌∙◌}
use Rattle.std.proofs.lemmas.Grind.{common_steps}
use Rattle.std.proofs.lemmas.List.{map-append}
use Rattle.std.specs.Prelude.{slice_get}
use Rattle.task_code.specs.View as code_view
use Rattle.emit_cells.proofs.Keys.{listed_more}
use Rattle.emit_cells.specs.declared.needs.PlainNeed.{PlainNeed}
use Rattle.emit_cells.proofs.needs.listed.Goals as goal
use Rattle.emit_cells.proofs.needs.listed.Goals.{in-Some+in_ok-push, in_default}

pub loop-number-preserved : goal.loop-number-preserved
loop-number-preserved c =
    elim c.match-get_index.branch [
      | in-Some+in_ok-push w ↦
          let at : ◌≡◌ {A = Option PlainNeed} (slice_get c.args.needs.now.keys c.loop-number.number) (Some w.in-Some.wanted.now) = sym w.in-Some.ensures.key in
          listed_more c.args.needs.now.keys c.loop-number.number w.in-Some.wanted.now (map code_view.need_view c.loop-number.found.items) (map code_view.need_view c.match-get_index.found.items) (code_view.need_view w.need.result)
          at c.loop-number.invariant w.need.ensures
          (ap (λ v. map code_view.need_view v.items) w.found-is ∙ ap (map code_view.need_view) w.in_ok-push.ensures.items ∙ map-append code_view.need_view c.loop-number.found.items (w.need.result ∷ []))
      | in_default w ↦ absurd (grind (arith, common_steps))
    ]
