use Rattle.std.proofs.Common.{inl, inr, sym, ◌∙◌}
use Rattle.workers.proofs.run.report.Goals as goal
use Rattle.workers.proofs.run.report.Goals.{else-is_going-via-then-is_going+else-not-is_quiet, else-is_going-via-else-is_going}

pub stopped_run-requires : goal.stopped_run-requires
stopped_run-requires c =
    elim c.else-is_going.branch [
      | else-is_going-via-then-is_going+else-not-is_quiet w ↦ inl (w.is_quiet.ensures.0 w.if-not-is_quiet.false)
      | else-is_going-via-else-is_going w ↦ inr (λ going. cc (sym (c.is_going.ensures.1 going) ∙ w.if-is_going.false))
    ]
