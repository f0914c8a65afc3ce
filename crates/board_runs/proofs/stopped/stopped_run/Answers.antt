use Rattle.std.proofs.Common.{◌∙◌, refl, sym, true≢false}
use Rattle.board_runs.proofs.stopped.stopped_run.Goals as goal

pub returns-then-keeps-clause-kept : goal.returns-then-keeps-clause-kept
returns-then-keeps-clause-kept c = record { kept = (λ z. c.if-keeps.true, λ z. refl); tells = c.in_ok-report.ensures.tells }

pub returns-clause-kept : goal.returns-clause-kept
returns-clause-kept c = record { kept = (λ z. absurd (true≢false (sym z)), λ e. absurd (true≢false (sym e ∙ c.if-keeps.false))); tells = tt }
