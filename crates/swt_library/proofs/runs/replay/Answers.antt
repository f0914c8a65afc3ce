use Rattle.std.proofs.Common.{sym, subst, ◌∙◌}
use Rattle.task_code.specs.Code.{Code}
use Rattle.swt_trace.specs.Replay.{IsTraceOf}
use Rattle.swt_library.proofs.runs.replay.Goals as goal

pub returns-clause-only_memory : goal.returns-clause-only_memory
returns-clause-only_memory c =
    λ r t. c.replay.ensures.only_memory r (subst (λ (C : Code). IsTraceOf C c.args.trace.now r) (sym (c.code.ensures ∙ c.program.ensures)) t)
