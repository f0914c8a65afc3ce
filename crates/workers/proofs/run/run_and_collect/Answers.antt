use Rattle.std.proofs.Common.{◌≡◌, ◌≢◌, ◌∙◌, sym, length, rules}
use Rattle.std.proofs.lemmas.Result.{err_from_is_err_and}
use Rattle.workers.specs.declared.worker_state.DrainedWorker.{DrainedWorker}
use Rattle.workers.specs.declared.fault.RunFault.{RunFault}
use Rattle.workers.specs.declared.fault.RunFault.TheVariants.{BadCount, Memory}
use Rattle.workers.proofs.Tallied.{own_counts, theirs}
use Rattle.workers.proofs.run.run_and_collect.Goals as goal

of_memory : (e : RunFault) → e ≡ Memory → e ≢ BadCount
of_memory e is bad = cc (sym is ∙ bad)

-- By hand, since a search reads what all that is let go here has for facts.
pub returns-in_err-totals-clause-fault : goal.returns-in_err-totals-clause-fault
returns-in_err-totals-clause-fault g c =
    let p = err_from_is_err_and c.from_residual-in_err-totals.result c.from_residual-in_err-totals.ensures.1 in
    rw p.1 (of_memory p.0 p.2)

pub returns-clause-own : goal.returns-clause-own
returns-clause-own g c =
    let H : Type 0 = DrainedWorker g.row.J.Denot g.row.E.Denot g.row.N.Denot g.J.RunParams in
    let e = g.J.RunParams.engines in
    let k = g.J.RunParams.workers in
    let back = c.in_ok-back.back in
    let len : length back.items ≡ c.args.count = search rules in
    own_counts {H = H} (λ h. h.worker_state.worker) (λ h. h.worker_state.tally) e k c.args.count c.in_ok-totals.totals.tallies back.items len
    (λ h. theirs e k h.worker_state.worker h.worker_state.kind h.worker_state.place) c.in_ok-totals.ensures.own
