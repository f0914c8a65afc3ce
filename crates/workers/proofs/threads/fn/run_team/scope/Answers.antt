use mathlib.Core.List.{List, [], ◌∷◌}
use mir.Syntax.{named}
use denote.RattleType.{RattleType}
use denote.Ref.{ShrRef}
use denote.Param.{param}
use denote.Param.Send.{AllSend, IsSend, IsSync, shr_send}
use Rattle.std.proofs.Crossing.{crosses}
use Rattle.std.specs.contracts.sync.Mutex as mutex
use Rattle.pool.proofs.pool.Pool.TheSendSync as pools
use Rattle.pool.specs.contracts.pool.Pool as pool
use Rattle.workers_policy.proofs.wake_signal.WakeSignal.TheSendSync as bell_sync
use Rattle.workers.proofs.Crosses.{closure_send, floor_send}
use Rattle.workers_policy.specs.contracts.wake_signal.WakeSignal as signal
use Rattle.workers.specs.contracts.scheduler.Scheduler as shared
use Rattle.workers.proofs.threads.fn.run_team.scope.Goals as goal

-- its parts in place of a search: a search does not take apart what the closure captures
pub spawn-requires-send-F : goal.spawn-requires-send-F
spawn-requires-send-F g c κs within =
    let J = param 0 g.row.J in
    let E = param 1 g.row.E in
    let N = param 2 g.row.N in
    let R = param 3 g.row.R in
    let G = param 4 g.row.G in
    let r : IsSync R = c.requires-raw.1.1.1.1.1.1.1.1.1.1.1.0 in
    let a : IsSync G = c.requires-raw.1.1.1.1.1.1.1.1.1.1.1.1.0 in
    let P = shared.the_row J E N g.J.RunParams g.E.Ledger g.N.Ledger in
    let p : IsSend P = floor_send J E N g.J.RunParams g.E.Ledger g.N.Ledger in
    let F = mutex.the_row P in
    let f : IsSync F = search (p, crosses) in
    let Ts : List RattleType = ShrRef (named 5) κs.1.1.1.1.1.0 R ∷ ShrRef (named 6) κs.1.1.1.1.1.1.0 F ∷ ShrRef (named 7) κs.1.1.1.1.1.1.1.0 signal.the_row
    ∷ ShrRef (named 8) κs.1.1.1.1.1.1.1.1.0 pool.the_row ∷ ShrRef (named 9) κs.1.1.1.1.1.1.1.1.1.0 G ∷ [] in
    let all : AllSend Ts = (
      shr_send (named 5) κs.1.1.1.1.1.0 R r,
      (
        shr_send (named 6) κs.1.1.1.1.1.1.0 F f,
        (
          shr_send (named 7) κs.1.1.1.1.1.1.1.0 signal.the_row bell_sync.the_sync,
          (
            shr_send (named 8) κs.1.1.1.1.1.1.1.1.0 pool.the_row pools.the_sync,
            (shr_send (named 9) κs.1.1.1.1.1.1.1.1.1.0 G a, tt),
          ),
        ),
      ),
    ) in
    let z = closure_send Ts all in
    record { owned = z.owned; leaving = z.leaving }
