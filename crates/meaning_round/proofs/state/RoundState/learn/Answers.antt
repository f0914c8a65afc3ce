use Rattle.std.proofs.lemmas.Result.{on_ok_weaker}
use Rattle.meaning_round.specs.Made.{tasks_of}
use Rattle.meaning_round.proofs.state.RoundState.learn.Goals as goal

pub returns-clause-heard : goal.returns-clause-heard
returns-clause-heard g c = on_ok_weaker c.learn_all.result (λ heard. heard (tasks_of {A = g.row.A.Denot} c.args.self.now)) c.learn_all.ensures.heard
