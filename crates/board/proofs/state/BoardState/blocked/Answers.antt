use Rattle.std.proofs.Common.{rules, ◌↔◌, List, map, subst}
use Rattle.std.proofs.lemmas.Result.{IfOk-weaker}
use Rattle.dataflow.specs.System.{In}
use Rattle.board.specs.Stuck.{Place, place_of}
use Rattle.board.proofs.state.BoardState.blocked.Goals as goal

pub returns-clause-places : goal.returns-clause-places
returns-clause-places c =
    IfOk-weaker c.in_order.result _ _ (λ found same p. subst (λ (ps : List Place). In p (map place_of found.items) ↔ In p ps) (search rules) (same p)) c.in_order.ensures.places
