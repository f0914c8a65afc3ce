use Rattle.std.proofs.Common.{◌<◌, List, length, map, subst}
use Rattle.std.proofs.lemmas.Result.{IfOk-weaker}
use Rattle.meaning_facts.specs.declared.instances.Instance.{Instance}
use Rattle.meaning_round.specs.declared.state.LiveTask.{LiveTask}
use Rattle.meaning_round.specs.Standing.{active_of}
use Rattle.meaning_openings.specs.Larger.{turns_from, OwnsMore}
use Rattle.meaning_openings.proofs.Larger.{larger_by_statements, larger_by_turns}
use Rattle.meaning_openings.proofs.live_limits.is_larger.Goals as goal

pub returns-then-has_more_turns : goal.returns-then-has_more_turns
returns-then-has_more_turns g c =
    let A = g.row.A.Denot in
    λ e s n good. larger_by_turns {A = A} s n c.args.state.now c.args.room.most
    (subst (λ (z : List Instance). c.args.room.most < length (turns_from 0 z)) c.as_slice.ensures.value (c.has_more_turns.ensures c.if-has_more_turns.true)) good

pub returns : goal.returns
returns g c =
    let A = g.row.A.Denot in
    IfOk-weaker c.has_more_statements.result _ _
    (λ yes h e s n good. larger_by_statements {A = A} s n c.args.state.now c.args.room.most good
    (subst (λ (z : List (LiveTask A)). OwnsMore (map (active_of {A = A}) z) c.args.room.most) c.as_slice-2.ensures.value (h e))) c.has_more_statements.ensures
