use Rattle.std.proofs.Common.{rules, ◌≡◌, ◌<◌, false, true, length, get_or, map, subst, sym, ◌∙◌, arith}
use Rattle.std.proofs.lemmas.Grind.{common_steps}
use Rattle.std.specs.HashSet.{contains}
use Rattle.meaning_facts.specs.declared.facts.Place.{Place as Spot}
use Rattle.meaning_facts.specs.Store.{same_place}
use Rattle.meaning_round.specs.Standing.{active_of}
use Rattle.meaning_openings.specs.Larger.{IsOwn}
use Rattle.meaning_openings.proofs.Larger.{key_contained, own_next, task_own}
use Rattle.meaning_openings.proofs.live_limits.has_more_statements.Goals as goal

pub loop-task-init : goal.loop-task-init
loop-task-init g c = λ p h. (
    let empty : contains same_place c.new-places.result p ≡ false = search rules in
    let lost : false ≡ true = sym empty ∙ h in
    absurd (cc (lost))
    )

pub loop-task-preserved : goal.loop-task-preserved
loop-task-preserved g c =
    let A = g.row.A.Denot in
    let within : c.loop-task.task-index < length c.args.tasks.now = search rules in
    let item : c.task-item.result ≡ get_or c.args.tasks.now c.loop-task.task-index c.task-item.result = search rules in
    own_next (map (active_of {A = A}) c.args.tasks.now) (contains same_place c.loop-task.places) (contains same_place c.insert.new.self) c.own_place.result
    c.in_ok-insert.ensures.updates.0
    (subst (λ (z : Spot). IsOwn (map (active_of {A = A}) c.args.tasks.now) z) (sym c.own_place.ensures) (task_own {A = A} c.args.tasks.now c.loop-task.task-index c.task-item.result within item))
    c.loop-task.invariant

pub returns : goal.returns
returns g c = λ e. (
    let many : c.args.room.most < length c.loop-task.places.keys = grind (arith, common_steps) in
    record {
      places = c.loop-task.places.keys;
      distinct = c.len.ensures.unique;
      own = λ p m. c.loop-task.invariant p (key_contained c.loop-task.places.keys p m);
      many = many;
    }
    )
