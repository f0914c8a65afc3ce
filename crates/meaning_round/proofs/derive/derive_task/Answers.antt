use Rattle.std.proofs.Common.{rules, arith, ◌≡◌, ◌≤◌, length}
use Rattle.std.proofs.lemmas.Grind.{common_steps}
use Rattle.std.proofs.lemmas.Result.{on_ok_weaker}
use Rattle.meaning_round.specs.Hearing.{active_reads}
use Rattle.meaning_round.specs.Standing.{active_news, active_of}
use Rattle.meaning_round.proofs.Asking.{told_nothing}
use Rattle.meaning_round.proofs.Heard.{heard_asleep, heard_kept}
use Rattle.meaning_round.proofs.derive.derive_task.Goals as goal

pub returns-then-len-before-clause-heard : goal.returns-then-len-before-clause-heard
returns-then-len-before-clause-heard g c =
    on_ok_weaker c.keep.result
    (λ awake. λ ls there places asked h. heard_kept c.args.fact_base.now ls c.args.worklist.now c.keep.new.self c.args.number asked awake c.keep.ensures.fresh c.keep.ensures.asleep c.keep.ensures.called h)
    c.keep.ensures.awake

pub returns-clause-heard : goal.returns-clause-heard
returns-clause-heard g c =
    let A = g.row.A.Denot in
    let l = c.args.fact_base.now in
    let a = active_of {A = A} c.args.task.now in
    let few : length c.add_task_news.new.news.items ≤ length c.args.news.now.items = grind (arith, common_steps) in
    let silent = told_nothing l.instances.all.items c.args.news.now.items c.add_task_news.new.news.items (active_news l a) c.in_ok-add_task_news.ensures.told few in
    let reads : c.as_slice.result.now ≡ active_reads c.args.fact_base.now (active_of {A = g.row.A.Denot} c.args.task.now) = search rules in
    on_ok_weaker c.subscribe.result
    (λ falls. λ ls there places asked h. heard_asleep l ls c.args.worklist.now c.subscribe.new.self c.args.number asked a c.as_slice.result.now places there silent reads falls h)
    c.subscribe.ensures
