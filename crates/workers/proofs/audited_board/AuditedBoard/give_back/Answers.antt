use Rattle.std.proofs.Common.{rules, arith, ap, ◌∙◌, ◌+◌}
use Rattle.board.specs.Board.{Accepts}
use Rattle.board.proofs.Staying.{work_later}
use Rattle.dataflow.specs.Machine.{Back}
use Rattle.workers.proofs.SharedFacts.{returned, counted_more}
use Rattle.workers.proofs.audited_board.AuditedBoard.give_back.Goals as goal

pub overflow_add-enabled_total : goal.overflow_add-enabled_total
overflow_add-enabled_total g c = omega (arith, c.if-self-ge-MAX_ENABLED.false, c.newly_ready_count-count.ensures.few)

pub invariant_of-self-2 : goal.invariant_of-self-2
invariant_of-self-2 g c =
    let k = c.self.invariant in
    let C = g.J.RunParams.code in
    let old = c.self.inside.board in
    let new = c.back.new.self in
    let a : Accepts old (Back c.args.worker c.args.item) new = search rules in
    let more = counted_more old new (Back c.args.worker c.args.item) a in
    record {
      code = a.code ∙ k.code;
      limit_is = a.limit ∙ k.limit_is;
      some = k.some;
      counted = omega (arith, more, k.counted, c.add.ensures.total, c.audit.ensures.total);
      enabled_total_is = omega (arith, k.enabled_total_is, c.add-2.ensures.total, c.audit-2.ensures.total);
      fits = omega (arith, c.if-self-ge-MAX_ENABLED.false, c.newly_ready_count-count.ensures.few);
      runs = returned C g.J.RunParams.engines g.J.RunParams.workers c.args.worker c.args.item c.self.inside.enabled_total (c.self.inside.enabled_total + c.newly_ready_count-count.result) old new k.code k.runs a c.requires.theirs (ap (λ n. c.self.inside.enabled_total + n) c.newly_ready_count-count.ensures.count);
      no_back = search rules;
      items = λ work h. work_later old new c.history-before.ensures.whole c.history-before.ensures.replays (Back c.args.worker c.args.item) a work (k.items work h);
    }

pub returns-clause-ok : goal.returns-clause-ok
returns-clause-ok g c =
    let k = c.self.invariant in
    let old = c.self.inside.board in
    let new = c.back.new.self in
    let a : Accepts old (Back c.args.worker c.args.item) new = search rules in
    let more = counted_more old new (Back c.args.worker c.args.item) a in
    let amount = c.audit.ensures.amount ∙ c.add.ensures.amount in
    (amount, omega (arith, amount, more, k.counted, c.add.ensures.total, c.audit.ensures.bound, c.history-within.ensures.within, c.history-within.ensures.few))

pub returns-clause-enabled_total : goal.returns-clause-enabled_total
returns-clause-enabled_total g c =
    let k = c.self.invariant in
    let amount = c.audit-2.ensures.amount ∙ c.add-2.ensures.amount in
    (amount, omega (arith, amount, k.enabled_total_is, c.add-2.ensures.total, c.audit-2.ensures.bound, c.if-self-ge-MAX_ENABLED.false, c.newly_ready_count-count.ensures.few))
