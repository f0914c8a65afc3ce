use Rattle.std.proofs.Common.{rules, arith, ap, ◌∙◌, refl, ◌+◌}
use Rattle.board.specs.Board.{Accepts}
use Rattle.board.proofs.Staying.{work_later}
use Rattle.dataflow.specs.Machine.{End}
use Rattle.workers.proofs.Listing.{either_way}
use Rattle.workers.proofs.SharedFacts.{ended, counted_more, no_back_more}
use Rattle.workers.proofs.audited_board.AuditedBoard.end.Goals as goal

pub overflow_add-enabled_total : goal.overflow_add-enabled_total
overflow_add-enabled_total g c = omega (arith, c.if-self-ge-MAX_ENABLED.false, c.newly_ready_count-count.ensures.few)

pub invariant_of-self-2 : goal.invariant_of-self-2
invariant_of-self-2 g c =
    let k = c.self.invariant in
    let C = g.J.RunParams.code in
    let old = c.self.inside.board in
    let new = c.end_on_board.new.board in
    let a : Accepts old (End c.args.worker c.args.finished.item) new = search rules in
    let more = counted_more old new (End c.args.worker c.args.finished.item) a in
    record {
      code = a.code ∙ k.code;
      limit_is = a.limit ∙ k.limit_is;
      some = k.some;
      counted = omega (arith, more, k.counted, c.add.ensures.total, c.audit.ensures.total);
      enabled_total_is = omega (arith, k.enabled_total_is, c.add-2.ensures.total, c.audit-2.ensures.total);
      fits = omega (arith, c.if-self-ge-MAX_ENABLED.false, c.newly_ready_count-count.ensures.few);
      runs = ended C g.J.RunParams.engines g.J.RunParams.workers c.args.worker c.args.finished.item c.self.inside.enabled_total (c.self.inside.enabled_total + c.newly_ready_count-count.result) old new k.code k.runs a c.requires.theirs (ap (λ n. c.self.inside.enabled_total + n) c.newly_ready_count-count.ensures.count);
      no_back = λ going. no_back_more old new (End c.args.worker c.args.finished.item) a refl (k.no_back going);
      items = λ work h. work_later old new c.history-before.ensures.whole c.history-before.ensures.replays (End c.args.worker c.args.finished.item) a work (k.items work h);
    }

pub returns-clause-ok : goal.returns-clause-ok
returns-clause-ok g c =
    let k = c.self.invariant in
    let old = c.self.inside.board in
    let new = c.end_on_board.new.board in
    let a : Accepts old (End c.args.worker c.args.finished.item) new = search rules in
    let more = counted_more old new (End c.args.worker c.args.finished.item) a in
    let amount = c.audit.ensures.amount ∙ c.add.ensures.amount in
    (amount, omega (arith, amount, more, k.counted, c.add.ensures.total, c.audit.ensures.bound, c.history-within.ensures.within, c.history-within.ensures.few))

pub returns-clause-enabled_total : goal.returns-clause-enabled_total
returns-clause-enabled_total g c =
    let k = c.self.invariant in
    let amount = c.audit-2.ensures.amount ∙ c.add-2.ensures.amount in
    (amount, omega (arith, amount, k.enabled_total_is, c.add-2.ensures.total, c.audit-2.ensures.bound, c.if-self-ge-MAX_ENABLED.false, c.newly_ready_count-count.ensures.few), omega (arith, c.list_ready_items-listed.ensures.len, c.newly_ready_count-count.ensures.count))

pub returns-clause-listed : goal.returns-clause-listed
returns-clause-listed g c = either_way c.list_ready_items-listed.result c.list_ready_items-listed.ensures.listed c.list_ready_items-listed.ensures.refused

pub end_on_board-requires-clause-items : goal.end_on_board-requires-clause-items
end_on_board-requires-clause-items g c = c.self.invariant.items
