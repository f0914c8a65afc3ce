use Rattle.std.proofs.Common.{rules, arith, ◌≡◌, ap, ◌∙◌, [], subst, refl}
use Rattle.board.specs.Board.{Accepts}
use Rattle.board.proofs.Staying.{work_begun, work_later}
use Rattle.dataflow.specs.Machine.{Begin}
use Rattle.dataflow.specs.System.{In}
use Rattle.task_code.specs.Code.{Code, Kind}
use Rattle.task_code.specs.Machine.{CodeItem}
use Rattle.task_code.specs.System.{task_kind}
use Rattle.workers.specs.Threads.{MayRun}
use Rattle.workers.proofs.SharedFacts.{begun, counted_more, no_back_more}
use Rattle.workers.proofs.audited_board.AuditedBoard.begin_item.Goals as goal

pub invariant_of-self-2 : goal.invariant_of-self-2
invariant_of-self-2 g c =
    let k = c.self.invariant in
    let C = g.J.RunParams.code in
    let old = c.self.inside.board in
    let new = c.begin.new.self in
    let a : Accepts old (Begin c.args.worker c.args.item) new = search rules in
    let there : (i : CodeItem) × In i old.state.items × (i.number ≡ c.args.item) × (c.args.kind ≡ task_kind old.code i.task) = search (rules, c.in-Some.ensures.some, c.if-ne.false) in
    let still : new.newly ≡ [] = search rules in
    let same : c.args.kind ≡ task_kind C there.0.task = there.3 ∙ ap (λ (x : Code). task_kind x there.0.task) k.code in
    let place = subst (λ (x : Kind). MayRun g.J.RunParams.engines g.J.RunParams.workers c.args.worker x) same c.requires.place in
    let more = counted_more old new (Begin c.args.worker c.args.item) a in
    record {
      code = a.code ∙ k.code;
      limit_is = a.limit ∙ k.limit_is;
      some = k.some;
      counted = omega (arith, more, k.counted, c.add.ensures.total, c.audit.ensures.total);
      enabled_total_is = k.enabled_total_is;
      fits = k.fits;
      runs = begun C g.J.RunParams.engines g.J.RunParams.workers c.args.worker c.args.item c.self.inside.enabled_total old new k.code k.runs a still there.0 there.1 there.2 place;
      no_back = λ going. no_back_more old new (Begin c.args.worker c.args.item) a refl (k.no_back going);
      items = λ work h. work_later old new c.history-before.ensures.whole c.history-before.ensures.replays (Begin c.args.worker c.args.item) a work (k.items work h);
    }

pub returns-clause-ok : goal.returns-clause-ok
returns-clause-ok g c =
    let k = c.self.invariant in
    let old = c.self.inside.board in
    let new = c.begin.new.self in
    let a : Accepts old (Begin c.args.worker c.args.item) new = search rules in
    let more = counted_more old new (Begin c.args.worker c.args.item) a in
    let amount = c.audit.ensures.amount ∙ c.add.ensures.amount in
    (amount, omega (arith, amount, more, k.counted, c.add.ensures.total, c.audit.ensures.bound, c.history-within.ensures.within, c.history-within.ensures.few))

pub log_start-requires : goal.log_start-requires
log_start-requires g c = work_begun c.begin.new.self c.history-within.ensures.replays c.args.worker c.in_ok-work.work c.in_ok-work.ensures.work
