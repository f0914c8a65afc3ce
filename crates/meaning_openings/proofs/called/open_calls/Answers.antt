use Rattle.std.proofs.Common.{rules, arith, ◌≡◌, ◌<◌, ◌++◌, ◌∷◌, [], List, length, get_or, take, ap, refl, subst, sym, ◌∙◌}
use Rattle.std.proofs.lemmas.Grind.{common_steps}
use Rattle.std.specs.Borrow.{Bor}
use Rattle.flow.specs.declared.cell.Call.{Call}
use Rattle.flow.specs.declared.script.Flow.{Flow}
use Rattle.flow.specs.View.{call_view, core_of}
use Rattle.language.specs.Core as core
use Rattle.language.specs.Core.{stmt}
use Rattle.language.specs.Members.{◌∈◌}
use Rattle.language.specs.Parts.{part_calls, parts}
use Rattle.meaning_cells.specs.Listed.{calls_listed}
use Rattle.meaning_round.specs.declared.state.LiveAction.{LiveAction}
use Rattle.meaning_round.specs.Standing.{active_of, deed_view}
use Rattle.meaning_openings.specs.Opening.{HaveBodies}
use Rattle.meaning_openings.proofs.Calling.{bodies_called, body_next, call_there, calls_more, no_bodies}
use Rattle.meaning_openings.proofs.Entering.{more_joins, more_none}
use Rattle.meaning_openings.proofs.Larger.{answer_passes, memory_is_small}
use Rattle.meaning_openings.proofs.called.open_calls.Goals as goal

pub loop-call-init : goal.loop-call-init
loop-call-init g c =
    let A = g.row.A.Denot in
    record {
      so = λ s n e w good live. no_bodies {A = A} s n c.args.state.now c.args.task.now.site.instance good;
      more = more_none {A = A} c.args.state.now;
      flow = refl;
      passed = refl;
      waiting = refl;
    }

pub loop-call-preserved : goal.loop-call-preserved
loop-call-preserved g c =
    let A = g.row.A.Denot in
    let old = c.args.state.now in
    let mid = c.loop-call.state in
    let new = c.open_call.new.state in
    let cs = c.deref-call-items.result.now in
    let k = c.loop-call.call-index in
    let d = c.call-item.result in
    let site = c.args.task.now.site in
    let st = stmt site.at site.node (deed_view {A = A} c.args.task.now.live_action) in
    let within : c.loop-call.call-index < length c.deref-call-items.result.now = grind (arith, common_steps) in
    let item : c.call-item.result ≡ get_or c.deref-call-items.result.now c.loop-call.call-index c.call-item.result = search rules in
    let listed : calls_listed {A = g.row.A.Denot} c.deref-call-items.result.now ≡ part_calls (parts (deed_view {A = g.row.A.Denot} c.args.task.now.live_action)) =
    ap (λ (z : List (Bor (Call g.row.A.Denot))). calls_listed {A = g.row.A.Denot} z) c.deref-call-items.ensures.value ∙ c.in_ok-calls.ensures ∙ ap (λ (z : LiveAction g.row.A.Denot). part_calls (parts (deed_view z))) (sym c.in-Does.is) in
    let there : call_view {A = g.row.A.Denot} c.call-item.result.now ∈ part_calls (parts (deed_view {A = g.row.A.Denot} c.args.task.now.live_action)) =
    subst (λ (z : Bor (Call g.row.A.Denot)). call_view z.now ∈ part_calls (parts (deed_view {A = g.row.A.Denot} c.args.task.now.live_action))) (sym item)
    (subst (λ (z : List core.Call). call_view {A = g.row.A.Denot} (get_or c.deref-call-items.result.now c.loop-call.call-index c.call-item.result).now ∈ z) listed (call_there {A = A} cs k d within)) in
    let more = calls_more {A = A} cs k d within ∙ ap (λ (z : Bor (Call A)). calls_listed {A = A} (take k cs) ++ call_view {A = A} z.now ∷ []) (sym item) in
    record {
      so = λ s n e w good live. subst (λ (z : List core.Call). HaveBodies {A = A} s n old new site.instance z) (sym more)
          (body_next {A = A} s n old mid new site.instance st (calls_listed {A = A} (take k cs)) (call_view {A = A} d.now) good live (c.loop-call.invariant.so s n e w good live)
          (λ now here. c.in_ok-open_call.ensures.so s n (e ∙ ap (λ (z : Flow A). core_of z) (sym c.loop-call.invariant.flow)) w now st here there));
      more = more_joins {A = A} old mid new c.loop-call.invariant.more c.in_ok-open_call.ensures.more;
      flow = c.open_call.ensures.flow ∙ c.loop-call.invariant.flow;
      passed = c.open_call.ensures.passed ∙ c.loop-call.invariant.passed;
      waiting = c.open_call.ensures.waiting ∙ c.loop-call.invariant.waiting;
    }

pub returns-clause-so : goal.returns-clause-so
returns-clause-so g c =
    let A = g.row.A.Denot in
    let cs = c.deref-call-items.result.now in
    let full : take c.loop-call.call-index c.deref-call-items.result.now ≡ c.deref-call-items.result.now = grind (arith, common_steps) in
    let listed : calls_listed {A = g.row.A.Denot} c.deref-call-items.result.now ≡ part_calls (parts (deed_view {A = g.row.A.Denot} c.args.task.now.live_action)) =
    ap (λ (z : List (Bor (Call g.row.A.Denot))). calls_listed {A = g.row.A.Denot} z) c.deref-call-items.ensures.value ∙ c.in_ok-calls.ensures ∙ ap (λ (z : LiveAction g.row.A.Denot). part_calls (parts (deed_view z))) (sym c.in-Does.is) in
    λ s n e w good live. bodies_called {A = A} s n c.args.state.now c.loop-call.state (active_of {A = A} c.args.task.now) good live
    (subst (λ (z : List core.Call). HaveBodies {A = A} s n c.args.state.now c.loop-call.state c.args.task.now.site.instance z)
    (ap (λ (z : List (Bor (Call A))). calls_listed {A = A} z) full ∙ listed) (c.loop-call.invariant.so s n e w good live))

pub returns-in_err-calls-clause-large : goal.returns-in_err-calls-clause-large
returns-in_err-calls-clause-large g c = memory_is_small _ c.from_residual.result c.from_residual.ensures.1

pub returns-in_err-check-clause-large : goal.returns-in_err-check-clause-large
returns-in_err-check-clause-large g c = answer_passes c.in_err-check.field-0.0 c.from_residual-in_err-check.result c.from_residual-in_err-check.ensures.1
    (λ e s n same w good live. c.in_err-check.ensures e s n (c.loop-call.invariant.so s n same w good live).step.so)

pub returns-in_err-open_call-clause-large : goal.returns-in_err-open_call-clause-large
returns-in_err-open_call-clause-large g c = memory_is_small _ c.from_residual-in_err-open_call.result c.from_residual-in_err-open_call.ensures.1
