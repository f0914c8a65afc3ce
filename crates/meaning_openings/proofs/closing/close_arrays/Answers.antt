use Rattle.std.proofs.Common.{rules, arith, ◌≡◌, ◌<◌, length, get_or, sym, subst}
use Rattle.std.proofs.lemmas.Grind.{common_steps}
use Rattle.flow.specs.View.{core_of}
use Rattle.meaning_round.specs.declared.state.LiveArray.{LiveArray}
use Rattle.meaning_openings.specs.Closing.{IsTried}
use Rattle.meaning_round.specs.Made.{candidate_of}
use Rattle.meaning_openings.proofs.LookedAt.{one_more_looked_at}
use Rattle.meaning_openings.proofs.closing.close_arrays.Goals as goal

pub loop-array-preserved : goal.loop-array-preserved
loop-array-preserved g c =
    let A = g.row.A.Denot in
    let s = core_of {A = A} c.args.flow.now in
    let l = c.loop-array.fact_base in
    let m = c.close_one.new.fact_base in
    let within : c.loop-array.array-index < length c.args.arrays.now = grind (arith, common_steps) in
    let item : get_or c.args.arrays.now c.loop-array.array-index c.array-item.result ≡ c.array-item.result = search rules in
    one_more_looked_at {A = A} s c.args.arrays.now c.loop-array.array-index c.array-item.result within c.args.fact_base.now l m c.loop-array.closed.items c.close_one.new.closed.items
    c.loop-array.invariant c.close_one.ensures.facts c.close_one.ensures.instances
    (subst (λ (z : LiveArray A). IsTried s (candidate_of {A = A} z) l m c.loop-array.closed.items c.close_one.new.closed.items) (sym item) c.in_ok-close_one.ensures.tried)
