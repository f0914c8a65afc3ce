use Rattle.std.proofs.Common.{◌≡◌, ◌∙◌, ◌≤◌, ◌+◌, ◌^◌, ap, sym, subst, vec_len, length, true, false, Vec, Global, arith}
use Rattle.data_store.specs.Stores.{Store}
use Rattle.board_changes.specs.Filled.{Fills}
use Rattle.board_data.specs.Data.{AreRising}
use Rattle.board_instances.specs.declared.pending.PendingInstance.{PendingInstance}
use Rattle.board_changes.proofs.Filled.{fill_last, fill_next, long_enough, more_room, still_room}
use Rattle.board_changes.proofs.instance_data.fill_all.Goals as goal
use Rattle.board_changes.proofs.instance_data.fill_all.Goals.{in-Some+in_ok-fill, in_default}

pub loop-at-preserved : goal.loop-at-preserved
loop-at-preserved c = elim c.match-get_mut.branch [
  | in-Some+in_ok-fill w ↦ (
    fill_next c.args.own.now c.args.slots c.loop-at.at c.args.list.now.items c.loop-at.list.items c.match-get_mut.list.items c.args.store.now c.loop-at.store c.match-get_mut.store w.in-Some.opening.now w.fill.new.opening (omega (arith, c.loop-at-test.true, c.len-at-end.ensures, c.loop-at.invariant.1, c.loop-at.list.ok.0)) w.in-Some.ensures.value (ap (λ (v : Vec PendingInstance Global). v.items) w.list-is) c.loop-at.invariant.0
        (subst (λ (s : Store). Fills c.args.own.now c.args.slots w.in-Some.opening.now c.loop-at.store w.fill.new.opening s) (sym w.store-is) w.in_ok-fill.ensures.filled),
    ap (λ (v : Vec PendingInstance Global). vec_len v) w.list-is ∙ c.loop-at.invariant.1,
    (λ all. more_room c.args.store.now.room c.loop-at.store.room c.match-get_mut.store.room c.loop-at.at (length c.args.own.now) (c.loop-at.invariant.2 all)
        (subst (λ (s : Store). c.loop-at.store.room ≤ s.room + length c.args.own.now) (sym w.store-is) (w.in_ok-fill.ensures.room
        (long_enough (length c.args.own.now) c.loop-at.at c.args.list.now.items c.loop-at.list.items w.in-Some.opening.now all (omega (arith, c.loop-at-test.true, c.len-at-end.ensures, c.loop-at.invariant.1, c.loop-at.list.ok.0)) w.in-Some.ensures.value c.loop-at.invariant.0.rest)))),
    (λ r. subst AreRising (sym w.store-is) (w.in_ok-fill.ensures.rising (c.loop-at.invariant.3 r))),
    λ all h. ap (λ (s : Store). s.bound) w.store-is ∙ w.in_ok-fill.ensures.bound (still_room c.args.store.now.room c.loop-at.store.room c.loop-at.at (vec_len c.args.list.now) (length c.args.own.now) h (c.loop-at.invariant.2 all) (omega (arith, c.loop-at-test.true, c.len-at-end.ensures, c.loop-at.invariant.1))) ∙ c.loop-at.invariant.4 all h,
  )
  | in_default w ↦ (let bad : false ≡ true = w.in_default.ensures.variant.1 (omega (arith, c.loop-at-test.true, c.len-at-end.ensures, c.loop-at.invariant.1)) in absurd (cc))
]

pub returns-clause-filled : goal.returns-clause-filled
returns-clause-filled c =
    let I = c.loop-at.invariant in
    fill_last c.args.own.now c.args.slots c.loop-at.at c.args.list.now.items c.loop-at.list.items c.args.store.now c.loop-at.store (omega (arith, c.loop-at-test.false, c.len-at-end.ensures, I.1, c.loop-at.list.ok.0)) (omega (arith, c.loop-at-test.false, c.len-at-end.ensures, c.args.list.now.ok.0)) I.0

pub returns-in_err-fill-clause-succeeds : goal.returns-in_err-fill-clause-succeeds
returns-in_err-fill-clause-succeeds c = λ all h few.
    let I = c.loop-at.invariant in
    let bad : false ≡ true = c.in_err-fill.ensures.succeeds (still_room c.args.store.now.room c.loop-at.store.room c.loop-at.at (vec_len c.args.list.now) (length c.args.own.now) h (I.2 all) (omega (arith, c.loop-at-test.true, c.len-at-end.ensures))) (subst (λ n. n ≤ 2 ^ 32) (sym (I.4 all h)) few) in
    absurd (cc)
