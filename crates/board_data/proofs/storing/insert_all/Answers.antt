use Rattle.std.proofs.Common.{◌≡◌, ◌∙◌, sym, ap, subst, length, rules}
use Rattle.std.specs.Vec.Iter.{into_iter_items}
use Rattle.board_data.specs.Stored.{Takes}
use Rattle.board_data.proofs.Rising.{insert_rises}
use Rattle.board_data.proofs.Stored.{last_stored, put_in, step_stored}
use Rattle.board_data.proofs.Steps.{one_by_one}
use Rattle.board_data.proofs.storing.insert_all.Goals as goal

pub loop-one-preserved : goal.loop-one-preserved
loop-one-preserved c = (
  λ h.
      let so = c.loop-one.invariant.0 h in
      let e = c.in-Some.ensures.steps.0 in
      step_stored c.args.d c.in-Some.one (into_iter_items c.next.new.self) c.loop-one.store c.insert.new.store _
      (subst (λ es. Takes c.args.d es c.loop-one.store) e so.0)
      (sym (ap (λ es. one_by_one (put_in c.args.d) es c.loop-one.store) e) ∙ so.1)
      c.insert.ensures.took,
  λ r. insert_rises c.args.d c.in-Some.one.key c.in-Some.one.value c.loop-one.store c.insert.new.store c.insert.ensures.exact (c.loop-one.invariant.1 r),
)

pub returns : goal.returns
returns c =
    let z : length (into_iter_items c.loop-one.one-iterator) ≡ 0 = search rules in
    record { stores = last_stored c.args.d c.args.elements.items (into_iter_items c.loop-one.one-iterator) c.args.store.now c.loop-one.store z c.loop-one.invariant.0; rising = c.loop-one.invariant.1 }
