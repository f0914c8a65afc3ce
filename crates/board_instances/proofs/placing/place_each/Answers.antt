use Rattle.std.proofs.Common.{◌≡◌, ◌∙◌, ◌≤◌, ◌^◌, sym, subst, true, false, ℕ, arith, ◌++◌, ◌∷◌, [], length, vec_capacity, vec_len}
use Rattle.std.specs.Vec.Iter.{into_iter_items}
use Rattle.slab.specs.Slab.{slab_len}
use Rattle.board_instances.specs.View.{frames_view, opening_frame, rows_view}
use Rattle.board_instances.proofs.Puts.{frames_more, items_more, items_one, placed_more, room_more, room_one}
use Rattle.board_instances.proofs.placing.place_each.Goals as goal

grows : (a b c : ℕ) → a ≤ b → b ≤ c → a ≤ c
grows a b c x y = omega (arith, x, y)

pub loop-opening-preserved : goal.loop-opening-preserved
loop-opening-preserved c =
    let p = c.loop-opening.invariant.placed in
    let left = into_iter_items c.loop-opening.opening-iterator in
    let rest = into_iter_items c.next.new.self in
    let e = c.in-Some.ensures.steps.0 in
    let d = c.in_ok-place_opening.ensures in
    record {
      placed = (
        p.0 ++ opening_frame c.in-Some.opening ∷ [],
        frames_more opening_frame p.0 left rest c.args.list.items c.in-Some.opening e p.1,
        placed_more p.0 c.args.entries.now (frames_view c.args.instances.now.slots) (frames_view c.loop-opening.instances.slots) (frames_view c.place_opening.new.instances.slots) (rows_view c.args.items.now.items) c.loop-opening.items.items c.place_opening.new.items.items c.loop-opening.last c.in_ok-place_opening.field-0 (opening_frame c.in-Some.opening) p.2 d.fresh d.sets d.items,
      );
      room = λ a b. (let r = c.loop-opening.invariant.room a b in (
        room_more left rest c.in-Some.opening (slab_len c.loop-opening.instances) (slab_len c.place_opening.new.instances) c.loop-opening.instances.capacity c.place_opening.new.instances.capacity e r.0 d.len d.capacity.0,
        items_more left rest c.in-Some.opening (length c.args.entries.now) (vec_len c.loop-opening.items) (vec_len c.place_opening.new.items) (vec_capacity c.loop-opening.items) (vec_capacity c.place_opening.new.items) e r.1 d.lens d.capacity.1,
        d.room_kept (room_one left rest c.in-Some.opening (slab_len c.loop-opening.instances) c.loop-opening.instances.capacity e r.0) ∙ r.2,
      ));
      capacity = grows (vec_capacity c.args.items.now) (vec_capacity c.loop-opening.items) (vec_capacity c.place_opening.new.items) c.loop-opening.invariant.capacity d.capacity.1;
    }

pub returns-in_err-place_opening-clause-succeeds : goal.returns-in_err-place_opening-clause-succeeds
returns-in_err-place_opening-clause-succeeds c = λ h few g.
    let r = c.loop-opening.invariant.room h g in
    let left = into_iter_items c.loop-opening.opening-iterator in
    let rest = into_iter_items c.next.new.self in
    let e = c.in-Some.ensures.steps.0 in
    let bad : false ≡ true = c.in_err-place_opening.ensures.succeeds (room_one left rest c.in-Some.opening (slab_len c.loop-opening.instances) c.loop-opening.instances.capacity e r.0) (subst (λ n. n ≤ 2 ^ 32) (sym r.2) few) (items_one left rest c.in-Some.opening (length c.args.entries.now) (vec_len c.loop-opening.items) (vec_capacity c.loop-opening.items) e r.1) in
    absurd (cc)
