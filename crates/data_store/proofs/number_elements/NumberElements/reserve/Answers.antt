use Rattle.std.proofs.Common.{◌++◌, map}
use Rattle.data_store.specs.Arrays.{arranged, number_element}
use Rattle.data_store.proofs.Arranged.{arranged_same, kept_same, room_grown}
use Rattle.data_store.proofs.Filled.{same_second, length_second}
use Rattle.data_store.proofs.Pairs.{as_many_elements, numbers_same}
use Rattle.data_store.proofs.number_elements.NumberElements.reserve.Goals as goal

pub invariant_of-self-then-self-n : goal.invariant_of-self-then-self-n
invariant_of-self-then-self-n c =
    let (_, long, finds) = c.in_ok-reserve.ensures.entries in
    let slots = c.self.inside.slots in
    let old = slots ++ c.self.inside.by_key.entries in
    let new = slots ++ c.reserve.new.self.entries in
    kept_same (map number_element old) (map number_element new) c.self.invariant
    (numbers_same old new (same_second slots c.self.inside.by_key.entries c.reserve.new.self.entries finds))
    (as_many_elements number_element old new (length_second slots c.self.inside.by_key.entries c.reserve.new.self.entries long)) c.args.n c.in_ok-reserve.ensures.ok

pub returns-in_ok-reserve-clause-ok : goal.returns-in_ok-reserve-clause-ok
returns-in_ok-reserve-clause-ok c =
    let (_, long, finds) = c.in_ok-reserve.ensures.entries in
    let slots = c.self.inside.slots in
    let old = slots ++ c.self.inside.by_key.entries in
    let new = slots ++ c.reserve.new.self.entries in
    let e = arranged_same (map number_element old) (map number_element new) (numbers_same old new (same_second slots c.self.inside.by_key.entries c.reserve.new.self.entries finds)) in
    rw (← c.self.view_is) (room_grown (arranged (map number_element new)) (arranged (map number_element old)) c.args.n c.self.inside.room e c.if-self-n.true)
