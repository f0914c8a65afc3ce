use Rattle.std.proofs.Common.{map, arith}
use Rattle.data_store.specs.Arrays.{arranged, text_element}
use Rattle.data_store.proofs.Arranged.{arranged_same, kept_same, room_grown}
use Rattle.data_store.proofs.Pairs.{as_many_elements, texts_same}
use Rattle.data_store.proofs.text_elements.TextElements.reserve.Goals as goal

pub invariant_of-self-then-self-n : goal.invariant_of-self-then-self-n
invariant_of-self-then-self-n c =
    let (_, long, finds) = c.in_ok-reserve.ensures.entries in
    let old = c.self.inside.by_text.entries in
    let new = c.reserve.new.self.entries in (
      kept_same (map text_element old) (map text_element new) c.self.invariant.0 (texts_same old new finds) (as_many_elements text_element old new long) c.args.n c.in_ok-reserve.ensures.ok,
      omega (arith, long, c.self.invariant.1),
    )

pub returns-in_ok-reserve-clause-ok : goal.returns-in_ok-reserve-clause-ok
returns-in_ok-reserve-clause-ok c =
    let (_, long, finds) = c.in_ok-reserve.ensures.entries in
    let old = c.self.inside.by_text.entries in
    let new = c.reserve.new.self.entries in
    let e = arranged_same (map text_element old) (map text_element new) (texts_same old new finds) in
    rw (← c.self.view_is) (room_grown (arranged (map text_element new)) (arranged (map text_element old)) c.args.n c.self.inside.room e c.if-self-n.true)
