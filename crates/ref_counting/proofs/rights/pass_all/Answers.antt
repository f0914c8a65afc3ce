use Rattle.std.proofs.Common.{◌≤◌, ◌<◌, arith, subst}
use Rattle.ref_counting.proofs.Closing.{all_closed}
use Rattle.ref_counting.proofs.Growing.{same_fields, same_self}
use Rattle.ref_counting.proofs.Keys.{distinct_keys}
use Rattle.ref_counting.proofs.rights.pass_all.Goals as goal

pub loop-next-preserved : goal.loop-next-preserved
loop-next-preserved c =
    let I = c.loop-next.invariant in
    let S = c.in_ok-pass_next.ensures in
    let small : c.len.result < 9223372036854775808 = c.len.ensures.small in
    let below : c.loop-next.next < c.len.result = c.loop-next-test.true in
    record {
      within = S.within I.within;
      kept = λ i r t. S.kept i r (I.kept i r t);
      plain = λ P. S.plain (I.plain P);
      sound = λ own L. S.sound own (I.sound own L);
      closed = S.closed I.within I.closed;
      bound = omega arith;
    }

pub returns-clause-closed : goal.returns-clause-closed
returns-clause-closed c = all_closed c.args.code.now c.loop-next.leads.keys c.loop-next.next (subst (λ n. n ≤ c.loop-next.next) c.len.ensures.len c.loop-next-test.false) c.loop-next.invariant.closed

pub returns-clause-distinct : goal.returns-clause-distinct
returns-clause-distinct c = distinct_keys same_fields same_self c.loop-next.leads.keys c.len.ensures.unique
