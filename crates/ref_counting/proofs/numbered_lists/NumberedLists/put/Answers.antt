use Rattle.std.proofs.Common.{◌≡◌, ◌∙◌, ◌++◌, ◌∷◌, [], ap, arith, subst, ◌<◌, ◌≤◌, length, slice_set, rules}
use Rattle.ref_counting.specs.Rows.{put_in}
use Rattle.ref_counting.proofs.Filling.{puts_here, puts_nowhere, rows_of}
use Rattle.ref_counting.proofs.numbered_lists.NumberedLists.put.Goals as goal

pub returns-in_ok-push : goal.returns-in_ok-push
returns-in_ok-push g c =
    let within : c.args.number < length c.self.inside.rows.items = search rules in
    subst (λ old. rows_of (slice_set c.self.inside.rows.items c.args.number c.push.new.self) ≡ put_in old c.args.number c.args.value)
    c.self.view_is
    (puts_here c.self.inside.rows.items c.args.number c.args.value c.push.new.self c.index_mut.result.now within
    (c.in_ok-push.ensures.items ∙ ap (λ v. v.items ++ c.args.value ∷ []) c.index_mut.ensures.value))

pub returns-else-number-len : goal.returns-else-number-len
returns-else-number-len g c =
    let past : length c.self.inside.rows.items ≤ c.args.number = omega (arith, c.if-number-len.false, c.len.ensures) in
    subst (λ old. old ≡ put_in old c.args.number c.args.value) c.self.view_is (puts_nowhere c.self.inside.rows.items c.args.number c.args.value past)
