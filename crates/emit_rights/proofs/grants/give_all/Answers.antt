use Rattle.std.proofs.Common.{◌∙◌, ◌≤◌, ap, map, subst}
use Rattle.std.proofs.lemmas.List.{take_all}
use Rattle.task_code.specs.View.{entry_view}
use Rattle.emit_rights.specs.Granted.{given_all}
use Rattle.emit_rights.proofs.grants.give_all.Goals as goal

pub loop-next-preserved : goal.loop-next-preserved
loop-next-preserved c = c.in_ok-give_next.ensures (map entry_view c.args.entries.now.items) c.loop-next.invariant

pub returns : goal.returns
returns c =
    c.loop-next.invariant
    ∙ ap (given_all c.args.right (map entry_view c.args.entries.now.items))
    (take_all c.loop-next.next c.args.leads.now.keys (subst (λ n. n ≤ c.loop-next.next) c.len-next-end.ensures.len c.loop-next-test.false))
