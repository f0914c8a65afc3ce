use Rattle.std.proofs.Common.{◌∙◌, ◌<◌, ◌≤◌, ap, length, arith, rules}
use Rattle.task_code.specs.View.{entry_view, name_view}
use Rattle.emit_rights.specs.Granted.{with_right}
use Rattle.emit_rights.proofs.Giving.{given_here, given_nowhere}
use Rattle.emit_rights.proofs.grants.give.Goals as goal

pub returns-in_ok-add_right : goal.returns-in_ok-add_right
returns-in_ok-add_right c =
    let within : c.args.number < length c.args.entries.now.items = search rules in
    given_here c.args.right c.args.entries.now.items c.args.number (name_view c.args.name) c.add_right.new.entry c.index_mut.result.now within
    (c.in_ok-add_right.ensures ∙ ap (λ e. with_right c.args.right (entry_view e) (name_view c.args.name)) c.index_mut.ensures.value)

pub returns-else-number-len : goal.returns-else-number-len
returns-else-number-len c =
    let past : length c.args.entries.now.items ≤ c.args.number = omega (arith, c.if-number-len.false, c.len.ensures) in
    given_nowhere c.args.right c.args.entries.now.items c.args.number (name_view c.args.name) past
