use Rattle.std.proofs.Common.{◌∙◌, ap}
use Rattle.task_code.specs.View.{entry_view}
use Rattle.code_rules.specs.Laying.{bare}
use Rattle.emit_rights.proofs.Giving.{bare_here}
use Rattle.emit_rights.proofs.grants.clear_at.Goals as goal

pub returns : goal.returns
returns c =
    bare_here c.args.entries.now.items c.args.number c.clear.new.entry c.index_mut.result.now c.requires
    (c.clear.ensures ∙ ap (λ e. bare (entry_view e)) c.index_mut.ensures.value)
