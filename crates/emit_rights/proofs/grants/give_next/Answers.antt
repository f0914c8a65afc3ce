use Rattle.std.proofs.Common.{map, sym}
use Rattle.std.proofs.lemmas.Option.{get_or_from_slice_get}
use Rattle.task_code.specs.View.{entry_view, name_view}
use Rattle.emit_rights.proofs.Giving.{gives_next}
use Rattle.emit_rights.proofs.grants.give_next.Goals as goal

pub returns-in_ok-give-in-Some : goal.returns-in_ok-give-in-Some
returns-in_ok-give-in-Some c =
    gives_next c.args.right c.args.leads.now.keys c.args.next c.in-Some.lead.now (name_view c.name.result)
    (map entry_view c.args.entries.now.items) (map entry_view c.give.new.entries.items) c.requires
    (get_or_from_slice_get c.args.leads.now.keys c.args.next c.in-Some.lead.now c.in-Some.lead.now (sym c.in-Some.ensures.key))
    c.name.ensures c.in_ok-give-in-Some.ensures
