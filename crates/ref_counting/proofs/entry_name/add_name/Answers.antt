use Rattle.std.proofs.Common.{sym, subst}
use Rattle.dataflow.specs.System.{In}
use Rattle.ref_counting.specs.Leads.{Grows, IsThis}
use Rattle.task_code.specs.View.{name_view}
use Rattle.ref_counting.proofs.Growing.{put_grows, same_fields, same_lead}
use Rattle.ref_counting.proofs.Keys.{put_there}
use Rattle.ref_counting.proofs.entry_name.add_name.Goals as goal

pub returns-clause-there : goal.returns-clause-there
returns-clause-there c = record { lead = c.new.result; there = subst (In c.new.result) (sym c.in_ok-insert.ensures.keys) (put_there same_fields same_lead c.args.leads.now.keys c.new.result); of = c.new.ensures.entry; to = c.new.ensures.name }

pub returns-clause-grows : goal.returns-clause-grows
returns-clause-grows c = subst (Grows (IsThis c.args.entry (name_view c.args.name)) c.args.leads.now.keys) (sym c.in_ok-insert.ensures.keys) (put_grows c.args.leads.now.keys c.new.result c.args.entry (name_view c.args.name) c.new.ensures.entry c.new.ensures.name c.new.ensures.plain)
