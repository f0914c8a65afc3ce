use Rattle.std.proofs.Common.{sym, ap, map, [], append-nil}
use Rattle.board_data.specs.View.{want_view}
use Rattle.slab.specs.Slab.{Slab}
use Rattle.board_instances.specs.declared.instance.Instance.{Instance}
use Rattle.board_instances.specs.View.{frames_view, job_view}
use Rattle.board_changes.proofs.GivenUp.{entry_goes, script_goes}
use Rattle.board_changes.proofs.data_state.DataState.release_item.Goals as goal

pub returns-in-Script-clause-goes : goal.returns-in-Script-clause-goes
returns-in-Script-clause-goes c = ([], script_goes c.args.program.now (job_view c.args.job) (ap job_view c.in-Script.is) (frames_view c.args.self.now.instances.slots) c.args.self.now.store, sym (append-nil (map want_view c.args.known.now.items)))

pub returns-in_ok-give_up-in-Does-clause-goes : goal.returns-in_ok-give_up-in-Does-clause-goes
returns-in_ok-give_up-in-Does-clause-goes c =
    let g = c.in_ok-give_up-in-Does.ensures.gives in
    (g.0, entry_goes c.args.program.now (job_view c.args.job) c.in-Does.instance c.in-Does.entry c.in-Does.chunk (ap job_view c.in-Does.is) (frames_view c.args.self.now.instances.slots) (frames_view c.leave.new.instances.slots) (frames_view c.give_up.new.self.instances.slots) c.args.self.now.store c.give_up.new.self.store g.0 (ap (λ (i : Slab Instance). frames_view i.slots) c.give_up.ensures.instances) g.1 g.2 c.leave.ensures, g.3)
