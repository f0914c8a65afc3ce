use Rattle.std.proofs.Common.{◌∙◌, sym, ap, map, Vec, Global}
use Rattle.rules.specs.declared.input.Input.{Input}
use Rattle.board_data.specs.View.{want_view}
use Rattle.board_instances.specs.View.{frames_view, job_view, rows_view}
use Rattle.board_changes.specs.declared.data_state.DataState.{DataState}
use Rattle.board_changes.proofs.Changed.{goes_away, goes_ends, stays_ends}
use Rattle.board_changes.proofs.data_state.DataState.end.Goals as goal
use Rattle.board_changes.proofs.data_state.DataState.end.Goals.{then-not-goes_on+in_ok-release_item, else-not-goes_on}

pub returns-clause-ends : goal.returns-clause-ends
returns-clause-ends c =
    let j = job_view c.args.job in
    let x = c.args.change in
    let known = map want_view c.args.known.now.items in
    elim c.if-not-goes_on.branch [
      | then-not-goes_on+in_ok-release_item w ↦
          goes_ends c.args.program.now j x (frames_view c.args.self.now.instances.slots) (frames_view c.make.new.self.instances.slots) (rows_view c.args.rows.now.items) (rows_view c.make.new.rows.items) c.args.self.now.store c.make.new.self.store
          (sym c.goes_on-goes_on.ensures ∙ w.if-not-goes_on.true) (frames_view c.if-not-goes_on.self.instances.slots) c.if-not-goes_on.self.store known (map want_view c.make.new.known.items) (map want_view c.if-not-goes_on.known.items) c.in_ok-spare.ensures.changed c.in_ok-spare.ensures.told
          (goes_away c.args.program.now j (frames_view c.make.new.self.instances.slots) (frames_view w.release_item.new.self.instances.slots) (frames_view c.if-not-goes_on.self.instances.slots) c.make.new.self.store w.release_item.new.self.store c.if-not-goes_on.self.store (map want_view c.make.new.known.items) (map want_view w.release_item.new.known.items) (map want_view c.if-not-goes_on.known.items)
          (ap (λ (x : DataState). frames_view x.instances.slots) w.self-is) (ap (λ (x : DataState). x.store) w.self-is) (ap (λ (x : Vec Input Global). map want_view x.items) w.known-is) w.in_ok-release_item.ensures.goes)
      | else-not-goes_on w ↦
          stays_ends c.args.program.now j x (frames_view c.args.self.now.instances.slots) (frames_view c.make.new.self.instances.slots) (rows_view c.args.rows.now.items) (rows_view c.make.new.rows.items) c.args.self.now.store c.make.new.self.store
          (sym c.goes_on-goes_on.ensures ∙ w.if-not-goes_on.false) (frames_view c.if-not-goes_on.self.instances.slots) c.if-not-goes_on.self.store known (map want_view c.make.new.known.items) (map want_view c.if-not-goes_on.known.items) c.in_ok-spare.ensures.changed
          (ap (λ (x : DataState). frames_view x.instances.slots) w.self-is) (ap (λ (x : DataState). x.store) w.self-is) c.in_ok-spare.ensures.told (ap (λ (x : Vec Input Global). map want_view x.items) w.known-is)
    ]
