use Rattle.std.proofs.Common.{◌∙◌, ap}
use Rattle.std.proofs.lemmas.Result.{on_ok_weaker}
use Rattle.slab.specs.Slab.{Slab}
use Rattle.board_instances.specs.declared.instance.Instance.{Instance}
use Rattle.board_instances.specs.View.{frames_view, job_view, rows_view}
use Rattle.board_changes.specs.declared.data_state.DataState.{DataState}
use Rattle.board_changes.proofs.Changed.{element_changed, elements_changed, nothing_changed, open_changed, value_changed}
use Rattle.board_changes.proofs.data_state.DataState.make.Goals as goal
use Rattle.board_changes.proofs.data_state.DataState.make.Goals.{in-Nothing, in-Value+in_ok-store_value-in-Value, in-Element+in_ok-store_element-in-Element, in-Elements+in_ok-store_all-in-Elements}

pub returns-in-Opens-clause-changed : goal.returns-in-Opens-clause-changed
returns-in-Opens-clause-changed c =
    on_ok_weaker c.open.result (open_changed c.args.program.now (job_view c.args.job) c.args.change c.in-Opens.openings c.in-Opens.is (frames_view c.args.self.now.instances.slots) (frames_view c.open.new.self.instances.slots) (rows_view c.args.rows.now.items) (rows_view c.open.new.rows.items) c.args.self.now.store c.open.new.self.store) c.open.ensures.opens

pub returns-clause-changed : goal.returns-clause-changed
returns-clause-changed c = elim c.match-change.branch [
  | in-Nothing w ↦ nothing_changed c.args.program.now (job_view c.args.job) c.args.change (frames_view c.args.self.now.instances.slots) (frames_view c.match-change.self.instances.slots) (rows_view c.args.rows.now.items) c.args.self.now.store c.match-change.self.store
      w.in-Nothing.is (ap (λ (x : DataState). frames_view x.instances.slots) w.self-is) (ap (λ (x : DataState). x.store) w.self-is)
  | in-Value+in_ok-store_value-in-Value w ↦ value_changed c.args.program.now (job_view c.args.job) c.args.change (frames_view c.args.self.now.instances.slots) (frames_view c.match-change.self.instances.slots) (rows_view c.args.rows.now.items) c.args.self.now.store c.match-change.self.store
      w.in-Value.d w.in-Value.value w.in-Value.is (ap (λ (x : DataState). frames_view x.instances.slots) w.self-is ∙ ap (λ (x : Slab Instance). frames_view x.slots) w.in_ok-store_value-in-Value.ensures.instances) w.store_value.new.self.store (ap (λ (x : DataState). x.store) w.self-is) w.in_ok-store_value-in-Value.ensures.stores
  | in-Element+in_ok-store_element-in-Element w ↦ element_changed c.args.program.now (job_view c.args.job) c.args.change (frames_view c.args.self.now.instances.slots) (frames_view c.match-change.self.instances.slots) (rows_view c.args.rows.now.items) c.args.self.now.store c.match-change.self.store
      w.in-Element.d w.in-Element.key w.in-Element.value w.in-Element.is (ap (λ (x : DataState). frames_view x.instances.slots) w.self-is ∙ ap (λ (x : Slab Instance). frames_view x.slots) w.in_ok-store_element-in-Element.ensures.instances) w.store_element.new.self.store (ap (λ (x : DataState). x.store) w.self-is) w.in_ok-store_element-in-Element.ensures.stores
  | in-Elements+in_ok-store_all-in-Elements w ↦ elements_changed c.args.program.now (job_view c.args.job) c.args.change (frames_view c.args.self.now.instances.slots) (frames_view c.match-change.self.instances.slots) (rows_view c.args.rows.now.items) c.args.self.now.store c.match-change.self.store
      w.in-Elements.d w.in-Elements.elements w.in-Elements.is (ap (λ (x : DataState). frames_view x.instances.slots) w.self-is ∙ ap (λ (x : Slab Instance). frames_view x.slots) w.in_ok-store_all-in-Elements.ensures.instances) w.store_all.new.self.store (ap (λ (x : DataState). x.store) w.self-is) w.in_ok-store_all-in-Elements.ensures.stores
]
