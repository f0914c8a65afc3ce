use Rattle.std.proofs.Common.{◌∙◌, ap}
use Rattle.board_data.specs.View.{cells_view}
use Rattle.board_instances.specs.View.{job_view}
use Rattle.board_items.proofs.Jobs.{listed_there, missed_past, none_true, true_none}
use Rattle.board_items.proofs.readiness.BoardView.has_inputs.Goals as goal

pub returns-in_default-entry-clause-none : goal.returns-in_default-entry-clause-none
returns-in_default-entry-clause-none c = λ few seen. missed_past _ _ (cells_view c.args.self.store.now.cells) c.in-Does.instance c.in-Does.entry c.in-Does.chunk (job_view c.args.job) (ap job_view c.in-Does.is) seen c.in_default-entry.ensures

pub returns-clause-none : goal.returns-clause-none
returns-clause-none c = λ few seen. true_none c.is_complete.result _ _ c.is_complete.ensures (listed_there _ _ (cells_view c.args.self.store.now.cells) c.as_slice.result.now c.in-Does.instance c.in-Does.entry c.in-Does.chunk (job_view c.args.job) (ap job_view c.in-Does.is) few seen (c.as_slice.ensures ∙ c.in-Some.ensures.1.needs))

pub returns-clause-some : goal.returns-clause-some
returns-clause-some c = λ few seen none. none_true c.is_complete.result _ _ c.is_complete.ensures (listed_there _ _ (cells_view c.args.self.store.now.cells) c.as_slice.result.now c.in-Does.instance c.in-Does.entry c.in-Does.chunk (job_view c.args.job) (ap job_view c.in-Does.is) few seen (c.as_slice.ensures ∙ c.in-Some.ensures.1.needs)) none
