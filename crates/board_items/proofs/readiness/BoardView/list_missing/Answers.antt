use Rattle.std.proofs.Common.{◌∙◌, ◌++◌, ap, map}
use Rattle.std.proofs.lemmas.Result.{on_ok_weaker}
use Rattle.board_data.specs.View.{cells_view, want_view}
use Rattle.board_instances.specs.View.{job_view}
use Rattle.board_items.proofs.Jobs.{listed_past, listed_there}
use Rattle.board_items.proofs.readiness.BoardView.list_missing.Goals as goal

pub returns-in_default-entry-clause-listed : goal.returns-in_default-entry-clause-listed
returns-in_default-entry-clause-listed c = λ few seen. listed_past _ _ (cells_view c.args.self.store.now.cells) (map want_view c.args.inputs.now.items) c.in-Does.instance c.in-Does.entry c.in-Does.chunk (job_view c.args.job) (ap job_view c.in-Does.is) seen c.in_default-entry.ensures

pub returns-clause-listed : goal.returns-clause-listed
returns-clause-listed c = on_ok_weaker c.list_missing.result (λ h. λ few seen. h ∙ ap (λ ys. map want_view c.args.inputs.now.items ++ ys) (listed_there _ _ (cells_view c.args.self.store.now.cells) c.as_slice.result.now c.in-Does.instance c.in-Does.entry c.in-Does.chunk (job_view c.args.job) (ap job_view c.in-Does.is) few seen (c.as_slice.ensures ∙ c.in-Some.ensures.1.needs))) c.list_missing.ensures.listed
