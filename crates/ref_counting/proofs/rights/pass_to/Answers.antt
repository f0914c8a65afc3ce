use Rattle.std.proofs.Common.{ℕ, subst}
use Rattle.dataflow.specs.System.{In}
use Rattle.task_code.specs.Code.{Way, entry, ways}
use Rattle.task_code.specs.View.{name_view}
use Rattle.ref_counting.specs.Openings.{way_of}
use Rattle.ref_counting.specs.Passing.{Sees}
use Rattle.ref_counting.proofs.Adding.{adds_answer}
use Rattle.ref_counting.proofs.rights.pass_to.Goals as goal

pub outward-requires-clause-marks : goal.outward-requires-clause-marks
outward-requires-clause-marks c = λ e. c.requires.marks c.args.opening.entry c.args.body (subst (λ w. In {X = Way × ℕ} (w, c.args.body) (ways (entry c.args.code.now c.args.opening.entry).act)) e c.requires.opens)

pub returns-in_ok-add_name : goal.returns-in_ok-add_name
returns-in_ok-add_name c =
    adds_answer c.args.opening.entry (Sees c.args.code.now c.args.opening.entry (way_of c.args.opening.way) c.args.body (name_view c.args.name))
    c.outward.result c.in-Some.outer c.args.leads.now.keys c.add_name.new.leads.keys c.outward.ensures c.in-Some.is c.in_ok-add_name.ensures.there c.in_ok-add_name.ensures.grows
