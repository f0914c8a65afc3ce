use Rattle.std.proofs.Common.{sym, ◌∙◌}
use Rattle.flow.specs.View.{core_of}
use Rattle.flow.proofs.Decided.{test_whole, whole_test}
use Rattle.flow.proofs.script.Flow.is_whole.Goals as goal

pub returns : goal.returns
returns g c =
    let s = core_of {A = g.row.A.Denot} c.args.self.now in
    (λ h. test_whole s (sym c.is_script_fit.ensures ∙ h), λ w. c.is_script_fit.ensures ∙ whole_test s w)
