use Rattle.std.proofs.Common.{refl}
use Rattle.swt_command.specs.declared.meaning_summary.MeaningSummary.{MeaningSummary}
use Rattle.swt_command.specs.Files.{contents}
use Rattle.swt_command.specs.Means.{Tells, ToldOf, mean_status, mean_text}
use Rattle.swt_command.proofs.mean.mean.Goals as goal

pub returns : goal.returns
returns g c =
    let t : MeaningSummary = c.in_ok-told.told in
    let w : ToldOf (contents c.args.files.now) c.args.limit t = c.in_ok-told.ensures in
    let tells : Tells (contents c.args.files.now) c.args.limit (mean_status t) (mean_text t c.args.limit) = (w.0, w.1, record { told = t; is_told = w.2; text_is = refl; status_is = refl }) in
    (refl, (mean_status t, mean_text t c.args.limit, tells, c.in-Err.ensures))
