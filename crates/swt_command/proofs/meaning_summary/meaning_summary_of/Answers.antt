use Rattle.std.proofs.Common.{sym, subst}
use Rattle.language.specs.Core.{Core}
use Rattle.flow.specs.View.{core_of}
use Rattle.meaning_outcomes.specs.Known.{IsKnowledgeOf}
use Rattle.swt_command.specs.declared.meaning_summary.MeaningSummary.{MeaningSummary}
use Rattle.swt_command.proofs.Meant.{told_is}
use Rattle.swt_command.proofs.meaning_summary.meaning_summary_of.Goals as goal

pub returns : goal.returns
returns g c =
    let t : MeaningSummary = record { lines = c.in_ok-lines_sorted.field-0; blocked = c.in_ok-blocked.blocked; faults = c.in_ok-faults.faults; enough = c.finished.result } in
    let s : Core = core_of c.args.flow.now in
    let w = c.requires.1 in
    let known : IsKnowledgeOf s c.in_ok-known.known = subst (λ (x : Core). IsKnowledgeOf x c.in_ok-known.known) w.is (c.in_ok-known.ensures.known c.requires.0 w.table w.tree w.accepted.reads w.accepted.typed w.accepted.single (sym w.is)) in
    told_is s c.in_ok-known.known c.args.limit t
    known c.in_ok-known.ensures.within.0 c.in_ok-known.ensures.within.1 (c.in_ok-lines_sorted.ensures.lines s known) c.in_ok-lines_sorted.ensures.sorted
    (c.in_ok-blocked.ensures s known) (c.in_ok-faults.ensures s known) (sym c.finished.ensures)
