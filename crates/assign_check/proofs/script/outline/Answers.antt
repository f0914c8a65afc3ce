use Rattle.std.proofs.Common.{List, map, ap, ◌∙◌, ◌++◌, ap₂}
use Rattle.std.specs.List.{flat_map}
use Rattle.std.proofs.lemmas.Result.{on_ok_weaker}
use Rattle.language.specs.Core.{Owned}
use Rattle.assign_check.specs.declared.outlining.outline.UseSite.{UseSite}
use Rattle.assign_check.specs.declared.outlining.outline.Declaration.{Declaration}
use Rattle.assign_check.specs.declared.summaries.use_summary.UseSummary.{UseSummary}
use Rattle.assign_check.specs.Faults as faults
use Rattle.assign_check.specs.Tables.{at}
use Rattle.assign_check.specs.Tallies.{tally_from, cleared, tally_faults}
use Rattle.assign_check.specs.View.{use_view, declared_view, outline_view}
use Rattle.assign_check.specs.Ways.{listed}
use Rattle.assign_check.proofs.outlines.Outlined.{outline_best}
use Rattle.assign_check.proofs.counting.Tallied.{all_cleared}
use Rattle.assign_check.proofs.script.outline.Goals as goal

pub returns-clause-best : goal.returns-clause-best
returns-clause-best c =
    let o = outline_view c.args.steps.now.items in
    let used = c.in_ok-collect.ensures.uses ∙ ap (λ (us : List UseSite). map use_view us ++ faults.uses_in o) c.new-uses.ensures.items in
    let declared = c.in_ok-collect.ensures.declared ∙ ap (λ (ds : List Declaration). map declared_view ds ++ faults.declared_in o) c.new-declared.ensures.items in
    let tallies = λ (x : Owned). c.in_ok-add_all.ensures x ∙ ap₂ (λ (t : UseSummary) (us : List UseSite). tally_from t x (map use_view us)) (c.requires.tallied x) c.as_slice.ensures.value in
    let notes = c.note_all.ensures ∙ ap (λ (ds : List Declaration). faults.first_among c.count.new.best (flat_map (λ d. tally_faults d.role d.shape d.span (at c.add_all.new.table d.what)) (map declared_view ds))) c.as_slice-2.ensures.value in
    on_ok_weaker c.clear.result (λ _. outline_best o c.args.best.now c.walk.new.best c.count.new.best c.note_all.new.best (listed c.args.way.now) (map use_view c.collect.new.uses.items) (map declared_view c.collect.new.declared.items) (at c.add_all.new.table)
    c.requires.way c.in_ok-walk.ensures.best c.in_ok-count.ensures.best used declared tallies notes) c.clear.ensures

pub returns-clause-tallied : goal.returns-clause-tallied
returns-clause-tallied c =
    on_ok_weaker c.clear.result (λ clears. λ of.
    clears of ∙ ap (λ (us : List UseSite). cleared (at c.add_all.new.table of) of (map use_view us)) c.as_slice-3.ensures.value
    ∙ all_cleared (at c.add_all.new.table of) of (map use_view c.collect.new.uses.items)
    (c.in_ok-add_all.ensures of ∙ ap₂ (λ (t : UseSummary) (us : List UseSite). tally_from t of (map use_view us)) (c.requires.tallied of) c.as_slice.ensures.value)) c.clear.ensures
