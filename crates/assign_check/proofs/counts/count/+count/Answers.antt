use Rattle.std.proofs.Common.{◌≡◌, ◌+◌, ◌<◌, ◌≤◌, ◌++◌, List, drop, length, get_or, refl, sym, ap, ◌∙◌, arith}
use Rattle.std.proofs.lemmas.Grind.{common_steps}
use Rattle.std.proofs.lemmas.List.{drop_all}
use Rattle.std.proofs.lemmas.Result.{on_ok_weaker}
use Rattle.language.specs.Core.{Owned}
use Rattle.assign_check.specs.declared.counts.count.AssignCounts.{AssignCounts}
use Rattle.assign_check.specs.declared.outlining.outline.OutlineStep.{OutlineStep}
use Rattle.assign_check.specs.Outline as outline
use Rattle.assign_check.specs.Faults.{first_among, split_faults, split_step, sums, counts, step_counts}
use Rattle.assign_check.specs.Sets.{Same, part_sums}
use Rattle.assign_check.specs.View.{step_view, outline_view}
use Rattle.assign_check.proofs.faults.Answered.{view-Declares, view-Splits, view-Repeats}
use Rattle.assign_check.proofs.counting.Handed.{view_more, counted_more, same_branches, split_best}
use Rattle.assign_check.proofs.outlines.Outlined.{best_more}
use Rattle.assign_check.proofs.counting.Sums.{same_self, same_on, same_from, turned, both_same, sums_same, zero_first, zero_last}
use Rattle.assign_check.proofs.counts.count.+count.Goals as goal

pub count-loop-step-preserved : goal.count-loop-step-preserved
count-loop-step-preserved t c =
    let steps = c.args.steps.now.items in
    let i = c.loop-step.step-index in
    let below : i < length steps = grind (arith, common_steps) in
    let is : c.step-item.result ≡ get_or steps i c.step-item.result = grind (arith, common_steps) in
    record {
      sums = λ of.
          same_on (counted_more c.args.inside of (part_sums of c.loop-step.parts.items) (part_sums of c.count_step.new.parts.items) (step_view c.step-item.result) (outline_view (drop (i + 1) steps))
          (outline_view (drop i steps)) (c.in_ok-count_step.ensures.sums of) (view_more step_view steps i c.step-item.result below is)) (c.loop-step.invariant.sums of);
      best = best_more step_view (split_step c.args.inside) (λ (ss : List outline.Step). split_faults c.args.inside (outline.outlined ss)) (λ y ys. refl)
          (first_among c.args.best.now (split_faults c.args.inside (outline_view steps))) c.loop-step.best c.count_step.new.best steps i c.step-item.result
          c.loop-step.invariant.best below is c.in_ok-count_step.ensures.best;
      empty = c.in_ok-count_step.ensures.empty;
    }

pub count-returns-clause-sums : goal.count-returns-clause-sums
count-returns-clause-sums t c = λ of.
    let steps = c.args.steps.now.items in
    let past : length steps ≤ c.loop-step.step-index = grind (arith, common_steps) in
    same_on (turned (zero_last (part_sums of c.loop-step.parts.items)))
    (same_on (same_from (ap (λ (ss : List OutlineStep). sums (part_sums of c.loop-step.parts.items) (counts c.args.inside of (outline_view ss))) (sym (drop_all c.loop-step.step-index steps past))))
    (c.loop-step.invariant.sums of))

pub count_step-returns-in-Declares-clause-sums : goal.count_step-returns-in-Declares-clause-sums
count_step-returns-in-Declares-clause-sums t c = λ of.
    let view = ap step_view c.in-Declares.is ∙ view-Declares c.in-Declares.field-0 in
    same_on (turned (zero_last (part_sums of c.args.parts.now.items))) (same_from (ap (λ (s : outline.Step). sums (part_sums of c.args.parts.now.items) (step_counts c.args.inside of s)) (sym view)))

pub count_step-returns-in_ok-uneven-in-Splits-clause-sums : goal.count_step-returns-in_ok-uneven-in-Splits-clause-sums
count_step-returns-in_ok-uneven-in-Splits-clause-sums t c = λ of.
    let view = ap step_view c.in-Splits.is ∙ view-Splits c.in-Splits.number c.in-Splits.at c.in-Splits.first c.in-Splits.second in
    let first = counts c.args.inside of (outline_view c.in-Splits.first.items) in
    let second = counts c.args.inside of (outline_view c.in-Splits.second.items) in
    let up = part_sums of c.args.parts.now.items in
    let one : Same (part_sums of c.as_slice.result.now) first =
    same_on (same_from (ap (part_sums of) c.as_slice.ensures.value)) (same_on (c.in_ok-count-in-Splits.ensures.sums of)
    (same_on (same_from (ap (λ (ps : List AssignCounts). sums (part_sums of ps) first) c.new-one.ensures.items)) (zero_first first))) in
    let other : Same (part_sums of c.as_slice-in-Splits.result.now) second =
    same_on (same_from (ap (part_sums of) c.as_slice-in-Splits.ensures.value)) (same_on (c.in_ok-count-in-Splits-2.ensures.sums of)
    (same_on (same_from (ap (λ (ps : List AssignCounts). sums (part_sums of ps) second) c.new-other.ensures.items)) (zero_first second))) in
    same_on (c.in_ok-uneven-in-Splits.ensures.sums of)
    (same_on (sums_same up up (part_sums of c.as_slice.result.now ++ part_sums of c.as_slice-in-Splits.result.now) (first ++ second) (same_self up)
    (both_same (part_sums of c.as_slice.result.now) first (part_sums of c.as_slice-in-Splits.result.now) second one other))
    (same_from (ap (λ (s : outline.Step). sums up (step_counts c.args.inside of s)) (sym view))))

pub count_step-returns-in_ok-uneven-in-Splits-clause-best : goal.count_step-returns-in_ok-uneven-in-Splits-clause-best
count_step-returns-in_ok-uneven-in-Splits-clause-best t c =
    let view = ap step_view c.in-Splits.is ∙ view-Splits c.in-Splits.number c.in-Splits.at c.in-Splits.first c.in-Splits.second in
    let first = outline_view c.in-Splits.first.items in
    let second = outline_view c.in-Splits.second.items in
    let one : (of : Owned) → Same (part_sums of c.as_slice.result.now) (counts c.args.inside of first) = λ of.
    same_on (same_from (ap (part_sums of) c.as_slice.ensures.value)) (same_on (c.in_ok-count-in-Splits.ensures.sums of)
    (same_on (same_from (ap (λ (ps : List AssignCounts). sums (part_sums of ps) (counts c.args.inside of first)) c.new-one.ensures.items)) (zero_first (counts c.args.inside of first)))) in
    let other : (of : Owned) → Same (part_sums of c.as_slice-in-Splits.result.now) (counts c.args.inside of second) = λ of.
    same_on (same_from (ap (part_sums of) c.as_slice-in-Splits.ensures.value)) (same_on (c.in_ok-count-in-Splits-2.ensures.sums of)
    (same_on (same_from (ap (λ (ps : List AssignCounts). sums (part_sums of ps) (counts c.args.inside of second)) c.new-other.ensures.items)) (zero_first (counts c.args.inside of second)))) in
    split_best c.args.inside c.in-Splits.number c.in-Splits.at first second c.args.best.now c.count.new.best c.count-in-Splits.new.best c.note_uneven.new.best c.in_ok-uneven-in-Splits.uneven
    c.in_ok-count-in-Splits.ensures.best c.in_ok-count-in-Splits-2.ensures.best
    (c.in_ok-uneven-in-Splits.ensures.uneven ∙ same_branches c.args.inside c.in-Splits.number first second c.as_slice.result.now c.as_slice-in-Splits.result.now one other) c.note_uneven.ensures
    ∙ ap (λ (s : outline.Step). first_among c.args.best.now (split_step c.args.inside s)) (sym view)

pub count_step-returns-in-Repeats-clause-sums : goal.count_step-returns-in-Repeats-clause-sums
count_step-returns-in-Repeats-clause-sums t c =
    let view = ap step_view c.in-Repeats.is ∙ view-Repeats c.in-Repeats.number c.in-Repeats.body in
    on_ok_weaker c.count-in-Repeats.result (λ _. λ (of : Owned).
    same_on (turned (zero_last (part_sums of c.args.parts.now.items))) (same_from (ap (λ (s : outline.Step). sums (part_sums of c.args.parts.now.items) (step_counts c.args.inside of s)) (sym view))))
    c.count-in-Repeats.ensures.empty
