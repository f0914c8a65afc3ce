use Rattle.std.proofs.Common.{◌≡◌, ◌+◌, ◌<◌, List, Bool, drop, length, get_or, cond, sym, ap, ap₂, ◌∙◌, arith}
use Rattle.std.proofs.lemmas.Grind.{common_steps}
use Rattle.std.proofs.lemmas.List.{drop_all}
use Rattle.types.specs.Typed.{owned_name}
use Rattle.assign_check.specs.declared.counts.count.AssignCounts.{AssignCounts}
use Rattle.assign_check.specs.Faults.{sums}
use Rattle.assign_check.specs.Sets.{numbers, set_at, part_sums}
use Rattle.assign_check.proofs.counting.Handed.{added_part, sums_more, not_named}
use Rattle.assign_check.proofs.counting.Sums.{same_on, same_from, turned, zero_last}
use Rattle.assign_check.proofs.counts.count.add_all.Goals as goal

pub loop-part-preserved : goal.loop-part-preserved
loop-part-preserved c =
    let parts = c.args.parts.now in
    let i = c.loop-part.part-index in
    let part = c.part-item.result in
    let below : i < length parts = grind (arith, common_steps) in
    let is : part ≡ get_or parts i part = grind (arith, common_steps) in
    record {
      sums = λ of.
          same_on (added_part of (owned_name part.of) (set_at c.loop-part.sets of) (set_at c.set.new.self of) c.in_ok-sum.sum.items part.set.items (part_sums of (drop (i + 1) parts)) (c.in_ok-set.ensures of)
          (λ e. same_on c.in_ok-sum.ensures (same_from (ap₂ (λ (a b : List Bool). sums (numbers a) (numbers b)) c.as_slice.ensures.value (c.get.ensures ∙ ap (set_at c.loop-part.sets) e)))))
          (same_on (same_from (ap (sums (numbers (set_at c.loop-part.sets of))) (sym (sums_more of parts i part below is)))) (c.loop-part.invariant.sums of));
      kept = λ of none.
          c.in_ok-set.ensures of
          ∙ ap (λ (b : Bool). cond b c.in_ok-sum.sum.items (set_at c.loop-part.sets of)) (not_named of parts i part below is none)
          ∙ c.loop-part.invariant.kept of none;
    }

pub returns-clause-sums : goal.returns-clause-sums
returns-clause-sums c = λ of.
    same_on (turned (zero_last (numbers (set_at c.loop-part.sets of))))
    (same_on (same_from (ap (λ (ps : List AssignCounts). sums (numbers (set_at c.loop-part.sets of)) (part_sums of ps)) (sym (drop_all c.loop-part.part-index c.args.parts.now c.loop-part-test.false))))
    (c.loop-part.invariant.sums of))
