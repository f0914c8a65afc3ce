use Rattle.std.proofs.Common.{◌≡◌, ◌+◌, ◌<◌, [], List, Bool, drop, length, get_or, cond, sym, ap, ◌∙◌, arith}
use Rattle.std.proofs.lemmas.Grind.{common_steps}
use Rattle.language.specs.Core.{Owned}
use Rattle.types.specs.Typed.{owned_name}
use Rattle.assign_check.specs.Faults.{same, is_among}
use Rattle.assign_check.specs.Sets.{set_at, names}
use Rattle.assign_check.proofs.counting.Handed.{handed_part, emptied, names_more}
use Rattle.assign_check.proofs.counting.Sums.{same_on}
use Rattle.assign_check.proofs.counts.count.hand_up.Goals as goal

pub loop-part-preserved : goal.loop-part-preserved
loop-part-preserved c =
    let parts = c.args.parts.now in
    let i = c.loop-part.part-index in
    let part = c.part-item.result in
    let y = owned_name part.of in
    let below : i < length parts = grind (arith, common_steps) in
    let is : part ≡ get_or parts i part = grind (arith, common_steps) in
    let one : (of : Owned) → set_at c.set.new.self of ≡ cond (same y of) [] (set_at c.loop-part.one of) =
    λ of. c.in_ok-set-2.ensures of ∙ ap (λ (s : List Bool). cond (same y of) s (set_at c.loop-part.one of)) c.new.ensures.items in
    let other : (of : Owned) → set_at c.set-in-loop-part.new.self of ≡ cond (same y of) [] (set_at c.loop-part.other of) =
    λ of. c.in_ok-set-3.ensures of ∙ ap (λ (s : List Bool). cond (same y of) s (set_at c.loop-part.other of)) c.new-in-loop-part.ensures.items in
    record {
      sums = λ of.
          same_on (handed_part of c.loop-part.up.items (record { of = part.of; set = c.in_ok-set.set }) c.push.new.self.items (set_at c.loop-part.one of) (set_at c.loop-part.other of) (set_at c.set.new.self of)
          (set_at c.set-in-loop-part.new.self of) c.get.result.now c.get-in-loop-part.result.now c.in_ok-push.ensures.items
          (λ e. (c.get.ensures ∙ ap (set_at c.loop-part.one) e, c.get-in-loop-part.ensures ∙ ap (set_at c.loop-part.other) e)) c.in_ok-set.ensures (one of) (other of)) (c.loop-part.invariant.sums of);
      one = λ of.
          emptied of y (names (drop (i + 1) parts)) (set_at c.loop-part.one of) (set_at c.set.new.self of) (one of)
          ∙ ap (λ (ns : List Owned). cond (is_among of ns) [] (set_at c.loop-part.one of)) (sym (names_more parts i part below is))
          ∙ c.loop-part.invariant.one of;
      other = λ of.
          emptied of y (names (drop (i + 1) parts)) (set_at c.loop-part.other of) (set_at c.set-in-loop-part.new.self of) (other of)
          ∙ ap (λ (ns : List Owned). cond (is_among of ns) [] (set_at c.loop-part.other of)) (sym (names_more parts i part below is))
          ∙ c.loop-part.invariant.other of;
    }
