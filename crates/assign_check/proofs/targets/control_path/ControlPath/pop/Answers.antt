use Rattle.std.proofs.Common.{◌≡◌, ◌≢◌, ◌++◌, ◌∷◌, [], ◌+◌, map, ap, ◌∙◌, arith}
use Rattle.std.proofs.lemmas.List.{map-append}
use Rattle.language.specs.Core.{Owned}
use Rattle.types.specs.Typed.{owned_name}
use Rattle.assign_check.specs.Faults.{times}
use Rattle.assign_check.specs.Tables.{at}
use Rattle.assign_check.proofs.counting.Among.{last_counted, popped_times}
use Rattle.assign_check.proofs.targets.control_path.ControlPath.pop.Goals as goal

pub overflow_sub-times : goal.overflow_sub-times
overflow_sub-times c =
    let last = ap (map owned_name) c.in-Some.ensures.items ∙ map-append owned_name c.pop.new.self.items (c.in-Some.of ∷ []) in
    let there = c.get-times.ensures ∙ last_counted (at c.args.self.now.counts) (owned_name c.in-Some.of) (map owned_name c.pop.new.self.items) (λ y. c.args.self.now.counted y ∙ ap (times y) last) in
    omega (arith, there)

pub invariant_of-self : goal.invariant_of-self
invariant_of-self c =
    let x = owned_name c.in-Some.of in
    let last = ap (map owned_name) c.in-Some.ensures.items ∙ map-append owned_name c.pop.new.self.items (c.in-Some.of ∷ []) in
    let counts : (y : Owned) → at c.args.self.now.counts y ≡ times y (map owned_name c.pop.new.self.items ++ x ∷ []) = λ y. c.args.self.now.counted y ∙ ap (times y) last in
    let there : at c.args.self.now.counts x ≡ times x (map owned_name c.pop.new.self.items) + 1 = last_counted (at c.args.self.now.counts) x (map owned_name c.pop.new.self.items) counts in
    let none : c.args.self.now.counts.empty ≡ 0 = c.args.self.now.none in
    let some : at c.args.self.now.counts x ≢ c.args.self.now.counts.empty = λ e. absurd (omega (arith, e, there, none)) in
    record {
      none = c.put.ensures.empty ∙ none;
      counted = λ of. popped_times (at c.args.self.now.counts) (at c.put.new.self) x (map owned_name c.pop.new.self.items) c.get-times.result c.get-times.ensures counts (λ y. c.put.ensures.put some y) of;
    }
