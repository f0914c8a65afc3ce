use Rattle.std.proofs.Common.{◌≡◌, ◌++◌, ◌∷◌, [], ◌<◌, ◌≤◌, ◌^◌, length, map, ap, sym, ◌∙◌, arith}
use Rattle.std.proofs.lemmas.Grind.{common_steps}
use Rattle.std.proofs.lemmas.List.{map-append, length-map}
use Rattle.types.specs.Typed.{owned_name}
use Rattle.assign_check.specs.Faults.{times}
use Rattle.assign_check.specs.Tables.{at}
use Rattle.assign_check.specs.Ways.{listed}
use Rattle.assign_check.proofs.counting.Among.{times_le, pushed_times}
use Rattle.assign_check.proofs.targets.control_path.ControlPath.push.Goals as goal

pub overflow_add-times : goal.overflow_add-times
overflow_add-times c =
    let is : c.get-times.result ≡ times (owned_name c.args.of) (listed c.args.self.now) = c.get-times.ensures ∙ c.args.self.now.counted (owned_name c.args.of) in
    let few : times (owned_name c.args.of) (listed c.args.self.now) ≤ length (listed c.args.self.now) = times_le (owned_name c.args.of) (listed c.args.self.now) in
    let same : length (listed c.args.self.now) ≡ length c.args.self.now.list.items = length-map c.args.self.now.list.items owned_name in
    let small : length c.args.self.now.list.items < 2 ^ 63 = omega arith in
    omega arith

pub invariant_of-self-in_default : goal.invariant_of-self-in_default
invariant_of-self-in_default c =
    let after : c.push.new.self.items ≡ c.args.self.now.list.items ++ c.args.of ∷ [] = grind (arith, common_steps) in
    record {
      none = c.in_default.ensures.empty ∙ c.args.self.now.none;
      counted = λ of. pushed_times (at c.args.self.now.counts) (at c.set.new.self) (owned_name c.args.of) (listed c.args.self.now) c.get-times.result c.get-times.ensures c.args.self.now.counted (c.in_default.ensures.set) of
          ∙ ap (times of) (sym (ap (map owned_name) after ∙ map-append owned_name c.args.self.now.list.items (c.args.of ∷ [])));
    }
