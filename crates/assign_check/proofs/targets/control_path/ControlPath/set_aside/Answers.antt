use Rattle.std.proofs.Common.{◌≤◌, ◌++◌, length, map, ap, sym, ◌∙◌, append-nil, arith}
use Rattle.std.proofs.lemmas.List.{drop-map, drop_all}
use Rattle.types.specs.Typed.{owned_name}
use Rattle.assign_check.proofs.targets.control_path.ControlPath.set_aside.Goals as goal

pub returns-clause-part : goal.returns-clause-part
returns-clause-part c =
    let past : length c.args.self.now.list.items ≤ c.loop-i.i = omega arith in
    ap (map owned_name) (sym (c.loop-i.invariant ∙ ap (λ w. c.loop-i.part.items ++ w) (drop_all c.loop-i.i c.args.self.now.list.items past) ∙ append-nil c.loop-i.part.items))
    ∙ sym (drop-map owned_name c.args.from c.args.self.now.list.items)
