use Rattle.std.proofs.Common.{inl, inr, sym, ap, ◌∙◌}
use Rattle.types.specs.Typed.{owned_name}
use Rattle.assign_check.specs.declared.outlining.outline.UseKind.{UseKind}
use Rattle.assign_check.specs.Faults.{times, named_by}
use Rattle.assign_check.specs.Sets.{part_sums}
use Rattle.assign_check.specs.View.{kind_of}
use Rattle.assign_check.proofs.counting.Handed.{no_more_part, outer_times, target_part}
use Rattle.assign_check.proofs.counts.count.target.Goals as goal

pub returns-then-is_outer : goal.returns-then-is_outer
returns-then-is_outer c = λ of.
    no_more_part (part_sums of c.args.parts.now.items) (times of (named_by c.args.inside (kind_of c.args.one.kind) (owned_name c.args.one.of)))
    (outer_times c.args.inside (kind_of c.args.one.kind) of (owned_name c.args.one.of) (ap kind_of c.in-Named.is) (sym c.if-is_outer.true ∙ c.is_outer.ensures))

pub returns-in-Written : goal.returns-in-Written
returns-in-Written c = λ of.
    no_more_part (part_sums of c.args.parts.now.items) (times of (named_by c.args.inside (kind_of c.args.one.kind) (owned_name c.args.one.of)))
    (elim c.in-Written.is [
      | inl e ↦ ap (λ (k : UseKind). times of (named_by c.args.inside (kind_of k) (owned_name c.args.one.of))) e
      | inr e ↦ ap (λ (k : UseKind). times of (named_by c.args.inside (kind_of k) (owned_name c.args.one.of))) e
    ])

pub returns-in_ok-push-in-Named : goal.returns-in_ok-push-in-Named
returns-in_ok-push-in-Named c = λ of.
    target_part c.args.inside (kind_of c.args.one.kind) of c.args.parts.now.items c.push.new.self.items (record { of = c.args.one.of; set = c.in_ok-set-in-Named.set })
    (ap kind_of c.in-Named.is) (sym c.is_outer.ensures ∙ c.if-is_outer.false) c.in_ok-set-in-Named.ensures c.in_ok-push-in-Named.ensures.items
