use Rattle.std.proofs.Common.{◌++◌, Bool, sym, ap, ap₂, ◌∙◌}
use Rattle.std.specs.Prelude.{◌&&◌, ◌||◌}
use Rattle.std.proofs.lemmas.List.Folds.{list_any-append}
use Rattle.assign_check.specs.Faults.{is_before}
use Rattle.assign_check.specs.Sets.{numbers, set_at, names, part_sums, is_apart, parts_apart}
use Rattle.assign_check.proofs.counting.Handed.{from_empty, handed_all, both_handed, any_alike}
use Rattle.assign_check.proofs.counting.Sums.{differ_same}
use Rattle.assign_check.proofs.counts.count.join.Goals as goal

pub returns-clause-uneven : goal.returns-clause-uneven
returns-clause-uneven c =
    let ps = c.args.first.now in
    let qs = c.args.second.now in
    let apart = is_apart c.args.number c.add_all.new.sets c.add_all-2.new.sets in
    c.either.ensures
    ∙ ap₂ (λ (a b : Bool). a || b) c.differs-uneven.ensures c.differs-also.ensures
    ∙ sym (list_any-append apart (names ps) (names qs))
    ∙ any_alike apart (parts_apart c.args.number ps qs) (names ps ++ names qs) (λ x. ap (λ (b : Bool). is_before c.args.number x && b)
    (differ_same (numbers (set_at c.add_all.new.sets x)) (part_sums x ps) (numbers (set_at c.add_all-2.new.sets x)) (part_sums x qs)
    (from_empty (set_at c.args.branches.now.one x) (numbers (set_at c.add_all.new.sets x)) (part_sums x ps) (c.requires x).0 (c.in_ok-add_all.ensures.sums x))
    (from_empty (set_at c.args.branches.now.other x) (numbers (set_at c.add_all-2.new.sets x)) (part_sums x qs) (c.requires x).1 (c.in_ok-add_all-2.ensures.sums x))))

pub returns-clause-sums : goal.returns-clause-sums
returns-clause-sums c = λ x.
    let ps = c.args.first.now in
    let qs = c.args.second.now in
    handed_all (part_sums x c.args.up.now.items) (part_sums x c.hand_up.new.up.items) (part_sums x c.hand_up-2.new.up.items) (set_at c.add_all.new.sets x) (set_at c.add_all-2.new.sets x)
    (set_at c.hand_up.new.one x) (set_at c.hand_up.new.other x) (set_at c.hand_up-2.new.one x) (set_at c.hand_up-2.new.other x) (part_sums x ps) (part_sums x qs)
    (both_handed x ps qs (set_at c.add_all.new.sets x) (set_at c.add_all-2.new.sets x) (set_at c.hand_up.new.one x) (set_at c.hand_up.new.other x) (set_at c.hand_up-2.new.one x) (set_at c.hand_up-2.new.other x)
    (λ none. c.in_ok-add_all.ensures.kept x none ∙ (c.requires x).0) (λ none. c.in_ok-add_all-2.ensures.kept x none ∙ (c.requires x).1)
    (c.in_ok-hand_up.ensures.one x) (c.in_ok-hand_up-2.ensures.one x) (c.in_ok-hand_up.ensures.other x) (c.in_ok-hand_up-2.ensures.other x))
    (c.in_ok-hand_up-2.ensures.sums x) (c.in_ok-hand_up.ensures.sums x)
    (from_empty (set_at c.args.branches.now.one x) (numbers (set_at c.add_all.new.sets x)) (part_sums x ps) (c.requires x).0 (c.in_ok-add_all.ensures.sums x))
    (from_empty (set_at c.args.branches.now.other x) (numbers (set_at c.add_all-2.new.sets x)) (part_sums x qs) (c.requires x).1 (c.in_ok-add_all-2.ensures.sums x))
