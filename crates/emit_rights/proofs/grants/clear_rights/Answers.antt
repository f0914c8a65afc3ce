use Rattle.std.proofs.Common.{◌∙◌, ◌<◌, ◌≤◌, ap, map, subst, sym, rules, length, arith}
use Rattle.std.proofs.lemmas.List.{length-map}
use Rattle.task_code.specs.View.{entry_view}
use Rattle.emit_rights.specs.Granted.{bare_at}
use Rattle.emit_rights.proofs.Giving.{bare_all, bare_next, below_count}
use Rattle.emit_rights.proofs.grants.clear_rights.Goals as goal

pub clear_at-requires : goal.clear_at-requires
clear_at-requires c =
    let within : c.loop-number.number < length c.args.entries.now.items = search rules in
    subst (λ n. c.loop-number.number < n) (sym (below_count c.loop-number.entries.items c.args.entries.now.items c.loop-number.number c.loop-number.invariant)) within

pub loop-number-preserved : goal.loop-number-preserved
loop-number-preserved c =
    c.clear_at.ensures
    ∙ ap (λ es. bare_at es c.loop-number.number) c.loop-number.invariant
    ∙ bare_next (map entry_view c.args.entries.now.items) c.loop-number.number

pub returns : goal.returns
returns c =
    let all : length c.args.entries.now.items ≤ c.loop-number.number = omega (arith, c.loop-number-test.false, c.len-number-end.ensures) in
    c.loop-number.invariant
    ∙ bare_all (map entry_view c.args.entries.now.items) c.loop-number.number
    (subst (λ n. n ≤ c.loop-number.number) (sym (length-map c.args.entries.now.items entry_view)) all)
