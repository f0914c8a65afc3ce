use Rattle.std.proofs.Common.{◌∙◌, ap, sym}
use Rattle.task_code.specs.Code.{Body, Code, body}
use Rattle.board_effects.proofs.Spares.{flat_done, no_body, none_long}
use Rattle.board_effects.proofs.spare_lists.push_spare.Goals as goal

pub returns-in_default : goal.returns-in_default
returns-in_default c = no_body c.args.program.now c.args.number c.args.spare.now.items c.in_default.ensures

pub returns-then-not-table : goal.returns-then-not-table
returns-then-not-table c = none_long c.args.program.now c.args.number c.args.spare.now.items (sym c.in-Some.ensures.1.long ∙ c.if-not-table.true)

pub returns : goal.returns
returns c =
    flat_done c.args.program.now c.args.number c.args.spare.now.items c.loop-number.spare.items c.deref-number-items.result.now c.loop-number.number-index c.loop-number-test.false
    (c.deref-number-items.ensures.value ∙ ap (λ (b : Body). b.entries) c.in-Some-body.ensures.1 ∙ ap (λ (C : Code). (body C c.args.number).entries) c.code.ensures)
    c.loop-number.invariant
