use Rattle.std.proofs.Common.{ap, sym, ◌∙◌, arith}
use Rattle.std.proofs.lemmas.Grind.{common_steps}
use Rattle.types.specs.Typed.{table_of}
use Rattle.explain_warnings.specs.Endless.{first_call}
use Rattle.explain_warnings.specs.Marks.{is_number}
use Rattle.explain_warnings.proofs.Calling.{call_more, call_found, call_none}
use Rattle.explain_warnings.proofs.mistakes.endless.first_call.Goals as goal

pub returns-then-is_number : goal.returns-then-is_number
returns-then-is_number c =
    call_found (table_of c.args.typed.now) c.args.position (first_call (table_of c.args.typed.now) c.args.position c.args.name_uses.now) c.args.name_uses.now
    c.loop-name_use.name_use-index _ c.loop-name_use.invariant (grind (arith, common_steps))
    (ap (is_number c.args.position) (sym c.called_function.ensures) ∙ sym c.is_number.ensures ∙ c.if-is_number.true)

pub loop-name_use-preserved : goal.loop-name_use-preserved
loop-name_use-preserved c =
    call_more (table_of c.args.typed.now) c.args.position (first_call (table_of c.args.typed.now) c.args.position c.args.name_uses.now) c.args.name_uses.now
    c.loop-name_use.name_use-index _ c.loop-name_use.invariant (grind (arith, common_steps))
    (ap (is_number c.args.position) (sym c.called_function.ensures) ∙ sym c.is_number.ensures ∙ c.if-is_number.false)

pub returns : goal.returns
returns c =
    call_none (table_of c.args.typed.now) c.args.position (first_call (table_of c.args.typed.now) c.args.position c.args.name_uses.now) c.args.name_uses.now
    c.loop-name_use.name_use-index c.loop-name_use.invariant (grind (arith, common_steps))
