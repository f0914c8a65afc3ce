use Rattle.std.proofs.Common.{refl, ap, ◌∙◌, arith}
use Rattle.std.specs.Prelude.{◌||◌}
use Rattle.std.proofs.lemmas.Grind.{common_steps}
use Rattle.types.specs.Typed.{table_of}
use Rattle.explain_warnings.specs.Marks.{is_marked, is_number, called_function, other_than, calls_other}
use Rattle.explain_warnings.proofs.Marking.{marked_more, marked_all}
use Rattle.explain_warnings.proofs.sets.calls.mark_others.Goals as goal

pub loop-name_use-preserved : goal.loop-name_use-preserved
loop-name_use-preserved c =
    marked_more (calls_other (table_of c.args.typed.now) c.args.own) (λ m j. is_number j (other_than c.args.own (called_function (table_of c.args.typed.now) m))) (λ y ys j. refl)
    (λ j. is_marked c.args.marks.now.items j || calls_other (table_of c.args.typed.now) c.args.own c.args.name_uses.now j)
    (is_marked c.loop-name_use.marks.items) (is_marked c.mark_some.new.marks.items)
    c.args.name_uses.now c.loop-name_use.name_use-index _ c.loop-name_use.invariant (grind (arith, common_steps))
    (λ j. c.in_ok-mark_some.ensures j
    ∙ ap (λ o. is_number j o || is_marked c.loop-name_use.marks.items j) (c.other_than.ensures ∙ ap (other_than c.args.own) c.called_function.ensures))

pub returns : goal.returns
returns c =
    marked_all (calls_other (table_of c.args.typed.now) c.args.own) (λ j. refl)
    (λ j. is_marked c.args.marks.now.items j || calls_other (table_of c.args.typed.now) c.args.own c.args.name_uses.now j)
    (is_marked c.loop-name_use.marks.items) c.args.name_uses.now c.loop-name_use.name_use-index c.loop-name_use.invariant (grind (arith, common_steps))
