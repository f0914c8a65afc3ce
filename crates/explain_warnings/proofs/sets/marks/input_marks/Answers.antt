use Rattle.std.proofs.Common.{refl, ap, ◌∙◌, arith}
use Rattle.std.specs.Prelude.{◌||◌}
use Rattle.std.proofs.lemmas.Grind.{common_steps}
use Rattle.types.specs.Typed.{table_of}
use Rattle.explain_warnings.specs.Marks.{is_marked, is_number, input_place, uses_input}
use Rattle.explain_warnings.proofs.Marking.{marked_more, marked_all}
use Rattle.explain_warnings.proofs.sets.marks.input_marks.Goals as goal

pub loop-name_use-preserved : goal.loop-name_use-preserved
loop-name_use-preserved c =
    marked_more (uses_input (table_of c.args.typed.now) c.args.kind) (λ m j. is_number j (input_place (table_of c.args.typed.now) c.args.kind m)) (λ y ys j. refl)
    (uses_input (table_of c.args.typed.now) c.args.kind c.args.name_uses.now) (is_marked c.loop-name_use.marks.items) (is_marked c.mark_some.new.marks.items)
    c.args.name_uses.now c.loop-name_use.name_use-index _ c.loop-name_use.invariant (grind (arith, common_steps))
    (λ j. c.in_ok-mark_some.ensures j ∙ ap (λ o. is_number j o || is_marked c.loop-name_use.marks.items j) c.input_used.ensures)

pub returns : goal.returns
returns c =
    marked_all (uses_input (table_of c.args.typed.now) c.args.kind) (λ j. refl) (uses_input (table_of c.args.typed.now) c.args.kind c.args.name_uses.now)
    (is_marked c.loop-name_use.marks.items) c.args.name_uses.now c.loop-name_use.name_use-index c.loop-name_use.invariant (grind (arith, common_steps))
