use Rattle.std.proofs.Common.{◌≡◌, ◌++◌, ◌∷◌, [], List, map, refl, ap, sym, arith}
use Rattle.std.proofs.lemmas.Grind.{common_steps}
use Rattle.std.proofs.lemmas.List.{append-nil}
use Rattle.language.specs.Table.{Table}
use Rattle.language.specs.Tree.{Part, import, function, single}
use Rattle.syntax_trees.specs.View.{part_of}
use Rattle.types.specs.Typed.{table_of}
use Rattle.assign_check.specs.Outline as outline
use Rattle.assign_check.specs.View.{steps_view}
use Rattle.language.proofs.Walks.{walked_more}
use Rattle.assign_check.proofs.outlining.parts.script_steps.Goals as goal

one_part : (t : Table) (p : Part) (ps : List Part) → outline.script_steps t (p ∷ ps) ≡ outline.script_steps t (p ∷ []) ++ outline.script_steps t ps
one_part t (import sp) ps = refl
one_part t (function f) ps = refl
one_part t (single s) ps = ap (λ (w : List outline.Step). w ++ outline.script_steps t ps) (sym (append-nil (outline.steps_of t s)))

pub loop-item-preserved : goal.loop-item-preserved
loop-item-preserved g c =
    walked_more (part_of {A = g.row.A.Denot}) (λ (p : Part). outline.script_steps (table_of c.args.typed.now) (p ∷ [])) (outline.script_steps (table_of c.args.typed.now)) (one_part (table_of c.args.typed.now))
    (outline.script_steps (table_of c.args.typed.now) (map (part_of {A = g.row.A.Denot}) c.args.items.now.items))
    (steps_view c.loop-item.steps.items) (steps_view c.part.new.steps.items) c.args.items.now.items c.loop-item.item-index c.item-item.result
    c.loop-item.invariant (grind (arith, common_steps)) (grind (arith, common_steps)) c.in_ok-part.ensures
