use Rattle.std.proofs.Common.{◌∷◌, [], arith}
use Rattle.std.proofs.lemmas.Grind.{common_steps}
use Rattle.language.specs.Tree.{Part}
use Rattle.syntax_trees.specs.View.{part_of, tree_of}
use Rattle.types.specs.Typed.{table_of}
use Rattle.assign_check.specs.Outline.{script_steps}
use Rattle.assign_check.specs.Faults as faults
use Rattle.assign_check.proofs.outlines.Outlined.{best_more, one_part, part_faults, own_first}
use Rattle.assign_check.proofs.script.first_fault.Goals as goal

pub loop-item-init : goal.loop-item-init
loop-item-init g c =
    let t = table_of c.args.typed.now in
    let tree = tree_of {A = g.row.A.Denot} c.args.script.now in
    record {
      best = own_first (script_steps t tree) (part_faults t tree) c.own_block.new.best c.in_ok-own_block.ensures.best;
      way = c.in_ok-own_block.ensures.way;
      branches = c.in_ok-own_block.ensures.branches;
      tallied = c.in_ok-own_block.ensures.tallied;
    }

pub loop-item-preserved : goal.loop-item-preserved
loop-item-preserved g c =
    let t = table_of c.args.typed.now in
    record {
      best = best_more (part_of {A = g.row.A.Denot}) (λ (p : Part). part_faults t (p ∷ [])) (part_faults t) (one_part t)
          (faults.first_fault (faults.faults t (tree_of {A = g.row.A.Denot} c.args.script.now))) c.loop-item.best c.part.new.best c.args.script.now.items.items c.loop-item.item-index c.item-item.result
          c.loop-item.invariant.best (grind (arith, common_steps)) (grind (arith, common_steps)) c.in_ok-part.ensures.best;
      way = c.in_ok-part.ensures.way;
      branches = c.in_ok-part.ensures.branches;
      tallied = c.in_ok-part.ensures.tallied;
    }
