use Rattle.std.proofs.Common.{rules, arith, ◌≡◌, ◌<◌, ◌+◌, ◌-◌, ◌∙◌, ap, false, true}
use Rattle.std.proofs.lemmas.Grind.{common_steps}
use Rattle.values.specs.declared.key.Key.{Key}
use Rattle.flow.specs.View.{block_view, owned_view}
use Rattle.meaning_cells.specs.Chosen.{choice_view, count_in, key_in}
use Rattle.meaning_cells.specs.Ending.{behind, child_goals, goals_of, turn_goals, where_so}
use Rattle.meaning_facts.specs.Paths.{child_at}
use Rattle.meaning_cells.proofs.Ending.{both_fail, both_more, turn_step}
use Rattle.meaning_cells.proofs.finished.add_opened.Goals as goal

pub returns-then-not-branch : goal.returns-then-not-branch
returns-then-not-branch g c =
    let l = c.args.fact_base.now in
    let x = choice_view c.args.choice.now in
    let a = owned_view c.args.what in
    let b = block_view {A = g.row.A.Denot} c.args.block.now in
    let gs = goals_of {A = g.row.A.Denot} c.loop-i.tasks.items in
    let below : c.loop-i.i < count_in (choice_view c.args.choice.now) = grind (arith, common_steps) in
    let key : c.in_ok-key.key ≡ key_in (choice_view c.args.choice.now) c.loop-i.i = c.in_ok-key.ensures below in
    let told : where_so false (goals_of {A = g.row.A.Denot} c.add_child.new.tasks.items) ≡ behind (goals_of {A = g.row.A.Denot} c.loop-i.tasks.items) (child_goals (child_at c.args.fact_base.now.instances c.args.instance c.args.at c.in_ok-key.key) (owned_view c.args.what) (block_view {A = g.row.A.Denot} c.args.block.now)) = search rules in
    both_fail (behind (goals_of {A = g.row.A.Denot} c.args.tasks.now.items) (turn_goals l c.args.instance a c.args.at b x 0 (count_in x))) gs (goals_of {A = g.row.A.Denot} c.add_child.new.tasks.items)
    (child_goals (child_at l.instances c.args.instance c.args.at (key_in x c.loop-i.i)) a b) (turn_goals l c.args.instance a c.args.at b x (c.loop-i.i + 1) (count_in x - (c.loop-i.i + 1)))
    (c.loop-i.invariant ∙ ap (behind gs) (turn_step l c.args.instance a c.args.at b x c.loop-i.i (count_in x) below))
    (told ∙ ap (λ (z : Key). behind gs (child_goals (child_at l.instances c.args.instance c.args.at z) a b)) key)

pub loop-i-preserved : goal.loop-i-preserved
loop-i-preserved g c =
    let l = c.args.fact_base.now in
    let x = choice_view c.args.choice.now in
    let a = owned_view c.args.what in
    let b = block_view {A = g.row.A.Denot} c.args.block.now in
    let gs = goals_of {A = g.row.A.Denot} c.loop-i.tasks.items in
    let below : c.loop-i.i < count_in (choice_view c.args.choice.now) = grind (arith, common_steps) in
    let key : c.in_ok-key.key ≡ key_in (choice_view c.args.choice.now) c.loop-i.i = c.in_ok-key.ensures below in
    let told : where_so true (goals_of {A = g.row.A.Denot} c.add_child.new.tasks.items) ≡ behind (goals_of {A = g.row.A.Denot} c.loop-i.tasks.items) (child_goals (child_at c.args.fact_base.now.instances c.args.instance c.args.at c.in_ok-key.key) (owned_view c.args.what) (block_view {A = g.row.A.Denot} c.args.block.now)) = search rules in
    both_more (behind (goals_of {A = g.row.A.Denot} c.args.tasks.now.items) (turn_goals l c.args.instance a c.args.at b x 0 (count_in x))) gs (goals_of {A = g.row.A.Denot} c.add_child.new.tasks.items)
    (child_goals (child_at l.instances c.args.instance c.args.at (key_in x c.loop-i.i)) a b) (turn_goals l c.args.instance a c.args.at b x (c.loop-i.i + 1) (count_in x - (c.loop-i.i + 1)))
    (c.loop-i.invariant ∙ ap (behind gs) (turn_step l c.args.instance a c.args.at b x c.loop-i.i (count_in x) below))
    (told ∙ ap (λ (z : Key). behind gs (child_goals (child_at l.instances c.args.instance c.args.at z) a b)) key)
