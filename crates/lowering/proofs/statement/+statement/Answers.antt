use Rattle.std.proofs.Common.{rules, to_z, of_z, w32, ℤ, ◌≡◌, ◌++◌, ◌∷◌, ◌≤◌, [], List, map, option_map, refl, ap, ap₂, sym, ◌∙◌, arith}
use Rattle.std.specs.Prelude.{Box}
use Rattle.std.proofs.lemmas.Grind.{common_steps}
use Rattle.std.proofs.lemmas.Result.{on_ok_weaker, IfOk-weaker}
use Rattle.std.specs.List.{sum_by}
use Rattle.syntax_trees.specs.declared.tree.Stmt.{out-Stmt}
use Rattle.syntax_trees.specs.declared.tree.Block.{out-Block}
use Rattle.syntax_trees.specs.declared.tree.Header.{Header}
use Rattle.syntax_trees.specs.View.{word_of, words_view, expression_view, right_of, calling_of, over_of, statement_view, command_view, body_view}
use Rattle.language.specs.Tree.{choice_of}
use Rattle.language.specs.Numbered.{statement_size}
use Rattle.language.specs.Core as core
use Rattle.language.specs.Tree as trees
use Rattle.language.specs.Tree.{Calling, Command, Statement, expressions_of}
use Rattle.language.specs.Resolved as rules_of
use Rattle.syntax_trees.proofs.Views.{size_of_element, block-size, view-Block, view-Foreach, view-Wait}
use Rattle.types.specs.Typed.{table_of}
use Rattle.flow.specs.declared.statement.Block.{Block as Made}
use Rattle.flow.specs.declared.statement.Statement.{Statement as Added}
use Rattle.flow.specs.View.{block_of, block_view, statements_view}
use Rattle.lowering.specs.View.{command_alone, statement_alone, statements_among}
use Rattle.lowering.proofs.Loops.{view_stmt, view_declaration, view_assign_all, view_calls}
use Rattle.lowering.proofs.Forms.{view_assign, view_write, view_if, adds_form, declares_form, same_choice}
use Rattle.lowering.proofs.Statements.{statement_first, block_found}
use Rattle.language_accepted.specs.Types.{statement_declarations, body_declarations}
use Rattle.flow.specs.Shapes.{block_declared}
use Rattle.lowering.specs.Shapes.{among, declared_by, flagged}
use Rattle.lowering.proofs.Declaring.{flagged_append, statement_next}
use Rattle.flow.specs.Listed as shows
use Rattle.flow.specs.Listed.{Listed, block_listed, looping, other, waiting, whole}
use Rattle.language.specs.declared.tree.Shape.{Shape}
use Rattle.lowering.specs.Listed.{all_listed, body_listed, command_listed, listed, listed_by}
use Rattle.lowering.specs.View.{as_declared}
use Rattle.lowering.proofs.Showing.{listed_next, lists_form}
use Rattle.std.specs.List.{flat_map}
use Rattle.syntax_trees.specs.declared.tree.Expr.{Expr}
use Rattle.syntax_trees.specs.declared.tree.Block.{Block}
use Rattle.flow.specs.Cells.{AreAmong, block_anchors, statement_anchors}
use Rattle.flow.proofs.Growing.{among_as, among_each, among_equal, among_self, among_then, grows_again, grows_among, grows_as, grows_none}
use Rattle.lowering.specs.Nodes.{body_nodes, calling_nodes, command_nodes, expression_nodes, over_nodes, statement_nodes}
use Rattle.lowering.proofs.Anchors.{block_stands, form_stands, statement_at}
use Rattle.lowering.proofs.Walks.{walked_more, walked_all}
use Rattle.lowering.proofs.statement.+statement.Goals as goal

pub each-statement-requires : goal.each-statement-requires
each-statement-requires g t c =
    let small : statement_size (statement_view {A = g.row.A.Denot} c.stmt-item.result) ≤ sum_by statement_size (map (statement_view {A = g.row.A.Denot}) c.args.statements.now.items) =
    size_of_element (statement_view {A = g.row.A.Denot}) statement_size c.args.statements.now.items c.loop-stmt.stmt-index c.stmt-item.result (grind (arith, common_steps)) (grind (arith, common_steps)) in
    search rules

pub boxed_block-each-requires : goal.boxed_block-each-requires
boxed_block-each-requires g t c κs within =
    let e = block-size g.row.A.Denot c.args.body.now in
    search rules

pub each-loop-stmt-init : goal.each-loop-stmt-init
each-loop-stmt-init g t c = (refl, refl, refl, grows_none _ _)

pub each-loop-stmt-preserved : goal.each-loop-stmt-preserved
each-loop-stmt-preserved g t c =
    let tb = table_of c.args.typed.now in (
      walked_more (statement_view {A = g.row.A.Denot}) (statement_alone tb) (statements_among tb) (statement_first tb)
          (statements_view c.args.found.now.items ++ statements_among tb (map (statement_view {A = g.row.A.Denot}) c.args.statements.now.items))
          (statements_view c.loop-stmt.found.items) (statements_view c.statement.new.found.items) c.args.statements.now.items c.loop-stmt.stmt-index c.stmt-item.result
          c.loop-stmt.invariant.0 (grind (arith, common_steps)) (grind (arith, common_steps)) c.in_ok-statement.ensures.core,
      walked_more (statement_view {A = g.row.A.Denot}) (λ (x : Statement). flagged (statement_declarations x)) (λ (xs : List Statement). flagged (among xs)) statement_next
          (declared_by c.args.found.now.items ++ flagged (among (map (statement_view {A = g.row.A.Denot}) c.args.statements.now.items)))
          (declared_by c.loop-stmt.found.items) (declared_by c.statement.new.found.items) c.args.statements.now.items c.loop-stmt.stmt-index c.stmt-item.result
          c.loop-stmt.invariant.1 (grind (arith, common_steps)) (grind (arith, common_steps)) c.in_ok-statement.ensures.declared,
      walked_more (statement_view {A = g.row.A.Denot}) listed all_listed listed_next
          (listed_by c.args.found.now.items ++ all_listed (map (statement_view {A = g.row.A.Denot}) c.args.statements.now.items))
          (listed_by c.loop-stmt.found.items) (listed_by c.statement.new.found.items) c.args.statements.now.items c.loop-stmt.stmt-index c.stmt-item.result
          c.loop-stmt.invariant.2 (grind (arith, common_steps)) (grind (arith, common_steps)) c.in_ok-statement.ensures.listed,
      grows_again c.loop-stmt.invariant.3
          (grows_among c.in_ok-statement.ensures.cells
          (statement_at (statement_view {A = g.row.A.Denot}) c.args.statements.now.items c.loop-stmt.stmt-index c.stmt-item.result (grind (arith, common_steps)) (grind (arith, common_steps)))),
    )

pub each-returns-clause-core : goal.each-returns-clause-core
each-returns-clause-core g t c =
    let tb = table_of c.args.typed.now in
    walked_all (statement_view {A = g.row.A.Denot}) (statements_among tb) refl
    (statements_view c.args.found.now.items ++ statements_among tb (map (statement_view {A = g.row.A.Denot}) c.args.statements.now.items))
    (statements_view c.loop-stmt.found.items) c.args.statements.now.items c.loop-stmt.stmt-index c.loop-stmt.invariant.0 (grind (arith, common_steps))

pub statement-returns-clause-core : goal.statement-returns-clause-core
statement-returns-clause-core g t c =
    let A = g.row.A.Denot in
    let s = out-Stmt A c.args.stmt.now in
    on_ok_weaker c.command.result (λ adds. adds s.to ∙ ap (λ (x : Statement). statements_view c.args.found.now.items ++ statement_alone (table_of c.args.typed.now) x) (sym (view_stmt A c.args.stmt.now))) c.command.ensures.core

pub boxed_block-returns-clause-core : goal.boxed_block-returns-clause-core
boxed_block-returns-clause-core g t c =
    let A = g.row.A.Denot in
    let b = out-Block A c.args.body.now in
    let told : Box (Made A) A → Type 0 = λ x. block_view x.value ≡ block_of (statements_view c.each.new.found.items) in
    let wanted : Box (Made A) A → Type 0 = λ x. block_view x.value ≡ rules_of.block_of (table_of c.args.typed.now) (body_view {A = A} c.args.body.now) in
    IfOk-weaker c.boxed_at.result told wanted
    (λ x is. is ∙ block_found (table_of c.args.typed.now) b.from (map (statement_view {A = A}) b.statements.items) (body_view {A = A} c.args.body.now) (statements_view c.new-statements.result.items)
    (statements_view c.each.new.found.items) (ap (statements_view {A = A}) c.new-statements.ensures.items) c.in_ok-each.ensures.core (view-Block A c.args.body.now)) c.boxed_at.ensures.core

pub command-returns-in-Declare-clause-core : goal.command-returns-in-Declare-clause-core
command-returns-in-Declare-clause-core g t c =
    let A = g.row.A.Denot in
    on_ok_weaker c.declaration.result
    (λ adds. λ to. adds to
    ∙ ap (λ (k : Command). statements_view c.args.found.now.items ++ command_alone (table_of c.args.typed.now) (record { number = c.args.number; first = c.args.first; to = to }) k)
    (sym (ap command_view c.in-Declare.is ∙ view_declaration c.in-Declare.decl c.in-Declare.right)))
    c.declaration.ensures.core

pub command-returns-in-Assign-clause-core : goal.command-returns-in-Assign-clause-core
command-returns-in-Assign-clause-core g t c =
    let A = g.row.A.Denot in
    let tb = table_of c.args.typed.now in
    let w = word_of {A = A} c.in-Assign.name in
    let r = right_of {A = A} c.in-Assign.right in
    on_ok_weaker c.add_made.result
    (λ adds. λ to. adds_form c.assignment.result tb (record { number = c.args.number; first = c.args.first; to = to }) (command_view {A = A} c.args.kind.now) (trees.assign w r)
    (statements_view c.args.found.now.items) (statements_view c.add_made.new.found.items) _ _
    (ap command_view c.in-Assign.is ∙ view_assign c.in-Assign.name c.in-Assign.right) refl c.assignment.ensures.core
    (ap₂ (λ x a. rules_of.right_of tb x a r) c.refer-target.ensures.name c.refer-target.ensures.shape) adds)
    c.add_made.ensures.core

pub command-returns-in-Assign-clause-declared : goal.command-returns-in-Assign-clause-declared
command-returns-in-Assign-clause-declared g t c =
    let A = g.row.A.Denot in
    on_ok_weaker c.add_made.result
    (λ adds. declares_form c.assignment.result (command_view {A = A} c.args.kind.now) (trees.assign (word_of {A = A} c.in-Assign.name) (right_of {A = A} c.in-Assign.right))
    (declared_by c.args.found.now.items) (declared_by c.add_made.new.found.items) []
    (ap command_view c.in-Assign.is ∙ view_assign c.in-Assign.name c.in-Assign.right) c.assignment.ensures.declared refl adds)
    c.add_made.ensures.declared

pub command-returns-in-Write-clause-core : goal.command-returns-in-Write-clause-core
command-returns-in-Write-clause-core g t c =
    let A = g.row.A.Denot in
    let tb = table_of c.args.typed.now in
    let w = word_of {A = A} c.in-Write.name in
    on_ok_weaker c.add_made-in-Write.result
    (λ adds. λ to. adds_form c.insert.result tb (record { number = c.args.number; first = c.args.first; to = to }) (command_view {A = A} c.args.kind.now)
    (trees.write w (expression_view {A = A} c.in-Write.index.value) (expression_view {A = A} c.in-Write.value.value))
    (statements_view c.args.found.now.items) (statements_view c.add_made-in-Write.new.found.items) _ _
    (ap command_view c.in-Write.is ∙ view_write c.in-Write.name c.in-Write.index c.in-Write.value) refl c.insert.ensures.core
    (ap₂ (λ i e. core.insert (rules_of.refers tb w) (rules_of.outer tb (expression_view {A = A} i)) (rules_of.outer tb (expression_view {A = A} e))) c.deref.ensures c.deref-in-Write.ensures) adds)
    c.add_made-in-Write.ensures.core

pub command-returns-in-Write-clause-declared : goal.command-returns-in-Write-clause-declared
command-returns-in-Write-clause-declared g t c =
    let A = g.row.A.Denot in
    on_ok_weaker c.add_made-in-Write.result
    (λ adds. declares_form c.insert.result (command_view {A = A} c.args.kind.now)
    (trees.write (word_of {A = A} c.in-Write.name) (expression_view {A = A} c.in-Write.index.value) (expression_view {A = A} c.in-Write.value.value))
    (declared_by c.args.found.now.items) (declared_by c.add_made-in-Write.new.found.items) []
    (ap command_view c.in-Write.is ∙ view_write c.in-Write.name c.in-Write.index c.in-Write.value) c.insert.ensures.declared refl adds)
    c.add_made-in-Write.ensures.declared

pub command-returns-in-AssignAll-clause-core : goal.command-returns-in-AssignAll-clause-core
command-returns-in-AssignAll-clause-core g t c =
    let A = g.row.A.Denot in
    let tb = table_of c.args.typed.now in
    let ws = words_view {A = A} c.in-AssignAll.names in
    let called = calling_of {A = A} c.in-AssignAll.call.value in
    let F : Calling → core.Action = λ k. rules_of.several tb k.node.number k.name (expressions_of k.arguments) (map (rules_of.refers tb) ws) (tb.callee_of k.name.number) in
    on_ok_weaker c.add_made-in-AssignAll.result
    (λ adds. λ to. adds_form c.several.result tb (record { number = c.args.number; first = c.args.first; to = to }) (command_view {A = A} c.args.kind.now) (trees.assign_all ws called)
    (statements_view c.args.found.now.items) (statements_view c.add_made-in-AssignAll.new.found.items) _ (F called)
    (ap command_view c.in-AssignAll.is ∙ view_assign_all c.in-AssignAll.names c.in-AssignAll.call) refl c.several.ensures.core
    (ap F (ap (calling_of {A = A}) c.deref-in-AssignAll.ensures)) adds)
    c.add_made-in-AssignAll.ensures.core

pub command-returns-in-AssignAll-clause-declared : goal.command-returns-in-AssignAll-clause-declared
command-returns-in-AssignAll-clause-declared g t c =
    let A = g.row.A.Denot in
    on_ok_weaker c.add_made-in-AssignAll.result
    (λ adds. declares_form c.several.result (command_view {A = A} c.args.kind.now) (trees.assign_all (words_view {A = A} c.in-AssignAll.names) (calling_of {A = A} c.in-AssignAll.call.value))
    (declared_by c.args.found.now.items) (declared_by c.add_made-in-AssignAll.new.found.items) []
    (ap command_view c.in-AssignAll.is ∙ view_assign_all c.in-AssignAll.names c.in-AssignAll.call) c.several.ensures.declared refl adds)
    c.add_made-in-AssignAll.ensures.declared

pub command-returns-in-Call-clause-core : goal.command-returns-in-Call-clause-core
command-returns-in-Call-clause-core g t c =
    let A = g.row.A.Denot in
    let tb = table_of c.args.typed.now in
    let called = calling_of {A = A} c.in-Call.call.value in
    let F : ℤ → Calling → core.Action = λ p k. rules_of.call_action tb p k.node.number k.name (expressions_of k.arguments) (tb.callee_of k.name.number) in
    let same : to_z w32 (of_z w32 c.in-Call.priority) ≡ c.in-Call.priority = grind (arith, common_steps) in
    on_ok_weaker c.add_made-in-Call.result
    (λ adds. λ to. adds_form c.statement_call-action.result tb (record { number = c.args.number; first = c.args.first; to = to }) (command_view {A = A} c.args.kind.now) (trees.calls c.in-Call.priority called)
    (statements_view c.args.found.now.items) (statements_view c.add_made-in-Call.new.found.items) _ (F c.in-Call.priority called)
    (ap command_view c.in-Call.is ∙ view_calls c.in-Call.priority c.in-Call.call) refl c.statement_call-action.ensures.core
    (ap (F (to_z w32 (of_z w32 c.in-Call.priority))) (ap (calling_of {A = A}) c.deref-in-Call.ensures) ∙ ap (λ (p : ℤ). F p called) same) adds)
    c.add_made-in-Call.ensures.core

pub command-returns-in-Call-clause-declared : goal.command-returns-in-Call-clause-declared
command-returns-in-Call-clause-declared g t c =
    let A = g.row.A.Denot in
    on_ok_weaker c.add_made-in-Call.result
    (λ adds. declares_form c.statement_call-action.result (command_view {A = A} c.args.kind.now) (trees.calls c.in-Call.priority (calling_of {A = A} c.in-Call.call.value))
    (declared_by c.args.found.now.items) (declared_by c.add_made-in-Call.new.found.items) []
    (ap command_view c.in-Call.is ∙ view_calls c.in-Call.priority c.in-Call.call) c.statement_call-action.ensures.declared refl adds)
    c.add_made-in-Call.ensures.declared

pub command-returns-in-None-clause-core : goal.command-returns-in-None-clause-core
command-returns-in-None-clause-core g t c =
    let A = g.row.A.Denot in
    let tb = table_of c.args.typed.now in
    let e = expression_view {A = A} c.in-If.test.value in
    let b = body_view {A = A} c.in-If.then.value in
    on_ok_weaker c.add_made-in-None.result
    (λ adds. λ to. adds_form c.choice.result tb (record { number = c.args.number; first = c.args.first; to = to }) (command_view {A = A} c.args.kind.now) (trees.choice e b)
    (statements_view c.args.found.now.items) (statements_view c.add_made-in-None.new.found.items) _ _
    (ap command_view c.in-If.is ∙ view_if c.in-If.test c.in-If.then c.in-If.other ∙ ap (λ o. choice_of e b (option_map (λ it. body_view {A = A} it.value) o)) c.in-None.is) refl c.choice.ensures.core
    (ap₂ (λ x y. core.when (rules_of.outer tb x) y) (ap (expression_view {A = A}) c.deref-in-None.ensures)
    (c.in_ok-then-in-If.ensures.core ∙ ap (λ x. rules_of.block_of tb (body_view {A = A} x)) c.deref-in-If.ensures)) adds)
    c.add_made-in-None.ensures.core

pub command-returns-in-None-clause-declared : goal.command-returns-in-None-clause-declared
command-returns-in-None-clause-declared g t c =
    let A = g.row.A.Denot in
    let e = expression_view {A = A} c.in-If.test.value in
    let b = body_view {A = A} c.in-If.then.value in
    on_ok_weaker c.add_made-in-None.result
    (λ adds. declares_form c.choice.result (command_view {A = A} c.args.kind.now) (trees.choice e b)
    (declared_by c.args.found.now.items) (declared_by c.add_made-in-None.new.found.items) _
    (ap command_view c.in-If.is ∙ view_if c.in-If.test c.in-If.then c.in-If.other ∙ ap (λ o. choice_of e b (option_map (λ it. body_view {A = A} it.value) o)) c.in-None.is) c.choice.ensures.declared
    (c.in_ok-then-in-If.ensures.declared ∙ ap (λ x. flagged (body_declarations (body_view {A = A} x))) c.deref-in-If.ensures) adds)
    c.add_made-in-None.ensures.declared

pub command-returns-in_ok-other-in-Some-clause-core : goal.command-returns-in_ok-other-in-Some-clause-core
command-returns-in_ok-other-in-Some-clause-core g t c =
    let A = g.row.A.Denot in
    let tb = table_of c.args.typed.now in
    let e = expression_view {A = A} c.in-If.test.value in
    let b = body_view {A = A} c.in-If.then.value in
    let o = body_view {A = A} c.in-Some.other.value in
    on_ok_weaker c.add_made-in-Some.result
    (λ adds. λ to. adds_form c.choice_else-action.result tb (record { number = c.args.number; first = c.args.first; to = to }) (command_view {A = A} c.args.kind.now) (trees.choice_else e b o)
    (statements_view c.args.found.now.items) (statements_view c.add_made-in-Some.new.found.items) _ (core.choose (rules_of.outer tb e) (rules_of.block_of tb b) (rules_of.block_of tb o))
    (ap command_view c.in-If.is ∙ view_if c.in-If.test c.in-If.then c.in-If.other ∙ ap (λ x. choice_of e b (option_map (λ it. body_view {A = A} it.value) x)) c.in-Some.is) refl c.choice_else-action.ensures.core
    (same_choice (ap (λ x. rules_of.outer tb (expression_view {A = A} x)) c.deref-in-Some-2.ensures)
    (c.in_ok-then-in-If.ensures.core ∙ ap (λ x. rules_of.block_of tb (body_view {A = A} x)) c.deref-in-If.ensures)
    (c.in_ok-other-in-Some.ensures.core ∙ ap (λ x. rules_of.block_of tb (body_view {A = A} x)) c.deref-in-Some.ensures)) adds)
    c.add_made-in-Some.ensures.core

pub command-returns-in_ok-other-in-Some-clause-declared : goal.command-returns-in_ok-other-in-Some-clause-declared
command-returns-in_ok-other-in-Some-clause-declared g t c =
    let A = g.row.A.Denot in
    let e = expression_view {A = A} c.in-If.test.value in
    let b = body_view {A = A} c.in-If.then.value in
    let o = body_view {A = A} c.in-Some.other.value in
    on_ok_weaker c.add_made-in-Some.result
    (λ adds. declares_form c.choice_else-action.result (command_view {A = A} c.args.kind.now) (trees.choice_else e b o)
    (declared_by c.args.found.now.items) (declared_by c.add_made-in-Some.new.found.items) _
    (ap command_view c.in-If.is ∙ view_if c.in-If.test c.in-If.then c.in-If.other ∙ ap (λ x. choice_of e b (option_map (λ it. body_view {A = A} it.value) x)) c.in-Some.is) c.choice_else-action.ensures.declared
    (ap₂ (λ x y. x ++ y) (c.in_ok-then-in-If.ensures.declared ∙ ap (λ x. flagged (body_declarations (body_view {A = A} x))) c.deref-in-If.ensures)
    (c.in_ok-other-in-Some.ensures.declared ∙ ap (λ x. flagged (body_declarations (body_view {A = A} x))) c.deref-in-Some.ensures)
    ∙ sym (flagged_append (body_declarations b) (body_declarations o))) adds)
    c.add_made-in-Some.ensures.declared

pub command-returns-in_ok-body-in-Foreach-clause-core : goal.command-returns-in_ok-body-in-Foreach-clause-core
command-returns-in_ok-body-in-Foreach-clause-core g t c =
    let A = g.row.A.Denot in
    let tb = table_of c.args.typed.now in
    let w = word_of {A = A} c.in-Foreach.header.value.value in
    let k = option_map (word_of {A = A}) c.in-Foreach.header.value.key in
    let o = over_of {A = A} c.in-Foreach.header.value.source in
    on_ok_weaker c.add_made-in-Foreach.result
    (λ adds. λ to. adds_form c.repeated.result tb (record { number = c.args.number; first = c.args.first; to = to }) (command_view {A = A} c.args.kind.now)
    (trees.loop w k o (body_view {A = A} c.in-Foreach.body.value))
    (statements_view c.args.found.now.items) (statements_view c.add_made-in-Foreach.new.found.items) _ _
    (ap command_view c.in-Foreach.is ∙ view-Foreach c.in-Foreach.header c.in-Foreach.body) refl c.repeated.ensures.core
    (ap₂ (λ (h : Header A) b. rules_of.loop_action tb (word_of {A = A} h.value) (option_map (word_of {A = A}) h.key) (over_of {A = A} h.source) b) c.deref-in-Foreach-2.ensures
    (c.in_ok-body-in-Foreach.ensures.core ∙ ap (λ x. rules_of.block_of tb (body_view {A = A} x)) c.deref-in-Foreach.ensures)) adds)
    c.add_made-in-Foreach.ensures.core

pub command-returns-in_ok-body-in-Foreach-clause-declared : goal.command-returns-in_ok-body-in-Foreach-clause-declared
command-returns-in_ok-body-in-Foreach-clause-declared g t c =
    let A = g.row.A.Denot in
    on_ok_weaker c.add_made-in-Foreach.result
    (λ adds. declares_form c.repeated.result (command_view {A = A} c.args.kind.now)
    (trees.loop (word_of {A = A} c.in-Foreach.header.value.value) (option_map (word_of {A = A}) c.in-Foreach.header.value.key) (over_of {A = A} c.in-Foreach.header.value.source) (body_view {A = A} c.in-Foreach.body.value))
    (declared_by c.args.found.now.items) (declared_by c.add_made-in-Foreach.new.found.items) _
    (ap command_view c.in-Foreach.is ∙ view-Foreach c.in-Foreach.header c.in-Foreach.body) c.repeated.ensures.declared
    (c.in_ok-body-in-Foreach.ensures.declared ∙ ap (λ x. flagged (body_declarations (body_view {A = A} x))) c.deref-in-Foreach.ensures) adds)
    c.add_made-in-Foreach.ensures.declared

pub command-returns-in_ok-body-in-Wait-clause-core : goal.command-returns-in_ok-body-in-Wait-clause-core
command-returns-in_ok-body-in-Wait-clause-core g t c =
    let A = g.row.A.Denot in
    let tb = table_of c.args.typed.now in
    let ws = words_view {A = A} c.in-Wait.names in
    on_ok_weaker c.add_made-in-Wait.result
    (λ adds. λ to. adds_form c.waiting.result tb (record { number = c.args.number; first = c.args.first; to = to }) (command_view {A = A} c.args.kind.now) (trees.waits ws (body_view {A = A} c.in-Wait.body.value))
    (statements_view c.args.found.now.items) (statements_view c.add_made-in-Wait.new.found.items) _ _
    (ap command_view c.in-Wait.is ∙ view-Wait c.in-Wait.names c.in-Wait.body) refl c.waiting.ensures.core
    (ap (core.wait (map (rules_of.awaited tb) ws)) (c.in_ok-body-in-Wait.ensures.core ∙ ap (λ x. rules_of.block_of tb (body_view {A = A} x)) c.deref-in-Wait.ensures)) adds)
    c.add_made-in-Wait.ensures.core

pub command-returns-in_ok-body-in-Wait-clause-declared : goal.command-returns-in_ok-body-in-Wait-clause-declared
command-returns-in_ok-body-in-Wait-clause-declared g t c =
    let A = g.row.A.Denot in
    on_ok_weaker c.add_made-in-Wait.result
    (λ adds. declares_form c.waiting.result (command_view {A = A} c.args.kind.now) (trees.waits (words_view {A = A} c.in-Wait.names) (body_view {A = A} c.in-Wait.body.value))
    (declared_by c.args.found.now.items) (declared_by c.add_made-in-Wait.new.found.items) _
    (ap command_view c.in-Wait.is ∙ view-Wait c.in-Wait.names c.in-Wait.body) c.waiting.ensures.declared
    (c.in_ok-body-in-Wait.ensures.declared ∙ ap (λ x. flagged (body_declarations (body_view {A = A} x))) c.deref-in-Wait.ensures) adds)
    c.add_made-in-Wait.ensures.declared

pub each-returns-clause-declared : goal.each-returns-clause-declared
each-returns-clause-declared g t c =
    walked_all (statement_view {A = g.row.A.Denot}) (λ (xs : List Statement). flagged (among xs)) refl
    (declared_by c.args.found.now.items ++ flagged (among (map (statement_view {A = g.row.A.Denot}) c.args.statements.now.items)))
    (declared_by c.loop-stmt.found.items) c.args.statements.now.items c.loop-stmt.stmt-index c.loop-stmt.invariant.1 (grind (arith, common_steps))

pub boxed_block-returns-clause-declared : goal.boxed_block-returns-clause-declared
boxed_block-returns-clause-declared g t c =
    let A = g.row.A.Denot in
    let b = out-Block A c.args.body.now in
    let told : Box (Made A) A → Type 0 = λ x. block_declared x.value ≡ declared_by c.each.new.found.items in
    let wanted : Box (Made A) A → Type 0 = λ x. block_declared x.value ≡ flagged (body_declarations (body_view {A = A} c.args.body.now)) in
    IfOk-weaker c.boxed_at.result told wanted
    (λ x is. is ∙ c.in_ok-each.ensures.declared
    ∙ ap (λ (xs : List (Added A)). declared_by xs ++ flagged (among (map (statement_view {A = A}) b.statements.items))) c.new-statements.ensures.items
    ∙ ap (λ (x : trees.Body). flagged (body_declarations x)) (sym (view-Block A c.args.body.now))) c.boxed_at.ensures.declared

pub command-returns-in-Assign-clause-listed : goal.command-returns-in-Assign-clause-listed
command-returns-in-Assign-clause-listed g t c =
    let A = g.row.A.Denot in
    on_ok_weaker c.add_made.result
    (λ adds. lists_form c.assignment.result (command_view {A = A} c.args.kind.now) (trees.assign (word_of {A = A} c.in-Assign.name) (right_of {A = A} c.in-Assign.right))
    (listed_by c.args.found.now.items) (listed_by c.add_made.new.found.items) (other [])
    (ap command_view c.in-Assign.is ∙ view_assign c.in-Assign.name c.in-Assign.right) c.assignment.ensures.listed refl adds)
    c.add_made.ensures.listed

pub command-returns-in-Write-clause-listed : goal.command-returns-in-Write-clause-listed
command-returns-in-Write-clause-listed g t c =
    let A = g.row.A.Denot in
    on_ok_weaker c.add_made-in-Write.result
    (λ adds. lists_form c.insert.result (command_view {A = A} c.args.kind.now)
    (trees.write (word_of {A = A} c.in-Write.name) (expression_view {A = A} c.in-Write.index.value) (expression_view {A = A} c.in-Write.value.value))
    (listed_by c.args.found.now.items) (listed_by c.add_made-in-Write.new.found.items) (other [])
    (ap command_view c.in-Write.is ∙ view_write c.in-Write.name c.in-Write.index c.in-Write.value) c.insert.ensures.listed refl adds)
    c.add_made-in-Write.ensures.listed

pub command-returns-in-AssignAll-clause-listed : goal.command-returns-in-AssignAll-clause-listed
command-returns-in-AssignAll-clause-listed g t c =
    let A = g.row.A.Denot in
    on_ok_weaker c.add_made-in-AssignAll.result
    (λ adds. lists_form c.several.result (command_view {A = A} c.args.kind.now) (trees.assign_all (words_view {A = A} c.in-AssignAll.names) (calling_of {A = A} c.in-AssignAll.call.value))
    (listed_by c.args.found.now.items) (listed_by c.add_made-in-AssignAll.new.found.items) (other [])
    (ap command_view c.in-AssignAll.is ∙ view_assign_all c.in-AssignAll.names c.in-AssignAll.call) c.several.ensures.listed refl adds)
    c.add_made-in-AssignAll.ensures.listed

pub command-returns-in-Call-clause-listed : goal.command-returns-in-Call-clause-listed
command-returns-in-Call-clause-listed g t c =
    let A = g.row.A.Denot in
    on_ok_weaker c.add_made-in-Call.result
    (λ adds. lists_form c.statement_call-action.result (command_view {A = A} c.args.kind.now) (trees.calls c.in-Call.priority (calling_of {A = A} c.in-Call.call.value))
    (listed_by c.args.found.now.items) (listed_by c.add_made-in-Call.new.found.items) (other [])
    (ap command_view c.in-Call.is ∙ view_calls c.in-Call.priority c.in-Call.call) c.statement_call-action.ensures.listed refl adds)
    c.add_made-in-Call.ensures.listed

pub command-returns-in-None-clause-listed : goal.command-returns-in-None-clause-listed
command-returns-in-None-clause-listed g t c =
    let A = g.row.A.Denot in
    let e = expression_view {A = A} c.in-If.test.value in
    let b = body_view {A = A} c.in-If.then.value in
    on_ok_weaker c.add_made-in-None.result
    (λ adds. lists_form c.choice.result (command_view {A = A} c.args.kind.now) (trees.choice e b)
    (listed_by c.args.found.now.items) (listed_by c.add_made-in-None.new.found.items) _
    (ap command_view c.in-If.is ∙ view_if c.in-If.test c.in-If.then c.in-If.other ∙ ap (λ o. choice_of e b (option_map (λ it. body_view {A = A} it.value) o)) c.in-None.is) c.choice.ensures.listed
    (ap (λ (l : Listed). other (whole l) ∷ []) (c.in_ok-then-in-If.ensures.listed ∙ ap (λ x. body_listed (body_view {A = A} x)) c.deref-in-If.ensures)) adds)
    c.add_made-in-None.ensures.listed

pub command-returns-in_ok-other-in-Some-clause-listed : goal.command-returns-in_ok-other-in-Some-clause-listed
command-returns-in_ok-other-in-Some-clause-listed g t c =
    let A = g.row.A.Denot in
    let e = expression_view {A = A} c.in-If.test.value in
    let b = body_view {A = A} c.in-If.then.value in
    let o = body_view {A = A} c.in-Some.other.value in
    on_ok_weaker c.add_made-in-Some.result
    (λ adds. lists_form c.choice_else-action.result (command_view {A = A} c.args.kind.now) (trees.choice_else e b o)
    (listed_by c.args.found.now.items) (listed_by c.add_made-in-Some.new.found.items) _
    (ap command_view c.in-If.is ∙ view_if c.in-If.test c.in-If.then c.in-If.other ∙ ap (λ x. choice_of e b (option_map (λ it. body_view {A = A} it.value) x)) c.in-Some.is) c.choice_else-action.ensures.listed
    (ap₂ (λ (x y : Listed). other (whole x ++ whole y) ∷ [])
    (c.in_ok-then-in-If.ensures.listed ∙ ap (λ x. body_listed (body_view {A = A} x)) c.deref-in-If.ensures)
    (c.in_ok-other-in-Some.ensures.listed ∙ ap (λ x. body_listed (body_view {A = A} x)) c.deref-in-Some.ensures)) adds)
    c.add_made-in-Some.ensures.listed

pub command-returns-in_ok-body-in-Foreach-clause-listed : goal.command-returns-in_ok-body-in-Foreach-clause-listed
command-returns-in_ok-body-in-Foreach-clause-listed g t c =
    let A = g.row.A.Denot in
    on_ok_weaker c.add_made-in-Foreach.result
    (λ adds. lists_form c.repeated.result (command_view {A = A} c.args.kind.now)
    (trees.loop (word_of {A = A} c.in-Foreach.header.value.value) (option_map (word_of {A = A}) c.in-Foreach.header.value.key) (over_of {A = A} c.in-Foreach.header.value.source) (body_view {A = A} c.in-Foreach.body.value))
    (listed_by c.args.found.now.items) (listed_by c.add_made-in-Foreach.new.found.items) _
    (ap command_view c.in-Foreach.is ∙ view-Foreach c.in-Foreach.header c.in-Foreach.body) c.repeated.ensures.listed
    (ap₂ (λ (h : Header A) (l : Listed). looping (as_declared Shape.Scalar (word_of {A = A} h.value)) (option_map (as_declared Shape.Scalar) (option_map (word_of {A = A}) h.key)) l ∷ []) c.deref-in-Foreach-2.ensures (c.in_ok-body-in-Foreach.ensures.listed ∙ ap (λ x. body_listed (body_view {A = A} x)) c.deref-in-Foreach.ensures)) adds)
    c.add_made-in-Foreach.ensures.listed

pub command-returns-in_ok-body-in-Wait-clause-listed : goal.command-returns-in_ok-body-in-Wait-clause-listed
command-returns-in_ok-body-in-Wait-clause-listed g t c =
    let A = g.row.A.Denot in
    on_ok_weaker c.add_made-in-Wait.result
    (λ adds. lists_form c.waiting.result (command_view {A = A} c.args.kind.now) (trees.waits (words_view {A = A} c.in-Wait.names) (body_view {A = A} c.in-Wait.body.value))
    (listed_by c.args.found.now.items) (listed_by c.add_made-in-Wait.new.found.items) _
    (ap command_view c.in-Wait.is ∙ view-Wait c.in-Wait.names c.in-Wait.body) c.waiting.ensures.listed
    (ap (λ (l : Listed). waiting l ∷ []) (c.in_ok-body-in-Wait.ensures.listed ∙ ap (λ x. body_listed (body_view {A = A} x)) c.deref-in-Wait.ensures)) adds)
    c.add_made-in-Wait.ensures.listed

pub command-returns-in-Declare-clause-listed : goal.command-returns-in-Declare-clause-listed
command-returns-in-Declare-clause-listed g t c =
    on_ok_weaker c.declaration.result
    (λ adds. adds ∙ ap (λ (k : Command). listed_by c.args.found.now.items ++ command_listed k) (sym (ap command_view c.in-Declare.is ∙ view_declaration c.in-Declare.decl c.in-Declare.right)))
    c.declaration.ensures.listed

pub statement-returns-clause-listed : goal.statement-returns-clause-listed
statement-returns-clause-listed g t c =
    on_ok_weaker c.command.result (λ adds. adds ∙ ap (λ (x : Statement). listed_by c.args.found.now.items ++ listed x) (sym (view_stmt g.row.A.Denot c.args.stmt.now))) c.command.ensures.listed

pub each-returns-clause-listed : goal.each-returns-clause-listed
each-returns-clause-listed g t c =
    walked_all (statement_view {A = g.row.A.Denot}) all_listed refl
    (listed_by c.args.found.now.items ++ all_listed (map (statement_view {A = g.row.A.Denot}) c.args.statements.now.items))
    (listed_by c.loop-stmt.found.items) c.args.statements.now.items c.loop-stmt.stmt-index c.loop-stmt.invariant.2 (grind (arith, common_steps))

pub boxed_block-returns-clause-listed : goal.boxed_block-returns-clause-listed
boxed_block-returns-clause-listed g t c =
    let A = g.row.A.Denot in
    let b = out-Block A c.args.body.now in
    let told : Box (Made A) A → Type 0 = λ x. block_listed x.value ≡ shows.block_of b.from (listed_by c.each.new.found.items) in
    let wanted : Box (Made A) A → Type 0 = λ x. block_listed x.value ≡ body_listed (body_view {A = A} c.args.body.now) in
    IfOk-weaker c.boxed_at.result told wanted
    (λ x is. is ∙ ap (shows.block_of b.from) (c.in_ok-each.ensures.listed
    ∙ ap (λ (xs : List (Added A)). listed_by xs ++ all_listed (map (statement_view {A = A}) b.statements.items)) c.new-statements.ensures.items)
    ∙ ap body_listed (sym (view-Block A c.args.body.now))) c.boxed_at.ensures.listed

-- WHERE CELLS STAND

pub statement-returns-clause-cells : goal.statement-returns-clause-cells
statement-returns-clause-cells g t c =
    on_ok_weaker c.command.result (λ grown. grows_as (ap statement_nodes (view_stmt g.row.A.Denot c.args.stmt.now)) grown) c.command.ensures.cells

pub each-returns-clause-cells : goal.each-returns-clause-cells
each-returns-clause-cells g t c = c.loop-stmt.invariant.3

pub boxed_block-returns-clause-cells : goal.boxed_block-returns-clause-cells
boxed_block-returns-clause-cells g t c =
    let A = g.row.A.Denot in
    let b = out-Block A c.args.body.now in
    let told : Box (Made A) A → Type 0 = λ x. block_anchors x.value ≡ flat_map statement_anchors c.each.new.found.items in
    let wanted : Box (Made A) A → Type 0 = λ x. AreAmong (block_anchors x.value) (body_nodes (body_view {A = A} c.args.body.now)) in
    IfOk-weaker c.boxed_at.result told wanted
    (λ x is. among_as is
    (block_stands c.new-statements.result.items c.each.new.found.items b.from (map (statement_view {A = A}) b.statements.items) (body_view {A = A} c.args.body.now)
    c.new-statements.ensures.items c.in_ok-each.ensures.cells (view-Block A c.args.body.now))) c.boxed_at.ensures.cells

pub command-returns-in-Declare-clause-cells : goal.command-returns-in-Declare-clause-cells
command-returns-in-Declare-clause-cells g t c =
    on_ok_weaker c.declaration.result
    (λ grown. grows_as (ap command_nodes (ap command_view c.in-Declare.is ∙ view_declaration c.in-Declare.decl c.in-Declare.right)) grown)
    c.declaration.ensures.cells

pub command-returns-in-Assign-clause-cells : goal.command-returns-in-Assign-clause-cells
command-returns-in-Assign-clause-cells g t c =
    let A = g.row.A.Denot in
    on_ok_weaker c.add_made.result
    (λ adds. form_stands c.assignment.result (command_view {A = A} c.args.kind.now) (trees.assign (word_of {A = A} c.in-Assign.name) (right_of {A = A} c.in-Assign.right))
    (flat_map statement_anchors c.args.found.now.items) (flat_map statement_anchors c.add_made.new.found.items) _
    (ap command_view c.in-Assign.is ∙ view_assign c.in-Assign.name c.in-Assign.right) c.assignment.ensures.cells
    (among_self _) adds)
    c.add_made.ensures.cells

pub command-returns-in-Write-clause-cells : goal.command-returns-in-Write-clause-cells
command-returns-in-Write-clause-cells g t c =
    let A = g.row.A.Denot in
    on_ok_weaker c.add_made-in-Write.result
    (λ adds. form_stands c.insert.result (command_view {A = A} c.args.kind.now) (trees.write (word_of {A = A} c.in-Write.name) (expression_view {A = A} c.in-Write.index.value) (expression_view {A = A} c.in-Write.value.value))
    (flat_map statement_anchors c.args.found.now.items) (flat_map statement_anchors c.add_made-in-Write.new.found.items) _
    (ap command_view c.in-Write.is ∙ view_write c.in-Write.name c.in-Write.index c.in-Write.value) c.insert.ensures.cells
    (among_equal (ap₂ (λ (i e : Expr A). expression_nodes (expression_view i) ++ expression_nodes (expression_view e)) c.deref.ensures c.deref-in-Write.ensures)) adds)
    c.add_made-in-Write.ensures.cells

pub command-returns-in-AssignAll-clause-cells : goal.command-returns-in-AssignAll-clause-cells
command-returns-in-AssignAll-clause-cells g t c =
    let A = g.row.A.Denot in
    on_ok_weaker c.add_made-in-AssignAll.result
    (λ adds. form_stands c.several.result (command_view {A = A} c.args.kind.now) (trees.assign_all (words_view {A = A} c.in-AssignAll.names) (calling_of {A = A} c.in-AssignAll.call.value))
    (flat_map statement_anchors c.args.found.now.items) (flat_map statement_anchors c.add_made-in-AssignAll.new.found.items) _
    (ap command_view c.in-AssignAll.is ∙ view_assign_all c.in-AssignAll.names c.in-AssignAll.call) c.several.ensures.cells
    (among_equal (ap calling_nodes (ap (calling_of {A = A}) c.deref-in-AssignAll.ensures))) adds)
    c.add_made-in-AssignAll.ensures.cells

pub command-returns-in-Call-clause-cells : goal.command-returns-in-Call-clause-cells
command-returns-in-Call-clause-cells g t c =
    let A = g.row.A.Denot in
    on_ok_weaker c.add_made-in-Call.result
    (λ adds. form_stands c.statement_call-action.result (command_view {A = A} c.args.kind.now) (trees.calls c.in-Call.priority (calling_of {A = A} c.in-Call.call.value))
    (flat_map statement_anchors c.args.found.now.items) (flat_map statement_anchors c.add_made-in-Call.new.found.items) _
    (ap command_view c.in-Call.is ∙ view_calls c.in-Call.priority c.in-Call.call) c.statement_call-action.ensures.cells
    (among_equal (ap calling_nodes (ap (calling_of {A = A}) c.deref-in-Call.ensures))) adds)
    c.add_made-in-Call.ensures.cells

pub command-returns-in-None-clause-cells : goal.command-returns-in-None-clause-cells
command-returns-in-None-clause-cells g t c =
    let A = g.row.A.Denot in
    let e = expression_view {A = A} c.in-If.test.value in
    let b = body_view {A = A} c.in-If.then.value in
    on_ok_weaker c.add_made-in-None.result
    (λ adds. form_stands c.choice.result (command_view {A = A} c.args.kind.now) (trees.choice e b)
    (flat_map statement_anchors c.args.found.now.items) (flat_map statement_anchors c.add_made-in-None.new.found.items) _
    (ap command_view c.in-If.is ∙ view_if c.in-If.test c.in-If.then c.in-If.other ∙ ap (λ o. choice_of e b (option_map (λ it. body_view {A = A} it.value) o)) c.in-None.is) c.choice.ensures.cells
    (among_each _ _ _ _ (among_equal (ap (λ (x : Expr A). expression_nodes (expression_view x)) c.deref-in-None.ensures))
    (among_then c.in_ok-then-in-If.ensures.cells (among_equal (ap (λ (x : Block A). body_nodes (body_view x)) c.deref-in-If.ensures)))) adds)
    c.add_made-in-None.ensures.cells

pub command-returns-in_ok-other-in-Some-clause-cells : goal.command-returns-in_ok-other-in-Some-clause-cells
command-returns-in_ok-other-in-Some-clause-cells g t c =
    let A = g.row.A.Denot in
    let e = expression_view {A = A} c.in-If.test.value in
    let b = body_view {A = A} c.in-If.then.value in
    let o = body_view {A = A} c.in-Some.other.value in
    on_ok_weaker c.add_made-in-Some.result
    (λ adds. form_stands c.choice_else-action.result (command_view {A = A} c.args.kind.now) (trees.choice_else e b o)
    (flat_map statement_anchors c.args.found.now.items) (flat_map statement_anchors c.add_made-in-Some.new.found.items) _
    (ap command_view c.in-If.is ∙ view_if c.in-If.test c.in-If.then c.in-If.other ∙ ap (λ x. choice_of e b (option_map (λ it. body_view {A = A} it.value) x)) c.in-Some.is) c.choice_else-action.ensures.cells
    (among_each _ _ _ _
    (among_each _ _ _ _ (among_equal (ap (λ (x : Expr A). expression_nodes (expression_view x)) c.deref-in-Some-2.ensures))
    (among_then c.in_ok-then-in-If.ensures.cells (among_equal (ap (λ (x : Block A). body_nodes (body_view x)) c.deref-in-If.ensures))))
    (among_then c.in_ok-other-in-Some.ensures.cells (among_equal (ap (λ (x : Block A). body_nodes (body_view x)) c.deref-in-Some.ensures)))) adds)
    c.add_made-in-Some.ensures.cells

pub command-returns-in_ok-body-in-Foreach-clause-cells : goal.command-returns-in_ok-body-in-Foreach-clause-cells
command-returns-in_ok-body-in-Foreach-clause-cells g t c =
    let A = g.row.A.Denot in
    on_ok_weaker c.add_made-in-Foreach.result
    (λ adds. form_stands c.repeated.result (command_view {A = A} c.args.kind.now) (trees.loop (word_of {A = A} c.in-Foreach.header.value.value) (option_map (word_of {A = A}) c.in-Foreach.header.value.key) (over_of {A = A} c.in-Foreach.header.value.source) (body_view {A = A} c.in-Foreach.body.value))
    (flat_map statement_anchors c.args.found.now.items) (flat_map statement_anchors c.add_made-in-Foreach.new.found.items) _
    (ap command_view c.in-Foreach.is ∙ view-Foreach c.in-Foreach.header c.in-Foreach.body) c.repeated.ensures.cells
    (among_each _ _ _ _ (among_equal (ap (λ (h : Header A). over_nodes (over_of h.source)) c.deref-in-Foreach-2.ensures))
    (among_then c.in_ok-body-in-Foreach.ensures.cells (among_equal (ap (λ (x : Block A). body_nodes (body_view x)) c.deref-in-Foreach.ensures)))) adds)
    c.add_made-in-Foreach.ensures.cells

pub command-returns-in_ok-body-in-Wait-clause-cells : goal.command-returns-in_ok-body-in-Wait-clause-cells
command-returns-in_ok-body-in-Wait-clause-cells g t c =
    let A = g.row.A.Denot in
    let nodes = body_nodes (body_view {A = A} c.in-Wait.body.value) in
    on_ok_weaker c.add_made-in-Wait.result
    (λ adds. form_stands c.waiting.result (command_view {A = A} c.args.kind.now) (trees.waits (words_view {A = A} c.in-Wait.names) (body_view {A = A} c.in-Wait.body.value))
    (flat_map statement_anchors c.args.found.now.items) (flat_map statement_anchors c.add_made-in-Wait.new.found.items) nodes
    (ap command_view c.in-Wait.is ∙ view-Wait c.in-Wait.names c.in-Wait.body)
    (IfOk-weaker c.waiting.result _ _
    (λ a is. among_as is (among_then c.in_ok-body-in-Wait.ensures.cells (among_equal (ap (λ (x : Block A). body_nodes (body_view x)) c.deref-in-Wait.ensures)))) c.waiting.ensures.cells)
    (among_self nodes) adds)
    c.add_made-in-Wait.ensures.cells
