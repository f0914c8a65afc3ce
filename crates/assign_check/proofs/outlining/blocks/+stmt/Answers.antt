use Rattle.std.proofs.Common.{rules, ◌≡◌, [], ◌∷◌, ◌++◌, ◌≤◌, ℕ, List, map, refl, ap, ap₂, sym, ◌∙◌, arith}
use Rattle.std.proofs.lemmas.Grind.{common_steps}
use Rattle.std.specs.List.{sum_by}
use Rattle.std.specs.Prelude.{option_map}
use Rattle.syntax_trees.specs.View.{word_of, words_view, expression_view, declaration_of, right_of, calling_of, statement_view, command_view, body_view}
use Rattle.language.specs.Numbered.{statement_size}
use Rattle.language.specs.Tree.{Statement, statements_of, declare, assign, write, assign_all, calls, waits}
use Rattle.syntax_trees.proofs.Views.{size_of_element, block-size}
use Rattle.types.specs.Typed.{table_of}
use Rattle.assign_check.specs.Outline as outline
use Rattle.assign_check.specs.declared.outlining.outline.OutlineStep.{Encloses}
use Rattle.assign_check.specs.View.{steps_view}
use Rattle.language.proofs.Walks.{walked_more, walked_all}
use Rattle.assign_check.proofs.outlines.Views.{view-Stmt, view-Declare, view-Assign, view-Write, view-AssignAll, view-Call, view-Wait, then_more, step_added, form_added}
use Rattle.syntax_trees.specs.declared.tree.Stmt.{out-Stmt}
use Rattle.std.proofs.lemmas.Result.{on_ok_weaker}
use Rattle.assign_check.proofs.faults.Answered.{view-Encloses}
use Rattle.assign_check.proofs.outlining.blocks.+stmt.Goals as goal

pub each-statement-requires : goal.each-statement-requires
each-statement-requires g t c =
    let small : statement_size (statement_view {A = g.row.A.Denot} c.stmt-item.result) ≤ sum_by statement_size (map (statement_view {A = g.row.A.Denot}) c.args.statements.now.items) =
    size_of_element (statement_view {A = g.row.A.Denot}) statement_size c.args.statements.now.items c.loop-stmt.stmt-index c.stmt-item.result (grind (arith, common_steps)) (grind (arith, common_steps)) in
    search rules

pub block-each-requires : goal.block-each-requires
block-each-requires g t c κs within =
    let e = block-size g.row.A.Denot c.args.body.now in
    search rules

pub each-loop-stmt-preserved : goal.each-loop-stmt-preserved
each-loop-stmt-preserved g t c =
    walked_more (statement_view {A = g.row.A.Denot}) (outline.steps_of (table_of c.args.typed.now)) (λ (ss : List Statement). outline.all_steps (table_of c.args.typed.now) (statements_of ss)) (λ y ys. refl)
    (steps_view c.args.steps.now.items ++ outline.all_steps (table_of c.args.typed.now) (statements_of (map (statement_view {A = g.row.A.Denot}) c.args.statements.now.items)))
    (steps_view c.loop-stmt.steps.items) (steps_view c.statement.new.steps.items) c.args.statements.now.items c.loop-stmt.stmt-index c.stmt-item.result
    c.loop-stmt.invariant (grind (arith, common_steps)) (grind (arith, common_steps)) c.in_ok-statement.ensures

pub each-returns : goal.each-returns
each-returns g t c =
    walked_all (statement_view {A = g.row.A.Denot}) (λ (ss : List Statement). outline.all_steps (table_of c.args.typed.now) (statements_of ss)) refl
    (steps_view c.args.steps.now.items ++ outline.all_steps (table_of c.args.typed.now) (statements_of (map (statement_view {A = g.row.A.Denot}) c.args.statements.now.items)))
    (steps_view c.loop-stmt.steps.items) c.args.statements.now.items c.loop-stmt.stmt-index c.loop-stmt.invariant (grind (arith, common_steps))

pub statement-returns : goal.statement-returns
statement-returns g t c =
    let s = out-Stmt g.row.A.Denot c.args.stmt.now in
    on_ok_weaker c.command.result (λ adds. adds s.to ∙ ap (λ (x : Statement). steps_view c.args.steps.now.items ++ outline.steps_of (table_of c.args.typed.now) x) (sym (view-Stmt g.row.A.Denot c.args.stmt.now))) c.command.ensures

pub command-returns-in-Declare : goal.command-returns-in-Declare
command-returns-in-Declare g t c =
    let x = declare (declaration_of c.in-Declare.decl) (option_map right_of c.in-Declare.right) in
    let is : command_view {A = g.row.A.Denot} c.args.kind.now ≡ x = ap (command_view {A = g.row.A.Denot}) c.in-Declare.is ∙ view-Declare c.in-Declare.decl c.in-Declare.right in
    on_ok_weaker c.declaration.result (λ adds. λ (to : ℕ).
    form_added (table_of c.args.typed.now) (record { number = c.args.number; first = c.args.at; to = to }) (command_view {A = g.row.A.Denot} c.args.kind.now) x (steps_view c.args.steps.now.items) (steps_view c.declaration.new.steps.items) is
    adds) c.declaration.ensures

pub command-returns-in_ok-add_use-in-Assign : goal.command-returns-in_ok-add_use-in-Assign
command-returns-in_ok-add_use-in-Assign g t c =
    let x = assign (word_of c.in-Assign.name) (right_of c.in-Assign.right) in
    let is : command_view {A = g.row.A.Denot} c.args.kind.now ≡ x = ap (command_view {A = g.row.A.Denot}) c.in-Assign.is ∙ view-Assign c.in-Assign.name c.in-Assign.right in
    on_ok_weaker c.read_right.result (λ adds. λ (to : ℕ).
    form_added (table_of c.args.typed.now) (record { number = c.args.number; first = c.args.at; to = to }) (command_view {A = g.row.A.Denot} c.args.kind.now) x (steps_view c.args.steps.now.items) (steps_view c.read_right.new.steps.items) is
    (then_more (outline.use_of (table_of c.args.typed.now) outline.named (word_of c.in-Assign.name) ∷ []) (outline.read_right (table_of c.args.typed.now) (right_of c.in-Assign.right))
    (steps_view c.args.steps.now.items) (steps_view c.add_use.new.steps.items) (steps_view c.read_right.new.steps.items) c.in_ok-add_use-in-Assign.ensures adds)) c.read_right.ensures

pub command-returns-in-Write : goal.command-returns-in-Write
command-returns-in-Write g t c =
    let x = write (word_of c.in-Write.name) (expression_view {A = g.row.A.Denot} c.deref.result.now) (expression_view {A = g.row.A.Denot} c.deref-in-Write.result.now) in
    let is : command_view {A = g.row.A.Denot} c.args.kind.now ≡ x = ap (command_view {A = g.row.A.Denot}) c.in-Write.is ∙ view-Write c.in-Write.name c.in-Write.index c.in-Write.value
    ∙ ap₂ (λ i e. write (word_of c.in-Write.name) (expression_view {A = g.row.A.Denot} i) (expression_view {A = g.row.A.Denot} e)) (sym c.deref.ensures) (sym c.deref-in-Write.ensures) in
    on_ok_weaker c.write.result (λ adds. λ (to : ℕ).
    form_added (table_of c.args.typed.now) (record { number = c.args.number; first = c.args.at; to = to }) (command_view {A = g.row.A.Denot} c.args.kind.now) x (steps_view c.args.steps.now.items) (steps_view c.write.new.steps.items) is
    adds) c.write.ensures

pub command-returns-in_ok-targets-in-AssignAll : goal.command-returns-in_ok-targets-in-AssignAll
command-returns-in_ok-targets-in-AssignAll g t c =
    let x = assign_all (words_view c.in-AssignAll.names) (calling_of {A = g.row.A.Denot} c.deref-in-AssignAll.result.now) in
    let is : command_view {A = g.row.A.Denot} c.args.kind.now ≡ x = ap (command_view {A = g.row.A.Denot}) c.in-AssignAll.is ∙ view-AssignAll c.in-AssignAll.names c.in-AssignAll.call
    ∙ ap (λ k. assign_all (words_view c.in-AssignAll.names) (calling_of {A = g.row.A.Denot} k)) (sym c.deref-in-AssignAll.ensures) in
    on_ok_weaker c.read_call.result (λ adds. λ (to : ℕ).
    form_added (table_of c.args.typed.now) (record { number = c.args.number; first = c.args.at; to = to }) (command_view {A = g.row.A.Denot} c.args.kind.now) x (steps_view c.args.steps.now.items) (steps_view c.read_call.new.steps.items) is
    (then_more (map (outline.use_of (table_of c.args.typed.now) outline.named) (words_view c.in-AssignAll.names)) (outline.read_calling (table_of c.args.typed.now) (calling_of {A = g.row.A.Denot} c.deref-in-AssignAll.result.now))
    (steps_view c.args.steps.now.items) (steps_view c.targets.new.steps.items) (steps_view c.read_call.new.steps.items) c.in_ok-targets-in-AssignAll.ensures adds)) c.read_call.ensures

pub command-returns-in-Call : goal.command-returns-in-Call
command-returns-in-Call g t c =
    let x = calls c.in-Call.field-0 (calling_of {A = g.row.A.Denot} c.deref-in-Call.result.now) in
    let is : command_view {A = g.row.A.Denot} c.args.kind.now ≡ x = ap (command_view {A = g.row.A.Denot}) c.in-Call.is ∙ view-Call c.in-Call.field-0 c.in-Call.call
    ∙ ap (λ k. calls c.in-Call.field-0 (calling_of {A = g.row.A.Denot} k)) (sym c.deref-in-Call.ensures) in
    on_ok_weaker c.read_call-in-Call.result (λ adds. λ (to : ℕ).
    form_added (table_of c.args.typed.now) (record { number = c.args.number; first = c.args.at; to = to }) (command_view {A = g.row.A.Denot} c.args.kind.now) x (steps_view c.args.steps.now.items) (steps_view c.read_call-in-Call.new.steps.items) is
    adds) c.read_call-in-Call.ensures

pub command-returns-in_ok-push-in-Wait : goal.command-returns-in_ok-push-in-Wait
command-returns-in_ok-push-in-Wait g t c = λ (to : ℕ).
    let table = table_of c.args.typed.now in
    let within = c.in_ok-within-in-Wait.within in
    let body = body_view {A = g.row.A.Denot} c.deref-in-Wait.result.now in
    let x = waits (words_view c.in-Wait.names) body in
    let is : command_view {A = g.row.A.Denot} c.args.kind.now ≡ x = ap (command_view {A = g.row.A.Denot}) c.in-Wait.is ∙ view-Wait c.in-Wait.names c.in-Wait.body
    ∙ ap (λ b. waits (words_view c.in-Wait.names) (body_view {A = g.row.A.Denot} b)) (sym c.deref-in-Wait.ensures) in
    form_added table (record { number = c.args.number; first = c.args.at; to = to }) (command_view {A = g.row.A.Denot} c.args.kind.now) x (steps_view c.args.steps.now.items) (steps_view c.push-in-Wait.new.self.items) is
    (then_more (outline.read_names table (words_view c.in-Wait.names)) (outline.encloses (outline.outlined (outline.body_steps table body)) ∷ [])
    (steps_view c.args.steps.now.items) (steps_view c.read_names.new.steps.items) (steps_view c.push-in-Wait.new.self.items) c.in_ok-read_names-in-Wait.ensures
    (step_added c.read_names.new.steps.items c.push-in-Wait.new.self.items (Encloses within) c.in_ok-push-in-Wait.ensures.items
    ∙ ap (λ (s : outline.Step). steps_view c.read_names.new.steps.items ++ s ∷ []) (view-Encloses within ∙ ap (λ (ss : List outline.Step). outline.encloses (outline.outlined ss)) c.in_ok-within-in-Wait.ensures)))
