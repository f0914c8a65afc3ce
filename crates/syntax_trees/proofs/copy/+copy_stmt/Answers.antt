use Rattle.std.proofs.Common.{rules, ◌≡◌, ◌≤◌, ◌++◌, ◌∷◌, [], map, ap, ap₂, sym, ◌∙◌, arith}
use Rattle.std.proofs.lemmas.Grind.{common_steps}
use Rattle.std.specs.List.{sum_by}
use Rattle.std.specs.Prelude.{option_map, Box}
use Rattle.std.proofs.lemmas.Result.{IfOk-weaker}
use Rattle.syntax_trees.specs.declared.tree.StmtKind.{StmtKind}
use Rattle.syntax_trees.specs.declared.tree.Block.{Block, out-Block}
use Rattle.language.specs.Tree.{choice, choice_else, loop, waits, body, statements_of}
use Rattle.syntax_trees.specs.View.{word_of, words_view, expression_view, over_of, statement_view, command_view, body_view}
use Rattle.language.specs.Tree.{choice_of}
use Rattle.language.specs.Numbered.{statement_size}
use Rattle.syntax_trees.proofs.Views.{size_of_element, block-size, view-Block, view-If, view-Foreach, view-Wait, same_choice, same_loop}
use Rattle.syntax_trees.proofs.Numbering.{copied_more, viewed_all}
use Rattle.syntax_trees.proofs.copy.+copy_stmt.Goals as goal

pub copy_stmts-loop-stmt-preserved : goal.copy_stmts-loop-stmt-preserved
copy_stmts-loop-stmt-preserved g t c =
    let more = copied_more (statement_view {A = g.row.A.Denot}) (statement_view {A = g.row.B.Denot}) c.args.stmts.now.items c.loop-stmt.copies.items c.loop-stmt.stmt-index c.stmt-item.result c.in_ok-copy_stmt.field-0 c.loop-stmt.invariant (grind (arith, common_steps)) (grind (arith, common_steps)) c.in_ok-copy_stmt.ensures in
    let after : c.push.new.self.items ≡ c.loop-stmt.copies.items ++ c.in_ok-copy_stmt.field-0 ∷ [] = grind (arith, common_steps) in
    ap (map statement_view) after ∙ more

pub copy_stmts-returns : goal.copy_stmts-returns
copy_stmts-returns g t c = c.loop-stmt.invariant ∙ viewed_all (statement_view {A = g.row.A.Denot}) c.args.stmts.now.items c.loop-stmt.stmt-index (grind (arith, common_steps))

pub copy_stmts-copy_stmt-requires : goal.copy_stmts-copy_stmt-requires
copy_stmts-copy_stmt-requires g t c κs within =
    let small : statement_size (statement_view {A = g.row.A.Denot} c.stmt-item.result) ≤ sum_by statement_size (map (statement_view {A = g.row.A.Denot}) c.args.stmts.now.items) =
    size_of_element (statement_view {A = g.row.A.Denot}) statement_size c.args.stmts.now.items c.loop-stmt.stmt-index c.stmt-item.result (grind (arith, common_steps)) (grind (arith, common_steps)) in
    search rules

pub copy_block-copy_stmts-requires : goal.copy_block-copy_stmts-requires
copy_block-copy_stmts-requires g t c κs within =
    let size = block-size g.row.A.Denot c.args.block.now in
    search rules

pub copy_block-returns : goal.copy_block-returns
copy_block-returns g t c =
    let A = g.row.A.Denot in
    let B = g.row.B.Denot in
    let from = (out-Block A c.args.block.now).from in
    let told : Box (Block B) B → Type 0 = λ b. body_view b.value ≡ body from (statements_of (map statement_view c.in_ok-statements.statements.items)) in
    let wanted : Box (Block B) B → Type 0 = λ b. body_view b.value ≡ body_view {A = A} c.args.block.now in
    IfOk-weaker c.boxed_block.result told wanted
    (λ b is. is ∙ ap (λ ss. body from (statements_of ss)) c.in_ok-statements.ensures ∙ sym (view-Block A c.args.block.now)) c.boxed_block.ensures

pub copy_command-returns-in-None : goal.copy_command-returns-in-None
copy_command-returns-in-None g t c =
    let A = g.row.A.Denot in
    let B = g.row.B.Denot in
    let e = expression_view {A = A} c.in-If.test.value in
    let d = body_view {A = A} c.in-If.then.value in
    let told : StmtKind B → Type 0 = λ k. command_view k ≡ choice (expression_view {A = A} c.deref-in-None.result.now) (body_view {A = B} c.in_ok-then-in-If.then.value) in
    let wanted : StmtKind B → Type 0 = λ k. command_view k ≡ command_view {A = A} c.args.kind.now in
    IfOk-weaker c.copy_choice.result told wanted
    (λ k is. is ∙ ap₂ choice (ap (expression_view {A = A}) c.deref-in-None.ensures) (c.in_ok-then-in-If.ensures ∙ ap (body_view {A = A}) c.deref-in-If.ensures)
    ∙ sym (ap (command_view {A = A}) c.in-If.is ∙ view-If c.in-If.test c.in-If.then c.in-If.other ∙ ap (λ o. choice_of e d (option_map (λ it. body_view {A = A} it.value) o)) c.in-None.is)) c.copy_choice.ensures

pub copy_command-returns-in_ok-other-in-Some : goal.copy_command-returns-in_ok-other-in-Some
copy_command-returns-in_ok-other-in-Some g t c =
    let A = g.row.A.Denot in
    let B = g.row.B.Denot in
    let e = expression_view {A = A} c.in-If.test.value in
    let d = body_view {A = A} c.in-If.then.value in
    let told : StmtKind B → Type 0 = λ k. command_view k ≡ choice_else (expression_view {A = A} c.deref-in-Some-2.result.now) (body_view {A = B} c.in_ok-then-in-If.then.value) (body_view {A = B} c.in_ok-other-in-Some.other.value) in
    let wanted : StmtKind B → Type 0 = λ k. command_view k ≡ command_view {A = A} c.args.kind.now in
    IfOk-weaker c.copy_choice_else.result told wanted
    (λ k is. is ∙ same_choice (ap (expression_view {A = A}) c.deref-in-Some-2.ensures) (c.in_ok-then-in-If.ensures ∙ ap (body_view {A = A}) c.deref-in-If.ensures) (c.in_ok-other-in-Some.ensures ∙ ap (body_view {A = A}) c.deref-in-Some.ensures)
    ∙ sym (ap (command_view {A = A}) c.in-If.is ∙ view-If c.in-If.test c.in-If.then c.in-If.other ∙ ap (λ o. choice_of e d (option_map (λ it. body_view {A = A} it.value) o)) c.in-Some.is)) c.copy_choice_else.ensures

pub copy_command-returns-in_ok-body-in-Foreach : goal.copy_command-returns-in_ok-body-in-Foreach
copy_command-returns-in_ok-body-in-Foreach g t c =
    let A = g.row.A.Denot in
    let B = g.row.B.Denot in
    let h = c.deref-in-Foreach-2.result.now in
    let told : StmtKind B → Type 0 = λ k. command_view k ≡ loop (word_of {A = A} h.value) (option_map (word_of {A = A}) h.key) (over_of {A = A} h.source) (body_view {A = B} c.in_ok-body-in-Foreach.body.value) in
    let wanted : StmtKind B → Type 0 = λ k. command_view k ≡ command_view {A = A} c.args.kind.now in
    IfOk-weaker c.copy_loop.result told wanted
    (λ k is. is
    ∙ same_loop (ap (λ x. word_of {A = A} x.value) c.deref-in-Foreach-2.ensures) (ap (λ x. option_map (word_of {A = A}) x.key) c.deref-in-Foreach-2.ensures)
    (ap (λ x. over_of {A = A} x.source) c.deref-in-Foreach-2.ensures) (c.in_ok-body-in-Foreach.ensures ∙ ap (body_view {A = A}) c.deref-in-Foreach.ensures)
    ∙ sym (ap (command_view {A = A}) c.in-Foreach.is ∙ view-Foreach c.in-Foreach.header c.in-Foreach.body)) c.copy_loop.ensures

pub copy_command-returns-in_ok-body-in-Wait : goal.copy_command-returns-in_ok-body-in-Wait
copy_command-returns-in_ok-body-in-Wait g t c =
    let A = g.row.A.Denot in
    let B = g.row.B.Denot in
    let ws = words_view {A = A} c.in-Wait.names in
    let told : StmtKind B → Type 0 = λ k. command_view k ≡ waits ws (body_view {A = B} c.in_ok-body-in-Wait.body.value) in
    let wanted : StmtKind B → Type 0 = λ k. command_view k ≡ command_view {A = A} c.args.kind.now in
    IfOk-weaker c.copy_wait.result told wanted
    (λ k is. is ∙ ap (waits ws) (c.in_ok-body-in-Wait.ensures ∙ ap (body_view {A = A}) c.deref-in-Wait.ensures)
    ∙ sym (ap (command_view {A = A}) c.in-Wait.is ∙ view-Wait c.in-Wait.names c.in-Wait.body)) c.copy_wait.ensures
