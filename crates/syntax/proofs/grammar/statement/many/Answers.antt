use Rattle.std.proofs.Common.{ap, sym, ◌∙◌}
use Rattle.lexer.specs.Given.{lexeme_of}
use Rattle.language.specs.Tree.{assign_all}
use Rattle.syntax_trees.specs.View.{words_view, calling_of}
use Rattle.syntax.specs.Readers.{got}
use Rattle.syntax.proofs.statements.Commands.{many_reads}
use Rattle.syntax.proofs.combining.Views.{view-AssignAll, does_view}
use Rattle.syntax.proofs.grammar.statement.many.Goals as goal

pub returns-clause-reads : goal.returns-clause-reads
returns-clause-reads g c =
    many_reads c.args.depth c.args.cursor.now (words_view c.in_ok-targets.targets) c.names.new.cursor (lexeme_of c.in_ok-take.field-0) c.take.new.self (calling_of c.in_ok-call.call.value) c.ended_call.new.cursor
    c.in_ok-targets.ensures.reads c.in_ok-take.ensures.reads c.in_ok-call.ensures.reads
    ∙ ap (λ e. got e c.ended_call.new.cursor) (sym (does_view c.args.cursor.now c.ended_call.new.cursor c.first-first.result c.before-2.result _ c.stmt.result
    (assign_all (words_view c.in_ok-targets.targets) (calling_of c.in_ok-call.call.value))
    c.first-first.ensures c.before-2.ensures c.stmt.ensures (view-AssignAll c.in_ok-targets.targets c.in_ok-call.call)))
