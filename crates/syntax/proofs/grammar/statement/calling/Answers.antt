use Rattle.std.proofs.Common.{◌≡◌, refl, ap, sym, ◌∙◌}
use Rattle.std.specs.Int.{w32}
use Rattle.std.proofs.lemmas.Int.{to_z-of_z}
use Rattle.language.specs.Tree.{calls}
use Rattle.syntax_trees.specs.View.{calling_of, statement_view}
use Rattle.language.specs.Grammar.{does}
use Rattle.syntax.specs.Readers.{got}
use Rattle.syntax.proofs.statements.Commands.{calling_reads}
use Rattle.syntax.proofs.combining.Views.{calls_view}
use Rattle.syntax.proofs.grammar.statement.calling.Goals as goal

pub returns-clause-reads : goal.returns-clause-reads
returns-clause-reads g c =
    let same = to_z-of_z w32 c.in_ok-priority.priority c.in_ok-priority.ensures.fits in
    let tree : statement_view c.call_stmt.result ≡ does c.args.cursor.now (calls c.in_ok-priority.priority (calling_of c.in_ok-call.call.value)) c.ended_call.new.cursor =
    calls_view c.args.cursor.now c.ended_call.new.cursor c.first-first.result c.before-2.result _ c.in_ok-priority.priority c.in_ok-call.call c.in_ok-call.call.value c.call_stmt.result c.first-first.ensures c.before-2.ensures c.call_stmt.ensures same refl in
    calling_reads c.args.depth c.args.cursor.now c.in_ok-priority.priority c.given_priority.new.cursor (calling_of c.in_ok-call.call.value) c.ended_call.new.cursor
    c.in_ok-priority.ensures.reads c.in_ok-call.ensures.reads
    ∙ ap (λ e. got e c.ended_call.new.cursor) (sym tree)
