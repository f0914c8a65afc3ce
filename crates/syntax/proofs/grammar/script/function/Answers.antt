use Rattle.std.proofs.Common.{◌≡◌, ap, sym, ◌∙◌, arith}
use Rattle.std.proofs.lemmas.Grind.{common_steps}
use Rattle.language.specs.Tree.{function}
use Rattle.syntax_trees.specs.View.{declarations_view, word_of, body_view}
use Rattle.syntax.specs.Readers.{got}
use Rattle.syntax.proofs.statements.Commands.{function_reads}
use Rattle.syntax.proofs.combining.Views.{composite_view}
use Rattle.syntax.proofs.grammar.script.function.Goals as goal

pub returns-clause-reads : goal.returns-clause-reads
returns-clause-reads g c =
    let boxed : c.in_ok-new.field-0.value ≡ record { number = 0; first = c.first-first.result; to = c.before-2.result; outputs = c.in_ok-outputs.outputs; name = c.in_ok-name.name; inputs = c.in_ok-inputs.inputs; body = c.in_ok-body.body } = grind (arith, common_steps) in
    function_reads c.args.depth c.args.cursor.now (declarations_view c.in_ok-outputs.outputs) c.parameters.new.cursor (word_of c.in_ok-name.name) c.name.new.cursor (declarations_view c.in_ok-inputs.inputs) c.parameters-2.new.cursor
    (body_view c.in_ok-body.body) c.block.new.cursor c.in_ok-outputs.ensures.reads c.in_ok-name.ensures.reads c.in_ok-inputs.ensures.reads c.in_ok-body.ensures.reads
    ∙ ap (λ f. got (function f) c.block.new.cursor) (sym (composite_view c.args.cursor.now c.block.new.cursor c.first-first.result c.before-2.result c.in_ok-outputs.outputs c.in_ok-inputs.inputs c.in_ok-name.name c.in_ok-body.body c.in_ok-new.field-0.value
    c.first-first.ensures c.before-2.ensures boxed))
