use Rattle.std.proofs.Common.{subst, sym, ◌∙◌, arith}
use Rattle.syntax_trees.specs.View.{tree_of}
use Rattle.syntax.specs.Answers.{GivesNumbered}
use Rattle.syntax.specs.Reading.{read_script}
use Rattle.syntax.proofs.scripts.Texts.{begun_faulty, begun_reads}
use Rattle.syntax.proofs.parser.parse.Goals as goal
use Rattle.values.specs.Limits.{max_nesting}

pub returns-in-Some-clause-refused : goal.returns-in-Some-clause-refused
returns-in-Some-clause-refused g c =
    let reads = subst (λ r. GivesNumbered tree_of r c.script.new.cursor (read_script max_nesting c.new-cursor.result)) c.in-Ok.is c.script.ensures in
    begun_faulty c.args.src.now c.new-cursor.result c.fault_behind.result c.in-Some.fault reads.0 c.script.new.cursor (omega arith) c.new-cursor.ensures reads.1
    (λ ts fault lexed last. c.fault_behind.ensures ts fault lexed (last ∙ sym c.before-2.ensures)) c.in-Some.is

pub returns-clause-read : goal.returns-clause-read
returns-clause-read g c =
    let reads = subst (λ r. GivesNumbered tree_of r c.script.new.cursor (read_script max_nesting c.new-cursor.result)) c.in-Ok.is c.script.ensures in
    begun_reads c.args.src.now c.new-cursor.result c.fault_behind.result reads.0 c.script.new.cursor (tree_of c.in-Ok.script) (omega arith) c.new-cursor.ensures reads.1
    (λ ts fault lexed last. c.fault_behind.ensures ts fault lexed (last ∙ sym c.before-2.ensures)) c.in-None.is reads.2
