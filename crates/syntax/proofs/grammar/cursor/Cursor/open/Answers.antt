use Rattle.std.proofs.Common.{arith}
use Rattle.lexer.specs.Given.{lexeme_of}
use Rattle.syntax.proofs.combining.Heights.{opened_pos}
use Rattle.syntax.proofs.grammar.cursor.Cursor.open.Goals as goal

pub returns-clause-reads : goal.returns-clause-reads
returns-clause-reads c = opened_pos c.args.kind c.args.depth c.args.self.now (lexeme_of c.in_ok-token.token) c.take.new.self (omega arith) c.in_ok-token.ensures.reads
