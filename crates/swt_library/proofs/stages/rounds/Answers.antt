use Rattle.syntax_trees.specs.View.{tree_of}
use Rattle.types.specs.Typed.{table_of}
use Rattle.swt_library.proofs.stages.rounds.Goals as goal

pub returns-clause-known : goal.returns-clause-known
returns-clause-known g c = λ src reads typed single. c.in_ok-known.ensures.known src (table_of c.args.typed.now) (tree_of c.args.script.now) reads typed single c.in_ok-flow.ensures.core
