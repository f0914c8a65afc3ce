use Rattle.std.proofs.Common.{rules}
use Rattle.syntax_trees.proofs.Views.{view-Block}
use Rattle.syntax_trees.proofs.copy.copy_body.Goals as goal

pub returns : goal.returns
returns g c =
    let e = view-Block g.row.A.Denot c.args.block.now in
    search rules
