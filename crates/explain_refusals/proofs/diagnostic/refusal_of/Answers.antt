use Rattle.syntax_trees.specs.View.{tree_of}
use Rattle.types.specs.Typed.{table_of}
use Rattle.explain_refusals.proofs.Verdicts.{not_single}
use Rattle.explain_refusals.proofs.diagnostic.refusal_of.Goals as goal

pub returns : goal.returns
returns c =
    not_single c.args.text.now (tree_of c.in-Ok.script) (table_of c.in-Ok-check.typed) c.in-Err-check-2.fault c.in_ok-refusal-in-Err-check-2.refusal.at
    c.in-Ok.ensures.read c.in-Ok-check.ensures.typed c.in-Err-check-2.ensures.not_single c.in-Err-check-2.ensures.broken c.in_ok-refusal-in-Err-check-2.ensures
