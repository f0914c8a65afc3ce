-- A flow that is lowered and merged is a script's, folded before or not.
use Rattle.std.proofs.Common.{◌≡◌, inl, inr, ℕ, List}
use Rattle.compile.specs.Accepted.{IsAccepted}
use Rattle.compile.specs.Compiled.{IsOfScript}
use Rattle.compile.proofs.Flows.{flow_for, flow_for_same, Kept, Lowered}
use Rattle.constant_fold.specs.Folded.{folded_tree}
use Rattle.flow.specs.declared.script.Flow.{Flow}
use Rattle.language.specs.Table.{Table}
use Rattle.language.specs.Tree.{Tree}

pub of_fold : {A : Type 0} (src : List ℕ) (t : Table) (tree folded : Tree) (lowered flow : Flow A) → IsAccepted src t tree → folded ≡ folded_tree tree → Lowered t folded lowered → Kept lowered flow → IsOfScript flow
of_fold src t tree folded lowered flow accepted fold_is low kept = record { src = src; is = inr (t, tree, accepted, flow_for_same t (folded_tree tree) folded lowered flow fold_is low kept) }

pub of_written : {A : Type 0} (src : List ℕ) (t : Table) (tree : Tree) (lowered flow : Flow A) → IsAccepted src t tree → Lowered t tree lowered → Kept lowered flow → IsOfScript flow
of_written src t tree lowered flow accepted low kept = record { src = src; is = inl (t, tree, accepted, flow_for t tree lowered flow low kept) }
