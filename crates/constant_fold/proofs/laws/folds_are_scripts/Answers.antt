use Rattle.language.specs.Resolved.{core}
use Rattle.constant_fold.specs.Folded.{folded_tree}
use Rattle.constant_fold.proofs.Declared.{tree_declares}
use Rattle.constant_fold.proofs.Scripts.{core_same}
use Rattle.constant_fold.proofs.Singly.{singly_assigned}
use Rattle.constant_fold.proofs.Typed.{folded_typed, signatures_stay}
use Rattle.constant_fold.proofs.laws.folds_are_scripts.Goals as goal

pub returns-clause-typed : goal.returns-clause-typed
returns-clause-typed g = λ t tree w. folded_typed t tree w

pub returns-clause-single : goal.returns-clause-single
returns-clause-single g = λ t tree w single. singly_assigned (core t tree) (core t (folded_tree tree)) (core_same t tree w) single

pub returns-clause-signatures : goal.returns-clause-signatures
returns-clause-signatures g = λ tree. signatures_stay tree

pub returns-clause-declarations : goal.returns-clause-declarations
returns-clause-declarations g = λ tree. tree_declares tree
