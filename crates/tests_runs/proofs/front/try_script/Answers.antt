use Rattle.std.proofs.Common.{◌≡◌, [], ℕ, IfSome, subst}
use Rattle.std.specs.Prelude.{Option}
use Rattle.assign_check.specs.Faults.{faults}
use Rattle.constant_fold.specs.Folded.{folded_tree}
use Rattle.language.specs.Numbered.{numbered}
use Rattle.language.specs.Tree.{Tree}
use Rattle.language.specs.Typing.{WellTyped}
use Rattle.swt_library.specs.declared.stages.Single.{Single}
use Rattle.syntax_trees.specs.View.{tree_of}
use Rattle.syntax_trees.specs.declared.tree.Script.{Script}
use Rattle.types.specs.Typed.{table_of}
use Rattle.types.specs.declared.typed.Typed.{Typed}
use Rattle.tests_runs.proofs.Folds.{is_fold}
use Rattle.tests_runs.proofs.front.try_script.Goals as goal

pub try_fold-requires : goal.try_fold-requires
try_fold-requires g c =
    let typed = subst (λ (o : Option Typed). IfSome o (λ typed. (n : ℕ) (tree : Tree) → tree_of c.args.script.now ≡ numbered n tree → WellTyped (tree_of c.args.script.now) (table_of typed))) c.in-Some.is c.in_ok-typed.ensures in
    let none = subst (λ (o : Option Single). IfSome o (λ single. faults (table_of c.in-Some.typed) (tree_of c.args.script.now) ≡ [])) c.in-Some-2.is c.in_ok-single.ensures in
    let is = subst (λ (o : Option (Script g.row.A.Denot)). IfSome o (λ folded. tree_of folded ≡ folded_tree (tree_of c.args.script.now))) c.in-Some-3.is c.in_ok-folded.ensures in
    is_fold (table_of c.in-Some.typed) (tree_of c.args.script.now) (tree_of c.in-Some-3.folded) c.requires typed none is
