-- What is known of a tree and of the fold of one.
use Rattle.std.specs.Prelude.{◌≡◌, ℕ, List}
use Rattle.compile.specs.Accepted.{IsAccepted}
use Rattle.constant_fold.specs.Folded.{folded_tree}
use Rattle.language.specs.Reads.{Reads}
use Rattle.language.specs.Table.{Table}
use Rattle.language.specs.Tree.{Tree}

-- some text reads as the tree
pub record IsOfText (tree : Tree) : Type 0 where
  pub src : List ℕ
  pub reads : Reads src tree

-- the tree is the fold of one that some text reads as, which is a script by this table of its names
pub record IsFold (table : Table) (folded : Tree) : Type 0 where
  pub src : List ℕ
  pub tree : Tree
  pub accepted : IsAccepted src table tree
  pub is : folded ≡ folded_tree tree
