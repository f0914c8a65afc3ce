-- Where no number of a tree stands twice, each writing statement of its core has a node of its own.
use Rattle.std.specs.Prelude.{◌≡◌, ℕ, ◌+◌, ◌≤◌, true, ◌∷◌}
use Rattle.std.proofs.Common.{arith}
use Rattle.language.specs.declared.tree.Shape.{Shape}
use Rattle.language.specs.Tree.{RightSide, Tree}
use Rattle.language.specs.Core.{Name, Action, declare, call_alone, assign, fill, insert, print, assert, when, choose, range, each, wait, stmt}
use Rattle.language.specs.Parts.{script_stmts}
use Rattle.language.specs.Resolved.{right_of, core}
use Rattle.language.specs.Table.{Table}
use Rattle.language.proofs.Tested.{flat, writer_of}
use Rattle.language.specs.Distinct.{distinct}
use Rattle.language.proofs.TreeNumbers.{hit, times, few_distinct, distinct_few}
pub use Rattle.language_laws.proofs.TreeBlocks.{right_no_block, several_no_block, call_no_block, loop_block}
use Rattle.language_laws.proofs.TreeNodes.{tree_numbers, core_both}

own_writer : (n at m : ℕ) (a : Action) → times n (writer_of (stmt at m a)) ≤ hit n m
own_writer n at m (declare v) = omega arith
own_writer n at m (call_alone p ps c) = omega arith
own_writer n at m (assign x e) = omega arith
own_writer n at m (fill a e) = omega arith
own_writer n at m (insert a k e) = omega arith
own_writer n at m (print p e) = omega arith
own_writer n at m (assert p e) = omega arith
own_writer n at m (when c b) = omega arith
own_writer n at m (choose c b d) = omega arith
own_writer n at m (range lo hi st v k b) = omega arith
own_writer n at m (each a v k b) = omega arith
own_writer n at m (wait ns b) = omega arith

own_pair : (n at m v : ℕ) (t : Table) (x : Name) (sh : Shape) (r : RightSide) → times n (writer_of (stmt at m (declare v))) + times n (writer_of (stmt at m (right_of t x sh r))) ≤ hit n m
own_pair n at m v t x sh r = let f = own_writer n at m (right_of t x sh r) in omega arith

pub writers_once : (t : Table) (tree : Tree) → distinct (0 ∷ tree_numbers tree) ≡ true → distinct (flat writer_of (script_stmts (core t tree))) ≡ true
writers_once t tree h = few_distinct (flat writer_of (script_stmts (core t tree))) (λ n. (let a = distinct_few (0 ∷ tree_numbers tree) h n in let b = core_both writer_of own_writer own_pair n t tree in omega arith))
