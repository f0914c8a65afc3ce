-- Tests whether a variable is a target in a statement, and whether it is assigned there as a scalar. States
-- docs/LANGUAGE.md: Closing.
use Rattle.std.specs.Prelude.{Bool, false, ◌||◌, List, nat_eq}
use Rattle.std.specs.List.{list_any}
use Rattle.language.specs.Core.{Owned, local, input, output, Name, Stmt, stmt, Action, declare, call_alone, assign, fill, insert, print, assert, when, choose, range, each, wait, Block, no_stmts, stmts}

abbrev pub same_owned : Owned → Owned → Bool
same_owned (local m) (local n) = nat_eq m n
same_owned (input i) (input j) = nat_eq i j
same_owned (output i) (output j) = nat_eq i j
same_owned _ _ = false

abbrev pub names_owned : Owned → List Name → Bool
names_owned x ys = list_any (λ y. same_owned y.what x) ys

-- the variable is a target
abbrev mutual
  pub aims : Owned → Stmt → Bool
  aims x (stmt at n a) = aims_of x a

  pub aims_of : Owned → Action → Bool
  aims_of x (declare v) = false
  aims_of x (call_alone p ps c) = names_owned x c.outputs
  aims_of x (assign y e) = same_owned y.what x
  aims_of x (fill y e) = same_owned y.what x
  aims_of x (insert y k e) = same_owned y.what x
  aims_of x (print p e) = false
  aims_of x (assert p e) = false
  aims_of x (when c b) = aims_in x b
  aims_of x (choose c b d) = aims_in x b || aims_in x d
  aims_of x (range lo hi st v k b) = aims_in x b
  aims_of x (each a v k b) = aims_in x b
  aims_of x (wait ns b) = aims_in x b

  pub aims_in : Owned → Block → Bool
  aims_in x no_stmts = false
  aims_in x (stmts s b) = aims x s || aims_in x b

-- the variable is the target of a scalar assignment
abbrev mutual
  pub assigns : Owned → Stmt → Bool
  assigns x (stmt at n a) = assigns_of x a

  pub assigns_of : Owned → Action → Bool
  assigns_of x (assign y e) = same_owned y.what x
  assigns_of x (when c b) = assigns_in x b
  assigns_of x (choose c b d) = assigns_in x b || assigns_in x d
  assigns_of x (range lo hi st v k b) = assigns_in x b
  assigns_of x (each a v k b) = assigns_in x b
  assigns_of x (wait ns b) = assigns_in x b
  assigns_of _ _ = false

  pub assigns_in : Owned → Block → Bool
  assigns_in x no_stmts = false
  assigns_in x (stmts s b) = assigns x s || assigns_in x b
