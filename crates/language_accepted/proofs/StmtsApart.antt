-- Where no number of a tree stands twice, a statement of its core has a node that no cell has, and no other statement but the declaration that it was written with.
use Rattle.std.specs.Prelude.{◌≡◌, ◌≢◌, ◌⊎◌, ℕ, ◌+◌, ◌≤◌, true, List, [], ◌∷◌, ◌++◌, refl}
use Rattle.std.proofs.Common.{inl, inr, sym, ap, subst, arith}
use Rattle.language.specs.declared.tree.Shape.{Shape}
use Rattle.language.specs.Tree.{expression, number, text, truth, variable, element, call, prefixed, chain, RightSide, value, list, Tree}
use Rattle.language.specs.Core.{Name, Cell, Action, declare, call_alone, assign, fill, insert, print, assert, when, choose, range, each, wait, Stmt, stmt}
use Rattle.language.specs.Members.{◌∈◌, first}
use Rattle.language.specs.Parts.{script_stmts, script_blocks, block_list, cells, part_cells, parts, stmt_node, stmt_action}
use Rattle.language.specs.Resolved.{call_right, right_of, core}
use Rattle.language.specs.Table.{Table, Callee, composite, built_in}
use Rattle.language.proofs.Members.{to_left, to_right}
use Rattle.language.proofs.Tested.{flat, flat_in, flat_once, nodes, block_nodes, among_split, action_nodes, declared_of, cell_nodes, roles_of, hidden_of}
use Rattle.language.specs.Distinct.{distinct}
use Rattle.language.proofs.TreeNumbers.{hit, times, in_times, few_distinct, distinct_few}
use Rattle.language_laws.proofs.TreeNodes.{tree_numbers, core_both}
use Rattle.language_accepted.specs.Statements.{IsDeclaration, StmtsApart}

-- STATEMENTS BUT DECLARATIONS, AND DECLARATIONS

abbrev other_head : Stmt → List ℕ
other_head (stmt at n (declare v)) = []
other_head (stmt at n a) = n ∷ []

abbrev declared_head : Stmt → List ℕ
declared_head (stmt at n (declare v)) = n ∷ []
declared_head (stmt at n a) = []

other_few : (n at m : ℕ) (a : Action) → times n (other_head (stmt at m a)) ≤ hit n m
other_few n at m (declare v) = omega arith
other_few n at m (call_alone p ps c) = omega arith
other_few n at m (assign x e) = omega arith
other_few n at m (fill x e) = omega arith
other_few n at m (insert x i e) = omega arith
other_few n at m (print p e) = omega arith
other_few n at m (assert p e) = omega arith
other_few n at m (when c b) = omega arith
other_few n at m (choose c b d) = omega arith
other_few n at m (range lo hi st v k b) = omega arith
other_few n at m (each x v k b) = omega arith
other_few n at m (wait ns b) = omega arith

declared_few : (n at m : ℕ) (a : Action) → times n (declared_head (stmt at m a)) ≤ hit n m
declared_few n at m (declare v) = omega arith
declared_few n at m (call_alone p ps c) = omega arith
declared_few n at m (assign x e) = omega arith
declared_few n at m (fill x e) = omega arith
declared_few n at m (insert x i e) = omega arith
declared_few n at m (print p e) = omega arith
declared_few n at m (assert p e) = omega arith
declared_few n at m (when c b) = omega arith
declared_few n at m (choose c b d) = omega arith
declared_few n at m (range lo hi st v k b) = omega arith
declared_few n at m (each x v k b) = omega arith
declared_few n at m (wait ns b) = omega arith

other_pair : (n at m v : ℕ) (t : Table) (x : Name) (sh : Shape) (r : RightSide) → times n (other_head (stmt at m (declare v))) + times n (other_head (stmt at m (right_of t x sh r))) ≤ hit n m
other_pair n at m v t x sh r = let f = other_few n at m (right_of t x sh r) in omega arith

-- a right side declares nothing
right_head : (at m : ℕ) (t : Table) (x : Name) (sh : Shape) (r : RightSide) → declared_head (stmt at m (right_of t x sh r)) ≡ []
right_head at m t x sh (value (expression nd (call w es))) = by (t.callee_of w.number)
  where
    by : (c : Callee) → declared_head (stmt at m (call_right t x (expression nd (call w es)) w es c)) ≡ []
    by (composite i) = refl
    by (built_in b) = refl
right_head at m t x (Shape.Array κ) (value (expression nd (variable w))) = refl
right_head at m t x Shape.Scalar (value (expression nd (variable w))) = refl
right_head at m t x sh (list nd es) = refl
right_head at m t x (Shape.Array κ) (value (expression nd (number z))) = refl
right_head at m t x Shape.Scalar (value (expression nd (number z))) = refl
right_head at m t x (Shape.Array κ) (value (expression nd (text bytes))) = refl
right_head at m t x Shape.Scalar (value (expression nd (text bytes))) = refl
right_head at m t x (Shape.Array κ) (value (expression nd (truth b))) = refl
right_head at m t x Shape.Scalar (value (expression nd (truth b))) = refl
right_head at m t x (Shape.Array κ) (value (expression nd (element w i))) = refl
right_head at m t x Shape.Scalar (value (expression nd (element w i))) = refl
right_head at m t x (Shape.Array κ) (value (expression nd (prefixed p e))) = refl
right_head at m t x Shape.Scalar (value (expression nd (prefixed p e))) = refl
right_head at m t x (Shape.Array κ) (value (expression nd (chain os es))) = refl
right_head at m t x Shape.Scalar (value (expression nd (chain os es))) = refl

declared_pair : (n at m v : ℕ) (t : Table) (x : Name) (sh : Shape) (r : RightSide) → times n (declared_head (stmt at m (declare v))) + times n (declared_head (stmt at m (right_of t x sh r))) ≤ hit n m
declared_pair n at m v t x sh r =
    let e : times n (declared_head (stmt at m (right_of t x sh r))) ≡ 0 = ap (λ (ns : List ℕ). times n ns) (right_head at m t x sh r) in
    omega arith

of_either : (at n : ℕ) (a : Action) → IsDeclaration a × (n ∈ declared_head (stmt at n a)) ⊎ (n ∈ other_head (stmt at n a))
of_either at n (declare v) = inl (tt, first)
of_either at n (call_alone p ps c) = inr first
of_either at n (assign x e) = inr first
of_either at n (fill x e) = inr first
of_either at n (insert x i e) = inr first
of_either at n (print p e) = inr first
of_either at n (assert p e) = inr first
of_either at n (when c b) = inr first
of_either at n (choose c b d) = inr first
of_either at n (range lo hi st v k b) = inr first
of_either at n (each x v k b) = inr first
of_either at n (wait ns b) = inr first

cell_in : (a : Action) {c : Cell} → c ∈ part_cells (parts a) → c.node ∈ action_nodes a
cell_in a {c} i =
    to_right (declared_of a) (cell_nodes (part_cells (parts a)) ++ (roles_of a ++ hidden_of a))
    (to_left (cell_nodes (part_cells (parts a))) (roles_of a ++ hidden_of a) (flat_in (λ (d : Cell). d.node ∷ []) (part_cells (parts a)) i first))

-- WHERE NO NUMBER OF A TREE STANDS TWICE

module _ (t : Table) (tree : Tree) (once : distinct (0 ∷ tree_numbers tree) ≡ true) where
  few_numbers : (n : ℕ) → times n (tree_numbers tree) ≤ 1
  few_numbers n = let a = distinct_few (0 ∷ tree_numbers tree) once n in omega arith

  cell_there : (st : Stmt) (c : Cell) → st ∈ script_stmts (core t tree) → c ∈ cells st → c.node ∈ flat block_nodes (script_blocks (core t tree))
  cell_there (stmt at n a) c m i =
      let r = among_split (script_blocks (core t tree)) m in
      flat_in block_nodes (script_blocks (core t tree)) r.1 (flat_in nodes (block_list r.0) r.2 (cell_in a i))

  no_cell : (st x : Stmt) (c : Cell) → st ∈ script_stmts (core t tree) → x ∈ script_stmts (core t tree) → c ∈ cells st → stmt_node x ≢ c.node
  no_cell st (stmt at n a) c m k i e =
      let s = script_stmts (core t tree) in
      let q = in_times (subst (λ (z : ℕ). z ∈ flat block_nodes (script_blocks (core t tree))) (sym e) (cell_there st c m i)) in
      let f = few_numbers n in
      elim (of_either at n a) [
        | inl d ↦ (let p = in_times (flat_in declared_head s k d.1) in let b = core_both declared_head declared_few declared_pair n t tree in absurd (omega arith))
        | inr o ↦ (let p = in_times (flat_in other_head s k o) in let b = core_both other_head other_few other_pair n t tree in absurd (omega arith))
      ]

  stmt_once : (st x : Stmt) → st ∈ script_stmts (core t tree) → x ∈ script_stmts (core t tree) → stmt_node st ≡ stmt_node x → (IsDeclaration (stmt_action st) ⊎ IsDeclaration (stmt_action x)) ⊎ (st ≡ x)
  stmt_once (stmt at n a) (stmt at' n' a') m k e = elim (of_either at n a) [
    | inl d ↦ inl (inl d.0)
    | inr o ↦ elim (of_either at' n' a') [
      | inl d ↦ inl (inr d.0)
      | inr p ↦ inr (flat_once other_head (script_stmts (core t tree)) others m k o (subst (λ (z : ℕ). z ∈ other_head (stmt at' n' a')) (sym e) p))
    ]
  ]
    where
      others : distinct (flat other_head (script_stmts (core t tree))) ≡ true
      others = few_distinct (flat other_head (script_stmts (core t tree))) (λ n. (let b = core_both other_head other_few other_pair n t tree in let f = few_numbers n in omega arith))

  pub stmts_apart : StmtsApart (core t tree)
  stmts_apart = record { no_cell = no_cell; once = stmt_once }
