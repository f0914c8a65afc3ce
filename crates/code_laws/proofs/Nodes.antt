-- The nodes of a script's statements, each of which stands once.
use Rattle.std.proofs.Common.{◌≡◌, ℕ, zero, suc, ◌+◌, ◌≤◌, Bool, true, false, List, [], ◌∷◌, ◌++◌, map, refl, ap, arith, Option, Some, None}
use Rattle.std.specs.List.{flat_map}
use Rattle.language.specs.Core.{Owned, local, input, output, Name, Cell, Call, Part, inner, calls, Stmt, stmt, Action, declare, call_alone, assign, fill, insert, print, assert, when, choose, range, each, wait, Block, Core}
use Rattle.language.specs.Parts.{parts, part_cells, part_calls, cells, block_list, script_blocks, stmts_among, script_stmts}
use Rattle.language.proofs.Tested.{flat, declared_of, cell_nodes, roles_of, hidden_of, hidden_calls, local_node, name_nodes, nodes, block_nodes}
use Rattle.language.specs.Distinct.{distinct}
use Rattle.language_laws.specs.TypedValues.{own_parts}
use Rattle.code_rules.specs.Emitted.{CellsOnce}
use Rattle.task_code.specs.Code.{Variable}
use Rattle.code_rules.specs.Laying.{plain_after, cell_data, data_in, data_of, node_here, one_output, output_scalars}
use Rattle.code_laws.proofs.Counts.{total, total-append, hit, count, distinct_count, count_distinct, test_distinct}
use Rattle.code_laws.proofs.Adding.{own_fewer}
use Rattle.code_laws.proofs.Layouts.{cell_count}

-- how often a number is declared by a statement, is the node of one of its cells, of its loop variables, of outputs of calls in its expressions
abbrev pub declared_count : ℕ → Stmt → ℕ
declared_count n (stmt at m a) = count n (declared_of a)

abbrev pub cells_count : ℕ → Stmt → ℕ
cells_count n (stmt at m a) = cell_count n (part_cells (parts a))

abbrev pub other_count : ℕ → Stmt → ℕ
other_count n (stmt at m a) = count n (roles_of a) + count n (hidden_of a)

abbrev pub own_count : ℕ → Stmt → ℕ
own_count n (stmt at m a) = count n (declared_of a) + (cell_count n (part_cells (parts a)) + (count n (roles_of a) + count n (hidden_of a)))

-- no number is a node of a script's statements twice
abbrev pub NodesApart : Core → Type 0
NodesApart s = (n : ℕ) → total (own_count n) (script_stmts s) ≤ 1

count-flat : {X : Type 0} (f : X → List ℕ) (n : ℕ) (xs : List X) → count n (flat f xs) ≡ total (λ x. count n (f x)) xs
count-flat f n [] = refl
count-flat f n (x ∷ xs) = let a = total-append (hit n) (f x) (flat f xs) in let b = count-flat f n xs in omega arith

flat-append : {X : Type 0} (f : X → List ℕ) (n : ℕ) (xs ys : List X) → count n (flat f (xs ++ ys)) ≡ count n (flat f xs) + count n (flat f ys)
flat-append f n [] ys = omega arith
flat-append f n (x ∷ xs) ys =
    let e = flat-append f n xs ys in
    let a = total-append (hit n) (f x) (flat f (xs ++ ys)) in
    let b = total-append (hit n) (f x) (flat f xs) in
    omega arith

cells_are : (n : ℕ) (cs : List Cell) → count n (cell_nodes cs) ≡ cell_count n cs
cells_are n [] = refl
cells_are n (c ∷ cs) = let a = cells_are n cs in omega arith

stmt_nodes : (n : ℕ) (st : Stmt) → count n (nodes st) ≡ own_count n st
stmt_nodes n (stmt at m a) =
    let x = total-append (hit n) (declared_of a) (cell_nodes (part_cells (parts a)) ++ (roles_of a ++ hidden_of a)) in
    let y = total-append (hit n) (cell_nodes (part_cells (parts a))) (roles_of a ++ hidden_of a) in
    let z = total-append (hit n) (roles_of a) (hidden_of a) in
    let c = cells_are n (part_cells (parts a)) in
    omega arith

list_nodes : (n : ℕ) (sts : List Stmt) → count n (flat nodes sts) ≡ total (own_count n) sts
list_nodes n [] = refl
list_nodes n (st ∷ sts) = let a = total-append (hit n) (nodes st) (flat nodes sts) in let b = stmt_nodes n st in let c = list_nodes n sts in omega arith

blocks_nodes : (n : ℕ) (bs : List Block) → count n (flat block_nodes bs) ≡ total (own_count n) (stmts_among bs)
blocks_nodes n [] = refl
blocks_nodes n (b ∷ bs) =
    let a = total-append (hit n) (block_nodes b) (flat block_nodes bs) in
    let c = list_nodes n (block_list b) in
    let d = blocks_nodes n bs in
    let e = total-append (own_count n) (block_list b) (stmts_among bs) in
    omega arith

pub nodes_apart : (s : Core) → distinct (0 ∷ flat block_nodes (script_blocks s)) ≡ true → NodesApart s
nodes_apart s h n =
    let a = distinct_count (0 ∷ flat block_nodes (script_blocks s)) (test_distinct (0 ∷ flat block_nodes (script_blocks s)) h) n in
    let b = blocks_nodes n (script_blocks s) in
    omega arith

all_cells : (n : ℕ) (sts : List Stmt) → cell_count n (flat_map cells sts) ≤ total (own_count n) sts
all_cells n [] = omega arith
all_cells n (stmt at m a ∷ sts) =
    let x = all_cells n sts in
    let y = map-append (part_cells (parts a)) (flat_map cells sts) in
    let z = total-append (hit n) (map (λ (c : Cell). c.node) (part_cells (parts a))) (map (λ (c : Cell). c.node) (flat_map cells sts)) in
    let v : cell_count n (part_cells (parts a) ++ flat_map cells sts) ≡ count n (map (λ (c : Cell). c.node) (part_cells (parts a)) ++ map (λ (c : Cell). c.node) (flat_map cells sts)) = ap (count n) y in
    omega arith
  where
    map-append : (cs ds : List Cell) → map (λ (c : Cell). c.node) (cs ++ ds) ≡ map (λ (c : Cell). c.node) cs ++ map (λ (c : Cell). c.node) ds
    map-append [] ds = refl
    map-append (c ∷ cs) ds = ap (λ zs. c.node ∷ zs) (map-append cs ds)

pub cells_once : (s : Core) → NodesApart s → CellsOnce s
cells_once s h = count_distinct (map (λ (c : Cell). c.node) (flat_map cells (script_stmts s))) (λ n. (let a = all_cells n (script_stmts s) in let b = h n in omega arith))

-- DATA

abbrev pub nodes_of : List Variable → List ℕ
nodes_of vs = map (λ (v : Variable). v.node) vs

pub nodes_of-append : (n : ℕ) (vs ws : List Variable) → count n (nodes_of (vs ++ ws)) ≡ count n (nodes_of vs) + count n (nodes_of ws)
nodes_of-append n [] ws = omega arith
nodes_of-append n (v ∷ vs) ws = let a = nodes_of-append n vs ws in omega arith

abbrev part_count : ℕ → Part → ℕ
part_count n (inner c) = hit n c.node
part_count n (calls c) = count n (name_nodes c.outputs)

parts_count : (n : ℕ) (ps : List Part) → total (part_count n) ps ≡ cell_count n (part_cells ps) + count n (flat (λ (c : Call). name_nodes c.outputs) (part_calls ps))
parts_count n [] = refl
parts_count n (inner c ∷ ps) = let a = parts_count n ps in omega arith
parts_count n (calls c ∷ ps) =
    let a = parts_count n ps in
    let b = total-append (hit n) (name_nodes c.outputs) (flat (λ (c : Call). name_nodes c.outputs) (part_calls ps)) in
    omega arith

one_few : (n up : ℕ) (o : Owned) → count n (nodes_of (one_output (node_here up o))) ≤ count n (local_node o)
one_few n zero (local m) = omega arith
one_few n (suc up) (local m) = omega arith
one_few n zero (input i) = omega arith
one_few n (suc up) (input i) = omega arith
one_few n zero (output i) = omega arith
one_few n (suc up) (output i) = omega arith

outputs_few : (n : ℕ) (xs : List Name) → count n (nodes_of (output_scalars xs)) ≤ count n (name_nodes xs)
outputs_few n [] = omega arith
outputs_few n (x ∷ xs) =
    let a = outputs_few n xs in
    let b = one_few n x.up x.what in
    let c = nodes_of-append n (one_output (node_here x.up x.what)) (output_scalars xs) in
    let d = total-append (hit n) (local_node x.what) (name_nodes xs) in
    omega arith

cell_few : (n m : ℕ) (b : Bool) → count n (nodes_of (cell_data b m)) ≤ hit n m
cell_few n m true = omega arith
cell_few n m false = omega arith

data_in_few : (n : ℕ) (p : Option Part) (ps : List Part) → count n (nodes_of (data_in p ps)) ≤ total (part_count n) ps
data_in_few n p [] = omega arith
data_in_few n p (inner c ∷ ps) =
    let a = data_in_few n (Some (inner c)) ps in
    let b = cell_few n c.node (plain_after p c.form) in
    let d = nodes_of-append n (cell_data (plain_after p c.form) c.node) (data_in (Some (inner c)) ps) in
    omega arith
data_in_few n p (calls c ∷ ps) =
    let a = data_in_few n (Some (calls c)) ps in
    let b = outputs_few n c.outputs in
    let d = nodes_of-append n (output_scalars c.outputs) (data_in (Some (calls c)) ps) in
    omega arith

own_few : (n : ℕ) (a : Action) → hidden_calls a ≡ part_calls (parts a) → count n (nodes_of (data_in None (own_parts a))) ≤ cell_count n (part_cells (parts a)) + count n (hidden_of a)
own_few n a h =
    let x = data_in_few n None (own_parts a) in
    let y = own_fewer (part_count n) a in
    let z = parts_count n (parts a) in
    let v = ap (λ (cs : List Call). count n (flat (λ (c : Call). name_nodes c.outputs) cs)) h in
    omega arith

-- the data that statements have are of their cells, and outputs of calls in their expressions
pub data_few : (n : ℕ) (a : Action) → count n (nodes_of (data_of a)) ≤ cell_count n (part_cells (parts a)) + count n (hidden_of a)
data_few n (call_alone p ps c) =
    let x = data_in_few n None ps in
    let y = parts_count n ps in
    let z = parts_count n (ps ++ calls c ∷ []) in
    let v = total-append (part_count n) ps (calls c ∷ []) in
    let w = cells_more ps in
    omega arith
  where
    cells_more : (ps : List Part) → cell_count n (part_cells ps) ≤ cell_count n (part_cells (ps ++ calls c ∷ []))
    cells_more [] = omega arith
    cells_more (inner d ∷ ps) = let a = cells_more ps in omega arith
    cells_more (calls d ∷ ps) = cells_more ps
data_few n (declare v) = own_few n (declare v) refl
data_few n (assign x o) = own_few n (assign x o) refl
data_few n (fill x o) = own_few n (fill x o) refl
data_few n (insert x i o) = own_few n (insert x i o) refl
data_few n (print p o) = own_few n (print p o) refl
data_few n (assert p o) = own_few n (assert p o) refl
data_few n (when o b) = own_few n (when o b) refl
data_few n (choose o b d) = own_few n (choose o b d) refl
data_few n (range lo hi st x y b) = own_few n (range lo hi st x y b) refl
data_few n (each x v y b) = own_few n (each x v y b) refl
data_few n (wait ns b) = own_few n (wait ns b) refl
