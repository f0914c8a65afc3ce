-- An entry of laid code that works out, writes or prints something has its node to itself.
use Rattle.std.proofs.Common.{◌≡◌, ◌⊎◌, inl, inr, ℕ, zero, suc, ◌+◌, ◌≤◌, ◌<◌, Bool, List, [], ◌∷◌, ◌++◌, length, refl, sym, ap, ◌∙◌, subst, arith}
use Rattle.std.specs.Prelude.{ℤ}
use Rattle.language.specs.Core.{Cell, Part, inner, calls, Stmt, stmt, Action, declare, call_alone, assign, fill, insert, print, assert, when, choose, range, each, wait, Core}
use Rattle.language.specs.Members.{◌∈◌, first, later}
use Rattle.language.specs.Parts.{parts, part_cells, cells, stmt_node, stmt_action, script_stmts}
use Rattle.language.proofs.Members.{split_in, to_right}
use Rattle.language_accepted.specs.Statements.{IsDeclaration, StmtsApart}
use Rattle.task_code.specs.Code as code
use Rattle.task_code.specs.Code.{Act, Entry, Code, entry, body, nth, blank_entry}
use Rattle.code_rules.specs.IsCodeOf.{Layout, IsSimple, PartAs, plain_literal, plain_name, a_cell, a_read, a_call}
use Rattle.code_rules.specs.Laying.{Kinds, LaysScript}
use Rattle.code_rules.specs.NodesOnce.{TellsNode, NodesOnce}
use Rattle.code_rules.specs.Emitted.{ReadsStand}
use Rattle.code_rules.specs.Laid.{IsLaid}
use Rattle.code_laws.proofs.Counts.{total, total_member, hit, hit_same, hit_split, count}
use Rattle.code_laws.proofs.Layouts.{cell_count, layout_of, layout_suits}
use Rattle.code_laws.proofs.Few.{IsOwn, it_works, it_opens, OpensBlocks, Weights, stmt_weight, script_few}
use Rattle.code_laws.proofs.Nodes.{own_count, cells_count, NodesApart, cells_once}

-- what an entry tells of
abbrev told_by : ℕ → Act → List ℕ
told_by n (code.Cell e) = n ∷ []
told_by n code.Read = n ∷ []
told_by n (code.Call b rs os) = []
told_by n (code.Set r e) = n ∷ []
told_by n (code.Fill r es) = n ∷ []
told_by n (code.Copy r) = n ∷ []
told_by n (code.InsertElement r i e) = n ∷ []
told_by n (code.Print e) = n ∷ []
told_by n (code.Assert e) = n ∷ []
told_by n (code.If e b d) = []
told_by n (code.Range l h s w) = []
told_by n (code.Each w) = []
told_by n (code.Wait hs b) = []

abbrev told : ℕ → Entry → ℕ
told n e = count n (told_by e.node e.act)

told_most : (n m : ℕ) (a : Act) → count n (told_by m a) ≤ hit n m
told_most n m (code.Cell e) = omega arith
told_most n m code.Read = omega arith
told_most n m (code.Call b rs os) = omega arith
told_most n m (code.Set r e) = omega arith
told_most n m (code.Fill r es) = omega arith
told_most n m (code.Copy r) = omega arith
told_most n m (code.InsertElement r i e) = omega arith
told_most n m (code.Print e) = omega arith
told_most n m (code.Assert e) = omega arith
told_most n m (code.If e b d) = omega arith
told_most n m (code.Range l h s w) = omega arith
told_most n m (code.Each w) = omega arith
told_most n m (code.Wait hs b) = omega arith

opens_untold : (m : ℕ) (a : Act) → OpensBlocks a → told_by m a ≡ []
opens_untold m (code.If e b d) h = refl
opens_untold m (code.Range lo hi s w) h = refl
opens_untold m (code.Each w) h = refl
opens_untold m (code.Wait hs b) h = refl
opens_untold m (code.Cell e) h = absurd h
opens_untold m code.Read h = absurd h
opens_untold m (code.Call b rs os) h = refl
opens_untold m (code.Set r e) h = absurd h
opens_untold m (code.Fill r es) h = absurd h
opens_untold m (code.Copy r) h = absurd h
opens_untold m (code.InsertElement r i e) h = absurd h
opens_untold m (code.Print e) h = absurd h
opens_untold m (code.Assert e) h = absurd h

it_tells : (n m : ℕ) (a : Act) → TellsNode a → n ≡ m → 1 ≤ count n (told_by m a)
it_tells n m (code.Cell e) h q = let z = hit_same n m q in omega arith
it_tells n m code.Read h q = let z = hit_same n m q in omega arith
it_tells n m (code.Call b rs os) h q = absurd h
it_tells n m (code.Set r e) h q = let z = hit_same n m q in omega arith
it_tells n m (code.Fill r es) h q = let z = hit_same n m q in omega arith
it_tells n m (code.Copy r) h q = let z = hit_same n m q in omega arith
it_tells n m (code.InsertElement r i e) h q = let z = hit_same n m q in omega arith
it_tells n m (code.Print e) h q = let z = hit_same n m q in omega arith
it_tells n m (code.Assert e) h q = let z = hit_same n m q in omega arith
it_tells n m (code.If e b d) h q = absurd h
it_tells n m (code.Range l' h' s w) h q = absurd h
it_tells n m (code.Each w) h q = absurd h
it_tells n m (code.Wait hs b) h q = absurd h

-- NO MORE THAN CELLS AND SIMPLE STATEMENTS

abbrev part_told : ℕ → Part → ℕ
part_told n (inner c) = hit n c.node
part_told n (calls c) = 0

-- the node of a simple statement
abbrev simple_node : Stmt → List ℕ
simple_node (stmt at m (assign x o)) = m ∷ []
simple_node (stmt at m (fill x o)) = m ∷ []
simple_node (stmt at m (insert x i o)) = m ∷ []
simple_node (stmt at m (print p o)) = m ∷ []
simple_node (stmt at m (assert p o)) = m ∷ []
simple_node _ = []

abbrev simple_count : ℕ → Stmt → ℕ
simple_count n st = count n (simple_node st)

simple_hit : (n at m : ℕ) (a : Action) → IsSimple a → hit n m ≤ simple_count n (stmt at m a)
simple_hit n at m (assign x o) h = omega arith
simple_hit n at m (fill x o) h = omega arith
simple_hit n at m (insert x i o) h = omega arith
simple_hit n at m (print x o) h = omega arith
simple_hit n at m (assert x o) h = omega arith
simple_hit n at m (declare v) h = absurd h
simple_hit n at m (call_alone x y o) h = absurd h
simple_hit n at m (when o d) h = absurd h
simple_hit n at m (choose o d e) h = absurd h
simple_hit n at m (range o d e f g i) h = absurd h
simple_hit n at m (each o d e f) h = absurd h
simple_hit n at m (wait o d) h = absurd h

part_tells : (n : ℕ) (C : Code) (l : Layout) (k : ℕ) (all : List Part) (at : ℕ) (p : ℤ) (x : Part) (is : List ℕ) → PartAs C l k all at p x is → total (λ j. told n (entry C j)) is ≤ part_told n x
part_tells n C l k all at p x is (plain_literal z) = omega arith
part_tells n C l k all at p x is (plain_name z) = omega arith
part_tells n C l k all at p x is (a_cell {n = m} {j = j} z nd en) =
    let a = told_most n (entry C j).node (entry C j).act in
    let b : hit n (entry C j).node ≡ hit n m = ap (hit n) nd in
    omega arith
part_tells n C l k all at p x is (a_read {n = m} {j = j} z nd ix en) =
    let a = told_most n (entry C j).node (entry C j).act in
    let b : hit n (entry C j).node ≡ hit n m = ap (hit n) nd in
    omega arith
part_tells n C l k all at p x is (a_call {j = j} ca) = let a : told n (entry C j) ≡ 0 = ap (λ (y : Act). count n (told_by (entry C j).node y)) ca.is.act_is in omega arith

own_tells : (n : ℕ) (e : Entry) (at m : ℕ) (a : Action) → IsOwn e m a → told n e ≤ simple_count n (stmt at m a)
own_tells n e at m a (it_works l k s q nd) =
    let x = told_most n e.node e.act in
    let y = simple_hit n at m a s in
    let z : hit n e.node ≡ hit n m = ap (hit n) nd in
    omega arith
own_tells n e at m a (it_opens h) = let x : told n e ≡ 0 = ap (count n) (opens_untold e.node e.act h) in omega arith

abbrev told_weights : ℕ → Weights
told_weights n = record { of_entry = told n; of_part = part_told n; of_own = simple_count n; bared = λ e. refl; part_few = part_tells n; own_few = own_tells n }

parts_told : (n : ℕ) (ps : List Part) → total (part_told n) ps ≡ cell_count n (part_cells ps)
parts_told n [] = refl
parts_told n (inner c ∷ ps) = let a = parts_told n ps in omega arith
parts_told n (calls c ∷ ps) = let a = parts_told n ps in omega arith

weights_are : (n : ℕ) (sts : List Stmt) → total (stmt_weight (told_weights n)) sts ≡ total (cells_count n) sts + total (simple_count n) sts
weights_are n [] = refl
weights_are n (stmt at m a ∷ sts) = let x = weights_are n sts in let y = parts_told n (parts a) in omega arith

-- A NODE IS OF ONE CELL OR SIMPLE STATEMENT

total_some : {X : Type 0} (w : X → ℕ) (xs : List X) → 1 ≤ total w xs → (x : X) × (x ∈ xs) × (1 ≤ w x)
total_some w [] h = absurd (omega arith)
total_some w (x ∷ xs) h = by (w x) refl (λ k. total_some w xs k)
  where
    by : (m : ℕ) → w x ≡ m → (1 ≤ total w xs → (y : _) × (y ∈ xs) × (1 ≤ w y)) → (y : _) × (y ∈ (x ∷ xs)) × (1 ≤ w y)
    by zero e rec = (let r = rec (omega arith) in (r.0, later r.1, r.2))
    by (suc m) e rec = (x, first, omega arith)

-- a simple statement's node, and a cell of it
pub record Simple (n : ℕ) (st : Stmt) : Type 0 where
  pub node : stmt_node st ≡ n
  pub works : IsDeclaration (stmt_action st) → ⊥
  pub cell : Cell
  pub there : 1 ≤ own_count cell.node st

one_hit : (n m : ℕ) → 1 ≤ hit n m + 0 → m ≡ n
one_hit n m h = elim (hit_split n m) [ inl e ↦ sym e.0 | inr e ↦ absurd (omega arith) ]

-- a cell among parts counts
cell_counts : (ps : List Part) (c : Cell) → inner c ∈ ps → 1 ≤ cell_count c.node (part_cells ps)
cell_counts [] c m = elim m [ ]
cell_counts (inner d ∷ ps) c m = elim (split_in m) [
  | inl e ↦ (let z : c ≡ d = cc (e) in let y = hit_same c.node d.node (ap (λ (x : Cell). x.node) z) in omega arith)
  | inr k ↦ (let y = cell_counts ps c k in omega arith)
]
cell_counts (calls d ∷ ps) c m = elim (split_in m) [ inl e ↦ absurd (cc (e)) | inr k ↦ cell_counts ps c k ]

outer_counts : (a : Action) (at m : ℕ) (c : Cell) → inner c ∈ parts a → 1 ≤ own_count c.node (stmt at m a)
outer_counts a at m c i = let x = cell_counts (parts a) c i in omega arith

simple_is : (n : ℕ) (st : Stmt) → 1 ≤ simple_count n st → Simple n st
simple_is n (stmt at m (assign x o)) h = record { node = one_hit n m h; works = λ d. d; cell = o.cell; there = outer_counts (assign x o) at m o.cell (to_right o.parts (inner o.cell ∷ []) first) }
simple_is n (stmt at m (fill x o)) h = record { node = one_hit n m h; works = λ d. d; cell = o.cell; there = outer_counts (fill x o) at m o.cell (to_right o.parts (inner o.cell ∷ []) first) }
simple_is n (stmt at m (insert x i o)) h = record { node = one_hit n m h; works = λ d. d; cell = i.cell; there = outer_counts (insert x i o) at m i.cell (to_right i.parts (inner i.cell ∷ (o.parts ++ inner o.cell ∷ [])) first) }
simple_is n (stmt at m (print p o)) h = record { node = one_hit n m h; works = λ d. d; cell = o.cell; there = outer_counts (print p o) at m o.cell (to_right o.parts (inner o.cell ∷ []) first) }
simple_is n (stmt at m (assert p o)) h = record { node = one_hit n m h; works = λ d. d; cell = o.cell; there = outer_counts (assert p o) at m o.cell (to_right o.parts (inner o.cell ∷ []) first) }
simple_is n (stmt at m (declare v)) h = absurd (omega arith)
simple_is n (stmt at m (call_alone x y o)) h = absurd (omega arith)
simple_is n (stmt at m (when o d)) h = absurd (omega arith)
simple_is n (stmt at m (choose o d e)) h = absurd (omega arith)
simple_is n (stmt at m (range o d e f g i)) h = absurd (omega arith)
simple_is n (stmt at m (each o d e f)) h = absurd (omega arith)
simple_is n (stmt at m (wait o d)) h = absurd (omega arith)

hit_one : (n m : ℕ) → hit n m + 0 ≤ 1
hit_one n m = elim (hit_split n m) [ inl e ↦ (let z = e.1 in omega arith) | inr e ↦ omega arith ]

simple_one : (n : ℕ) (st : Stmt) → simple_count n st ≤ 1
simple_one n (stmt at m (assign x o)) = hit_one n m
simple_one n (stmt at m (fill x o)) = hit_one n m
simple_one n (stmt at m (insert x i o)) = hit_one n m
simple_one n (stmt at m (print p o)) = hit_one n m
simple_one n (stmt at m (assert p o)) = hit_one n m
simple_one n (stmt at m (declare v)) = omega arith
simple_one n (stmt at m (call_alone x y o)) = omega arith
simple_one n (stmt at m (when o d)) = omega arith
simple_one n (stmt at m (choose o d e)) = omega arith
simple_one n (stmt at m (range o d e f g i)) = omega arith
simple_one n (stmt at m (each o d e f)) = omega arith
simple_one n (stmt at m (wait o d)) = omega arith

-- two simple statements with one node are one, and stand in one place, since their cells stand once
simple_few : (n : ℕ) (sts : List Stmt) → ((st x : Stmt) → st ∈ sts → x ∈ sts → stmt_node st ≡ stmt_node x → (IsDeclaration (stmt_action st) ⊎ IsDeclaration (stmt_action x)) ⊎ (st ≡ x)) → ((m : ℕ) → total (own_count m) sts ≤ 1) → total (simple_count n) sts ≤ 1
simple_few n [] once few = omega arith
simple_few n (st ∷ sts) once few = by (simple_count n st) refl (simple_one n st) (simple_few n sts (λ a b i j. once a b (later i) (later j)) (λ m. (let z = few m in omega arith)))
  where
    clash : 1 ≤ simple_count n st → 1 ≤ total (simple_count n) sts → ⊥
    clash h g =
        let r = total_some (simple_count n) sts g in
        let a = simple_is n st h in
        let b = simple_is n r.0 r.2 in
        elim (once st r.0 first (later r.1) (a.node ∙ sym b.node)) [
          | inl d ↦ elim d [ inl x ↦ a.works x | inr x ↦ b.works x ]
          | inr e ↦ (let z = few a.cell.node in
              let y = total_member (own_count a.cell.node) (subst (λ (x : Stmt). x ∈ sts) (sym e) r.1) in
              let t = a.there in
              absurd (omega arith))
        ]

    none_or : (m : ℕ) → (m ≡ 0) ⊎ (1 ≤ m)
    none_or zero = inl refl
    none_or (suc m) = inr (omega arith)

    by : (m : ℕ) → simple_count n st ≡ m → simple_count n st ≤ 1 → total (simple_count n) sts ≤ 1 → simple_count n st + total (simple_count n) sts ≤ 1
    by zero e o r = omega arith
    by (suc m) e o r = elim (none_or (total (simple_count n) sts)) [ inl z ↦ omega arith | inr z ↦ absurd (clash (omega arith) z) ]

cells_some : (n : ℕ) (cs : List Cell) → 1 ≤ cell_count n cs → (c : Cell) × (c ∈ cs) × (c.node ≡ n)
cells_some n [] h = absurd (omega arith)
cells_some n (c ∷ cs) h = elim (hit_split n c.node) [ inl e ↦ (c, first, sym e.0) | inr e ↦ (let r = cells_some n cs (omega arith) in (r.0, later r.1, r.2)) ]

told_few : (s : Core) → NodesApart s → StmtsApart s → (n : ℕ) → total (cells_count n) (script_stmts s) + total (simple_count n) (script_stmts s) ≤ 1
told_few s apart heads n = by (none_or (total (cells_count n) (script_stmts s))) (none_or (total (simple_count n) (script_stmts s)))
  where
    none_or : (m : ℕ) → (m ≡ 0) ⊎ (1 ≤ m)
    none_or zero = inl refl
    none_or (suc m) = inr (omega arith)

    cells_few : (sts : List Stmt) → total (cells_count n) sts ≤ total (own_count n) sts
    cells_few [] = omega arith
    cells_few (stmt at m a ∷ sts) = let x = cells_few sts in omega arith

    cell_of : (st : Stmt) → 1 ≤ cells_count n st → (c : Cell) × (c ∈ cells st) × (c.node ≡ n)
    cell_of (stmt at m a) h = cells_some n (part_cells (parts a)) h

    by : (total (cells_count n) (script_stmts s) ≡ 0) ⊎ (1 ≤ total (cells_count n) (script_stmts s)) → (total (simple_count n) (script_stmts s) ≡ 0) ⊎ (1 ≤ total (simple_count n) (script_stmts s))
        → total (cells_count n) (script_stmts s) + total (simple_count n) (script_stmts s) ≤ 1
    by (inl a) b = let x = simple_few n (script_stmts s) heads.once apart in omega arith
    by (inr a) (inl b) = let x = cells_few (script_stmts s) in let y = apart n in omega arith
    by (inr a) (inr b) =
        let p = total_some (cells_count n) (script_stmts s) a in
        let c = cell_of p.0 p.2 in
        let q = total_some (simple_count n) (script_stmts s) b in
        let r = simple_is n q.0 q.2 in
        absurd (heads.no_cell p.0 q.0 c.0 p.1 q.1 c.1 (r.node ∙ sym c.2))

-- ENTRIES

at_place : (w : Entry → ℕ) (es : List Entry) (t : ℕ) → t < length es → w (nth blank_entry es t) ≤ total w es
at_place w [] t l = absurd (omega arith)
at_place w (e ∷ es) zero l = omega arith
at_place w (e ∷ es) (suc t) l = let a = at_place w es t (omega arith) in omega arith

one_place : (w : Entry → ℕ) (es : List Entry) (t u : ℕ) → t < length es → u < length es → total w es ≤ 1 → 1 ≤ w (nth blank_entry es t) → 1 ≤ w (nth blank_entry es u) → t ≡ u
one_place w [] t u l m h a b = absurd (omega arith)
one_place w (e ∷ es) zero zero l m h a b = refl
one_place w (e ∷ es) zero (suc u) l m h a b = let z = at_place w es u (omega arith) in absurd (omega arith)
one_place w (e ∷ es) (suc t) zero l m h a b = let z = at_place w es t (omega arith) in absurd (omega arith)
one_place w (e ∷ es) (suc t) (suc u) l m h a b = ap suc (one_place w es t u (omega arith) (omega arith) (omega arith) a b)

pub laid_nodes : (s : Core) (fs : List Kinds) (ds : List (ℕ × Bool)) (C : Code) (l : Layout) → NodesApart s → StmtsApart s → ReadsStand s → LaysScript s fs ds C → IsLaid s fs ds C l → NodesOnce C
laid_nodes s fs ds C l apart heads reads L h t u i j a b f g e =
    let n = (entry C i).node in
    let x = script_few (told_weights n) s (layout_of s ds) (layout_suits s ds (cells_once s apart)) reads L in
    let y = weights_are n (script_stmts s) in
    let z = told_few s apart heads n in
    one_place (told n) C.entries i j (h.there t i a) (h.there u j b) (omega arith) (it_tells n (entry C i).node (entry C i).act f refl) (it_tells n (entry C j).node (entry C j).act g e)
