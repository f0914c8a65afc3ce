-- The variables that laid code declares are nodes of the script's statements: those that are declared, those of cells that are not plain, and loop variables and outputs of calls in expressions.
use Rattle.std.proofs.Common.{◌≡◌, ℕ, suc, ◌+◌, ◌≤◌, Bool, List, [], ◌∷◌, ◌++◌, length, ap, arith, Option, Some, None}
use Rattle.language.specs.Core.{Stmt, call_alone, when, choose, range, Block, Function, Core}
use Rattle.language.specs.Parts.{blocks_below, blocks_of, function_blocks, stmts_among, script_stmts}
use Rattle.language.proofs.Tested.{with_turn}
use Rattle.task_code.specs.Code.{Variable, Opener, Body, Code, ByStep, ByWait, loop_variables, turn_variables, scalar}
use Rattle.code_rules.specs.Laying.{Kinds, Laying, LaysStmt, declares, calls_alone, simple, branch, branches, range_loop, array_loop, waits, LaysBlock, no_statement, one_statement, LaysFunctions, no_function, one_function, LaysScript}
use Rattle.code_laws.proofs.Counts.{total, total-append, count}
use Rattle.code_laws.proofs.Adding.{within, inside, within-of, within-stmts, total-among, header_few}
use Rattle.code_laws.proofs.Layouts.{numbers, numbers-append}
use Rattle.code_laws.proofs.Nodes.{declared_count, own_count, nodes_of, nodes_of-append, data_few}
use Rattle.code_laws.proofs.Rows.{Row, row, stmt_rows, block_rows, inner_rows, function_rows, first_rows, later_rows, all_rows}

-- HOW OFTEN A NODE IS DECLARED

abbrev pub made_count : ℕ → List Row → ℕ
made_count n rs = total (λ (r : Row). count n (nodes_of r.body.makes)) rs

made-append : (n : ℕ) (rs qs : List Row) → made_count n (rs ++ qs) ≡ made_count n rs + made_count n qs
made-append n rs qs = total-append (λ (r : Row). count n (nodes_of r.body.makes)) rs qs

row_made : (n k : ℕ) (b : Block) (us : List Variable) (o : Opener) (vs : List Variable) (js : List ℕ) (m : ℕ) → count n (nodes_of us) ≤ m → made_count n (row k b us o vs js ∷ []) ≤ m + count n (nodes_of vs)
row_made n k b us o vs js m h = let a = nodes_of-append n us vs in omega arith

turns_few : (n x : ℕ) (y : Option ℕ) → count n (nodes_of (scalar x ∷ turn_variables y)) ≤ count n (with_turn x y)
turns_few n x None = omega arith
turns_few n x (Some y) = omega arith

module _ (n : ℕ) (fs : List Kinds) (roots : ℕ) (k : ℕ) where
  mutual
    pub stmt_made : {st : Stmt} {ds : List (ℕ × Bool)} {s t : Laying} {es : List ℕ} {vs : List Variable} (x : LaysStmt fs roots k st ds s t es vs)
        → count n (nodes_of vs) + made_count n (stmt_rows fs roots k x) ≤ own_count n st + inside (own_count n) st
    stmt_made (declares b) = omega arith
    stmt_made (calls_alone {p = p} {ps = ps} {c = c} lp) = let a = data_few n (call_alone p ps c) in omega arith
    stmt_made (simple {a = a} e sim lp ow nd ue ee) = let q = data_few n a in omega arith
    stmt_made (branch {c = c} {b = b} e {u = u} {js = js} {vs = vs} lp bl ow mk we ee) =
        let a = data_few n (when c b) in
        let r = block_made bl in
        let q = within-of (own_count n) b in
        let z = made-append n (block_rows fs roots k bl) (row k b [] (ByStep (length u.entries)) vs js ∷ []) in
        omega arith
    stmt_made (branches {c = c} {b = b} {d = d} e {v = v} {js = js} {ks = ks} {vs = vs} {ws = ws} lp bl dl de ow mk we ee) =
        let a = data_few n (choose c b d) in
        let r = block_made bl in
        let r' = block_made dl in
        let q = within-of (own_count n) b in
        let q' = within-of (own_count n) d in
        let y = total-among (own_count n) (b ∷ blocks_below b) (d ∷ blocks_below d) in
        let x = made-append n (block_rows fs roots k bl) (block_rows fs roots k dl) in
        let z = made-append n (block_rows fs roots k bl ++ block_rows fs roots k dl) (row k b [] (ByStep (length v.entries)) vs js ∷ row k d [] (ByStep (length v.entries)) ws ks ∷ []) in
        omega arith
    stmt_made (range_loop {x = x} {lo = lo} {hi = hi} {st = st} {y = y} {b = b} e {u = u} {js = js} {vs = vs} lp bl ow mk we ee) =
        let a = data_few n (range lo hi st x y b) in
        let r = block_made bl in
        let q = within-of (own_count n) b in
        let us = loop_variables (record { body = 0; value = x; turn = y }) in
        let z = made-append n (block_rows fs roots k bl) (row k b us (ByStep (length u.entries)) vs js ∷ []) in
        let y' = row_made n k b us (ByStep (length u.entries)) vs js (count n (with_turn x y)) (turns_few n x y) in
        omega arith
    stmt_made (array_loop {x = x} {a = ar} {y = y} {b = b} e {u = u} {js = js} {vs = vs} bl ow mk we ee) =
        let r = block_made bl in
        let q = within-of (own_count n) b in
        let us = loop_variables (record { body = 0; value = x; turn = y }) in
        let z = made-append n (block_rows fs roots k bl) (row k b us (ByStep (length u.entries)) vs js ∷ []) in
        let y' = row_made n k b us (ByStep (length u.entries)) vs js (count n (with_turn x y)) (turns_few n x y) in
        omega arith
    stmt_made (waits {b = b} e {u = u} {js = js} {vs = vs} hd bl en we ee) =
        let r = block_made bl in
        let q = header_few (own_count n) hd in
        let z = made-append n (block_rows fs roots k bl) (row k b [] (ByWait (length u.entries)) vs js ∷ []) in
        omega arith

    pub block_made : {b : Block} {ds : List (ℕ × Bool)} {s t : Laying} {es : List ℕ} {vs : List Variable} (x : LaysBlock fs roots k b ds s t es vs)
        → count n (nodes_of vs) + made_count n (block_rows fs roots k x) ≤ within (own_count n) b
    block_made no_statement = omega arith
    block_made (one_statement {st = st} {b = b} {vs = vs} {ws = ws} x xs de ee me) =
        let a = stmt_made x in
        let r = block_made xs in
        let q = within-stmts (own_count n) st b in
        let z = made-append n (stmt_rows fs roots k x) (block_rows fs roots k xs) in
        let y = nodes_of-append n vs ws in
        let v = ap (λ (m : List Variable). count n (nodes_of m)) me in
        omega arith

module _ (n : ℕ) (fs : List Kinds) (roots : ℕ) where
  functions_made : {gs : List Function} {ds : List (ℕ × Bool)} {s t : Laying} {bs : List Body} (x : LaysFunctions fs roots gs ds s t bs)
      → made_count n (function_rows fs roots x) + made_count n (inner_rows fs roots x) ≤ total (own_count n) (stmts_among (function_blocks gs))
  functions_made no_function = omega arith
  functions_made (one_function {f = f} {gs = gs} x xs de be) =
      let a = block_made n fs roots f.inputs x in
      let r = functions_made xs in
      let q = within-of (own_count n) f.body in
      let y = total-among (own_count n) (blocks_of f.body) (function_blocks gs) in
      let z = made-append n (block_rows fs roots f.inputs x) (inner_rows fs roots xs) in
      omega arith

module _ {c : Core} {fs : List Kinds} {ds : List (ℕ × Bool)} {C : Code} (L : LaysScript c fs ds C) where
  -- no node is declared more often than it is a node of the script's statements
  pub all_made : (n : ℕ) → made_count n (all_rows L) ≤ total (own_count n) (script_stmts c)
  all_made n =
      let roots = suc (length c.functions) in
      let a = block_made n fs roots 0 L.script in
      let b = functions_made n fs roots L.functions in
      let q = within-of (own_count n) c.body in
      let y = total-among (own_count n) (blocks_of c.body) (function_blocks c.functions) in
      let z = made-append n (first_rows L) (later_rows L) in
      let w = made-append n (block_rows fs roots 0 L.script) (inner_rows fs roots L.functions) in
      omega arith

-- HOW OFTEN A NODE IS AMONG THE DECLARED VARIABLES

module _ (n : ℕ) (fs : List Kinds) (roots : ℕ) (k : ℕ) where
  mutual
    stmt_listed : {st : Stmt} {ds : List (ℕ × Bool)} {s t : Laying} {es : List ℕ} {vs : List Variable} (x : LaysStmt fs roots k st ds s t es vs) → count n (numbers ds) ≤ declared_count n st + inside (declared_count n) st
    stmt_listed (declares b) = omega arith
    stmt_listed (calls_alone lp) = omega arith
    stmt_listed (simple e sim lp ow nd ue ee) = omega arith
    stmt_listed (branch {b = b} e lp bl ow mk we ee) = let r = block_listed bl in let q = within-of (declared_count n) b in omega arith
    stmt_listed (branches {b = b} {d = d} {bs = bs} {cs = cs} e lp bl dl de ow mk we ee) =
        let r = block_listed bl in
        let r' = block_listed dl in
        let q = within-of (declared_count n) b in
        let q' = within-of (declared_count n) d in
        let y = total-among (declared_count n) (b ∷ blocks_below b) (d ∷ blocks_below d) in
        let z = numbers-append n bs cs in
        let v = ap (λ (m : List (ℕ × Bool)). count n (numbers m)) de in
        omega arith
    stmt_listed (range_loop {b = b} e lp bl ow mk we ee) = let r = block_listed bl in let q = within-of (declared_count n) b in omega arith
    stmt_listed (array_loop {b = b} e bl ow mk we ee) = let r = block_listed bl in let q = within-of (declared_count n) b in omega arith
    stmt_listed (waits {b = b} e hd bl en we ee) = let r = block_listed bl in let q = header_few (declared_count n) hd in omega arith

    block_listed : {b : Block} {ds : List (ℕ × Bool)} {s t : Laying} {es : List ℕ} {vs : List Variable} (x : LaysBlock fs roots k b ds s t es vs) → count n (numbers ds) ≤ within (declared_count n) b
    block_listed no_statement = omega arith
    block_listed (one_statement {st = st} {b = b} {cs = cs} {ds = ds} x xs de ee me) =
        let a = stmt_listed x in
        let r = block_listed xs in
        let q = within-stmts (declared_count n) st b in
        let z = numbers-append n cs ds in
        let v = ap (λ (m : List (ℕ × Bool)). count n (numbers m)) de in
        omega arith

module _ (n : ℕ) (fs : List Kinds) (roots : ℕ) where
  functions_listed : {gs : List Function} {ds : List (ℕ × Bool)} {s t : Laying} {bs : List Body} (x : LaysFunctions fs roots gs ds s t bs) → count n (numbers ds) ≤ total (declared_count n) (stmts_among (function_blocks gs))
  functions_listed no_function = omega arith
  functions_listed (one_function {f = f} {gs = gs} {cs = cs} {ds = ds} x xs de be) =
      let a = block_listed n fs roots f.inputs x in
      let r = functions_listed xs in
      let q = within-of (declared_count n) f.body in
      let y = total-among (declared_count n) (blocks_of f.body) (function_blocks gs) in
      let z = numbers-append n cs ds in
      let v = ap (λ (m : List (ℕ × Bool)). count n (numbers m)) de in
      omega arith

module _ {c : Core} {fs : List Kinds} {ds : List (ℕ × Bool)} {C : Code} (L : LaysScript c fs ds C) where
  -- no variable is listed more often than it is declared
  pub all_listed : (n : ℕ) → count n (numbers ds) ≤ total (declared_count n) (script_stmts c)
  all_listed n =
      let roots = suc (length c.functions) in
      let a = block_listed n fs roots 0 L.script in
      let b = functions_listed n fs roots L.functions in
      let q = within-of (declared_count n) c.body in
      let y = total-among (declared_count n) (blocks_of c.body) (function_blocks c.functions) in
      let z = numbers-append n L.own_declared L.function_declared in
      let v = ap (λ (m : List (ℕ × Bool)). count n (numbers m)) L.declared in
      omega arith
