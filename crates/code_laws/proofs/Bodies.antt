-- Laid code has few bodies: no statement opens more than two.
use Rattle.std.proofs.Common.{ℕ, suc, ◌+◌, ◌*◌, ◌≤◌, Bool, List, [], ◌∷◌, ◌++◌, length, ap, arith}
use Rattle.language.specs.Core.{Stmt, stmt, Block, Function, Core}
use Rattle.language.specs.Parts.{blocks_below, blocks_of, function_blocks, stmts_among, script_stmts}
use Rattle.task_code.specs.Code.{Variable, Body, Code, ByStep, ByWait, loop_variables}
use Rattle.code_rules.specs.Emitted.{stmts_size, size_of}
use Rattle.code_rules.specs.Laying.{Kinds, Laying, LaysStmt, declares, calls_alone, simple, branch, branches, range_loop, array_loop, waits, LaysBlock, no_statement, one_statement, LaysFunctions, no_function, one_function, LaysScript}
use Rattle.code_laws.proofs.Counts.{total}
use Rattle.code_laws.proofs.Adding.{within, inside, within-of, within-stmts, total-among, header_few}
use Rattle.code_laws.proofs.Rows.{Row, row, length-map, stmt_rows, block_rows, inner_rows, first_rows, later_rows, all_rows, all_bodies, first_count}
use Rattle.std.proofs.lemmas.List.{length-append}

-- each statement may open two
abbrev two : Stmt → ℕ
two st = 2

module _ (fs : List Kinds) (roots : ℕ) (k : ℕ) where
  mutual
    stmt_opens : {st : Stmt} {ds : List (ℕ × Bool)} {s t : Laying} {es : List ℕ} {vs : List Variable} (x : LaysStmt fs roots k st ds s t es vs) → length (stmt_rows fs roots k x) ≤ 2 + inside two st
    stmt_opens (declares b) = omega arith
    stmt_opens (calls_alone lp) = omega arith
    stmt_opens (simple e sim lp ow nd ue ee) = omega arith
    stmt_opens (branch {b = b} e {u = u} {js = js} {vs = vs} lp bl ow mk we ee) = let r = block_opens bl in let q = within-of two b in let z = length-append (block_rows fs roots k bl) (row k b [] (ByStep (length u.entries)) vs js ∷ []) in omega arith
    stmt_opens (branches {b = b} {d = d} e {v = v} {js = js} {ks = ks} {vs = vs} {ws = ws} lp bl dl de ow mk we ee) =
        let r = block_opens bl in
        let r' = block_opens dl in
        let q = within-of two b in
        let q' = within-of two d in
        let y = total-among two (b ∷ blocks_below b) (d ∷ blocks_below d) in
        let x = length-append (block_rows fs roots k bl) (block_rows fs roots k dl) in
        let z = length-append (block_rows fs roots k bl ++ block_rows fs roots k dl) (row k b [] (ByStep (length v.entries)) vs js ∷ row k d [] (ByStep (length v.entries)) ws ks ∷ []) in
        omega arith
    stmt_opens (range_loop {x = x} {y = y} {b = b} e {u = u} {js = js} {vs = vs} lp bl ow mk we ee) = let r = block_opens bl in let q = within-of two b in let z = length-append (block_rows fs roots k bl) (row k b (loop_variables (record { body = 0; value = x; turn = y })) (ByStep (length u.entries)) vs js ∷ []) in omega arith
    stmt_opens (array_loop {x = x} {y = y} {b = b} e {u = u} {js = js} {vs = vs} bl ow mk we ee) = let r = block_opens bl in let q = within-of two b in let z = length-append (block_rows fs roots k bl) (row k b (loop_variables (record { body = 0; value = x; turn = y })) (ByStep (length u.entries)) vs js ∷ []) in omega arith
    stmt_opens (waits {b = b} e {u = u} {js = js} {vs = vs} hd bl en we ee) = let r = block_opens bl in let q = header_few two hd in let z = length-append (block_rows fs roots k bl) (row k b [] (ByWait (length u.entries)) vs js ∷ []) in omega arith

    block_opens : {b : Block} {ds : List (ℕ × Bool)} {s t : Laying} {es : List ℕ} {vs : List Variable} (x : LaysBlock fs roots k b ds s t es vs) → length (block_rows fs roots k x) ≤ within two b
    block_opens no_statement = omega arith
    block_opens (one_statement {st = st} {b = b} x xs de ee me) =
        let a = stmt_opens x in
        let r = block_opens xs in
        let q = within-stmts two st b in
        let z = length-append (stmt_rows fs roots k x) (block_rows fs roots k xs) in
        omega arith

module _ (fs : List Kinds) (roots : ℕ) where
  functions_open : {gs : List Function} {ds : List (ℕ × Bool)} {s t : Laying} {bs : List Body} (x : LaysFunctions fs roots gs ds s t bs) → length (inner_rows fs roots x) ≤ total two (stmts_among (function_blocks gs))
  functions_open no_function = omega arith
  functions_open (one_function {f = f} {gs = gs} x xs de be) =
      let a = block_opens fs roots f.inputs x in
      let r = functions_open xs in
      let q = within-of two f.body in
      let y = total-among two (blocks_of f.body) (function_blocks gs) in
      let z = length-append (block_rows fs roots f.inputs x) (inner_rows fs roots xs) in
      omega arith

sizes_two : (sts : List Stmt) → total two sts ≤ 2 * stmts_size sts
sizes_two [] = omega arith
sizes_two (stmt at n a ∷ sts) = let y = sizes_two sts in omega arith

pub few_bodies : (c : Core) (fs : List Kinds) (ds : List (ℕ × Bool)) (C : Code) → LaysScript c fs ds C → length C.bodies ≤ 2 * size_of c + 1
few_bodies c fs ds C L =
    let roots = suc (length c.functions) in
    let a = block_opens fs roots 0 L.script in
    let b = functions_open fs roots L.functions in
    let q = within-of two c.body in
    let y = total-among two (blocks_of c.body) (function_blocks c.functions) in
    let z = length-append (block_rows fs roots 0 L.script) (inner_rows fs roots L.functions) in
    let w = length-append (first_rows L) (later_rows L) in
    let f = first_count L in
    let m = length-map (λ (r : Row). r.body) (all_rows L) in
    let n = ap (λ (B : List Body). length B) (all_bodies L) in
    let x = sizes_two (script_stmts c) in
    omega arith
