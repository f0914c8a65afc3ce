-- Each statement of laid code has its entries in the table, and each body those of its block.
use Rattle.std.proofs.Common.{◌≡◌, inl, inr, ℕ, suc, ◌+◌, Bool, List, [], ◌∷◌, ◌++◌, length, refl, sym, ap, ap₂, ◌∙◌, subst, arith, append_assoc}
use Rattle.language.specs.Core.{Stmt, stmt, Action, call_alone, when, choose, range, each, Block, no_stmts, stmts, Core}
use Rattle.language.specs.Members.{◌∈◌, first, later}
use Rattle.language.specs.Parts.{block_list, script_blocks, script_stmts}
use Rattle.language.proofs.Blocks.{inner_block, among_script}
use Rattle.language.proofs.Members.{either, split_in}
use Rattle.language_laws.specs.Scoped.{InScope, inside, in_wait}
use Rattle.task_code.specs.Code.{Variable, Header, Entry, Opener, Body, Code, ByStep, ByWait, entry, blank_entry, nth, loop_variables}
use Rattle.code_rules.specs.IsCodeOf.{Layout}
use Rattle.code_rules.specs.Emitted.{ReadsStand}
use Rattle.code_rules.specs.Laid.{Table, Stands, StmtLaid, declares_laid, call_laid, simple_laid, branch_laid, branches_laid, range_laid, each_laid, wait_laid, StmtsLaid, none_laid, one_laid}
use Rattle.code_rules.specs.Laying.{Kinds, Laying, bare, Suits, next_body, Headers, one_header, more_headers, LaysStmt, declares, calls_alone, simple, branch, branches, range_loop, array_loop, waits, LaysBlock, no_statement, one_statement}
use Rattle.code_laws.proofs.Adding.{nth_right, header_block}
use Rattle.code_laws.proofs.Rows.{Row, row, bodies_in, length-map, stmt_rows, block_rows, stmt_bodies, block_bodies}
use Rattle.code_laws.proofs.Moves.{entry_moves, Has, has_less, parts_at}
use Rattle.code_laws.proofs.Tables.{block_grows, Sits, sits_left, sits_right, sits_first, table_of, row_stands}
use Rattle.std.proofs.lemmas.List.{length-append}

-- where merged waits stand, the content of the innermost one stands
header_scope : (c : Core) {k q : ℕ} {st : Stmt} {hs : List Header} {b : Block} → Headers q st hs b → (B : Block) → InScope c k B → st ∈ block_list B → InScope c k b
header_scope c (one_header lone e) B sc i = in_wait sc i
header_scope c (more_headers {st = st} h e) B sc i = header_scope c h (stmts st no_stmts) (in_wait sc i) first

module _ (c : Core) (C : Code) (l : Layout) (whole : List Row) (suits : (at n : ℕ) (a : Action) → stmt at n a ∈ script_stmts c → Suits l a) (stands : ReadsStand c) (same : C.bodies ≡ bodies_in whole) where
  abbrev pub T : Table
  T = table_of whole

  -- a row stands for its block
  pub record Good (r : Row) : Type 0 where
    pub own : List Variable
    pub stmts : StmtsLaid C l T r.inputs (block_list r.block) r.body.entries own
    pub makes : r.body.makes ≡ r.variables ++ own
    pub there : r.block ∈ script_blocks c
    pub scope : InScope c r.inputs r.block

  abbrev pub AllGood : List Row → Type 0
  AllGood rs = (r : Row) → r ∈ rs → Good r

  pub all_both : (rs qs : List Row) → AllGood rs → AllGood qs → AllGood (rs ++ qs)
  all_both rs qs h g r m = elim (either rs qs m) [ inl i ↦ h r i | inr i ↦ g r i ]

  pub all_one : (q : Row) → Good q → AllGood (q ∷ [])
  all_one q g r m = elim (split_in m) [ inl e ↦ subst Good (sym e) g | inr i ↦ elim i [ ] ]

  -- the last entry that was laid
  last_entry : (s t : Laying) (e : Entry) → t.entries ≡ s.entries ++ e ∷ [] → Has C t → bare (entry C (length s.entries)) ≡ e
  last_entry s t e q h =
      let a = length-append s.entries (e ∷ []) in
      let b = ap (λ (E : List Entry). length E) q in
      let z : length s.entries ≡ length s.entries + 0 = omega arith in
      h (length s.entries) (omega arith) ∙ ap₂ (λ (E : List Entry) (i : ℕ). nth blank_entry E i) q z ∙ nth_right blank_entry s.entries (e ∷ []) 0

  module _ (fs : List Kinds) (roots : ℕ) (k : ℕ) where
    -- the body that a statement opens, behind those that its block adds
    opened : (t u : Laying) (o : Opener) (b : Block) (us vs : List Variable) (js : List ℕ) (rs qs : List Row) → u.bodies ≡ t.bodies ++ bodies_in rs → Sits whole (roots + length t.bodies) (rs ++ row k b us o vs js ∷ qs)
        → Stands C l T k b us o (next_body roots u)
    opened t u o b us vs js rs qs e h =
        let x = length-append t.bodies (bodies_in rs) in
        let y = length-map (λ (r : Row). r.body) rs in
        let z = ap (λ (B : List Body). length B) e in
        let s = sits_first (sits_right (roots + length t.bodies) (next_body roots u) rs (row k b us o vs js ∷ qs) h (omega arith)) in
        row_stands l whole (next_body roots u) k b us o vs js same s.0 s.1

    second : (t v : Laying) (r : Row) (o : Opener) (b : Block) (us vs : List Variable) (js : List ℕ) (rs : List Row) → v.bodies ≡ t.bodies ++ bodies_in rs → Sits whole (roots + length t.bodies) (rs ++ r ∷ row k b us o vs js ∷ [])
        → Stands C l T k b us o (suc (next_body roots v))
    second t v r o b us vs js rs e h =
        let x = length-append t.bodies (bodies_in rs) in
        let y = length-map (λ (r : Row). r.body) rs in
        let z = ap (λ (B : List Body). length B) e in
        let g = sits_right (roots + length t.bodies) (next_body roots v) rs (r ∷ row k b us o vs js ∷ []) h (omega arith) in
        let s = sits_first (sits_right (next_body roots v) (suc (next_body roots v)) (r ∷ []) (row k b us o vs js ∷ []) g (omega arith)) in
        row_stands l whole (suc (next_body roots v)) k b us o vs js same s.0 s.1

    at_same : (s t : Laying) (rs : List Row) → t.bodies ≡ s.bodies → Sits whole (roots + length s.bodies) rs → Sits whole (roots + length t.bodies) rs
    at_same s t rs e h = subst (λ (B : List Body). Sits whole (roots + length B) rs) (sym e) h

    both_bodies : (t u v : Laying) (rs qs : List Row) → u.bodies ≡ t.bodies ++ bodies_in rs → v.bodies ≡ u.bodies ++ bodies_in qs → v.bodies ≡ t.bodies ++ bodies_in (rs ++ qs)
    both_bodies t u v rs qs e f = f ∙ (ap (λ (B : List Body). B ++ bodies_in qs) e ∙ (append_assoc t.bodies (bodies_in rs) (bodies_in qs) ∙ ap (λ (B : List Body). t.bodies ++ B) (bodies-append rs qs)))
      where
        bodies-append : (rs qs : List Row) → bodies_in rs ++ bodies_in qs ≡ bodies_in (rs ++ qs)
        bodies-append [] qs = refl
        bodies-append (r ∷ rs) qs = ap (λ (B : List Body). r.body ∷ B) (bodies-append rs qs)

    -- a statement's entries
    stmt_laid : {st : Stmt} {ds : List (ℕ × Bool)} {s t : Laying} {es : List ℕ} {vs : List Variable} (x : LaysStmt fs roots k st ds s t es vs) → Has C t → Sits whole (roots + length s.bodies) (stmt_rows fs roots k x)
        → (B : Block) → B ∈ script_blocks c → st ∈ block_list B → StmtLaid C l T k st es vs
    stmt_laid (declares b) h at B m i = declares_laid b
    stmt_laid (calls_alone {at = o} {n = n} {p = p} {ps = ps} {c = d} lp) h at B m i =
        let su = suits o n (call_alone p ps d) (among_script c m i) in
        call_laid (parts_at lp h su.parts_plain su.bodies (stands o n (call_alone p ps d) (among_script c m i)))
    stmt_laid (simple {at = o} {n = n} {a = a} e {s = s} {t = t} {u = u} sim lp ow nd ue ee) h at B m i =
        let su = suits o n a (among_script c m i) in
        let q : u.entries ≡ t.entries ++ e ∷ [] = ap (λ (z : Laying). z.entries) ue in
        let le = last_entry t u e q h in
        simple_laid (length t.entries) sim (parts_at lp (has_less C t u (e ∷ []) q h) su.parts_plain su.bodies (stands o n a (among_script c m i)))
        (entry_moves le (ow l su)) (ap (λ (z : Entry). z.node) le ∙ nd.0) ee
    stmt_laid (branch {at = o} {n = n} {c = co} {b = b} e {s = s} {t = t} {u = u} {w = w} {js = js} {vs = vs} lp bl ow mk we ee) h at B m i =
        let su = suits o n (when co b) (among_script c m i) in
        let q : w.entries ≡ u.entries ++ e ∷ [] = ap (λ (z : Laying). z.entries) we in
        let le = last_entry u w e q h in
        let hu = has_less C u w (e ∷ []) q h in
        let g = block_grows fs roots k bl in
        branch_laid (length u.entries) (parts_at lp (has_less C t u g.0 g.1 hu) su.parts_plain su.bodies (stands o n (when co b) (among_script c m i)))
        (entry_moves le (ow l su)) (ap (λ (z : Entry). z.offset) le ∙ mk)
        (opened t u (ByStep (length u.entries)) b [] vs js (block_rows fs roots k bl) [] (block_bodies fs roots k bl) (at_same s t _ lp.bodies at)) ee
    stmt_laid (branches {at = o} {n = n} {c = co} {b = b} {d = d} e {s = s} {t = t} {u = u} {v = v} {w = w} {js = js} {ks = ks} {vs = vs} {ws = ws} lp bl dl de ow mk we ee) h at B m i =
        let su = suits o n (choose co b d) (among_script c m i) in
        let q : w.entries ≡ v.entries ++ e ∷ [] = ap (λ (z : Laying). z.entries) we in
        let le = last_entry v w e q h in
        let hv = has_less C v w (e ∷ []) q h in
        let g = block_grows fs roots k bl in
        let g' = block_grows fs roots k dl in
        let hu = has_less C u v g'.0 g'.1 hv in
        let bb = both_bodies t u v (block_rows fs roots k bl) (block_rows fs roots k dl) (block_bodies fs roots k bl) (block_bodies fs roots k dl) in
        let st = at_same s t _ lp.bodies at in
        branches_laid (length v.entries) (parts_at lp (has_less C t u g.0 g.1 hu) su.parts_plain su.bodies (stands o n (choose co b d) (among_script c m i)))
        (entry_moves le (ow l su)) (ap (λ (z : Entry). z.offset) le ∙ mk)
        (opened t v (ByStep (length v.entries)) b [] vs js (block_rows fs roots k bl ++ block_rows fs roots k dl) (row k d [] (ByStep (length v.entries)) ws ks ∷ []) bb st)
        (second t v (row k b [] (ByStep (length v.entries)) vs js) (ByStep (length v.entries)) d [] ws ks (block_rows fs roots k bl ++ block_rows fs roots k dl) bb st) ee
    stmt_laid (range_loop {at = o} {n = n} {x = x} {lo = lo} {hi = hi} {st = so} {y = y} {b = b} e {s = s} {t = t} {u = u} {w = w} {js = js} {vs = vs} lp bl ow mk we ee) h at B m i =
        let su = suits o n (range lo hi so x y b) (among_script c m i) in
        let q : w.entries ≡ u.entries ++ e ∷ [] = ap (λ (z : Laying). z.entries) we in
        let le = last_entry u w e q h in
        let hu = has_less C u w (e ∷ []) q h in
        let g = block_grows fs roots k bl in
        range_laid (length u.entries) (parts_at lp (has_less C t u g.0 g.1 hu) su.parts_plain su.bodies (stands o n (range lo hi so x y b) (among_script c m i)))
        (entry_moves le (ow l su)) (ap (λ (z : Entry). z.offset) le ∙ mk)
        (opened t u (ByStep (length u.entries)) b (loop_variables (record { body = 0; value = x; turn = y })) vs js (block_rows fs roots k bl) [] (block_bodies fs roots k bl) (at_same s t _ lp.bodies at)) ee
    stmt_laid (array_loop {at = o} {n = n} {x = x} {a = a} {y = y} {b = b} e {s = s} {u = u} {w = w} {js = js} {vs = vs} bl ow mk we ee) h at B m i =
        let su = suits o n (each a x y b) (among_script c m i) in
        let q : w.entries ≡ u.entries ++ e ∷ [] = ap (λ (z : Laying). z.entries) we in
        let le = last_entry u w e q h in
        each_laid (length u.entries) (entry_moves le (ow l su)) (ap (λ (z : Entry). z.offset) le ∙ mk)
        (opened s u (ByStep (length u.entries)) b (loop_variables (record { body = 0; value = x; turn = y })) vs js (block_rows fs roots k bl) [] (block_bodies fs roots k bl) at) ee
    stmt_laid (waits {b = b} e {s = s} {u = u} {w = w} {js = js} {vs = vs} hd bl en we ee) h at B m i =
        let q : w.entries ≡ u.entries ++ e ∷ [] = ap (λ (z : Laying). z.entries) we in
        let le = last_entry u w e q h in
        wait_laid (length u.entries) hd (entry_moves le en.0) (opened s u (ByWait (length u.entries)) b [] vs js (block_rows fs roots k bl) [] (block_bodies fs roots k bl) at) ee

    -- where rows behind those of a block sit
    pub sits_block : (t u : Laying) (rs qs : List Row) → u.bodies ≡ t.bodies ++ bodies_in rs → Sits whole (roots + length t.bodies) (rs ++ qs) → Sits whole (roots + length u.bodies) qs
    sits_block t u rs qs e h =
        let b = length-append t.bodies (bodies_in rs) in
        let d = length-map (λ (r : Row). r.body) rs in
        let z = ap (λ (B : List Body). length B) e in
        sits_right (roots + length t.bodies) (roots + length u.bodies) rs qs h (omega arith)

    -- where the statements behind one sit
    sits_tail : {st : Stmt} {ds : List (ℕ × Bool)} {s t : Laying} {es : List ℕ} {vs : List Variable} (x : LaysStmt fs roots k st ds s t es vs) (rs : List Row) → Sits whole (roots + length s.bodies) (stmt_rows fs roots k x ++ rs) → Sits whole (roots + length t.bodies) rs
    sits_tail {s = s} {t = t} x rs h = sits_block s t (stmt_rows fs roots k x) rs (stmt_bodies fs roots k x) h

    block_laid : {b : Block} {ds : List (ℕ × Bool)} {s t : Laying} {es : List ℕ} {vs : List Variable} (x : LaysBlock fs roots k b ds s t es vs) → Has C t → Sits whole (roots + length s.bodies) (block_rows fs roots k x)
        → (B : Block) → B ∈ script_blocks c → ((y : Stmt) → y ∈ block_list b → y ∈ block_list B) → StmtsLaid C l T k (block_list b) es vs
    block_laid no_statement h at B m i = none_laid
    block_laid (one_statement {st = st} {t = t} {u = u} x xs de ee me) h at B m i =
        let g = block_grows fs roots k xs in
        one_laid (stmt_laid x (has_less C t u g.0 g.1 h) (sits_left (stmt_rows fs roots k x) (block_rows fs roots k xs) at) B m (i st first))
        (block_laid xs h (sits_tail x (block_rows fs roots k xs) at) B m (λ y j. i y (later j))) ee me

    -- the row of a block
    pub one_good : {b : Block} {ds : List (ℕ × Bool)} {s t : Laying} {es : List ℕ} {vs : List Variable} (x : LaysBlock fs roots k b ds s t es vs) (us : List Variable) (o : Opener) → Has C t → Sits whole (roots + length s.bodies) (block_rows fs roots k x)
        → b ∈ script_blocks c → InScope c k b → Good (row k b us o vs es)
    one_good {b = b} {vs = vs} x us o h at m sc = record { own = vs; stmts = block_laid x h at b m (λ y j. j); makes = refl; there = m; scope = sc }

    mutual
      pub stmt_good : {st : Stmt} {ds : List (ℕ × Bool)} {s t : Laying} {es : List ℕ} {vs : List Variable} (x : LaysStmt fs roots k st ds s t es vs) → Has C t → Sits whole (roots + length s.bodies) (stmt_rows fs roots k x)
          → (B : Block) → B ∈ script_blocks c → InScope c k B → st ∈ block_list B → AllGood (stmt_rows fs roots k x)
      stmt_good (declares b) h at B m sc i = λ r j. elim j [ ]
      stmt_good (calls_alone lp) h at B m sc i = λ r j. elim j [ ]
      stmt_good (simple e sim lp ow nd ue ee) h at B m sc i = λ r j. elim j [ ]
      stmt_good (branch {b = b} e {s = s} {t = t} {u = u} {w = w} {js = js} {vs = vs} lp bl ow mk we ee) h at B m sc i =
          let hu = has_less C u w (e ∷ []) (ap (λ (z : Laying). z.entries) we) h in
          let a = sits_left (block_rows fs roots k bl) (row k b [] (ByStep (length u.entries)) vs js ∷ []) (at_same s t _ lp.bodies at) in
          let mb = inner_block c m i first in
          let sb = inside sc i first in
          all_both (block_rows fs roots k bl) (row k b [] (ByStep (length u.entries)) vs js ∷ []) (block_good bl hu a b mb sb (λ y j. j)) (all_one _ (one_good bl [] (ByStep (length u.entries)) hu a mb sb))
      stmt_good (branches {b = b} {d = d} e {s = s} {t = t} {u = u} {v = v} {w = w} {js = js} {ks = ks} {vs = vs} {ws = ws} lp bl dl de ow mk we ee) h at B m sc i =
          let hv = has_less C v w (e ∷ []) (ap (λ (z : Laying). z.entries) we) h in
          let g = block_grows fs roots k dl in
          let hu = has_less C u v g.0 g.1 hv in
          let two = row k b [] (ByStep (length v.entries)) vs js ∷ row k d [] (ByStep (length v.entries)) ws ks ∷ [] in
          let st = sits_left (block_rows fs roots k bl ++ block_rows fs roots k dl) two (at_same s t _ lp.bodies at) in
          let a = sits_left (block_rows fs roots k bl) (block_rows fs roots k dl) st in
          let a' = sits_block t u (block_rows fs roots k bl) (block_rows fs roots k dl) (block_bodies fs roots k bl) st in
          let mb = inner_block c m i first in
          let sb = inside sc i first in
          let md = inner_block c m i (later first) in
          let sd = inside sc i (later first) in
          all_both (block_rows fs roots k bl ++ block_rows fs roots k dl) two
          (all_both (block_rows fs roots k bl) (block_rows fs roots k dl) (block_good bl hu a b mb sb (λ y j. j)) (block_good dl hv a' d md sd (λ y j. j)))
          (all_both (row k b [] (ByStep (length v.entries)) vs js ∷ []) (row k d [] (ByStep (length v.entries)) ws ks ∷ []) (all_one _ (one_good bl [] (ByStep (length v.entries)) hu a mb sb)) (all_one _ (one_good dl [] (ByStep (length v.entries)) hv a' md sd)))
      stmt_good (range_loop {x = x} {y = y} {b = b} e {s = s} {t = t} {u = u} {w = w} {js = js} {vs = vs} lp bl ow mk we ee) h at B m sc i =
          let hu = has_less C u w (e ∷ []) (ap (λ (z : Laying). z.entries) we) h in
          let us = loop_variables (record { body = 0; value = x; turn = y }) in
          let a = sits_left (block_rows fs roots k bl) (row k b us (ByStep (length u.entries)) vs js ∷ []) (at_same s t _ lp.bodies at) in
          let mb = inner_block c m i first in
          let sb = inside sc i first in
          all_both (block_rows fs roots k bl) (row k b us (ByStep (length u.entries)) vs js ∷ []) (block_good bl hu a b mb sb (λ y j. j)) (all_one _ (one_good bl us (ByStep (length u.entries)) hu a mb sb))
      stmt_good (array_loop {x = x} {y = y} {b = b} e {s = s} {u = u} {w = w} {js = js} {vs = vs} bl ow mk we ee) h at B m sc i =
          let hu = has_less C u w (e ∷ []) (ap (λ (z : Laying). z.entries) we) h in
          let us = loop_variables (record { body = 0; value = x; turn = y }) in
          let a = sits_left (block_rows fs roots k bl) (row k b us (ByStep (length u.entries)) vs js ∷ []) at in
          let mb = inner_block c m i first in
          let sb = inside sc i first in
          all_both (block_rows fs roots k bl) (row k b us (ByStep (length u.entries)) vs js ∷ []) (block_good bl hu a b mb sb (λ y j. j)) (all_one _ (one_good bl us (ByStep (length u.entries)) hu a mb sb))
      stmt_good (waits {b = b} e {s = s} {u = u} {w = w} {js = js} {vs = vs} hd bl en we ee) h at B m sc i =
          let hu = has_less C u w (e ∷ []) (ap (λ (z : Laying). z.entries) we) h in
          let a = sits_left (block_rows fs roots k bl) (row k b [] (ByWait (length u.entries)) vs js ∷ []) at in
          let mb = header_block c hd B m i in
          let sb = header_scope c hd B sc i in
          all_both (block_rows fs roots k bl) (row k b [] (ByWait (length u.entries)) vs js ∷ []) (block_good bl hu a b mb sb (λ y j. j)) (all_one _ (one_good bl [] (ByWait (length u.entries)) hu a mb sb))

      pub block_good : {b : Block} {ds : List (ℕ × Bool)} {s t : Laying} {es : List ℕ} {vs : List Variable} (x : LaysBlock fs roots k b ds s t es vs) → Has C t → Sits whole (roots + length s.bodies) (block_rows fs roots k x)
          → (B : Block) → B ∈ script_blocks c → InScope c k B → ((y : Stmt) → y ∈ block_list b → y ∈ block_list B) → AllGood (block_rows fs roots k x)
      block_good no_statement h at B m sc i = λ r j. elim j [ ]
      block_good (one_statement {st = st} {t = t} {u = u} x xs de ee me) h at B m sc i =
          let g = block_grows fs roots k xs in
          all_both (stmt_rows fs roots k x) (block_rows fs roots k xs)
          (stmt_good x (has_less C t u g.0 g.1 h) (sits_left (stmt_rows fs roots k x) (block_rows fs roots k xs) at) B m sc (i st first))
          (block_good xs h (sits_tail x (block_rows fs roots k xs) at) B m sc (λ y j. i y (later j)))
