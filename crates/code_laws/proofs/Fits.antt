-- The calls of laid code hand over arrays for arrays and scalars for scalars.
use Rattle.std.proofs.Common.{◌≡◌, inl, inr, ℕ, suc, Bool, List, [], ◌∷◌, ◌++◌, length, sym, ap, ◌∙◌, subst}
use Rattle.std.specs.Prelude.{ℤ}
use Rattle.language.specs.Core.{Stmt, stmt, Action, call_alone, when, choose, range, each, Block, Function, Core}
use Rattle.language.specs.Members.{◌∈◌, first, later}
use Rattle.language.specs.Parts.{block_list, blocks_of, function_blocks, script_blocks, script_stmts, stmt_action}
use Rattle.language.proofs.Blocks.{inner_block, among_script}
use Rattle.language.proofs.Members.{either, split_in, to_right}
use Rattle.language_laws.specs.TypedValues.{own_parts}
use Rattle.task_code.specs.Code as code
use Rattle.task_code.specs.Code.{Act, Argument, Entry, Variable, Body, Code}
use Rattle.code_rules.specs.IsCodeOf.{Layout}
use Rattle.code_rules.specs.Laying.{Kinds, Laying, Suits, IsCallOf, LaysParts, LaysStmt, declares, calls_alone, simple, branch, branches, range_loop, array_loop, waits, LaysBlock, no_statement, one_statement, LaysFunctions, no_function, one_function, LaysScript}
use Rattle.code_laws.proofs.Counts.{member_in}
use Rattle.code_laws.proofs.Adding.{header_block}
use Rattle.code_laws.proofs.Few.{OpensBlocks}
use Rattle.code_laws.proofs.Marks.{call_mark, simple_unmarked}

abbrev NoCall : Act → Type 0
NoCall a = (f : ℕ) (ins : List Argument) (outs : List code.Name) → a ≡ code.Call f ins outs → ⊥

opens_no_call : (a : Act) → OpensBlocks a → NoCall a
opens_no_call (code.If e b d) h f ins outs q = cc (q)
opens_no_call (code.Range lo hi s w) h f ins outs q = cc (q)
opens_no_call (code.Each w) h f ins outs q = cc (q)
opens_no_call (code.Wait hs b) h f ins outs q = cc (q)
opens_no_call (code.Cell e) h f ins outs q = h
opens_no_call code.Read h f ins outs q = h
opens_no_call (code.Call b rs os) h f ins outs q = h
opens_no_call (code.Set r e) h f ins outs q = h
opens_no_call (code.Fill r es) h f ins outs q = h
opens_no_call (code.Copy r) h f ins outs q = h
opens_no_call (code.InsertElement r i e) h f ins outs q = h
opens_no_call (code.Print e) h f ins outs q = h
opens_no_call (code.Assert e) h f ins outs q = h

unmarked_no_call : (a : Act) → call_mark 0 a ≡ [] → NoCall a
unmarked_no_call a h f ins outs q = absurd (let z : 0 ∷ [] ≡ [] = ap (call_mark 0) (sym q) ∙ h in cc)

module _ (c : Core) (l : Layout) (suits : (at n : ℕ) (a : Action) → stmt at n a ∈ script_stmts c → Suits l a) (fs : List Kinds) where
  abbrev pub FitsIn : Entry → ℕ → List Argument → List code.Name → Type 0
  FitsIn e f ins outs = (st : Stmt) × (st ∈ script_stmts c) × IsCallOf fs (own_parts (stmt_action st)) e f ins outs

  abbrev pub AllFit : List Entry → Type 0
  AllFit es = (e : Entry) (f : ℕ) (ins : List Argument) (outs : List code.Name) → e ∈ es → e.act ≡ code.Call (suc f) ins outs → FitsIn e f ins outs

  parts_fit : (at n : ℕ) (a : Action) {k o : ℕ} {p : ℤ} {s t : Laying} {es : List ℕ} → stmt at n a ∈ script_stmts c → LaysParts fs k (own_parts a) o p s t es → AllFit s.entries → AllFit t.entries
  parts_fit at n a {s = s} i lp h = subst AllFit (sym lp.entries) (λ e f ins outs m q. elim (either s.entries lp.more m) [ inl j ↦ h e f ins outs j q | inr j ↦ (stmt at n a, i, lp.fit e f ins outs (member_in j) q) ])

  own_fit : (u w : Laying) (e : Entry) → w.entries ≡ u.entries ++ e ∷ [] → NoCall e.act → AllFit u.entries → AllFit w.entries
  own_fit u w e q nc h = subst AllFit (sym q) (λ d f ins outs m z. elim (either u.entries (e ∷ []) m) [ inl j ↦ h d f ins outs j z | inr j ↦ elim (split_in j) [ inl y ↦ absurd (nc (suc f) ins outs (ap (λ (x : Entry). x.act) (sym y) ∙ z)) | inr y ↦ elim y [ ] ] ])

  module _ (roots : ℕ) (k : ℕ) where
    mutual
      stmt_fit : {st : Stmt} {ds : List (ℕ × Bool)} {s t : Laying} {es : List ℕ} {vs : List Variable} → LaysStmt fs roots k st ds s t es vs → (B : Block) → B ∈ script_blocks c → st ∈ block_list B → AllFit s.entries → AllFit t.entries
      stmt_fit (declares b) B m i h = h
      stmt_fit (calls_alone {at = at} {n = n} {p = p} {ps = ps} {c = d} lp) B m i h = parts_fit at n (call_alone p ps d) (among_script c m i) lp h
      stmt_fit (simple {at = at} {n = n} {a = a} e {t = t} {u = u} sim lp ow nd ue ee) B m i h =
          own_fit t u e (ap (λ (z : Laying). z.entries) ue) (unmarked_no_call e.act (ap (call_mark 0) ((ow l (suits at n a (among_script c m i))).act_is) ∙ simple_unmarked l k 0 a sim)) (parts_fit at n a (among_script c m i) lp h)
      stmt_fit (branch {at = at} {n = n} {c = o} {b = b} e {u = u} {w = w} lp bl ow mk we ee) B m i h =
          own_fit u w e (ap (λ (z : Laying). z.entries) we) (opens_no_call e.act (subst OpensBlocks (sym (ow l (suits at n (when o b) (among_script c m i))).act_is) tt))
          (block_fit bl b (inner_block c m i first) (λ y j. j) (parts_fit at n (when o b) (among_script c m i) lp h))
      stmt_fit (branches {at = at} {n = n} {c = o} {b = b} {d = d} e {v = v} {w = w} lp bl dl de ow mk we ee) B m i h =
          own_fit v w e (ap (λ (z : Laying). z.entries) we) (opens_no_call e.act (subst OpensBlocks (sym (ow l (suits at n (choose o b d) (among_script c m i))).act_is) tt))
          (block_fit dl d (inner_block c m i (later first)) (λ y j. j) (block_fit bl b (inner_block c m i first) (λ y j. j) (parts_fit at n (choose o b d) (among_script c m i) lp h)))
      stmt_fit (range_loop {at = at} {n = n} {x = x} {lo = lo} {hi = hi} {st = so} {y = y} {b = b} e {u = u} {w = w} lp bl ow mk we ee) B m i h =
          own_fit u w e (ap (λ (z : Laying). z.entries) we) (opens_no_call e.act (subst OpensBlocks (sym (ow l (suits at n (range lo hi so x y b) (among_script c m i))).act_is) tt))
          (block_fit bl b (inner_block c m i first) (λ y j. j) (parts_fit at n (range lo hi so x y b) (among_script c m i) lp h))
      stmt_fit (array_loop {at = at} {n = n} {x = x} {a = a} {y = y} {b = b} e {u = u} {w = w} bl ow mk we ee) B m i h =
          own_fit u w e (ap (λ (z : Laying). z.entries) we) (opens_no_call e.act (subst OpensBlocks (sym (ow l (suits at n (each a x y b) (among_script c m i))).act_is) tt)) (block_fit bl b (inner_block c m i first) (λ y j. j) h)
      stmt_fit (waits {b = b} e {u = u} {w = w} hd bl en we ee) B m i h =
          own_fit u w e (ap (λ (z : Laying). z.entries) we) (opens_no_call e.act (subst OpensBlocks (sym en.0.act_is) tt)) (block_fit bl b (header_block c hd B m i) (λ y j. j) h)

      block_fit : {b : Block} {ds : List (ℕ × Bool)} {s t : Laying} {es : List ℕ} {vs : List Variable} → LaysBlock fs roots k b ds s t es vs → (B : Block) → B ∈ script_blocks c → ((y : Stmt) → y ∈ block_list b → y ∈ block_list B) → AllFit s.entries → AllFit t.entries
      block_fit no_statement B m i h = h
      block_fit (one_statement {st = st} x xs de ee me) B m i h = block_fit xs B m (λ y j. i y (later j)) (stmt_fit x B m (i st first) h)

  functions_fit : {roots : ℕ} {gs : List Function} {ds : List (ℕ × Bool)} {s t : Laying} {bs : List Body} → LaysFunctions fs roots gs ds s t bs → ((b : Block) → b ∈ function_blocks gs → b ∈ script_blocks c) → AllFit s.entries → AllFit t.entries
  functions_fit no_function i h = h
  functions_fit {roots} (one_function {f = f} {gs = gs} x xs de be) i h = functions_fit xs (λ b j. i b (to_right (blocks_of f.body) (function_blocks gs) j)) (block_fit roots f.inputs x f.body (i f.body first) (λ y j. j) h)

  pub all_fit : {ds : List (ℕ × Bool)} {C : Code} (L : LaysScript c fs ds C) → AllFit L.last.entries
  all_fit L = functions_fit L.functions (λ b j. to_right (blocks_of c.body) (function_blocks c.functions) j) (block_fit (suc (length c.functions)) 0 L.script c.body first (λ y j. j) (λ e f ins outs m q. elim m [ ]))
