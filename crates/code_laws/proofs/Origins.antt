-- Where the variables of laid code come from, what opens its bodies, and that its calls fit.
use Rattle.std.proofs.Common.{◌≡◌, ◌⊎◌, inl, inr, ℕ, zero, suc, ◌+◌, ◌≤◌, Bool, true, false, List, [], ◌∷◌, ◌++◌, length, refl, sym, subst, arith, Option, Some, None}
use Rattle.dataflow.specs.System.{In}
use Rattle.language.specs.Core.{Owned, local, input, output, Name, Form, compute, read, Call, Part, inner, calls, Outer, Stmt, stmt, Action, declare, call_alone, assign, fill, insert, print, assert, when, choose, range, each, wait, Block, Function, Core}
use Rattle.language.specs.Members.{◌∈◌, first, later}
use Rattle.language.specs.Parts.{parts, part_calls, block_list, blocks_of, function_blocks, script_blocks, script_stmts}
use Rattle.language.proofs.Blocks.{inner_block, among_script}
use Rattle.language.proofs.Members.{either, split_in, to_left, to_right}
use Rattle.language.proofs.Tested.{flat_in, roles_of, hidden_of, hidden_calls, with_turn, local_node, name_nodes}
use Rattle.language_laws.specs.TypedValues.{own_cell, own_parts}
use Rattle.task_code.specs.Code.{Variable, Opener, Body, ByStep, ByWait, turn_variables, scalar}
use Rattle.code_rules.specs.Laying.{Kinds, Laying, plain_after, cell_data, data_in, data_of, node_here, one_output, output_scalars, LaysStmt, declares, calls_alone, simple, branch, branches, range_loop, array_loop, waits, LaysBlock, no_statement, one_statement, LaysFunctions, no_function, one_function}
use Rattle.code_laws.proofs.Counts.{total, total_member, count, in_count}
use Rattle.code_laws.proofs.Adding.{header_block}
use Rattle.code_laws.proofs.Layouts.{plains, all_plains, plains_there}
use Rattle.code_laws.proofs.Nodes.{other_count}
use Rattle.code_laws.proofs.Rows.{Row, row, stmt_rows, block_rows, inner_rows, function_rows}

pub in_either : {X : Type 0} (x : X) (xs ys : List X) → In x (xs ++ ys) → In x xs ⊎ In x ys
in_either x [] ys h = inr h
in_either x (y ∷ xs) ys (inl e) = inl (inl e)
in_either x (y ∷ xs) ys (inr h) = elim (in_either x xs ys h) [ inl a ↦ inl (inr a) | inr a ↦ inr a ]

outer_part : (o : Outer) (f : Form) {x : Part} → x ∈ (o.parts ++ own_cell o.cell f) → x ∈ (o.parts ++ inner o.cell ∷ [])
outer_part o (compute e) m = elim (either o.parts [] m) [ inl i ↦ to_left o.parts (inner o.cell ∷ []) i | inr i ↦ elim i [ ] ]
outer_part o (read a j) m = m

-- the parts before a statement's own entry are parts of it
own_part : (a : Action) {x : Part} → x ∈ own_parts a → x ∈ parts a
own_part (declare v) m = m
own_part (call_alone p ps c) m = m
own_part (assign y o) m = outer_part o o.cell.form m
own_part (fill y o) m = outer_part o o.cell.form m
own_part (insert y i o) m = m
own_part (print p o) m = outer_part o o.cell.form m
own_part (assert p o) m = outer_part o o.cell.form m
own_part (when o b) m = m
own_part (choose o b d) m = m
own_part (range lo hi st x y b) m = m
own_part (each v x y b) m = m
own_part (wait ns b) m = m

called : (d : Call) (ps : List Part) → calls d ∈ ps → d ∈ part_calls ps
called d [] m = elim m [ ]
called d (inner c ∷ ps) m = elim (split_in m) [ inl e ↦ absurd (cc (e)) | inr i ↦ called d ps i ]
called d (calls c ∷ ps) m = elim (split_in m) [ inl e ↦ (let z : d ≡ c = cc (e) in subst (λ (x : Call). x ∈ (c ∷ part_calls ps)) (sym z) first) | inr i ↦ later (called d ps i) ]

-- the data of a statement's parts come of its cells, and of calls among them
module _ (c : Core) (all : List (ℕ × Bool)) where
  pub data Origin (v : Variable) : Type 0 where
    is_declared : ◌∈◌ {X = ℕ × Bool} (v.node, v.array) all → Origin v
    is_cell : v.array ≡ false → ◌∈◌ {X = ℕ × Bool} (v.node, false) (all_plains (script_stmts c)) → Origin v
    is_other : v.array ≡ false → 1 ≤ total (other_count v.node) (script_stmts c) → Origin v

  abbrev pub AllOrigin : List Variable → Type 0
  AllOrigin vs = (v : Variable) → In v vs → Origin v

  pub origins_both : (vs ws : List Variable) → AllOrigin vs → AllOrigin ws → AllOrigin (vs ++ ws)
  origins_both vs ws h g v i = elim (in_either v vs ws i) [ inl a ↦ h v a | inr a ↦ g v a ]

  of_cell : (n : ℕ) (b : Bool) → ◌∈◌ {X = ℕ × Bool} (n, b) (all_plains (script_stmts c)) → AllOrigin (cell_data b n)
  of_cell n true m v i = absurd i
  of_cell n false m v (inl e) = subst Origin (sym e) (is_cell refl m)
  of_cell n false m v (inr i) = absurd i

  -- the outputs of a call in an expression
  abbrev OtherNodes : List ℕ → Type 0
  OtherNodes ns = (n : ℕ) → n ∈ ns → 1 ≤ total (other_count n) (script_stmts c)

  of_output : (up : ℕ) (o : Owned) → OtherNodes (local_node o) → AllOrigin (one_output (node_here up o))
  of_output zero (local n) h v (inl e) = subst Origin (sym e) (is_other refl (h n first))
  of_output zero (local n) h v (inr i) = absurd i
  of_output (suc up) (local n) h v i = absurd i
  of_output zero (input j) h v i = absurd i
  of_output (suc up) (input j) h v i = absurd i
  of_output zero (output j) h v i = absurd i
  of_output (suc up) (output j) h v i = absurd i

  of_outputs : (xs : List Name) → OtherNodes (name_nodes xs) → AllOrigin (output_scalars xs)
  of_outputs [] h v i = absurd i
  of_outputs (x ∷ xs) h v i = origins_both (one_output (node_here x.up x.what)) (output_scalars xs) (of_output x.up x.what (λ n m. h n (to_left (local_node x.what) (name_nodes xs) m))) (of_outputs xs (λ n m. h n (to_right (local_node x.what) (name_nodes xs) m))) v i

  of_data : (p : Option Part) (ps : List Part) → ((q : ℕ × Bool) → q ∈ plains p ps → q ∈ all_plains (script_stmts c)) → ((d : Call) → calls d ∈ ps → OtherNodes (name_nodes d.outputs)) → AllOrigin (data_in p ps)
  of_data p [] h g v i = absurd i
  of_data p (inner x ∷ ps) h g v i = origins_both (cell_data (plain_after p x.form) x.node) (data_in (Some (inner x)) ps) (of_cell x.node (plain_after p x.form) (h (x.node, plain_after p x.form) first)) (of_data (Some (inner x)) ps (λ q m. h q (later m)) (λ d m. g d (later m))) v i
  of_data p (calls x ∷ ps) h g v i = origins_both (output_scalars x.outputs) (data_in (Some (calls x)) ps) (of_outputs x.outputs (g x first)) (of_data (Some (calls x)) ps h (λ d m. g d (later m))) v i

  other_node : (at n : ℕ) (a : Action) (m : ℕ) → stmt at n a ∈ script_stmts c → 1 ≤ count m (roles_of a) + count m (hidden_of a) → 1 ≤ total (other_count m) (script_stmts c)
  other_node at n a m i h = let x = total_member (other_count m) i in omega arith

  of_own : (at n : ℕ) (a : Action) → stmt at n a ∈ script_stmts c → hidden_calls a ≡ part_calls (parts a) → AllOrigin (data_in None (own_parts a))
  of_own at n a i e = of_data None (own_parts a) (λ q m. plains_there (script_stmts c) i (to_left (plains None (own_parts a)) _ m))
      (λ d m k j. other_node at n a k i (let x = in_count (flat_in (λ (z : Call). name_nodes z.outputs) (hidden_calls a) (subst (λ (z : List Call). d ∈ z) (sym e) (called d (parts a) (own_part a m))) j) in omega arith))

  pub of_stmt : (at n : ℕ) (a : Action) → stmt at n a ∈ script_stmts c → AllOrigin (data_of a)
  of_stmt at n (call_alone p ps d) i = of_data None ps (λ q m. plains_there (script_stmts c) i (to_left (plains None (ps ++ calls d ∷ [])) [] (front None ps m)))
      (λ x m k j. other_node at n (call_alone p ps d) k i (let y = in_count (flat_in (λ (z : Call). name_nodes z.outputs) (part_calls ps) (called x ps m) j) in omega arith))
    where
      front : (p : Option Part) (ps : List Part) {q : ℕ × Bool} → q ∈ plains p ps → q ∈ plains p (ps ++ calls d ∷ [])
      front p [] m = elim m [ ]
      front p (inner x ∷ ps) m = elim (split_in m) [ inl e ↦ subst (λ (z : ℕ × Bool). z ∈ ((x.node, plain_after p x.form) ∷ plains (Some (inner x)) (ps ++ calls d ∷ []))) (sym e) first | inr k ↦ later (front (Some (inner x)) ps k) ]
      front p (calls x ∷ ps) m = front (Some (calls x)) ps m
  of_stmt at n (declare v) i = of_own at n (declare v) i refl
  of_stmt at n (assign x o) i = of_own at n (assign x o) i refl
  of_stmt at n (fill x o) i = of_own at n (fill x o) i refl
  of_stmt at n (insert x j o) i = of_own at n (insert x j o) i refl
  of_stmt at n (print p o) i = of_own at n (print p o) i refl
  of_stmt at n (assert p o) i = of_own at n (assert p o) i refl
  of_stmt at n (when o b) i = of_own at n (when o b) i refl
  of_stmt at n (choose o b d) i = of_own at n (choose o b d) i refl
  of_stmt at n (range lo hi st x y b) i = of_own at n (range lo hi st x y b) i refl
  of_stmt at n (each v x y b) i = of_own at n (each v x y b) i refl
  of_stmt at n (wait ns b) i = of_own at n (wait ns b) i refl

  -- loop variables
  of_loop : (x : ℕ) (y : Option ℕ) → OtherNodes (with_turn x y) → AllOrigin (scalar x ∷ turn_variables y)
  of_loop x None h v (inl e) = subst Origin (sym e) (is_other refl (h x first))
  of_loop x None h v (inr i) = absurd i
  of_loop x (Some y) h v (inl e) = subst Origin (sym e) (is_other refl (h x first))
  of_loop x (Some y) h v (inr (inl e)) = subst Origin (sym e) (is_other refl (h y (later first)))
  of_loop x (Some y) h v (inr (inr i)) = absurd i

  -- a body that a statement opens
  abbrev pub IsInner : Opener → Type 0
  IsInner (ByStep e) = Unit {0}
  IsInner (ByWait e) = Unit {0}
  IsInner _ = ⊥

  pub record Inner (r : Row) : Type 0 where
    pub opens : IsInner r.body.opener
    pub origin : AllOrigin r.body.makes

  abbrev pub AllInner : List Row → Type 0
  AllInner rs = (r : Row) → r ∈ rs → Inner r

  pub inner_both : (rs qs : List Row) → AllInner rs → AllInner qs → AllInner (rs ++ qs)
  inner_both rs qs h g r m = elim (either rs qs m) [ inl i ↦ h r i | inr i ↦ g r i ]

  inner_one : (q : Row) → Inner q → AllInner (q ∷ [])
  inner_one q g r m = elim (split_in m) [ inl e ↦ subst Inner (sym e) g | inr i ↦ elim i [ ] ]

  pub no_variables : AllOrigin []
  no_variables v i = absurd i

  module _ (fs : List Kinds) (roots : ℕ) (k : ℕ) where
    mutual
      pub stmt_origin : {st : Stmt} {ds : List (ℕ × Bool)} {s t : Laying} {es : List ℕ} {vs : List Variable} (x : LaysStmt fs roots k st ds s t es vs) → ((q : ℕ × Bool) → q ∈ ds → q ∈ all) → (B : Block) → B ∈ script_blocks c → st ∈ block_list B
          → AllOrigin vs × AllInner (stmt_rows fs roots k x)
      stmt_origin (declares {v = v} b) sub B m i = (λ w j. elim j [ inl e ↦ subst Origin (sym e) (is_declared (sub (v, b) first)) | inr j ↦ absurd j ], λ r j. elim j [ ])
      stmt_origin (calls_alone {at = at} {n = n} {p = p} {ps = ps} {c = d} lp) sub B m i = (of_stmt at n (call_alone p ps d) (among_script c m i), λ r j. elim j [ ])
      stmt_origin (simple {at = at} {n = n} {a = a} e sim lp ow nd ue ee) sub B m i = (of_stmt at n a (among_script c m i), λ r j. elim j [ ])
      stmt_origin (branch {at = at} {n = n} {c = o} {b = b} e {u = u} {js = js} {vs = vs} lp bl ow mk we ee) sub B m i =
          let g = block_origin bl sub b (inner_block c m i first) (λ y j. j) in
          (of_stmt at n (when o b) (among_script c m i), inner_both (block_rows fs roots k bl) _ g.1 (inner_one (row k b [] (ByStep (length u.entries)) vs js) (record { opens = tt; origin = g.0 })))
      stmt_origin (branches {at = at} {n = n} {c = o} {b = b} {d = d} {bs = bs} {cs = cs} e {v = v} {js = js} {ks = ks} {vs = vs} {ws = ws} lp bl dl de ow mk we ee) sub B m i =
          let g = block_origin bl (λ q j. sub q (subst (λ (z : List (ℕ × Bool)). q ∈ z) (sym de) (to_left bs cs j))) b (inner_block c m i first) (λ y j. j) in
          let g' = block_origin dl (λ q j. sub q (subst (λ (z : List (ℕ × Bool)). q ∈ z) (sym de) (to_right bs cs j))) d (inner_block c m i (later first)) (λ y j. j) in (
            of_stmt at n (choose o b d) (among_script c m i),
            inner_both (block_rows fs roots k bl ++ block_rows fs roots k dl) _ (inner_both (block_rows fs roots k bl) (block_rows fs roots k dl) g.1 g'.1)
                (inner_both (row k b [] (ByStep (length v.entries)) vs js ∷ []) _ (inner_one (row k b [] (ByStep (length v.entries)) vs js) (record { opens = tt; origin = g.0 })) (inner_one (row k d [] (ByStep (length v.entries)) ws ks) (record { opens = tt; origin = g'.0 }))),
          )
      stmt_origin (range_loop {at = at} {n = n} {x = x} {lo = lo} {hi = hi} {st = so} {y = y} {b = b} e {u = u} {js = js} {vs = vs} lp bl ow mk we ee) sub B m i =
          let g = block_origin bl sub b (inner_block c m i first) (λ y j. j) in
          let lo' = of_loop x y (λ z j. other_node at n (range lo hi so x y b) z (among_script c m i) (let q = in_count j in omega arith)) in (
            of_stmt at n (range lo hi so x y b) (among_script c m i),
            inner_both (block_rows fs roots k bl) _ g.1 (inner_one (row k b (scalar x ∷ turn_variables y) (ByStep (length u.entries)) vs js) (record { opens = tt; origin = origins_both (scalar x ∷ turn_variables y) vs lo' g.0 })),
          )
      stmt_origin (array_loop {at = at} {n = n} {x = x} {a = a} {y = y} {b = b} e {u = u} {js = js} {vs = vs} bl ow mk we ee) sub B m i =
          let g = block_origin bl sub b (inner_block c m i first) (λ y j. j) in
          let lo' = of_loop x y (λ z j. other_node at n (each a x y b) z (among_script c m i) (let q = in_count j in omega arith)) in
          (no_variables, inner_both (block_rows fs roots k bl) _ g.1 (inner_one (row k b (scalar x ∷ turn_variables y) (ByStep (length u.entries)) vs js) (record { opens = tt; origin = origins_both (scalar x ∷ turn_variables y) vs lo' g.0 })))
      stmt_origin (waits {b = b} e {u = u} {js = js} {vs = vs} hd bl en we ee) sub B m i =
          let g = block_origin bl sub b (header_block c hd B m i) (λ y j. j) in
          (no_variables, inner_both (block_rows fs roots k bl) _ g.1 (inner_one (row k b [] (ByWait (length u.entries)) vs js) (record { opens = tt; origin = g.0 })))

      pub block_origin : {b : Block} {ds : List (ℕ × Bool)} {s t : Laying} {es : List ℕ} {vs : List Variable} (x : LaysBlock fs roots k b ds s t es vs) → ((q : ℕ × Bool) → q ∈ ds → q ∈ all) → (B : Block) → B ∈ script_blocks c → ((y : Stmt) → y ∈ block_list b → y ∈ block_list B)
          → AllOrigin vs × AllInner (block_rows fs roots k x)
      block_origin no_statement sub B m i = (no_variables, λ r j. elim j [ ])
      block_origin (one_statement {st = st} {cs = cs} {ds = ds} {vs = vs} {ws = ws} x xs de ee me) sub B m i =
          let a = stmt_origin x (λ q j. sub q (subst (λ (z : List (ℕ × Bool)). q ∈ z) (sym de) (to_left cs ds j))) B m (i st first) in
          let g = block_origin xs (λ q j. sub q (subst (λ (z : List (ℕ × Bool)). q ∈ z) (sym de) (to_right cs ds j))) B m (λ y j. i y (later j)) in
          (subst AllOrigin (sym me) (origins_both vs ws a.0 g.0), inner_both (stmt_rows fs roots k x) (block_rows fs roots k xs) a.1 g.1)

  module _ (fs : List Kinds) (roots : ℕ) where
    -- of functions: their own rows, and the inner ones
    pub functions_origin : {gs : List Function} {ds : List (ℕ × Bool)} {s t : Laying} {bs : List Body} (x : LaysFunctions fs roots gs ds s t bs) → ((q : ℕ × Bool) → q ∈ ds → q ∈ all) → ((b : Block) → b ∈ function_blocks gs → b ∈ script_blocks c)
        → ((r : Row) → r ∈ function_rows fs roots x → AllOrigin r.body.makes) × AllInner (inner_rows fs roots x)
    functions_origin no_function sub i = (λ r j. elim j [ ], λ r j. elim j [ ])
    functions_origin (one_function {f = f} {gs = gs} {cs = cs} {ds = ds} x xs de be) sub i =
        let a = block_origin fs roots f.inputs x (λ q j. sub q (subst (λ (z : List (ℕ × Bool)). q ∈ z) (sym de) (to_left cs ds j))) f.body (i f.body first) (λ y j. j) in
        let g = functions_origin xs (λ q j. sub q (subst (λ (z : List (ℕ × Bool)). q ∈ z) (sym de) (to_right cs ds j))) (λ b j. i b (to_right (blocks_of f.body) (function_blocks gs) j)) in
        (λ r j. elim (split_in {xs = function_rows fs roots xs} j) [ inl e ↦ subst (λ (z : Row). AllOrigin z.body.makes) (sym e) a.0 | inr j ↦ g.0 r j ], inner_both (block_rows fs roots f.inputs x) (inner_rows fs roots xs) a.1 g.1)
