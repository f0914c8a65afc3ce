-- Code that is a table of a core is the core's code.
use Rattle.std.proofs.Common.{◌≡◌, ◌⊎◌, inl, inr, ℕ, zero, suc, ◌+◌, ◌≤◌, ◌<◌, Bool, true, false, List, [], ◌∷◌, ◌++◌, refl, sym, ap, ◌∙◌, subst, arith, Option, Some, None}
use Rattle.dataflow.specs.System.{In}
use Rattle.language.specs.Core.{Owned, local, input, output, Name, Part, inner, calls, Stmt, stmt, Action, declare, call_alone, assign, fill, insert, print, assert, when, choose, range, each, wait, Block, no_stmts, stmts, Core}
use Rattle.language.specs.Members.{◌∈◌, first, later}
use Rattle.language.specs.Parts.{block_list}
use Rattle.language.proofs.Members.{split_in}
use Rattle.language_laws.specs.TypedValues.{own_parts}
use Rattle.task_code.specs.Code.{Variable, Header, Opener, Code, body, loop_variables, scalar}
use Rattle.code_rules.specs.IsCodeOf.{Layout, MakesAs, StmtAs, declares, calls_alone, simple, branch, branches, range_loop, array_loop, waits, WaitAs, one_wait, merged, BlockAs, no_stmt, one_stmt, BodyAs, body_as, IsCodeOf}
use Rattle.code_rules.specs.Laid.{Table, Stands, StmtLaid, declares_laid, call_laid, simple_laid, branch_laid, branches_laid, range_laid, each_laid, wait_laid, StmtsLaid, none_laid, one_laid, BodyLaid, IsLaid}
use Rattle.code_rules.specs.Laying.{Kinds, Suits, Headers, one_header, more_headers, plain_after, cell_data, data_in, data_of, node_here, one_output, output_scalars}
use Rattle.code_laws.proofs.Origins.{in_either}

-- how much stands in a block
abbrev mutual
  pub block_weight : Block → ℕ
  block_weight no_stmts = 0
  block_weight (stmts s b) = stmt_weight s + block_weight b

  pub stmt_weight : Stmt → ℕ
  stmt_weight (stmt at n a) = suc (action_weight a)

  pub action_weight : Action → ℕ
  action_weight (declare v) = 0
  action_weight (call_alone p ps c) = 0
  action_weight (assign x o) = 0
  action_weight (fill x o) = 0
  action_weight (insert x i o) = 0
  action_weight (print p o) = 0
  action_weight (assert p o) = 0
  action_weight (when c b) = block_weight b
  action_weight (choose c b d) = block_weight b + block_weight d
  action_weight (range lo hi st x y b) = block_weight b
  action_weight (each a x y b) = block_weight b
  action_weight (wait ns b) = block_weight b

-- DATA ARE SCALARS

abbrev AllScalars : List Variable → Type 0
AllScalars vs = (v : Variable) → In v vs → v.array ≡ false

scalars_both : (vs ws : List Variable) → AllScalars vs → AllScalars ws → AllScalars (vs ++ ws)
scalars_both vs ws h g v i = elim (in_either v vs ws i) [ inl a ↦ h v a | inr a ↦ g v a ]

scalars_none : AllScalars []
scalars_none v i = absurd i

scalars_one : (n : ℕ) → AllScalars (scalar n ∷ [])
scalars_one n v (inl e) = ap (λ (z : Variable). z.array) e
scalars_one n v (inr i) = absurd i

cell_scalars : (b : Bool) (n : ℕ) → AllScalars (cell_data b n)
cell_scalars true n = scalars_none
cell_scalars false n = scalars_one n

output_scalar : (up : ℕ) (o : Owned) → AllScalars (one_output (node_here up o))
output_scalar zero (local n) = scalars_one n
output_scalar (suc up) (local n) = scalars_none
output_scalar zero (input j) = scalars_none
output_scalar (suc up) (input j) = scalars_none
output_scalar zero (output j) = scalars_none
output_scalar (suc up) (output j) = scalars_none

outputs_scalars : (xs : List Name) → AllScalars (output_scalars xs)
outputs_scalars [] = scalars_none
outputs_scalars (x ∷ xs) = scalars_both (one_output (node_here x.up x.what)) (output_scalars xs) (output_scalar x.up x.what) (outputs_scalars xs)

data_scalars : (p : Option Part) (ps : List Part) → AllScalars (data_in p ps)
data_scalars p [] = scalars_none
data_scalars p (inner c ∷ ps) = scalars_both (cell_data (plain_after p c.form) c.node) (data_in (Some (inner c)) ps) (cell_scalars (plain_after p c.form) c.node) (data_scalars (Some (inner c)) ps)
data_scalars p (calls c ∷ ps) = scalars_both (output_scalars c.outputs) (data_in (Some (calls c)) ps) (outputs_scalars c.outputs) (data_scalars (Some (calls c)) ps)

stmt_scalars : (a : Action) → AllScalars (data_of a)
stmt_scalars (declare v) = scalars_none
stmt_scalars (call_alone p ps c) = data_scalars None ps
stmt_scalars (assign x o) = data_scalars None (own_parts (assign x o))
stmt_scalars (fill x o) = data_scalars None (own_parts (fill x o))
stmt_scalars (insert x i o) = data_scalars None (own_parts (insert x i o))
stmt_scalars (print p o) = data_scalars None (own_parts (print p o))
stmt_scalars (assert p o) = data_scalars None (own_parts (assert p o))
stmt_scalars (when c b) = data_scalars None (own_parts (when c b))
stmt_scalars (choose c b d) = data_scalars None (own_parts (choose c b d))
stmt_scalars (range lo hi st x y b) = data_scalars None (own_parts (range lo hi st x y b))
stmt_scalars (each a x y b) = data_scalars None (own_parts (each a x y b))
stmt_scalars (wait ns b) = data_scalars None (own_parts (wait ns b))

loop_scalars : (b x : ℕ) (y : Option ℕ) → AllScalars (loop_variables (record { body = b; value = x; turn = y }))
loop_scalars b x None = scalars_one x
loop_scalars b x (Some y) = scalars_both (scalar x ∷ []) (scalar y ∷ []) (scalars_one x) (scalars_one y)

in_left : {X : Type 0} (x : X) (xs ys : List X) → In x xs → In x (xs ++ ys)
in_left x [] ys h = absurd h
in_left x (y ∷ xs) ys (inl e) = inl e
in_left x (y ∷ xs) ys (inr h) = inr (in_left x xs ys h)

in_right : {X : Type 0} (x : X) (xs ys : List X) → In x ys → In x (xs ++ ys)
in_right x [] ys h = h
in_right x (y ∷ xs) ys h = inr (in_right x xs ys h)

-- WHAT IS DECLARED

module _ (C : Code) (l : Layout) (T : Table) where
  -- a variable that a statement has for its block: declared by it, or a scalar
  abbrev Made : Stmt → Variable → Type 0
  Made st v = ((at : ℕ) × (m : ℕ) × (st ≡ stmt at m (declare v.node))) ⊎ (v.array ≡ false)

  stmt_made : {k : ℕ} {st : Stmt} {es : List ℕ} {vs : List Variable} → StmtLaid C l T k st es vs → (v : Variable) → In v vs → Made st v
  stmt_made (declares_laid {at = at} {n = n} {v = w} b) v (inl e) = inl (at, n, ap (λ (z : ℕ). stmt at n (declare z)) (sym (ap (λ (z : Variable). z.node) e)))
  stmt_made (declares_laid b) v (inr i) = absurd i
  stmt_made (call_laid {ps = ps} x) v i = inr (data_scalars None ps v i)
  stmt_made (simple_laid j {a = a} sim ps en nd e) v i = inr (stmt_scalars a v i)
  stmt_made (branch_laid j {c = c} {b = b} ps en mk st e) v i = inr (stmt_scalars (when c b) v i)
  stmt_made (branches_laid j {c = c} {b = b} {d = d} ps en mk st sd e) v i = inr (stmt_scalars (choose c b d) v i)
  stmt_made (range_laid {x = x} j {lo = lo} {hi = hi} {st = so} {y = y} {b = b} ps en mk st e) v i = inr (stmt_scalars (range lo hi so x y b) v i)
  stmt_made (each_laid j en mk st e) v i = absurd i
  stmt_made (wait_laid j hd en st e) v i = absurd i

  stmts_made : {k : ℕ} {sts : List Stmt} {es : List ℕ} {vs : List Variable} → StmtsLaid C l T k sts es vs → (v : Variable) → In v vs → v.array ≡ true → (at : ℕ) × (m : ℕ) × (stmt at m (declare v.node) ∈ sts)
  stmts_made none_laid v i q = absurd i
  stmts_made (one_laid {st = st} {sts = sts} {vs = vs} {ws = ws} x xs e me) v i q =
      elim (in_either v vs ws (subst (λ (z : List Variable). In v z) me i)) [
        | inl a ↦ elim (stmt_made x v a) [ inl d ↦ (d.0, d.1, subst (λ (z : Stmt). z ∈ (st ∷ sts)) d.2 first) | inr s ↦ absurd (let z : true ≡ false = sym q ∙ s in cc) ]
        | inr a ↦ (let r = stmts_made xs v a q in (r.0, r.1, later r.2))
      ]

  -- a declaration makes its variable
  declared_made : {k at n w : ℕ} {es : List ℕ} {vs : List Variable} → StmtLaid C l T k (stmt at n (declare w)) es vs → (b : Bool) × In (record { node = w; array = b }) vs
  declared_made (declares_laid b) = (b, inl refl)
  declared_made (simple_laid j sim ps en nd e) = absurd sim

  all_declared : {k : ℕ} {sts : List Stmt} {es : List ℕ} {vs : List Variable} → StmtsLaid C l T k sts es vs → (at m n : ℕ) → stmt at m (declare n) ∈ sts → (b : Bool) × In (record { node = n; array = b }) vs
  all_declared none_laid at m n i = elim i [ ]
  all_declared {k} (one_laid {st = st} {is = is} {vs = vs} {ws = ws} x xs e me) at m n i =
      elim (split_in i) [
        | inl q ↦ (let r = declared_made (subst (λ (z : Stmt). StmtLaid C l T k z is vs) (sym q) x) in (r.0, subst (λ (z : List Variable). In (record { node = n; array = r.0 }) z) (sym me) (in_left (record { node = n; array = r.0 }) vs ws r.1)))
        | inr j ↦ (let r = all_declared xs at m n j in (r.0, subst (λ (z : List Variable). In (record { node = n; array = r.0 }) z) (sym me) (in_right (record { node = n; array = r.0 }) vs ws r.1)))
      ]

-- BODIES

module _ {s : Core} {fs : List Kinds} {ds : List (ℕ × Bool)} {C : Code} {l : Layout} (h : IsLaid s fs ds C l) where
  abbrev StandsFor : ℕ → Block → List Variable → Opener → ℕ → Type 0
  StandsFor k b us o t = Stands C l h.table k b us o t

  -- what each body of fewer statements is
  abbrev Smaller : ℕ → Type 0
  Smaller m = (b : Block) (k : ℕ) (us : List Variable) (o : Opener) (t : ℕ) → block_weight b < m → AllScalars us → StandsFor k b us o t → BodyAs C l k b t

  wait_is : {k t : ℕ} {o : Opener} {st : Stmt} {hs : List Header} {b : Block} (m : ℕ) → Smaller m → stmt_weight st ≤ m → Headers k st hs b → StandsFor k b [] o t → WaitAs C l k st hs t
  wait_is {k} {t} {o} m rec w (one_header {b = b} lone e) st = one_wait (rec b k [] o t (omega arith) scalars_none st) e
  wait_is m rec w (more_headers hd e) st = merged (wait_is m rec (omega arith) hd st) e

  stmt_is : {k : ℕ} {st : Stmt} {es : List ℕ} {vs : List Variable} (m : ℕ) → Smaller m → stmt_weight st ≤ m → ((at n : ℕ) (a : Action) → stmt at n a ≡ st → Suits l a) → StmtLaid C l h.table k st es vs → StmtAs C l k st es
  stmt_is m rec w su (declares_laid b) = declares
  stmt_is m rec w su (call_laid ps) = calls_alone ps
  stmt_is m rec w su (simple_laid {at = at} {n = n} j {a = a} sim ps en nd e) = simple j sim (su at n a refl).own ps en nd e
  stmt_is {k} m rec w su (branch_laid {t = t} j {b = b} ps en mk st e) = branch j ps en mk (rec b k [] _ t (omega arith) scalars_none st) e
  stmt_is {k} m rec w su (branches_laid {t = t} {u = u} j {b = b} {d = d} ps en mk st sd e) = branches j ps en mk (rec b k [] _ t (omega arith) scalars_none st) (rec d k [] _ u (omega arith) scalars_none sd) e
  stmt_is {k} m rec w su (range_laid {t = t} {x = x} j {y = y} {b = b} ps en mk st e) = range_loop j ps en mk (rec b k _ _ t (omega arith) (loop_scalars t x y) st) e
  stmt_is {k} m rec w su (each_laid {t = t} {x = x} j {y = y} {b = b} en mk st e) = array_loop j en mk (rec b k _ _ t (omega arith) (loop_scalars t x y) st) e
  stmt_is m rec w su (wait_laid j hd en st e) = waits j (wait_is m rec w hd st) en e

  block_is : (b : Block) {k : ℕ} {es : List ℕ} {vs : List Variable} (m : ℕ) → Smaller m → block_weight b ≤ m → ((at n : ℕ) (a : Action) → stmt at n a ∈ block_list b → Suits l a) → StmtsLaid C l h.table k (block_list b) es vs → BlockAs C l k b es
  block_is no_stmts m rec w su none_laid = no_stmt
  block_is (stmts st b) m rec w su (one_laid x xs e me) =
      one_stmt (stmt_is m rec (omega arith) (λ at n a q. su at n a (subst (λ (z : Stmt). z ∈ (st ∷ block_list b)) (sym q) first)) x) (block_is b m rec (omega arith) (λ at n a i. su at n a (later i)) xs) e

  body_is : (m : ℕ) → Smaller m
  body_is zero b k us o t w sc st = absurd (omega arith)
  body_is (suc m) b k us o t w sc st = body_as (block_is b m (body_is m) (omega arith) suits laid) makes
    where
      bd : BodyLaid C l h.table s t
      bd = h.bodies t st.within

      laid : StmtsLaid C l h.table k (block_list b) (body C t).entries bd.own
      laid = subst (λ (q : ℕ). StmtsLaid C l h.table q (block_list b) (body C t).entries bd.own) st.inputs (subst (λ (z : Block). StmtsLaid C l h.table (h.table.inputs_of t) (block_list z) (body C t).entries bd.own) st.block bd.stmts)

      suits : (at n : ℕ) (a : Action) → stmt at n a ∈ block_list b → Suits l a
      suits at n a i = bd.suits at n a (subst (λ (z : Block). stmt at n a ∈ block_list z) (sym st.block) i)

      made : (body C t).makes ≡ us ++ bd.own
      made = bd.makes ∙ ap (λ (z : List Variable). z ++ bd.own) st.variables

      makes : MakesAs C l b (body C t).makes
      makes = record {
        declared = λ at p n i. (let r = all_declared C l h.table laid at p n i in
            let v : Variable = record { node = n; array = r.0 } in
            let inside : In v (body C t).makes = subst (λ (z : List Variable). In v z) (sym made) (in_right v us bd.own r.1) in
            subst (λ (q : Bool). In (record { node = n; array = q }) (body C t).makes) (h.kinds t v inside) inside);
        arrays = λ n i. (let v : Variable = record { node = n; array = true } in elim (in_either v us bd.own (subst (λ (z : List Variable). In v z) made i)) [
          | inl a ↦ absurd (let z : true ≡ false = sc v a in cc)
          | inr a ↦ stmts_made C l h.table laid v a refl
        ]);
        kinds = h.kinds t;
        real = h.real t;
      }

  pub code_of_table : IsCodeOf s C
  code_of_table = record {
    layout = l;
    script = body_is (suc (block_weight s.body)) s.body 0 [] _ 0 (omega arith) scalars_none h.script;
    functions = λ i f e. subst (λ (t : ℕ). BodyAs C l f.inputs f.body t) (sym (h.places i)) (body_is (suc (block_weight f.body)) f.body f.inputs [] _ (suc i) (omega arith) scalars_none (h.functions i f e));
  }
