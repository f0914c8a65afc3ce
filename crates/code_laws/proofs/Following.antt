-- Cells of laid code stand behind the cells whose values they need.
use Rattle.std.proofs.Common.{◌≡◌, inl, inr, ℕ, suc, ◌<◌, ◌≤◌, ℤ, Bool, true, false, List, [], ◌∷◌, ◌++◌, length, refl, sym, ap, ◌∙◌, subst, arith, append_assoc}
use Rattle.std.specs.List.{flat_map}
use Rattle.dataflow.specs.System.{In}
use Rattle.dataflow.proofs.Lists.{in_split}
use Rattle.language.specs.Core as Co
use Rattle.language.specs.Core.{local, Name, Expr, Exprs, literal, whole, operator, none, also, compute, read, Cell, Call, Part, inner, calls, Stmt, stmt, Action, declare, call_alone, assign, fill, insert, print, assert, when, choose, range, each, wait, Core}
use Rattle.language.specs.Distinct.{distinct}
use Rattle.language.specs.Members.{◌∈◌, first, later}
use Rattle.language.specs.Parts.{block_list, parts, part_cells, script_blocks, script_stmts}
use Rattle.language.specs.Scopes.{Visible, Scope}
use Rattle.language.specs.WellFormed.{WellFormed}
use Rattle.language.proofs.Members.{split_in}
use Rattle.language.proofs.Tested.{flat, block_nodes, cell_nodes}
use Rattle.language_laws.proofs.Declared.{local_same}
use Rattle.language_laws.specs.TypedValues.{own_parts}
use Rattle.task_code.specs.Code as code
use Rattle.task_code.specs.Code.{Variable, Need, Stored, Closed, Act, Code, Entry, blank_entry, entry, body, here, is_array_name, needed, scalar}
use Rattle.task_code.specs.Exact.{needs_of}
use Rattle.code_rules.specs.CodeNames.{name_as, wanted, wanted_all}
use Rattle.code_rules.specs.IsCodeOf as of
use Rattle.code_rules.specs.IsCodeOf.{Layout, own_expr, own_needs, fill_act, simple_act, IndexAs, at_literal, at_name, at_datum, PartAs, plain_literal, plain_name, a_cell, a_read, a_call, PartsAs, no_part, one_part}
use Rattle.code_rules.specs.Laying.{Kinds}
use Rattle.code_rules.specs.Laid.{Table, StmtLaid, declares_laid, call_laid, simple_laid, branch_laid, branches_laid, range_laid, each_laid, wait_laid, StmtsLaid, none_laid, one_laid, IsLaid}
use Rattle.code_rules.specs.NodesOnce.{TellsNode, NodesOnce}
use Rattle.code_laws.proofs.Bases.{only, of_needed}
use Rattle.code_laws.proofs.Kept.{inner_among, cell_node, hidden_node, declared_cell, role_cell, cell_hidden}
use Rattle.code_laws.proofs.Led.{cell_part}
use Rattle.code_laws.proofs.Lookup.{before_own}
use Rattle.code_laws.proofs.MadeWhole.{inner_same}
use Rattle.code_laws.proofs.Needs.{flag_of, of_once}
use Rattle.code_laws.proofs.WholeOpenings.{part_of_stmt, stmt_in}
use Rattle.code_laws.proofs.Roles.{own_of}
use Rattle.code_laws.proofs.Scoping.{Comes, of_scope, of_cell, of_call, ExprComes, AllCome, before}
use Rattle.code_laws.proofs.Shapes.{body_within, within}
use Rattle.code_laws.specs.Sources.{is_cell}
use Rattle.code_laws.proofs.Ascending.{Range, Ascending, left_range, right_range}
use Rattle.code_laws.proofs.Ordered.{Among, Before, before_more, Ordered}
use Rattle.code_laws.proofs.Named.{local_of}
use Rattle.code_laws.proofs.Reading.{HasEntry, only_name}
use Rattle.code_laws.proofs.Walked.{IsVariable, Good}

-- a scalar's name is no array's
no_array : {A : Type 0} (k m : ℕ) (a : Name) → here (scalar m) ≡ name_as k true a → A
no_array k m a e = absurd (let q : true ≡ false = sym (flag_of k true a) ∙ ap is_array_name (sym e) in cc (q))

named_local : (k m : ℕ) (x : Name) → here (scalar m) ≡ name_as k false x → x.what ≡ local m
named_local k m x e =
    let r = local_of k false x.what (scalar m) (sym (ap (λ (z : code.Name). z.owned) e)) in
    r.1 ∙ ap local (sym (ap (λ (v : Variable). v.node) r.2))

-- PARTS IN ORDER

module _ (C : Code) (l : Layout) (g : Scope) (k : ℕ) (all ps : List Part) (once : (c d : Cell) → inner c ∈ all → inner d ∈ ps → c.node ≡ d.node → c ≡ d) where
  -- who gives a scalar that a cell needs: a variable, a call, or a cell before it
  pub data Given (m i : ℕ) : Type 0 where
    by_scope : (v : Visible) → v ∈ g → v.refers_to.what ≡ local m → Given m i
    by_call : (c : Call) → calls c ∈ ps → c.outputs ≡ Co.here m ∷ [] → Given m i
    by_cell : (j : ℕ) → j < i → (entry C j).node ≡ m → is_cell (entry C j).act ≡ true → Given m i

  -- what is known of the parts so far: their entries have numbers below this one
  record SoFar (a : ℕ) (qs : List Part) : Type 0 where
    among_parts : Among qs ps
    entries : (d : Cell) → inner d ∈ qs → HasEntry l d → (j : ℕ) × (j < a) × ((entry C j).node ≡ d.node) × (is_cell (entry C j).act ≡ true)
    names : (d : Cell) → inner d ∈ qs → Before g qs d.form

  of_comes : {a : ℕ} {qs : List Part} {x : Name} (m i : ℕ) → SoFar a qs → a ≤ i → x.what ≡ local m → Comes g qs x → Given m i
  of_comes m i s le e (of_scope z) = by_scope z.variable z.visible (ap (λ (y : Name). y.what) (sym z.is) ∙ e)
  of_comes m i s le e (of_cell {n = n} {i = j} {a = a} h) =
      let r = s.entries (record { node = n; form = read a j }) h (inr (a, j, refl)) in
      let less = r.1 in
      by_cell r.0 (omega arith) (r.2 ∙ local_same e) r.3
  of_comes m i s le e (of_call {n = n} {c = c} h o) = by_call c (s.among_parts (calls c) h) (subst (λ (z : ℕ). c.outputs ≡ Co.here z ∷ []) (local_same e) o)

  mutual
    of_expr : {a : ℕ} {qs : List Part} (m i : ℕ) → SoFar a qs → a ≤ i → (e : Expr) → ExprComes g qs e → (n : Need) → In n (wanted k e) → In (here (scalar m)) (needed n) → Given m i
    of_expr m i s le (literal v) c n h u = absurd h
    of_expr m i s le (Co.name x) c n h u = of_comes m i s le (named_local k m x (only_name (here (scalar m)) (name_as k false x) n (Stored (name_as k false x)) (only h) u refl)) c
    of_expr m i s le (whole x) c n h u = no_array k m x (only_name (here (scalar m)) (name_as k true x) n (Closed (name_as k true x)) (only h) u refl)
    of_expr m i s le (operator o es) c n h u = of_exprs m i s le es c n h u

    of_exprs : {a : ℕ} {qs : List Part} (m i : ℕ) → SoFar a qs → a ≤ i → (es : Exprs) → AllCome g qs es → (n : Need) → In n (wanted_all k es) → In (here (scalar m)) (needed n) → Given m i
    of_exprs m i s le none c n h u = absurd h
    of_exprs m i s le (also e es) c n h u = elim (in_split n (wanted k e) (wanted_all k es) h) [ inl j ↦ of_expr m i s le e c.0 n j u | inr j ↦ of_exprs m i s le es c.1 n j u ]

  -- the index of an element that is read
  of_index : {a x : ℕ} {qs : List Part} {y : Name} {need : Need} (m i : ℕ) → SoFar a qs → a ≤ i → (d : Cell) → inner d ∈ qs → d.node ≡ x → IndexAs C l k all y x need → In (here (scalar m)) (needed need) → Given m i
  of_index {y = y} m i s le d h e (at_literal c p) u = no_array k m y (only u)
  of_index {y = y} m i s le d h e (at_name c p) (inl q) = no_array k m y q
  of_index {qs = qs} m i s le d h e (at_name {n = n} {x = x} c p) (inr u) =
      let same = once (record { node = n; form = compute (Co.name x) }) d (cell_part all c) (s.among_parts (inner d) h) (sym e) in
      let comes : Comes g qs x = subst (λ (z : Cell). Before g qs z.form) (sym same) (s.names d h) in
      of_comes m i s le (named_local k m x (only u)) comes
  of_index {y = y} m i s le d h e (at_datum c p) (inl q) = no_array k m y q
  of_index m i s le d h e (at_datum {c = c} b p) (inr u) =
      let r = s.entries d h (inl (subst (λ (z : ℕ). l.plain z ≡ false) (sym e) p)) in
      let less = r.1 in
      by_cell r.0 (omega arith) (r.2 ∙ (e ∙ local_same (named_local k m (Co.here c.node) (only u)))) r.3

  -- ONE PART MORE

  abbrev Head : List Part → Part → Type 0
  Head qs (inner c) = Before g qs c.form
  Head qs (calls c) = Unit {0}

  head_of : (qs xs : List Part) (x : Part) → Ordered g qs (x ∷ xs) → Head qs x
  head_of qs xs (inner c) h = h.0
  head_of qs xs (calls c) h = tt

  tail_of : (qs xs : List Part) (x : Part) → Ordered g qs (x ∷ xs) → Ordered g (x ∷ qs) xs
  tail_of qs xs (inner c) h = h.1
  tail_of qs xs (calls c) h = h

  grown : {qs : List Part} (x : Part) → Among qs (x ∷ qs)
  grown x p m = later m

  among_more : {qs : List Part} (x : Part) → x ∈ ps → Among qs ps → Among (x ∷ qs) ps
  among_more x i f p m = elim (split_in m) [ inl e ↦ subst (λ (z : Part). z ∈ ps) (sym e) i | inr j ↦ f p j ]

  abbrev HeldBy : ℕ → Cell → Type 0
  HeldBy a d = (j : ℕ) × (j < a) × ((entry C j).node ≡ d.node) × (is_cell (entry C j).act ≡ true)

  with_cell : {a a' : ℕ} {qs : List Part} (c : Cell) → inner c ∈ ps → SoFar a qs → a ≤ a' → Before g qs c.form → (HasEntry l c → HeldBy a' c) → SoFar a' (inner c ∷ qs)
  with_cell {a} {a'} {qs} c i s le h f = record {
    among_parts = among_more (inner c) i s.among_parts;
    entries = λ d m e. elim (split_in m) [
      | inl q ↦ (let same = inner_same q in subst (λ (z : Cell). HeldBy a' z) (sym same) (f (subst (λ (z : Cell). HasEntry l z) same e)))
      | inr j ↦ (let r = s.entries d j e in let less = r.1 in (r.0, omega arith, r.2, r.3))
    ];
    names = λ d m. elim (split_in m) [
      | inl q ↦ subst (λ (z : Cell). Before g (inner c ∷ qs) z.form) (sym (inner_same q)) (before_more g qs (inner c ∷ qs) c.form (grown (inner c)) h)
      | inr j ↦ before_more g qs (inner c ∷ qs) d.form (grown (inner c)) (s.names d j)
    ];
  }

  with_call : {a a' : ℕ} {qs : List Part} (c : Call) → calls c ∈ ps → SoFar a qs → a ≤ a' → SoFar a' (calls c ∷ qs)
  with_call {qs = qs} c i s le = record {
    among_parts = among_more (calls c) i s.among_parts;
    entries = λ d m e. elim (split_in m) [ inl q ↦ absurd (cc (q)) | inr j ↦ (let r = s.entries d j e in let less = r.1 in (r.0, omega arith, r.2, r.3)) ];
    names = λ d m. elim (split_in m) [ inl q ↦ absurd (cc (q)) | inr j ↦ before_more g qs (calls c ∷ qs) d.form (grown (calls c)) (s.names d j) ];
  }

  no_entry : {A : Type 0} (n : ℕ) (e : Expr) → HasEntry l (record { node = n; form = compute e }) → l.plain n ≡ true → A
  no_entry n e (inl h) p = absurd (let y : true ≡ false = sym p ∙ h in cc (y))
  no_entry n e (inr h) p = absurd (let z = h.2 in cc (z))

  needs_same : (j : ℕ) (ns : List Need) (m : ℕ) → (entry C j).needs ≡ ns → In (here (scalar m)) (needs_of (entry C j)) → (n : Need) × In n ns × In (here (scalar m)) (needed n)
  needs_same j ns m e h = of_needed (here (scalar m)) ns (subst (λ (z : List Need). In (here (scalar m)) (flat_map needed z)) e h)

  at_number : (i j m : ℕ) → i ≡ j → In (here (scalar m)) (needs_of (entry C i)) → In (here (scalar m)) (needs_of (entry C j))
  at_number i j m e h = subst (λ (z : ℕ). In (here (scalar m)) (needs_of (entry C z))) e h

  -- where an entry stands behind the first part
  abbrev Rest : ℕ → List Part → Part → ℕ → List ℕ → ℕ → Type 0
  Rest b qs x i js m = (a : ℕ) → Range js a b → SoFar a (x ∷ qs) → In i js → Given m i

  step : {at : ℕ} {p : ℤ} {x : Part} {is : List ℕ} (qs : List Part) (js : List ℕ) (a b i m : ℕ) → PartAs C l k all at p x is → x ∈ ps → Head qs x → Range (is ++ js) a b → SoFar a qs → In i (is ++ js) → is_cell (entry C i).act ≡ true → In (here (scalar m)) (needs_of (entry C i))
      → Rest b qs x i js m → Given m i
  step qs js a b i m (plain_literal {n = n} {v = v} z) y h r s u cell need rec = rec a r (with_cell (record { node = n; form = compute (literal v) }) y s (omega arith) h (λ e. no_entry n (literal v) e z)) u
  step qs js a b i m (plain_name {n = n} {x = x} z) y h r s u cell need rec = rec a r (with_cell (record { node = n; form = compute (Co.name x) }) y s (omega arith) h (λ e. no_entry n (Co.name x) e z)) u
  step qs js a b i m (a_cell {n = n} {j = j} {e = e} z nd en) y h r s (inl q) cell need rec =
      let le = r.0 in
      let w = needs_same j _ m en.needs_is (at_number i j m q need) in
      of_expr m i s (subst (λ (v : ℕ). a ≤ v) (sym q) le) e h w.0 (of_once w.0 (wanted k e) w.1) w.2
  step qs js a b i m (a_cell {n = n} {j = j} {e = e} z nd en) y h r s (inr u) cell need rec =
      let le = r.0 in
      rec (suc j) r.1 (with_cell (record { node = n; form = compute e }) y s (omega arith) h (λ v. (j, omega arith, nd, subst (λ (w : Act). is_cell w ≡ true) (sym en.act_is) refl))) u
  step qs js a b i m (a_read {j = j} {need = nee} z nd ix en) y h r s (inl q) cell need rec =
      let le = r.0 in
      let w = needs_same j (nee ∷ []) m en.needs_is (at_number i j m q need) in
      of_index m i s (subst (λ (v : ℕ). a ≤ v) (sym q) le) h.0 h.1 h.2 ix (subst (λ (v : Need). In (here (scalar m)) (needed v)) (only w.1) w.2)
  step qs js a b i m (a_read {n = n} {i = x} {j = j} {a = c} z nd ix en) y h r s (inr u) cell need rec =
      let le = r.0 in
      rec (suc j) r.1 (with_cell (record { node = n; form = read c x }) y s (omega arith) h (λ v. (j, omega arith, nd, subst (λ (w : Act). is_cell w ≡ true) (sym en.act_is) refl))) u
  step qs js a b i m (a_call {c = c} {j = j} ca) y h r s (inl q) cell need rec =
      absurd (let w : false ≡ true = subst (λ (v : Act). is_cell v ≡ true) (ca.is).act_is (subst (λ (v : ℕ). is_cell (entry C v).act ≡ true) q cell) in cc (w))
  step qs js a b i m (a_call {c = c} {j = j} ca) y h r s (inr u) cell need rec = (let le = r.0 in rec (suc j) r.1 (with_call c y s (omega arith)) u)

  walk : {at : ℕ} {p : ℤ} (qs xs : List Part) {es : List ℕ} (a b i m : ℕ) → Among xs ps → Ordered g qs xs → PartsAs C l k all at p xs es → Range es a b → SoFar a qs → In i es → is_cell (entry C i).act ≡ true → In (here (scalar m)) (needs_of (entry C i)) → Given m i
  walk qs [] a b i m f h no_part r s u cell need = absurd u
  walk qs (x ∷ xs) a b i m f h (one_part {is = is} {js = js} one rest e) r s u cell need =
      step qs js a b i m one (f x first) (head_of qs xs x h) (subst (λ (z : List ℕ). Range z a b) e r) s (subst (λ (z : List ℕ). In i z) e u) cell need
      (λ a' r' s' u'. walk (x ∷ qs) xs a' b i m (λ p j. f p (later j)) (tail_of qs xs x h) rest r' s' u' cell need)

  start : (a : ℕ) → SoFar a []
  start a = record { among_parts = λ p m. elim m [ ]; entries = λ d m e. elim m [ ]; names = λ d m. elim m [ ] }

  pub in_order : {at : ℕ} {p : ℤ} {es : List ℕ} (i m : ℕ) → Ordered g [] ps → PartsAs C l k all at p ps es → Ascending es → In i es → is_cell (entry C i).act ≡ true → In (here (scalar m)) (needs_of (entry C i)) → Given m i
  in_order i m h as' r u cell need = walk [] ps r.0 r.1 i m (λ p j. j) h as' r.2 (start r.0) u cell need

-- ENTRIES OF PARTS

no_fill_cell : {A : Type 0} (l : Layout) (k : ℕ) (ms : List Need) (x : Name) (e : Expr) → is_cell (fill_act l k ms x e) ≡ true → A
no_fill_cell l k ms x (whole y) h = absurd (cc (h))
no_fill_cell l k ms x (literal y) h = absurd (cc (h))
no_fill_cell l k ms x (Co.name y) h = absurd (cc (h))
no_fill_cell l k ms x (operator y es) h = absurd (cc (h))

no_simple_cell : {A : Type 0} (l : Layout) (k : ℕ) (a : Action) → of.IsSimple a → is_cell (simple_act l k (own_needs l k a) a) ≡ true → A
no_simple_cell l k (assign x o) z h = absurd (cc (h))
no_simple_cell l k (fill x o) z h = no_fill_cell l k (own_needs l k (fill x o)) x (own_expr o) h
no_simple_cell l k (insert x i o) z h = absurd (cc (h))
no_simple_cell l k (print p o) z h = absurd (cc (h))
no_simple_cell l k (assert p o) z h = absurd (cc (h))
no_simple_cell l k (declare v) z h = absurd z
no_simple_cell l k (call_alone p ps c) z h = absurd z
no_simple_cell l k (when c b) z h = absurd z
no_simple_cell l k (choose c b d) z h = absurd z
no_simple_cell l k (range lo hi st v t b) z h = absurd z
no_simple_cell l k (each a v t b) z h = absurd z
no_simple_cell l k (wait ns b) z h = absurd z

module _ (C : Code) (l : Layout) (T : Table) where
  -- a cell's entry among those of its statement's parts, which ascend
  record Placed (k : ℕ) (st : Stmt) (i : ℕ) : Type 0 where
    at : ℕ
    priority : ℤ
    numbers : List ℕ
    parts_as : PartsAs C l k (own_of st) at priority (own_of st) numbers
    among_them : In i numbers
    ascend : Ascending numbers

  placed : {k at i : ℕ} {p : ℤ} {st : Stmt} {is es : List ℕ} (j : ℕ) → PartsAs C l k (own_of st) at p (own_of st) is → es ≡ is ++ j ∷ [] → In i es → Ascending es → (is_cell (entry C j).act ≡ true → ⊥) → is_cell (entry C i).act ≡ true → Placed k st i
  placed {i = i} {is = is} j as' e h r f cell = elim (in_split i is (j ∷ []) (subst (λ (z : List ℕ). In i z) e h)) [
    | inl u ↦ record { at = _; priority = _; numbers = is; parts_as = as'; among_them = u; ascend = (let q = left_range is (j ∷ []) r.0 r.1 (subst (λ (z : List ℕ). Range z r.0 r.1) e r.2) in (r.0, q.0, q.1)) }
    | inr u ↦ absurd (f (subst (λ (z : ℕ). is_cell (entry C z).act ≡ true) (only u) cell))
  ]

  by_act : (j : ℕ) {a : Act} → (entry C j).act ≡ a → is_cell (entry C j).act ≡ true → is_cell a ≡ true
  by_act j e h = subst (λ (z : Act). is_cell z ≡ true) e h

  none_placed : {k j i : ℕ} {st : Stmt} {es : List ℕ} → es ≡ j ∷ [] → In i es → (is_cell (entry C j).act ≡ true → ⊥) → is_cell (entry C i).act ≡ true → Placed k st i
  none_placed {i = i} e h f cell = absurd (f (subst (λ (z : ℕ). is_cell (entry C z).act ≡ true) (only (subst (λ (z : List ℕ). In i z) e h)) cell))

  stmt_placed : {k i : ℕ} {st : Stmt} {es : List ℕ} {vs : List Variable} → StmtLaid C l T k st es vs → In i es → Ascending es → is_cell (entry C i).act ≡ true → Placed k st i
  stmt_placed (declares_laid b) h r cell = absurd h
  stmt_placed (call_laid as') h r cell = record { at = _; priority = _; numbers = _; parts_as = as'; among_them = h; ascend = r }
  stmt_placed {k} (simple_laid j {a = a} z as' en q e) h r cell = placed j as' e h r (λ c. no_simple_cell l k a z (by_act j en.act_is c)) cell
  stmt_placed (branch_laid j as' en mk st e) h r cell = placed j as' e h r (λ c. absurd (let q = by_act j en.act_is c in cc (q))) cell
  stmt_placed (branches_laid j as' en mk st su e) h r cell = placed j as' e h r (λ c. absurd (let q = by_act j en.act_is c in cc (q))) cell
  stmt_placed (range_laid j as' en mk st e) h r cell = placed j as' e h r (λ c. absurd (let q = by_act j en.act_is c in cc (q))) cell
  stmt_placed (each_laid j en mk st e) h r cell = none_placed e h (λ c. absurd (let q = by_act j en.act_is c in cc (q))) cell
  stmt_placed (wait_laid j hd en st e) h r cell = none_placed e h (λ c. absurd (let q = by_act j en.act_is c in cc (q))) cell

  -- the statement that a cell's entry is of
  stmts_placed : {k i : ℕ} {sts : List Stmt} {es : List ℕ} {own : List Variable} → StmtsLaid C l T k sts es own → In i es → Ascending es → is_cell (entry C i).act ≡ true → (st : Stmt) × (st ∈ sts) × Placed k st i
  stmts_placed none_laid h r cell = absurd h
  stmts_placed {i = i} (one_laid {st = st} {is = is} {js = js} one rest e q) h r cell = elim (in_split i is js (subst (λ (z : List ℕ). In i z) e h)) [
    | inl u ↦ (let a = left_range is js r.0 r.1 (subst (λ (z : List ℕ). Range z r.0 r.1) e r.2) in (st, first, stmt_placed one u (r.0, a.0, a.1) cell))
    | inr u ↦ (let a = right_range is js r.0 r.1 (subst (λ (z : List ℕ). Range z r.0 r.1) e r.2) in let x = stmts_placed rest u (a.0, r.1, a.1) cell in (x.0, later x.1, x.2))
  ]

  -- the cell that it is of
  part_cell : {k at : ℕ} {p : ℤ} {all : List Part} {x : Part} {is : List ℕ} (i : ℕ) → PartAs C l k all at p x is → In i is → is_cell (entry C i).act ≡ true → (c : Cell) × (x ≡ inner c) × ((entry C i).node ≡ c.node)
  part_cell i (plain_literal z) h cell = absurd h
  part_cell i (plain_name z) h cell = absurd h
  part_cell i (a_cell {j = j} z nd en) h cell = (_, refl, ap (λ (v : ℕ). (entry C v).node) (only h) ∙ nd)
  part_cell i (a_read {j = j} z nd ix en) h cell = (_, refl, ap (λ (v : ℕ). (entry C v).node) (only h) ∙ nd)
  part_cell i (a_call {j = j} ca) h cell = absurd (let w : false ≡ true = subst (λ (v : Act). is_cell v ≡ true) (ca.is).act_is (subst (λ (v : ℕ). is_cell (entry C v).act ≡ true) (only h) cell) in cc (w))

  parts_cell : {k at : ℕ} {p : ℤ} {all xs : List Part} {es : List ℕ} (i : ℕ) → PartsAs C l k all at p xs es → In i es → is_cell (entry C i).act ≡ true → (c : Cell) × (inner c ∈ xs) × ((entry C i).node ≡ c.node)
  parts_cell i no_part h cell = absurd h
  parts_cell i (one_part {x = x} {xs = xs} {is = is} {js = js} one rest e) h cell = elim (in_split i is js (subst (λ (z : List ℕ). In i z) e h)) [
    | inl u ↦ (let r = part_cell i one u cell in (r.0, subst (λ (z : Part). z ∈ (x ∷ xs)) r.1 first, r.2))
    | inr u ↦ (let r = parts_cell i rest u cell in (r.0, later r.1, r.2))
  ]

  -- THE PARTS BUT A CALL THAT IS THE STATEMENT

  split_parts : {k at : ℕ} {p : ℤ} {all qs : List Part} {es : List ℕ} (ps : List Part) → PartsAs C l k all at p (ps ++ qs) es → (is : List ℕ) × (js : List ℕ) × (es ≡ is ++ js) × PartsAs C l k all at p ps is × PartsAs C l k all at p qs js
  split_parts {es = es} [] h = ([], es, refl, no_part, h)
  split_parts (x ∷ ps) (one_part {is = is} one rest e) =
      let r = split_parts ps rest in
      (is ++ r.0, r.1, e ∙ (ap (λ (z : List ℕ). is ++ z) r.2 ∙ sym (append_assoc is r.0 r.1)), one_part one r.3 refl, r.4)

  record Front (k : ℕ) (a : Action) (i : ℕ) : Type 0 where
    at : ℕ
    priority : ℤ
    numbers : List ℕ
    parts_as : PartsAs C l k (own_parts a) at priority (before a) numbers
    among_them : In i numbers
    ascend : Ascending numbers

  no_cell : {A : Type 0} {c : Call} {d : Cell} → inner d ∈ (calls c ∷ []) → A
  no_cell m = elim (split_in m) [ inl q ↦ absurd (cc (q)) | inr j ↦ elim j [ ] ]

  all_front : {k at n i : ℕ} (a : Action) → own_parts a ≡ before a → Placed k (stmt at n a) i → Front k a i
  all_front {k} a e x = record {
    at = x.at;
    priority = x.priority;
    numbers = x.numbers;
    parts_as = subst (λ (z : List Part). PartsAs C l k (own_parts a) x.at x.priority z x.numbers) e x.parts_as;
    among_them = x.among_them;
    ascend = x.ascend;
  }

  alone_front : {k at n i : ℕ} (p : ℤ) (ps : List Part) (c : Call) → Placed k (stmt at n (call_alone p ps c)) i → is_cell (entry C i).act ≡ true → Front k (call_alone p ps c) i
  alone_front {i = i} p ps c x cell =
      let r = split_parts ps x.parts_as in
      let q = left_range r.0 r.1 (x.ascend).0 (x.ascend).1 (subst (λ (z : List ℕ). Range z (x.ascend).0 (x.ascend).1) r.2 (x.ascend).2) in
      record {
        at = x.at;
        priority = x.priority;
        numbers = r.0;
        parts_as = r.3;
        among_them = elim (in_split i r.0 r.1 (subst (λ (z : List ℕ). In i z) r.2 x.among_them)) [ inl u ↦ u | inr u ↦ no_cell (parts_cell i r.4 u cell).1 ];
        ascend = ((x.ascend).0, q.0, q.1);
      }

  fronted : {k at n i : ℕ} (a : Action) → Placed k (stmt at n a) i → is_cell (entry C i).act ≡ true → Front k a i
  fronted (call_alone p ps c) x cell = alone_front p ps c x cell
  fronted (declare v) x cell = all_front (declare v) refl x
  fronted (assign y o) x cell = all_front (assign y o) refl x
  fronted (fill y o) x cell = all_front (fill y o) refl x
  fronted (insert y j o) x cell = all_front (insert y j o) refl x
  fronted (print p o) x cell = all_front (print p o) refl x
  fronted (assert p o) x cell = all_front (assert p o) refl x
  fronted (when c b) x cell = all_front (when c b) refl x
  fronted (choose c b d) x cell = all_front (choose c b d) refl x
  fronted (range lo hi st v t b) x cell = all_front (range lo hi st v t b) refl x
  fronted (each y v t b) x cell = all_front (each y v t b) refl x
  fronted (wait ns b) x cell = all_front (wait ns b) refl x

-- ALL CELLS

tells_cell : (a : Act) → is_cell a ≡ true → TellsNode a
tells_cell (code.Cell e) h = tt
tells_cell code.Read h = tt
tells_cell (code.Call b rs os) h = absurd (cc (h))
tells_cell (code.Set x e) h = absurd (cc (h))
tells_cell (code.Fill x es) h = absurd (cc (h))
tells_cell (code.Copy x) h = absurd (cc (h))
tells_cell (code.InsertElement x i e) h = absurd (cc (h))
tells_cell (code.Print e) h = absurd (cc (h))
tells_cell (code.Assert e) h = absurd (cc (h))
tells_cell (code.If e b d) h = absurd (cc (h))
tells_cell (code.Range lo hi st w) h = absurd (cc (h))
tells_cell (code.Each w) h = absurd (cc (h))
tells_cell (code.Wait hs b) h = absurd (cc (h))

module _ {s : Core} {fs : List Kinds} {ds : List (ℕ × Bool)} (C : Code) (l : Layout) (L : IsLaid s fs ds C l) (ascend : (t : ℕ) → Ascending (body C t).entries) (good : (st : Stmt) → st ∈ script_stmts s → Good s st)
    (formed : WellFormed s) (nodes : NodesOnce C) (distinct_nodes : distinct (0 ∷ flat block_nodes (script_blocks s)) ≡ true) where
  abbrev T : Table
  T = L.table

  -- where a cell's entry stands
  record Home (i : ℕ) : Type 0 where
    home : ℕ
    stands : In i (body C home).entries
    at : ℕ
    node : ℕ
    action : Action
    there : stmt at node action ∈ script_stmts s
    front : Front C l T (T.inputs_of home) action i

  home_of : (i : ℕ) → is_cell (entry C i).act ≡ true → Home i
  home_of i cell = elim (within blank_entry C.entries i) [
    | inl lt ↦ (let r = L.stands i lt in by r.0 r.1)
    | inr e ↦ absurd (let q : false ≡ true = subst (λ (z : Entry). is_cell z.act ≡ true) e cell in cc (q))
  ]
    where
      by : (t : ℕ) → In i (body C t).entries → Home i
      by t h = of_stmt x.0 (stmt_in C l L t lt x.1) x.2
        where
          lt : t < length C.bodies
          lt = body_within C t i h

          x : (st : Stmt) × (st ∈ block_list (T.block_of t)) × Placed C l T (T.inputs_of t) st i
          x = stmts_placed C l T (L.bodies t lt).stmts h (ascend t) cell

          of_stmt : (st : Stmt) → st ∈ script_stmts s → Placed C l T (T.inputs_of t) st i → Home i
          of_stmt (stmt at n a) m y = record { home = t; stands = h; at = at; node = n; action = a; there = m; front = fronted C l T a y cell }

  cell_once : {at n : ℕ} {a : Action} → stmt at n a ∈ script_stmts s → (c d : Cell) → inner c ∈ own_parts a → inner d ∈ before a → c.node ≡ d.node → c ≡ d
  cell_once {at} {n} {a} m c d i j e = (formed.cells.cell_once (stmt at n a) (stmt at n a) c d m m (in_cells i) (in_cells (before_own a j)) e).1
    where
      in_cells : {x : Cell} → inner x ∈ own_parts a → x ∈ part_cells (parts a)
      in_cells u = inner_among (parts a) (part_of_stmt a u)

  -- CELLS FOLLOW
  pub follow : (i j : ℕ) → is_cell (entry C i).act ≡ true → is_cell (entry C j).act ≡ true → In (here (scalar (entry C j).node)) (needs_of (entry C i)) → j < i
  follow i j ci cj need = (let x = home_of i ci in let y = home_of j cj in by x y (good (stmt x.at x.node x.action) x.there))
    where
      by : (x : Home i) → (y : Home j) → Good s (stmt x.at x.node x.action) → j < i
      by x y g = of_given (in_order C l g.scope (T.inputs_of x.home) (own_parts x.action) (before x.action) (cell_once x.there) i (entry C j).node g.ordered (x.front).parts_as (x.front).ascend (x.front).among_them ci need)
        where
          own : (d : Cell) × (inner d ∈ before y.action) × ((entry C j).node ≡ d.node)
          own = parts_cell C l T j (y.front).parts_as (y.front).among_them cj

          node_in : (entry C j).node ∈ cell_nodes (part_cells (parts y.action))
          node_in = subst (λ (z : ℕ). z ∈ cell_nodes (part_cells (parts y.action))) (sym own.2) (cell_node y.action (before_own y.action own.1))

          no_variable : IsVariable s (entry C j).node → j < i
          no_variable v = elim v.of [ inl m ↦ declared_cell s distinct_nodes v.there y.there m node_in | inr m ↦ role_cell s distinct_nodes v.there y.there m node_in ]

          of_given : Given C l g.scope (T.inputs_of x.home) (own_parts x.action) (before x.action) (cell_once x.there) (entry C j).node i → j < i
          of_given (by_scope v m e) = no_variable (g.known v m (entry C j).node e)
          of_given (by_call d m o) = cell_hidden s distinct_nodes y.there x.there node_in (hidden_node x.action m o)
          of_given (by_cell k less q ck) =
              let z = home_of k ck in
              subst (λ (n : ℕ). n < i) (nodes z.home y.home k j z.stands y.stands (tells_cell (entry C k).act ck) (tells_cell (entry C j).act cj) q) less
