-- Nodes of different things are different.
use Rattle.std.proofs.Common.{◌≡◌, inl, inr, ℕ, true, List, [], ◌∷◌, ◌++◌, sym, subst}
use Rattle.language.specs.Core.{Name, here, Cell, Call, Part, inner, calls, stmt, Action, declare, call_alone, assign, fill, insert, print, assert, when, choose, range, each, wait, Core}
use Rattle.language.specs.Members.{◌∈◌, first, later}
use Rattle.language.specs.Parts.{parts, part_cells, script_blocks, script_stmts}
use Rattle.language.proofs.Members.{split_in, to_left, to_right}
use Rattle.language.proofs.Tested.{distinct_right, distinct_apart, flat, flat_in, flat_once, block_nodes, action_nodes, declared_of, cell_nodes, roles_of, hidden_of, hidden_calls, name_nodes, declared_apart, hidden_distinct, stmt_once, stmt_distinct}
use Rattle.language.specs.Distinct.{distinct}
use Rattle.language_laws.specs.TypedValues.{own_parts}
use Rattle.code_laws.proofs.Scoping.{before}
use Rattle.code_laws.proofs.WholeOpenings.{part_of_stmt, call_among}

pub inner_among : (ps : List Part) {c : Cell} → inner c ∈ ps → c ∈ part_cells ps
inner_among [] h = elim h [ ]
inner_among (inner d ∷ ps) {c} h = elim (split_in h) [ inl e ↦ subst (λ (x : Cell). x ∈ (d ∷ part_cells ps)) (sym (inner_same e)) first | inr i ↦ later (inner_among ps i) ]
  where
    inner_same : {x y : Cell} → inner x ≡ inner y → x ≡ y
    inner_same h = cc
inner_among (calls d ∷ ps) h = elim (split_in h) [ inl e ↦ absurd (cc (e)) | inr i ↦ inner_among ps i ]

pub cell_node : (a : Action) {c : Cell} → inner c ∈ own_parts a → c.node ∈ cell_nodes (part_cells (parts a))
cell_node a h = flat_in (λ (d : Cell). d.node ∷ []) (part_cells (parts a)) (inner_among (parts a) (part_of_stmt a h)) first

pub hidden_call : (a : Action) {c : Call} → calls c ∈ before a → c ∈ hidden_calls a
hidden_call (call_alone p ps d) m = call_among ps m
hidden_call (declare v) m = elim m [ ]
hidden_call (assign x e) m = call_among (parts (assign x e)) (part_of_stmt (assign x e) m)
hidden_call (fill a e) m = call_among (parts (fill a e)) (part_of_stmt (fill a e) m)
hidden_call (insert a j e) m = call_among (parts (insert a j e)) m
hidden_call (print p e) m = call_among (parts (print p e)) (part_of_stmt (print p e) m)
hidden_call (assert p e) m = call_among (parts (assert p e)) (part_of_stmt (assert p e) m)
hidden_call (when c b) m = call_among (parts (when c b)) m
hidden_call (choose c b d) m = call_among (parts (choose c b d)) m
hidden_call (range lo hi st v t b) m = call_among (parts (range lo hi st v t b)) m
hidden_call (each a v t b) m = elim m [ ]
hidden_call (wait ns b) m = elim m [ ]

one_node : (c : Call) {n : ℕ} → c.outputs ≡ here n ∷ [] → n ∈ name_nodes c.outputs
one_node c {n} e = subst (λ (xs : List Name). n ∈ name_nodes xs) (sym e) first

pub hidden_node : (a : Action) {c : Call} {n : ℕ} → calls c ∈ before a → c.outputs ≡ here n ∷ [] → n ∈ hidden_of a
hidden_node a {c} m e = flat_in (λ (d : Call). name_nodes d.outputs) (hidden_calls a) (hidden_call a m) (one_node c e)

module _ (s : Core) (once : distinct (0 ∷ flat block_nodes (script_blocks s)) ≡ true) where
  in_cells : (a : Action) {x : ℕ} → x ∈ cell_nodes (part_cells (parts a)) → x ∈ action_nodes a
  in_cells a m = to_right (declared_of a) _ (to_left (cell_nodes (part_cells (parts a))) (roles_of a ++ hidden_of a) m)

  in_roles : (a : Action) {x : ℕ} → x ∈ roles_of a → x ∈ action_nodes a
  in_roles a m = to_right (declared_of a) _ (to_right (cell_nodes (part_cells (parts a))) _ (to_left (roles_of a) (hidden_of a) m))

  in_hidden : (a : Action) {x : ℕ} → x ∈ hidden_of a → x ∈ action_nodes a
  in_hidden a m = to_right (declared_of a) _ (to_right (cell_nodes (part_cells (parts a))) _ (to_right (roles_of a) (hidden_of a) m))

  action_same : {at n at' n' : ℕ} {a a' : Action} → stmt at n a ≡ stmt at' n' a' → a ≡ a'
  action_same h = cc

  same_action : {at n at' n' x : ℕ} {a a' : Action} → stmt at n a ∈ script_stmts s → stmt at' n' a' ∈ script_stmts s → x ∈ action_nodes a → x ∈ action_nodes a' → a ≡ a'
  same_action m m' i i' = action_same (stmt_once s once m m' i i')

  rest_apart : (a : Action) {x : ℕ} {A : Type 0} → distinct (action_nodes a) ≡ true → x ∈ cell_nodes (part_cells (parts a)) → x ∈ (roles_of a ++ hidden_of a) → A
  rest_apart a d i j = distinct_apart (cell_nodes (part_cells (parts a))) (roles_of a ++ hidden_of a) (distinct_right (declared_of a) _ d) i j

  pub declared_cell : {at n at' n' x : ℕ} {a a' : Action} {A : Type 0} → stmt at n a ∈ script_stmts s → stmt at' n' a' ∈ script_stmts s → x ∈ declared_of a → x ∈ cell_nodes (part_cells (parts a')) → A
  declared_cell {x = x} {a = a} {a' = a'} m m' i j =
      let q = same_action m m' (to_left (declared_of a) _ i) (in_cells a' j) in
      declared_apart a (stmt_distinct s once m) i (to_left (cell_nodes (part_cells (parts a))) _ (subst (λ (z : Action). x ∈ cell_nodes (part_cells (parts z))) (sym q) j))

  pub declared_hidden : {at n at' n' x : ℕ} {a a' : Action} {A : Type 0} → stmt at n a ∈ script_stmts s → stmt at' n' a' ∈ script_stmts s → x ∈ declared_of a → x ∈ hidden_of a' → A
  declared_hidden {x = x} {a = a} {a' = a'} m m' i j =
      let q = same_action m m' (to_left (declared_of a) _ i) (in_hidden a' j) in
      declared_apart a (stmt_distinct s once m) i (to_right (cell_nodes (part_cells (parts a))) _ (to_right (roles_of a) _ (subst (λ (z : Action). x ∈ hidden_of z) (sym q) j)))

  pub cell_hidden : {at n at' n' x : ℕ} {a a' : Action} {A : Type 0} → stmt at n a ∈ script_stmts s → stmt at' n' a' ∈ script_stmts s → x ∈ cell_nodes (part_cells (parts a)) → x ∈ hidden_of a' → A
  cell_hidden {x = x} {a = a} {a' = a'} m m' i j =
      let q = same_action m m' (in_cells a i) (in_hidden a' j) in
      rest_apart a (stmt_distinct s once m) i (to_right (roles_of a) _ (subst (λ (z : Action). x ∈ hidden_of z) (sym q) j))

  pub role_cell : {at n at' n' x : ℕ} {a a' : Action} {A : Type 0} → stmt at n a ∈ script_stmts s → stmt at' n' a' ∈ script_stmts s → x ∈ roles_of a → x ∈ cell_nodes (part_cells (parts a')) → A
  role_cell {x = x} {a = a} {a' = a'} m m' i j =
      let q = same_action m m' (in_roles a i) (in_cells a' j) in
      rest_apart a (stmt_distinct s once m) (subst (λ (z : Action). x ∈ cell_nodes (part_cells (parts z))) (sym q) j) (to_left (roles_of a) _ i)

  pub role_hidden : {at n at' n' x : ℕ} {a a' : Action} {A : Type 0} → stmt at n a ∈ script_stmts s → stmt at' n' a' ∈ script_stmts s → x ∈ roles_of a → x ∈ hidden_of a' → A
  role_hidden {x = x} {a = a} {a' = a'} m m' i j =
      let q = same_action m m' (in_roles a i) (in_hidden a' j) in
      distinct_apart (roles_of a) (hidden_of a) (distinct_right (cell_nodes (part_cells (parts a))) _ (distinct_right (declared_of a) _ (stmt_distinct s once m))) i (subst (λ (z : Action). x ∈ hidden_of z) (sym q) j)

  -- the output of a call in an expression is of no other call
  pub hidden_once : {at n at' n' x : ℕ} {a a' : Action} {c c' : Call} → stmt at n a ∈ script_stmts s → stmt at' n' a' ∈ script_stmts s → calls c ∈ before a → calls c' ∈ before a' → c.outputs ≡ here x ∷ [] → c'.outputs ≡ here x ∷ [] → c ≡ c'
  hidden_once {x = x} {a = a} {a' = a'} {c = c} {c' = c'} m m' i i' e e' =
      let q = same_action m m' (in_hidden a (hidden_node a i e)) (in_hidden a' (hidden_node a' i' e')) in
      flat_once (λ (d : Call). name_nodes d.outputs) (hidden_calls a) (hidden_distinct a (stmt_distinct s once m)) (hidden_call a i) (subst (λ (z : Action). c' ∈ hidden_calls z) (sym q) (hidden_call a' i')) (one_node c e) (one_node c' e')
