-- Each block of a script with numbers in their places declares a node at most once.
use Rattle.std.specs.Prelude.{◌≡◌, ℕ, zero, suc, ◌+◌, ◌≤◌, Bool, true, false, List, [], ◌∷◌, ◌++◌, Option, Some, None, option_to_list, slice_get, nat_eq, cond, refl}
use Rattle.std.specs.List.{flat_map}
use Rattle.std.proofs.Common.{inl, inr, sym, subst, arith}
use Rattle.std.proofs.lemmas.Bool.{eqb-true}
use Rattle.language.specs.Core.{Owned, local, input, output, Name, Call, Part, inner, calls, stmt, Action, declare, call_alone, assign, fill, insert, print, assert, when, choose, range, each, wait, Block, no_stmts, stmts, Function, Core}
use Rattle.language.specs.Members.{◌∈◌}
use Rattle.language.specs.Parts.{block_list, parts, part_cells, part_calls, blocks_below, blocks_inside, function_blocks, script_blocks}
use Rattle.language.proofs.Members.{split_in}
use Rattle.language.proofs.Tested as tested
use Rattle.language.proofs.Tested.{flat, cell_nodes, declared_of, with_turn, roles_of, hidden_of, local_node, name_nodes}
use Rattle.language.specs.Distinct.{distinct}
use Rattle.language.proofs.TreeNumbers.{hit, hit_self, times, times-append, times-flat, part_times, call_nodes}
use Rattle.language_accepted.proofs.Rising.{here_or_none}
use Rattle.flow.specs.Names.{nodes_here, here_nodes, part_nodes, action_nodes, block_nodes, Opened, opens}
use Rattle.flow.specs.Whole as counted
use Rattle.flow.specs.Whole.{Owner, opened_owner, script_owner, function_owner, in_content, IsWithin, of_script, of_function, in_wait, opened}

-- the two ways to count
no_both : {A : Type 0} {b : Bool} → b ≡ true → b ≡ false → A
no_both h k = absurd (cc (h, k))

pub same_times : (n : ℕ) (xs : List ℕ) → counted.times n xs ≡ times n xs
same_times n [] = refl
same_times n (x ∷ xs) = by (nat_eq n x) refl (same_times n xs)
  where
    by : (b : Bool) → nat_eq n x ≡ b → counted.times n xs ≡ times n xs → cond b (suc (counted.times n xs)) (counted.times n xs) ≡ hit n x + times n xs
    by true e r = let q : hit n x ≡ 1 = subst (λ (z : ℕ). hit n z ≡ 1) (eqb-true n x e) (hit_self n) in omega arith
    by false e r = let q : hit n x ≡ 0 = here_or_none n x (hit n x ≡ 0) (λ s. no_both (subst (λ (z : ℕ). nat_eq n z ≡ true) s (tested.self_eq n)) e) (λ z. z) in omega arith

module _ (n : ℕ) where
  -- how often a number is a node of a block and of those inside it, and of a statement
  abbrev pub whole : Block → ℕ
  whole b = times n (tested.block_nodes b) + times n (flat tested.block_nodes (blocks_below b))

  abbrev pub inside : Action → ℕ
  inside a = times n (tested.action_nodes a) + times n (flat tested.block_nodes (blocks_inside a))

  front : (at m : ℕ) (a : Action) (b : Block) → whole (stmts (stmt at m a) b) ≡ inside a + whole b
  front at m a b =
      let x = times-append n (tested.action_nodes a) (tested.block_nodes b) in
      let y = times-flat tested.block_nodes n (blocks_inside a) (blocks_below b) in
      omega arith

  with_inner : (b : Block) → times n (flat tested.block_nodes (b ∷ blocks_below b)) ≡ whole b
  with_inner b = times-append n (tested.block_nodes b) (flat tested.block_nodes (blocks_below b))

  -- WHAT PARTS DECLARE

  here_few : (up : ℕ) (x : Owned) → times n (nodes_here up x) ≤ times n (local_node x)
  here_few zero (local m) = omega arith
  here_few zero (input i) = omega arith
  here_few zero (output i) = omega arith
  here_few (suc up) (local m) = omega arith
  here_few (suc up) (input i) = omega arith
  here_few (suc up) (output i) = omega arith

  names_few : (xs : List Name) → times n (flat_map here_nodes xs) ≤ times n (name_nodes xs)
  names_few [] = omega arith
  names_few (x ∷ xs) =
      let r = names_few xs in
      let h = here_few x.up x.what in
      let a = times-append n (here_nodes x) (flat_map here_nodes xs) in
      let b = times-append n (local_node x.what) (name_nodes xs) in
      omega arith

  parts_few : (ps : List Part) → times n (flat_map part_nodes ps) ≤ part_times n ps
  parts_few [] = omega arith
  parts_few (inner c ∷ ps) = let r = parts_few ps in omega arith
  parts_few (calls c ∷ ps) =
      let r = parts_few ps in
      let h = names_few c.outputs in
      let a = times-append n (flat_map here_nodes c.outputs) (flat_map part_nodes ps) in
      let b = times-append n (name_nodes c.outputs) (call_nodes (part_calls ps)) in
      omega arith

  cells_alone : (ps : List Part) (c : Call) → times n (cell_nodes (part_cells (ps ++ calls c ∷ []))) ≡ times n (cell_nodes (part_cells ps))
  cells_alone [] c = refl
  cells_alone (inner d ∷ ps) c = let e = cells_alone ps c in omega arith
  cells_alone (calls d ∷ ps) c = cells_alone ps c

  -- WHAT STATEMENTS DECLARE

  own_few : (a : Action) (ps : List Part) → part_times n ps ≤ times n (cell_nodes (part_cells (parts a))) + times n (hidden_of a) → times n (flat_map part_nodes ps) ≤ times n (tested.action_nodes a)
  own_few a ps h =
      let p = parts_few ps in
      let x = times-append n (declared_of a) (cell_nodes (part_cells (parts a)) ++ (roles_of a ++ hidden_of a)) in
      let y = times-append n (cell_nodes (part_cells (parts a))) (roles_of a ++ hidden_of a) in
      let z = times-append n (roles_of a) (hidden_of a) in
      omega arith

  action_few : (a : Action) → times n (action_nodes a) ≤ times n (tested.action_nodes a)
  action_few (declare v) = omega arith
  action_few (call_alone p ps c) = let e = cells_alone ps c in let h = own_few (call_alone p ps c) ps (omega arith) in omega arith
  action_few (assign x e) = let h = own_few (assign x e) (parts (assign x e)) (omega arith) in omega arith
  action_few (fill x e) = let h = own_few (fill x e) (parts (fill x e)) (omega arith) in omega arith
  action_few (insert x k e) = let h = own_few (insert x k e) (parts (insert x k e)) (omega arith) in omega arith
  action_few (print p e) = let h = own_few (print p e) (parts (print p e)) (omega arith) in omega arith
  action_few (assert p e) = let h = own_few (assert p e) (parts (assert p e)) (omega arith) in omega arith
  action_few (when c b) = let h = own_few (when c b) (parts (when c b)) (omega arith) in omega arith
  action_few (choose c b d) = let h = own_few (choose c b d) (parts (choose c b d)) (omega arith) in omega arith
  action_few (range lo hi st v k b) = let h = own_few (range lo hi st v k b) (parts (range lo hi st v k b)) (omega arith) in omega arith
  action_few (each x v k b) = omega arith
  action_few (wait xs b) = omega arith

  block_few : (b : Block) → times n (block_nodes b) ≤ times n (tested.block_nodes b)
  block_few no_stmts = omega arith
  block_few (stmts (stmt at m a) b) =
      let h = action_few a in
      let k = block_few b in
      let x = times-append n (action_nodes a) (block_nodes b) in
      let y = times-append n (tested.action_nodes a) (tested.block_nodes b) in
      omega arith

  -- BLOCKS

  action_same : {at m at' m' : ℕ} {a a' : Action} → stmt at m a ≡ stmt at' m' a' → a ≡ a'
  action_same h = cc

  stmt_within : {at m : ℕ} {a : Action} (b : Block) → stmt at m a ∈ block_list b → inside a ≤ whole b
  stmt_within no_stmts i = elim i [ ]
  stmt_within {a = a} (stmts (stmt at' m' a') b) i =
      let f = front at' m' a' b in
      elim (split_in i) [
        | inl e ↦ subst (λ (z : Action). inside z ≤ whole (stmts (stmt at' m' a') b)) (sym (action_same e)) (omega arith)
        | inr j ↦ (let r = stmt_within b j in omega arith)
      ]

  -- the blocks that a statement opens are below its block
  abbrev below : Block → ℕ
  below b = times n (flat tested.block_nodes (blocks_below b))

  abbrev opening : Action → ℕ
  opening a = times n (flat tested.block_nodes (blocks_inside a))

  opening_below : {at m : ℕ} {a : Action} (b : Block) → stmt at m a ∈ block_list b → opening a ≤ below b
  opening_below no_stmts i = elim i [ ]
  opening_below {a = a} (stmts (stmt at' m' a') b) i =
      let y = times-flat tested.block_nodes n (blocks_inside a') (blocks_below b) in
      elim (split_in i) [
        | inl e ↦ subst (λ (z : Action). opening z ≤ below (stmts (stmt at' m' a') b)) (sym (action_same e)) (omega arith)
        | inr j ↦ (let r = opening_below b j in omega arith)
      ]

  variables_times : (v : ℕ) (k : Option ℕ) → times n (v ∷ option_to_list k) ≡ times n (with_turn v k)
  variables_times v None = refl
  variables_times v (Some t) = refl

  roles_few : (a : Action) → times n (roles_of a) ≤ times n (tested.action_nodes a)
  roles_few a =
      let x = times-append n (declared_of a) (cell_nodes (part_cells (parts a)) ++ (roles_of a ++ hidden_of a)) in
      let y = times-append n (cell_nodes (part_cells (parts a))) (roles_of a ++ hidden_of a) in
      let z = times-append n (roles_of a) (hidden_of a) in
      omega arith

  abbrev opened_times : Opened → ℕ
  opened_times o = times n o.variables + whole o.block

  opened_within : (a : Action) (o : Opened) → o ∈ opens a → opened_times o ≤ inside a
  opened_within (when c b) o m = elim (split_in m) [ inl e ↦ subst (λ (z : Opened). opened_times z ≤ inside (when c b)) (sym e) (let i = with_inner b in omega arith) | inr j ↦ elim j [ ] ]
  opened_within (choose c b d) o m =
      let i = with_inner b in
      let j = with_inner d in
      let k = times-flat tested.block_nodes n (b ∷ blocks_below b) (d ∷ blocks_below d) in
      elim (split_in m) [
        | inl e ↦ subst (λ (z : Opened). opened_times z ≤ inside (choose c b d)) (sym e) (omega arith)
        | inr l ↦ elim (split_in l) [ inl e ↦ subst (λ (z : Opened). opened_times z ≤ inside (choose c b d)) (sym e) (omega arith) | inr q ↦ elim q [ ] ]
      ]
  opened_within (range lo hi st v k b) o m = elim (split_in m) [
    | inl e ↦ subst (λ (z : Opened). opened_times z ≤ inside (range lo hi st v k b)) (sym e) (let i = with_inner b in let r = roles_few (range lo hi st v k b) in let x = variables_times v k in omega arith)
    | inr j ↦ elim j [ ]
  ]
  opened_within (each a v k b) o m = elim (split_in m) [
    | inl e ↦ subst (λ (z : Opened). opened_times z ≤ inside (each a v k b)) (sym e) (let i = with_inner b in let r = roles_few (each a v k b) in let x = variables_times v k in omega arith)
    | inr j ↦ elim j [ ]
  ]
  opened_within (declare v) o m = elim m [ ]
  opened_within (call_alone p ps c) o m = elim m [ ]
  opened_within (assign x e) o m = elim m [ ]
  opened_within (fill x e) o m = elim m [ ]
  opened_within (insert x k e) o m = elim m [ ]
  opened_within (print p e) o m = elim m [ ]
  opened_within (assert p e) o m = elim m [ ]
  opened_within (wait xs b) o m = elim m [ ]

  same_function : {x y : Function} → Some x ≡ Some y → x ≡ y
  same_function h = cc

  function_within : (fs : List Function) (i : ℕ) (f : Function) → slice_get fs i ≡ Some f → whole f.body ≤ times n (flat tested.block_nodes (function_blocks fs))
  function_within [] zero f e = absurd (cc (e))
  function_within [] (suc i) f e = absurd (cc (e))
  function_within (g ∷ fs) zero f e =
      let x = times-flat tested.block_nodes n (g.body ∷ blocks_below g.body) (function_blocks fs) in
      let y = with_inner g.body in
      subst (λ (z : Function). whole z.body ≤ times n (flat tested.block_nodes (function_blocks (g ∷ fs)))) (same_function e) (omega arith)
  function_within (g ∷ fs) (suc i) f e =
      let r = function_within fs i f e in
      let x = times-flat tested.block_nodes n (g.body ∷ blocks_below g.body) (function_blocks fs) in
      omega arith

  abbrev pub total : Core → ℕ
  total s = times n (flat tested.block_nodes (script_blocks s))

  pub block_within : (s : Core) {os : List Owner} {b : Block} → IsWithin s os b → whole b ≤ total s
  block_within s of_script =
      let x = times-flat tested.block_nodes n (s.body ∷ blocks_below s.body) (function_blocks s.functions) in
      let y = with_inner s.body in
      omega arith
  block_within s (of_function i {f = f} e) =
      let x = times-flat tested.block_nodes n (s.body ∷ blocks_below s.body) (function_blocks s.functions) in
      let y = function_within s.functions i f e in
      omega arith
  block_within s (in_wait {b = b} {c = c} {xs = xs} w m) =
      let r = block_within s w in
      let x = stmt_within b m in
      let y = with_inner c in
      omega arith
  block_within s (opened {b = b} {a = a} {o = o} w m i) =
      let r = block_within s w in
      let x = stmt_within b m in
      let y = opened_within a o i in
      omega arith

  -- each of the owners of a block declares a number at most once
  abbrev pub OwnersFew : List Owner → Type 0
  OwnersFew os = (k : ℕ) (o : Owner) → slice_get os k ≡ Some o → times n o.nodes ≤ 1

  same_owner : {x y : Owner} → Some x ≡ Some y → x ≡ y
  same_owner h = cc

  one_few : (o : Owner) (os : List Owner) → times n o.nodes ≤ 1 → OwnersFew os → OwnersFew (o ∷ os)
  one_few o os h k zero p e = subst (λ (z : Owner). times n z.nodes ≤ 1) (same_owner e) h
  one_few o os h k (suc i) p e = k i p e

  none_few : OwnersFew []
  none_few zero p e = absurd (cc (e))
  none_few (suc i) p e = absurd (cc (e))

  -- what the innermost owner of a block declares, with all that stands below the block
  abbrev within : List Owner → ℕ
  within [] = 0
  within (o ∷ os) = times n o.nodes

  content_within : (c : Block) (os : List Owner) → within (in_content c os) ≤ times n (block_nodes c) + within os
  content_within c [] = omega arith
  content_within c (o ∷ os) = let x = times-append n (block_nodes c) o.nodes in omega arith

  owner_within : (s : Core) {os : List Owner} {b : Block} → IsWithin s os b → within os + below b ≤ total s
  owner_within s of_script = let f = block_few s.body in let w = block_within s of_script in omega arith
  owner_within s (of_function i {f = f} e) = let h = block_few f.body in let w = block_within s (of_function i {f = f} e) in omega arith
  owner_within s (in_wait {os = os} {b = b} {c = c} {xs = xs} w m) =
      let r = owner_within s w in
      let f = block_few c in
      let x = opening_below b m in
      let y = with_inner c in
      let z = content_within c os in
      omega arith
  owner_within s (opened {b = b} {a = a} {o = o} w m i) =
      let f = block_few o.block in
      let r = block_within s w in
      let x = stmt_within b m in
      let y = opened_within a o i in
      let z = times-append n o.variables (block_nodes o.block) in
      omega arith

  content_few : (c : Block) (os : List Owner) → within (in_content c os) ≤ 1 → OwnersFew os → OwnersFew (in_content c os)
  content_few c [] l h = none_few
  content_few c (o ∷ os) l h = one_few (record { inputs = o.inputs; outputs = o.outputs; nodes = block_nodes c ++ o.nodes }) os l (λ k p e. h (suc k) p e)

  pub owners_few : (s : Core) → total s ≤ 1 → {os : List Owner} {b : Block} → IsWithin s os b → OwnersFew os
  owners_few s l of_script = let w = owner_within s of_script in one_few (script_owner s) [] (omega arith) none_few
  owners_few s l (of_function i {f = f} e) = let w = owner_within s (of_function i {f = f} e) in one_few (function_owner f) [] (omega arith) none_few
  owners_few s l (in_wait {os = os} {c = c} w m) = let i = owner_within s (in_wait w m) in content_few c os (omega arith) (owners_few s l w)
  owners_few s l (opened {os = os} {o = o} w m i) = let r = owner_within s (opened w m i) in one_few (opened_owner o) os (omega arith) (owners_few s l w)
