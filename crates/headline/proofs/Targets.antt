-- What is a target in a statement is used by it, so many steps further out, where names stand in scope.
use Rattle.std.proofs.Common.{◌≡◌, inl, inr, ℕ, zero, suc, ◌<◌, ◌≤◌, ◌+◌, List, [], ◌∷◌, sym, ap, subst, Some, arith}
use Rattle.std.specs.Prelude.{slice_get}
use Rattle.language.specs.Core.{Owned, local, output, Name, Stmt, stmt, Action, declare, call_alone, assign, fill, insert, print, assert, when, choose, range, each, wait, Awaited, Block, no_stmts, stmts, Function, Core}
use Rattle.language.specs.Members.{◌∈◌, first, later}
use Rattle.language.specs.Parts.{block_list, blocks_below, blocks_in, blocks_inside, blocks_of, function_blocks, script_blocks, targets, targets_of, targets_in, owners}
use Rattle.language.specs.WellFormed.{IsOwnTarget, header_blocks, Declares, Uses, own, inside, in_wait, NamesFound}
use Rattle.language.proofs.Blocks.{of_below, inner_blocks, header_inner, inner_below, below_below, inner_block, own_is_target, uses_target, inside_target}
use Rattle.language.proofs.Members.{split_in, to_left, to_right, either}

-- the same of one statement
pub data UsesIn : Stmt → ℕ → Owned → Type 0 where
  own_target : {at n up : ℕ} {what : Owned} {a : Action} → IsOwnTarget (record { up = up; what = what }) a → UsesIn (stmt at n a) up what
  in_header : {at n up : ℕ} {what : Owned} {a : Action} {c : Block} → c ∈ header_blocks a → Uses c (suc up) what → UsesIn (stmt at n a) up what
  in_content : {at n up : ℕ} {what : Owned} {ns : List Awaited} {c : Block} → Uses c up what → (Declares c what → ⊥) → UsesIn (stmt at n (wait ns c)) up what

pub uses_block : {st : Stmt} {up : ℕ} {what : Owned} {b : Block} → UsesIn st up what → st ∈ block_list b → Uses b up what
uses_block (own_target h) m = own m h
uses_block (in_header c u) m = inside m c u
uses_block (in_content u d) m = in_wait m u d

pub uses_is_target : {st : Stmt} {up : ℕ} {what : Owned} → UsesIn st up what → what ∈ targets st
uses_is_target (own_target {a = a} h) = own_is_target a h
uses_is_target (in_header {at = at} {n = n} {a = a} c u) = inside_target a at n c u
uses_is_target (in_content u d) = uses_target u

-- A BLOCK IS NOT INSIDE ITSELF
abbrev mutual
  pub block_size : Block → ℕ
  block_size no_stmts = 1
  block_size (stmts s b) = suc (stmt_size s + block_size b)

  pub stmt_size : Stmt → ℕ
  stmt_size (stmt at n a) = action_size a

  pub action_size : Action → ℕ
  action_size (when c b) = block_size b
  action_size (choose c b d) = block_size b + block_size d
  action_size (range lo hi st v k b) = block_size b
  action_size (each a v k b) = block_size b
  action_size (wait ns b) = block_size b
  action_size (declare v) = 0
  action_size (call_alone p ps c) = 0
  action_size (assign x e) = 0
  action_size (fill a e) = 0
  action_size (insert a k e) = 0
  action_size (print p e) = 0
  action_size (assert p e) = 0

at_most : (b : Block) {c : Block} → (c ∈ blocks_below b → block_size c < block_size b) → c ∈ (b ∷ blocks_below b) → block_size c ≤ block_size b
at_most b {c} rec m = elim (split_in m) [ inl e ↦ (let h : block_size c ≡ block_size b = ap block_size e in omega arith) | inr i ↦ (let h = rec i in omega arith) ]

mutual
  smaller_below : (b : Block) {c : Block} → c ∈ blocks_below b → block_size c < block_size b
  smaller_below no_stmts m = elim m [ ]
  smaller_below (stmts s b) m =
      elim (either (blocks_in s) (blocks_below b) m) [ inl i ↦ (let h = smaller_in s i in omega arith) | inr i ↦ (let h = smaller_below b i in omega arith) ]

  smaller_in : (s : Stmt) {c : Block} → c ∈ blocks_in s → block_size c ≤ stmt_size s
  smaller_in (stmt at n a) m = smaller_inside a m

  smaller_inside : (a : Action) {c : Block} → c ∈ blocks_inside a → block_size c ≤ action_size a
  smaller_inside (declare v) m = elim m [ ]
  smaller_inside (call_alone p ps c) m = elim m [ ]
  smaller_inside (assign x e) m = elim m [ ]
  smaller_inside (fill a e) m = elim m [ ]
  smaller_inside (insert a k e) m = elim m [ ]
  smaller_inside (print p e) m = elim m [ ]
  smaller_inside (assert p e) m = elim m [ ]
  smaller_inside (when x b) m = at_most b (λ z. smaller_below b z) m
  smaller_inside (choose x b e) m =
      elim (either (b ∷ blocks_below b) (e ∷ blocks_below e) m) [
        | inl i ↦ (let h = at_most b (λ z. smaller_below b z) i in omega arith)
        | inr i ↦ (let h = at_most e (λ z. smaller_below e z) i in omega arith)
      ]
  smaller_inside (range lo hi st v k b) m = at_most b (λ z. smaller_below b z) m
  smaller_inside (each a v k b) m = at_most b (λ z. smaller_below b z) m
  smaller_inside (wait ns b) m = at_most b (λ z. smaller_below b z) m

pub not_inside_itself : (b : Block) → b ∈ blocks_below b → ⊥
not_inside_itself b m = (let h = smaller_below b m in absurd (omega arith))

-- nothing inside the block declares it
abbrev pub NoneInside : Block → Owned → Type 0
NoneInside b what = (c : Block) → c ∈ blocks_below b → Declares c what → ⊥

pub none_inner : (b : Block) {c : Block} {what : Owned} {at n : ℕ} {a : Action} → NoneInside b what → stmt at n a ∈ block_list b → c ∈ inner_blocks a → NoneInside c what
none_inner b none m i d h = none d (below_below b (inner_below b m i) h)

functions_below : (fs : List Function) {d c : Block} → d ∈ function_blocks fs → c ∈ blocks_below d → c ∈ function_blocks fs
functions_below [] m h = elim m [ ]
functions_below (f ∷ fs) m h =
    elim (either (blocks_of f.body) (function_blocks fs) m) [
      | inl i ↦ to_left (blocks_of f.body) (function_blocks fs) (of_below f.body (λ z. below_below (f.body) z h) i h)
      | inr i ↦ to_right (blocks_of f.body) (function_blocks fs) (functions_below fs i h)
    ]

pub below_script : (s : Core) {b c : Block} → b ∈ script_blocks s → c ∈ blocks_below b → c ∈ script_blocks s
below_script s m k =
    elim (either (blocks_of s.body) (function_blocks s.functions) m) [
      | inl j ↦ to_left (blocks_of s.body) (function_blocks s.functions) (of_below s.body (λ z. below_below s.body z k) j k)
      | inr j ↦ to_right (blocks_of s.body) (function_blocks s.functions) (functions_below s.functions j k)
    ]

owner_in : (xs : List Name) {what : Owned} → what ∈ owners xs → (x : Name) × (x ∈ xs) × (x.what ≡ what)
owner_in [] m = elim m [ ]
owner_in (x ∷ xs) m = elim (split_in m) [ inl e ↦ (x, first, sym e) | inr i ↦ (let r = owner_in xs i in (r.0, later r.1, r.2)) ]

module _ (s : Core) (w : NamesFound s) (what : Owned) where
  abbrev Found : Stmt → Type 0
  Found st = (up : ℕ) × UsesIn st up what

  own_found : (at n : ℕ) (a : Action) (x : Name) → IsOwnTarget x a → x.what ≡ what → Found (stmt at n a)
  own_found at n a x t e = (x.up, subst (λ (z : Owned). UsesIn (stmt at n a) x.up z) e (own_target t))

  header_found : (at n : ℕ) (a : Action) (b c : Block) → b ∈ script_blocks s → stmt at n a ∈ block_list b → NoneInside b what → c ∈ header_blocks a → (up : ℕ) → Uses c up what → Found (stmt at n a)
  header_found at n a b c bs m none h zero u = absurd (none c (inner_below b m (header_inner a h)) (w.header_names b c at n a what bs m h u))
  header_found at n a b c bs m none h (suc up) u = (up, in_header h u)

  mutual
    uses_among : (xs b : Block) → ((st : Stmt) → st ∈ block_list xs → st ∈ block_list b) → b ∈ script_blocks s → NoneInside b what → what ∈ targets_in xs → (up : ℕ) × Uses b up what
    uses_among no_stmts b sub bs none m = elim m [ ]
    uses_among (stmts st xs) b sub bs none m =
        elim (either (targets st) (targets_in xs) m) [
          | inl i ↦ (let r = uses_stmt st b (sub st first) bs none i in (r.0, uses_block r.1 (sub st first)))
          | inr i ↦ uses_among xs b (λ z j. sub z (later j)) bs none i
        ]

    -- A TARGET IS USED
    pub uses_stmt : (st : Stmt) (b : Block) → st ∈ block_list b → b ∈ script_blocks s → NoneInside b what → what ∈ targets st → Found st
    uses_stmt (stmt at n a) b m bs none i = uses_action at n a b m bs none i

    uses_action : (at n : ℕ) (a : Action) (b : Block) → stmt at n a ∈ block_list b → b ∈ script_blocks s → NoneInside b what → what ∈ targets_of a → Found (stmt at n a)
    uses_action at n (declare v) b m bs none i = elim i [ ]
    uses_action at n (call_alone p ps c) b m bs none i = (let r = owner_in c.outputs i in own_found at n (call_alone p ps c) r.0 (inl r.1) r.2)
    uses_action at n (assign x e) b m bs none i = (let r = owner_in (x ∷ []) i in own_found at n (assign x e) r.0 (inl r.1) r.2)
    uses_action at n (fill x e) b m bs none i = (let r = owner_in (x ∷ []) i in own_found at n (fill x e) r.0 (inl r.1) r.2)
    uses_action at n (insert x k e) b m bs none i = (let r = owner_in (x ∷ []) i in own_found at n (insert x k e) r.0 (inr r.1) r.2)
    uses_action at n (print p e) b m bs none i = elim i [ ]
    uses_action at n (assert p e) b m bs none i = elim i [ ]
    uses_action at n (when x c) b m bs none i =
        let r = uses_among c c (λ z j. j) (inner_block s bs m first) (none_inner b none m first) i in
        header_found at n (when x c) b c bs m none first r.0 r.1
    uses_action at n (choose x c d) b m bs none i =
        elim (either (targets_in c) (targets_in d) i) [
          | inl j ↦ (let r = uses_among c c (λ z j. j) (inner_block s bs m first) (none_inner b none m first) j in header_found at n (choose x c d) b c bs m none first r.0 r.1)
          | inr j ↦ (let r = uses_among d d (λ z j. j) (inner_block s bs m (later first)) (none_inner b none m (later first)) j in header_found at n (choose x c d) b d bs m none (later first) r.0 r.1)
        ]
    uses_action at n (range lo hi st v k c) b m bs none i =
        let r = uses_among c c (λ z j. j) (inner_block s bs m first) (none_inner b none m first) i in
        header_found at n (range lo hi st v k c) b c bs m none first r.0 r.1
    uses_action at n (each x v k c) b m bs none i =
        let r = uses_among c c (λ z j. j) (inner_block s bs m first) (none_inner b none m first) i in
        header_found at n (each x v k c) b c bs m none first r.0 r.1
    uses_action at n (wait ns c) b m bs none i =
        let r = uses_among c c (λ z j. j) (inner_block s bs m first) (none_inner b none m first) i in
        (r.0, in_content r.1 (λ d. none c (inner_below b m first) d))

  -- AND AT ONE DEPTH
  -- what is used in a block is used so many steps further out
  abbrev pub OnlyAt : Block → ℕ → Type 0
  OnlyAt b up = (u : ℕ) → Uses b u what → u ≡ up

  pub only_declared : (b : Block) → b ∈ script_blocks s → Declares b what → OnlyAt b 0
  only_declared b bs d u us = w.wait_names b u what bs us d

  pub only_output : (i : ℕ) (f : Function) → slice_get s.functions i ≡ Some f → OnlyAt f.body 0
  only_output i f q u us = (w.function_names i f u what q us).0

  pub only_header : {b c : Block} {at n up : ℕ} {a : Action} → b ∈ script_blocks s → NoneInside b what → stmt at n a ∈ block_list b → c ∈ header_blocks a → OnlyAt b up → OnlyAt c (suc up)
  only_header {b} {c} {at} {n} {up} {a} bs none m h rec zero us = absurd (none c (inner_below b m (header_inner a h)) (w.header_names b c at n a what bs m h us))
  only_header bs none m h rec (suc u) us = ap suc (rec u (inside m h us))

  pub only_wait : {b c : Block} {at n up : ℕ} {ns : List Awaited} → NoneInside b what → stmt at n (wait ns c) ∈ block_list b → OnlyAt b up → OnlyAt c up
  only_wait {b} {c} none m rec u us = rec u (in_wait m us (λ d. none c (inner_below b m first) d))

  pub none_declared : (b : Block) → b ∈ script_blocks s → Declares b what → NoneInside b what
  none_declared b bs d c m dc = not_inside_itself b (subst (λ (z : Block). z ∈ blocks_below b) (sym (w.one_block b c what bs (below_script s bs m) d dc)) m)

pub none_output : (b : Block) (j : ℕ) → NoneInside b (output j)
none_output b j c m d = (let e : output j ≡ local d.node = d.is in absurd (cc (e)))
