-- Ways through blocks: each block has one, and what is assigned counts on some way.
use Rattle.std.specs.Prelude.{◌≡◌, ◌⊎◌, ℕ, zero, suc, ◌+◌, ◌≤◌, List, [], ◌∷◌, Some, slice_get, refl}
use Rattle.std.proofs.Common.{inl, inr, sym, ap, ◌∙◌, subst, arith}
use Rattle.std.proofs.lemmas.Bool.{cases_eq}
use Rattle.language.specs.Core.{Owned, local, input, output, Name, Outer, Awaited, Stmt, stmt, Action, declare, call_alone, assign, fill, insert, print, assert, when, choose, range, each, wait, Block, no_stmts, stmts}
use Rattle.language.specs.Members.{◌∈◌, first, later}
use Rattle.language.specs.Parts.{block_list, blocks_of, stmts_within}
use Rattle.language.specs.Single.{Times, nowhere, here_too, not_here, Way, way_end, way_on, StmtWay, simple, taken, skipped, then_way, else_way, range_way, each_way, wait_way}
use Rattle.language.proofs.Blocks.{inner_blocks, inner_below, of_below, below_below, among}
use Rattle.language.proofs.Members.{split_in}

local_local : {m n : ℕ} → local m ≡ local n → m ≡ n
local_local h = cc

input_input : {m n : ℕ} → input m ≡ input n → m ≡ n
input_input h = cc

output_output : {m n : ℕ} → output m ≡ output n → m ≡ n
output_output h = cc

pub owned_is : (x y : Owned) → (x ≡ y) ⊎ (x ≡ y → ⊥)
owned_is (local m) (local n) = elim (cases_eq m n) [ inl e ↦ inl (ap local e) | inr h ↦ inr (λ e. h (local_local e)) ]
owned_is (local m) (input n) = inr (λ e. absurd (cc (e)))
owned_is (local m) (output n) = inr (λ e. absurd (cc (e)))
owned_is (input m) (local n) = inr (λ e. absurd (cc (e)))
owned_is (input m) (input n) = elim (cases_eq m n) [ inl e ↦ inl (ap input e) | inr h ↦ inr (λ e. h (input_input e)) ]
owned_is (input m) (output n) = inr (λ e. absurd (cc (e)))
owned_is (output m) (local n) = inr (λ e. absurd (cc (e)))
owned_is (output m) (input n) = inr (λ e. absurd (cc (e)))
owned_is (output m) (output n) = elim (cases_eq m n) [ inl e ↦ inl (ap output e) | inr h ↦ inr (λ e. h (output_output e)) ]

-- COUNTS OF NAMES

pub times_of : (x : Owned) (ys : List Name) → (n : ℕ) × Times x ys n
times_of x [] = (0, nowhere)
times_of x (y ∷ ys) = by (owned_is y.what x) (times_of x ys)
  where
    by : ((y.what ≡ x) ⊎ (y.what ≡ x → ⊥)) → ((n : ℕ) × Times x ys n) → (n : ℕ) × Times x (y ∷ ys) n
    by (inl e) r = (suc r.0, here_too e r.1)
    by (inr h) r = (r.0, not_here h r.1)

-- what stands among the names counts
pub times_in : {x : Owned} {y : Name} {ys : List Name} {n : ℕ} → Times x ys n → y ∈ ys → y.what ≡ x → 1 ≤ n
times_in nowhere m e = elim m [ ]
times_in (here_too h t) m e = omega arith
times_in {x = x} (not_here h t) m e = elim (split_in m) [ inl q ↦ absurd (h (ap (λ (z : Name). z.what) (sym q) ∙ e)) | inr k ↦ times_in t k e ]

found_in : (ys : List Name) (j : ℕ) (y : Name) → slice_get ys j ≡ Some y → y ∈ ys
found_in [] zero y e = absurd (cc (e))
found_in [] (suc j) y e = absurd (cc (e))
found_in (x ∷ ys) zero y e = let same : x ≡ y = cc (e) in subst (λ (z : Name). y ∈ (z ∷ ys)) (sym same) first
found_in (x ∷ ys) (suc j) y e = later (found_in ys j y e)

-- a name that stands at two places counts twice
pub times_two : {x : Owned} {n : ℕ} (ys : List Name) → Times x ys n → (j k : ℕ) (y z : Name) → slice_get ys j ≡ Some y → slice_get ys k ≡ Some z
    → y.what ≡ x → z.what ≡ x → (j ≡ k) ⊎ (2 ≤ n)
times_two [] nowhere zero k y z e f p q = absurd (cc (e))
times_two [] nowhere (suc j) k y z e f p q = absurd (cc (e))
times_two (a ∷ ys) t zero zero y z e f p q = inl refl
times_two (a ∷ ys) (here_too h t) zero (suc k) y z e f p q = let m = times_in t (found_in ys k z f) q in inr (omega arith)
times_two (a ∷ ys) (here_too h t) (suc j) zero y z e f p q = let m = times_in t (found_in ys j y e) p in inr (omega arith)
times_two (a ∷ ys) (here_too h t) (suc j) (suc k) y z e f p q = elim (times_two ys t j k y z e f p q) [ inl r ↦ inl (ap suc r) | inr m ↦ inr (omega arith) ]
times_two (a ∷ ys) (not_here h t) zero (suc k) y z e f p q = let same : a ≡ y = cc (e) in absurd (h (ap (λ (z : Name). z.what) same ∙ p))
times_two (a ∷ ys) (not_here h t) (suc j) zero y z e f p q = let same : a ≡ z = cc (f) in absurd (h (ap (λ (z : Name). z.what) same ∙ q))
times_two (a ∷ ys) (not_here h t) (suc j) (suc k) y z e f p q = elim (times_two ys t j k y z e f p q) [ inl r ↦ inl (ap suc r) | inr m ↦ inr m ]

-- WAYS

module _ (x : Owned) where
  mutual
    -- some way leads through a block
    pub some_way : (b : Block) → (n : ℕ) × Way x b n
    some_way no_stmts = (0, way_end)
    some_way (stmts s b) = let r = some_stmt_way s in let q = some_way b in (r.0 + q.0, way_on r.1 q.1 refl)

    pub some_stmt_way : (s : Stmt) → (n : ℕ) × StmtWay x s n
    some_stmt_way (stmt at n a) = some_action_way at n a

    some_action_way : (at n : ℕ) (a : Action) → (m : ℕ) × StmtWay x (stmt at n a) m
    some_action_way at n (declare v) = (0, simple tt nowhere)
    some_action_way at n (call_alone p ps c) = let r = times_of x c.outputs in (r.0, simple tt r.1)
    some_action_way at n (assign y e) = let r = times_of x (y ∷ []) in (r.0, simple tt r.1)
    some_action_way at n (fill y e) = let r = times_of x (y ∷ []) in (r.0, simple tt r.1)
    some_action_way at n (insert y k e) = (0, simple tt nowhere)
    some_action_way at n (print p e) = (0, simple tt nowhere)
    some_action_way at n (assert p e) = (0, simple tt nowhere)
    some_action_way at n (when c b) = (0, skipped)
    some_action_way at n (choose c b d) = let r = some_way b in (r.0, then_way r.1)
    some_action_way at n (range lo hi st v k b) = (0, range_way)
    some_action_way at n (each y v k b) = (0, each_way)
    some_action_way at n (wait ns b) = let r = some_way b in (r.0, wait_way r.1)

  -- a way through a statement goes on through its block
  pub block_way : (b : Block) {st : Stmt} {m : ℕ} → st ∈ block_list b → StmtWay x st m → (n : ℕ) × Way x b n × (m ≤ n)
  block_way no_stmts i h = elim i [ ]
  block_way (stmts s b) {st} {m} i h = by (split_in i) (λ j. block_way b j h)
    where
      by : ((st ≡ s) ⊎ (st ∈ block_list b)) → ((st ∈ block_list b) → (n : ℕ) × Way x b n × (m ≤ n)) → (n : ℕ) × Way x (stmts s b) n × (m ≤ n)
      by (inl e) rec = let q = some_way b in (m + q.0, way_on (subst (λ (z : Stmt). StmtWay x z m) e h) q.1 refl, omega arith)
      by (inr j) rec = let r = rec j in let q = some_stmt_way s in let l = r.2 in (q.0 + r.0, way_on q.1 r.1 refl, omega arith)

  -- two statements of a block count together
  pub two_ways : (b : Block) {st st' : Stmt} {m m' : ℕ} → st ∈ block_list b → st' ∈ block_list b → StmtWay x st m → StmtWay x st' m'
      → (st ≡ st') ⊎ ((n : ℕ) × Way x b n × (m + m' ≤ n))
  two_ways no_stmts i j h k = elim i [ ]
  two_ways (stmts s b) {st} {st'} {m} {m'} i j h k = by (split_in i) (split_in j) (λ i' j'. two_ways b i' j' h k)
    where
      by : ((st ≡ s) ⊎ (st ∈ block_list b)) → ((st' ≡ s) ⊎ (st' ∈ block_list b)) → (st ∈ block_list b → st' ∈ block_list b → (st ≡ st') ⊎ ((n : ℕ) × Way x b n × (m + m' ≤ n)))
          → (st ≡ st') ⊎ ((n : ℕ) × Way x (stmts s b) n × (m + m' ≤ n))
      by (inl e) (inl f) rec = inl (e ∙ sym f)
      by (inl e) (inr j') rec = let r = block_way b j' k in let l = r.2 in inr (m + r.0, way_on (subst (λ (z : Stmt). StmtWay x z m) e h) r.1 refl, omega arith)
      by (inr i') (inl f) rec = let r = block_way b i' h in let l = r.2 in inr (m' + r.0, way_on (subst (λ (z : Stmt). StmtWay x z m') f k) r.1 refl, omega arith)
      by (inr i') (inr j') rec = elim (rec i' j') [
        | inl e ↦ inl e
        | inr r ↦ (let q = some_stmt_way s in let l = r.2 in inr (q.0 + r.0, way_on q.1 r.1 refl, omega arith))
      ]

-- a block inside a statement that is no loop
pub data Inside : Action → Block → Type 0 where
  in_when : {c : Outer} {b : Block} → Inside (when c b) b
  in_then : {c : Outer} {b d : Block} → Inside (choose c b d) b
  in_else : {c : Outer} {b d : Block} → Inside (choose c b d) d
  in_content : {ns : List Awaited} {b : Block} → Inside (wait ns b) b

pub inside_way : {x : Owned} {a : Action} {c : Block} {m at n : ℕ} → Inside a c → Way x c m → StmtWay x (stmt at n a) m
inside_way in_when h = taken h
inside_way in_then h = then_way h
inside_way in_else h = else_way h
inside_way in_content h = wait_way h

inside_inner : {a : Action} {c : Block} → Inside a c → c ∈ inner_blocks a
inside_inner in_when = first
inside_inner in_then = first
inside_inner in_else = later first
inside_inner in_content = first

-- a block is reached from another through no loop
pub data Reach (o : Block) : Block → Type 0 where
  at_once : Reach o o
  into : {b c : Block} {at n : ℕ} {a : Action} → Reach o b → stmt at n a ∈ block_list b → Inside a c → Reach o c

-- a way through a block goes on through those round it
pub reach_way : {x : Owned} {o b : Block} {m : ℕ} → Reach o b → Way x b m → (n : ℕ) × Way x o n × (m ≤ n)
reach_way {m = m} at_once h = (m, h, omega arith)
reach_way {x} (into {b = b} r i j) h =
    let q = block_way x b i (inside_way j h) in
    let t = reach_way r q.1 in
    let l = q.2 in
    let k = t.2 in
    (t.0, t.1, omega arith)

pub reach_block : {o b : Block} → Reach o b → b ∈ blocks_of o
reach_block at_once = first
reach_block {o} (into {b = b} r i j) = let h = inner_below b i (inside_inner j) in of_below o (λ z. below_below o z h) (reach_block r) h

pub reach_within : {o b : Block} {st : Stmt} → Reach o b → st ∈ block_list b → st ∈ stmts_within o
reach_within {o} r i = among (blocks_of o) (reach_block r) i
