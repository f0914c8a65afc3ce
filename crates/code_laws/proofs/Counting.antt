-- What counts on some way through a block is a target in it, and so is what is assigned in it.
use Rattle.std.proofs.Common.{◌≡◌, ◌⊎◌, inl, inr, ℕ, zero, suc, ◌+◌, ◌≤◌, List, [], ◌∷◌, sym, ap, ◌∙◌, subst, arith}
use Rattle.language.specs.Core.{Owned, Name, Stmt, stmt, Action, declare, call_alone, assign, fill, insert, print, assert, when, choose, range, each, wait, Block, no_stmts, stmts}
use Rattle.language.specs.Members.{◌∈◌, first, later}
use Rattle.language.specs.Parts.{block_list, blocks_below, blocks_in, blocks_inside, blocks_of, stmts_within, stmt_action, by_name, by_element, owners, targets, targets_of, targets_in}
use Rattle.language.specs.Single.{Times, nowhere, here_too, not_here, Way, way_end, way_on, StmtWay, simple, taken, skipped, then_way, else_way, range_way, each_way, wait_way, IsNamed, IsWritten, IsRead, in_cell, in_wait}
use Rattle.language.proofs.Members.{split_in, either, to_left, to_right}
use Rattle.language.proofs.Blocks.{among, below_below}
use Rattle.language.proofs.Tested.{among_split}

-- WAYS

some_of : (m n : ℕ) → 1 ≤ m + n → (1 ≤ m) ⊎ (1 ≤ n)
some_of zero n h = inr (omega arith)
some_of (suc m) n h = inl (omega arith)

counted_name : {o : Owned} {xs : List Name} {n : ℕ} → Times o xs n → 1 ≤ n → o ∈ owners xs
counted_name nowhere l = absurd (omega arith)
counted_name {o} (here_too {y = y} {ys = ys} e t) l = subst (λ (z : Owned). z ∈ (y.what ∷ owners ys)) e first
counted_name (not_here f t) l = later (counted_name t l)

owner_target : {o : Owned} (a : Action) → o ∈ owners (by_name a) → o ∈ targets_of a
owner_target (declare v) m = elim m [ ]
owner_target (call_alone p ps c) m = m
owner_target (assign x e) m = m
owner_target (fill x e) m = m
owner_target (insert x k e) m = elim m [ ]
owner_target (print p e) m = elim m [ ]
owner_target (assert p e) m = elim m [ ]
owner_target (when c b) m = elim m [ ]
owner_target (choose c b d) m = elim m [ ]
owner_target (range lo hi st v k b) m = elim m [ ]
owner_target (each a v k b) m = elim m [ ]
owner_target (wait ns b) m = elim m [ ]

mutual
  pub counted_target : {o : Owned} {b : Block} {n : ℕ} → Way o b n → 1 ≤ n → o ∈ targets_in b
  counted_target way_end l = absurd (omega arith)
  counted_target {o} (way_on {s = s} {b = b} {m = m} {n = n} w ws e) l =
      elim (some_of m n (subst (λ (k : ℕ). 1 ≤ k) e l)) [
        | inl k ↦ to_left (targets s) (targets_in b) (counted_in w k)
        | inr k ↦ to_right (targets s) (targets_in b) (counted_target ws k)
      ]

  counted_in : {o : Owned} {s : Stmt} {n : ℕ} → StmtWay o s n → 1 ≤ n → o ∈ targets s
  counted_in (simple {a = a} z t) l = owner_target a (counted_name t l)
  counted_in (taken w) l = counted_target w l
  counted_in skipped l = absurd (omega arith)
  counted_in (then_way {b = b} {d = d} w) l = to_left (targets_in b) (targets_in d) (counted_target w l)
  counted_in (else_way {b = b} {d = d} w) l = to_right (targets_in b) (targets_in d) (counted_target w l)
  counted_in range_way l = absurd (omega arith)
  counted_in each_way l = absurd (omega arith)
  counted_in (wait_way w) l = counted_target w l

-- TARGETS OF INNER BLOCKS

stmt_target : (b : Block) {st : Stmt} {o : Owned} → st ∈ block_list b → o ∈ targets st → o ∈ targets_in b
stmt_target no_stmts m i = elim m [ ]
stmt_target (stmts s b) {st} {o} m i = elim (split_in m) [
  | inl e ↦ to_left (targets s) (targets_in b) (subst (λ (z : Stmt). o ∈ targets z) e i)
  | inr j ↦ to_right (targets s) (targets_in b) (stmt_target b j i)
]

one_or : {c : Block} {o : Owned} (b : Block) → c ∈ (b ∷ blocks_below b) → o ∈ targets_in c → (c ∈ blocks_below b → o ∈ targets_in b) → o ∈ targets_in b
one_or {c} {o} b m i rec = elim (split_in m) [ inl e ↦ subst (λ (z : Block). o ∈ targets_in z) e i | inr j ↦ rec j ]

mutual
  below_target : (b : Block) {c : Block} {o : Owned} → c ∈ blocks_below b → o ∈ targets_in c → o ∈ targets_in b
  below_target no_stmts m i = elim m [ ]
  below_target (stmts s b) m i = elim (either (blocks_in s) (blocks_below b) m) [
    | inl j ↦ to_left (targets s) (targets_in b) (in_target s j i)
    | inr j ↦ to_right (targets s) (targets_in b) (below_target b j i)
  ]

  in_target : (s : Stmt) {c : Block} {o : Owned} → c ∈ blocks_in s → o ∈ targets_in c → o ∈ targets s
  in_target (stmt at n a) m i = inside_target a m i

  inside_target : (a : Action) {c : Block} {o : Owned} → c ∈ blocks_inside a → o ∈ targets_in c → o ∈ targets_of a
  inside_target (declare v) m i = elim m [ ]
  inside_target (call_alone p ps c) m i = elim m [ ]
  inside_target (assign x e) m i = elim m [ ]
  inside_target (fill x e) m i = elim m [ ]
  inside_target (insert x k e) m i = elim m [ ]
  inside_target (print p e) m i = elim m [ ]
  inside_target (assert p e) m i = elim m [ ]
  inside_target (when e b) m i = one_or b m i (λ j. below_target b j i)
  inside_target (choose e b d) m i = elim (either (b ∷ blocks_below b) (d ∷ blocks_below d) m) [
    | inl j ↦ to_left (targets_in b) (targets_in d) (one_or b j i (λ k. below_target b k i))
    | inr j ↦ to_right (targets_in b) (targets_in d) (one_or d j i (λ k. below_target d k i))
  ]
  inside_target (range lo hi st v k b) m i = one_or b m i (λ j. below_target b j i)
  inside_target (each a v k b) m i = one_or b m i (λ j. below_target b j i)
  inside_target (wait ns b) m i = one_or b m i (λ j. below_target b j i)

owner_in : {y : Name} {o : Owned} (xs : List Name) → y ∈ xs → y.what ≡ o → o ∈ owners xs
owner_in [] m e = elim m [ ]
owner_in {y} {o} (x ∷ xs) m e = elim (split_in m) [
  | inl q ↦ subst (λ (z : Owned). z ∈ (x.what ∷ owners xs)) (ap (λ (z : Name). z.what) (sym q) ∙ e) first
  | inr j ↦ later (owner_in xs j e)
]

element_target : {o : Owned} (a : Action) → o ∈ owners (by_element a) → o ∈ targets_of a
element_target (insert x k e) m = m
element_target (declare v) m = elim m [ ]
element_target (call_alone p ps c) m = elim m [ ]
element_target (assign x e) m = elim m [ ]
element_target (fill x e) m = elim m [ ]
element_target (print p e) m = elim m [ ]
element_target (assert p e) m = elim m [ ]
element_target (when c b) m = elim m [ ]
element_target (choose c b d) m = elim m [ ]
element_target (range lo hi st v k b) m = elim m [ ]
element_target (each a v k b) m = elim m [ ]
element_target (wait ns b) m = elim m [ ]

within_target : (b : Block) (st : Stmt) {o : Owned} → st ∈ stmts_within b → o ∈ targets st → o ∈ targets_in b
within_target b st m i = (let r = among_split (blocks_of b) m in one_or b r.1 (stmt_target r.0 r.2 i) (λ j. below_target b j (stmt_target r.0 r.2 i)))

named_by : (st : Stmt) {o : Owned} {y : Name} → y ∈ by_name (stmt_action st) → y.what ≡ o → o ∈ targets st
named_by (stmt at n a) m e = owner_target a (owner_in (by_name a) m e)

written_by : (st : Stmt) {o : Owned} {y : Name} → y ∈ by_element (stmt_action st) → y.what ≡ o → o ∈ targets st
written_by (stmt at n a) m e = element_target a (owner_in (by_element a) m e)

pub named_target : {o : Owned} {b : Block} → IsNamed o b → o ∈ targets_in b
named_target {b = b} n = within_target b n.st n.there (named_by n.st n.assigns n.is)

pub written_target : {o : Owned} {b : Block} → IsWritten o b → o ∈ targets_in b
written_target {b = b} n = within_target b n.st n.there (written_by n.st n.writes n.is)

-- WHAT IS READ IN AN INNER BLOCK

within_outwards : (b : Block) {c : Block} {st : Stmt} → c ∈ blocks_below b → st ∈ stmts_within c → st ∈ stmts_within b
within_outwards b {c} {st} m i = (let r = among_split (blocks_of c) i in among (blocks_of b) (by r.0 r.1) r.2)
  where
    by : (d : Block) → d ∈ (c ∷ blocks_below c) → d ∈ (b ∷ blocks_below b)
    by d j = elim (split_in j) [ inl e ↦ later (subst (λ (z : Block). z ∈ blocks_below b) (sym e) m) | inr k ↦ later (below_below b m k) ]

pub read_outwards : {o : Owned} (b : Block) {c : Block} → c ∈ blocks_below b → IsRead o c → IsRead o b
read_outwards b m (in_cell i j r) = in_cell (within_outwards b m i) j r
read_outwards b m (in_wait i j e) = in_wait (within_outwards b m i) j e
