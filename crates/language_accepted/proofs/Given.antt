-- Inputs and loop variables are no targets where a core is singly assigned.
use Rattle.std.specs.Prelude.{◌≡◌, ◌⊎◌, ℕ, zero, suc, Bool, true, false, List, [], ◌∷◌, ◌++◌, refl}
use Rattle.std.proofs.Common.{inl, inr, sym, subst, arith}
use Rattle.language.specs.Core.{Owned, Name, Stmt, stmt, Action, declare, call_alone, assign, fill, insert, print, assert, when, choose, range, each, wait, Block, no_stmts, stmts, Core}
use Rattle.language.specs.Members.{◌∈◌, first, later}
use Rattle.language.specs.Parts.{block_list, blocks_of, blocks_below, blocks_in, blocks_inside, stmt_action, by_name, by_element}
use Rattle.language.specs.Single.{IsSimple, simple, Given, LoopBody, of_range, of_each, SinglyAssigned}
use Rattle.language.proofs.Blocks.{inner_blocks, inner_below, below_below, among}
use Rattle.language.proofs.Members.{split_in, either}
use Rattle.language_laws.proofs.TestedNames.{used, used_in, used_below, lower, lowered, undeclared, unless, declares}
use Rattle.language_laws.proofs.Ways.{times_of, times_in, block_way, in_when, in_then, in_else, in_content, Reach, at_once, into, reach_way, reach_within}

-- NAMES OF INNER BLOCKS

pub of_lowered : (xs : List Name) {x : Name} → x ∈ lowered xs → record { up = suc x.up; what = x.what } ∈ xs
of_lowered [] m = elim m [ ]
of_lowered (y ∷ xs) {x} m = by y.up y.what (either (lower y.up y.what) (lowered xs) m) (λ i. of_lowered xs i)
  where
    by : (up : ℕ) (what : Owned) → ((x ∈ lower up what) ⊎ (x ∈ lowered xs)) → (x ∈ lowered xs → record { up = suc x.up; what = x.what } ∈ xs) → record { up = suc x.up; what = x.what } ∈ (record { up = up; what = what } ∷ xs)
    by up what (inr i) rec = later (rec i)
    by zero what (inl i) rec = elim i [ ]
    by (suc up) what (inl i) rec = elim (split_in i) [
      | inl e ↦ subst (λ (z : Name). record { up = suc x.up; what = x.what } ∈ (record { up = suc z.up; what = z.what } ∷ xs)) e first
      | inr j ↦ elim j [ ]
    ]

pub of_undeclared : (b : Block) (xs : List Name) {x : Name} → x ∈ undeclared b xs → (x ∈ xs) × (declares b x.what ≡ false)
of_undeclared b [] m = elim m [ ]
of_undeclared b (y ∷ xs) {x} m = elim (either (unless (declares b y.what) y) (undeclared b xs) m) [
  | inl i ↦ kept (declares b y.what) refl i
  | inr i ↦ (let r = of_undeclared b xs i in (later r.0, r.1))
]
  where
    kept : (t : Bool) → declares b y.what ≡ t → x ∈ unless t y → (x ∈ (y ∷ xs)) × (declares b x.what ≡ false)
    kept true e i = elim i [ ]
    kept false e i = elim (split_in i) [
      | inl q ↦ (subst (λ (z : Name). x ∈ (z ∷ xs)) q first, subst (λ (z : Name). declares b z.what ≡ false) (sym q) e)
      | inr j ↦ elim j [ ]
    ]

-- TARGETS

-- a block, or one inside it, has a statement whose target is this variable
pub record HasTarget (x : Owned) (b : Block) : Type 0 where
  pub block : Block
  pub inside : block ∈ blocks_of b
  pub st : Stmt
  pub there : st ∈ block_list block
  pub target : Name
  pub is : target.what ≡ x
  pub of : (target ∈ by_name (stmt_action st)) ⊎ (target ∈ by_element (stmt_action st))

further_in : (w d : Block) {at n : ℕ} {a : Action} {x : Owned} → stmt at n a ∈ block_list w → d ∈ inner_blocks a → HasTarget x d → HasTarget x w
further_in w d i m h = record {
  block = h.block;
  inside = of_further w d (inner_below w i m) h.inside;
  st = h.st;
  there = h.there;
  target = h.target;
  is = h.is;
  of = h.of;
}
  where
    of_further : (w d : Block) {c : Block} → d ∈ blocks_below w → c ∈ blocks_of d → c ∈ blocks_of w
    of_further w d i m = elim (split_in m) [ inl e ↦ later (subst (λ (z : Block). z ∈ blocks_below w) (sym e) i) | inr j ↦ later (below_below w i j) ]

mutual
  target_in : (w b : Block) → ((st : Stmt) → st ∈ block_list b → st ∈ block_list w) → {x : Name} → x ∈ used b → HasTarget x.what w
  target_in w no_stmts f m = elim m [ ]
  target_in w (stmts s b) f {x} m = elim (either (used_in s) (used b) m) [ inl i ↦ stmt_target w s (f s first) i | inr i ↦ target_in w b (λ st j. f st (later j)) i ]

  stmt_target : (w : Block) (s : Stmt) → s ∈ block_list w → {x : Name} → x ∈ used_in s → HasTarget x.what w
  stmt_target w (stmt at n a) i {x} m = elim (either (by_name a) (by_element a ++ used_below a) m) [
    | inl j ↦ record { block = w; inside = first; st = stmt at n a; there = i; target = x; is = refl; of = inl j }
    | inr j ↦ elim (either (by_element a) (used_below a) j) [
      | inl l ↦ record { block = w; inside = first; st = stmt at n a; there = i; target = x; is = refl; of = inr l }
      | inr l ↦ action_target w at n a i l
    ]
  ]

  action_target : (w : Block) (at n : ℕ) (a : Action) → stmt at n a ∈ block_list w → {x : Name} → x ∈ used_below a → HasTarget x.what w
  action_target w at n (declare v) i m = elim m [ ]
  action_target w at n (call_alone p ps c) i m = elim m [ ]
  action_target w at n (assign x e) i m = elim m [ ]
  action_target w at n (fill a e) i m = elim m [ ]
  action_target w at n (insert a k e) i m = elim m [ ]
  action_target w at n (print p e) i m = elim m [ ]
  action_target w at n (assert p e) i m = elim m [ ]
  action_target w at n (when c b) i m = further_in w b i first (target_in b b (λ st j. j) (of_lowered (used b) m))
  action_target w at n (choose c b d) i m = elim (either (lowered (used b)) (lowered (used d)) m) [
    | inl j ↦ further_in w b i first (target_in b b (λ st j. j) (of_lowered (used b) j))
    | inr j ↦ further_in w d i (later first) (target_in d d (λ st j. j) (of_lowered (used d) j))
  ]
  action_target w at n (range lo hi st v t b) i m = further_in w b i first (target_in b b (λ st j. j) (of_lowered (used b) m))
  action_target w at n (each a v t b) i m = further_in w b i first (target_in b b (λ st j. j) (of_lowered (used b) m))
  action_target w at n (wait ns b) i m = further_in w b i first (target_in b b (λ st j. j) (of_undeclared b (used b) m).0)

-- a name that a block uses is a target in it
pub used_target : (b : Block) {x : Name} → x ∈ used b → HasTarget x.what b
used_target b m = target_in b b (λ st i. i) m

-- PATHS TO BLOCKS

-- a block is reached through no loop, or lies in the body of one
abbrev InLoop : Block → Block → Type 0
InLoop o c = (d : Block) × LoopBody o d × (c ∈ blocks_of d)

abbrev Path : Block → Block → Type 0
Path o c = Reach o c ⊎ InLoop o c

here_or : (o b : Block) → Reach o b → {c : Block} → (c ∈ blocks_below b → Path o c) → c ∈ (b ∷ blocks_below b) → Path o c
here_or o b r {c} rec m = elim (split_in m) [ inl e ↦ inl (subst (Reach o) (sym e) r) | inr j ↦ rec j ]

mutual
  path_in : (o w b : Block) → Reach o w → ((st : Stmt) → st ∈ block_list b → st ∈ block_list w) → {c : Block} → c ∈ blocks_below b → Path o c
  path_in o w no_stmts r f m = elim m [ ]
  path_in o w (stmts s b) r f m = elim (either (blocks_in s) (blocks_below b) m) [ inl i ↦ stmt_path o w s r (f s first) i | inr i ↦ path_in o w b r (λ st j. f st (later j)) i ]

  stmt_path : (o w : Block) (s : Stmt) → Reach o w → s ∈ block_list w → {c : Block} → c ∈ blocks_in s → Path o c
  stmt_path o w (stmt at n a) r i m = action_path o w at n a r i m

  action_path : (o w : Block) (at n : ℕ) (a : Action) → Reach o w → stmt at n a ∈ block_list w → {c : Block} → c ∈ blocks_inside a → Path o c
  action_path o w at n (declare v) r i m = elim m [ ]
  action_path o w at n (call_alone p ps c) r i m = elim m [ ]
  action_path o w at n (assign x e) r i m = elim m [ ]
  action_path o w at n (fill a e) r i m = elim m [ ]
  action_path o w at n (insert a k e) r i m = elim m [ ]
  action_path o w at n (print p e) r i m = elim m [ ]
  action_path o w at n (assert p e) r i m = elim m [ ]
  action_path o w at n (when e b) r i m = here_or o b (into r i in_when) (λ l. path_in o b b (into r i in_when) (λ st h. h) l) m
  action_path o w at n (choose e b d) r i m = elim (either (b ∷ blocks_below b) (d ∷ blocks_below d) m) [
    | inl j ↦ here_or o b (into r i in_then) (λ l. path_in o b b (into r i in_then) (λ st h. h) l) j
    | inr j ↦ here_or o d (into r i in_else) (λ l. path_in o d d (into r i in_else) (λ st h. h) l) j
  ]
  action_path o w at n (range lo hi st v t b) r i m = inr (b, of_range (reach_within r i), m)
  action_path o w at n (each a v t b) r i m = inr (b, of_each (reach_within r i), m)
  action_path o w at n (wait ns b) r i m = here_or o b (into r i in_content) (λ l. path_in o b b (into r i in_content) (λ st h. h) l) m

path_from : (d : Block) {c : Block} → c ∈ blocks_of d → Path d c
path_from d m = here_or d d at_once (λ j. path_in d d d at_once (λ st l. l) j) m

-- INPUTS AND LOOP VARIABLES

-- what names something holds no block
is_simple : (a : Action) {x : Name} → x ∈ by_name a → IsSimple a
is_simple (declare v) m = tt
is_simple (call_alone p ps c) m = tt
is_simple (assign x e) m = tt
is_simple (fill a e) m = tt
is_simple (insert a k e) m = tt
is_simple (print p e) m = tt
is_simple (assert p e) m = tt
is_simple (when e b) m = elim m [ ]
is_simple (choose e b d) m = elim m [ ]
is_simple (range lo hi st v t b) m = elim m [ ]
is_simple (each a v t b) m = elim m [ ]
is_simple (wait ns b) m = elim m [ ]

module _ (s : Core) (single : SinglyAssigned s) where
  never_named : {x : Owned} {d c : Block} {y : Name} (st : Stmt) → Given s x d → c ∈ blocks_of d → st ∈ block_list c → y ∈ by_name (stmt_action st) → y.what ≡ x → ⊥
  never_named {x} {d} {c} {y} (stmt at n a) g m i j e = elim (path_from d m) [
    | inl r ↦ (
        let q = times_of x (by_name a) in
        let l = times_in q.1 j e in
        let h = block_way x c i (simple (is_simple a j) q.1) in
        let u = h.2 in
        let v = reach_way r h.1 in
        let z = v.2 in
        let none = single.given_once x d v.0 g v.1 in
        absurd (omega arith))
    | inr q ↦ single.outside_loops x d q.0 (inr g) q.1 (record { st = stmt at n a; target = y; there = among (blocks_of q.0) q.2 i; assigns = j; is = e })
  ]

  -- a variable that counts as assigned at its declaration is no target
  pub no_target : {x : Owned} {d : Block} → Given s x d → HasTarget x d → ⊥
  no_target {x} {d} g h = elim h.of [
    | inl j ↦ never_named h.st g h.inside h.there j h.is
    | inr j ↦ single.given_form x d g (record { st = h.st; target = h.target; there = among (blocks_of d) h.inside h.there; writes = j; is = h.is })
  ]
