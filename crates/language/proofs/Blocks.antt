-- Blocks inside blocks of a script are blocks of the script; targets of inner blocks are targets of their statements.
use Rattle.std.specs.Prelude.{◌≡◌, ℕ, zero, suc, List, [], ◌∷◌, ◌++◌, Option, Some, slice_get}
use Rattle.std.proofs.Common.{inl, inr, subst}
use Rattle.language.specs.Core.{Owned, Name, Stmt, stmt, Action, declare, call_alone, assign, fill, insert, print, assert, when, choose, range, each, wait, Block, no_stmts, stmts, Function, Core}
use Rattle.language.specs.Members.{◌∈◌, first, later}
use Rattle.language.specs.Parts.{block_list, blocks_below, blocks_in, blocks_inside, blocks_of, function_blocks, script_blocks, stmts_among, script_stmts, by_name, by_element, targets, targets_of, targets_in, owners}
use Rattle.language.specs.WellFormed.{IsOwnTarget, header_blocks, Uses, own, inside, in_wait}
use Rattle.language.proofs.Members.{split_in, to_left, to_right, either}

-- the blocks that stand in a statement itself
abbrev pub inner_blocks : Action → List Block
inner_blocks (wait ns b) = b ∷ []
inner_blocks a = header_blocks a

pub header_inner : (a : Action) {c : Block} → c ∈ header_blocks a → c ∈ inner_blocks a
header_inner (declare v) m = m
header_inner (call_alone p ps c) m = m
header_inner (assign x e) m = m
header_inner (fill a e) m = m
header_inner (insert a k e) m = m
header_inner (print p e) m = m
header_inner (assert p e) m = m
header_inner (when c b) m = m
header_inner (choose c b d) m = m
header_inner (range lo hi st v k b) m = m
header_inner (each a v k b) m = m
header_inner (wait ns b) m = elim m [ ]

one_of : {X : Type 0} {x y : X} (xs : List X) → x ∈ (y ∷ []) → x ∈ (y ∷ xs)
one_of xs first = first
one_of xs (later m) = elim m [ ]

two_of : {c b d : Block} → c ∈ (b ∷ d ∷ []) → c ∈ (b ∷ (blocks_below b ++ d ∷ blocks_below d))
two_of first = first
two_of {b = b} {d = d} (later m) = later (to_right (blocks_below b) (d ∷ blocks_below d) (one_of (blocks_below d) m))

inner_opened : (a : Action) {c : Block} → c ∈ inner_blocks a → c ∈ blocks_inside a
inner_opened (declare v) m = m
inner_opened (call_alone p ps c) m = m
inner_opened (assign x e) m = m
inner_opened (fill a e) m = m
inner_opened (insert a k e) m = m
inner_opened (print p e) m = m
inner_opened (assert p e) m = m
inner_opened (when c b) m = one_of (blocks_below b) m
inner_opened (choose c b d) m = two_of m
inner_opened (range lo hi st v k b) m = one_of (blocks_below b) m
inner_opened (each a v k b) m = one_of (blocks_below b) m
inner_opened (wait ns b) m = one_of (blocks_below b) m

pub inner_below : (b : Block) {at n : ℕ} {a : Action} {c : Block} → stmt at n a ∈ block_list b → c ∈ inner_blocks a → c ∈ blocks_below b
inner_below no_stmts i m = elim i [ ]
inner_below (stmts (stmt at' n' a') b) {at} {n} {a} {c} i m =
    elim (split_in i) [
      | inl e ↦ (let same : a ≡ a' = cc (e) in to_left (blocks_inside a') (blocks_below b) (inner_opened a' (subst (λ (x : Action). c ∈ inner_blocks x) same m)))
      | inr j ↦ to_right (blocks_inside a') (blocks_below b) (inner_below b j m)
    ]

pub of_below : (b : Block) {d c : Block} → (d ∈ blocks_below b → c ∈ blocks_below b) → d ∈ (b ∷ blocks_below b) → c ∈ blocks_below d → c ∈ (b ∷ blocks_below b)
of_below b {d} {c} rec m h =
    elim (split_in m) [ inl e ↦ later (subst (λ (x : Block). c ∈ blocks_below x) e h) | inr i ↦ later (rec i) ]

-- a block's inner blocks, and theirs
mutual
  pub below_below : (b : Block) {d c : Block} → d ∈ blocks_below b → c ∈ blocks_below d → c ∈ blocks_below b
  below_below no_stmts m h = elim m [ ]
  below_below (stmts s b) m h =
      elim (either (blocks_in s) (blocks_below b) m) [ inl i ↦ to_left (blocks_in s) (blocks_below b) (in_below s i h) | inr i ↦ to_right (blocks_in s) (blocks_below b) (below_below b i h) ]

  in_below : (s : Stmt) {d c : Block} → d ∈ blocks_in s → c ∈ blocks_below d → c ∈ blocks_in s
  in_below (stmt at n a) m h = opened_below a m h

  opened_below : (a : Action) {d c : Block} → d ∈ blocks_inside a → c ∈ blocks_below d → c ∈ blocks_inside a
  opened_below (declare v) m h = elim m [ ]
  opened_below (call_alone p ps c) m h = elim m [ ]
  opened_below (assign x e) m h = elim m [ ]
  opened_below (fill a e) m h = elim m [ ]
  opened_below (insert a k e) m h = elim m [ ]
  opened_below (print p e) m h = elim m [ ]
  opened_below (assert p e) m h = elim m [ ]
  opened_below (when x b) m h = of_below b (λ z. below_below b z h) m h
  opened_below (choose x b e) m h =
      elim (either (b ∷ blocks_below b) (e ∷ blocks_below e) m) [
        | inl i ↦ to_left (b ∷ blocks_below b) (e ∷ blocks_below e) (of_below b (λ z. below_below b z h) i h)
        | inr i ↦ to_right (b ∷ blocks_below b) (e ∷ blocks_below e) (of_below e (λ z. below_below e z h) i h)
      ]
  opened_below (range lo hi st v k b) m h = of_below b (λ z. below_below b z h) m h
  opened_below (each a v k b) m h = of_below b (λ z. below_below b z h) m h
  opened_below (wait ns b) m h = of_below b (λ z. below_below b z h) m h

pub functions_below : (fs : List Function) {d c : Block} → d ∈ function_blocks fs → c ∈ blocks_below d → c ∈ function_blocks fs
functions_below [] m h = elim m [ ]
functions_below (f ∷ fs) m h =
    elim (either (blocks_of f.body) (function_blocks fs) m) [
      | inl i ↦ to_left (blocks_of f.body) (function_blocks fs) (of_below f.body (λ z. below_below (f.body) z h) i h)
      | inr i ↦ to_right (blocks_of f.body) (function_blocks fs) (functions_below fs i h)
    ]

-- a block in a block of the script is one of the script
pub inner_block : (s : Core) {b c : Block} {at n : ℕ} {a : Action} → b ∈ script_blocks s → stmt at n a ∈ block_list b → c ∈ inner_blocks a → c ∈ script_blocks s
inner_block s {b} m i h =
    let k = inner_below b i h in
    elim (either (blocks_of s.body) (function_blocks s.functions) m) [
      | inl j ↦ to_left (blocks_of s.body) (function_blocks s.functions) (of_below s.body (λ z. below_below s.body z k) j k)
      | inr j ↦ to_right (blocks_of s.body) (function_blocks s.functions) (functions_below s.functions j k)
    ]

pub main_block : (s : Core) → s.body ∈ script_blocks s
main_block s = first

some_same : {A : Type 0} {x y : A} → ◌≡◌ {A = Option A} (Some x) (Some y) → x ≡ y
some_same h = cc

pub body_block : (fs : List Function) (i : ℕ) (f : Function) → slice_get fs i ≡ Some f → f.body ∈ function_blocks fs
body_block [] zero f e = absurd (cc (e))
body_block [] (suc i) f e = absurd (cc (e))
body_block (g ∷ fs) zero f e = to_left (blocks_of g.body) (function_blocks fs) (subst (λ (x : Function). x.body ∈ (g.body ∷ blocks_below g.body)) (some_same e) first)
body_block (g ∷ fs) (suc i) f e = to_right (blocks_of g.body) (function_blocks fs) (body_block fs i f e)

pub function_block : (s : Core) (i : ℕ) (f : Function) → slice_get s.functions i ≡ Some f → f.body ∈ script_blocks s
function_block s i f e = to_right (blocks_of s.body) (function_blocks s.functions) (body_block s.functions i f e)

-- what is a target inside a block is one of its statements'
target_in : (b : Block) {st : Stmt} {what : Owned} → st ∈ block_list b → what ∈ targets st → what ∈ targets_in b
target_in no_stmts i m = elim i [ ]
target_in (stmts s b) {st} {what} i m =
    elim (split_in i) [
      | inl e ↦ to_left (targets s) (targets_in b) (subst (λ (x : Stmt). what ∈ targets x) e m)
      | inr j ↦ to_right (targets s) (targets_in b) (target_in b j m)
    ]

pub owner_of : {x : Name} {xs : List Name} → x ∈ xs → x.what ∈ owners xs
owner_of first = first
owner_of (later m) = later (owner_of m)

named_is_target : (a : Action) {x : Name} → x ∈ by_name a → x.what ∈ targets_of a
named_is_target (declare v) m = elim m [ ]
named_is_target (call_alone p ps c) m = owner_of m
named_is_target (assign x e) m = owner_of m
named_is_target (fill a e) m = owner_of m
named_is_target (insert a k e) m = elim m [ ]
named_is_target (print p e) m = elim m [ ]
named_is_target (assert p e) m = elim m [ ]
named_is_target (when c b) m = elim m [ ]
named_is_target (choose c b d) m = elim m [ ]
named_is_target (range lo hi st v k b) m = elim m [ ]
named_is_target (each a v k b) m = elim m [ ]
named_is_target (wait ns b) m = elim m [ ]

written_is_target : (a : Action) {x : Name} → x ∈ by_element a → x.what ∈ targets_of a
written_is_target (declare v) m = elim m [ ]
written_is_target (call_alone p ps c) m = elim m [ ]
written_is_target (assign x e) m = elim m [ ]
written_is_target (fill a e) m = elim m [ ]
written_is_target (insert a k e) m = owner_of m
written_is_target (print p e) m = elim m [ ]
written_is_target (assert p e) m = elim m [ ]
written_is_target (when c b) m = elim m [ ]
written_is_target (choose c b d) m = elim m [ ]
written_is_target (range lo hi st v k b) m = elim m [ ]
written_is_target (each a v k b) m = elim m [ ]
written_is_target (wait ns b) m = elim m [ ]

pub own_is_target : (a : Action) {x : Name} → IsOwnTarget x a → x.what ∈ targets_of a
own_is_target a (inl m) = named_is_target a m
own_is_target a (inr m) = written_is_target a m

same_target : {b c : Block} {what : Owned} → c ∈ (b ∷ []) → what ∈ targets_in c → what ∈ targets_in b
same_target {b} {c} {what} m h = elim (split_in m) [ inl e ↦ subst (λ (x : Block). what ∈ targets_in x) e h | inr n ↦ elim n [ ] ]

header_target : (a : Action) {c : Block} {what : Owned} → c ∈ header_blocks a → what ∈ targets_in c → what ∈ targets_of a
header_target (declare v) m h = elim m [ ]
header_target (call_alone p ps c) m h = elim m [ ]
header_target (assign x e) m h = elim m [ ]
header_target (fill a e) m h = elim m [ ]
header_target (insert a k e) m h = elim m [ ]
header_target (print p e) m h = elim m [ ]
header_target (assert p e) m h = elim m [ ]
header_target (when c b) m h = same_target m h
header_target (choose c b d) {what = what} m h =
    elim (split_in m) [
      | inl e ↦ to_left (targets_in b) (targets_in d) (subst (λ (x : Block). what ∈ targets_in x) e h)
      | inr n ↦ to_right (targets_in b) (targets_in d) (same_target n h)
    ]
header_target (range lo hi st v k b) m h = same_target m h
header_target (each a v k b) m h = same_target m h
header_target (wait ns b) m h = elim m [ ]

pub uses_target : {b : Block} {up : ℕ} {what : Owned} → Uses b up what → what ∈ targets_in b
uses_target {b} (own {a = a} i m) = target_in b i (own_is_target a m)
uses_target {b} (inside {a = a} i m u) = target_in b i (header_target a m (uses_target u))
uses_target {b} (in_wait i u n) = target_in b i (uses_target u)

-- where a name is used inside a statement, it is one of its targets
pub inside_target : (a : Action) (at n : ℕ) {c : Block} {up : ℕ} {what : Owned} → c ∈ header_blocks a → Uses c up what → what ∈ targets (stmt at n a)
inside_target a at n m u = header_target a m (uses_target u)

pub among : (bs : List Block) {b : Block} {st : Stmt} → b ∈ bs → st ∈ block_list b → st ∈ stmts_among bs
among [] m i = elim m [ ]
among (b ∷ bs) first i = to_left (block_list b) (stmts_among bs) i
among (b ∷ bs) (later m) i = to_right (block_list b) (stmts_among bs) (among bs m i)

-- a statement of a block of the script is one of the script
pub among_script : (s : Core) {b : Block} {st : Stmt} → b ∈ script_blocks s → st ∈ block_list b → st ∈ script_stmts s
among_script s m i = among (script_blocks s) m i
