-- Blocks of the core inside others, one step at a time; blocks of outlines inside others, and the uses there.
use Rattle.std.specs.Prelude.{◌⊎◌, ℕ, List, [], ◌∷◌}
use Rattle.std.proofs.Common.{inl, inr, subst, sym}
use Rattle.language.specs.Core.{Stmt, stmt, Action, declare, call_alone, assign, fill, insert, print, assert, when, choose, range, each, wait, Block, no_stmts, stmts, Function, Core}
use Rattle.language.specs.Members.{◌∈◌, first, later}
use Rattle.language.specs.Parts.{block_list, blocks_below, blocks_inside, blocks_of, function_blocks, script_blocks, stmts_within}
use Rattle.language.specs.Single.{IsSimple}
use Rattle.language.proofs.Blocks.{inner_blocks, inner_below, below_below, among, inner_block}
use Rattle.language.proofs.Members.{split_in, to_left, to_right, either}
use Rattle.language.proofs.Tested.{among_split}
use Rattle.assign_check.specs.Outline.{Use, Outline, nothing, followed, Step, declares, uses, splits, repeats, encloses}
use Rattle.assign_check.specs.Faults.{uses_in, uses_at}
use Rattle.assign_check.proofs.faults.Bodies.{uses_up}
use Rattle.assign_check.specs.Through.{HasStep, first_step, later_step, BlockIn, the_block, in_a_step, BlockOf, in_first, in_other, in_loop, in_wait, Within}

-- BLOCKS OF THE CORE

-- a block is another or stands inside it
pub data Below (c : Block) : Block → Type 0 where
  itself : Below c c
  under : {at n : ℕ} {a : Action} {d b : Block} → stmt at n a ∈ block_list b → d ∈ inner_blocks a → Below c d → Below c b

pub below_in : {c b : Block} → Below c b → c ∈ blocks_of b
below_in itself = first
below_in {c} {b} (under {d = d} i m r) = elim (split_in (below_in r)) [
  | inl e ↦ later (subst (λ (x : Block). x ∈ blocks_below b) (sym e) (inner_below b i m))
  | inr j ↦ later (below_below b (inner_below b i m) j)
]

-- a block inside another stands in one of its statements
record Opened (c b : Block) : Type 0 where
  at : ℕ
  node : ℕ
  action : Action
  block : Block
  there : stmt at node action ∈ block_list b
  inner : block ∈ inner_blocks action
  rest : Below c block

of_opened : {c b : Block} → Opened c b → Below c b
of_opened r = under r.there r.inner r.rest

one_of : {c b : Block} → (c ∈ blocks_below b → Opened c b) → c ∈ (b ∷ blocks_below b) → Below c b
one_of {c} {b} f m = elim (split_in m) [ inl e ↦ subst (λ (x : Block). Below c x) e itself | inr j ↦ of_opened (f j) ]

mutual
  open_below : (b : Block) {c : Block} → c ∈ blocks_below b → Opened c b
  open_below no_stmts m = elim m [ ]
  open_below (stmts (stmt at n a) b) m = elim (either (blocks_inside a) (blocks_below b) m) [
    | inl i ↦ (let r = open_action a i in record { at = at; node = n; action = a; block = r.0; there = first; inner = r.1; rest = r.2 })
    | inr j ↦ (let r = open_below b j in record { at = r.at; node = r.node; action = r.action; block = r.block; there = later r.there; inner = r.inner; rest = r.rest })
  ]

  open_action : (a : Action) {c : Block} → c ∈ blocks_inside a → (d : Block) × (d ∈ inner_blocks a) × Below c d
  open_action (declare v) m = elim m [ ]
  open_action (call_alone p ps c) m = elim m [ ]
  open_action (assign x e) m = elim m [ ]
  open_action (fill x e) m = elim m [ ]
  open_action (insert x k e) m = elim m [ ]
  open_action (print p e) m = elim m [ ]
  open_action (assert p e) m = elim m [ ]
  open_action (when x b) m = (b, first, one_of (λ j. open_below b j) m)
  open_action (choose x b e) m = elim (either (b ∷ blocks_below b) (e ∷ blocks_below e) m) [
    | inl i ↦ (b, first, one_of (λ j. open_below b j) i)
    | inr i ↦ (e, later first, one_of (λ j. open_below e j) i)
  ]
  open_action (range lo hi st v k b) m = (b, first, one_of (λ j. open_below b j) m)
  open_action (each x v k b) m = (b, first, one_of (λ j. open_below b j) m)
  open_action (wait ns b) m = (b, first, one_of (λ j. open_below b j) m)

pub as_below : {c : Block} (b : Block) → c ∈ blocks_of b → Below c b
as_below b m = one_of (λ j. open_below b j) m

-- a statement of a block inside another
pub within : {c b : Block} {s : Stmt} → Below c b → s ∈ block_list c → s ∈ stmts_within b
within {b = b} r i = among (blocks_of b) (below_in r) i

-- where a statement within a block stands
pub stands_in : {s : Stmt} (b : Block) → s ∈ stmts_within b → (c : Block) × Below c b × (s ∈ block_list c)
stands_in b m = let r = among_split (blocks_of b) m in (r.0, as_below b r.1, r.2)

-- a block inside one of the script is one of the script
pub below_script : (s : Core) {c b : Block} → b ∈ script_blocks s → Below c b → c ∈ script_blocks s
below_script s m itself = m
below_script s m (under i j r) = below_script s (inner_block s m i j) r

function_split : (fs : List Function) {c : Block} → c ∈ function_blocks fs → (f : Function) × (f ∈ fs) × Below c f.body
function_split [] m = elim m [ ]
function_split (f ∷ fs) m = elim (either (blocks_of f.body) (function_blocks fs) m) [
  | inl i ↦ (f, first, as_below f.body i)
  | inr i ↦ (let r = function_split fs i in (r.0, later r.1, r.2))
]

-- a block of the script is inside its own block or a function's body
pub script_split : (s : Core) {c : Block} → c ∈ script_blocks s → Below c s.body ⊎ ((f : Function) × (f ∈ s.functions) × Below c f.body)
script_split s m = elim (either (blocks_of s.body) (function_blocks s.functions) m) [ inl i ↦ inl (as_below s.body i) | inr i ↦ inr (function_split s.functions i) ]

body_in : {f : Function} (fs : List Function) → f ∈ fs → f.body ∈ function_blocks fs
body_in [] m = elim m [ ]
body_in (f ∷ fs) first = to_left (blocks_of f.body) (function_blocks fs) first
body_in (g ∷ fs) (later m) = to_right (blocks_of g.body) (function_blocks fs) (body_in fs m)

pub function_block : (s : Core) {f : Function} → f ∈ s.functions → f.body ∈ script_blocks s
function_block s m = to_right (blocks_of s.body) (function_blocks s.functions) (body_in s.functions m)

-- the blocks inside a simple statement
pub simple_has_no_block : (a : Action) {c : Block} → IsSimple a → c ∈ inner_blocks a → ⊥
simple_has_no_block (declare v) i m = elim m [ ]
simple_has_no_block (call_alone p ps c) i m = elim m [ ]
simple_has_no_block (assign x e) i m = elim m [ ]
simple_has_no_block (fill x e) i m = elim m [ ]
simple_has_no_block (insert x k e) i m = elim m [ ]
simple_has_no_block (print p e) i m = elim m [ ]
simple_has_no_block (assert p e) i m = elim m [ ]
simple_has_no_block (when c b) i m = i
simple_has_no_block (choose c b d) i m = i
simple_has_no_block (range lo hi st v k b) i m = i
simple_has_no_block (each x v k b) i m = i
simple_has_no_block (wait ns b) i m = i

-- BLOCKS OF OUTLINES

mutual
  pub in_block : {c b a : Outline} → BlockIn c b → BlockIn b a → BlockIn c a
  in_block h the_block = h
  in_block h (in_a_step i k) = in_a_step i (in_block_of h k)

  in_block_of : {c b : Outline} {s : Step} → BlockIn c b → BlockOf b s → BlockOf c s
  in_block_of h (in_first k) = in_first (in_block h k)
  in_block_of h (in_other k) = in_other (in_block h k)
  in_block_of h (in_loop k) = in_loop (in_block h k)
  in_block_of h (in_wait k) = in_wait (in_block h k)

-- nothing has no step, and no block with a step stands in it
pub nothing_in : {s : Step} {b : Outline} → BlockIn b nothing → HasStep s b → ⊥
nothing_in the_block h = elim h [ ]
nothing_in (in_a_step i k) h = elim i [ ]

-- a use in a block or inside it is a step there
later_within : {s s' : Step} {o : Outline} → Within s o → Within s (followed s' o)
later_within w = by w.there w.has
  where
    by : {b : Outline} {s s' : Step} {o : Outline} → BlockIn b o → HasStep s b → Within s (followed s' o)
    by the_block h = record { block = _; there = the_block; has = later_step h }
    by (in_a_step i k) h = record { block = _; there = in_a_step (later_step i) k; has = h }

inner_within : {s s' : Step} {p o : Outline} → ((b : Outline) → BlockIn b p → BlockOf b s') → Within s p → Within s (followed s' o)
inner_within f w = record { block = w.block; there = in_a_step first_step (f w.block w.there); has = w.has }

mutual
  pub used_at : {u : Use} (o : Outline) → u ∈ uses_in o → Within (uses u) o
  used_at nothing m = elim m [ ]
  used_at (followed s o) m = elim (either (uses_at s) (uses_in o) m) [ inl i ↦ used_in s o i | inr i ↦ later_within (used_at o i) ]

  used_in : {u : Use} (s : Step) (o : Outline) → u ∈ uses_at s → Within (uses u) (followed s o)
  used_in (declares d) o m = elim m [ ]
  used_in (uses v) o m = one m
    where
      one : {u v : Use} {o : Outline} → u ∈ (v ∷ []) → Within (uses u) (followed (uses v) o)
      one first = record { block = _; there = the_block; has = first_step }
      one (later m) = elim m [ ]
  used_in (splits n at p q) o m = elim (either (uses_in p) (uses_in q) m) [
    | inl i ↦ inner_within (λ b h. in_first h) (used_at p i)
    | inr i ↦ inner_within (λ b h. in_other h) (used_at q i)
  ]
  used_in (repeats n p) o m = inner_within (λ b h. in_loop h) (used_at p m)
  used_in (encloses p) o m = inner_within (λ b h. in_wait h) (used_at p m)

own_use : {u : Use} {o : Outline} → HasStep (uses u) o → u ∈ uses_in o
own_use first_step = first
own_use (later_step {s' = s} {o = o} h) = to_right (uses_at s) (uses_in o) (own_use h)

pub at_used : {u : Use} {b o : Outline} → BlockIn b o → HasStep (uses u) b → u ∈ uses_in o
at_used i h = uses_up i (own_use h)
