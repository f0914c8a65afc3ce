-- Where steps of an outline stand for statements of a block, in the block or inside it.
use Rattle.std.specs.Prelude.{◌≡◌, ◌⊎◌, ℕ, List, [], ◌∷◌, Option}
use Rattle.std.proofs.Common.{inl, inr}
use Rattle.language.specs.Core.{Stmt, stmt, Action, Block, stmts}
use Rattle.language.specs.Members.{◌∈◌, first, later}
use Rattle.language.specs.Parts.{block_list, by_name, by_element}
use Rattle.language.specs.Single.{IsSimple}
use Rattle.language.proofs.Blocks.{inner_blocks}
use Rattle.language.proofs.Tested.{declared_of}
use Rattle.assign_check.specs.Outline.{own, Declared, Outline, followed, Step, declares}
use Rattle.assign_check.specs.Through.{HasStep, first_step, later_step, BlockIn, the_block, in_a_step, BlockOf, in_first, in_other, in_loop, in_wait}
use Rattle.assign_check.proofs.like.Like.{Plain, IsLoop, a_range, an_each, Turns, Like, like_end, like_front, like_simple, like_block, StepLike, like_when, like_choose, like_loop, like_wait, in_before, before_left, before_right, plain_has_no_block}
use Rattle.assign_check.proofs.like.CoreBlocks.{Below, itself, under, simple_has_no_block, nothing_in}

-- a statement with a block has no targets and declares nothing
widen : {R : List Step → Stmt → Type 0} {ss : List Step} {s : Step} {a : Action} → StepLike R s a → Plain ss [] [] [] → Plain ss (by_name a) (by_element a) (declared_of a)
widen (like_when l) p = p
widen (like_choose l k) p = p
widen (like_loop a_range t l) p = p
widen (like_loop an_each t l) p = p
widen (like_wait l) p = p

-- the steps of a statement, in an outline
pub record Stands (R : List Step → Stmt → Type 0) (o : Outline) (at n : ℕ) (a : Action) : Type 0 where
  pub steps : List Step
  pub there : (s : Step) → s ∈ steps → HasStep s o
  pub plain : Plain steps (by_name a) (by_element a) (declared_of a)
  pub reads : R steps (stmt at n a)
  pub rest : IsSimple a ⊎ ((s : Step) × HasStep s o × StepLike R s a)

further : {R : List Step → Stmt → Type 0} {o p : Outline} {at n : ℕ} {a : Action} → ((s : Step) → HasStep s o → HasStep s p) → Stands R o at n a → Stands R p at n a
further f r = record {
  steps = r.steps;
  there = λ s m. f s (r.there s m);
  plain = r.plain;
  reads = r.reads;
  rest = elim r.rest [ inl i ↦ inl i | inr q ↦ inr (q.0, f q.0 q.1, q.2) ];
}

-- each statement has its steps
pub stands : {R : List Step → Stmt → Type 0} {ds : List Declared} {o : Outline} {b : Block} {at n : ℕ} {a : Action} → Like R ds o b → stmt at n a ∈ block_list b → Stands R o at n a
stands like_end m = elim m [ ]
stands (like_front r l) m = further (λ s h. later_step h) (stands l m)
stands (like_simple {ss = ss} {o = o} i p r l) first = record { steps = ss; there = λ s m. before_left o m; plain = p; reads = r; rest = inl i }
stands (like_simple {ss = ss} i p r l) (later m) = further (λ s h. before_right ss h) (stands l m)
stands (like_block {ss = ss} {s = t} {o = o} p r s l) first =
    record { steps = ss; there = λ s m. before_left (followed t o) m; plain = widen s p; reads = r; rest = inr (t, before_right ss first_step, s) }
stands (like_block {ss = ss} p r s l) (later m) = further (λ s h. before_right ss (later_step h)) (stands l m)

-- a step comes from a declaration in front, or from a statement of the block
pub data Comes (R : List Step → Stmt → Type 0) (ds : List Declared) (b : Block) : Step → Type 0 where
  of_front : {d : Declared} → d ∈ ds → (d.role ≡ own → ⊥) → Comes R ds b (declares d)
  of_plain : {at n : ℕ} {a : Action} {ss : List Step} {s : Step} → stmt at n a ∈ block_list b → Plain ss (by_name a) (by_element a) (declared_of a)
      → R ss (stmt at n a) → s ∈ ss → Comes R ds b s
  of_block : {at n : ℕ} {a : Action} {s : Step} → stmt at n a ∈ block_list b → StepLike R s a → Comes R ds b s

behind : {R : List Step → Stmt → Type 0} {b : Block} {st : Stmt} {s : Step} → Comes R [] b s → Comes R [] (stmts st b) s
behind (of_front m r) = elim m [ ]
behind (of_plain m p r i) = of_plain (later m) p r i
behind (of_block m t) = of_block (later m) t

more_front : {R : List Step → Stmt → Type 0} {ds : List Declared} {b : Block} {d : Declared} {s : Step} → Comes R ds b s → Comes R (d ∷ ds) b s
more_front (of_front m r) = of_front (later m) r
more_front (of_plain m p r i) = of_plain m p r i
more_front (of_block m t) = of_block m t

pub comes : {R : List Step → Stmt → Type 0} {ds : List Declared} {o : Outline} {b : Block} {s : Step} → Like R ds o b → HasStep s o → Comes R ds b s
comes like_end h = elim h [ ]
comes (like_front r l) first_step = of_front first r
comes (like_front r l) (later_step h) = more_front (comes l h)
comes (like_simple {ss = ss} i p r l) h = elim (in_before ss h) [ inl m ↦ of_plain first p r m | inr k ↦ behind (comes l k) ]
comes (like_block {ss = ss} p r t l) h = by (in_before ss h) (λ k. comes l k) p r t
  where
    by : {R : List Step → Stmt → Type 0} {at n : ℕ} {a : Action} {b : Block} {ss : List Step} {s s' : Step} {o : Outline} → (s ∈ ss) ⊎ HasStep s (followed s' o)
        → (HasStep s o → Comes R [] b s) → Plain ss [] [] [] → R ss (stmt at n a) → StepLike R s' a → Comes R [] (stmts (stmt at n a) b) s
    by (inl m) f p r t = of_plain first (widen t p) r m
    by (inr first_step) f p r t = of_block first t
    by (inr (later_step k)) f p r t = behind (f k)

pub front_has : {R : List Step → Stmt → Type 0} {ds : List Declared} {o : Outline} {b : Block} {d : Declared} → Like R ds o b → d ∈ ds → HasStep (declares d) o
front_has (like_front r l) first = first_step
front_has (like_front r l) (later m) = later_step (front_has l m)
front_has like_end m = elim m [ ]
front_has (like_simple i p r l) m = elim m [ ]
front_has (like_block p r t l) m = elim m [ ]

-- INTO BLOCKS

-- how a block inside another came to its declarations in front
pub data Fronted (ds : List Declared) (b : Block) : List Declared → Block → Type 0 where
  the_front : Fronted ds b ds b
  no_front : {c : Block} → Fronted ds b [] c
  loop_front : {c e : Block} {at n v : ℕ} {k : Option ℕ} {a : Action} {es : List Declared} → Below e b → stmt at n a ∈ block_list e → IsLoop a v k c → Turns es v k
      → Fronted ds b es c

-- a block of an outline, with the block of the core that it stands for
pub record Pair (R : List Step → Stmt → Type 0) (ds : List Declared) (b : Block) (o : Outline) : Type 0 where
  pub block : Block
  pub front : List Declared
  pub like : Like R front o block
  pub below : Below block b
  pub fronted : Fronted ds b front block

loop_inner : {a : Action} {v : ℕ} {k : Option ℕ} {d : Block} → IsLoop a v k d → d ∈ inner_blocks a
loop_inner a_range = first
loop_inner an_each = first

-- a pair inside a block of a statement is one inside the statement's block
through : {R : List Step → Stmt → Type 0} {ds es : List Declared} {b c : Block} {at n : ℕ} {a : Action} {o : Outline} → stmt at n a ∈ block_list b → c ∈ inner_blocks a
    → Fronted ds b es c → Pair R es c o → Pair R ds b o
through i m f r = record { block = r.block; front = r.front; like = r.like; below = under i m r.below; fronted = by i m f r.fronted }
  where
    by : {ds es fs : List Declared} {b c d : Block} {at n : ℕ} {a : Action} → stmt at n a ∈ block_list b → c ∈ inner_blocks a → Fronted ds b es c → Fronted es c fs d → Fronted ds b fs d
    by i m f the_front = f
    by i m f no_front = no_front
    by i m f (loop_front r j l t) = loop_front (under i m r) j l t

-- a step with a block inside is a statement's
opening : {R : List Step → Stmt → Type 0} {ds : List Declared} {p : Outline} {b : Block} {s : Step} → Comes R ds b s → BlockOf p s
    → (at : ℕ) × (n : ℕ) × (a : Action) × (stmt at n a ∈ block_list b) × StepLike R s a
opening (of_front m r) k = elim k [ ]
opening (of_plain i p r m) k = absurd (plain_has_no_block p m k)
opening (of_block {at = at} {n = n} {a = a} i t) k = (at, n, a, i, t)

mutual
  -- each block of an outline in which a step stands has its block
  pub down : {R : List Step → Stmt → Type 0} {ds : List Declared} {o p : Outline} {b : Block} {s : Step} → Like R ds o b → BlockIn p o → HasStep s p → Pair R ds b p
  down {ds = ds} {b = b} l the_block h = record { block = b; front = ds; like = l; below = itself; fronted = the_front }
  down l (in_a_step i k) h = let q = opening (comes l i) k in enter q.3 q.4 k h

  enter : {R : List Step → Stmt → Type 0} {ds : List Declared} {p : Outline} {b : Block} {s s' : Step} {at n : ℕ} {a : Action} → stmt at n a ∈ block_list b → StepLike R s a
      → BlockOf p s → HasStep s' p → Pair R ds b p
  enter i (like_when l) (in_first k) h = through i first no_front (down l k h)
  enter i (like_when l) (in_other k) h = absurd (nothing_in k h)
  enter i (like_choose l m) (in_first k) h = through i first no_front (down l k h)
  enter i (like_choose l m) (in_other k) h = through i (later first) no_front (down m k h)
  enter i (like_loop c t l) (in_loop k) h = through i (loop_inner c) (loop_front itself i c t) (down l k h)
  enter i (like_wait l) (in_wait k) h = through i first no_front (down l k h)

-- a block of the core, with the block of the outline that stands for it
pub record Back (R : List Step → Stmt → Type 0) (o : Outline) (b : Block) : Type 0 where
  pub outline : Outline
  pub front : List Declared
  pub like : Like R front outline b
  pub inside : BlockIn outline o

leave : {R : List Step → Stmt → Type 0} {s : Step} {a : Action} {d : Block} → StepLike R s a → d ∈ inner_blocks a
    → (p : Outline) × (ds : List Declared) × Like R ds p d × ((q : Outline) → BlockIn q p → BlockOf q s)
leave (like_when {p = p} l) first = (p, [], l, λ q k. in_first k)
leave (like_when l) (later m) = elim m [ ]
leave (like_choose {p = p} l k) first = (p, [], l, λ q k. in_first k)
leave (like_choose {q = q} l k) (later first) = (q, [], k, λ q k. in_other k)
leave (like_choose l k) (later (later m)) = elim m [ ]
leave (like_loop {ds = ds} {p = p} a_range t l) first = (p, ds, l, λ q k. in_loop k)
leave (like_loop a_range t l) (later m) = elim m [ ]
leave (like_loop {ds = ds} {p = p} an_each t l) first = (p, ds, l, λ q k. in_loop k)
leave (like_loop an_each t l) (later m) = elim m [ ]
leave (like_wait {p = p} l) first = (p, [], l, λ q k. in_wait k)
leave (like_wait l) (later m) = elim m [ ]

-- each block of the core inside has its outline
pub up : {R : List Step → Stmt → Type 0} {c : Block} {ds : List Declared} {o : Outline} {b : Block} → Like R ds o b → Below c b → Back R o c
up {ds = ds} {o = o} l itself = record { outline = o; front = ds; like = l; inside = the_block }
up l (under {a = a} i m r) = by (stands l i) m (λ es p k. up k r)
  where
    by : {R : List Step → Stmt → Type 0} {o : Outline} {d c : Block} {at n : ℕ} {a : Action} → Stands R o at n a → d ∈ inner_blocks a
        → ((es : List Declared) (p : Outline) → Like R es p d → Back R p c) → Back R o c
    by {a = a} w m f = elim w.rest [
      | inl i ↦ absurd (simple_has_no_block a i m)
      | inr q ↦ (
          let e = leave q.2 m in
          let g = f e.1 e.0 e.2 in
          record { outline = g.outline; front = g.front; like = g.like; inside = in_a_step q.1 (e.3 g.outline g.inside) })
    ]
