-- The clauses of single assignment said of a core's blocks are those said of outlines.
use Rattle.std.specs.Prelude.{◌≡◌, ◌⊎◌, ℕ, ◌<◌, ◌≤◌, List, [], Option, refl}
use Rattle.std.proofs.Common.{inl, inr, sym, subst}
use Rattle.lexer.specs.declared.token.Span.{Span}
use Rattle.language.specs.Core.{Owned, local, output, Stmt, stmt, Action, Outer, when, choose, range, each, Block, Function}
use Rattle.language.specs.Members.{◌∈◌, first}
use Rattle.language.specs.Numbered.{numbered}
use Rattle.language.specs.Parts.{stmts_within}
use Rattle.language.specs.Resolved.{core}
use Rattle.language.specs.Single as single
use Rattle.language.specs.Single.{Way, IsNamed, IsWritten, IsRead, Given, declared_here, an_output, LoopBody, of_range, of_each, SinglyAssigned}
use Rattle.language.specs.Table.{Table}
use Rattle.language.specs.Tree.{Tree}
use Rattle.language.specs.Typing.{WellTyped}
use Rattle.assign_check.specs.Outline as outline
use Rattle.assign_check.specs.Outline.{Role, result, given, Declared, Outline, nothing, Step, splits, repeats, outlines}
use Rattle.assign_check.specs.Through.{OnWay, at_end, Within}
use Rattle.assign_check.proofs.clauses.SingleOutline.{HasUse, Owns, Single}
use Rattle.assign_check.proofs.like.Like.{IsLoop, a_range, an_each, Like, StepLike, like_when, like_choose, like_loop, like_wait}
use Rattle.assign_check.proofs.like.LikeWays.{to_way, of_way}
use Rattle.assign_check.proofs.like.LikeSteps.{stands}
use Rattle.assign_check.proofs.like.LikeUses.{to_named, of_named, to_written, of_written, block_step, step_of, loop_body}
use Rattle.assign_check.proofs.like.LikeReads.{to_read, of_read}
use Rattle.assign_check.proofs.uses.Reading.{Clear}
use Rattle.assign_check.proofs.uses.Statements.{SameReads}
use Rattle.assign_check.proofs.outlines.Pairs.{inner_tree, own_tree, Meant, meant_inside}
use Rattle.assign_check.proofs.outlines.Owners.{outline_meant, found, Owner, output_owner, owner_of, giver_of, Side, side_of, owns_side, given_side, result_side, either_side, loop_is_not_simple}
use Rattle.assign_check.proofs.outlines.Apart.{apart}
use Rattle.assign_check.proofs.clauses.Claims.{ByOutlines, ToOutlines}

-- THE STEPS OF STATEMENTS WITH BLOCKS

choose_step : {R : List Step → Stmt → Type 0} {s : Step} {c : Outer} {d e : Block} → StepLike R s (choose c d e)
    → (n : ℕ) × (at : Span) × (p : Outline) × (q : Outline) × (s ≡ splits n at p q) × Like R [] p d × Like R [] q e
choose_step (like_choose {n = n} {at = at} {p = p} {q = q} l k) = (n, at, p, q, refl, l, k)
choose_step (like_loop l t k) = elim l [ ]

when_step : {R : List Step → Stmt → Type 0} {s : Step} {c : Outer} {d : Block} → StepLike R s (when c d) → (n : ℕ) × (at : Span) × (p : Outline) × (s ≡ splits n at p nothing) × Like R [] p d
when_step (like_when {n = n} {at = at} {p = p} l) = (n, at, p, refl, l)
when_step (like_loop l t k) = elim l [ ]

repeat_step : {R : List Step → Stmt → Type 0} {s : Step} {a : Action} {v : ℕ} {k : Option ℕ} {d : Block} → StepLike R s a → IsLoop a v k d
    → (n : ℕ) × (p : Outline) × (ds : List Declared) × (s ≡ repeats n p) × Like R ds p d
repeat_step (like_loop {n = n} {ds = ds} {p = p} a_range t l) a_range = (n, p, ds, refl, l)
repeat_step (like_loop {n = n} {ds = ds} {p = p} an_each t l) an_each = (n, p, ds, refl, l)
repeat_step (like_when l) i = elim i [ ]
repeat_step (like_choose l k) i = elim i [ ]
repeat_step (like_wait l) i = elim i [ ]

-- a loop of a block, with its body
record Loop (b d : Block) : Type 0 where
  at : ℕ
  node : ℕ
  action : Action
  value : ℕ
  key : Option ℕ
  is : IsLoop action value key d
  there : stmt at node action ∈ stmts_within b

loop_of : {b d : Block} → LoopBody b d → Loop b d
loop_of (of_range {at = at} {n = n} {v = v} {lo = lo} {hi = hi} {st = st} {k = k} {d = d} m) =
    record { at = at; node = n; action = range lo hi st v k d; value = v; key = k; is = a_range; there = m }
loop_of (of_each {at = at} {n = n} {v = v} {a = a} {k = k} {d = d} m) = record { at = at; node = n; action = each a v k d; value = v; key = k; is = an_each; there = m }

local_same : {m n : ℕ} → local m ≡ local n → m ≡ n
local_same h = cc

module _ (start : ℕ) (u tree : Tree) (t : Table) (is : tree ≡ numbered start u) (typed : WellTyped tree t) where
  abbrev Taken : ℕ → Type 0
  Taken n = n ∈ inner_tree tree

  abbrev Own : ℕ → Type 0
  Own n = n ∈ own_tree tree

  abbrev Reads : List Step → Stmt → Type 0
  Reads = SameReads Taken Own

  owner : {x : Owned} {b : Block} → single.Owns (core t tree) x b → Owner Taken Own t tree typed (λ n m. m) (λ n m. m) (λ r. r ≡ given → ⊥) x b
  owner w = owner_of Taken Own t tree typed (λ n m. m) (λ n m. m) w

  giver : {x : Owned} {b : Block} → Given (core t tree) x b → Owner Taken Own t tree typed (λ n m. m) (λ n m. m) (λ r. r ≡ given) x b
  giver w = giver_of Taken Own t tree typed (λ n m. m) (λ n m. m) w

  -- a declared variable has the number of no expression and no call
  clear : {x : Owned} {b : Block} → single.Owns (core t tree) x b → Clear Taken x
  clear (declared_here {n = n} m i) k j e =
      let f = found Taken Own t tree typed (λ n m. m) (λ n m. m) m in
      let o = (stands f.back.like i).reads.own n first in
      apart start u tree is o (subst (λ z. z ∈ inner_tree tree) (sym (local_same e)) j)
  clear (an_output m l) k j e = absurd (cc (e))

  -- FROM OUTLINES

  module _ (all : (o : Outline) → o ∈ outlines t tree → Single o) where
    by_once : (x : Owned) (b : Block) (n : ℕ) → single.Owns (core t tree) x b → Way x b n → n ≤ 1
    by_once x b n w h = let p = owner w in
        (all p.outline p.there).once p.declared p.inner n p.owns p.role (of_way p.declared.what p.like (subst (λ (y : Owned). Way y b n) (sym p.is) h))

    by_given_once : (x : Owned) (b : Block) (n : ℕ) → Given (core t tree) x b → Way x b n → n ≡ 0
    by_given_once x b n w h = let p = giver w in
        (all p.outline p.there).given_once p.declared p.inner n p.owns p.role (of_way p.declared.what p.like (subst (λ (y : Owned). Way y b n) (sym p.is) h))

    by_alike : (x : Owned) (b : Block) (at n : ℕ) (c : Outer) (d e : Block) (i j : ℕ) → single.Owns (core t tree) x b → stmt at n (choose c d e) ∈ stmts_within b → Way x d i → Way x e j → i ≡ j
    by_alike x b at n c d e i j w m h k =
        let p = owner w in
        let s = step_of p.like m (λ z. z) in
        let q = choose_step s.like in
        (all p.outline p.there).alike p.declared p.inner q.0 q.1 q.2 q.3 i j p.owns p.role (subst (λ (z : Step). Within z p.inner) q.4 s.there)
        (of_way p.declared.what q.5 (subst (λ (y : Owned). Way y d i) (sym p.is) h)) (of_way p.declared.what q.6 (subst (λ (y : Owned). Way y e j) (sym p.is) k))

    by_alone : (x : Owned) (b : Block) (at n : ℕ) (c : Outer) (d : Block) (i : ℕ) → single.Owns (core t tree) x b → stmt at n (when c d) ∈ stmts_within b → Way x d i → i ≡ 0
    by_alone x b at n c d i w m h =
        let p = owner w in
        let s = step_of p.like m (λ z. z) in
        let q = when_step s.like in
        (all p.outline p.there).alike p.declared p.inner q.0 q.1 q.2 nothing i 0 p.owns p.role (subst (λ (z : Step). Within z p.inner) q.3 s.there)
        (of_way p.declared.what q.4 (subst (λ (y : Owned). Way y d i) (sym p.is) h)) at_end

    by_assigned : (x : Owned) (b : Block) → single.Owns (core t tree) x b → IsRead x b → IsNamed x b
    by_assigned x b w h =
        let p = owner w in
        let r = subst (λ (y : Owned). HasUse outline.read y p.inner) (sym p.is) (of_read p.like (clear w) h) in
        subst (λ (y : Owned). IsNamed y b) p.is (to_named p.like ((all p.outline p.there).assigned p.declared p.inner p.owns p.role r))

    no_outer : {P : Role → Type 0} {x : Owned} {b d : Block} → Owner Taken Own t tree typed (λ n m. m) (λ n m. m) P x b → LoopBody b d → IsNamed x d → ⊥
    no_outer {d = d} p l h =
        let k = loop_of l in
        let s = step_of p.like k.there (loop_is_not_simple k.is) in
        let q = repeat_step s.like k.is in
        (all p.outline p.there).outside_loops p.declared p.inner q.0 q.1 p.owns (subst (λ (z : Step). Within z p.inner) q.3 s.there)
        (of_named q.4 (subst (λ (y : Owned). IsNamed y d) (sym p.is) h))

    by_outside_loops : (x : Owned) (b d : Block) → single.Owns (core t tree) x b ⊎ Given (core t tree) x b → LoopBody b d → IsNamed x d → ⊥
    by_outside_loops x b d (inl w) l h = no_outer (owner w) l h
    by_outside_loops x b d (inr w) l h = no_outer (giver w) l h

    by_one_form : (x : Owned) (b : Block) → single.Owns (core t tree) x b → IsNamed x b → IsWritten x b → ⊥
    by_one_form x b w h k = let p = owner w in
        (all p.outline p.there).one_form p.declared p.inner p.owns p.role (of_named p.like (subst (λ (y : Owned). IsNamed y b) (sym p.is) h))
        (of_written p.like (subst (λ (y : Owned). IsWritten y b) (sym p.is) k))

    by_given_form : (x : Owned) (b : Block) → Given (core t tree) x b → IsWritten x b → ⊥
    by_given_form x b w k = let p = giver w in
        (all p.outline p.there).given_form p.declared p.inner p.owns p.role (of_written p.like (subst (λ (y : Owned). IsWritten y b) (sym p.is) k))

    by_output : (f : Function) (j : ℕ) → f ∈ (core t tree).functions → j < f.outputs → IsNamed (output j) f.body ⊎ IsWritten (output j) f.body
    by_output f j m l =
        let p = output_owner Taken Own t tree typed (λ n m. m) (λ n m. m) m l in
        elim ((all p.outline p.there).output_assigned p.declared p.inner p.owns p.role) [
          | inl h ↦ inl (subst (λ (y : Owned). IsNamed y f.body) p.is (to_named p.like h))
          | inr h ↦ inr (subst (λ (y : Owned). IsWritten y f.body) p.is (to_written p.like h))
        ]

  -- FROM THE CORE

  module _ (all : SinglyAssigned (core t tree)) {o : Outline} (there : o ∈ outlines t tree) where
    -- the block that a declaration's block stands for
    meant : {d : Declared} {b : Outline} → Owns o d b → Meant Reads (core t tree) b
    meant w = meant_inside (outline_meant Taken Own t tree typed (λ n m. m) (λ n m. m) there) w.block w.declared

    side : {d : Declared} {b : Outline} → (w : Owns o d b) → Side (core t tree) d (meant w).block
    side w = side_of (meant w) w.declared

    to_once : (d : Declared) (b : Outline) (n : ℕ) → Owns o d b → (d.role ≡ given → ⊥) → OnWay d.what b n → n ≤ 1
    to_once d b n w r h = all.once d.what (meant w).block n (owns_side (side w) r) (to_way d.what (meant w).like h)

    to_given_once : (d : Declared) (b : Outline) (n : ℕ) → Owns o d b → d.role ≡ given → OnWay d.what b n → n ≡ 0
    to_given_once d b n w r h = all.given_once d.what (meant w).block n (given_side (side w) r) (to_way d.what (meant w).like h)

    splits_alike : {x : Owned} {b : Block} {n i j : ℕ} {at : Span} {p q : Outline} {at' m : ℕ} {a : Action} → single.Owns (core t tree) x b → StepLike Reads (splits n at p q) a
        → stmt at' m a ∈ stmts_within b → OnWay x p i → OnWay x q j → i ≡ j
    splits_alike {x} {b} {i = i} {at' = at'} {m = m} w (like_when {c = c} {d = d} l) k h at_end = all.alone x b at' m c d i w k (to_way x l h)
    splits_alike {x} {b} {i = i} {j = j} {at' = at'} {m = m} w (like_choose {c = c} {d = d} {e = e} l g) k h f = all.alike x b at' m c d e i j w k (to_way x l h) (to_way x g f)

    to_alike : (d : Declared) (b : Outline) (n : ℕ) (at : Span) (p q : Outline) (i j : ℕ) → Owns o d b → (d.role ≡ given → ⊥) → Within (splits n at p q) b → OnWay d.what p i → OnWay d.what q j
        → i ≡ j
    to_alike d b n at p q i j w r v h k = let s = block_step (meant w).like v tt in splits_alike (owns_side (side w) r) s.like s.there h k

    to_assigned : (d : Declared) (b : Outline) → Owns o d b → (d.role ≡ given → ⊥) → HasUse outline.read d.what b → HasUse outline.named d.what b
    to_assigned d b w r h = of_named (meant w).like (all.assigned d.what (meant w).block (owns_side (side w) r) (to_read (meant w).like h))

    repeats_outside : {x : Owned} {b : Block} {n : ℕ} {p : Outline} {at m : ℕ} {a : Action} → single.Owns (core t tree) x b ⊎ Given (core t tree) x b → StepLike Reads (repeats n p) a
        → stmt at m a ∈ stmts_within b → HasUse outline.named x p → ⊥
    repeats_outside {x} {b} w (like_loop {d = d} i g l) k h = all.outside_loops x b d w (loop_body i k) (to_named l h)

    to_outside_loops : (d : Declared) (b : Outline) (n : ℕ) (p : Outline) → Owns o d b → Within (repeats n p) b → HasUse outline.named d.what p → ⊥
    to_outside_loops d b n p w v h = let s = block_step (meant w).like v tt in repeats_outside (either_side (side w)) s.like s.there h

    to_one_form : (d : Declared) (b : Outline) → Owns o d b → (d.role ≡ given → ⊥) → HasUse outline.named d.what b → HasUse outline.written d.what b → ⊥
    to_one_form d b w r h k = all.one_form d.what (meant w).block (owns_side (side w) r) (to_named (meant w).like h) (to_written (meant w).like k)

    to_given_form : (d : Declared) (b : Outline) → Owns o d b → d.role ≡ given → HasUse outline.written d.what b → ⊥
    to_given_form d b w r k = all.given_form d.what (meant w).block (given_side (side w) r) (to_written (meant w).like k)

    to_output : (d : Declared) (b : Outline) → Owns o d b → d.role ≡ result → HasUse outline.named d.what b ⊎ HasUse outline.written d.what b
    to_output d b w r =
        let q = result_side (side w) r in
        elim (all.output_assigned q.0 q.1 q.2 q.3) [
          | inl h ↦ inl (of_named (meant w).like (subst (λ (z : Block). IsNamed d.what z) q.5 (subst (λ (y : Owned). IsNamed y (q.0).body) (sym q.4) h)))
          | inr h ↦ inr (of_written (meant w).like (subst (λ (z : Block). IsWritten d.what z) q.5 (subst (λ (y : Owned). IsWritten y (q.0).body) (sym q.4) h)))
        ]

-- a core whose script's outlines are singly assigned is so
pub by_outlines : ByOutlines
by_outlines n u tree t is typed all = record {
  once = by_once n u tree t is typed all;
  given_once = by_given_once n u tree t is typed all;
  alike = by_alike n u tree t is typed all;
  alone = by_alone n u tree t is typed all;
  assigned = by_assigned n u tree t is typed all;
  outside_loops = by_outside_loops n u tree t is typed all;
  one_form = by_one_form n u tree t is typed all;
  given_form = by_given_form n u tree t is typed all;
  output_assigned = by_output n u tree t is typed all;
}

-- the outlines of a script whose core is singly assigned are so
pub to_outlines : ToOutlines
to_outlines n u tree t is typed all o there = record {
  once = to_once n u tree t is typed all there;
  given_once = to_given_once n u tree t is typed all there;
  alike = to_alike n u tree t is typed all there;
  assigned = to_assigned n u tree t is typed all there;
  outside_loops = to_outside_loops n u tree t is typed all there;
  one_form = to_one_form n u tree t is typed all there;
  given_form = to_given_form n u tree t is typed all there;
  output_assigned = to_output n u tree t is typed all there;
}
