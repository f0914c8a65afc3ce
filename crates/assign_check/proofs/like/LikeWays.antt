-- The ways through an outline are those through the block that it stands for.
use Rattle.std.specs.Prelude.{◌≡◌, ℕ, suc, ◌+◌, List, [], ◌∷◌, refl}
use Rattle.std.proofs.Common.{sym, ◌∙◌, subst, arith}
use Rattle.language.specs.Core.{Owned, Name, Stmt, stmt, Action, Block, stmts}
use Rattle.language.specs.Parts.{by_name}
use Rattle.language.specs.Single.{IsSimple, Times, nowhere, here_too, not_here, Way, way_end, way_on, StmtWay, simple, taken, skipped, then_way, else_way, range_way, each_way, wait_way}
use Rattle.assign_check.specs.Outline.{named, Use, Declared, Outline, followed, Step, uses, repeats}
use Rattle.assign_check.specs.Through.{OnWay, at_end, and_then, OnStep, a_declaration, a_target, of_another, no_name, first_branch, other_branch, a_loop, a_wait}
use Rattle.assign_check.proofs.like.Like.{before, Plain, no_step, own_step, named_step, written_step, read_step, IsLoop, a_range, an_each, Like, like_end, like_front, like_simple, like_block, StepLike, like_when, like_choose, like_loop, like_wait, named_is_not_written, named_is_not_read}

-- PLAIN STEPS

-- a way behind plain steps, with what these assign
abbrev Behind : Owned → List Name → Outline → ℕ → Type 0
Behind x ns o n = (i : ℕ) × (j : ℕ) × Times x ns i × OnWay x o j × (n ≡ i + j)

no_more : {x : Owned} {ns : List Name} {o : Outline} {u : Use} {m n k : ℕ} → (u.kind ≡ named → ⊥) → OnStep x (uses u) m → k ≡ m + n → Behind x ns o n → Behind x ns o k
no_more h (a_target q e) s r = absurd (h q)
no_more h (of_another f) s r = let t = r.4 in (r.0, r.1, r.2, r.3, omega arith)
no_more h (no_name f) s r = let t = r.4 in (r.0, r.1, r.2, r.3, omega arith)

one_more : {x : Owned} {ns : List Name} {y : Name} {o : Outline} {u : Use} {m n k : ℕ} → u.kind ≡ named → y.what ≡ u.of → OnStep x (uses u) m → k ≡ m + n → Behind x ns o n
    → Behind x (y ∷ ns) o k
one_more h w (a_target q e) s r = let t = r.4 in (suc r.0, r.1, here_too (w ∙ e) r.2, r.3, omega arith)
one_more h w (of_another f) s r = let t = r.4 in (r.0, r.1, not_here (λ e. f (sym w ∙ e)) r.2, r.3, omega arith)
one_more h w (no_name f) s r = absurd (f h)

plain_way : {x : Owned} {ss : List Step} {ns es : List Name} {vs : List ℕ} {o : Outline} {n : ℕ} → Plain ss ns es vs → OnWay x (before ss o) n → Behind x ns o n
plain_way {n = n} no_step w = (0, n, nowhere, w, omega arith)
plain_way (own_step r e p) (and_then a_declaration w s) = let q = plain_way p w in let t = q.4 in (q.0, q.1, q.2, q.3, omega arith)
plain_way (named_step h w p) (and_then u r s) = one_more h w u s (plain_way p r)
plain_way (written_step h w p) (and_then u r s) = no_more (λ e. named_is_not_written e h) u s (plain_way p r)
plain_way (read_step h p) (and_then u r s) = no_more (λ e. named_is_not_read e h) u s (plain_way p r)

way_plain : {x : Owned} {ss : List Step} {ns es : List Name} {vs : List ℕ} {o : Outline} {i j : ℕ} → Plain ss ns es vs → Times x ns i → OnWay x o j → OnWay x (before ss o) (i + j)
way_plain {x} {o = o} {j = j} no_step nowhere w = let e : j ≡ 0 + j = omega arith in subst (λ k. OnWay x o k) e w
way_plain (own_step r e p) t w = and_then a_declaration (way_plain p t w) (omega arith)
way_plain (named_step h w p) (here_too e t) v = and_then (a_target h (sym w ∙ e)) (way_plain p t v) (omega arith)
way_plain (named_step h w p) (not_here f t) v = and_then (of_another (λ e. f (w ∙ e))) (way_plain p t v) (omega arith)
way_plain (written_step h w p) t v = and_then (no_name (λ e. named_is_not_written e h)) (way_plain p t v) (omega arith)
way_plain (read_step h p) t v = and_then (no_name (λ e. named_is_not_read e h)) (way_plain p t v) (omega arith)

-- WAYS

loop_way : {x : Owned} {a : Action} {at n v : ℕ} {k : _} {d : Block} → IsLoop a v k d → StmtWay x (stmt at n a) 0
loop_way a_range = range_way
loop_way an_each = each_way

loop_count : {x : Owned} {a : Action} {at n v m : ℕ} {k : _} {d : Block} → IsLoop a v k d → StmtWay x (stmt at n a) m → m ≡ 0
loop_count a_range range_way = refl
loop_count a_range (simple i t) = elim i [ ]
loop_count an_each each_way = refl
loop_count an_each (simple i t) = elim i [ ]

module _ {R : List Step → Stmt → Type 0} (x : Owned) where
  mutual
    pub to_way : {ds : List Declared} {o : Outline} {b : Block} {n : ℕ} → Like R ds o b → OnWay x o n → Way x b n
    to_way like_end at_end = way_end
    to_way (like_front {b = b} r l) (and_then {n = m} {k = k} a_declaration w e) = let s : m ≡ k = omega arith in subst (λ i. Way x b i) s (to_way l w)
    to_way (like_simple i p r l) w = let q = plain_way p w in way_on (simple i q.2) (to_way l q.3) q.4
    to_way (like_block p r s l) w = let q = plain_way p w in by q.2 q.3 q.4 (λ m h. to_step s h) (λ m h. to_way l h)
      where
        by : {at n i j k : ℕ} {s : Step} {a : Action} {o : Outline} {b : Block} → Times x [] i → OnWay x (followed s o) j → k ≡ i + j → ((m : ℕ) → OnStep x s m → StmtWay x (stmt at n a) m)
            → ((m : ℕ) → OnWay x o m → Way x b m) → Way x (stmts (stmt at n a) b) k
        by nowhere (and_then {m = m} {n = n'} h w e) q f g = way_on (f m h) (g n' w) (omega arith)

    to_step : {s : Step} {a : Action} {at n m : ℕ} → StepLike R s a → OnStep x s m → StmtWay x (stmt at n a) m
    to_step (like_when l) (first_branch w) = taken (to_way l w)
    to_step (like_when l) (other_branch at_end) = skipped
    to_step (like_choose l k) (first_branch w) = then_way (to_way l w)
    to_step (like_choose l k) (other_branch w) = else_way (to_way k w)
    to_step (like_loop i t l) a_loop = loop_way i
    to_step (like_wait l) (a_wait w) = wait_way (to_way l w)

  mutual
    pub of_way : {ds : List Declared} {o : Outline} {b : Block} {n : ℕ} → Like R ds o b → Way x b n → OnWay x o n
    of_way like_end way_end = at_end
    of_way (like_front r l) w = and_then a_declaration (of_way l w) (omega arith)
    of_way (like_simple {ss = ss} {a = a} {o = o} i p r l) (way_on h w e) = subst (λ k. OnWay x (before ss o) k) (sym e) (way_plain p (times i h) (of_way l w))
      where
        times : {at n m : ℕ} {a : Action} → IsSimple a → StmtWay x (stmt at n a) m → Times x (by_name a) m
        times i (simple j t) = t
        times i (taken w) = elim i [ ]
        times i skipped = elim i [ ]
        times i (then_way w) = elim i [ ]
        times i (else_way w) = elim i [ ]
        times i range_way = elim i [ ]
        times i each_way = elim i [ ]
        times i (wait_way w) = elim i [ ]
    of_way (like_block {ss = ss} {s = s} {o = o} p r t l) (way_on {m = m} {n = n} {k = k} h w e) =
        let q : k ≡ 0 + (m + n) = omega arith in
        subst (λ i. OnWay x (before ss (followed s o)) i) (sym q) (way_plain p nowhere (and_then (of_step t h) (of_way l w) refl))

    of_step : {s : Step} {a : Action} {at n m : ℕ} → StepLike R s a → StmtWay x (stmt at n a) m → OnStep x s m
    of_step (like_when l) (taken w) = first_branch (of_way l w)
    of_step (like_when l) skipped = other_branch at_end
    of_step (like_when l) (simple i t) = elim i [ ]
    of_step (like_choose l k) (then_way w) = first_branch (of_way l w)
    of_step (like_choose l k) (else_way w) = other_branch (of_way k w)
    of_step (like_choose l k) (simple i t) = elim i [ ]
    of_step (like_loop {n = n} {p = p} i t l) h = subst (λ m. OnStep x (repeats n p) m) (sym (loop_count i h)) a_loop
    of_step (like_wait l) (wait_way w) = a_wait (of_way l w)
    of_step (like_wait l) (simple i t) = elim i [ ]
