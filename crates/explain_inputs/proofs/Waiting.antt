-- The one statement at an offset that can be blocked is the blocked one, and the instance at its path is there.
use Rattle.std.specs.Prelude.{◌≡◌, ◌⊎◌, ℕ, ◌+◌, ◌<◌, ◌≤◌, Bool, true, List, [], ◌∷◌, ◌++◌, length, map, reverse, filter, nat_eq, Option, Some, None, take, drop, refl}
use Rattle.std.proofs.Common.{rules, inl, inr, sym, ap, ◌∙◌, subst, arith, get_or}
use Rattle.std.proofs.lemmas.Bool.{cases_Bool, cases_lt}
use Rattle.std.proofs.lemmas.Option.{slice_get_past}
use Rattle.std.proofs.lemmas.List.{map-append, reverse-append, take-append-drop, take_more}
use Rattle.language.specs.Core.{Core, Stmt, stmt, Action, declare, call_alone, assign, fill, insert, print, assert, when, choose, range, each, wait}
use Rattle.language.specs.Meaning.{Known}
use Rattle.language.specs.Members.{◌∈◌, first, later}
use Rattle.language.specs.Outcomes.{Counts, Stuck}
use Rattle.language.specs.Parts.{script_stmts, stmt_action}
use Rattle.language.specs.Places.{Path}
use Rattle.language_laws.proofs.Declared.{stmt_in}
use Rattle.meaning_facts.specs.declared.instances.Instances.{Instances}
use Rattle.paths.specs.declared.steps.Step.{Step}
use Rattle.meaning_facts.specs.Paths.{at_path, child_at, child_behind, path_of, path_in, step_view, IsTree}
use Rattle.meaning_facts.proofs.Keeping.{at_path_of, found_there}
use Rattle.meaning_outcomes.specs.declared.knowledge.Knowledge.{Knowledge as Learning}
use Rattle.paths.specs.declared.statements.StatementInstance.{StatementInstance}
use Rattle.meaning_outcomes.specs.Known.{IsKnowledgeOf}
use Rattle.meaning_outcomes.specs.Read.{path_of as statement_path}
use Rattle.flow_index.specs.Candidates.{can_be_blocked, is_candidate, candidates, only}
use Rattle.flow_index.specs.Sites.{site_view}
use Rattle.explain_inputs.specs.declared.blocked_statement.BlockedStatement.{BlockedStatement}
use Rattle.explain_inputs.specs.Blocking.{IsWaiting}
use Rattle.explain_inputs.specs.Inputs.{Input, inputs_of, inputs_view}
use Rattle.explain_inputs.specs.Missing.{AreMissing}

-- THE STATEMENT

counts_so : (a : Action) → Counts a → can_be_blocked a ≡ true
counts_so (declare v) h = absurd h
counts_so (call_alone p ps c) h = absurd h
counts_so (assign x e) h = refl
counts_so (fill a e) h = refl
counts_so (insert a k e) h = refl
counts_so (print p e) h = refl
counts_so (assert p e) h = refl
counts_so (when c b) h = refl
counts_so (choose c b d) h = refl
counts_so (range lo hi st v k b) h = refl
counts_so (each a v k b) h = refl
counts_so (wait ns b) h = refl

same_number : (n : ℕ) → nat_eq n n ≡ true
same_number n = search rules

kept_by : {X : Type 0} (p : X → Bool) (xs : List X) {x : X} → x ∈ xs → p x ≡ true → x ∈ filter p xs
kept_by p [] m e = elim m [ ]
kept_by p (y ∷ ys) first e = rw e first
kept_by p (y ∷ ys) (later m) e = elim (cases_Bool (p y)) [
  | inl holds ↦ rw holds (later (kept_by p ys m e))
  | inr lacks ↦ rw lacks (kept_by p ys m e)
]

-- a blocked statement is among those at its offset that can be blocked
pub stuck_among : (s : Core) (k n at : ℕ) (a : Action) (path : Path) → Stuck s (Known s k) path at n a → stmt at n a ∈ candidates at (script_stmts s)
stuck_among s k n at a path h = kept_by (is_candidate at) (script_stmts s) (stmt_in s h.live) (rw (same_number at) (counts_so a h.counts))

only_is : (ss : List Stmt) (st x : Stmt) → only ss ≡ Some st → x ∈ ss → x ≡ st
only_is [] st x e m = elim m [ ]
only_is (u ∷ []) st x e first = cc (e)
only_is (u ∷ []) st x e (later m) = elim m [ ]
only_is (u ∷ v ∷ ss) st x e m = absurd (cc (e))

only_many : (ss : List Stmt) (x : Stmt) → only ss ≡ None → x ∈ ss → 2 ≤ length ss
only_many [] x e m = elim m [ ]
only_many (u ∷ []) x e m = absurd (cc (e))
only_many (u ∷ v ∷ ss) x e m = omega arith

pub found_is : (s : Core) (k n at : ℕ) (a : Action) (path : Path) (st : Stmt) → Stuck s (Known s k) path at n a → only (candidates at (script_stmts s)) ≡ Some st → st ≡ stmt at n a
found_is s k n at a path st h e = sym (only_is (candidates at (script_stmts s)) st (stmt at n a) e (stuck_among s k n at a path h))

pub several_there : (s : Core) (k n at : ℕ) (a : Action) (path : Path) → Stuck s (Known s k) path at n a → only (candidates at (script_stmts s)) ≡ None → 2 ≤ length (candidates at (script_stmts s))
several_there s k n at a path h e = only_many (candidates at (script_stmts s)) (stmt at n a) e (stuck_among s k n at a path h)

-- THE INSTANCE

-- where nothing is found at a path, nothing is behind it
pub nothing_behind : (t : Instances) (p q : Path) → at_path t q ≡ None → at_path t (p ++ q) ≡ None
nothing_behind t [] q e = e
nothing_behind t (x ∷ p) q e = ap (λ (o : Option ℕ). child_behind t o x.0 x.1) (nothing_behind t p q e)

-- at the path of any number an instance is found
pub some_there : (t : Instances) → IsTree t → (j : ℕ) → (i : ℕ) × (at_path t (path_of t.all.items j) ≡ Some i)
some_there t h j = by (cases_lt j (length t.all.items))
  where
    by : (j < length t.all.items) ⊎ (length t.all.items ≤ j) → (i : ℕ) × (at_path t (path_of t.all.items j) ≡ Some i)
    by (inl l) = (j, at_path_of t h j l)
    by (inr g) = (0, ap (λ o. at_path t (path_in o)) (slice_get_past t.all.items j g))

-- so nothing is missing at the path of a blocked statement
pub stuck_there : (s : Core) (k : Learning) (b : StatementInstance) → IsKnowledgeOf s k → (n : ℕ) (a : Action) → Stuck s (Known s k.rounds) (statement_path b) b.at n a
    → at_path k.fact_base.instances (statement_path b) ≡ None → ⊥
stuck_there s k b known n a h e =
    let x = known.stuck.all b.at (statement_path b) (n, a, h) in
    let i = some_there k.fact_base.instances known.placed.tree x.0.instance in
    let q : Some i.0 ≡ None = sym i.1 ∙ ap (at_path k.fact_base.instances) x.3 ∙ e in
    absurd (cc (q))

-- STEP BY STEP

pub steps_more : (path : List Step) (i : ℕ) (d : Step) → i < length path → reverse (map step_view (take (i + 1) path)) ≡ step_view (get_or path i d) ∷ reverse (map step_view (take i path))
steps_more path i d l =
    ap (λ (z : List Step). reverse (map step_view z)) (take_more path i d l)
    ∙ ap (λ (z : Path). reverse z) (map-append step_view (take i path) (get_or path i d ∷ []))
    ∙ reverse-append (map step_view (take i path)) (step_view (get_or path i d) ∷ [])

-- one step further
pub step_further : (t : Instances) (path : List Step) (i : ℕ) (d : Step) (from : ℕ) (to : Option ℕ) → i < length path
    → at_path t (reverse (map step_view (take i path))) ≡ Some from → to ≡ child_at t from (get_or path i d).offset (get_or path i d).key → at_path t (reverse (map step_view (take (i + 1) path))) ≡ to
step_further t path i d from to l e c =
    let x = get_or path i d in
    ap (at_path t) (steps_more path i d l) ∙ ap (λ (o : Option ℕ). child_behind t o x.offset x.key) e ∙ sym c

-- where nothing is found some steps on, nothing is found at all
pub step_lost : (t : Instances) (path : List Step) (i : ℕ) → at_path t (reverse (map step_view (take i path))) ≡ None → at_path t (reverse (map step_view path)) ≡ None
step_lost t path i e =
    let rest = map step_view (drop i path) in
    let done = map step_view (take i path) in
    let split : reverse (map step_view path) ≡ reverse rest ++ reverse done =
    ap (λ (z : List Step). reverse (map step_view z)) (sym (take-append-drop i path)) ∙ ap (λ (z : Path). reverse z) (map-append step_view (take i path) (drop i path)) ∙ reverse-append done rest in
    ap (at_path t) split ∙ nothing_behind t (reverse rest) (reverse done) e

-- WHAT IT WAITS FOR

pub waits_so : {A : Type 0} (s : Core) (k : Learning) (b : StatementInstance) (w : BlockedStatement A) (xs : List Input) → IsKnowledgeOf s k
    → Some (site_view w.site.now) ≡ only (candidates b.at (script_stmts s)) → at_path k.fact_base.instances (statement_path b) ≡ Some w.instance
    → xs ≡ inputs_of (stmt_action (site_view w.site.now))
    → (w.instance < length k.fact_base.instances.all.items → AreMissing s (Known s k.rounds) (path_of k.fact_base.instances.all.items w.instance) xs (inputs_view w.missing.items))
    → (n : ℕ) (a : Action) → Stuck s (Known s k.rounds) (statement_path b) b.at n a → IsWaiting s k b n a w
waits_so s k b w xs known e p i m n a h =
    let same : site_view w.site.now ≡ stmt b.at n a = found_is s k.rounds n b.at a (statement_path b) (site_view w.site.now) h (sym e) in
    let there = found_there k.fact_base.instances known.placed.tree (statement_path b) w.instance p in
    let reads : xs ≡ inputs_of a = i ∙ ap (λ (z : Stmt). inputs_of (stmt_action z)) same in
    let K = Known s k.rounds in
    let found = inputs_view w.missing.items in
    record {
      statement = same;
      within = there.0;
      path = there.1;
      missing = subst (λ (q : Path). AreMissing s K q (inputs_of a) found) there.1
          (subst (λ (z : List Input). AreMissing s K (path_of k.fact_base.instances.all.items w.instance) z found) reads (m there.0));
    }
