-- What was opened so far is so with the statements of one live block more.
use Rattle.std.specs.Prelude.{◌≡◌, ◌⊎◌, ℕ, ◌<◌, Bool, true, false, List, [], ◌∷◌, ◌++◌, length, refl}
use Rattle.std.proofs.Common.{inl, inr, sym, subst}
use Rattle.language.specs.Core.{local, Block, Core, Stmt, stmt, Action, declare, call_alone, assign, fill, insert, print, assert, when, choose, range, each, wait}
use Rattle.language.specs.Facts.{Knowledge}
use Rattle.language.specs.Members.{◌∈◌, first, later}
use Rattle.language.specs.Meaning.{Live, LiveStmt, in_block}
use Rattle.language.specs.Parts.{block_list, stmt_action}
use Rattle.language_laws.proofs.Declared.{live_block}
use Rattle.meaning_facts.specs.declared.facts.Place.{Place as Spot}
use Rattle.meaning_facts.specs.declared.fact_base.FactBase.{FactBase}
use Rattle.meaning_facts.specs.Paths.{path_of}
use Rattle.meaning_invariants.specs.Active.{Active, active, Candidate, IsDeclared}
use Rattle.meaning_invariants.specs.Never.{never_ends}
use Rattle.meaning_invariants.specs.Listed.{all_active, declares, declares_by, unless_never}
use Rattle.meaning_invariants.specs.Opened.{GoesOn, IsActive, IsCandidate, IsSoFar}
use Rattle.meaning_invariants.proofs.Going.{goes_nowhere}

pub in_left : {X : Type 0} {x : X} (xs ys : List X) → x ∈ xs → x ∈ (xs ++ ys)
in_left [] ys i = elim i [ ]
in_left (y ∷ xs) ys first = first
in_left (y ∷ xs) ys (later i) = later (in_left xs ys i)

pub in_right : {X : Type 0} {x : X} (xs ys : List X) → x ∈ ys → x ∈ (xs ++ ys)
in_right [] ys i = i
in_right (y ∷ xs) ys i = later (in_right xs ys i)

pub in_either : {X : Type 0} {x : X} (xs ys : List X) → x ∈ (xs ++ ys) → (x ∈ xs) ⊎ (x ∈ ys)
in_either [] ys i = inr i
in_either (y ∷ xs) ys first = inl first
in_either (y ∷ xs) ys (later i) = elim (in_either xs ys i) [ inl j ↦ inl (later j) | inr j ↦ inr j ]

-- a statement of a block is among the active ones, and each of these is one
pub active_in : (i : ℕ) (ss : List Stmt) (st : Stmt) → st ∈ ss → active i st ∈ all_active i ss
active_in i [] st m = elim m [ ]
active_in i (s ∷ ss) st first = first
active_in i (s ∷ ss) st (later m) = later (active_in i ss st m)

pub record IsOneOf (i : ℕ) (ss : List Stmt) (a : Active) : Type 0 where
  pub instance_is : a.instance ≡ i
  pub there : a.statement ∈ ss

pub one_of : (i : ℕ) (ss : List Stmt) (a : Active) → a ∈ all_active i ss → IsOneOf i ss a
one_of i [] a m = elim m [ ]
one_of i (s ∷ ss) a first = record { instance_is = refl; there = first }
one_of i (s ∷ ss) a (later m) = let x = one_of i ss a m in record { instance_is = x.instance_is; there = later x.there }

module _ (s : Core) (levels : ℕ) (i : ℕ) (b : Block) where
  -- a declared variable is a candidate, or never ends
  kept_or_never : (v : ℕ) (never : Bool) → never_ends s levels (local v) b ≡ never
      → (◌∈◌ {X = Candidate} (record { instance = i; node = v }, b) (unless_never i b v never)) ⊎ (never_ends s levels (local v) b ≡ true)
  kept_or_never v true e = inr e
  kept_or_never v false e = inl first

  pub listed_or_never : (ss : List Stmt) (at m v : ℕ) → stmt at m (declare v) ∈ ss
      → (◌∈◌ {X = Candidate} (record { instance = i; node = v }, b) (declares s levels i b ss)) ⊎ (never_ends s levels (local v) b ≡ true)
  listed_or_never [] at m v x = elim x [ ]
  listed_or_never (st ∷ ss) at m v first = elim (kept_or_never v (never_ends s levels (local v) b) refl) [
    | inl x ↦ inl (in_left (declares_by s levels i b (declare v)) (declares s levels i b ss) x)
    | inr x ↦ inr x
  ]
  listed_or_never (st ∷ ss) at m v (later x) = elim (listed_or_never ss at m v x) [
    | inl y ↦ inl (in_right (declares_by s levels i b (stmt_action st)) (declares s levels i b ss) y)
    | inr y ↦ inr y
  ]

  -- each candidate is declared
  pub record IsListed (ss : List Stmt) (p : Spot) (c : Block) : Type 0 where
    pub at : ℕ
    pub node : ℕ
    pub there : stmt at node (declare p.node) ∈ ss
    pub instance_is : p.instance ≡ i
    pub block_is : c ≡ b

  of_one : (v : ℕ) (never : Bool) (p : Spot) (c : Block) (at n : ℕ) (ss : List Stmt) → ◌∈◌ {X = Candidate} (p, c) (unless_never i b v never) → IsListed (stmt at n (declare v) ∷ ss) p c
  of_one v true p c at n ss m = elim m [ ]
  of_one v false p c at n ss first = record { at = at; node = n; there = first; instance_is = refl; block_is = refl }
  of_one v false p c at n ss (later m) = elim m [ ]

  of_stmt : (at n : ℕ) (x : Action) (p : Spot) (c : Block) (ss : List Stmt) → ◌∈◌ {X = Candidate} (p, c) (declares_by s levels i b x) → IsListed (stmt at n x ∷ ss) p c
  of_stmt at n (declare v) p c ss m = of_one v (never_ends s levels (local v) b) p c at n ss m
  of_stmt at n (call_alone q ps d) p c ss m = elim m [ ]
  of_stmt at n (assign y e) p c ss m = elim m [ ]
  of_stmt at n (fill y e) p c ss m = elim m [ ]
  of_stmt at n (insert y k e) p c ss m = elim m [ ]
  of_stmt at n (print q e) p c ss m = elim m [ ]
  of_stmt at n (assert q e) p c ss m = elim m [ ]
  of_stmt at n (when o d) p c ss m = elim m [ ]
  of_stmt at n (choose o d e) p c ss m = elim m [ ]
  of_stmt at n (range lo hi st v k d) p c ss m = elim m [ ]
  of_stmt at n (each y v k d) p c ss m = elim m [ ]
  of_stmt at n (wait ns d) p c ss m = elim m [ ]

  further : (st : Stmt) (ss : List Stmt) (p : Spot) (c : Block) → IsListed ss p c → IsListed (st ∷ ss) p c
  further st ss p c x = record { at = x.at; node = x.node; there = later x.there; instance_is = x.instance_is; block_is = x.block_is }

  pub of_declares : (ss : List Stmt) (p : Spot) (c : Block) → ◌∈◌ {X = Candidate} (p, c) (declares s levels i b ss) → IsListed ss p c
  of_declares [] p c m = elim m [ ]
  of_declares (stmt at n x ∷ ss) p c m = elim (in_either (declares_by s levels i b x) (declares s levels i b ss) m) [
    | inl y ↦ of_stmt at n x p c ss y
    | inr y ↦ further (stmt at n x) ss p c (of_declares ss p c y)
  ]

module _ (s : Core) (K : Knowledge) (levels : ℕ) (l : FactBase) (ls : List Active) (arrays : List Candidate) (far : IsSoFar s K levels l ls arrays)
    (i : ℕ) (within : i < length l.instances.all.items) (b : Block) (live : Live s K (path_of l.instances.all.items i) b) where
  abbrev pub more : List Active
  more = ls ++ all_active i (block_list b)

  abbrev pub candidates : List Candidate
  candidates = arrays ++ declares s levels i b (block_list b)

  pub block_goes_on : GoesOn l ls l more
  block_goes_on = goes_nowhere l ls more (λ a m. in_left ls (all_active i (block_list b)) m)

  -- the statements of the block are listed
  pub block_listed : (st : Stmt) → st ∈ block_list b → active i st ∈ more
  block_listed st m = in_right ls (all_active i (block_list b)) (active_in i (block_list b) st m)

  live_more : (a : Active) → a ∈ more → IsActive s K l a
  live_more a m = elim (in_either ls (all_active i (block_list b)) m) [
    | inl x ↦ far.live a x
    | inr x ↦
        let y = one_of i (block_list b) a x in
        record {
          within = subst (λ (j : ℕ). j < length l.instances.all.items) (sym y.instance_is) within;
          so = subst (λ (j : ℕ). LiveStmt s K (path_of l.instances.all.items j) a.statement) (sym y.instance_is) (in_block live y.there);
        }
  ]

  declared_more : (j at m n : ℕ) → active j (stmt at m (declare n)) ∈ more → IsDeclared s levels candidates j at m n
  declared_more j at m n x = elim (in_either ls (all_active i (block_list b)) x) [
    | inl y ↦
        let d = far.declared j at m n y in
        record {
          block = d.block;
          in_script = d.in_script;
          there = d.there;
          listed = elim d.listed [ inl z ↦ inl (in_left arrays (declares s levels i b (block_list b)) z) | inr z ↦ inr z ];
        }
    | inr y ↦
        let o = one_of i (block_list b) (active j (stmt at m (declare n))) y in
        record {
          block = b;
          in_script = live_block s live;
          there = o.there;
          listed = elim (listed_or_never s levels i b (block_list b) at m n o.there) [
            | inl z ↦ inl (in_right arrays (declares s levels i b (block_list b)) (subst (λ (k : ℕ). ◌∈◌ {X = Candidate} (record { instance = k; node = n }, b) (declares s levels i b (block_list b))) (sym o.instance_is) z))
            | inr z ↦ inr z
          ];
        }
  ]

  candidate_more : (p : Spot) (c : Block) → ◌∈◌ {X = Candidate} (p, c) candidates → IsCandidate s K l p c
  candidate_more p c m = elim (in_either arrays (declares s levels i b (block_list b)) m) [
    | inl x ↦ far.candidates p c x
    | inr x ↦
        let y = of_declares s levels i b (block_list b) p c x in
        record {
          within = subst (λ (j : ℕ). j < length l.instances.all.items) (sym y.instance_is) within;
          live = subst (λ (j : ℕ). Live s K (path_of l.instances.all.items j) c) (sym y.instance_is) (subst (λ (d : Block). Live s K (path_of l.instances.all.items i) d) (sym y.block_is) live);
          at = y.at;
          node = y.node;
          there = subst (λ (d : Block). stmt y.at y.node (declare p.node) ∈ block_list d) (sym y.block_is) y.there;
        }
  ]

  pub so_far_listed : IsSoFar s K levels l more candidates
  so_far_listed = record {
    holds = far.holds;
    placed = far.placed;
    live = live_more;
    closed = far.closed;
    origins = far.origins;
    script = λ st m. in_left ls (all_active i (block_list b)) (far.script st m);
    declared = declared_more;
    candidates = candidate_more;
  }
