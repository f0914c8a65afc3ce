-- Statements in the order of texts: two lists of the same ones are the same.
use Rattle.std.proofs.Common.{◌≡◌, ◌⊎◌, inl, inr, ℕ, ◌<◌, true, List, [], ◌∷◌, map, refl, sym, ap, ◌∙◌, subst, arith}
use Rattle.std.specs.Prelude.{nat_lt, reverse}
use Rattle.std.proofs.lemmas.List.{reverse-reverse}
use Rattle.dataflow.specs.System.{In}
use Rattle.task_code.specs.Places as Places
use Rattle.paths.specs.declared.statements.StatementInstance.{StatementInstance}
use Rattle.paths.specs.declared.steps.Step.{Step}
use Rattle.board_instances.specs.View.{step_view}
use Rattle.paths.specs.Order.{path_below}
use Rattle.paths.proofs.Orders.{path_order}
use Rattle.board.specs.Blocked.{InTextOrder, comes_before}
use Rattle.board.specs.View.{path_view}
use Rattle.board_runs.specs.Same.{place_view}

below_sound : (n m : ℕ) → nat_lt n m ≡ true → n < m
below_sound n m h = grind arith

-- of two paths one at most comes first
one_first : (p q : List Step) → path_below p q ≡ true → path_below q p ≡ true → ⊥
one_first p q h k = path_order.not_own p (path_order.chain p q p h k)

-- a path is told by what it stands for
pub same_path : (p q : List Step) → path_view p ≡ path_view q → p ≡ q
same_path [] [] e = refl
same_path [] (t ∷ q) e = absurd (cc (e))
same_path (s ∷ p) [] e = absurd (cc (e))
same_path (s ∷ p) (t ∷ q) e =
    let first : step_view s ≡ step_view t = cc in
    let rest : path_view p ≡ path_view q = cc in
    let more = same_path p q rest in
    (λ k. record { offset = (first k).offset; key = (first k).key } ∷ more k)

pub unreversed : (p q : List Places.Step) → reverse p ≡ reverse q → p ≡ q
unreversed p q e = sym (reverse-reverse p) ∙ ap reverse e ∙ reverse-reverse q

-- an offset at a path before another
abbrev Before : ℕ → List Step → ℕ → List Step → Type 0
Before a p b q = (path_below p q ≡ true) ⊎ ((p ≡ q) × (a < b))

before : (s t : StatementInstance) → comes_before s t → Before s.at s.path.items t.at t.path.items
before s t (inl h) = inl h
before s t (inr h) = inr (same_path s.path.items t.path.items (unreversed (path_view s.path.items) (path_view t.path.items) h.0), below_sound s.at t.at h.1)

one_before : (a b : ℕ) (p q : List Step) → Before a p b q → Before b q a p → ⊥
one_before a b p q (inl h) (inl k) = one_first p q h k
one_before a b p q (inl h) (inr k) = (let same = subst (λ (r : List Step). path_below p r ≡ true) k.0 h in one_first p p same same)
one_before a b p q (inr h) (inl k) = (let same = subst (λ (r : List Step). path_below q r ≡ true) h.0 k in one_first q q same same)
one_before a b p q (inr h) (inr k) = omega (arith, h.1, k.1)

-- a statement does not come before one that comes before it, nor before itself, wherever their paths lie
never_back : (s t u v : StatementInstance) → comes_before s t → comes_before u v → place_view u ≡ place_view t → place_view v ≡ place_view s → ⊥
never_back s t u v h k first second =
    let p : u.path.items ≡ t.path.items = same_path u.path.items t.path.items (ap (λ (x : ℕ × List Places.Step). x.1) first) in
    let q : v.path.items ≡ s.path.items = same_path v.path.items s.path.items (ap (λ (x : ℕ × List Places.Step). x.1) second) in
    let a : u.at ≡ t.at = ap (λ (x : ℕ × List Places.Step). x.0) first in
    let b : v.at ≡ s.at = ap (λ (x : ℕ × List Places.Step). x.0) second in
    let back : Before t.at t.path.items s.at s.path.items =
    subst (λ (n : ℕ). Before n t.path.items s.at s.path.items) a (subst (λ (r : List Step). Before u.at r s.at s.path.items) p
    (subst (λ (n : ℕ). Before u.at u.path.items n s.path.items) b (subst (λ (r : List Step). Before u.at u.path.items v.at r) q (before u v k)))) in
    one_before s.at t.at s.path.items t.path.items (before s t h) back

-- each statement of the one list is, for what it stands for, one of the other
abbrev pub AreAmong : List StatementInstance → List StatementInstance → Type 0
AreAmong xs ys = (t : StatementInstance) → In t xs → (u : StatementInstance) × In u ys × (place_view u ≡ place_view t)

module _ (x y : StatementInstance) (xs ys : List StatementInstance) (ox : InTextOrder (x ∷ xs)) (oy : InTextOrder (y ∷ ys)) (to : AreAmong (x ∷ xs) (y ∷ ys)) (from : AreAmong (y ∷ ys) (x ∷ xs)) where
  same_head : place_view x ≡ place_view y
  same_head = by (to x (inl refl))
    where
      by : (u : StatementInstance) × In u (y ∷ ys) × (place_view u ≡ place_view x) → place_view x ≡ place_view y
      by (u, inl p, e) = sym e ∙ ap place_view p
      by (u, inr i, e) = other (from y (inl refl))
        where
          other : (v : StatementInstance) × In v (x ∷ xs) × (place_view v ≡ place_view y) → place_view x ≡ place_view y
          other (v, inl q, d) = sym (ap place_view q) ∙ d
          other (v, inr j, d) = absurd (never_back x v y u (ox.0 v j) (oy.0 u i) (sym d) e)

  to_rest : AreAmong xs ys
  to_rest t i = by (to t (inr i))
    where
      by : (u : StatementInstance) × In u (y ∷ ys) × (place_view u ≡ place_view t) → (u : StatementInstance) × In u ys × (place_view u ≡ place_view t)
      by (u, inr j, e) = (u, j, e)
      by (u, inl p, e) = (let same : place_view x ≡ place_view t = same_head ∙ sym (ap place_view p) ∙ e in absurd (never_back x t x t (ox.0 t i) (ox.0 t i) same (sym same)))

  from_rest : AreAmong ys xs
  from_rest t i = by (from t (inr i))
    where
      by : (u : StatementInstance) × In u (x ∷ xs) × (place_view u ≡ place_view t) → (u : StatementInstance) × In u xs × (place_view u ≡ place_view t)
      by (u, inr j, e) = (u, j, e)
      by (u, inl p, e) = (let same : place_view y ≡ place_view t = sym same_head ∙ sym (ap place_view p) ∙ e in absurd (never_back y t y t (oy.0 t i) (oy.0 t i) same (sym same)))

pub one_listing : (xs ys : List StatementInstance) → InTextOrder xs → InTextOrder ys → AreAmong xs ys → AreAmong ys xs → map place_view xs ≡ map place_view ys
one_listing [] [] ox oy to from = refl
one_listing [] (y ∷ ys) ox oy to from = absurd (from y (inl refl)).1
one_listing (x ∷ xs) [] ox oy to from = absurd (to x (inl refl)).1
one_listing (x ∷ xs) (y ∷ ys) ox oy to from =
    let first = same_head x y xs ys ox oy to from in
    let more = one_listing xs ys ox.1 oy.1 (to_rest x y xs ys ox oy to from) (from_rest x y xs ys ox oy to from) in
    (λ k. first k ∷ more k)
