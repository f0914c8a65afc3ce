-- What a live statement tells is what the meaning's news are, where names lie at the places that they denote.
use Rattle.std.specs.Prelude.{◌≡◌, ℕ, Bool, true, false, List, [], ◌∷◌, ◌++◌, Option, Some, None, refl}
use Rattle.std.proofs.Common.{ap, ap₂, ◌∙◌}
use Rattle.values.specs.declared.key.Key.{Key}
use Rattle.values.specs.declared.map.Element.{Element}
use Rattle.values.specs.declared.value.Scalar.{Scalar}
use Rattle.values.specs.declared.value.Value.{Value}
use Rattle.values.specs.declared.value.Value.TheVariants.{One, Many}
use Rattle.language.specs.Core.{Core, Name, Outer, Block, stmt, Action, declare, call_alone, assign, fill, insert, print, assert, when, choose, range, each, wait}
use Rattle.language.specs.Facts.{Fact, value}
use Rattle.language.specs.Parts.{cells, outer_cells}
use Rattle.language.specs.Places.{Place, place}
use Rattle.meaning_steps.specs.News.{unless, assigned_told, element_by as meant_by, element_told, elements_told, filled_told, inserted_told, deep_told, bad_told, items_told, own_told, comes_all, key_in, one_in, with_value, news}
use Rattle.meaning_facts.specs.declared.fact_base.FactBase.{FactBase}
use Rattle.meaning_round.specs.declared.site.LiveStatement.{LiveStatement}
use Rattle.meaning_round.specs.Faults.{sight_at, past_at, path_at, each_news}
use Rattle.meaning_round.specs.Told.{lies_at, comes_at, cells_news, assigned_news, element_by, element_news, elements_news, filled_news, inserted_news, branch_news, range_news, own_news, calls_news, site_news}

module _ (s : Core) (l : FactBase) (t : LiveStatement) (lies : (x : Name) → lies_at l t x ≡ place s (path_at l t) x) where
  assigned_meant : (x : Name) (o : Option Value) → assigned_news l t x o ≡ assigned_told s (past_at l t) (path_at l t) x o
  assigned_meant x None = refl
  assigned_meant x (Some v) = ap (λ (p : Place). unless ((past_at l t).valued x) (value p v)) (lies x)

  element_is : (a : Name) (k : Key) (v : Scalar) (w b : Bool) → element_by l t (place s (path_at l t) a) k v w b ≡ meant_by s (past_at l t) (path_at l t) t.at t.node a k v w b
  element_is a k v false b = refl
  element_is a k v true true = refl
  element_is a k v true false = refl

  element_meant : (a : Name) (k : Key) (v : Scalar) → element_news l t a k v ≡ element_told s (past_at l t) (path_at l t) t.at t.node a k v
  element_meant a k v =
      ap (λ (p : Place). element_by l t p k v ((past_at l t).written a k t.node) ((past_at l t).twice a k)) (lies a)
      ∙ element_is a k v ((past_at l t).written a k t.node) ((past_at l t).twice a k)

  elements_meant : (a : Name) (es : List Element) → elements_news l t a es ≡ elements_told s (past_at l t) (path_at l t) t.at t.node a es
  elements_meant a [] = refl
  elements_meant a (e ∷ es) = ap₂ (λ (x y : List Fact). x ++ y) (element_meant a e.key e.value) (elements_meant a es)

  filled_meant : (a : Name) (o : Option Value) → filled_news l t a o ≡ filled_told s (past_at l t) (path_at l t) t.at t.node a o
  filled_meant a (Some (Many es)) = elements_meant a es
  filled_meant a (Some (One v)) = refl
  filled_meant a None = refl

  inserted_meant : (a : Name) (k : Option Key) (v : Option Scalar) → inserted_news l t a k v ≡ inserted_told s (past_at l t) (path_at l t) t.at t.node a k v
  inserted_meant a (Some k) (Some v) = element_meant a k v
  inserted_meant a (Some k) None = refl
  inserted_meant a None v = refl

  when_meant : (c : Outer) (b : Block) (o : Option Value) → branch_news l t o false ≡ deep_told (past_at l t) (path_at l t) t.at t.node (when c b) (with_value o (Some []))
  when_meant c b (Some v) = refl
  when_meant c b None = refl

  choose_meant : (c : Outer) (b d : Block) (o : Option Value) → branch_news l t o true ≡ deep_told (past_at l t) (path_at l t) t.at t.node (choose c b d) (with_value o (Some []))
  choose_meant c b d (Some v) = refl
  choose_meant c b d None = refl

  range_meant : (lo hi : Outer) (st : Option Outer) (x : ℕ) (k : Option ℕ) (b : Block) (o : Option (List Value))
      → range_news l t o ≡ bad_told (past_at l t) (path_at l t) t.at t.node o ++ deep_told (past_at l t) (path_at l t) t.at t.node (range lo hi st x k b) o
  range_meant lo hi st x k b (Some vs) = refl
  range_meant lo hi st x k b None = refl

  each_meant : (a : Name) (x : ℕ) (k : Option ℕ) (b : Block) (c : Bool) (es : List Element) → each_news l t c es ≡ items_told (past_at l t) (path_at l t) t.at t.node c (each a x k b) es
  each_meant a x k b true es = refl
  each_meant a x k b false es = refl

  own_meant : (a : Action) → own_news l t a ≡ own_told s (sight_at l t) (past_at l t) (path_at l t) t.at t.node a
  own_meant (declare v) = refl
  own_meant (call_alone p ps c) = refl
  own_meant (assign x o) = assigned_meant x (comes_at l t o.cell)
  own_meant (fill a o) = filled_meant a (comes_at l t o.cell)
  own_meant (insert a i o) = inserted_meant a (key_in (comes_at l t i.cell)) (one_in (comes_at l t o.cell))
  own_meant (print p o) = refl
  own_meant (assert p o) = refl
  own_meant (when c b) = when_meant c b (comes_at l t c.cell)
  own_meant (choose c b d) = choose_meant c b d (comes_at l t c.cell)
  own_meant (range lo hi st x k b) = range_meant lo hi st x k b (comes_all (sight_at l t) (outer_cells (range lo hi st x k b)))
  own_meant (each a x k b) = each_meant a x k b ((sight_at l t).closed a) ((sight_at l t).elements a)
  own_meant (wait ns b) = refl

  pub told_is_news : (a : Action) → site_news l t a ≡ news s (sight_at l t) (past_at l t) (path_at l t) (stmt t.at t.node a)
  told_is_news a = ap (λ (z : List Fact). cells_news l t (cells (stmt t.at t.node a)) ++ (z ++ calls_news l t (stmt t.at t.node a))) (own_meant a)
