-- What is told of a range, with the values of its bounds.
use Rattle.std.specs.Prelude.{◌≡◌, Bool, ◌||◌, List, [], ◌∷◌, ◌++◌, map, Option, Some, None, option_map, option_to_list}
use Rattle.std.proofs.Common.{sym, ap, ◌∙◌}
use Rattle.values.specs.declared.value.Value.{Value}
use Rattle.flow.specs.declared.cell.OuterCell.{OuterCell}
use Rattle.flow.specs.declared.statement.Range.{Range}
use Rattle.flow.specs.View.{outer_view}
use Rattle.language.specs.Core as core
use Rattle.language.specs.Facts.{Fact}
use Rattle.language.specs.Parts.{part_calls, outer_parts}
use Rattle.meaning_steps.specs.News.{comes_all, some_call, with_value}
use Rattle.meaning_facts.specs.declared.fact_base.FactBase.{FactBase}
use Rattle.meaning_round.specs.declared.site.LiveStatement.{LiveStatement}
use Rattle.meaning_round.specs.Faults.{sight_at}
use Rattle.meaning_round.specs.Told.{outers_news, range_news, comes_at, range_outers}
use Rattle.meaning_round.proofs.Behind.{two_told, three_told}
use Rattle.meaning_round.proofs.Calls.{some_outers}

-- the outermost cells of a range, with its step
abbrev with_step : {A : Type 0} → Range A → Option (OuterCell A) → List core.Outer
with_step r o = outer_view r.low ∷ outer_view r.high ∷ option_to_list (option_map outer_view o)

abbrev told_by : FactBase → LiveStatement → List core.Outer → List Fact
told_by l t os = outers_news l t os ++ range_news l t (comes_all (sight_at l t) (map (λ (o : core.Outer). o.cell) os))

bounds_come : (l : FactBase) (t : LiveStatement) (lo hi : core.Outer) (a b : Option Value) → a ≡ comes_at l t lo.cell → b ≡ comes_at l t hi.cell → (o : Option (List Value))
    → range_news l t (with_value a (with_value b o)) ≡ range_news l t (with_value (comes_at l t lo.cell) (with_value (comes_at l t hi.cell) o))
bounds_come l t lo hi a b e f o =
    ap (λ (z : Option Value). range_news l t (with_value z (with_value b o))) e
    ∙ ap (λ (z : Option Value). range_news l t (with_value (comes_at l t lo.cell) (with_value z o))) f

pub range_stepped : (A : Type 0) (l : FactBase) (t : LiveStatement) (r : Range A) (s : OuterCell A) (a b d : Option Value) (us vs xs ys zs : List Fact) → r.step ≡ Some s
    → a ≡ comes_at l t (outer_view r.low).cell → b ≡ comes_at l t (outer_view r.high).cell → d ≡ comes_at l t (outer_view s).cell
    → vs ≡ us ++ outers_news l t (outer_view r.low ∷ []) → xs ≡ vs ++ outers_news l t (outer_view r.high ∷ []) → ys ≡ xs ++ outers_news l t (outer_view s ∷ [])
    → zs ≡ ys ++ range_news l t (with_value a (with_value b (with_value d (Some []))))
    → zs ≡ us ++ told_by l t (range_outers r)
range_stepped A l t r s a b d us vs xs ys zs is e f g h i j k =
    three_told l t (outer_view r.low) (outer_view r.high) (outer_view s) (range_news l t (with_value a (with_value b (with_value d (Some []))))) us vs xs ys zs h i j k
    ∙ ap (λ (z : List Fact). us ++ (outers_news l t (with_step r (Some s)) ++ z))
    (bounds_come l t (outer_view r.low) (outer_view r.high) a b e f (with_value d (Some []))
    ∙ ap (λ (z : Option Value). range_news l t (with_value (comes_at l t (outer_view r.low).cell) (with_value (comes_at l t (outer_view r.high).cell) (with_value z (Some []))))) g)
    ∙ ap (λ (o : Option (OuterCell A)). us ++ told_by l t (with_step r o)) (sym is)

pub range_between : (A : Type 0) (l : FactBase) (t : LiveStatement) (r : Range A) (a b : Option Value) (us vs xs ys : List Fact) → r.step ≡ None
    → a ≡ comes_at l t (outer_view r.low).cell → b ≡ comes_at l t (outer_view r.high).cell
    → vs ≡ us ++ outers_news l t (outer_view r.low ∷ []) → xs ≡ vs ++ outers_news l t (outer_view r.high ∷ [])
    → ys ≡ xs ++ range_news l t (with_value a (with_value b (Some [])))
    → ys ≡ us ++ told_by l t (range_outers r)
range_between A l t r a b us vs xs ys is e f h i k =
    two_told l t (outer_view r.low) (outer_view r.high) (range_news l t (with_value a (with_value b (Some [])))) us vs xs ys h i k
    ∙ ap (λ (z : List Fact). us ++ (outers_news l t (with_step r None) ++ z)) (bounds_come l t (outer_view r.low) (outer_view r.high) a b e f (Some []))
    ∙ ap (λ (o : Option (OuterCell A)). us ++ told_by l t (with_step r o)) (sym is)

-- CALLS

-- whether a call lies in one of the bounds
abbrev holds : core.Outer → Bool
holds o = some_call (part_calls (outer_parts (o ∷ [])))

pub range_holds : (A : Type 0) (r : Range A) (b : Bool) → b ≡ some_call (part_calls (outer_parts (option_to_list (option_map outer_view r.step))))
    → some_call (part_calls (outer_parts (range_outers r))) ≡ some_call (part_calls (outer_parts (outer_view r.low ∷ []))) || (some_call (part_calls (outer_parts (outer_view r.high ∷ []))) || b)
range_holds A r b e =
    some_outers (outer_view r.low) (outer_view r.high ∷ option_to_list (option_map outer_view r.step))
    ∙ ap (λ (z : Bool). holds (outer_view r.low) || z)
    (some_outers (outer_view r.high) (option_to_list (option_map outer_view r.step)) ∙ ap (λ (z : Bool). holds (outer_view r.high) || z) (sym e))
