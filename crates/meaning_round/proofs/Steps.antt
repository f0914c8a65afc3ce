-- Steps of loops that add what is told, one part, element or statement after another.
use Rattle.std.specs.Prelude.{◌≡◌, ℕ, ◌+◌, ◌<◌, List, [], ◌∷◌, ◌++◌, length, map, take, refl}
use Rattle.std.proofs.Common.{sym, ap, ◌∙◌, get_or}
use Rattle.std.proofs.lemmas.List.{map-append, append_assoc, append-nil, take_more}
use Rattle.values.specs.declared.map.Element.{Element}
use Rattle.flow.specs.declared.cell.CellPart.{CellPart}
use Rattle.flow.specs.View.{part_view, parts_view}
use Rattle.language.specs.Core.{Name, Cell}
use Rattle.language.specs.Facts.{Fact}
use Rattle.language.specs.Parts.{part_cells}
use Rattle.meaning_facts.specs.declared.fact_base.FactBase.{FactBase}
use Rattle.meaning_round.specs.declared.site.LiveStatement.{LiveStatement}
use Rattle.meaning_round.specs.declared.state.LiveTask.{LiveTask}
use Rattle.meaning_round.specs.Faults.{sight_at, past_at, path_at}
use Rattle.meaning_round.specs.Told.{cells_news, element_news, elements_news}
use Rattle.meaning_invariants.specs.Active.{Active}
use Rattle.meaning_round.specs.Standing.{active_of, active_news, actives_news}
use Rattle.meaning_round.proofs.Behind.{cells_append, parts_append}

pub parts_step : {A : Type 0} (l : FactBase) (t : LiveStatement) (ps : List (CellPart A)) (i : ℕ) (d : CellPart A) (xs ys zs : List Fact) → i < length ps
    → ys ≡ xs ++ cells_news l t (part_cells (parts_view (take i ps))) → zs ≡ ys ++ cells_news l t (part_cells (part_view (get_or ps i d) ∷ []))
    → zs ≡ xs ++ cells_news l t (part_cells (parts_view (take (i + 1) ps)))
parts_step {A} l t ps i d xs ys zs h e f =
    f ∙ ap (λ (z : List Fact). z ++ cells_news l t (part_cells (part_view (get_or ps i d) ∷ []))) e
    ∙ append_assoc xs (cells_news l t (part_cells (parts_view (take i ps)))) (cells_news l t (part_cells (part_view (get_or ps i d) ∷ [])))
    ∙ ap (λ (z : List Fact). xs ++ z)
    (sym (cells_append (sight_at l t) (past_at l t) (path_at l t) t.at (part_cells (parts_view (take i ps))) (part_cells (part_view (get_or ps i d) ∷ [])))
    ∙ ap (λ (z : List Cell). cells_news l t z)
    (sym (parts_append (parts_view (take i ps)) (part_view (get_or ps i d) ∷ []))
    ∙ ap part_cells (sym (map-append part_view (take i ps) (get_or ps i d ∷ [])) ∙ ap parts_view (sym (take_more ps i d h)))))

elements_append : (l : FactBase) (t : LiveStatement) (a : Name) (es ds : List Element) → elements_news l t a (es ++ ds) ≡ elements_news l t a es ++ elements_news l t a ds
elements_append l t a [] ds = refl
elements_append l t a (e ∷ es) ds =
    ap (λ (z : List Fact). element_news l t a e.key e.value ++ z) (elements_append l t a es ds)
    ∙ sym (append_assoc (element_news l t a e.key e.value) (elements_news l t a es) (elements_news l t a ds))

pub elements_step : (l : FactBase) (t : LiveStatement) (a : Name) (es : List Element) (i : ℕ) (d : Element) (xs ys zs : List Fact) → i < length es
    → ys ≡ xs ++ elements_news l t a (take i es) → zs ≡ ys ++ element_news l t a (get_or es i d).key (get_or es i d).value
    → zs ≡ xs ++ elements_news l t a (take (i + 1) es)
elements_step l t a es i d xs ys zs h e f =
    f ∙ ap (λ (z : List Fact). z ++ element_news l t a (get_or es i d).key (get_or es i d).value) e
    ∙ append_assoc xs (elements_news l t a (take i es)) (element_news l t a (get_or es i d).key (get_or es i d).value)
    ∙ ap (λ (z : List Fact). xs ++ z)
    (ap (λ (z : List Fact). elements_news l t a (take i es) ++ z) (sym (append-nil (element_news l t a (get_or es i d).key (get_or es i d).value)))
    ∙ sym (elements_append l t a (take i es) (get_or es i d ∷ []))
    ∙ ap (λ (z : List Element). elements_news l t a z) (sym (take_more es i d h)))

pub actives_append : (l : FactBase) (xs bs : List Active) → actives_news l (xs ++ bs) ≡ actives_news l xs ++ actives_news l bs
actives_append l [] bs = refl
actives_append l (a ∷ xs) bs = ap (λ (z : List Fact). active_news l a ++ z) (actives_append l xs bs) ∙ sym (append_assoc (active_news l a) (actives_news l xs) (actives_news l bs))

pub tasks_step : {A : Type 0} (l : FactBase) (ts : List (LiveTask A)) (i : ℕ) (d : LiveTask A) (ys zs : List Fact) → i < length ts
    → ys ≡ actives_news l (map active_of (take i ts)) → zs ≡ ys ++ active_news l (active_of (get_or ts i d)) → zs ≡ actives_news l (map active_of (take (i + 1) ts))
tasks_step {A} l ts i d ys zs h e f =
    f ∙ ap (λ (z : List Fact). z ++ active_news l (active_of (get_or ts i d))) e
    ∙ ap (λ (z : List Fact). actives_news l (map active_of (take i ts)) ++ z) (sym (append-nil (active_news l (active_of (get_or ts i d)))))
    ∙ sym (actives_append l (map active_of (take i ts)) (active_of (get_or ts i d) ∷ []))
    ∙ ap (λ (z : List Active). actives_news l z) (sym (map-append active_of (take i ts) (get_or ts i d ∷ [])) ∙ ap (λ (z : List (LiveTask A)). map active_of z) (sym (take_more ts i d h)))
