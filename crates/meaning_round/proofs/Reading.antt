-- What statements read, one cell, part or element after another.
use Rattle.std.specs.Prelude.{◌≡◌, ℕ, ℤ, ◌+◌, ◌<◌, List, [], ◌∷◌, ◌++◌, length, map, take, option_map, option_to_list, refl}
use Rattle.std.proofs.Common.{sym, ap, ◌∙◌, get_or}
use Rattle.std.proofs.lemmas.List.{map-append, append_assoc, append-nil, take_more}
use Rattle.values.specs.declared.map.Element.{Element}
use Rattle.flow.specs.declared.cell.CellPart.{CellPart as FlowPart}
use Rattle.flow.specs.declared.expression.Expr.{Expr as FlowExpr}
use Rattle.flow.specs.declared.statement.Range.{Range}
use Rattle.flow.specs.View.{expr_view, exprs_view, operands, outer_view, part_view, parts_view}
use Rattle.language.specs.Core.{Cell, Call, Expr, Outer, Part, Action, inner, calls, call_alone}
use Rattle.language.specs.Parts.{outer_parts, part_cells}
use Rattle.meaning_facts.specs.declared.facts.Place.{Place}
use Rattle.meaning_facts.specs.declared.fact_base.FactBase.{FactBase}
use Rattle.meaning_round.specs.declared.site.LiveStatement.{LiveStatement}
use Rattle.meaning_round.specs.declared.worklist.WakeEvent.{WakeEvent}
use Rattle.meaning_round.specs.Reads.{cell_reads, cells_reads, elements_reads, expr_reads, exprs_reads, outers_reads, site_reads, under}
use Rattle.meaning_round.specs.Told.{range_outers}
use Rattle.meaning_round.proofs.Behind.{parts_append}

pub read_both : (xs ys zs ks ls : List WakeEvent) → ys ≡ xs ++ ks → zs ≡ ys ++ ls → zs ≡ xs ++ (ks ++ ls)
read_both xs ys zs ks ls e f = f ∙ ap (λ (z : List WakeEvent). z ++ ls) e ∙ append_assoc xs ks ls

pub only_read : (xs ys ks : List WakeEvent) → ys ≡ xs ++ ks → ys ≡ xs ++ (ks ++ [])
only_read xs ys ks e = e ∙ ap (λ (z : List WakeEvent). xs ++ z) (sym (append-nil ks))

-- CELLS

cells_append : (l : FactBase) (t : LiveStatement) (cs ds : List Cell) → cells_reads l t (cs ++ ds) ≡ cells_reads l t cs ++ cells_reads l t ds
cells_append l t [] ds = refl
cells_append l t (c ∷ cs) ds = ap (λ (z : List WakeEvent). cell_reads l t c ++ z) (cells_append l t cs ds) ∙ sym (append_assoc (cell_reads l t c) (cells_reads l t cs) (cells_reads l t ds))

parts_more : (l : FactBase) (t : LiveStatement) (ps qs : List Part) → cells_reads l t (part_cells (ps ++ qs)) ≡ cells_reads l t (part_cells ps) ++ cells_reads l t (part_cells qs)
parts_more l t ps qs = ap (cells_reads l t) (parts_append ps qs) ∙ cells_append l t (part_cells ps) (part_cells qs)

-- an outermost cell behind the parts inside it
pub outer_read : (l : FactBase) (t : LiveStatement) (o : Outer) (xs ys zs : List WakeEvent) → ys ≡ xs ++ cells_reads l t (part_cells o.parts) → zs ≡ ys ++ cell_reads l t o.cell → zs ≡ xs ++ outers_reads l t (o ∷ [])
outer_read l t o xs ys zs e f =
    read_both xs ys zs (cells_reads l t (part_cells o.parts)) (cell_reads l t o.cell) e f
    ∙ ap (λ (z : List WakeEvent). xs ++ z)
    (ap (λ (z : List WakeEvent). cells_reads l t (part_cells o.parts) ++ z) (sym (append-nil (cell_reads l t o.cell))) ∙ sym (parts_more l t o.parts (inner o.cell ∷ [])))

-- one outermost cell and then others
outers_more : (l : FactBase) (t : LiveStatement) (o : Outer) (os : List Outer) → outers_reads l t (o ∷ os) ≡ outers_reads l t (o ∷ []) ++ outers_reads l t os
outers_more l t o os =
    ap (λ (z : List Part). cells_reads l t (part_cells z)) (sym (append_assoc o.parts (inner o.cell ∷ []) (outer_parts os)))
    ∙ parts_more l t (o.parts ++ inner o.cell ∷ []) (outer_parts os)

-- two outermost cells, and then what the statement reads
pub two_read : (l : FactBase) (t : LiveStatement) (o p : Outer) (ks vs xs ys zs : List WakeEvent) → xs ≡ vs ++ outers_reads l t (o ∷ []) → ys ≡ xs ++ outers_reads l t (p ∷ []) → zs ≡ ys ++ ks
    → zs ≡ vs ++ (outers_reads l t (o ∷ p ∷ []) ++ ks)
two_read l t o p ks vs xs ys zs e f h =
    read_both vs ys zs (outers_reads l t (o ∷ p ∷ [])) ks
    (read_both vs xs ys (outers_reads l t (o ∷ [])) (outers_reads l t (p ∷ [])) e f ∙ ap (λ (z : List WakeEvent). vs ++ z) (sym (outers_more l t o (p ∷ [])))) h

-- the bounds of a range and its step
pub range_read : {A : Type 0} (l : FactBase) (t : LiveStatement) (r : Range A) (vs xs ys zs : List WakeEvent) → xs ≡ vs ++ outers_reads l t (outer_view r.low ∷ []) → ys ≡ xs ++ outers_reads l t (outer_view r.high ∷ [])
    → zs ≡ ys ++ outers_reads l t (option_to_list (option_map outer_view r.step)) → zs ≡ vs ++ (outers_reads l t (range_outers r) ++ [])
range_read l t r vs xs ys zs e f h =
    let o = outer_view r.low in
    let p = outer_view r.high in
    let qs = option_to_list (option_map outer_view r.step) in
    only_read vs zs (outers_reads l t (o ∷ p ∷ qs))
    (read_both vs xs zs (outers_reads l t (o ∷ [])) (outers_reads l t (p ∷ qs)) e
    (read_both xs ys zs (outers_reads l t (p ∷ [])) (outers_reads l t qs) f h ∙ ap (λ (z : List WakeEvent). xs ++ z) (sym (outers_more l t p qs)))
    ∙ ap (λ (z : List WakeEvent). vs ++ z) (sym (outers_more l t o (p ∷ qs))))

-- the parts of a call
pub call_read : (l : FactBase) (t : LiveStatement) (a : Action) (p : ℤ) (ps : List Part) (c : Call) (xs ys : List WakeEvent) → a ≡ call_alone p ps c → ys ≡ xs ++ cells_reads l t (part_cells ps)
    → ys ≡ xs ++ site_reads l t a
call_read l t a p ps c xs ys e f =
    only_read xs ys (cells_reads l t (part_cells ps)) f
    ∙ ap (λ (z : List WakeEvent). xs ++ (z ++ [])) (sym (parts_more l t ps (calls c ∷ []) ∙ append-nil (cells_reads l t (part_cells ps))))
    ∙ ap (λ (z : Action). xs ++ site_reads l t z) (sym e)

-- ONE AFTER ANOTHER

pub parts_next : {A : Type 0} (l : FactBase) (t : LiveStatement) (ps : List (FlowPart A)) (i : ℕ) (d : FlowPart A) (xs ys zs : List WakeEvent) → i < length ps
    → ys ≡ xs ++ cells_reads l t (part_cells (parts_view (take i ps))) → zs ≡ ys ++ cells_reads l t (part_cells (part_view (get_or ps i d) ∷ []))
    → zs ≡ xs ++ cells_reads l t (part_cells (parts_view (take (i + 1) ps)))
parts_next {A} l t ps i d xs ys zs h e f =
    read_both xs ys zs (cells_reads l t (part_cells (parts_view (take i ps)))) (cells_reads l t (part_cells (part_view (get_or ps i d) ∷ []))) e f
    ∙ ap (λ (z : List WakeEvent). xs ++ z)
    (sym (parts_more l t (parts_view (take i ps)) (part_view (get_or ps i d) ∷ []))
    ∙ ap (λ (z : List Part). cells_reads l t (part_cells z)) (sym (map-append part_view (take i ps) (get_or ps i d ∷ [])) ∙ ap parts_view (sym (take_more ps i d h))))

exprs_append : (l : FactBase) (i : ℕ) (es ds : List Expr) → exprs_reads l i (operands (es ++ ds)) ≡ exprs_reads l i (operands es) ++ exprs_reads l i (operands ds)
exprs_append l i [] ds = refl
exprs_append l i (e ∷ es) ds = ap (λ (z : List WakeEvent). expr_reads l i e ++ z) (exprs_append l i es ds) ∙ sym (append_assoc (expr_reads l i e) (exprs_reads l i (operands es)) (exprs_reads l i (operands ds)))

pub exprs_next : {A : Type 0} (l : FactBase) (n : ℕ) (es : List (FlowExpr A)) (i : ℕ) (d : FlowExpr A) (xs ys zs : List WakeEvent) → i < length es
    → ys ≡ xs ++ exprs_reads l n (exprs_view (take i es)) → zs ≡ ys ++ expr_reads l n (expr_view (get_or es i d)) → zs ≡ xs ++ exprs_reads l n (exprs_view (take (i + 1) es))
exprs_next {A} l n es i d xs ys zs h e f =
    read_both xs ys zs (exprs_reads l n (exprs_view (take i es))) (expr_reads l n (expr_view (get_or es i d))) e f
    ∙ ap (λ (z : List WakeEvent). xs ++ z)
    (ap (λ (z : List WakeEvent). exprs_reads l n (exprs_view (take i es)) ++ z) (sym (append-nil (expr_reads l n (expr_view (get_or es i d)))))
    ∙ sym (exprs_append l n (map expr_view (take i es)) (expr_view (get_or es i d) ∷ []))
    ∙ ap (λ (z : List Expr). exprs_reads l n (operands z)) (sym (map-append expr_view (take i es) (get_or es i d ∷ [])) ∙ ap (map expr_view) (sym (take_more es i d h))))

pub elements_next : (a : Place) (es : List Element) (i : ℕ) (d : Element) (xs ys zs : List WakeEvent) → i < length es
    → ys ≡ xs ++ elements_reads a (take i es) → zs ≡ ys ++ under a (get_or es i d).key ∷ [] → zs ≡ xs ++ elements_reads a (take (i + 1) es)
elements_next a es i d xs ys zs h e f =
    read_both xs ys zs (elements_reads a (take i es)) (under a (get_or es i d).key ∷ []) e f
    ∙ ap (λ (z : List WakeEvent). xs ++ z) (sym (map-append (λ x. under a x.key) (take i es) (get_or es i d ∷ [])) ∙ ap (elements_reads a) (sym (take_more es i d h)))
