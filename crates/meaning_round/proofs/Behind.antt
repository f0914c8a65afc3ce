-- What is added behind facts, and what a cell tells.
use Rattle.std.specs.Prelude.{◌≡◌, ℕ, ℤ, zero, suc, ◌<◌, ◌&&◌, Bool, true, false, List, [], ◌∷◌, ◌++◌, Option, Some, None, Result, Ok, Err, refl}
use Rattle.std.proofs.Common.{sym, ap, ◌∙◌, arith}
use Rattle.std.proofs.lemmas.List.{map_push, append_assoc, append-nil}
use Rattle.values.specs.declared.fault.OpFault.{OpFault}
use Rattle.values.specs.declared.value.Value.{Value}
use Rattle.language.specs.Core.{Cell, Call, Part, inner, calls, Outer, Action, call_alone}
use Rattle.language.specs.Facts.{Fault, Fact, value, fault, operation}
use Rattle.language.specs.Openings.{bounds}
use Rattle.language.specs.Parts.{part_cells, outer_parts, parts}
use Rattle.language.specs.Places.{Path}
use Rattle.meaning_steps.specs.Environment.{Sight, Outcome}
use Rattle.meaning_steps.specs.News.{Past, unless, cell_by, cell_told, cells_told, deep_by, bad_by, count_of, some_turn, positive}
use Rattle.meaning_facts.specs.declared.facts.Fact.{Fact as Known}
use Rattle.meaning_facts.specs.declared.instances.Instance.{Instance}
use Rattle.meaning_facts.specs.declared.fact_base.FactBase.{FactBase}
use Rattle.meaning_round.specs.declared.site.LiveStatement.{LiveStatement}
use Rattle.meaning_round.specs.Faults.{sight_at, past_at, path_at, fault_news, deep_news}
use Rattle.meaning_round.specs.Told.{cells_news, outers_news, own_news, bounds_news}
use Rattle.meaning_facts.specs.Growing.{fact_view}
use Rattle.meaning_round.specs.Viewed.{facts_view}

-- LISTS

pub told_one : (ns : List Instance) (fs : List Known) (f : Known) (ks : List Fact) → ks ≡ fact_view ns f ∷ [] → facts_view ns (fs ++ f ∷ []) ≡ facts_view ns fs ++ ks
told_one ns fs f ks e = map_push (fact_view ns) fs f ∙ ap (λ (z : List Fact). facts_view ns fs ++ z) (sym e)

pub told_none : (xs ks : List Fact) → ks ≡ [] → xs ≡ xs ++ ks
told_none xs ks e = sym (append-nil xs) ∙ ap (λ (z : List Fact). xs ++ z) (sym e)

pub told_both : (xs ys zs ks ls : List Fact) → ys ≡ xs ++ ks → zs ≡ ys ++ ls → zs ≡ xs ++ (ks ++ ls)
told_both xs ys zs ks ls e f = f ∙ ap (λ (z : List Fact). z ++ ls) e ∙ append_assoc xs ks ls

-- CELLS

pub cell_known : (m : Past) (path : Path) (at n : ℕ) (a : Option Value) (o : Outcome) (v : Value) → a ≡ Some v → cell_by m path at n a o ≡ []
cell_known m path at n (Some u) o v e = refl
cell_known m path at n None o v e = absurd (cc (e))

pub cell_new : (m : Past) (path : Path) (at n : ℕ) (a : Option Value) (o : Outcome) (v : Value) → a ≡ None → o ≡ Some (Ok v) → cell_by m path at n a o ≡ value (path, n) v ∷ []
cell_new m path at n a o v e f = ap (λ (z : Option Value). cell_by m path at n z o) e ∙ ap (λ (z : Outcome). cell_by m path at n None z) f

pub cell_bad : (m : Past) (path : Path) (at n : ℕ) (a : Option Value) (o : Outcome) (k : Fault) → a ≡ None → o ≡ Some (Err k)
    → cell_by m path at n a o ≡ unless (m.faulted k at n) (fault k at (path, n))
cell_bad m path at n a o k e f = ap (λ (z : Option Value). cell_by m path at n z o) e ∙ ap (λ (z : Outcome). cell_by m path at n None z) f

pub cell_open : (m : Past) (path : Path) (at n : ℕ) (a : Option Value) (o : Outcome) → a ≡ None → o ≡ None → cell_by m path at n a o ≡ []
cell_open m path at n a o e f = ap (λ (z : Option Value). cell_by m path at n z o) e ∙ ap (λ (z : Outcome). cell_by m path at n None z) f

-- MORE CELLS

pub cells_append : (g : Sight) (m : Past) (path : Path) (at : ℕ) (cs ds : List Cell) → cells_told g m path at (cs ++ ds) ≡ cells_told g m path at cs ++ cells_told g m path at ds
cells_append g m path at [] ds = refl
cells_append g m path at (c ∷ cs) ds =
    ap (λ (z : List Fact). cell_told g m path at c ++ z) (cells_append g m path at cs ds) ∙ sym (append_assoc (cell_told g m path at c) (cells_told g m path at cs) (cells_told g m path at ds))

pub parts_append : (ps qs : List Part) → part_cells (ps ++ qs) ≡ part_cells ps ++ part_cells qs
parts_append [] qs = refl
parts_append (inner c ∷ ps) qs = ap (λ (z : List Cell). c ∷ z) (parts_append ps qs)
parts_append (calls c ∷ ps) qs = parts_append ps qs

-- an outermost cell behind the parts inside it
pub outer_told : (g : Sight) (m : Past) (path : Path) (at : ℕ) (ps : List Part) (c : Cell) (xs ys zs : List Fact) → ys ≡ xs ++ cells_told g m path at (part_cells ps)
    → zs ≡ ys ++ cell_told g m path at c → zs ≡ xs ++ cells_told g m path at (part_cells (outer_parts (record { parts = ps; cell = c } ∷ [])))
outer_told g m path at ps c xs ys zs e f =
    told_both xs ys zs (cells_told g m path at (part_cells ps)) (cell_told g m path at c) e f
    ∙ ap (λ (z : List Fact). xs ++ z)
    (ap (λ (z : List Fact). cells_told g m path at (part_cells ps) ++ z) (sym (append-nil (cell_told g m path at c)))
    ∙ sym (cells_append g m path at (part_cells ps) (c ∷ []))
    ∙ ap (λ (z : List Cell). cells_told g m path at z) (sym (parts_append ps (inner c ∷ []))))

-- one outermost cell and then others
pub outers_more : (l : FactBase) (t : LiveStatement) (o : Outer) (os : List Outer) → outers_news l t (o ∷ os) ≡ outers_news l t (o ∷ []) ++ outers_news l t os
outers_more l t o os =
    ap (λ (z : List Part). cells_news l t (part_cells z)) (sym (append_assoc o.parts (inner o.cell ∷ []) (outer_parts os)))
    ∙ ap (λ (z : List Cell). cells_news l t z) (parts_append (o.parts ++ inner o.cell ∷ []) (outer_parts os))
    ∙ cells_append (sight_at l t) (past_at l t) (path_at l t) t.at (part_cells (o.parts ++ inner o.cell ∷ [])) (part_cells (outer_parts os))

-- what two outermost cells tell, and then what the statement does
pub two_told : (l : FactBase) (t : LiveStatement) (o p : Outer) (ks vs xs ys zs : List Fact) → xs ≡ vs ++ outers_news l t (o ∷ []) → ys ≡ xs ++ outers_news l t (p ∷ []) → zs ≡ ys ++ ks
    → zs ≡ vs ++ (outers_news l t (o ∷ p ∷ []) ++ ks)
two_told l t o p ks vs xs ys zs e f h =
    told_both vs ys zs (outers_news l t (o ∷ p ∷ [])) ks
    (told_both vs xs ys (outers_news l t (o ∷ [])) (outers_news l t (p ∷ [])) e f ∙ ap (λ (z : List Fact). vs ++ z) (sym (outers_more l t o (p ∷ [])))) h

pub three_told : (l : FactBase) (t : LiveStatement) (o p q : Outer) (ks us vs xs ys zs : List Fact) → vs ≡ us ++ outers_news l t (o ∷ []) → xs ≡ vs ++ outers_news l t (p ∷ [])
    → ys ≡ xs ++ outers_news l t (q ∷ []) → zs ≡ ys ++ ks → zs ≡ us ++ (outers_news l t (o ∷ p ∷ q ∷ []) ++ ks)
three_told l t o p q ks us vs xs ys zs d e f h =
    told_both us ys zs (outers_news l t (o ∷ p ∷ q ∷ [])) ks
    (told_both us vs ys (outers_news l t (o ∷ [])) (outers_news l t (p ∷ q ∷ [])) d
    (told_both vs xs ys (outers_news l t (p ∷ [])) (outers_news l t (q ∷ [])) e f ∙ ap (λ (z : List Fact). vs ++ z) (sym (outers_more l t p (q ∷ []))))
    ∙ ap (λ (z : List Fact). us ++ z) (sym (outers_more l t o (p ∷ q ∷ [])))) h

-- RANGES

and_false : (b : Bool) → b && false ≡ false
and_false true = refl
and_false false = refl

pub deep_not : (l : FactBase) (t : LiveStatement) → deep_news l t false ≡ []
deep_not l t = ap (λ (b : Bool). deep_by (past_at l t) (path_at l t) t.at t.node b) (and_false (past_at l t).deep)

pub deep_shallow : (l : FactBase) (t : LiveStatement) (b : Bool) → (past_at l t).deep ≡ false → deep_news l t b ≡ []
deep_shallow l t b e = ap (λ (d : Bool). deep_by (past_at l t) (path_at l t) t.at t.node (d && b)) e

positive_so : (n : ℕ) → 0 < n → positive n ≡ true
positive_so zero h = absurd (omega (arith, h))
positive_so (suc n) h = refl

bounds_count : (l : FactBase) (t : LiveStatement) (vs : List Value) (o : Option (Result ℕ OpFault)) → count_of (bounds vs) ≡ o
    → bounds_news l t vs ≡ bad_by (past_at l t) (path_at l t) t.at t.node o ++ deep_news l t (some_turn o)
bounds_count l t vs o e = ap (λ (z : Option (Result ℕ OpFault)). bad_by (past_at l t) (path_at l t) t.at t.node z ++ deep_news l t (some_turn z)) e

pub bounds_deep : (l : FactBase) (t : LiveStatement) (vs : List Value) (n : ℕ) → count_of (bounds vs) ≡ Some (Ok n) → 0 < n → bounds_news l t vs ≡ deep_news l t true
bounds_deep l t vs n e h = bounds_count l t vs (Some (Ok n)) e ∙ ap (λ (b : Bool). deep_news l t b) (positive_so n h)

pub bounds_still : (l : FactBase) (t : LiveStatement) (vs : List Value) (n : ℕ) → count_of (bounds vs) ≡ Some (Ok n) → n ≡ 0 → bounds_news l t vs ≡ []
bounds_still l t vs n e h = bounds_count l t vs (Some (Ok n)) e ∙ ap (λ (m : ℕ). deep_news l t (positive m)) h ∙ deep_not l t

pub bounds_bad : (l : FactBase) (t : LiveStatement) (vs : List Value) (f : OpFault) → count_of (bounds vs) ≡ Some (Err f) → bounds_news l t vs ≡ fault_news l t (operation f) t.node
bounds_bad l t vs f e = bounds_count l t vs (Some (Err f)) e
    ∙ ap (λ (z : List Fact). fault_news l t (operation f) t.node ++ z) (deep_not l t) ∙ append-nil (fault_news l t (operation f) t.node)

pub bounds_open : (l : FactBase) (t : LiveStatement) (vs : List Value) → count_of (bounds vs) ≡ None → bounds_news l t vs ≡ []
bounds_open l t vs e = bounds_count l t vs None e ∙ deep_not l t

-- CALLS

last_call : (l : FactBase) (t : LiveStatement) (ps : List Part) (c : Call) → cells_news l t (part_cells ps) ≡ cells_news l t (part_cells (ps ++ calls c ∷ []))
last_call l t ps c = ap (λ (z : List Cell). cells_news l t z) (sym (parts_append ps (calls c ∷ []) ∙ append-nil (part_cells ps)))

-- what a call tells: the cells before it
pub call_told : (l : FactBase) (t : LiveStatement) (a : Action) (p : ℤ) (ps : List Part) (c : Call) (xs ys : List Fact) → a ≡ call_alone p ps c → ys ≡ xs ++ cells_news l t (part_cells ps)
    → ys ≡ xs ++ (cells_news l t (part_cells (parts a)) ++ own_news l t a)
call_told l t a p ps c xs ys e f =
    f ∙ ap (λ (z : List Fact). xs ++ z)
    (last_call l t ps c ∙ sym (append-nil (cells_news l t (part_cells (ps ++ calls c ∷ []))))
    ∙ ap (λ (z : Action). cells_news l t (part_cells (parts z)) ++ own_news l t z) (sym e))
