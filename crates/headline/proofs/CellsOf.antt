-- Where a cell of a statement is worked out: by an entry of its own, by the statement's own entry, or it is a literal or a name.
use Rattle.std.proofs.Common.{◌≡◌, ◌⊎◌, inl, inr, ℕ, List, [], ◌∷◌, ◌++◌, refl, sym, ap, ◌∙◌, subst}
use Rattle.std.specs.Prelude.{ℤ}
use Rattle.dataflow.specs.System.{In}
use Rattle.dataflow.proofs.Lists.{in_right}
use Rattle.values.specs.declared.value.Scalar.{Scalar}
use Rattle.language.specs.Core as Co
use Rattle.language.specs.Core.{Name, Expr, literal, name, whole, operator, Form, compute, read, Cell, Call, Part, inner, Outer, Awaited, Stmt, stmt, Action, assign, fill, insert, print, assert, when, choose, range, each, wait, Block, Function, Core}
use Rattle.language.specs.Members.{◌∈◌, first}
use Rattle.language.specs.Parts.{parts, part_cells, cells}
use Rattle.language.proofs.Members.{split_in, to_left, to_right, either}
use Rattle.language_laws.specs.TypedValues.{own_cell, own_outer, own_parts}
use Rattle.task_code.specs.Code.{Code, entry}
use Rattle.code_rules.specs.IsCodeOf.{Layout, own_needs, own_priority, simple_act, IsSimple, IsEntry, PartAs, plain_literal, plain_name, a_cell, a_read, a_call, PartsAs, no_part, one_part, StmtAs, declares, calls_alone, simple, branch, branches, range_loop, array_loop, waits}
use Rattle.headline.proofs.HeaderWorks.{cells_of}
use Rattle.headline.proofs.Roles.{among_cells, part_of_stmt}
use Rattle.headline.proofs.WrittenFrom.{CellFound, widen_cell, before_own}

inner_same : {x y : Cell} → inner x ≡ inner y → x ≡ y
inner_same h = cc

last_in : {es : List ℕ} (is : List ℕ) (j : ℕ) → es ≡ is ++ j ∷ [] → In j es
last_in is j q = subst (λ (z : List ℕ). In j z) (sym q) (in_right j is (j ∷ []) (inl refl))

-- WHERE A CELL IS WORKED OUT
-- a literal or a name
pub data IsPlain : Form → Type 0 where
  is_literal : {v : Scalar} → IsPlain (compute (literal v))
  is_name : {x : Name} → IsPlain (compute (name x))

-- the statements whose own entry works out their right side
pub data WorksOwn : Action → Outer → Type 0 where
  of_assign : {x : Name} {o : Outer} → WorksOwn (assign x o) o
  of_fill : {x : Name} {o : Outer} → WorksOwn (fill x o) o
  of_print : {p : ℤ} {o : Outer} → WorksOwn (print p o) o
  of_assert : {p : ℤ} {o : Outer} → WorksOwn (assert p o) o

module _ (C : Code) (l : Layout) where
  pub record OwnCell (k : ℕ) (c : Cell) (es : List ℕ) (at n : ℕ) (a : Action) : Type 0 where
    pub number : ℕ
    pub there : In number es
    pub outer : Outer
    pub works : WorksOwn a outer
    pub as_entry : IsEntry (entry C number) at (own_priority a) (own_needs l k a) (simple_act l k (own_needs l k a) a)
    pub is : c ≡ outer.cell
    pub expr : Expr
    pub form_is : outer.cell.form ≡ compute expr

  any_in : {k at : ℕ} {p : ℤ} {all xs : List Part} {js : List ℕ} (st : Stmt) (c : Cell) → ((d : Cell) → d ∈ part_cells all → d ∈ cells st) → PartsAs C l k all at p xs js → inner c ∈ xs → CellFound C l k st c js ⊎ IsPlain c.form
  any_in st c sub no_part h = elim h [ ]
  any_in st c sub (one_part (plain_literal {n = n} {v = v} z) rest q) h =
      elim (split_in h) [
        | inl e ↦ inr (subst IsPlain (ap (λ (y : Cell). y.form) (sym (inner_same e))) is_literal)
        | inr m ↦ elim (any_in st c sub rest m) [ inl r ↦ inl (widen_cell C l [] q r) | inr r ↦ inr r ]
      ]
  any_in st c sub (one_part (plain_name {n = n} {x = x} z) rest q) h =
      elim (split_in h) [
        | inl e ↦ inr (subst IsPlain (ap (λ (y : Cell). y.form) (sym (inner_same e))) is_name)
        | inr m ↦ elim (any_in st c sub rest m) [ inl r ↦ inl (widen_cell C l [] q r) | inr r ↦ inr r ]
      ]
  any_in {k} {at} {p} {all} st c sub (one_part (a_cell {j = j} z nd en) rest q) h =
      elim (split_in h) [
        | inl e ↦ inl (record { number = j; there = subst (λ (y : List ℕ). In j y) (sym q) (inl refl); all = all; at = at; priority = p; as_cell = subst (λ (y : Part). PartAs C l k all at p y (j ∷ [])) (sym e) (a_cell z nd en); node_is = nd ∙ sym (ap (λ (y : Cell). y.node) (inner_same e)); cells_in = sub })
        | inr m ↦ elim (any_in st c sub rest m) [ inl r ↦ inl (widen_cell C l (j ∷ []) q r) | inr r ↦ inr r ]
      ]
  any_in {k} {at} {p} {all} st c sub (one_part (a_read {j = j} z nd ix en) rest q) h =
      elim (split_in h) [
        | inl e ↦ inl (record { number = j; there = subst (λ (y : List ℕ). In j y) (sym q) (inl refl); all = all; at = at; priority = p; as_cell = subst (λ (y : Part). PartAs C l k all at p y (j ∷ [])) (sym e) (a_read z nd ix en); node_is = nd ∙ sym (ap (λ (y : Cell). y.node) (inner_same e)); cells_in = sub })
        | inr m ↦ elim (any_in st c sub rest m) [ inl r ↦ inl (widen_cell C l (j ∷ []) q r) | inr r ↦ inr r ]
      ]
  any_in st c sub (one_part (a_call {j = j} ca) rest q) h =
      elim (split_in h) [ inl e ↦ absurd (cc (e)) | inr m ↦ elim (any_in st c sub rest m) [ inl r ↦ inl (widen_cell C l (j ∷ []) q r) | inr r ↦ inr r ] ]

  -- the right side's own cell, or a part
  own_split : (o : Outer) (c : Cell) → inner c ∈ (o.parts ++ inner o.cell ∷ []) → (inner c ∈ own_outer o) ⊎ ((c ≡ o.cell) × (e : Expr) × (o.cell.form ≡ compute e))
  own_split o c h = elim (either o.parts _ h) [ inl m ↦ inl (to_left o.parts _ m) | inr m ↦ by o.cell.form refl (inner_same (one m)) ]
    where
      one : inner c ∈ (inner o.cell ∷ []) → inner c ≡ inner o.cell
      one m = elim (split_in m) [ inl e ↦ e | inr z ↦ elim z [ ] ]

      by : (f : Form) → o.cell.form ≡ f → c ≡ o.cell → (inner c ∈ own_outer o) ⊎ ((c ≡ o.cell) × (e : Expr) × (o.cell.form ≡ compute e))
      by (compute e) q h = inr (h, e, q)
      by (read a i) q h = inl (to_right o.parts _ (subst (λ (f : Form). inner c ∈ own_cell o.cell f) (sym q) (subst (λ (y : Cell). inner c ∈ (inner y ∷ [])) h first)))

  module _ {k : ℕ} {at n : ℕ} {es is : List ℕ} (j : ℕ) (q : es ≡ is ++ j ∷ []) where
    by_outer : {a : Action} (o : Outer) (c : Cell) → WorksOwn a o → IsEntry (entry C j) at (own_priority a) (own_needs l k a) (simple_act l k (own_needs l k a) a) → PartsAs C l k (own_parts a) at (own_priority a) (own_outer o) is → ((d : Cell) → d ∈ part_cells (own_parts a) → d ∈ cells (stmt at n a))
        → inner c ∈ (o.parts ++ inner o.cell ∷ []) → CellFound C l k (stmt at n a) c es ⊎ (IsPlain c.form ⊎ OwnCell k c es at n a)
    by_outer {a} o c wo en as' sub h =
        elim (own_split o c h) [
          | inl m ↦ elim (any_in (stmt at n a) c sub as' m) [ inl r ↦ inl (before_own C l j q r) | inr r ↦ inr (inl r) ]
          | inr z ↦ inr (inr (record { number = j; there = last_in is j q; outer = o; works = wo; as_entry = en; is = z.0; expr = z.1; form_is = z.2 }))
        ]

    by_simple : (a : Action) → IsSimple a → (c : Cell) → IsEntry (entry C j) at (own_priority a) (own_needs l k a) (simple_act l k (own_needs l k a) a) → PartsAs C l k (own_parts a) at (own_priority a) (own_parts a) is → inner c ∈ parts a → CellFound C l k (stmt at n a) c es ⊎ (IsPlain c.form ⊎ OwnCell k c es at n a)
    by_simple (assign x o) z c en as' h = by_outer o c of_assign en as' (cells_of C l at n (assign x o) _ (λ x' y. part_of_stmt (assign x o) y)) h
    by_simple (fill x o) z c en as' h = by_outer o c of_fill en as' (cells_of C l at n (fill x o) _ (λ x' y. part_of_stmt (fill x o) y)) h
    by_simple (print x o) z c en as' h = by_outer o c of_print en as' (cells_of C l at n (print x o) _ (λ x' y. part_of_stmt (print x o) y)) h
    by_simple (assert x o) z c en as' h = by_outer o c of_assert en as' (cells_of C l at n (assert x o) _ (λ x' y. part_of_stmt (assert x o) y)) h
    by_simple (insert x i o) z c en as' h = elim (any_in (stmt at n (insert x i o)) c (cells_of C l at n (insert x i o) _ (λ x y. y)) as' h) [ inl r ↦ inl (before_own C l j q r) | inr r ↦ inr (inl r) ]
    by_simple (Co.declare v) z c en as' h = absurd z
    by_simple (Co.call_alone x y o) z c en as' h = absurd z
    by_simple (when o d) z c en as' h = absurd z
    by_simple (choose o d e) z c en as' h = absurd z
    by_simple (range o d e f g i) z c en as' h = absurd z
    by_simple (each o d e f) z c en as' h = absurd z
    by_simple (wait o d) z c en as' h = absurd z

    by_header : (a : Action) {p : ℤ} {c : Cell} → PartsAs C l k (parts a) at p (parts a) is → inner c ∈ parts a → CellFound C l k (stmt at n a) c es ⊎ (IsPlain c.form ⊎ OwnCell k c es at n a)
    by_header a {c = c} as' h = elim (any_in (stmt at n a) c (cells_of C l at n a _ (λ x y. y)) as' h) [ inl r ↦ inl (before_own C l j q r) | inr r ↦ inr (inl r) ]

  pub find_any : {k at n : ℕ} {a : Action} {es : List ℕ} (c : Cell) → StmtAs C l k (stmt at n a) es → c ∈ cells (stmt at n a) → CellFound C l k (stmt at n a) c es ⊎ (IsPlain c.form ⊎ OwnCell k c es at n a)
  find_any c declares h = elim h [ ]
  find_any c (calls_alone {at = at} {n = n} {p = p} {ps = ps} {c = d} as') h = elim (any_in (stmt at n (Co.call_alone p ps d)) c (λ x m. m) as' (among_cells _ h)) [ inl r ↦ inl r | inr r ↦ inr (inl r) ]
  find_any c (simple j {a = a} z op as' en nd q) h = by_simple j q a z c en as' (among_cells (parts a) h)
  find_any c (branch j {c = o} {b = b} as' e mk ba q) h = by_header j q (when o b) as' (among_cells _ h)
  find_any c (branches j {c = o} {b = b} {d = d} as' e mk ba bb q) h = by_header j q (choose o b d) as' (among_cells _ h)
  find_any c (range_loop {x = x} j {lo = lo} {hi = hi} {st = st} {y = y} {b = b} as' e mk ba q) h = by_header j q (range lo hi st x y b) as' (among_cells _ h)
  find_any c (array_loop j e mk ba q) h = elim h [ ]
  find_any c (waits j wa e q) h = elim h [ ]
