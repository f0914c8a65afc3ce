-- Where values and elements come from.
use Rattle.std.specs.Prelude.{◌≡◌, ◌⊎◌, ℕ, zero, suc, Bool, true, false, IsTrue, List, [], ◌∷◌, ◌++◌, Result, Ok, Err, refl, cond, pos, length}
use Rattle.std.proofs.Common.{inl, inr, sym, ap, subst}
use Rattle.values.specs.declared.fault.OpFault.{OpFault}
use Rattle.values.specs.declared.key.Key.{Key}
use Rattle.values.specs.declared.map.Element.{Element}
use Rattle.values.specs.declared.value.Scalar.{Scalar}
use Rattle.values.specs.declared.value.Value.{Value}
use Rattle.values.specs.declared.value.Value.TheVariants.{One, Many}
use Rattle.values.specs.Maps.{rising, element as entry}
use Rattle.values.specs.Numbers.{fits}
use Rattle.values.specs.Operators.{literal, on_all, all_values, numbered}
use Rattle.values.proofs.Literals.{rising_numbered}
use Rattle.language.specs.Core.{Name, Form, Cell, Part, inner, calls, Outer, Stmt, stmt, assign, fill, insert, Core}
use Rattle.language.specs.Facts.{Fact, value, element, Knowledge, IsKey}
use Rattle.language.specs.Meaning.{of_array, of_operator, Gives, computed, Comes, now, LiveStmt, New, cell_value, cell_fault, assigned, filled, inserted, printed, bad_range, too_deep_header, too_deep_call, written_twice, Known}
use Rattle.language.specs.Members.{◌∈◌, first, later}
use Rattle.language.specs.Parts.{script_stmts, cells, part_cells}
use Rattle.language.specs.Places.{Path, Place, place}
use Rattle.language.specs.WellFormed.{IsMany, a_list, a_copy, CellsApart}
use Rattle.language_laws.proofs.Declared.{stmt_in}

-- VALUES

-- a value is a cell's
pub record CellValue (s : Core) (K : Knowledge) (p : Place) (v : Value) : Type 0 where
  pub path : Path
  pub st : Stmt
  pub cell : Cell
  pub live : LiveStmt s K path st
  pub there : cell ∈ cells st
  pub gives : Gives s K path cell.form (Ok v)
  pub is : p ≡ (path, cell.node)

-- a value is that of a right side, at the variable
pub record AssignValue (s : Core) (K : Knowledge) (p : Place) (v : Value) : Type 0 where
  pub path : Path
  pub at : ℕ
  pub node : ℕ
  pub target : Name
  pub right : Outer
  pub live : LiveStmt s K path (stmt at node (assign target right))
  pub comes : Comes s K path right.cell v
  pub is : p ≡ place s path target

value_parts : {p q : Place} {v u : Value} → value p v ≡ value q u → (p ≡ q) × (v ≡ u)
value_parts h = (cc (h), cc (h))

pub value_view : {s : Core} {K : Knowledge} {f : Fact} {p : Place} {v : Value} → New s K f → f ≡ value p v → CellValue s K p v ⊎ AssignValue s K p v
value_view {s} {K} (cell_value {path = path} {st = st} {c = c} h i g) q =
    let r = value_parts q in
    inl (record { path = path; st = st; cell = c; live = h; there = i; gives = subst (λ (z : Value). Gives s K path c.form (Ok z)) r.1 g; is = sym r.0 })
value_view {s} {K} (assigned {path = path} {at = at} {n = n} {x = x} {c = c} h g) q =
    let r = value_parts q in
    inr (record { path = path; at = at; node = n; target = x; right = c; live = h; comes = subst (λ (z : Value). Comes s K path c.cell z) r.1 g; is = sym r.0 })
value_view (cell_fault h i g) q = absurd (cc (q))
value_view (filled h g i) q = absurd (cc (q))
value_view (inserted h g k m) q = absurd (cc (q))
value_view (printed h g) q = absurd (cc (q))
value_view (bad_range h g e z) q = absurd (cc (q))
value_view (too_deep_header h g e z) q = absurd (cc (q))
value_view (too_deep_call h i e) q = absurd (cc (q))
value_view (written_twice h y z e) q = absurd (cc (q))

-- ELEMENTS

-- an element is one of a whole array's
pub record FillElement (s : Core) (K : Knowledge) (a : Place) (k : Key) (u : Place) (v : Scalar) : Type 0 where
  pub path : Path
  pub at : ℕ
  pub node : ℕ
  pub array : Name
  pub right : Outer
  pub elements : List Element
  pub live : LiveStmt s K path (stmt at node (fill array right))
  pub comes : Comes s K path right.cell (Many elements)
  pub there : entry k v ∈ elements
  pub array_is : place s path array ≡ a
  pub writer_is : (path, node) ≡ u

-- an element is written by itself
pub record InsertElement (s : Core) (K : Knowledge) (a : Place) (k : Key) (u : Place) (v : Scalar) : Type 0 where
  pub path : Path
  pub at : ℕ
  pub node : ℕ
  pub array : Name
  pub index : Outer
  pub right : Outer
  pub index_value : Value
  pub live : LiveStmt s K path (stmt at node (insert array index right))
  pub comes_index : Comes s K path index.cell index_value
  pub is_key : IsKey index_value k
  pub comes : Comes s K path right.cell (One v)
  pub array_is : place s path array ≡ a
  pub writer_is : (path, node) ≡ u

element_parts : {a b u w : Place} {k l : Key} {v x : Scalar} → element a k u v ≡ element b l w x → (a ≡ b) × (k ≡ l) × (u ≡ w) × (v ≡ x)
element_parts h = (cc (h), cc (h), cc (h), cc (h))

pub element_view : {s : Core} {K : Knowledge} {f : Fact} {a : Place} {k : Key} {u : Place} {v : Scalar} → New s K f → f ≡ element a k u v
    → FillElement s K a k u v ⊎ InsertElement s K a k u v
element_view (filled {path = path} {at = at} {n = n} {a = x} {c = c} {es = es} h g i) q =
    let r = element_parts q in
    inl (record {
      path = path;
      at = at;
      node = n;
      array = x;
      right = c;
      elements = es;
      live = h;
      comes = g;
      there = subst (λ (z : Element). z ∈ es) (λ j. entry (r.1 j) (r.3 j)) i;
      array_is = r.0;
      writer_is = r.2;
    })
element_view {s} {K} (inserted {path = path} {at = at} {n = n} {a = x} {i = i} {c = c} {u = u} h g k m) q =
    let r = element_parts q in
    inr (record {
      path = path;
      at = at;
      node = n;
      array = x;
      index = i;
      right = c;
      index_value = u;
      live = h;
      comes_index = g;
      is_key = subst (λ (z : Key). IsKey u z) r.1 k;
      comes = subst (λ (y : Scalar). Comes s K path c.cell (One y)) r.3 m;
      array_is = r.0;
      writer_is = r.2;
    })
element_view (cell_value h i g) q = absurd (cc (q))
element_view (assigned h g) q = absurd (cc (q))
element_view (cell_fault h i g) q = absurd (cc (q))
element_view (printed h g) q = absurd (cc (q))
element_view (bad_range h g e z) q = absurd (cc (q))
element_view (too_deep_header h g e z) q = absurd (cc (q))
element_view (too_deep_call h i e) q = absurd (cc (q))
element_view (written_twice h y z e) q = absurd (cc (q))

-- WHOLE ARRAYS

pub outer_in : (ps : List Part) (c : Cell) → c ∈ part_cells (ps ++ inner c ∷ [])
outer_in [] c = first
outer_in (inner d ∷ ps) c = later (outer_in ps c)
outer_in (calls d ∷ ps) c = outer_in ps c

pub index_in : (i c : Outer) → i.cell ∈ part_cells (i.parts ++ inner i.cell ∷ (c.parts ++ inner c.cell ∷ []))
index_in i c = before (i.parts)
  where
    before : (ps : List Part) → i.cell ∈ part_cells (ps ++ inner i.cell ∷ (c.parts ++ inner c.cell ∷ []))
    before [] = first
    before (inner d ∷ ps) = later (before ps)
    before (calls d ∷ ps) = before ps

pub right_in : (i c : Outer) → c.cell ∈ part_cells (i.parts ++ inner i.cell ∷ (c.parts ++ inner c.cell ∷ []))
right_in i c = before (i.parts)
  where
    before : (ps : List Part) → c.cell ∈ part_cells (ps ++ inner i.cell ∷ (c.parts ++ inner c.cell ∷ []))
    before [] = later (outer_in c.parts c.cell)
    before (inner d ∷ ps) = later (before ps)
    before (calls d ∷ ps) = before ps

-- a whole array by rising key
pub record IsWhole (v : Value) : Type 0 where
  pub elements : List Element
  pub is : v ≡ Many elements
  pub in_order : IsTrue (rising elements)

chosen : (b : Bool) (x : Value) (f : OpFault) (v : Value) → ◌≡◌ {A = Result Value OpFault} (cond b (Ok x) (Err f)) (Ok v) → v ≡ x
chosen true x f v h = let e : x ≡ v = cc (h) in sym e
chosen false x f v h = absurd (cc (h))

listed : (r : Result (List Value) OpFault) (v : Value) → on_all literal r ≡ Ok v → IsWhole v
listed (Ok vs) v h = record { elements = numbered 0 vs; is = chosen (fits (pos (length vs))) _ _ v h; in_order = rising_numbered 0 vs }
listed (Err f) v h = absurd (cc (h))

-- a form that gives a whole array gives one
pub many_given : {s : Core} {K : Knowledge} {path : Path} {f : Form} {v : Value} → IsMany f → Gives s K path f (Ok v) → IsWhole v
many_given {v = v} a_list (computed (of_operator {rs = rs} es q)) = listed (all_values rs) v q
many_given a_copy (computed (of_array {es = es} c x)) = record { elements = es; is = refl; in_order = x.in_order }

-- a fill's value comes with its elements
abbrev pub IsFull : Core → Knowledge → Type 0
IsFull s K = (path : Path) (at n : ℕ) (x : Name) (c : Outer) (v : Value) → stmt at n (fill x c) ∈ script_stmts s → K (value (path, c.cell.node) v)
    → (es : List Element) × (v ≡ Many es) × ((k : Key) (u : Scalar) → entry k u ∈ es → K (element (place s path x) k (path, n) u))

module _ (s : Core) (apart : CellsApart s) where
  -- a new value at a cell's place is what that cell gives
  pub cell_gives : (K : Knowledge) {st : Stmt} {c : Cell} {path : Path} {v : Value} → st ∈ script_stmts s → c ∈ cells st → New s K (value (path, c.node) v)
      → LiveStmt s K path st × Gives s K path c.form (Ok v)
  cell_gives K {st} {c} {path} {v} m i f = by (value_view f refl)
    where
      by : (CellValue s K (path, c.node) v ⊎ AssignValue s K (path, c.node) v) → LiveStmt s K path st × Gives s K path c.form (Ok v)
      by (inl a) =
          let same = apart.cell_once a.st st a.cell c (stmt_in s a.live) m a.there i (sym (ap (λ (z : Place). z.1) a.is)) in
          let ep : a.path ≡ path = sym (ap (λ (z : Place). z.0) a.is) in (
            subst (λ (z : Path). LiveStmt s K z st) ep (subst (λ (z : Stmt). LiveStmt s K a.path z) same.0 a.live),
            subst (λ (z : Path). Gives s K z c.form (Ok v)) ep (subst (λ (z : Cell). Gives s K a.path z.form (Ok v)) same.1 a.gives),
          )
      by (inr a) = absurd (apart.assign_apart a.at a.node a.target a.right st c a.path path (stmt_in s a.live) m i (sym a.is))

  new_full : (K : Knowledge) (path : Path) (at n : ℕ) (x : Name) (c : Outer) (v : Value) → stmt at n (fill x c) ∈ script_stmts s → New s K (value (path, c.cell.node) v)
      → (es : List Element) × (v ≡ Many es) × ((k : Key) (u : Scalar) → entry k u ∈ es → New s K (element (place s path x) k (path, n) u))
  new_full K path at n x c v m f =
      let g = cell_gives K m (outer_in c.parts c.cell) f in
      let e = many_given (apart.fill_many at n x c m) g.1 in
      (e.elements, e.is, λ k u j. filled g.0 (now (subst (λ (z : Value). Gives s K path c.cell.form (Ok z)) e.is g.1)) j)

  -- in every round a fill's value comes with its elements
  pub known_full : (n : ℕ) → IsFull s (Known s n)
  known_full zero path at m x c v i f = absurd f
  known_full (suc n) path at m x c v i (inl f) = let r = known_full n path at m x c v i f in (r.0, r.1, λ k u j. inl (r.2 k u j))
  known_full (suc n) path at m x c v i (inr f) = let r = new_full (Known s n) path at m x c v i f in (r.0, r.1, λ k u j. inr (r.2 k u j))
