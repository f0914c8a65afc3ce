-- Where every known fact has its node's type, no value of a wrong type comes.
use Rattle.std.specs.Prelude.{◌≡◌, ℕ, ℤ, Bool, List, [], ◌∷◌, ◌++◌, map, Option, Some, None, option_to_list, refl}
use Rattle.std.proofs.Common.{inl, inr, sym, subst}
use Rattle.values.specs.declared.value.Scalar.{Scalar}
use Rattle.values.specs.declared.value.Scalar.TheVariants.{Number, Text, Truth}
use Rattle.values.specs.declared.value.Value.{Value}
use Rattle.values.specs.declared.value.Value.TheVariants.{One}
use Rattle.values.specs.Keys.{key_of}
use Rattle.language.specs.declared.tree.Base.{Base}
use Rattle.language.specs.declared.tree.Keys.{Keys}
use Rattle.language.specs.declared.tree.Keys.TheVariants.{Numbers, Texts}
use Rattle.language.specs.Kinds.{base_of_keys}
use Rattle.language.specs.Core.{Name, Stmt, Form, compute, read, Cell, inner, calls, Action, declare, call_alone, assign, fill, insert, print, assert, Outer, stmt, when, choose, range, each, wait, Block, Core}
use Rattle.language.specs.Facts as keys
use Rattle.language.specs.Facts.{Fact, value, Knowledge, IsKey, KnownAll, no_cell, next_cell}
use Rattle.language.specs.Members.{◌∈◌, first, later}
use Rattle.language.specs.Openings.{Bounds, bounds}
use Rattle.language.specs.Parts.{cells, outer_cells, outer_parts, script_stmts}
use Rattle.language.specs.Places.{Path}
use Rattle.language.specs.Scopes.{Typ, one_of, Signature}
use Rattle.language.proofs.Members.{split_in, either}
use Rattle.language_laws.specs.TypedValues.{own_cell, own_parts, TypedValues}
use Rattle.language_accepted.specs.Types.{a_number, a_text, a_truth, OfType, one_scalar, FormHas, reads, OuterHas, ActionHas, of_call, of_assign, of_insert, of_print, of_when, of_choose, of_range, FactHas, HasTypes}
use Rattle.language_accepted.proofs.Typed.{StmtHas, cell_has, stmt_placed}

is_truth : {v : Value} → OfType v (one_of Base.Boolean) → (t : Bool) × (v ≡ One (Truth t))
is_truth (one_scalar (a_truth {b = b})) = (b, refl)

is_text : {v : Value} → OfType v (one_of Base.Text) → (bytes : List ℕ) × (v ≡ One (Text bytes))
is_text (one_scalar (a_text {bytes = bytes})) = (bytes, refl)

-- an index is a number or a text
is_key : {v : Value} (κ : Keys) → OfType v (one_of (base_of_keys κ)) → (u : Scalar) × (v ≡ One u) × IsKey v (key_of u)
is_key Numbers (one_scalar (a_number {z = z})) = (Number z, refl, keys.a_number)
is_key Texts (one_scalar (a_text {bytes = bytes})) = (Text bytes, refl, keys.a_text)

is_scalar : {v : Value} {b : Base} → OfType v (one_of b) → (u : Scalar) × (v ≡ One u)
is_scalar (one_scalar {v = u} h) = (u, refl)

two_bounds : {v u : Value} → OfType v (one_of Base.Int) → OfType u (one_of Base.Int) → (r : Bounds) × (bounds (v ∷ u ∷ []) ≡ Some r)
two_bounds (one_scalar a_number) (one_scalar a_number) = (_, refl)

three_bounds : {v u w : Value} → OfType v (one_of Base.Int) → OfType u (one_of Base.Int) → OfType w (one_of Base.Int) → (r : Bounds) × (bounds (v ∷ u ∷ w ∷ []) ≡ Some r)
three_bounds (one_scalar a_number) (one_scalar a_number) (one_scalar a_number) = (_, refl)

module _ (fs : List Signature) (type_of : ℕ → Typ) (f : Signature) (depth : ℕ) where
  -- a node has a scalar's type
  abbrev IsOne : ℕ → Type 0
  IsOne n = (b : Base) × (type_of n ≡ one_of b)

  read_one : {a : Name} {i : ℕ} {τ : Typ} → FormHas fs type_of f depth (read a i) τ → (b : Base) × (τ ≡ one_of b)
  read_one (reads κ {b = b} h e) = (b, refl)

  pub read_index : {a : Name} {i : ℕ} {τ : Typ} → FormHas fs type_of f depth (read a i) τ → (κ : Keys) × (type_of i ≡ one_of (base_of_keys κ))
  read_index (reads κ h e) = (κ, e)

  same_cell : {c d : Cell} → inner c ≡ inner d → c ≡ d
  same_cell e = cc

  own_one : (d : Cell) (form : Form) {c : Cell} → FormHas fs type_of f depth form (type_of d.node) → inner c ∈ own_cell d form → IsOne c.node
  own_one d (compute e) h m = elim m [ ]
  own_one d (read a i) h m = elim (split_in m) [ inl e ↦ subst (λ (z : Cell). IsOne z.node) (sym (same_cell e)) (read_one h) | inr j ↦ elim j [ ] ]

  own_outer_one : (o : Outer) {c : Cell} → OuterHas fs type_of f depth o → inner c ∈ (o.parts ++ own_cell o.cell o.cell.form) → IsOne c.node
  own_outer_one o {c} h m = elim (either o.parts (own_cell o.cell o.cell.form) m) [
    | inl i ↦ (let r = h.before (inner c) i in (r.0, r.1))
    | inr i ↦ own_one o.cell o.cell.form h.cell i
  ]

  outers_one : (os : List Outer) {c : Cell} → ((o : Outer) → o ∈ os → OuterHas fs type_of f depth o × IsOne o.cell.node) → inner c ∈ outer_parts os → IsOne c.node
  outers_one [] h m = elim m [ ]
  outers_one (o ∷ os) {c} h m = elim (either o.parts (inner o.cell ∷ outer_parts os) m) [
    | inl i ↦ (let r = (h o first).0.before (inner c) i in (r.0, r.1))
    | inr i ↦ elim (split_in i) [
      | inl e ↦ subst (λ (z : Cell). IsOne z.node) (sym (same_cell e)) (h o first).1
      | inr j ↦ outers_one os (λ z k. h z (later k)) j
    ]
  ]

  one_outer : (o : Outer) → OuterHas fs type_of f depth o → IsOne o.cell.node → (z : Outer) → z ∈ (o ∷ []) → OuterHas fs type_of f depth z × IsOne z.cell.node
  one_outer o h g z m = elim (split_in m) [ inl e ↦ subst (λ (y : Outer). OuterHas fs type_of f depth y × IsOne y.cell.node) (sym e) (h, g) | inr i ↦ elim i [ ] ]

  in_cells : {o : Outer} (os : List Outer) → o ∈ os → o.cell ∈ map (λ (z : Outer). z.cell) os
  in_cells [] m = elim m [ ]
  in_cells {o} (x ∷ os) m = elim (split_in m) [ inl e ↦ subst (λ (z : Outer). z.cell ∈ map (λ (y : Outer). y.cell) (x ∷ os)) (sym e) first | inr i ↦ later (in_cells os i) ]

  -- the parts of a statement but the cell that it works out itself
  pub part_one : (a : Action) {c : Cell} → StmtHas fs type_of f depth a → inner c ∈ own_parts a → IsOne c.node
  part_one (assign x o) h m = own_outer_one o (h.outer o first) m
  part_one (fill x o) h m = own_outer_one o (h.outer o first) m
  part_one (print p o) h m = own_outer_one o (h.outer o first) m
  part_one (assert p o) h m = own_outer_one o (h.outer o first) m
  part_one (insert x i o) {c} h m = by h.action
    where
      by : ActionHas fs type_of f depth (insert x i o) → IsOne c.node
      by (of_insert κ {b = b} u e g) = outers_one (i ∷ o ∷ []) (λ z k. elim (split_in k) [
        | inl q ↦ subst (λ (y : Outer). OuterHas fs type_of f depth y × IsOne y.cell.node) (sym q) (h.outer i first, (base_of_keys κ, e))
        | inr j ↦ one_outer o (h.outer o (later first)) (b, g) z j
      ]) m
  part_one (when o b) {c} h m = by h.action
    where
      by : ActionHas fs type_of f depth (when o b) → IsOne c.node
      by (of_when e r) = outers_one (o ∷ []) (one_outer o (h.outer o first) (Base.Boolean, e)) m
  part_one (choose o b d) {c} h m = by h.action
    where
      by : ActionHas fs type_of f depth (choose o b d) → IsOne c.node
      by (of_choose e r s) = outers_one (o ∷ []) (one_outer o (h.outer o first) (Base.Boolean, e)) m
  part_one (range lo hi st x t b) {c} h m = by h.action
    where
      by : ActionHas fs type_of f depth (range lo hi st x t b) → IsOne c.node
      by (of_range cs v u r) = outers_one (lo ∷ hi ∷ option_to_list st) (λ z k. (h.outer z k, (Base.Int, cs z.cell (in_cells (lo ∷ hi ∷ option_to_list st) k)))) m
  part_one (call_alone p ps d) {c} h m = by h.action
    where
      not_calls : inner c ≡ calls d → ⊥
      not_calls e = cc

      by : ActionHas fs type_of f depth (call_alone p ps d) → IsOne c.node
      by (of_call before call) = elim (either ps (calls d ∷ []) m) [
        | inl i ↦ (let r = before (inner c) i in (r.0, r.1))
        | inr i ↦ elim (split_in i) [ inl e ↦ absurd (not_calls e) | inr j ↦ elim j [ ] ]
      ]
  part_one (declare v) h m = elim m [ ]
  part_one (each a v t b) h m = elim m [ ]
  part_one (wait ns b) h m = elim m [ ]

module _ (fs : List Signature) (type_of : ℕ → Typ) (s : Core) (has : HasTypes fs type_of s) (K : Knowledge) (facts : (f : Fact) → K f → FactHas type_of f) where
  of_node : (path : Path) (n : ℕ) (v : Value) (τ : Typ) → type_of n ≡ τ → K (value (path, n) v) → OfType v τ
  of_node path n v τ e k = subst (OfType v) e (facts (value (path, n) v) k)

  pub typed_values : TypedValues s K
  typed_values = record {
    when_truth = λ path at n c b v m k. is_truth (of_node path c.cell.node v (one_of Base.Boolean) (when_cell (stmt_placed fs type_of s has m).typed.action) k);
    choose_truth = λ path at n c b d v m k. is_truth (of_node path c.cell.node v (one_of Base.Boolean) (choose_cell (stmt_placed fs type_of s has m).typed.action) k);
    range_bounds = λ path at n x lo hi st t b vs m k. range_has path lo hi st x t b vs (stmt_placed fs type_of s has m).typed.action k;
    cell_one = λ path at n a c v m i k. (let q = stmt_placed fs type_of s has m in let r = part_one fs type_of q.signature q.depth a q.typed i in is_scalar {b = r.0} (of_node path c.node v (one_of r.0) r.1 k));
    assign_one = λ path at n x o v m k. (let r = assign_cell (stmt_placed fs type_of s has m).typed.action in is_scalar {b = r.0} (of_node path o.cell.node v (one_of r.0) r.1 k));
    index_key = λ path st n i a v m c k. (let r = index st m c in is_key r.0 (of_node path i v (one_of (base_of_keys r.0)) r.1 k));
    insert_key = λ path at n a i o v m k. (let r = insert_cell (stmt_placed fs type_of s has m).typed.action in is_key r.0 (of_node path i.cell.node v (one_of (base_of_keys r.0)) r.1 k));
    print_text = λ path at n p o v m k. is_text (of_node path o.cell.node v (one_of Base.Text) (print_cell (stmt_placed fs type_of s has m).typed.action) k);
  }
    where
      when_cell : {g : Signature} {depth : ℕ} {c : Outer} {b : Block} → ActionHas fs type_of g depth (when c b) → type_of c.cell.node ≡ one_of Base.Boolean
      when_cell (of_when e h) = e

      choose_cell : {g : Signature} {depth : ℕ} {c : Outer} {b d : Block} → ActionHas fs type_of g depth (choose c b d) → type_of c.cell.node ≡ one_of Base.Boolean
      choose_cell (of_choose e h r) = e

      assign_cell : {g : Signature} {depth : ℕ} {x : Name} {o : Outer} → ActionHas fs type_of g depth (assign x o) → (b : Base) × (type_of o.cell.node ≡ one_of b)
      assign_cell (of_assign {b = b} h e) = (b, e)

      insert_cell : {g : Signature} {depth : ℕ} {x : Name} {i o : Outer} → ActionHas fs type_of g depth (insert x i o) → (κ : Keys) × (type_of i.cell.node ≡ one_of (base_of_keys κ))
      insert_cell (of_insert κ h e r) = (κ, e)

      print_cell : {g : Signature} {depth : ℕ} {p : ℤ} {o : Outer} → ActionHas fs type_of g depth (print p o) → type_of o.cell.node ≡ one_of Base.Text
      print_cell (of_print e) = e

      index : (st : Stmt) {n i : ℕ} {a : Name} → st ∈ script_stmts s → record { node = n; form = read a i } ∈ cells st → (κ : Keys) × (type_of i ≡ one_of (base_of_keys κ))
      index (stmt at m act) {n} {i} {a} j c =
          let q = stmt_placed fs type_of s has j in
          read_index fs type_of q.signature q.depth (cell_has fs type_of act {c = record { node = n; form = read a i }} q.typed c)

      cells_bound : {path : Path} {vs : List Value} (lo hi : Outer) (st : Option Outer) → ((c : Cell) → c ∈ map (λ (o : Outer). o.cell) (lo ∷ hi ∷ option_to_list st) → type_of c.node ≡ one_of Base.Int)
          → KnownAll K path (map (λ (o : Outer). o.cell) (lo ∷ hi ∷ option_to_list st)) vs → (r : Bounds) × (bounds vs ≡ Some r)
      cells_bound {path} lo hi None h (next_cell {v = v} k (next_cell {v = u} l no_cell)) =
          two_bounds (of_node path lo.cell.node v (one_of Base.Int) (h lo.cell first) k) (of_node path hi.cell.node u (one_of Base.Int) (h hi.cell (later first)) l)
      cells_bound {path} lo hi (Some o) h (next_cell {v = v} k (next_cell {v = u} l (next_cell {v = w} j no_cell))) =
          three_bounds (of_node path lo.cell.node v (one_of Base.Int) (h lo.cell first) k) (of_node path hi.cell.node u (one_of Base.Int) (h hi.cell (later first)) l)
          (of_node path o.cell.node w (one_of Base.Int) (h o.cell (later (later first))) j)

      range_has : {g : Signature} {depth : ℕ} (path : Path) (lo hi : Outer) (st : Option Outer) (x : ℕ) (t : Option ℕ) (b : Block) (vs : List Value) → ActionHas fs type_of g depth (range lo hi st x t b)
          → KnownAll K path (outer_cells (range lo hi st x t b)) vs → (r : Bounds) × (bounds vs ≡ Some r)
      range_has path lo hi st x t b vs (of_range h v u r) k = cells_bound lo hi st h k
