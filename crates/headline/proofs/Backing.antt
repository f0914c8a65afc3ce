-- Facts with the values behind them; and knowledge that is closed under the rules has them.
use Rattle.std.proofs.Common.{◌≡◌, ◌⊎◌, inl, inr, Ok, sym, subst}
use Rattle.values.specs.declared.key.Key.{Key}
use Rattle.values.specs.declared.map.Element.{Element}
use Rattle.values.specs.declared.value.Scalar.{Scalar}
use Rattle.values.specs.declared.value.Value.{Value}
use Rattle.values.specs.declared.value.Value.TheVariants.{One}
use Rattle.values.specs.Maps.{element as entry}
use Rattle.language.specs.Core.{Cell, Stmt, Core}
use Rattle.language.specs.Facts.{Fact, value, element, Knowledge, IsKey}
use Rattle.language.specs.Meaning.{New, cell_value, cell_fault, assigned, filled, inserted, printed, bad_range, too_deep_header, too_deep_call, written_twice, LiveStmt, Gives, Comes, before, now}
use Rattle.language.specs.Members.{◌∈◌}
use Rattle.language.specs.Parts.{cells}
use Rattle.language.specs.Places.{Path, Place}
use Rattle.language.specs.WellFormed.{WellFormed}
use Rattle.language_laws.proofs.Sources.{IsFull, cell_gives, many_given, CellValue, AssignValue, FillElement, InsertElement, outer_in, index_in, right_in}
use Rattle.headline.specs.Backs.{RightKnown, Backs}
use Rattle.headline.specs.Knows.{Knows}

value_parts : {p q : Place} {v u : Value} → value p v ≡ value q u → (p ≡ q) × (v ≡ u)
value_parts h = (cc (h), cc (h))

element_parts : {a b : Place} {k l : Key} {u w : Place} {v x : Scalar} → element a k u v ≡ element b l w x → (a ≡ b) × (k ≡ l) × (u ≡ w) × (v ≡ x)
element_parts h = (cc (h), cc (h), cc (h), cc (h))

module _ {s : Core} {K : Knowledge} where
  -- a value is a cell's, or an assignment's with the value of its right side known
  pub value_known : {f : Fact} {p : Place} {v : Value} (n : New s K f) → RightKnown s K n → f ≡ value p v → CellValue s K p v ⊎ ((a : AssignValue s K p v) × K (value (a.path, a.right.cell.node) v))
  value_known (cell_value {path = path} {st = st} {c = c} h i g) k q =
      let r = value_parts q in
      inl (record { path = path; st = st; cell = c; live = h; there = i; gives = subst (λ (z : Value). Gives s K path c.form (Ok z)) r.1 g; is = sym r.0 })
  value_known (assigned {path = path} {at = at} {n = n} {x = x} {c = c} h g) k q =
      let r = value_parts q in
      inr (record { path = path; at = at; node = n; target = x; right = c; live = h; comes = subst (λ (z : Value). Comes s K path c.cell z) r.1 g; is = sym r.0 }, subst (λ (z : Value). K (value (path, c.cell.node) z)) r.1 k)
  value_known (cell_fault h i g) k q = absurd (cc (q))
  value_known (filled h g i) k q = absurd (cc (q))
  value_known (inserted h g j m) k q = absurd (cc (q))
  value_known (printed h g) k q = absurd (cc (q))
  value_known (bad_range h g e z) k q = absurd (cc (q))
  value_known (too_deep_header h g e z) k q = absurd (cc (q))
  value_known (too_deep_call h i e) k q = absurd (cc (q))
  value_known (written_twice h y z e) k q = absurd (cc (q))

  -- an element's write, with the values of its index and right side known
  pub element_known : {f : Fact} {a : Place} {k : Key} {u : Place} {v : Scalar} (n : New s K f) → RightKnown s K n → f ≡ element a k u v
      → FillElement s K a k u v ⊎ ((z : InsertElement s K a k u v) × K (value (z.path, z.index.cell.node) z.index_value) × K (value (z.path, z.right.cell.node) (One v)))
  element_known (filled {path = path} {at = at} {n = n} {a = x} {c = c} {es = es} h g i) y q =
      let r = element_parts q in
      inl (record {
        path = path;
        at = at;
        node = n;
        array = x;
        right = c;
        elements = es;
        live = h;
        comes = g;
        there = subst (λ (z : Element). z ∈ es) (λ j. entry (r.1 j) (r.3 j)) i;
        array_is = r.0;
        writer_is = r.2;
      })
  element_known (inserted {path = path} {at = at} {n = n} {a = x} {i = i} {c = c} {u = u} h g k m) y q =
      let r = element_parts q in
      inr (
        record {
          path = path;
          at = at;
          node = n;
          array = x;
          index = i;
          right = c;
          index_value = u;
          live = h;
          comes_index = g;
          is_key = subst (λ (z : Key). IsKey u z) r.1 k;
          comes = subst (λ (b : Scalar). Comes s K path c.cell (One b)) r.3 m;
          array_is = r.0;
          writer_is = r.2;
        },
        y.0,
        subst (λ (b : Scalar). K (value (path, c.cell.node) (One b))) r.3 y.1,
      )
  element_known (cell_value h i g) y q = absurd (cc (q))
  element_known (assigned h g) y q = absurd (cc (q))
  element_known (cell_fault h i g) y q = absurd (cc (q))
  element_known (printed h g) y q = absurd (cc (q))
  element_known (bad_range h g e z) y q = absurd (cc (q))
  element_known (too_deep_header h g e z) y q = absurd (cc (q))
  element_known (too_deep_call h i e) y q = absurd (cc (q))
  element_known (written_twice h b z e) y q = absurd (cc (q))

-- KNOWLEDGE THAT IS CLOSED UNDER THE RULES HAS WHAT IS BEHIND ITS FACTS
module _ (s : Core) (K : Knowledge) (kn : Knows s K) where
  pub came : {path : Path} {st : Stmt} {c : Cell} {v : Value} → LiveStmt s K path st → c ∈ cells st → Comes s K path c v → K (value (path, c.node) v)
  came live i (before k) = k
  came live i (now g) = kn.shut _ (cell_value live i g)

  right_known : {f : Fact} (n : New s K f) → RightKnown s K n
  right_known (assigned {c = c} h g) = came h (outer_in c.parts c.cell) g
  right_known (filled h g i) = tt
  right_known (inserted {i = i} {c = c} h g k m) = (came h (index_in i c) g, came h (right_in i c) m)
  right_known (printed {c = c} h g) = came h (outer_in c.parts c.cell) g
  right_known (cell_value h i g) = tt
  right_known (cell_fault h i g) = tt
  right_known (bad_range h g e z) = tt
  right_known (too_deep_header h g e z) = tt
  right_known (too_deep_call h i e) = tt
  right_known (written_twice h b z e) = tt

  -- a fill's value comes with its elements
  pub knows_full : WellFormed s → IsFull s K
  knows_full wf path at n x o v m kv =
      let g = cell_gives s wf.cells K m (outer_in o.parts o.cell) (kn.backed _ kv) in
      let e = many_given (wf.cells.fill_many at n x o m) g.1 in
      (e.elements, e.is, λ k u i. kn.shut _ (filled g.0 (before (subst (λ (z : Value). K (value (path, o.cell.node) z)) e.is kv)) i))

  pub backs : Backs s K
  backs = record { backed = kn.backed; behind = λ f k. right_known (kn.backed f k); one_scalar = kn.one_scalar; listed = kn.listed }
