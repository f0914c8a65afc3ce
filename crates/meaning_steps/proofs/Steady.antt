-- After each round of an accepted script, what is known of what live statements tell stays what they tell.
use Rattle.std.specs.Prelude.{◌≡◌, ℕ, suc, ◌≤◌, ℤ, List, Result, Ok, refl}
use Rattle.std.proofs.Common.{inl, inr, sym, ap, subst, arith}
use Rattle.values.specs.declared.key.Key.{Key}
use Rattle.values.specs.declared.value.Scalar.{Scalar}
use Rattle.values.specs.declared.value.Value.{Value}
use Rattle.values.specs.declared.value.Value.TheVariants.{One}
use Rattle.language.specs.Core.{Cell, Outer, Stmt, stmt, fill, insert, print, Core}
use Rattle.language.specs.Facts.{Fault, Fact, value, element, line, Knowledge}
use Rattle.language.specs.Meaning.{Gives, Comes, before, now, LiveStmt, New, cell_value, cell_fault, assigned, filled, inserted, printed, bad_range, too_deep_header, too_deep_call, written_twice, Known}
use Rattle.language.specs.Members.{◌∈◌}
use Rattle.language.specs.Parts.{stmt_node, cells, script_stmts}
use Rattle.language.specs.Places.{Path, Place, place}
use Rattle.language.specs.Single.{SinglyAssigned}
use Rattle.language.specs.WellFormed.{WellFormed}
use Rattle.language_laws.proofs.Declared.{stmt_in}
use Rattle.language_laws.proofs.Ever as law
use Rattle.language_laws.proofs.Hinge.{Later}
use Rattle.language_laws.proofs.OneValue.{gives_same}
use Rattle.language_laws.proofs.Rounds.{From, came, known_later, later_of}
use Rattle.language_laws.proofs.Sources.{cell_gives, known_full, outer_in}
use Rattle.meaning_steps.specs.News.{Wrote, by_fill, by_insert, Writer, IsSteady, NodesTell}

-- a line is of a print
record Line (s : Core) (K : Knowledge) (p : Place) (bytes : List ℕ) : Type 0 where
  path : Path
  at : ℕ
  node : ℕ
  priority : ℤ
  cell : Outer
  live : LiveStmt s K path (stmt at node (print priority cell))
  comes : Comes s K path cell.cell (One (Scalar.Text bytes))
  is : (path, node) ≡ p

line_parts : {p q : Place} {b c : List ℕ} → line p b ≡ line q c → (p ≡ q) × (b ≡ c)
line_parts h = (cc (h), cc (h))

line_view : {s : Core} {K : Knowledge} {f : Fact} {p : Place} {bytes : List ℕ} → New s K f → f ≡ line p bytes → Line s K p bytes
line_view {s} {K} (printed {path = path} {at = at} {n = n} {p = z} {c = c} h g) q =
    let r = line_parts q in
    record { path = path; at = at; node = n; priority = z; cell = c; live = h; comes = subst (λ (b : List ℕ). Comes s K path c.cell (One (Scalar.Text b))) r.1 g; is = r.0 }
line_view (cell_value h i g) q = absurd (cc (q))
line_view (cell_fault h i g) q = absurd (cc (q))
line_view (assigned h g) q = absurd (cc (q))
line_view (filled h g i) q = absurd (cc (q))
line_view (inserted h g k m) q = absurd (cc (q))
line_view (bad_range h g e z) q = absurd (cc (q))
line_view (too_deep_header h g e z) q = absurd (cc (q))
line_view (too_deep_call h i e) q = absurd (cc (q))
line_view (written_twice h y z e) q = absurd (cc (q))

text_same : {b c : List ℕ} → One (Scalar.Text b) ≡ One (Scalar.Text c) → b ≡ c
text_same h = cc

module _ (s : Core) (w : WellFormed s) (single : SinglyAssigned s) (apart : NodesTell s) (n : ℕ) where
  between : (r : ℕ) → r ≤ n → Later s (Known s r) (Known s n)
  between r h =
      later_of s w.names w.cells w.loops w.writers (Known s r) (Known s n) (known_full s w.cells r) (law.sound s w single r) (law.sound s w single n) (λ f k. known_later s r n f h k)

  cell_same : (path : Path) (st : Stmt) (c : Cell) (v : Value) (r : Result Value Fault) → LiveStmt s (Known s n) path st → c ∈ cells st → Known s n (value (path, c.node) v)
      → Gives s (Known s n) path c.form r → r ≡ Ok v
  cell_same path st c v r l i k q =
      let a = came s n (value (path, c.node) v) k in
      let b = a.below in
      let x = (cell_gives s w.cells (Known s a.round) (stmt_in s l) i a.new).1 in
      sym (gives_same s w.names w.loops (Known s a.round) (Known s n) ((law.sound s w single n).one_each) (between a.round (omega arith)) (between n (omega arith)) x q)

  -- a value that a cell comes to have is known behind the round
  comes_known : {path : Path} {st : Stmt} {c : Cell} {v : Value} → LiveStmt s (Known s n) path st → c ∈ cells st → Comes s (Known s n) path c v → Known s (suc n) (value (path, c.node) v)
  comes_known l i (before k) = inl k
  comes_known l i (now g) = inr (cell_value l i g)

  print_same : (path : Path) (at m : ℕ) (p : ℤ) (c : Outer) (bytes bits : List ℕ) → LiveStmt s (Known s n) path (stmt at m (print p c)) → Comes s (Known s n) path c.cell (One (Scalar.Text bytes))
      → Known s n (line (path, m) bits) → bytes ≡ bits
  print_same path at m p c bytes bits l x k =
      let a = came s n (line (path, m) bits) k in
      let b = a.below in
      let t = line_view a.new refl in
      let ep : t.path ≡ path = ap (λ (z : Place). z.0) t.is in
      let en : t.node ≡ m = ap (λ (z : Place). z.1) t.is in
      let there : stmt t.at m (print t.priority t.cell) ∈ script_stmts s = subst (λ (z : ℕ). stmt t.at z (print t.priority t.cell) ∈ script_stmts s) en (stmt_in s t.live) in
      let same : t.cell ≡ c = apart.one_line t.at at m t.priority p t.cell c there (stmt_in s l) in
      let early : Known s (suc a.round) (value (t.path, t.cell.cell.node) (One (Scalar.Text bits))) = by a.round t.live t.comes in
      let late : Known s (suc n) (value (t.path, t.cell.cell.node) (One (Scalar.Text bits))) = known_later s (suc a.round) (suc n) _ (omega arith) early in
      let here : Known s (suc n) (value (path, c.cell.node) (One (Scalar.Text bits))) =
      subst (λ (z : Path). Known s (suc n) (value (z, c.cell.node) (One (Scalar.Text bits)))) ep (subst (λ (z : Outer). Known s (suc n) (value (t.path, z.cell.node) (One (Scalar.Text bits)))) same late) in
      text_same (((law.sound s w single (suc n)).one_each).one_value (path, c.cell.node) (One (Scalar.Text bytes)) (One (Scalar.Text bits)) (comes_known l (outer_in c.parts c.cell) x) here)
    where
      by : (r : ℕ) {q : Path} {at' m' : ℕ} {p' : ℤ} {d : Outer} {v : Value} → LiveStmt s (Known s r) q (stmt at' m' (print p' d)) → Comes s (Known s r) q d.cell v → Known s (suc r) (value (q, d.cell.node) v)
      by r l (before k) = inl k
      by r {d = d} l (now g) = inr (cell_value l (outer_in d.parts d.cell) g)

  wrote_of : (path : Path) (st : Stmt) (a : Place) (k : Key) (v : Scalar) → LiveStmt s (Known s n) path st → From s (Known s n) (Known s n) a k (path, stmt_node st) v → Writer s (Known s n) path st a k v
  wrote_of path st a k v l (inl e) =
      let ep : e.path ≡ path = ap (λ (z : Place). z.0) e.writer_is in
      let en : e.node ≡ stmt_node st = ap (λ (z : Place). z.1) e.writer_is in
      let writing : Stmt = stmt e.at e.node (fill e.array e.right) in
      let wrote : Wrote s (Known s n) e.path (stmt e.at e.node (fill e.array e.right)) (place s e.path e.array) k v = by_fill (before e.known) e.there in
      record {
        writing = stmt e.at e.node (fill e.array e.right);
        live = subst (λ (z : Path). LiveStmt s (Known s n) z (stmt e.at e.node (fill e.array e.right))) ep e.live;
        at_is = apart.one_at (stmt e.at e.node (fill e.array e.right)) st (stmt_in s e.live) (stmt_in s l) en;
        node_is = en;
        wrote = subst (λ (z : Path). Wrote s (Known s n) z (stmt e.at e.node (fill e.array e.right)) a k v) ep
            (subst (λ (z : Place). Wrote s (Known s n) e.path (stmt e.at e.node (fill e.array e.right)) z k v) e.array_is wrote);
      }
  wrote_of path st a k v l (inr e) =
      let ep : e.path ≡ path = ap (λ (z : Place). z.0) e.writer_is in
      let en : e.node ≡ stmt_node st = ap (λ (z : Place). z.1) e.writer_is in
      let wrote : Wrote s (Known s n) e.path (stmt e.at e.node (insert e.array e.index e.right)) (place s e.path e.array) k v = by_insert (before e.known_index) e.is_key (before e.known) in
      record {
        writing = stmt e.at e.node (insert e.array e.index e.right);
        live = subst (λ (z : Path). LiveStmt s (Known s n) z (stmt e.at e.node (insert e.array e.index e.right))) ep e.live;
        at_is = apart.one_at (stmt e.at e.node (insert e.array e.index e.right)) st (stmt_in s e.live) (stmt_in s l) en;
        node_is = en;
        wrote = subst (λ (z : Path). Wrote s (Known s n) z (stmt e.at e.node (insert e.array e.index e.right)) a k v) ep
            (subst (λ (z : Place). Wrote s (Known s n) e.path (stmt e.at e.node (insert e.array e.index e.right)) z k v) e.array_is wrote);
      }

  -- EVERY ROUND IS STEADY
  pub steady : IsSteady s (Known s n)
  steady = record {
    cell_same = cell_same;
    assign_same = λ path at m x c v u l q k. ((law.sound s w single (suc n)).one_each).one_value (place s path x) v u (inr (assigned l q)) (inl k);
    element_same = λ path st a k v u l x e. ((law.sound s w single (suc n)).one_each).one_element a k (path, stmt_node st) v u (inr (new_of l x)) (inl e);
    print_same = print_same;
    wrote = λ path st a k v l e. wrote_of path st a k v l ((law.sound s w single n).wrote a k (path, stmt_node st) v e);
  }
    where
      new_of : {path : Path} {st : Stmt} {a : Place} {k : Key} {v : Scalar} → LiveStmt s (Known s n) path st → Wrote s (Known s n) path st a k v → New s (Known s n) (element a k (path, stmt_node st) v)
      new_of l (by_fill x i) = filled l x i
      new_of l (by_insert x i z) = inserted l x i z
