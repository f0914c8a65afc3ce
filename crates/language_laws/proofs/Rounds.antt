-- Every round has one value at a place, and what is known after a round is written by what is live then.
use Rattle.std.specs.Prelude.{◌≡◌, ◌⊎◌, ℕ, zero, suc, ◌≤◌, Bool, IsTrue, List, Result, Ok, refl, max}
use Rattle.std.proofs.Common.{inl, inr, sym, ap, ◌∙◌, subst, arith}
use Rattle.values.specs.declared.key.Key.{Key}
use Rattle.values.specs.declared.map.Element.{Element}
use Rattle.values.specs.declared.value.Scalar.{Scalar}
use Rattle.values.specs.declared.value.Value.{Value}
use Rattle.values.specs.declared.value.Value.TheVariants.{One, Many}
use Rattle.values.specs.Maps.{rising, element as entry}
use Rattle.language.specs.Core.{Owned, Name, Form, Cell, Outer, Stmt, stmt, assign, fill, insert, Core}
use Rattle.language.specs.Facts.{Fault, Fact, value, element, Knowledge, IsKey}
use Rattle.language.specs.Meaning.{IsTarget, Closed, Gives, Comes, before, now, LiveStmt, New, cell_value, Known}
use Rattle.language.specs.Members.{◌∈◌, first}
use Rattle.language.specs.Parts.{script_stmts, cells}
use Rattle.language.specs.Places.{Path, Place, place}
use Rattle.language.specs.WellFormed.{NamesFound, CellsApart, LoopsApart, WritersApart, Role}
use Rattle.language_laws.proofs.Declared.{stmt_in}
use Rattle.language_laws.proofs.Frozen.{FinishedIn, no_target_in, fill_in, insert_in, blocks_in, live_finished}
use Rattle.language_laws.proofs.Growth.{Grows, keeps_stmt}
use Rattle.language_laws.proofs.Hinge.{Later, Wrote, HasWritten, closed_in, grows}
use Rattle.language_laws.proofs.OneValue.{OneEach, gives_same, key_same}
use Rattle.language_laws.proofs.Rising.{rising_once}
use Rattle.language_laws.proofs.Sources.{CellValue, AssignValue, value_view, FillElement, InsertElement, element_view, outer_in, index_in, right_in, many_given, IsFull, cell_gives, known_full}

-- two live assignments of one place are one
abbrev pub OneAssign : Core → Knowledge → Type 0
OneAssign s K = (path path' : Path) (at n at' n' : ℕ) (x x' : Name) (o o' : Outer) → LiveStmt s K path (stmt at n (assign x o)) → LiveStmt s K path' (stmt at' n' (assign x' o'))
    → place s path x ≡ place s path' x' → (path ≡ path') × (o ≡ o')

-- an element is one of a whole array that K knows, of a statement that is live under L
pub record FromFill (s : Core) (L K : Knowledge) (a : Place) (k : Key) (u : Place) (v : Scalar) : Type 0 where
  pub path : Path
  pub at : ℕ
  pub node : ℕ
  pub array : Name
  pub right : Outer
  pub elements : List Element
  pub live : LiveStmt s L path (stmt at node (fill array right))
  pub known : K (value (path, right.cell.node) (Many elements))
  pub there : entry k v ∈ elements
  pub array_is : place s path array ≡ a
  pub writer_is : (path, node) ≡ u

-- an element is written under an index and with a value that K knows, by a statement that is live under L
pub record FromInsert (s : Core) (L K : Knowledge) (a : Place) (k : Key) (u : Place) (v : Scalar) : Type 0 where
  pub path : Path
  pub at : ℕ
  pub node : ℕ
  pub array : Name
  pub index : Outer
  pub right : Outer
  pub index_value : Value
  pub live : LiveStmt s L path (stmt at node (insert array index right))
  pub known_index : K (value (path, index.cell.node) index_value)
  pub is_key : IsKey index_value k
  pub known : K (value (path, right.cell.node) (One v))
  pub array_is : place s path array ≡ a
  pub writer_is : (path, node) ≡ u

abbrev pub From : Core → Knowledge → Knowledge → Place → Key → Place → Scalar → Type 0
From s L K a k u v = FromFill s L K a k u v ⊎ FromInsert s L K a k u v

-- knowledge with one value at a place, whose elements come from what is live
pub record Sound (s : Core) (K : Knowledge) : Type 0 where
  pub one_each : OneEach s K
  pub wrote : (a : Place) (k : Key) (u : Place) (v : Scalar) → K (element a k u v) → From s K K a k u v

-- what is known after a round came in an earlier one
pub record Came (s : Core) (n : ℕ) (f : Fact) : Type 0 where
  pub round : ℕ
  pub below : suc round ≤ n
  pub new : New s (Known s round) f

pub came : (s : Core) (n : ℕ) (f : Fact) → Known s n f → Came s n f
came s zero f k = absurd k
came s (suc n) f (inl k) = let r = came s n f k in let h = r.below in record { round = r.round; below = omega arith; new = r.new }
came s (suc n) f (inr k) = record { round = n; below = omega arith; new = k }

at_most : (n m : ℕ) → n ≤ suc m → (n ≤ m) ⊎ (n ≡ suc m)
at_most n m h = grind arith

-- what is known stays known
pub known_later : (s : Core) (n m : ℕ) (f : Fact) → n ≤ m → Known s n f → Known s m f
known_later s n zero f h k = let p : n ≡ 0 = omega arith in subst (λ (i : ℕ). Known s i f) p k
known_later s n (suc m) f h k = by (at_most n m h) (λ l. known_later s n m f l k)
  where
    by : ((n ≤ m) ⊎ (n ≡ suc m)) → (n ≤ m → Known s m f) → Known s (suc m) f
    by (inl l) r = inl (r l)
    by (inr p) r = subst (λ (i : ℕ). Known s i f) p k

many_same : {es fs : List Element} → Many es ≡ Many fs → es ≡ fs
many_same h = cc

one_same : {v u : Scalar} → One v ≡ One u → v ≡ u
one_same h = cc

pub ok_values : {v u : Value} → ◌≡◌ {A = Result Value Fault} (Ok v) (Ok u) → v ≡ u
ok_values h = cc

le_either : (n m : ℕ) → (n ≤ m) ⊎ (m ≤ n)
le_either n m = grind arith

module _ (s : Core) (w : NamesFound s) (apart : CellsApart s) (loops : LoopsApart s) (writers : WritersApart s) where
  -- a statement that fills an array inserts nothing
  pub fill_not_insert : {L L' K K' : Knowledge} {a b : Place} {k l : Key} {u : Place} {v x : Scalar} {A : Type 0} → FromFill s L K a k u v → FromInsert s L' K' b l u x → A
  fill_not_insert e f =
      let q : ◌≡◌ {A = Place} (f.path, f.node) (e.path, e.node) = f.writer_is ∙ sym e.writer_is in
      let m : stmt f.at e.node (insert f.array f.index f.right) ∈ script_stmts s = subst (λ (n : ℕ). stmt f.at n (insert f.array f.index f.right) ∈ script_stmts s) (ap (λ (z : Place). z.1) q) (stmt_in s f.live) in
      absurd (writers.fill_insert e.at e.node f.at e.array f.array f.index e.right f.right (stmt_in s e.live) m)

  module _ (K : Knowledge) (one_value : (p : Place) (v u : Value) → K (value p v) → K (value p u) → v ≡ u) where
    -- the whole arrays that one statement fills in are one
    pub fills_agree : {L L' : Knowledge} {a b : Place} {k l : Key} {u : Place} {v x : Scalar} (e : FromFill s L K a k u v) (f : FromFill s L' K b l u x) → e.elements ≡ f.elements
    fills_agree e f =
        let q : ◌≡◌ {A = Place} (f.path, f.node) (e.path, e.node) = f.writer_is ∙ sym e.writer_is in
        let m : stmt f.at e.node (fill f.array f.right) ∈ script_stmts s = subst (λ (n : ℕ). stmt f.at n (fill f.array f.right) ∈ script_stmts s) (ap (λ (z : Place). z.1) q) (stmt_in s f.live) in
        let r = writers.fill_once e.at e.node f.at e.array f.array e.right f.right (stmt_in s e.live) m in
        let h : K (value (e.path, e.right.cell.node) (Many f.elements)) = subst (λ (z : Path). K (value (z, e.right.cell.node) (Many f.elements))) (ap (λ (z : Place). z.0) q) (subst (λ (z : Outer). K (value (f.path, z.cell.node) (Many f.elements))) (sym r.1) f.known) in
        many_same (one_value (e.path, e.right.cell.node) (Many e.elements) (Many f.elements) e.known h)

    -- the elements that one statement inserts are one
    pub inserts_agree : {L L' : Knowledge} {a b : Place} {k l : Key} {u : Place} {v x : Scalar} (e : FromInsert s L K a k u v) (f : FromInsert s L' K b l u x) → (k ≡ l) × (v ≡ x)
    inserts_agree {v = v} {x = x} e f =
        let q : ◌≡◌ {A = Place} (f.path, f.node) (e.path, e.node) = f.writer_is ∙ sym e.writer_is in
        let ep : f.path ≡ e.path = ap (λ (z : Place). z.0) q in
        let m : stmt f.at e.node (insert f.array f.index f.right) ∈ script_stmts s = subst (λ (n : ℕ). stmt f.at n (insert f.array f.index f.right) ∈ script_stmts s) (ap (λ (z : Place). z.1) q) (stmt_in s f.live) in
        let r = writers.insert_once e.at e.node f.at e.array f.array e.index f.index e.right f.right (stmt_in s e.live) m in
        let i : K (value (e.path, e.index.cell.node) f.index_value) = subst (λ (z : Path). K (value (z, e.index.cell.node) f.index_value)) ep (subst (λ (z : Outer). K (value (f.path, z.cell.node) f.index_value)) (sym r.0) f.known_index) in
        let h : K (value (e.path, e.right.cell.node) (One x)) = subst (λ (z : Path). K (value (z, e.right.cell.node) (One x))) ep (subst (λ (z : Outer). K (value (f.path, z.cell.node) (One x))) (sym r.1) f.known) in (
          key_same e.is_key f.is_key (one_value (e.path, e.index.cell.node) e.index_value f.index_value e.known_index i),
          one_same (one_value (e.path, e.right.cell.node) (One v) (One x) e.known h),
        )

  moved : (K : Knowledge) {a b u p : Place} {k : Key} {v : Scalar} → a ≡ b → u ≡ p → K (element a k u v) → K (element b k p v)
  moved K {a} {b} {u} {p} {k} {v} e h f = subst (λ (z : Place). K (element z k p v)) e (subst (λ (z : Place). K (element a k z v)) h f)

  pub grow_fill : {L K K' : Knowledge} {a : Place} {k : Key} {u : Place} {v : Scalar} → ((f : Fact) → K f → K' f) → FromFill s L K a k u v → FromFill s L K' a k u v
  grow_fill more e = record { path = e.path; at = e.at; node = e.node; array = e.array; right = e.right; elements = e.elements; live = e.live; known = more _ e.known; there = e.there; array_is = e.array_is; writer_is = e.writer_is }

  pub grow_insert : {L K K' : Knowledge} {a : Place} {k : Key} {u : Place} {v : Scalar} → ((f : Fact) → K f → K' f) → FromInsert s L K a k u v → FromInsert s L K' a k u v
  grow_insert more e = record { path = e.path; at = e.at; node = e.node; array = e.array; index = e.index; right = e.right; index_value = e.index_value; live = e.live; known_index = more _ e.known_index; is_key = e.is_key; known = more _ e.known; array_is = e.array_is; writer_is = e.writer_is }

  pub live_fill : {L L' K : Knowledge} {a : Place} {k : Key} {u : Place} {v : Scalar} → Grows s L L' → FromFill s L K a k u v → FromFill s L' K a k u v
  live_fill {L} {L'} g e = record { path = e.path; at = e.at; node = e.node; array = e.array; right = e.right; elements = e.elements; live = keeps_stmt s L L' g e.live; known = e.known; there = e.there; array_is = e.array_is; writer_is = e.writer_is }

  pub live_insert : {L L' K : Knowledge} {a : Place} {k : Key} {u : Place} {v : Scalar} → Grows s L L' → FromInsert s L K a k u v → FromInsert s L' K a k u v
  live_insert {L} {L'} g e = record { path = e.path; at = e.at; node = e.node; array = e.array; index = e.index; right = e.right; index_value = e.index_value; live = keeps_stmt s L L' g e.live; known_index = e.known_index; is_key = e.is_key; known = e.known; array_is = e.array_is; writer_is = e.writer_is }

  wrote_of : {K : Knowledge} {a : Place} {k : Key} {u : Place} {v : Scalar} → From s K K a k u v → Wrote s K a u
  wrote_of (inl e) = record { path = e.path; at = e.at; node = e.node; array = e.array; action = fill e.array e.right; live = e.live; writes = inl (e.right, refl); array_is = e.array_is; writer_is = e.writer_is }
  wrote_of (inr e) = record { path = e.path; at = e.at; node = e.node; array = e.array; action = insert e.array e.index e.right; live = e.live; writes = inr (e.index, e.right, refl); array_is = e.array_is; writer_is = e.writer_is }

  -- sound and full knowledge within sound knowledge
  pub later_of : (K K' : Knowledge) → IsFull s K → Sound s K → Sound s K' → ((f : Fact) → K f → K' f) → Later s K K'
  later_of K K' full k k' more = record {
    more = more;
    one_value = (k'.one_each).one_value;
    wrote = λ a j u v f. wrote_of (k'.wrote a j u v f);
    filled = filled_within;
    inserted = inserted_within;
  }
    where
      filled_within : (path : Path) (at n : ℕ) (x : Name) (c : Outer) (v : Value) (j : Key) (u : Scalar)
          → K (value (path, c.cell.node) v) → LiveStmt s K' path (stmt at n (fill x c)) → K' (element (place s path x) j (path, n) u) → K (element (place s path x) j (path, n) u)
      filled_within path at n x c v j u h live f = by (k'.wrote (place s path x) j (path, n) u f)
        where
          all : (es : List Element) × (v ≡ Many es) × ((i : Key) (y : Scalar) → entry i y ∈ es → K (element (place s path x) i (path, n) y))
          all = full path at n x c v (stmt_in s live) h

          by : From s K' K' (place s path x) j (path, n) u → K (element (place s path x) j (path, n) u)
          by (inl e) =
              let m : stmt e.at n (fill e.array e.right) ∈ script_stmts s = subst (λ (i : ℕ). stmt e.at i (fill e.array e.right) ∈ script_stmts s) (ap (λ (z : Place). z.1) e.writer_is) (stmt_in s e.live) in
              let r = writers.fill_once at n e.at x e.array c e.right (stmt_in s live) m in
              let g : K' (value (path, c.cell.node) (Many e.elements)) = subst (λ (z : Outer). K' (value (path, z.cell.node) (Many e.elements))) (sym r.1) (subst (λ (z : Path). K' (value (z, e.right.cell.node) (Many e.elements))) (ap (λ (z : Place). z.0) e.writer_is) e.known) in
              let same : e.elements ≡ all.0 = many_same ((k'.one_each).one_value (path, c.cell.node) (Many e.elements) v g (more _ h) ∙ all.1) in
              all.2 j u (subst (λ (l : List Element). entry j u ∈ l) same e.there)
          by (inr e) =
              let m : stmt e.at n (insert e.array e.index e.right) ∈ script_stmts s = subst (λ (i : ℕ). stmt e.at i (insert e.array e.index e.right) ∈ script_stmts s) (ap (λ (z : Place). z.1) e.writer_is) (stmt_in s e.live) in
              absurd (writers.fill_insert at n e.at x e.array e.index c e.right (stmt_in s live) m)

      inserted_within : (path : Path) (at n : ℕ) (x : Name) (i c : Outer) (j l : Key) (u v : Scalar)
          → K (element (place s path x) l (path, n) v) → LiveStmt s K' path (stmt at n (insert x i c)) → K' (element (place s path x) j (path, n) u) → K (element (place s path x) j (path, n) u)
      inserted_within path at n x i c j l u v h live f = by (k.wrote (place s path x) l (path, n) v h) (k'.wrote (place s path x) j (path, n) u f)
        where
          by : From s K K (place s path x) l (path, n) v → From s K' K' (place s path x) j (path, n) u → K (element (place s path x) j (path, n) u)
          by (inl a) (inr b) = fill_not_insert a b
          by (inr a) (inl b) = fill_not_insert b a
          by (inl a) (inl b) =
              let m : stmt a.at n (fill a.array a.right) ∈ script_stmts s = subst (λ (z : ℕ). stmt a.at z (fill a.array a.right) ∈ script_stmts s) (ap (λ (z : Place). z.1) a.writer_is) (stmt_in s a.live) in
              absurd (writers.fill_insert a.at n at a.array x i a.right c m (stmt_in s live))
          by (inr a) (inr b) =
              let r = inserts_agree K' (k'.one_each).one_value (grow_insert more a) b in
              subst (λ (z : Key). K (element (place s path x) z (path, n) u)) r.0 (subst (λ (z : Scalar). K (element (place s path x) l (path, n) z)) r.1 h)

  module _ (n : ℕ) (all : (r : ℕ) → r ≤ n → Sound s (Known s r)) (once : (r : ℕ) → r ≤ n → OneAssign s (Known s r)) where
    between : (r q : ℕ) → r ≤ q → q ≤ n → Later s (Known s r) (Known s q)
    between r q h k = later_of (Known s r) (Known s q) (known_full s apart r) (all r (omega arith)) (all q k) (λ f x. known_later s r q f h x)

    live_later : (r q : ℕ) → r ≤ q → q ≤ n → {path : Path} {st : Stmt} → LiveStmt s (Known s r) path st → LiveStmt s (Known s q) path st
    live_later r q h k l = keeps_stmt s (Known s r) (Known s q) (grows s w (Known s r) (Known s q) (between r q h k)) l

    cells_agree : (r q : ℕ) → r ≤ q → q ≤ n → {path : Path} {f : Form} {v u : Value} → Gives s (Known s r) path f (Ok v) → Gives s (Known s q) path f (Ok u) → v ≡ u
    cells_agree r q h k x y = ok_values (gives_same s w loops (Known s r) (Known s q) (all q k).one_each (between r q h k) (between q q (omega arith) k) x y)

    -- a cell has one value
    cell_one : {st : Stmt} {c : Cell} {path : Path} {v u : Value} → st ∈ script_stmts s → c ∈ cells st → Known s (suc n) (value (path, c.node) v) → Known s (suc n) (value (path, c.node) u) → v ≡ u
    cell_one {c = c} {path = path} {v = v} {u = u} m i h k =
        let a = came s (suc n) _ h in
        let b = came s (suc n) _ k in
        let x = (cell_gives s apart (Known s a.round) m i a.new).1 in
        let y = (cell_gives s apart (Known s b.round) m i b.new).1 in
        let la = a.below in
        let lb = b.below in
        elim (le_either a.round b.round) [
          | inl l ↦ cells_agree a.round b.round l (omega arith) x y
          | inr l ↦ sym (cells_agree b.round a.round l (omega arith) y x)
        ]

    -- a value that a cell comes to have is known behind the round
    comes_known : (r : ℕ) → r ≤ n → {st : Stmt} {c : Cell} {path : Path} {v : Value} → LiveStmt s (Known s r) path st → c ∈ cells st → Comes s (Known s r) path c v → Known s (suc n) (value (path, c.node) v)
    comes_known r h l i (before k) = known_later s r (suc n) _ (omega arith) k
    comes_known r h l i (now g) = known_later s (suc r) (suc n) _ (omega arith) (inr (cell_value l i g))

    one_value_next : (p : Place) (v u : Value) → Known s (suc n) (value p v) → Known s (suc n) (value p u) → v ≡ u
    one_value_next p v u h k = by (value_view a.new refl) (value_view b.new refl)
      where
        a : Came s (suc n) (value p v)
        a = came s (suc n) _ h

        b : Came s (suc n) (value p u)
        b = came s (suc n) _ k

        at_cell : {K : Knowledge} {x : Value} (e : CellValue s K p x) → v ≡ u
        at_cell e = cell_one (stmt_in s e.live) e.there (subst (λ (z : Place). Known s (suc n) (value z v)) e.is h) (subst (λ (z : Place). Known s (suc n) (value z u)) e.is k)

        assigns : AssignValue s (Known s a.round) p v → AssignValue s (Known s b.round) p u → v ≡ u
        assigns e f =
            let la = a.below in
            let lb = b.below in
            let m = max a.round b.round in
            let r = once m (omega arith) e.path f.path e.at e.node f.at f.node e.target f.target e.right f.right
            (live_later a.round m (omega arith) (omega arith) e.live) (live_later b.round m (omega arith) (omega arith) f.live) (sym e.is ∙ f.is) in
            let x = comes_known a.round (omega arith) e.live (outer_in e.right.parts e.right.cell) e.comes in
            let y = comes_known b.round (omega arith) f.live (outer_in f.right.parts f.right.cell) f.comes in
            cell_one (stmt_in s f.live) (outer_in f.right.parts f.right.cell)
            (subst (λ (z : Path). Known s (suc n) (value (z, f.right.cell.node) v)) r.0 (subst (λ (z : Outer). Known s (suc n) (value (e.path, z.cell.node) v)) r.1 x)) y

        by : (CellValue s (Known s a.round) p v ⊎ AssignValue s (Known s a.round) p v) → (CellValue s (Known s b.round) p u ⊎ AssignValue s (Known s b.round) p u) → v ≡ u
        by (inl e) f = at_cell e
        by (inr e) (inl f) = at_cell f
        by (inr e) (inr f) = assigns e f

    no_loop_value_next : (st : Stmt) (x : ℕ) (r : Bool) (path : Path) (v : Value) → st ∈ script_stmts s → Role st x r → Known s (suc n) (value (path, x) v) → ⊥
    no_loop_value_next st x r path v m role h = by (value_view (came s (suc n) _ h).new refl)
      where
        by : {K : Knowledge} → (CellValue s K (path, x) v ⊎ AssignValue s K (path, x) v) → ⊥
        by (inl e) = loops.role_cells e.st st e.cell r (stmt_in s e.live) m e.there (subst (λ (z : ℕ). Role st z r) (ap (λ (z : Place). z.1) e.is) role)
        by (inr e) = loops.role_assign e.at e.node e.target e.right st x r e.path path (stmt_in s e.live) m role (sym e.is)

    -- an element of the next round comes from what is live now, with values of the next round
    from_next : (a : Place) (k : Key) (u : Place) (v : Scalar) → Known s (suc n) (element a k u v) → From s (Known s n) (Known s (suc n)) a k u v
    from_next a k u v h = by (element_view c.new refl)
      where
        c : Came s (suc n) (element a k u v)
        c = came s (suc n) _ h

        low : c.round ≤ n
        low = let l = c.below in omega arith

        by : (FillElement s (Known s c.round) a k u v ⊎ InsertElement s (Known s c.round) a k u v) → From s (Known s n) (Known s (suc n)) a k u v
        by (inl e) = inl (record {
          path = e.path;
          at = e.at;
          node = e.node;
          array = e.array;
          right = e.right;
          elements = e.elements;
          live = live_later c.round n low (omega arith) e.live;
          known = comes_known c.round low e.live (outer_in e.right.parts e.right.cell) e.comes;
          there = e.there;
          array_is = e.array_is;
          writer_is = e.writer_is;
        })
        by (inr e) = inr (record {
          path = e.path;
          at = e.at;
          node = e.node;
          array = e.array;
          index = e.index;
          right = e.right;
          index_value = e.index_value;
          live = live_later c.round n low (omega arith) e.live;
          known_index = comes_known c.round low e.live (index_in e.index e.right) e.comes_index;
          is_key = e.is_key;
          known = comes_known c.round low e.live (right_in e.index e.right) e.comes;
          array_is = e.array_is;
          writer_is = e.writer_is;
        })

    fill_known : {K : Knowledge} {what : Owned} {path : Path} {at m : ℕ} {x : Name} {c : Outer} → FinishedIn s w K (HasWritten s K) what path (stmt at m (fill x c)) → IsTarget what (stmt at m (fill x c))
        → (v : Value) × K (value (path, c.cell.node) v)
    fill_known (no_target_in h) i = absurd (h i)
    fill_known (fill_in h) i = h
    fill_known (blocks_in h f) i = absurd h

    insert_known : {K : Knowledge} {what : Owned} {path : Path} {at m : ℕ} {x : Name} {i c : Outer} → FinishedIn s w K (HasWritten s K) what path (stmt at m (insert x i c)) → IsTarget what (stmt at m (insert x i c))
        → (k : Key) × (v : Scalar) × K (element (place s path x) k (path, m) v)
    insert_known (no_target_in h) i = absurd (h i)
    insert_known (insert_in h) i = h
    insert_known (blocks_in h f) i = absurd h

    -- a closed array has no new element in the next round
    closed_next : (p : Place) → Closed s (Known s n) p → (k : Key) (u : Place) (v : Scalar) → Known s (suc n) (element p k u v) → Known s n (element p k u v)
    closed_next p c k u v f = by (from_next p k u v f)
      where
        here : Later s (Known s n) (Known s n)
        here = between n n (omega arith) (omega arith)

        by : From s (Known s n) (Known s (suc n)) p k u v → Known s n (element p k u v)
        by (inl e) =
            let fin = live_finished s w (Known s n) (HasWritten s (Known s n)) p (closed_in s w (Known s n) (Known s n) here c) e.array e.live (inl first) e.array_is in
            let h = fill_known fin first in
            let full = known_full s apart n e.path e.at e.node e.array e.right h.0 (stmt_in s e.live) h.1 in
            let same : e.elements ≡ full.0 = many_same (one_value_next (e.path, e.right.cell.node) (Many e.elements) h.0 e.known (inl h.1) ∙ full.1) in
            moved (Known s n) e.array_is e.writer_is (full.2 k v (subst (λ (l : List Element). entry k v ∈ l) same e.there))
        by (inr e) =
            let fin = live_finished s w (Known s n) (HasWritten s (Known s n)) p (closed_in s w (Known s n) (Known s n) here c) e.array e.live (inr first) e.array_is in
            let h = insert_known fin first in
            let h' : Known s n (element p h.0 u h.1) = moved (Known s n) e.array_is e.writer_is h.2 in
            elim (from_next p h.0 u h.1 (inl h')) [
              | inl b ↦ fill_not_insert b e
              | inr b ↦ (let r = inserts_agree (Known s (suc n)) one_value_next b e in
                  subst (λ (z : Scalar). Known s n (element p k u z)) r.1 (subst (λ (z : Key). Known s n (element p z u h.1)) r.0 h'))
            ]

    grows_next : Grows s (Known s n) (Known s (suc n))
    grows_next = record { more = λ f k. inl k; stays = closed_next }

    wrote_next : (a : Place) (k : Key) (u : Place) (v : Scalar) → Known s (suc n) (element a k u v) → From s (Known s (suc n)) (Known s (suc n)) a k u v
    wrote_next a k u v f = elim (from_next a k u v f) [ inl e ↦ inl (live_fill grows_next e) | inr e ↦ inr (live_insert grows_next e) ]

    whole_in_order : {L : Knowledge} {a : Place} {k : Key} {u : Place} {v : Scalar} (e : FromFill s L (Known s (suc n)) a k u v) → IsTrue (rising e.elements)
    whole_in_order e =
        let m = stmt_in s e.live in
        let c = came s (suc n) _ e.known in
        let r = many_given (apart.fill_many e.at e.node e.array e.right m) ((cell_gives s apart (Known s c.round) m (outer_in e.right.parts e.right.cell) c.new).1) in
        subst (λ (l : List Element). IsTrue (rising l)) (sym (many_same r.is)) r.in_order

    one_element_next : (a : Place) (k : Key) (u : Place) (v x : Scalar) → Known s (suc n) (element a k u v) → Known s (suc n) (element a k u x) → v ≡ x
    one_element_next a k u v x f g = by (from_next a k u v f) (from_next a k u x g)
      where
        by : From s (Known s n) (Known s (suc n)) a k u v → From s (Known s n) (Known s (suc n)) a k u x → v ≡ x
        by (inl e) (inl h) =
            rising_once e.elements (whole_in_order e) k v x e.there (subst (λ (l : List Element). entry k x ∈ l) (sym (fills_agree (Known s (suc n)) one_value_next e h)) h.there)
        by (inl e) (inr h) = fill_not_insert e h
        by (inr e) (inl h) = fill_not_insert h e
        by (inr e) (inr h) = (inserts_agree (Known s (suc n)) one_value_next e h).1

    pub sound_next : Sound s (Known s (suc n))
    sound_next = record {
      one_each = record { one_value = one_value_next; one_element = one_element_next; no_loop_value = no_loop_value_next };
      wrote = wrote_next;
    }

  module _ (once : (n : ℕ) → Sound s (Known s n) → OneAssign s (Known s n)) where
    sound_zero : Sound s (Known s 0)
    sound_zero = record {
      one_each = record { one_value = λ p v u h k. absurd h; one_element = λ a k u v x h g. absurd h; no_loop_value = λ st x r path v m role h. h };
      wrote = λ a k u v h. absurd h;
    }

    sound_below : (n r : ℕ) → r ≤ n → Sound s (Known s r)
    sound_below zero r h = let e : 0 ≡ r = omega arith in subst (λ (i : ℕ). Sound s (Known s i)) e sound_zero
    sound_below (suc n) r h = by (at_most r n h) (sound_below n)
      where
        by : ((r ≤ n) ⊎ (r ≡ suc n)) → ((q : ℕ) → q ≤ n → Sound s (Known s q)) → Sound s (Known s r)
        by (inl l) all = all r l
        by (inr e) all = subst (λ (i : ℕ). Sound s (Known s i)) (sym e) (sound_next n all (λ q l. once q (all q l)))

    -- EVERY ROUND IS SOUND, where two live assignments of one place are one
    pub every_round : (n : ℕ) → Sound s (Known s n)
    every_round n = sound_below n n (omega arith)

    -- so the hinge holds between any two rounds
    pub rounds_later : (n m : ℕ) → n ≤ m → Later s (Known s n) (Known s m)
    rounds_later n m h = later_of (Known s n) (Known s m) (known_full s apart n) (every_round n) (every_round m) (λ f k. known_later s n m f h k)

    pub rounds_grow : (n m : ℕ) → n ≤ m → Grows s (Known s n) (Known s m)
    rounds_grow n m h = grows s w (Known s n) (Known s m) (rounds_later n m h)
