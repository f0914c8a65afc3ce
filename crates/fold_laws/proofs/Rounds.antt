-- Cores that are the same know the same after each round.
use Rattle.std.specs.Prelude.{◌≡◌, ◌⊎◌, ℕ, zero, suc, ℤ, List, Option, Some, Err, refl}
use Rattle.std.proofs.Common.{inl, inr, sym, ap, subst, ◌∙◌}
use Rattle.values.specs.declared.key.Key.{Key}
use Rattle.values.specs.declared.map.Element.{Element}
use Rattle.values.specs.declared.value.Scalar.{Scalar}
use Rattle.values.specs.declared.fault.OpFault.{OpFault}
use Rattle.values.specs.declared.value.Value.{Value}
use Rattle.values.specs.declared.value.Value.TheVariants.{One, Many}
use Rattle.values.specs.Maps.{element as entry}
use Rattle.values.specs.Ranges.{range_count}
use Rattle.language.specs.Core.{Core, Name, Outer, Stmt, stmt, Action, Block, assign, fill, insert, print, range}
use Rattle.language.specs.Facts.{operation, element_twice, too_deep, Fact, value, element, line, fault, Knowledge, IsKey}
use Rattle.language.specs.Meaning.{Comes, ComeAll, LiveStmt, Ready, New, cell_value, cell_fault, assigned, filled, inserted, printed, bad_range, too_deep_header, too_deep_call, written_twice, Known}
use Rattle.language.specs.Members.{◌∈◌}
use Rattle.language.specs.Parts.{stmt_at, stmt_node, outer_cells}
use Rattle.language.specs.Openings.{Bounds, bounds}
use Rattle.language.specs.Places.{Path, Place, place}
use Rattle.fold_laws.specs.Same.{SameStmt, same_stmt, SameAction, same_assign, same_fill, same_insert, same_print, same_range, no_step, a_step, SameCore}
use Rattle.fold_laws.proofs.Listed.{like_of, same_cells, same_stmt_calls, same_outer_cells}
use Rattle.fold_laws.proofs.Turned.{turned_core}
use Rattle.fold_laws.proofs.Kept.{place_is, same_opens, same_ready, same_gives, same_comes, same_come_all, same_live_stmt, same_live_action}

stmt_at_same : {s t : Stmt} → SameStmt s t → stmt_at s ≡ stmt_at t
stmt_at_same (same_stmt h) = refl

stmt_node_same : {s t : Stmt} → SameStmt s t → stmt_node s ≡ stmt_node t
stmt_node_same (same_stmt h) = refl

module _ (c d : Core) (same : SameCore c d) (K L : Knowledge) (to : (f : Fact) → K f → L f) (from : (f : Fact) → L f → K f) where
  at_place : (path : Path) (x : Name) (f : Place → Fact) → New d L (f (place d path x)) → New d L (f (place c path x))
  at_place path x f h = subst (λ p. New d L (f p)) (sym (place_is c d same K L to from path x)) h

  from_assign : {path : Path} {at n : ℕ} {x : Name} {o : Outer} {v : Value} {b : Action} → SameAction (assign x o) b → LiveStmt d L path (stmt at n b) → Comes c K path o.cell v → New d L (value (place d path x) v)
  from_assign (same_assign h) l g = assigned l (same_comes c d same K L to from h.cell g)

  from_fill : {path : Path} {at n : ℕ} {a : Name} {o : Outer} {es : List Element} {k : Key} {v : Scalar} {b : Action} → SameAction (fill a o) b → LiveStmt d L path (stmt at n b) → Comes c K path o.cell (Many es) → entry k v ∈ es
      → New d L (element (place d path a) k (path, n) v)
  from_fill (same_fill h) l g i = filled l (same_comes c d same K L to from h.cell g) i

  from_insert : {path : Path} {at n : ℕ} {a : Name} {i o : Outer} {u : Value} {k : Key} {v : Scalar} {b : Action} → SameAction (insert a i o) b → LiveStmt d L path (stmt at n b) → Comes c K path i.cell u → IsKey u k → Comes c K path o.cell (One v)
      → New d L (element (place d path a) k (path, n) v)
  from_insert (same_insert h j) l g i y = inserted l (same_comes c d same K L to from h.cell g) i (same_comes c d same K L to from j.cell y)

  from_print : {path : Path} {at n : ℕ} {p : ℤ} {o : Outer} {bytes : List ℕ} {b : Action} → SameAction (print p o) b → LiveStmt d L path (stmt at n b) → Comes c K path o.cell (One (Scalar.Text bytes)) → New d L (line (path, n) bytes)
  from_print (same_print h) l g = printed l (same_comes c d same K L to from h.cell g)

  from_range : {path : Path} {at n x : ℕ} {lo hi : Outer} {st : Option Outer} {t : Option ℕ} {b : Block} {a : Action} {vs : List Value} {r : Bounds} {f : OpFault} → SameAction (range lo hi st x t b) a → LiveStmt d L path (stmt at n a)
      → ComeAll c K path (outer_cells (range lo hi st x t b)) vs → bounds vs ≡ Some r → range_count r.low r.high r.step ≡ Err f → New d L (fault (operation f) at (path, n))
  from_range {x} {t} (same_range h k no_step m) l g e q = bad_range l (same_come_all c d same K L to from (same_outer_cells (same_range {x = x} {t = t} h k no_step m)) g) e q
  from_range {x} {t} (same_range h k (a_step s) m) l g e q = bad_range l (same_come_all c d same K L to from (same_outer_cells (same_range {x = x} {t = t} h k (a_step s) m)) g) e q

  either : {path : Path} {a b : Action} {vs : List Value} → SameAction a b → ComeAll c K path (outer_cells a) vs ⊎ Ready c K path a vs → ComeAll d L path (outer_cells b) vs ⊎ Ready d L path b vs
  either h (inl g) = inl (same_come_all c d same K L to from (same_outer_cells h) g)
  either h (inr r) = inr (same_ready c d same K L to from r h)

  pub same_new : {f : Fact} → New c K f → New d L f
  same_new (cell_value {path} {v} h i g) =
      let x = same_live_stmt c d same K L to from h in
      let y = like_of (same_cells x.same_stmt) i in
      subst (λ n. New d L (value (path, n) v)) (sym y.same.node) (cell_value x.live y.there (same_gives c d same K L to from g y.same.form))
  same_new (cell_fault {path} {c = k} {f} h i g) =
      let x = same_live_stmt c d same K L to from h in
      let y = like_of (same_cells x.same_stmt) i in
      subst (λ n. New d L (fault f n (path, k.node))) (sym (stmt_at_same x.same_stmt))
      (subst (λ n. New d L (fault f (stmt_at x.like) (path, n))) (sym y.same.node) (cell_fault x.live y.there (same_gives c d same K L to from g y.same.form)))
  same_new (assigned {path} {x} {v} h g) =
      let r = same_live_action c d same K L to from h in
      at_place path x (λ p. value p v) (from_assign r.same_action r.live g)
  same_new (filled {path} {n} {a} {k} {v} h g i) =
      let r = same_live_action c d same K L to from h in
      at_place path a (λ p. element p k (path, n) v) (from_fill r.same_action r.live g i)
  same_new (inserted {path} {n} {a} {k} {v} h g i y) =
      let r = same_live_action c d same K L to from h in
      at_place path a (λ p. element p k (path, n) v) (from_insert r.same_action r.live g i y)
  same_new (printed h g) = let r = same_live_action c d same K L to from h in from_print r.same_action r.live g
  same_new (bad_range h g e q) = let r = same_live_action c d same K L to from h in from_range r.same_action r.live g e q
  same_new (too_deep_header h x o e) =
      let r = same_live_action c d same K L to from h in
      too_deep_header r.live (either r.same_action x) (same_opens o r.same_action).opens e
  same_new (too_deep_call {path} {st} {c = k} h i e) =
      let r = same_live_stmt c d same K L to from h in
      subst (λ n. New d L (fault too_deep n (path, stmt_node st))) (sym (stmt_at_same r.same_stmt))
      (subst (λ n. New d L (fault too_deep (stmt_at r.like) (path, n))) (sym (stmt_node_same r.same_stmt)) (too_deep_call r.live (subst (λ ks. k ∈ ks) (same_stmt_calls r.same_stmt) i) e))
  same_new (written_twice {path} {st} {a} {w} {k} {v} {u} h x y n) =
      let r = same_live_stmt c d same K L to from h in
      let is = sym (stmt_node_same r.same_stmt) in
      subst (λ n. New d L (fault element_twice n (path, stmt_node st))) (sym (stmt_at_same r.same_stmt))
      (subst (λ n. New d L (fault element_twice (stmt_at r.like) (path, n))) is
      (written_twice r.live (subst (λ n. L (element a k (path, n) v)) (sym is) (to _ x)) (to _ y) (λ e. n (e ∙ ap (λ n. (path, n)) is))))

pub same_known : (c d : Core) → SameCore c d → (n : ℕ) (f : Fact) → Known c n f → Known d n f
same_known c d same zero f k = k
same_known c d same (suc n) f (inl k) = inl (same_known c d same n f k)
same_known c d same (suc n) f (inr x) = inr (same_new c d same (Known c n) (Known d n) (same_known c d same n) (same_known d c (turned_core same) n) x)
