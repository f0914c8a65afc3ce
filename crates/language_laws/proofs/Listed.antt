-- A closed array has finitely many elements: those that the finished statements of its block have written.
use Rattle.std.specs.Prelude.{◌≡◌, ℕ, List, [], ◌∷◌, ◌++◌, Option, Some, None, slice_get, refl}
use Rattle.std.proofs.Common.{inl, inr, sym, ap, ◌∙◌, subst}
use Rattle.values.specs.declared.key.Key.{Key}
use Rattle.values.specs.declared.map.Element.{Element}
use Rattle.values.specs.declared.value.Scalar.{Scalar}
use Rattle.values.specs.declared.value.Value.{Value}
use Rattle.values.specs.declared.value.Value.TheVariants.{Many}
use Rattle.values.specs.Maps.{element as entry}
use Rattle.language.specs.Core.{Owned, Name, Outer, Stmt, stmt, declare, call_alone, assign, fill, insert, print, assert, when, choose, range, each, wait, Block, Function, Core}
use Rattle.language.specs.Facts.{value, element, Knowledge, OneWriter, Elements}
use Rattle.language.specs.Meaning.{IsTarget, Closed, closed, Finished, no_target, value_known, write_known, body_finished, blocks_finished, content_finished}
use Rattle.language.specs.Members.{◌∈◌, first, later}
use Rattle.language.specs.Openings.{Opens}
use Rattle.language.specs.Parts.{block_list, script_blocks, script_stmts, stmts_of, function_body}
use Rattle.language.specs.Places.{Path, Place, place}
use Rattle.language.specs.WellFormed.{WellFormed}
use Rattle.language.proofs.Blocks.{header_inner, inner_block, function_block, among_script}
use Rattle.language.proofs.Members.{to_left, to_right, either}
use Rattle.language_laws.proofs.Declared.{header_of, live_block, stmt_in}
use Rattle.language_laws.proofs.Frozen.{FinishedIn, no_target_in, fill_in, insert_in, body_in, blocks_in, content_in, ClosedIn, live_finished, finished_more}
use Rattle.language_laws.proofs.Hinge.{Later, choice_stays}
use Rattle.language_laws.proofs.PlacesEqual.{place_is}
use Rattle.language_laws.proofs.Rounds.{Sound, From, later_of, inserts_agree, fill_not_insert}
use Rattle.language_laws.proofs.Sorted.{sorted, sorted_rising, sorted_from, sorted_all}
use Rattle.language_laws.proofs.Sources.{IsFull}
use Rattle.language_laws.proofs.Stages.{all_stmts, all_body, all_opened}

many_same : {es fs : List Element} → Many es ≡ Many fs → es ≡ fs
many_same h = cc

one_in : {X : Type 0} {x y : X} → x ∈ (y ∷ []) → x ≡ y
one_in first = refl
one_in (later m) = elim m [ ]

entry_parts : {k l : Key} {v u : Scalar} → entry k v ≡ entry l u → (k ≡ l) × (v ≡ u)
entry_parts h = (ap (λ (e : Element). e.key) h, ap (λ (e : Element). e.value) h)

-- a statement stands in a block of the script
record Placed (s : Core) (st : Stmt) : Type 0 where
  block : Block
  there : block ∈ script_blocks s
  holds : st ∈ block_list block

placed_stmt : (s : Core) {st : Stmt} → Placed s st → st ∈ script_stmts s
placed_stmt s p = among_script s p.there p.holds

placed_body : (s : Core) (f : ℕ) {st : Stmt} → st ∈ function_body s f → Placed s st
placed_body s f {st} m = by (slice_get s.functions f) refl m
  where
    by : (o : Option Function) → slice_get s.functions f ≡ o → st ∈ stmts_of o → Placed s st
    by None e i = elim i [ ]
    by (Some g) e i = record { block = g.body; there = function_block s f g e; holds = i }

-- elements of an array that are known
record Listing (K : Knowledge) (p : Place) : Type 0 where
  list : List Element
  written : (k : Key) (v : Scalar) → entry k v ∈ list → (w : Place) × K (element p k w v)

abbrev AllIn : {K : Knowledge} {p : Place} → Listing K p → Listing K p → Type 0
AllIn a b = (e : Element) → e ∈ a.list → e ∈ b.list

empty : {K : Knowledge} {p : Place} → Listing K p
empty = record { list = []; written = λ k v m. elim m [ ] }

abbrev joined : {K : Knowledge} {p : Place} → Listing K p → Listing K p → Listing K p
joined a b = record {
  list = a.list ++ b.list;
  written = λ k v m. elim (either a.list b.list m) [ inl i ↦ a.written k v i | inr i ↦ b.written k v i ];
}

module _ (s : Core) (w : WellFormed s) (K : Knowledge) (full : IsFull s K) (sound : Sound s K) where
  here : Later s K K
  here = later_of s w.names w.cells w.loops w.writers K K full sound sound (λ f k. k)

  module _ (p : Place) where
    -- what a statement writes to the array under a path is listed
    abbrev Lists : Listing K p → Path → ℕ → Name → Type 0
    Lists l path n x = place s path x ≡ p → (k : Key) (v : Scalar) → K (element p k (path, n) v) → entry k v ∈ l.list

    abbrev IsListed : Listing K p → Path → Stmt → Type 0
    IsListed l path (stmt at n (fill x c)) = Lists l path n x
    IsListed l path (stmt at n (insert x i c)) = Lists l path n x
    IsListed l path (stmt at n _) = ⊥

    listed_more : (a b : Listing K p) → AllIn a b → (path : Path) (st : Stmt) → IsListed a path st → IsListed b path st
    listed_more a b h path (stmt at n (fill x c)) d = λ e k v f. h (entry k v) (d e k v f)
    listed_more a b h path (stmt at n (insert x i c)) d = λ e k v f. h (entry k v) (d e k v f)
    listed_more a b h path (stmt at n (declare v)) d = d
    listed_more a b h path (stmt at n (call_alone q ps c)) d = d
    listed_more a b h path (stmt at n (assign x c)) d = d
    listed_more a b h path (stmt at n (print q c)) d = d
    listed_more a b h path (stmt at n (assert q c)) d = d
    listed_more a b h path (stmt at n (when c t)) d = d
    listed_more a b h path (stmt at n (choose c t u)) d = d
    listed_more a b h path (stmt at n (range lo hi st v t c)) d = d
    listed_more a b h path (stmt at n (each x v t c)) d = d
    listed_more a b h path (stmt at n (wait ns c)) d = d

    -- finished, with a listing of what was written
    abbrev Ended : Listing K p → Owned → Path → Stmt → Type 0
    Ended l a path st = FinishedIn s w.names K (IsListed l) a path st

    ended_more : (a : Owned) (path : Path) (st : Stmt) (l m : Listing K p) → AllIn l m → Ended l a path st → Ended m a path st
    ended_more a path st l m h d = finished_more s w.names K (IsListed l) (IsListed m) (listed_more l m h) d

    left_in : (a b : Listing K p) → AllIn a (joined a b)
    left_in a b e m = to_left a.list b.list m

    right_in_both : (a b : Listing K p) → AllIn b (joined a b)
    right_in_both a b e m = to_right a.list b.list m

    moved : {a b : Place} {k : Key} {u : Place} {v : Scalar} → a ≡ b → K (element a k u v) → K (element b k u v)
    moved {k = k} {u = u} {v = v} e f = subst (λ (z : Place). K (element z k u v)) e f

    -- a whole array that is known is all that its statement writes
    pub fill_all : {at n : ℕ} {x : Name} {c : Outer} {path : Path} (v : Value) → stmt at n (fill x c) ∈ script_stmts s → K (value (path, c.cell.node) v) → (k : Key) (u : Scalar) → K (element p k (path, n) u)
        → From s K K p k (path, n) u → (es : List Element) → v ≡ Many es → entry k u ∈ es
    fill_all {at} {n} {x} {c} {path} v m h k u f (inl e) es q =
        let i : stmt e.at n (fill e.array e.right) ∈ script_stmts s = subst (λ (z : ℕ). stmt e.at z (fill e.array e.right) ∈ script_stmts s) (ap (λ (z : Place). z.1) e.writer_is) (stmt_in s e.live) in
        let r = (w.writers).fill_once at n e.at x e.array c e.right m i in
        let g : K (value (path, c.cell.node) (Many e.elements)) = subst (λ (z : Outer). K (value (path, z.cell.node) (Many e.elements))) (sym r.1) (subst (λ (z : Path). K (value (z, e.right.cell.node) (Many e.elements))) (ap (λ (z : Place). z.0) e.writer_is) e.known) in
        let same : e.elements ≡ es = many_same ((sound.one_each).one_value (path, c.cell.node) (Many e.elements) v g h ∙ q) in
        subst (λ (l : List Element). entry k u ∈ l) same e.there
    fill_all {at} {n} {x} {c} {path} v m h k u f (inr e) es q =
        let i : stmt e.at n (insert e.array e.index e.right) ∈ script_stmts s = subst (λ (z : ℕ). stmt e.at z (insert e.array e.index e.right) ∈ script_stmts s) (ap (λ (z : Place). z.1) e.writer_is) (stmt_in s e.live) in
        absurd ((w.writers).fill_insert at n e.at x e.array e.index c e.right m i)

    -- an insertion writes once
    insert_all : {at n : ℕ} {x : Name} {i c : Outer} {path : Path} {k l : Key} {v u : Scalar} → stmt at n (insert x i c) ∈ script_stmts s → From s K K p l (path, n) u → From s K K p k (path, n) v → (k ≡ l) × (v ≡ u)
    insert_all {at} {n} {x} {i} {c} m (inl e) f =
        let j : stmt e.at n (fill e.array e.right) ∈ script_stmts s = subst (λ (z : ℕ). stmt e.at z (fill e.array e.right) ∈ script_stmts s) (ap (λ (z : Place). z.1) e.writer_is) (stmt_in s e.live) in
        absurd ((w.writers).fill_insert e.at n at e.array x i e.right c j m)
    insert_all m (inr e) (inl f) = fill_not_insert s w.names w.cells w.loops w.writers f e
    insert_all m (inr e) (inr f) = inserts_agree s w.names w.cells w.loops w.writers K (sound.one_each).one_value f e

    -- what a finished statement writes can be listed
    ended : {a : Owned} {path : Path} {st : Stmt} → Placed s st → Finished s K a path st → (l : Listing K p) × Ended l a path st
    ended m (no_target h) = (empty, no_target_in h)
    ended {path = path} m (value_known {at = at} {n = n} {x = x} {c = c} {v = v} h) =
        elim (place_is (place s path x) p) [
          | inr differs ↦ (empty, fill_in (λ e k u f. absurd (differs e)))
          | inl same ↦ (let i = placed_stmt s m in
              let q = full path at n x c v i h in
              (record { list = q.0; written = λ k u j. ((path, n), moved same (q.2 k u j)) }, fill_in (λ e k u f. fill_all v i h k u f (sound.wrote p k (path, n) u f) q.0 q.1)))
        ]
    ended {path = path} m (write_known {at = at} {n = n} {x = x} {i = i} {c = c} {k = k} {v = v} h) =
        elim (place_is (place s path x) p) [
          | inr differs ↦ (empty, insert_in (λ e l u f. absurd (differs e)))
          | inl same ↦ (let f' : K (element p k (path, n) v) = moved same h in (
            record { list = entry k v ∷ []; written = λ l u j. (let r = entry_parts (one_in j) in ((path, n), subst (λ (z : Scalar). K (element p l (path, n) z)) (sym r.1) (subst (λ (z : Key). K (element p z (path, n) v)) (sym r.0) f'))) },
            insert_in (λ e l u f. (let r = insert_all (placed_stmt s m) (sound.wrote p k (path, n) v f') (sound.wrote p l (path, n) u f) in subst (λ (z : Element). z ∈ (entry k v ∷ [])) (λ j. entry (sym r.0 j) (sym r.1 j)) first)),
          ))
        ]
    ended m (body_finished {c = c} d fs) =
        let r = all_body (Listing K p) empty joined AllIn left_in right_in_both Ended ended_more c.outputs (function_body s c.function) (λ j x st e t i. ended (placed_body s c.function i) (fs j x st e t i)) in
        (r.0, body_in r.1)
    ended m (blocks_finished {header = header} h r d fs) =
        let q = all_opened (Listing K p) empty joined AllIn left_in right_in_both Ended ended_more r
        (λ k b st o i. ended (record { block = b; there = inner_block s m.there m.holds (header_inner header (header_of o)); holds = i }) (fs k b st o i)) in
        (q.0, blocks_in h (λ vs k b st r' o i. q.1 k b st (subst (λ (z : List Value). Opens header z k b) (sym (choice_stays s w.names K K here r r')) o) i))
    ended m (content_finished {b = b} r fs) =
        let q = all_stmts (Listing K p) empty joined AllIn left_in right_in_both Ended ended_more (block_list b)
        (λ st i. ended (record { block = b; there = inner_block s m.there m.holds first; holds = i }) (fs st i)) in
        (q.0, content_in q.1)

    fill_listed : (l : Listing K p) {a : Owned} {path : Path} {at n : ℕ} {x : Name} {c : Outer} → Ended l a path (stmt at n (fill x c)) → IsTarget a (stmt at n (fill x c)) → Lists l path n x
    fill_listed l (no_target_in h) i = absurd (h i)
    fill_listed l (fill_in h) i = h
    fill_listed l (blocks_in h f) i = absurd h

    insert_listed : (l : Listing K p) {a : Owned} {path : Path} {at n : ℕ} {x : Name} {i c : Outer} → Ended l a path (stmt at n (insert x i c)) → IsTarget a (stmt at n (insert x i c)) → Lists l path n x
    insert_listed l (no_target_in h) i = absurd (h i)
    insert_listed l (insert_in h) i = h
    insert_listed l (blocks_in h f) i = absurd h

    -- all that is written to a closed array is listed
    all_listed : (l : Listing K p) → ClosedIn s w.names K (IsListed l) p → (k : Key) (u : Place) (v : Scalar) → K (element p k u v) → entry k v ∈ l.list
    all_listed l c k u v f = by (sound.wrote p k u v f)
      where
        by : From s K K p k u v → entry k v ∈ l.list
        by (inl e) = fill_listed l (live_finished s w.names K (IsListed l) p c e.array e.live (inl first) e.array_is) first e.array_is k v (subst (λ (z : Place). K (element p k z v)) (sym e.writer_is) f)
        by (inr e) = insert_listed l (live_finished s w.names K (IsListed l) p c e.array e.live (inr first) e.array_is) first e.array_is k v (subst (λ (z : Place). K (element p k z v)) (sym e.writer_is) f)

    in_order : (l : Listing K p) → OneWriter K p → ((k : Key) (u : Place) (v : Scalar) → K (element p k u v) → entry k v ∈ l.list) → (es : List Element) × Elements K p es
    in_order l once all = (
      sorted l.list,
      record {
        in_order = sorted_rising l.list;
        written = λ k v m. l.written k v (sorted_from l.list (entry k v) m);
        all = λ k u v f. sorted_all l.list one (entry k v) (all k u v f);
      },
    )
      where
        one : (k : Key) (v u : Scalar) → entry k v ∈ l.list → entry k u ∈ l.list → v ≡ u
        one k v u i j =
            let a = l.written k v i in
            let b = l.written k u j in
            (sound.one_each).one_element p k a.0 v u a.1 (subst (λ (z : Place). K (element p k z u)) (sym (once k a.0 b.0 v u a.1 b.1)) b.1)

  -- A CLOSED ARRAY HAS FINITELY MANY ELEMENTS
  pub listed : (a : Place) → Closed s K a → (es : List Element) × Elements K a es
  listed a (closed {path = path} {n = n} {at = at} {m = m} {b = b} l i fs once) =
      let there = live_block s l in
      let q = all_stmts (Listing K (path, n)) empty joined AllIn (left_in (path, n)) (right_in_both (path, n)) (Ended (path, n)) (ended_more (path, n)) (block_list b)
      (λ st j. ended (path, n) (record { block = b; there = there; holds = j }) (fs st j)) in
      in_order (path, n) q.0 once (all_listed (path, n) q.0 (record { block = b; there = there; declares = record { node = n; at = at; stmt_node = m; is = refl; there = i }; all = q.1 }))
