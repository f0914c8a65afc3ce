-- What is closed stays as it is: where knowledge grows by rounds, no live statement has more to write to a closed array.
use Rattle.std.specs.Prelude.{◌≡◌, ◌⊎◌, ℕ, List, [], ◌∷◌, refl}
use Rattle.std.proofs.Common.{inl, inr, sym, ap, subst}
use Rattle.values.specs.declared.key.Key.{Key}
use Rattle.values.specs.declared.map.Element.{Element}
use Rattle.values.specs.declared.value.Scalar.{Scalar}
use Rattle.values.specs.declared.value.Value.{Value}
use Rattle.values.specs.declared.value.Value.TheVariants.{Many}
use Rattle.language.specs.Core.{Owned, Name, Cell, Outer, Stmt, stmt, Action, fill, insert, Core}
use Rattle.language.specs.Facts.{Fact, value, element, Knowledge, Elements, KnownAll, no_cell, next_cell}
use Rattle.language.specs.Meaning.{IsTarget, Closed, closed, Finished, no_target, value_known, write_known, body_finished, blocks_finished, content_finished, Ready, cells_known, source_closed, names_known, LiveStmt}
use Rattle.language.specs.Members.{first}
use Rattle.language.specs.Openings.{Opens}
use Rattle.language.specs.Places.{Path, Place, place}
use Rattle.language.specs.WellFormed.{NamesFound}
use Rattle.language_laws.proofs.Declared.{live_block}
use Rattle.language_laws.proofs.Frozen.{FinishedIn, no_target_in, fill_in, insert_in, body_in, blocks_in, content_in, ClosedIn, live_finished}
use Rattle.language_laws.proofs.Growth.{Grows}
use Rattle.language_laws.proofs.Rising.{rising_same}

-- an element fact comes from a live statement that writes it
pub record Wrote (s : Core) (K : Knowledge) (a : Place) (w : Place) : Type 0 where
  pub path : Path
  pub at : ℕ
  pub node : ℕ
  pub array : Name
  pub action : Action
  pub live : LiveStmt s K path (stmt at node action)
  pub writes : ((c : Outer) × (action ≡ fill array c)) ⊎ ((i : Outer) × (c : Outer) × (action ≡ insert array i c))
  pub array_is : place s path array ≡ a
  pub writer_is : (path, node) ≡ w

-- knowledge that has grown out of other knowledge by rounds
pub record Later (s : Core) (K K' : Knowledge) : Type 0 where
  pub more : (f : Fact) → K f → K' f
  pub one_value : (p : Place) (v w : Value) → K' (value p v) → K' (value p w) → v ≡ w
  pub wrote : (a : Place) (k : Key) (w : Place) (v : Scalar) → K' (element a k w v) → Wrote s K' a w
  -- a fill gives its elements with its value, and an insert writes once
  pub filled : (path : Path) (at n : ℕ) (x : Name) (c : Outer) (v : Value) (k : Key) (u : Scalar)
      → K (value (path, c.cell.node) v) → LiveStmt s K' path (stmt at n (fill x c)) → K' (element (place s path x) k (path, n) u) → K (element (place s path x) k (path, n) u)
  pub inserted : (path : Path) (at n : ℕ) (x : Name) (i c : Outer) (k l : Key) (u v : Scalar)
      → K (element (place s path x) l (path, n) v) → LiveStmt s K' path (stmt at n (insert x i c)) → K' (element (place s path x) k (path, n) u) → K (element (place s path x) k (path, n) u)

-- a statement that fills an array has its value, one that inserts has written
abbrev pub HasWritten : Core → Knowledge → Path → Stmt → Type 0
HasWritten s K path (stmt at n (fill x c)) = (v : Value) × K (value (path, c.cell.node) v)
HasWritten s K path (stmt at n (insert x i c)) = (k : Key) × (v : Scalar) × K (element (place s path x) k (path, n) v)
HasWritten s K path (stmt at n _) = ⊥

module _ (s : Core) (w : NamesFound s) (K K' : Knowledge) (g : Later s K K') where
  abbrev FinishedHere : Owned → Path → Stmt → Type 0
  FinishedHere a path st = FinishedIn s w K' (HasWritten s K) a path st

  abbrev ClosedHere : Place → Type 0
  ClosedHere p = ClosedIn s w K' (HasWritten s K) p

  fill_more : {a : Owned} {path : Path} {at n : ℕ} {x : Name} {c : Outer} (k : Key) (v : Scalar) → FinishedHere a path (stmt at n (fill x c)) → IsTarget a (stmt at n (fill x c)) → LiveStmt s K' path (stmt at n (fill x c))
      → K' (element (place s path x) k (path, n) v) → K (element (place s path x) k (path, n) v)
  fill_more k v (no_target_in h) t l f = absurd (h t)
  fill_more {path = path} {at = at} {n = n} {x = x} {c = c} k v (fill_in (u, h)) t l f = g.filled path at n x c u k v h l f
  fill_more k v (blocks_in h r) t l f = absurd h

  insert_more : {a : Owned} {path : Path} {at n : ℕ} {x : Name} {i c : Outer} (k : Key) (v : Scalar) → FinishedHere a path (stmt at n (insert x i c)) → IsTarget a (stmt at n (insert x i c)) → LiveStmt s K' path (stmt at n (insert x i c))
      → K' (element (place s path x) k (path, n) v) → K (element (place s path x) k (path, n) v)
  insert_more k v (no_target_in h) t l f = absurd (h t)
  insert_more {path = path} {at = at} {n = n} {x = x} {i = i} {c = c} k v (insert_in (k', u, h)) t l f = g.inserted path at n x i c k k' v u h l f
  insert_more k v (blocks_in h r) t l f = absurd h

  -- nothing is written to a closed array any more
  no_more : (p : Place) → ClosedHere p → (k : Key) (u : Place) (v : Scalar) → K' (element p k u v) → K (element p k u v)
  no_more p c k u v f =
      subst (λ (z : Place). K (element p k z v)) r.writer_is (subst (λ (z : Place). K (element z k (r.path, r.node) v)) r.array_is known)
    where
      r : Wrote s K' p u
      r = g.wrote p k u v f

      f' : K' (element (place s r.path r.array) k (r.path, r.node) v)
      f' = subst (λ (z : Place). K' (element z k (r.path, r.node) v)) (sym r.array_is) (subst (λ (z : Place). K' (element p k z v)) (sym r.writer_is) f)

      known : K (element (place s r.path r.array) k (r.path, r.node) v)
      known = elim r.writes [
        | inl x ↦ (let l : LiveStmt s K' r.path (stmt r.at r.node (fill r.array x.0)) = subst (λ (a : Action). LiveStmt s K' r.path (stmt r.at r.node a)) x.1 r.live in
            fill_more k v (live_finished s w K' (HasWritten s K) p c r.array l (inl first) r.array_is) first l f')
        | inr x ↦ (let l : LiveStmt s K' r.path (stmt r.at r.node (insert r.array x.0 x.1)) = subst (λ (a : Action). LiveStmt s K' r.path (stmt r.at r.node a)) x.2 r.live in
            insert_more k v (live_finished s w K' (HasWritten s K) p c r.array l (inr first) r.array_is) first l f')
      ]

  values_same : {path : Path} {cs : List Cell} {vs us : List Value} → KnownAll K path cs vs → KnownAll K' path cs us → vs ≡ us
  values_same no_cell no_cell = refl
  values_same (next_cell h hs) (next_cell k ks) =
      let a = g.one_value _ _ _ (g.more _ h) k in
      let b = values_same hs ks in λ i. a i ∷ b i

  elements_same : (p : Place) → ClosedHere p → (es fs : List Element) → Elements K p es → Elements K' p fs → es ≡ fs
  elements_same p c es fs x y =
      rising_same es fs x.in_order y.in_order
      (λ e m. (let z = x.written e.key e.value m in y.all e.key z.0 e.value (g.more _ z.1)))
      (λ e m. (let z = y.written e.key e.value m in x.all e.key z.0 e.value (no_more p c e.key z.0 e.value z.1)))

  mutual
    pub closed_in : {p : Place} → Closed s K p → ClosedHere p
    closed_in (closed {n = n} {at = at} {m = m} l i fs o) = record {
      block = _;
      there = live_block s l;
      declares = record { node = n; at = at; stmt_node = m; is = refl; there = i };
      all = λ st j. finished_in (fs st j);
    }

    finished_in : {a : Owned} {path : Path} {st : Stmt} → Finished s K a path st → FinishedHere a path st
    finished_in (no_target h) = no_target_in h
    finished_in (value_known {v = v} h) = fill_in (v, h)
    finished_in (write_known {k = k} {v = v} h) = insert_in (k, v, h)
    finished_in (body_finished d fs) = body_in (λ j x st e t i. finished_in (fs j x st e t i))
    finished_in (blocks_finished {header = header} h r d fs) =
        blocks_in h (λ vs k b st r' o i. finished_in (fs k b st (subst (λ (z : List Value). Opens header z k b) (sym (ready_same r r')) o) i))
    finished_in (content_finished r fs) = content_in (λ st i. finished_in (fs st i))

    ready_same : {path : Path} {h : Action} {vs us : List Value} → Ready s K path h vs → Ready s K' path h us → vs ≡ us
    ready_same (cells_known ks d) (cells_known ks' d') = values_same ks ks'
    ready_same (cells_known ks d) (source_closed c es) = elim d [ ]
    ready_same (cells_known ks d) (names_known f) = elim d [ ]
    ready_same (source_closed c es) (cells_known ks d) = elim d [ ]
    ready_same (source_closed c es) (source_closed c' fs) = ap (λ (l : List Element). Many l ∷ []) (elements_same _ (closed_in c) _ _ es fs)
    ready_same (names_known f) (cells_known ks d) = elim d [ ]
    ready_same (names_known f) (names_known f') = refl

  -- a closed array has no new element
  pub closed_stays : {p : Place} → Closed s K p → (k : Key) (u : Place) (v : Scalar) → K' (element p k u v) → K (element p k u v)
  closed_stays c k u v f = no_more _ (closed_in c) k u v f

  -- so what is closed, live and ready stays so
  pub grows : Grows s K K'
  grows = record { more = g.more; stays = λ a c k u v f. closed_stays c k u v f }

  -- a header that is ready keeps its choice
  pub choice_stays : {path : Path} {h : Action} {vs us : List Value} → Ready s K path h vs → Ready s K' path h us → vs ≡ us
  choice_stays r r' = ready_same r r'
