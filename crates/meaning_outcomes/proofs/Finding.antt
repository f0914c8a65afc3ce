-- The test for blocked statements finds just these.
use Rattle.std.specs.Prelude.{◌≡◌, ℕ, ◌<◌, Bool, true, false, not, ◌&&◌, ◌||◌, List, [], ◌∷◌, length, is_some, Option, Some, None, refl}
use Rattle.std.proofs.Common.{sym, ap, ◌∙◌, subst, inl, inr}
use Rattle.std.proofs.lemmas.Bool.{and_from, or_left}
use Rattle.values.specs.declared.key.Key.{Key}
use Rattle.values.specs.declared.value.Scalar.{Scalar}
use Rattle.values.specs.declared.value.Value.{Value}
use Rattle.values.specs.declared.value.Value.TheVariants.{One, Many}
use Rattle.language.specs.Core.{Core, Name, Cell, Awaited, scalar, array, stmt, Action, declare, call_alone, assign, fill, insert, print, assert, when, choose, range, each, wait, Block}
use Rattle.language.specs.Facts.{Fault, element, fault, Knowledge, IsKey, a_number, a_text}
use Rattle.language.specs.Meaning.{Closed, Come, scalar_known, array_closed, HasValue, LiveStmt, Ready, cells_known, source_closed, names_known}
use Rattle.language.specs.Members.{◌∈◌, first, later}
use Rattle.language.specs.Openings.{Branches}
use Rattle.language.specs.Outcomes.{Counts, OwnFact, Stuck}
use Rattle.language.specs.Parts.{outer_cells, script_stmts}
use Rattle.language.specs.Places.{Path, place}
use Rattle.language.proofs.Members.{split_in}
use Rattle.meaning_steps.specs.Environment.{Sees, Sight}
use Rattle.meaning_steps.specs.News.{Recalls}
use Rattle.meaning_steps.specs.Taken.{Taken, ReadyBy, by_cells, by_source, by_names}
use Rattle.paths.specs.declared.faults.FaultKind.{FaultKind}
use Rattle.paths.specs.declared.faults.FaultKind.TheVariants as Kind
use Rattle.meaning_facts.specs.declared.facts.Place.{Place as Spot}
use Rattle.meaning_facts.specs.declared.fact_base.FactBase.{FactBase}
use Rattle.meaning_cells.specs.Chosen.{chosen_in, has_come_in, have_come_in}
use Rattle.meaning_cells.specs.Ending.{inserted_by}
use Rattle.meaning_facts.specs.Keeping.{all_kinds, fault_at, has_kind, has_some, past_of, some_fault_at, IsLocated}
use Rattle.meaning_facts.specs.Kinds.{kind_view}
use Rattle.meaning_facts.specs.Paths.{path_of, IsTree}
use Rattle.meaning_facts.specs.Sighted.{sight_of}
use Rattle.meaning_facts.specs.Store.{value_at, line_at}
use Rattle.meaning_cells.specs.Taking.{SeesBy}
use Rattle.meaning_facts.proofs.Growing.{both, or_cases, or_right, has_known}
use Rattle.meaning_facts.proofs.Keeping.{by_located}
use Rattle.meaning_cells.proofs.Readying.{chosen_ready, ready_chosen}
use Rattle.meaning_invariants.specs.Held.{Holds}
use Rattle.meaning_invariants.proofs.Fresh.{lined_known, faulted_known}
use Rattle.meaning_invariants.specs.Active.{HasIndexes}
use Rattle.meaning_outcomes.specs.Stuck.{is_truth, has_fact, fails_among, is_stuck_in}

-- WHAT IS SO, AS WHAT IS TAKEN

abbrev so_taken : Core → Knowledge → Taken
so_taken s K = record { live = LiveStmt s K; closed = Closed s K; has = HasValue s K }

sees_so : (s : Core) (K : Knowledge) (path : Path) (g : Sight) → Sees s K path g → SeesBy s K (so_taken s K) path g
sees_so s K path g h = record {
  cell_so = h.cell_so;
  cell_all = h.cell_all;
  closed_so = h.closed_so;
  closed_all = h.closed_all;
  elements_so = h.elements_so;
  elements_all = h.elements_all;
}

ready_so : (s : Core) (K : Knowledge) {path : Path} {a : Action} {vs : List Value} → Branches a → ReadyBy s K (so_taken s K) path a vs → Ready s K path a vs
ready_so s K o (by_cells k d) = cells_known k d
ready_so s K o (by_source c e) = source_closed c e
ready_so s K o (by_names f) = elim o [ ]

ready_by : (s : Core) (K : Knowledge) {path : Path} {a : Action} {vs : List Value} → Branches a → Ready s K path a vs → ReadyBy s K (so_taken s K) path a vs
ready_by s K o (cells_known k d) = by_cells k d
ready_by s K o (source_closed c e) = by_source c e
ready_by s K o (names_known f) = elim o [ ]

-- TESTS

some_of : {X : Type 0} (o : Option X) → is_some o ≡ true → (x : X) × (o ≡ Some x)
some_of (Some x) h = (x, refl)
some_of None h = absurd (cc (h))

truth_so : (o : Option Value) → is_truth o ≡ true → o ≡ Some (One (Scalar.Truth true))
truth_so (Some (One (Scalar.Truth true))) e = refl
truth_so (Some (One (Scalar.Truth false))) e = absurd (cc (e))
truth_so (Some (One (Scalar.Number z))) e = absurd (cc (e))
truth_so (Some (One (Scalar.Text t))) e = absurd (cc (e))
truth_so (Some (Many es)) e = absurd (cc (e))
truth_so None e = absurd (cc (e))

not_so : (b : Bool) → not b ≡ true → b ≡ true → ⊥
not_so true e h = absurd (cc (e))
not_so false e h = absurd (cc (h))

not_of : (b : Bool) → (b ≡ true → ⊥) → not b ≡ true
not_of true f = absurd (f refl)
not_of false f = refl

kind_among : (k : FaultKind) → k ∈ all_kinds
kind_among Kind.Overflow = first
kind_among Kind.DivideByZero = later first
kind_among Kind.NoElement = later (later first)
kind_among Kind.ElementTwice = later (later (later first))
kind_among Kind.BadStep = later (later (later (later first)))
kind_among Kind.TooDeep = later (later (later (later (later first))))
kind_among Kind.NotANumber = later (later (later (later (later (later first)))))
kind_among Kind.AssertFailed = later (later (later (later (later (later (later first))))))

module _ (s : Core) (K : Knowledge) (l : FactBase) (tree : IsTree l.instances) (holds : Holds K l) (i : ℕ) (within : i < length l.instances.all.items) where
  abbrev path : Path
  path = path_of l.instances.all.items i

  abbrev here_at : ℕ → Spot
  here_at n = record { instance = i; node = n }

  located : (n : ℕ) → IsLocated l.instances.all.items (here_at n) (path, n)
  located n = record { within = within; view_is = refl }

  -- FAULTS

  some_kind : (ks : List FaultKind) (at : ℕ) (p : Spot) → has_some l.facts ks at p ≡ true → (k : FaultKind) × (has_kind l.facts (Some k) at p ≡ true)
  some_kind [] at p e = absurd (cc (e))
  some_kind (k ∷ ks) at p e = elim (or_cases (has_kind l.facts (Some k) at p) (has_some l.facts ks at p) e) [ inl h ↦ (k, h) | inr h ↦ some_kind ks at p h ]

  kind_some : (ks : List FaultKind) (at : ℕ) (p : Spot) (k : FaultKind) → k ∈ ks → has_kind l.facts (Some k) at p ≡ true → has_some l.facts ks at p ≡ true
  kind_some [] at p k m e = elim m [ ]
  kind_some (j ∷ ks) at p k m e = elim (split_in m) [
    | inl q ↦ or_left (has_kind l.facts (Some j) at p) (has_some l.facts ks at p) (subst (λ (z : FaultKind). has_kind l.facts (Some z) at p ≡ true) q e)
    | inr r ↦ or_right (has_kind l.facts (Some j) at p) (kind_some ks at p k r e)
  ]

  fault_so : (at n : ℕ) → some_fault_at l.facts at (here_at n) ≡ true → (f : Fault) × K (fault f at (path, n))
  fault_so at n e = let k = some_kind all_kinds at (here_at n) e in (kind_view k.0, holds.fault_so (record { kind = k.0; at = at; place = here_at n }) k.1)

  fault_all : (f : Fault) (at n : ℕ) → K (fault f at (path, n)) → some_fault_at l.facts at (here_at n) ≡ true
  fault_all f at n k =
      let there : fault_at l.facts f at (here_at n) ≡ true = sym (by_located l.instances tree false (fault_at l.facts f at) (here_at n) (path, n) (located n)) ∙ faulted_known s K l tree holds f at (path, n) k in
      let r = has_known l.facts f at (here_at n) there in
      kind_some all_kinds at (here_at n) r.kind (kind_among r.kind) r.known

  among_so : (at : ℕ) (cs : List Cell) → fails_among l i at cs ≡ true → (c : Cell) × (f : Fault) × (c ∈ cs) × K (fault f at (path, c.node))
  among_so at [] e = absurd (cc (e))
  among_so at (c ∷ cs) e = elim (or_cases (some_fault_at l.facts at (here_at c.node)) (fails_among l i at cs) e) [
    | inl h ↦ let r = fault_so at c.node h in (c, r.0, first, r.1)
    | inr h ↦ let r = among_so at cs h in (r.0, r.1, later r.2, r.3)
  ]

  among_all : (at : ℕ) (cs : List Cell) (c : Cell) (f : Fault) → c ∈ cs → K (fault f at (path, c.node)) → fails_among l i at cs ≡ true
  among_all at [] c f m k = elim m [ ]
  among_all at (d ∷ cs) c f m k = elim (split_in m) [
    | inl q ↦ or_left (some_fault_at l.facts at (here_at d.node)) (fails_among l i at cs) (subst (λ (z : Cell). some_fault_at l.facts at (here_at z.node) ≡ true) q (fault_all f at c.node k))
    | inr r ↦ or_right (some_fault_at l.facts at (here_at d.node)) (among_all at cs c f r k)
  ]

  module _ (sees : Sees s K path (sight_of l i)) (recalls : Recalls s K path (past_of l i)) (indexes : HasIndexes s K) where
    -- WAITS

    one_come : (x : Awaited) → has_come_in (sight_of l i) x ≡ true → Come s K path x
    one_come (scalar x) e = let r = some_of ((sight_of l i).scalar x) e in scalar_known (sees.scalar_so x r.0 r.1)
    one_come (array x) e = array_closed (sees.closed_so x e)

    all_come : (ns : List Awaited) → have_come_in (sight_of l i) ns ≡ true → (x : Awaited) → x ∈ ns → Come s K path x
    all_come [] e x m = elim m [ ]
    all_come (y ∷ ns) e x m =
        let b = both (has_come_in (sight_of l i) y) (have_come_in (sight_of l i) ns) e in
        elim (split_in m) [ inl q ↦ subst (Come s K path) (sym q) (one_come y b.0) | inr r ↦ all_come ns b.1 x r ]

    come_one : (x : Awaited) → Come s K path x → has_come_in (sight_of l i) x ≡ true
    come_one (scalar x) (scalar_known {v = v} h) = ap is_some (sees.scalar_all x v h)
    come_one (array x) (array_closed h) = sees.closed_all x h

    come_all : (ns : List Awaited) → ((x : Awaited) → x ∈ ns → Come s K path x) → have_come_in (sight_of l i) ns ≡ true
    come_all [] f = refl
    come_all (y ∷ ns) f = and_from (has_come_in (sight_of l i) y) (have_come_in (sight_of l i) ns) (come_one y (f y first)) (come_all ns (λ x m. f x (later m)))

    names_of : {ns : List Awaited} {b : Block} {vs : List Value} → Ready s K path (wait ns b) vs → (x : Awaited) → x ∈ ns → Come s K path x
    names_of (cells_known k d) = elim d [ ]
    names_of (names_known f) = f

    -- HEADERS

    ready_seen : (a : Action) → Branches a → is_some (chosen_in (sight_of l i) a) ≡ true → (vs : List Value) × Ready s K path a vs
    ready_seen a o e =
        let c = some_of (chosen_in (sight_of l i) a) e in
        let r = chosen_ready s K (so_taken s K) path (sight_of l i) (sees_so s K path (sight_of l i) sees) a c.0 c.1 in
        (r.values, ready_so s K o r.ready)

    seen_ready : (a : Action) (vs : List Value) → Branches a → Ready s K path a vs → is_some (chosen_in (sight_of l i) a) ≡ true
    seen_ready a vs o h = ap is_some (ready_chosen s K (so_taken s K) path (sight_of l i) (sees_so s K path (sight_of l i) sees) a vs o (ready_by s K o h)).chosen_is

    -- ELEMENTS

    inserted_so : (a : Name) (n : ℕ) (o : Option Value) → inserted_by l i a n o ≡ true → (k : Key) × (v : Scalar) × K (element (place s path a) k (path, n) v)
    inserted_so a n (Some (One (Scalar.Number z))) e = let r = recalls.written_so a (Key.Number z) n e in (Key.Number z, r.0, r.1)
    inserted_so a n (Some (One (Scalar.Text t))) e = let r = recalls.written_so a (Key.Text t) n e in (Key.Text t, r.0, r.1)
    inserted_so a n (Some (One (Scalar.Truth b))) e = absurd (cc (e))
    inserted_so a n (Some (Many es)) e = absurd (cc (e))
    inserted_so a n None e = absurd (cc (e))

    inserted_all : (a : Name) (n : ℕ) (u : Value) (k : Key) (v : Scalar) → IsKey u k → K (element (place s path a) k (path, n) v) → inserted_by l i a n (Some u) ≡ true
    inserted_all a n u k v (a_number {z = z}) x = recalls.written_all a (Key.Number z) n v x
    inserted_all a n u k v (a_text {bytes = t}) x = recalls.written_all a (Key.Text t) n v x

    -- OWN FACTS

    fact_so : (n : ℕ) (a : Action) → Counts a → has_fact l i n a ≡ true → OwnFact s K path n a
    fact_so n (declare v) o e = elim o [ ]
    fact_so n (call_alone p ps c) o e = elim o [ ]
    fact_so n (assign x c) o e = let r = some_of (value_at l.facts (here_at c.cell.node)) e in (r.0, sees.cell_so c.cell.node r.0 r.1)
    fact_so n (fill x c) o e = let r = some_of (value_at l.facts (here_at c.cell.node)) e in (r.0, sees.cell_so c.cell.node r.0 r.1)
    fact_so n (insert x k c) o e = inserted_so x n (value_at l.facts (here_at k.cell.node)) e
    fact_so n (print p c) o e = let r = some_of (line_at l.facts (here_at n)) e in (r.0, holds.line_so (here_at n) r.0 r.1)
    fact_so n (assert p c) o e = sees.cell_so c.cell.node (One (Scalar.Truth true)) (truth_so (value_at l.facts (here_at c.cell.node)) e)
    fact_so n (when c b) o e = ready_seen (when c b) tt e
    fact_so n (choose c b d) o e = ready_seen (choose c b d) tt e
    fact_so n (range lo hi st x t b) o e = ready_seen (range lo hi st x t b) tt e
    fact_so n (each x v t b) o e = ready_seen (each x v t b) tt e
    fact_so n (wait ns b) o e = ([], names_known (all_come ns e))

    fact_all : (at n : ℕ) (a : Action) → stmt at n a ∈ script_stmts s → OwnFact s K path n a → has_fact l i n a ≡ true
    fact_all at n (declare v) m h = refl
    fact_all at n (call_alone p ps c) m h = refl
    fact_all at n (assign x c) m h = ap is_some (sees.cell_all c.cell.node h.0 h.1)
    fact_all at n (fill x c) m h = ap is_some (sees.cell_all c.cell.node h.0 h.1)
    fact_all at n (insert x k c) m h =
        let r = indexes.index path at n x k c h.0 h.1 m h.2 in
        ap (inserted_by l i x n) (sees.cell_all k.cell.node r.0 r.1) ∙ inserted_all x n r.0 h.0 h.1 r.2 h.2
    fact_all at n (print p c) m h = sym (by_located l.instances tree false (λ q. is_some (line_at l.facts q)) (here_at n) (path, n) (located n)) ∙ lined_known s K l tree holds (path, n) h.0 h.1
    fact_all at n (assert p c) m h = ap is_truth (sees.cell_all c.cell.node (One (Scalar.Truth true)) h)
    fact_all at n (when c b) m h = seen_ready (when c b) h.0 tt h.1
    fact_all at n (choose c b d) m h = seen_ready (choose c b d) h.0 tt h.1
    fact_all at n (range lo hi st x t b) m h = seen_ready (range lo hi st x t b) h.0 tt h.1
    fact_all at n (each x v t b) m h = seen_ready (each x v t b) h.0 tt h.1
    fact_all at n (wait ns b) m h = come_all ns (names_of h.1)

    counts_of : (n : ℕ) (a : Action) → not (has_fact l i n a) ≡ true → Counts a
    counts_of n (declare v) e = absurd (cc (e))
    counts_of n (call_alone p ps c) e = absurd (cc (e))
    counts_of n (assign x c) e = tt
    counts_of n (fill x c) e = tt
    counts_of n (insert x k c) e = tt
    counts_of n (print p c) e = tt
    counts_of n (assert p c) e = tt
    counts_of n (when c b) e = tt
    counts_of n (choose c b d) e = tt
    counts_of n (range lo hi st x t b) e = tt
    counts_of n (each x v t b) e = tt
    counts_of n (wait ns b) e = tt

    counted_so : (n : ℕ) (a : Action) → Counts a → has_fact l i n a ≡ true → OwnFact s K path n a
    counted_so n a o e = fact_so n a o e

    -- BLOCKED

    pub stuck_so : (at n : ℕ) (a : Action) → stmt at n a ∈ script_stmts s → LiveStmt s K path (stmt at n a) → is_stuck_in l i (stmt at n a) ≡ true → Stuck s K path at n a
    stuck_so at n a m live e =
        let p = both (not (has_fact l i n a)) (not (some_fault_at l.facts at (here_at n)) && not (fails_among l i at (outer_cells a))) e in
        let q = both (not (some_fault_at l.facts at (here_at n))) (not (fails_among l i at (outer_cells a))) p.1 in
        record {
          live = live;
          counts = counts_of n a p.0;
          no_fact = λ h. not_so (has_fact l i n a) p.0 (fact_all at n a m h);
          no_fault = λ f k. not_so (some_fault_at l.facts at (here_at n)) q.0 (fault_all f at n k);
          no_cell_fault = λ c f j k. not_so (fails_among l i at (outer_cells a)) q.1 (among_all at (outer_cells a) c f j k);
        }

    pub stuck_all : (at n : ℕ) (a : Action) → Stuck s K path at n a → is_stuck_in l i (stmt at n a) ≡ true
    stuck_all at n a h =
        and_from (not (has_fact l i n a)) (not (some_fault_at l.facts at (here_at n)) && not (fails_among l i at (outer_cells a)))
        (not_of (has_fact l i n a) (λ e. h.no_fact (counted_so n a h.counts e)))
        (and_from (not (some_fault_at l.facts at (here_at n))) (not (fails_among l i at (outer_cells a)))
        (not_of (some_fault_at l.facts at (here_at n)) (λ e. let r = fault_so at n e in h.no_fault r.0 r.1))
        (not_of (fails_among l i at (outer_cells a)) (λ e. let r = among_so at (outer_cells a) e in h.no_cell_fault r.0 r.1 r.2 r.3)))
