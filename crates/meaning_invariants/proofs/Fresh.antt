-- What is told is not known yet, where what is held is what is known.
use Rattle.std.specs.Prelude.{◌≡◌, ℕ, Bool, true, false, ◌&&◌, List, [], ◌∷◌, ◌++◌, is_some, Option, Some, None, Result, Ok, Err, refl}
use Rattle.std.proofs.Common.{sym, ap, ◌∙◌, subst, inl, inr}
use Rattle.std.proofs.lemmas.Option.{none-some}
use Rattle.values.specs.declared.fault.OpFault.{OpFault}
use Rattle.values.specs.declared.key.Key.{Key}
use Rattle.values.specs.declared.map.Element.{Element}
use Rattle.values.specs.declared.value.Scalar.{Scalar}
use Rattle.values.specs.declared.value.Value.{Value}
use Rattle.values.specs.declared.value.Value.TheVariants.{One, Many}
use Rattle.language.specs.Core.{Core, Name, Cell, Stmt, Action, declare, call_alone, assign, fill, insert, print, assert, when, choose, range, each, wait}
use Rattle.language.specs.Facts.{Fault, operation, element_twice, too_deep, Fact, value, element, line, fault, Knowledge}
use Rattle.language.specs.Members.{◌∈◌}
use Rattle.language.specs.Openings.{bounds}
use Rattle.language.specs.Parts.{stmt_at, stmt_node, stmt_action, stmt_calls, cells, outer_cells}
use Rattle.language.specs.Places.{Path, Place, place}
use Rattle.language.proofs.Members.{split_in, either}
use Rattle.meaning_steps.specs.Kept.{is_there, past_by}
use Rattle.meaning_steps.specs.Environment.{Sight, Sees, Outcome, outcome}
use Rattle.meaning_steps.specs.News.{Past, Recalls, unless, comes, comes_all, cell_by, cell_told, cells_told, assigned_told, element_by, element_told, elements_told, filled_told, inserted_told, printed_told, deep_by, deep_told, bad_by, bad_told, items_told, own_told, count_of, opens_some, some_call, key_in, one_in, text_in, news}
use Rattle.paths.specs.declared.faults.FaultKind.{FaultKind}
use Rattle.paths.specs.declared.faults.FaultKind.TheVariants as Kind
use Rattle.meaning_facts.specs.declared.fact_base.FactBase.{FactBase}
use Rattle.meaning_facts.specs.Keeping.{fault_at, has_kind, kept_of, kind_of}
use Rattle.meaning_facts.specs.Kinds.{kind_view}
use Rattle.meaning_facts.specs.Paths.{IsTree}
use Rattle.meaning_facts.specs.Store.{line_at}
use Rattle.meaning_facts.proofs.Growing.{false_true}
use Rattle.meaning_facts.proofs.Keeping.{by_located}
use Rattle.meaning_invariants.specs.Held.{Holds}

-- all that is known is recalled
pub record RecallsAll (s : Core) (K : Knowledge) (path : Path) (m : Past) : Type 0 where
  pub valued_all : (x : Name) (v : Value) → K (value (place s path x) v) → m.valued x ≡ true
  pub lined_all : (n : ℕ) (bytes : List ℕ) → K (line (path, n) bytes) → m.lined n ≡ true
  pub faulted_all : (f : Fault) (at n : ℕ) → K (fault f at (path, n)) → m.faulted f at n ≡ true

module _ (s : Core) (K : Knowledge) (path : Path) (g : Sight) (m : Past) (sees : Sees s K path g) (recalls : Recalls s K path m) (all : RecallsAll s K path m) where
  -- no fact of a list is known
  abbrev AreFresh : List Fact → Type 0
  AreFresh fs = (f : Fact) → f ∈ fs → K f → ⊥

  none_fresh : AreFresh []
  none_fresh f i k = elim i [ ]

  one_fresh : (x : Fact) → (K x → ⊥) → AreFresh (x ∷ [])
  one_fresh x h f i k = elim (split_in i) [ inl e ↦ h (subst K e k) | inr j ↦ elim j [ ] ]

  both_fresh : (xs ys : List Fact) → AreFresh xs → AreFresh ys → AreFresh (xs ++ ys)
  both_fresh xs ys a b f i k = elim (either xs ys i) [ inl j ↦ a f j k | inr j ↦ b f j k ]

  unless_fresh : (b : Bool) (x : Fact) → (K x → b ≡ true) → AreFresh (unless b x)
  unless_fresh true x h = none_fresh
  unless_fresh false x h = one_fresh x (λ k. false_true (h k))

  fault_fresh : (f : Fault) (at n : ℕ) → AreFresh (unless (m.faulted f at n) (fault f at (path, n)))
  fault_fresh f at n = unless_fresh (m.faulted f at n) (fault f at (path, n)) (all.faulted_all f at n)

  -- CELLS

  cell_fresh : (at n : ℕ) (o : Option Value) (r : Outcome) → g.cell n ≡ o → AreFresh (cell_by m path at n o r)
  cell_fresh at n (Some v) r e = none_fresh
  cell_fresh at n None (Some (Ok v)) e = one_fresh (value (path, n) v) (λ k. none-some v (sym e ∙ sees.cell_all n v k))
  cell_fresh at n None (Some (Err f)) e = fault_fresh f at n
  cell_fresh at n None None e = none_fresh

  cells_fresh : (at : ℕ) (cs : List Cell) → AreFresh (cells_told g m path at cs)
  cells_fresh at [] = none_fresh
  cells_fresh at (c ∷ cs) = both_fresh (cell_told g m path at c) (cells_told g m path at cs) (cell_fresh at c.node (g.cell c.node) (outcome g c.form) refl) (cells_fresh at cs)

  -- WHAT STATEMENTS DO WITH THEM

  assigned_fresh : (x : Name) (o : Option Value) → AreFresh (assigned_told s m path x o)
  assigned_fresh x (Some v) = unless_fresh (m.valued x) (value (place s path x) v) (all.valued_all x v)
  assigned_fresh x None = none_fresh

  write_fresh : (at n : ℕ) (a : Name) (k : Key) (v : Scalar) (b t : Bool) → m.written a k n ≡ b → AreFresh (element_by s m path at n a k v b t)
  write_fresh at n a k v false t e = one_fresh (element (place s path a) k (path, n) v) (λ x. false_true (sym e ∙ recalls.written_all a k n v x))
  write_fresh at n a k v true true e = fault_fresh element_twice at n
  write_fresh at n a k v true false e = none_fresh

  element_fresh : (at n : ℕ) (a : Name) (k : Key) (v : Scalar) → AreFresh (element_told s m path at n a k v)
  element_fresh at n a k v = write_fresh at n a k v (m.written a k n) (m.twice a k) refl

  elements_fresh : (at n : ℕ) (a : Name) (es : List Element) → AreFresh (elements_told s m path at n a es)
  elements_fresh at n a [] = none_fresh
  elements_fresh at n a (e ∷ es) = both_fresh (element_told s m path at n a e.key e.value) (elements_told s m path at n a es) (element_fresh at n a e.key e.value) (elements_fresh at n a es)

  filled_fresh : (at n : ℕ) (a : Name) (o : Option Value) → AreFresh (filled_told s m path at n a o)
  filled_fresh at n a (Some (Many es)) = elements_fresh at n a es
  filled_fresh at n a (Some (One v)) = none_fresh
  filled_fresh at n a None = none_fresh

  inserted_fresh : (at n : ℕ) (a : Name) (k : Option Key) (v : Option Scalar) → AreFresh (inserted_told s m path at n a k v)
  inserted_fresh at n a (Some k) (Some v) = element_fresh at n a k v
  inserted_fresh at n a (Some k) None = none_fresh
  inserted_fresh at n a None v = none_fresh

  printed_fresh : (n : ℕ) (o : Option (List ℕ)) → AreFresh (printed_told m path n o)
  printed_fresh n (Some bytes) = unless_fresh (m.lined n) (line (path, n) bytes) (all.lined_all n bytes)
  printed_fresh n None = none_fresh

  -- HEADERS AND CALLS

  deep_fresh : (at n : ℕ) (b : Bool) → AreFresh (deep_by m path at n b)
  deep_fresh at n true = fault_fresh too_deep at n
  deep_fresh at n false = none_fresh

  header_fresh : (at n : ℕ) (a : Action) (o : Option (List Value)) → AreFresh (deep_told m path at n a o)
  header_fresh at n a (Some vs) = deep_fresh at n (m.deep && opens_some a vs)
  header_fresh at n a None = none_fresh

  bad_count_fresh : (at n : ℕ) (o : Option (Result ℕ OpFault)) → AreFresh (bad_by m path at n o)
  bad_count_fresh at n (Some (Err f)) = fault_fresh (operation f) at n
  bad_count_fresh at n (Some (Ok i)) = none_fresh
  bad_count_fresh at n None = none_fresh

  bad_fresh : (at n : ℕ) (o : Option (List Value)) → AreFresh (bad_told m path at n o)
  bad_fresh at n (Some vs) = bad_count_fresh at n (count_of (bounds vs))
  bad_fresh at n None = none_fresh

  items_fresh : (at n : ℕ) (b : Bool) (a : Action) (es : List Element) → AreFresh (items_told m path at n b a es)
  items_fresh at n true a es = header_fresh at n a (Some (Many es ∷ []))
  items_fresh at n false a es = none_fresh

  own_fresh : (at n : ℕ) (a : Action) → AreFresh (own_told s g m path at n a)
  own_fresh at n (declare v) = none_fresh
  own_fresh at n (call_alone p ps c) = none_fresh
  own_fresh at n (assign x e) = assigned_fresh x (comes g e.cell)
  own_fresh at n (fill a e) = filled_fresh at n a (comes g e.cell)
  own_fresh at n (insert a i e) = inserted_fresh at n a (key_in (comes g i.cell)) (one_in (comes g e.cell))
  own_fresh at n (print p e) = printed_fresh n (text_in (comes g e.cell))
  own_fresh at n (assert p e) = none_fresh
  own_fresh at n (when c b) = header_fresh at n (when c b) (comes_all g (outer_cells (when c b)))
  own_fresh at n (choose c b d) = header_fresh at n (choose c b d) (comes_all g (outer_cells (choose c b d)))
  own_fresh at n (range lo hi st x t b) =
      both_fresh (bad_told m path at n (comes_all g (outer_cells (range lo hi st x t b)))) (deep_told m path at n (range lo hi st x t b) (comes_all g (outer_cells (range lo hi st x t b))))
      (bad_fresh at n (comes_all g (outer_cells (range lo hi st x t b)))) (header_fresh at n (range lo hi st x t b) (comes_all g (outer_cells (range lo hi st x t b))))
  own_fresh at n (each a x t b) = items_fresh at n (g.closed a) (each a x t b) (g.elements a)
  own_fresh at n (wait ns b) = none_fresh

  -- what is told is not known
  pub news_fresh : (st : Stmt) → AreFresh (news s g m path st)
  news_fresh st =
      let calls = deep_by m path (stmt_at st) (stmt_node st) (m.deep && some_call (stmt_calls st)) in
      let own = own_told s g m path (stmt_at st) (stmt_node st) (stmt_action st) in
      both_fresh (cells_told g m path (stmt_at st) (cells st)) (own ++ calls) (cells_fresh (stmt_at st) (cells st))
      (both_fresh own calls (own_fresh (stmt_at st) (stmt_node st) (stmt_action st)) (deep_fresh (stmt_at st) (stmt_node st) (m.deep && some_call (stmt_calls st))))

-- WHAT IS HELD IS RECALLED

kind_known : (k : FaultKind) → kind_of (kind_view k) ≡ Some k
kind_known Kind.Overflow = refl
kind_known Kind.DivideByZero = refl
kind_known Kind.NoElement = refl
kind_known Kind.ElementTwice = refl
kind_known Kind.BadStep = refl
kind_known Kind.TooDeep = refl
kind_known Kind.NotANumber = refl
kind_known Kind.AssertFailed = refl

module _ (s : Core) (K : Knowledge) (l : FactBase) (tree : IsTree l.instances) (holds : Holds K l) where
  pub lined_known : (q : Place) (bytes : List ℕ) → K (line q bytes) → (kept_of l).lined q ≡ true
  lined_known q bytes x =
      let h = holds.line_all q bytes x in
      by_located l.instances tree false (λ p. is_some (line_at l.facts p)) h.writer q h.located ∙ ap is_some h.there

  pub faulted_known : (f : Fault) (at : ℕ) (q : Place) → K (fault f at q) → (kept_of l).faulted f at q ≡ true
  faulted_known f at q x =
      let h = holds.fault_all f at q x in
      let there : fault_at l.facts (kind_view h.held.kind) h.held.at h.held.place ≡ true = ap (λ (z : Option FaultKind). has_kind l.facts z h.held.at h.held.place) (kind_known h.held.kind) ∙ h.there in
      by_located l.instances tree false (fault_at l.facts f at) h.held.place q h.located
      ∙ subst (λ (z : Fault). fault_at l.facts z at h.held.place ≡ true) h.kind_is (subst (λ (z : ℕ). fault_at l.facts (kind_view h.held.kind) z h.held.place ≡ true) h.at_is there)

  pub recalls_all : (path : Path) → RecallsAll s K path (past_by s (kept_of l) path)
  recalls_all path = record {
    valued_all = λ x v k. ap is_there (holds.keeps.value_all (place s path x) v k);
    lined_all = λ n bytes k. lined_known (path, n) bytes k;
    faulted_all = λ f at n k. faulted_known f at (path, n) k;
  }
