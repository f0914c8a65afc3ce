-- Where an item is left in a quiet state, a statement is blocked.
use Rattle.std.proofs.Common.{◌≡◌, ◌⊎◌, inl, inr, ℕ, zero, suc, ◌<◌, Bool, true, false, List, [], ◌∷◌, map, refl, sym, ap, ◌∙◌, subst, Option, None, Some, arith}
use Rattle.std.specs.Prelude.{not, length}
use Rattle.std.specs.List.{flat_map, list_all, list_any}
use Rattle.std.proofs.lemmas.Bool.{or_cases, and_parts}
use Rattle.dataflow.specs.System.{In, Input}
use Rattle.dataflow.specs.Log.{Logged}
use Rattle.dataflow.specs.Machine.{IsKnown}
use Rattle.dataflow.proofs.Follows.{Follows}
use Rattle.dataflow.proofs.Lists.{in_unmap}
use Rattle.dataflow.proofs.Runs.{run_settled}
use Rattle.dataflow.proofs.Settled.{live_valid}
use Rattle.values.specs.declared.key.Key.{Key}
use Rattle.task_code.specs.Code.{Act, Argument, Assert, At, AtKey, Call, Cell, Closed, Code, Copy, Each, Entry, Fill, Fixed, Header, If, Local, Name, Named, Need, Owned, Parameter, Print, InsertElement, Range, Read, Set, Stored, Variable, Wait, Way, argument, arguments, call_at, entry, here, is_array_name, is_array_owned, scalar, targets, targets_of, ways}
use Rattle.task_code.specs.Effects.{Item, Main, Task}
use Rattle.task_code.specs.Exact.{IsExact, Leads, itself, needs_of, through}
use Rattle.task_code.specs.Machine.{CodeItem, CodeLog, CodeState, Quiet}
use Rattle.task_code.specs.Places.{Constant, Datum, Nowhere, Place, Step, place_at, resolve}
use Rattle.task_code.specs.Runs.{Blocked, FirstUnknown, IsBlockedAt, IsHeaderKnown, counts}
use Rattle.task_code.specs.Shape.{fits_kinds, has_headers, has_shape, is_none, is_same_plain}
use Rattle.task_code.specs.System.{code_system, element_input, inputs_at, key_input, scalar_input, task_inputs, task_reads, task_writes, whole_input}
use Rattle.task_code.specs.Whole.{IsCode}
use Rattle.task_code.proofs.Counted.{gather_in}
use Rattle.task_code.proofs.Equal.{every_in, name_sound}
use Rattle.task_code.proofs.Kept.{code_laws}
use Rattle.task_code.proofs.Places.{argued, argument_kind, declared_at, no_longer, not_constant, not_nowhere, only_here, spot_path, spot_variable}
use Rattle.task_code.proofs.Rights.{in_gather}
use Rattle.code_laws.specs.Sources.{CellsFollow, FindsSources, is_cell}
use Rattle.code_laws.proofs.Holders.{HasScalars, IsAwaited, IsScalarOrNone, all_known_is, open_input}
use Rattle.code_laws.proofs.Sourced.{among_in, makes_data, shape, sourced}

pub any_in : {X : Type 0} (f : X → Bool) (xs : List X) → list_any f xs ≡ true → (x : X) × In x xs × (f x ≡ true)
any_in f [] h = absurd (cc)
any_in {X} f (y ∷ ys) h = by (or_cases (f y) (list_any f ys) h) (any_in f ys)
  where
    by : (f y ≡ true) ⊎ (list_any f ys ≡ true) → (list_any f ys ≡ true → (x : X) × In x ys × (f x ≡ true)) → (x : X) × In x (y ∷ ys) × (f x ≡ true)
    by (inl p) r = (y, inl refl, p)
    by (inr q) r = (let x = r q in (x.0, inr x.1, x.2))

plain_is : (n m : Need) → is_same_plain n m ≡ true → n ≡ m
plain_is (Stored r) (Stored s) h = ap Stored (name_sound r s h)
plain_is (Closed r) (Closed s) h = ap Closed (name_sound r s h)
plain_is (Stored r) (Closed s) h = absurd (cc)
plain_is (Stored r) (At a s) h = absurd (cc)
plain_is (Stored r) (AtKey a k) h = absurd (cc)
plain_is (Closed r) (Stored s) h = absurd (cc)
plain_is (Closed r) (At a s) h = absurd (cc)
plain_is (Closed r) (AtKey a k) h = absurd (cc)
plain_is (At a r) m h = absurd (cc)
plain_is (AtKey a k) m h = absurd (cc)

-- what a wait needs, one of its headers does
needs_header : (hs : List Header) (ns : List Need) → has_headers hs ns ≡ true → (n : Need) → In n ns → (h : Header) × In h hs × In n h.needs
needs_header hs ns t n i =
    let x = (and_parts (list_all (λ h. list_all (λ n. list_any (is_same_plain n) ns) h.needs) hs) (list_all (λ n. list_any (λ h. list_any (is_same_plain n) h.needs) hs) ns) t).1 in
    let h = any_in (λ h. list_any (is_same_plain n) h.needs) hs (every_in (λ n. list_any (λ h. list_any (is_same_plain n) h.needs) hs) ns x n i) in
    let m = any_in (is_same_plain n) h.0.needs h.2 in
    (h.0, h.1, subst (λ (k : Need). In k h.0.needs) (sym (plain_is n m.0 m.2)) m.1)

none_is : (ns : List Need) → is_none ns ≡ true → ns ≡ []
none_is [] h = refl
none_is (n ∷ ns) h = absurd (cc)

-- an act counts, is a cell, or needs nothing
kind_is : (a : Act) (ns : List Need) → has_shape a ns ≡ true → (counts a ≡ true) ⊎ ((is_cell a ≡ true) ⊎ (ns ≡ []))
kind_is (Cell e) ns h = inr (inl refl)
kind_is Read ns h = inr (inl refl)
kind_is (Call b rs os) ns h = inr (inr (none_is ns h))
kind_is (Set r e) ns h = inl refl
kind_is (Fill r es) ns h = inl refl
kind_is (Copy r) ns h = inl refl
kind_is (InsertElement r i e) ns h = inl refl
kind_is (Print e) ns h = inl refl
kind_is (Assert e) ns h = inl refl
kind_is (If e b d) ns h = inl refl
kind_is (Range l h' s w) ns h = inl refl
kind_is (Each w) ns h = inl refl
kind_is (Wait hs b) ns h = inl refl

-- a cell stores its own value and opens nothing
cell_targets : (n : ℕ) (a : Act) → is_cell a ≡ true → targets_of n a ≡ here (scalar n) ∷ []
cell_targets n (Cell e) h = refl
cell_targets n Read h = refl
cell_targets n (Call b rs os) h = absurd (cc)
cell_targets n (Set r e) h = absurd (cc)
cell_targets n (Fill r es) h = absurd (cc)
cell_targets n (Copy r) h = absurd (cc)
cell_targets n (InsertElement r i e) h = absurd (cc)
cell_targets n (Print e) h = absurd (cc)
cell_targets n (Assert e) h = absurd (cc)
cell_targets n (If e b d) h = absurd (cc)
cell_targets n (Range l h' s w) h = absurd (cc)
cell_targets n (Each w) h = absurd (cc)
cell_targets n (Wait hs b) h = absurd (cc)

cell_ways : (a : Act) → is_cell a ≡ true → ways a ≡ []
cell_ways (Cell e) h = refl
cell_ways Read h = refl
cell_ways (Call b rs os) h = absurd (cc)
cell_ways (Set r e) h = refl
cell_ways (Fill r es) h = refl
cell_ways (Copy r) h = refl
cell_ways (InsertElement r i e) h = refl
cell_ways (Print e) h = refl
cell_ways (Assert e) h = refl
cell_ways (If e b d) h = absurd (cc)
cell_ways (Range l h' s w) h = absurd (cc)
cell_ways (Each w) h = absurd (cc)
cell_ways (Wait hs b) h = absurd (cc)

by_order : (n m : ℕ) → n < suc m → (n < m) ⊎ (n ≡ m)
by_order n m h = grind arith

module _ (C : Code) where
  -- a cell has no right but for its own use
  cell_leads : (own : Entry → List Name) (i : ℕ) (r : Name) → is_cell (entry C i).act ≡ true → Leads C own i r → In r (own (entry C i))
  cell_leads own i r h (itself _ _ m) = m
  cell_leads own i r h (through _ j b w _ inner iw ij l d s) = absurd (subst (λ (x : List (Way × ℕ)). In (w, b) x) (cell_ways (entry C i).act h) iw)

  -- a scalar's name means a scalar
  scalar_datum : (p : List Step) (up : ℕ) (x : Owned) (q : List Step) (v : Variable) → is_array_owned x ≡ false → resolve C p up x ≡ Datum q v → v.array ≡ false
  scalar_datum [] zero (Local w) q v n h = subst (λ (z : Variable). z.array ≡ false) (spot_variable h) n
  scalar_datum [] zero (Parameter k b) q v n h = absurd (not_nowhere h)
  scalar_datum [] (suc up) x q v n h = absurd (not_nowhere h)
  scalar_datum (s ∷ p) zero (Local w) q v n h = subst (λ (z : Variable). z.array ≡ false) (spot_variable h) n
  scalar_datum (s ∷ p) zero (Parameter k b) q v n h = by (λ r m e. scalar_datum p r.up r.owned q v m e) (argument C s.offset k b) refl h
    where
      by : ((r : Name) → is_array_owned r.owned ≡ false → resolve C p r.up r.owned ≡ Datum q v → v.array ≡ false) → (o : Option Argument) → argument C s.offset k b ≡ o → argued C p o ≡ Datum q v → v.array ≡ false
      by f None e h = absurd (not_nowhere h)
      by f (Some (Fixed c)) e h = absurd (not_constant h)
      by f (Some (Named r)) e h = f r (argument_kind (arguments (entry C (call_at C s.offset)).act) k b r e ∙ n) h
  scalar_datum (s ∷ p) (suc up) x q v n h = scalar_datum p up x q v n h

  -- a datum lies here, or further out
  here_or_out : (p : List Step) (up : ℕ) (x : Owned) (q : List Step) (v : Variable) → resolve C p up x ≡ Datum q v → (q ≡ p) ⊎ (length q < length p)
  here_or_out [] zero (Local w) q v h = inl (sym (spot_path h))
  here_or_out [] zero (Parameter k b) q v h = absurd (not_nowhere h)
  here_or_out [] (suc up) x q v h = absurd (not_nowhere h)
  here_or_out (s ∷ p) zero (Local w) q v h = inl (sym (spot_path h))
  here_or_out (s ∷ p) zero (Parameter k b) q v h = by (argument C s.offset k b) h
    where
      by : (o : Option Argument) → argued C p o ≡ Datum q v → (q ≡ s ∷ p) ⊎ (length q < length (s ∷ p))
      by None h = absurd (not_nowhere h)
      by (Some (Fixed c)) h = absurd (not_constant h)
      by (Some (Named r)) h = (let l = no_longer C p r.up r.owned q v h in inr (omega arith))
  here_or_out (s ∷ p) (suc up) x q v h = (let l = no_longer C p up x q v h in inr (omega arith))

  module _ (I : IsCode C) (F : FindsSources C) where
    scalar_or_none : (a : Place) → ((q : List Step) (v : Variable) → a ≡ Datum q v → v.array ≡ false) → IsScalarOrNone (code_system C) (code_laws C I) (sourced C I F) a
    scalar_or_none (Datum q v) h = inl (h q v refl)
    scalar_or_none (Constant c) h = inr (λ t e o can io id. (let m = makes_data C t e o (Constant c) can io id in not_constant m.2))
    scalar_or_none Nowhere h = inr (λ t e o can io id. (let m = makes_data C t e o Nowhere can io id in not_nowhere m.2))

    abbrev Fits : Input Place Key → Type 0
    Fits i = HasScalars (code_system C) (code_laws C I) (sourced C I F) i

    scalar_fits : (a : Place) → IsScalarOrNone (code_system C) (code_laws C I) (sourced C I F) a → (i : Input Place Key) → In i (scalar_input a) → Fits i
    scalar_fits (Datum q v) h i m = elim m [ inl e ↦ subst (λ (x : Input Place Key). Fits x) (sym e) h | inr z ↦ absurd z ]
    scalar_fits (Constant c) h i m = absurd m
    scalar_fits Nowhere h i m = elim m [ inl e ↦ subst (λ (x : Input Place Key). Fits x) (sym e) h | inr z ↦ absurd z ]

    whole_fits : (a : Place) (i : Input Place Key) → In i (whole_input a) → Fits i
    whole_fits (Datum q v) i m = elim m [ inl e ↦ subst (λ (x : Input Place Key). Fits x) (sym e) tt | inr z ↦ absurd z ]
    whole_fits (Constant c) i m = absurd m
    whole_fits Nowhere i m = elim m [ inl e ↦ subst (λ (x : Input Place Key). Fits x) (sym e) tt | inr z ↦ absurd z ]

    key_fits : (a : Place) (k : Key) (i : Input Place Key) → In i (key_input a k) → Fits i
    key_fits (Datum q v) k i m = elim m [ inl e ↦ subst (λ (x : Input Place Key). Fits x) (sym e) tt | inr z ↦ absurd z ]
    key_fits (Constant c) k i m = absurd m
    key_fits Nowhere k i m = elim m [ inl e ↦ subst (λ (x : Input Place Key). Fits x) (sym e) tt | inr z ↦ absurd z ]

    element_fits : (a d : Place) → IsScalarOrNone (code_system C) (code_laws C I) (sourced C I F) d → (i : Input Place Key) → In i (element_input a d) → Fits i
    element_fits a (Constant c) h i m = key_fits a _ i m
    element_fits (Datum p w) (Datum q v) h i m = elim m [ inl e ↦ subst (λ (x : Input Place Key). Fits x) (sym e) h | inr z ↦ absurd z ]
    element_fits (Datum p w) Nowhere h i m = elim m [ inl e ↦ subst (λ (x : Input Place Key). Fits x) (sym e) h | inr z ↦ absurd z ]
    element_fits (Constant w) (Datum q v) h i m = absurd m
    element_fits (Constant w) Nowhere h i m = absurd m
    element_fits Nowhere (Datum q v) h i m = elim m [ inl e ↦ subst (λ (x : Input Place Key). Fits x) (sym e) h | inr z ↦ absurd z ]
    element_fits Nowhere Nowhere h i m = elim m [ inl e ↦ subst (λ (x : Input Place Key). Fits x) (sym e) h | inr z ↦ absurd z ]

    name_is : (b : Bool) → not b ≡ true → b ≡ false
    name_is true h = absurd (cc)
    name_is false h = refl

    named_scalar : (p : List Step) (r : Name) → not (is_array_name r) ≡ true → IsScalarOrNone (code_system C) (code_laws C I) (sourced C I F) (place_at C p r)
    named_scalar p r h = scalar_or_none (place_at C p r) (λ q v e. scalar_datum p r.up r.owned q v (name_is (is_array_name r) h) e)

    need_fits : (p : List Step) (n : Need) → fits_kinds n ≡ true → (i : Input Place Key) → In i (inputs_at C p n) → Fits i
    need_fits p (Stored r) h i m = scalar_fits (place_at C p r) (named_scalar p r h) i m
    need_fits p (Closed r) h i m = whole_fits (place_at C p r) i m
    need_fits p (At a r) h i m = element_fits (place_at C p a) (place_at C p r) (named_scalar p r (and_parts (is_array_name a) (not (is_array_name r)) h).1) i m
    need_fits p (AtKey a k) h i m = key_fits (place_at C p a) k i m

    fits : (t : Task) (i : Input Place Key) → In i (task_inputs C t) → Fits i
    fits Main i m = absurd m
    fits (Item j p c) i m =
        let n = in_gather C (inputs_at C p) (entry C j).needs i m in
        need_fits p n.0 (every_in fits_kinds (entry C j).needs (and_parts (list_all fits_kinds (entry C j).needs) _ (I.shape j)).0 n.0 n.1) i n.2

    module _ (X : IsExact C) (G : CellsFollow C) (s : CodeState) (log : CodeLog) (f : Follows (code_system C) s log) (quiet : Quiet C s) where
      -- an item of a statement that counts
      record Statement : Type 0 where
        item : CodeItem
        there : In item s.items
        number : ℕ
        path : List Step
        chunk : ℕ
        is : item.task ≡ Item number path chunk
        counted : counts (entry C number).act ≡ true

      abbrev Finds : ℕ → List Step → ℕ → Type 0
      Finds i p c = (j : CodeItem) → In j s.items → j.task ≡ Item i p c → Statement

      -- a cell that is left, nearer to the script or before this one
      record Before (i : ℕ) (p : List Step) : Type 0 where
        item : CodeItem
        there : In item s.items
        number : ℕ
        path : List Step
        chunk : ℕ
        is : item.task ≡ Item number path chunk
        cell : is_cell (entry C number).act ≡ true
        nearer : (length path < length p) ⊎ ((length path ≡ length p) × (number < i))

      -- no item without needs is left
      not_enabled : {B : Type 0} (j : CodeItem) → In j s.items → (i c : ℕ) (p : List Step) → j.task ≡ Item i p c → (entry C i).needs ≡ [] → B
      not_enabled j ij i c p q e = absurd (quiet.none_enabled j ij (λ n m. (let x = subst (λ (t : Task). In n (task_inputs C t)) q m in absurd (subst (λ (ns : List Need). In n (flat_map (inputs_at C p) ns)) e x))))

      -- who may write what a cell waits for
      writer : (i c : ℕ) (p : List Step) → is_cell (entry C i).act ≡ true → (a : Place) → In a (task_reads C (Item i p c)) → (w : IsAwaited (code_system C) s a) → Statement ⊎ Before i p
      writer i c p cell a ra w = by_task w.item.task refl
        where
          r : (r : Name) × In r (entry C i).reads × (place_at C p r ≡ a)
          r = in_unmap (place_at C p) a (entry C i).reads (among_in a (map (place_at C p) (entry C i).reads) ra)

          needed_r : In r.0 (needs_of (entry C i))
          needed_r = cell_leads needs_of i r.0 cell (X.reads i r.0 r.1)

          by_cell : (i' c' : ℕ) (p' : List Step) → w.item.task ≡ Item i' p' c' → is_cell (entry C i').act ≡ true → Before i p
          by_cell i' c' p' q cell' = record { item = w.item; there = w.there; number = i'; path = p'; chunk = c'; is = q; cell = cell'; nearer = nearer (here_or_out p r.0.up r.0.owned p' (scalar (entry C i').node) place) }
            where
              m : (r : Name) × In r (entry C i').writes × (place_at C p' r ≡ a)
              m = in_unmap (place_at C p') a (entry C i').writes (subst (λ (t : Task). In a (task_writes C t)) q w.right)

              own : In m.0 (here (scalar (entry C i').node) ∷ [])
              own = subst (λ (x : List Name). In m.0 x) (cell_targets (entry C i').node (entry C i').act cell') (cell_leads targets i' m.0 cell' (X.writes i' m.0 m.1))

              is_own : m.0 ≡ here (scalar (entry C i').node)
              is_own = elim own [ inl e ↦ e | inr z ↦ absurd z ]

              place : place_at C p r.0 ≡ Datum p' (scalar (entry C i').node)
              place = r.2 ∙ sym m.2 ∙ ap (λ (x : Name). place_at C p' x) is_own ∙ declared_at C p' (scalar (entry C i').node)

              nearer : (p' ≡ p) ⊎ (length p' < length p) → (length p' < length p) ⊎ ((length p' ≡ length p) × (i' < i))
              nearer (inr l) = inl l
              nearer (inl e) =
                  let h : r.0 ≡ here (scalar (entry C i').node) = only_here C p r.0.up r.0.owned (scalar (entry C i').node) (place ∙ ap (λ (x : List Step). Datum x (scalar (entry C i').node)) e) in
                  inr (ap (λ (x : List Step). length x) e, G i i' cell cell' (subst (λ (x : Name). In x (needs_of (entry C i))) h needed_r))

          by_kind : (i' c' : ℕ) (p' : List Step) → w.item.task ≡ Item i' p' c' → (counts (entry C i').act ≡ true) ⊎ ((is_cell (entry C i').act ≡ true) ⊎ ((entry C i').needs ≡ [])) → Statement ⊎ Before i p
          by_kind i' c' p' q (inl k) = inl (record { item = w.item; there = w.there; number = i'; path = p'; chunk = c'; is = q; counted = k })
          by_kind i' c' p' q (inr (inl k)) = inr (by_cell i' c' p' q k)
          by_kind i' c' p' q (inr (inr e)) = not_enabled w.item w.there i' c' p' q e

          by_task : (t : Task) → w.item.task ≡ t → Statement ⊎ Before i p
          by_task Main q = absurd (subst (λ (t : Task). In a (task_writes C t)) q w.right)
          by_task (Item i' p' c') q = by_kind i' c' p' q (kind_is (entry C i').act (entry C i').needs (shape C I F i'))

      -- a cell that is left waits for a statement, or for a cell before it
      cell_waits : (i c : ℕ) (p : List Step) → is_cell (entry C i).act ≡ true → (j : CodeItem) → In j s.items → j.task ≡ Item i p c → Statement ⊎ Before i p
      cell_waits i c p cell j ij q =
          let o = open_input (code_system C) (code_laws C I) (sourced C I F) s log f j ij (λ n m. fits j.task n m) (quiet.none_enabled j ij) in
          let valid = live_valid (code_system C) (code_laws C I) (Logged (code_system C) log) (run_settled (code_system C) (code_laws C I) f.run).0 (f.items.waits j ij).live in
          let ra = (code_laws C I).reads_covered j.task o.0 o.2.0 valid o.1 o.2.1 in
          writer i c p cell o.2.0 (subst (λ (t : Task). In o.2.0 (task_reads C t)) q ra) o.2.2

      abbrev Outer : ℕ → Type 0
      Outer d = (i c : ℕ) (p : List Step) → is_cell (entry C i).act ≡ true → length p < d → Finds i p c

      abbrev Inner : ℕ → ℕ → Type 0
      Inner d n = (i c : ℕ) (p : List Step) → is_cell (entry C i).act ≡ true → length p ≡ d → i < n → Finds i p c

      -- one step back
      step_back : (d n : ℕ) → Outer d → Inner d n → (i : ℕ) (p : List Step) → length p ≡ d → i < suc n → Statement ⊎ Before i p → Statement
      step_back d n outer inner i p e l (inl x) = x
      step_back d n outer inner i p e l (inr b) = at b.nearer
        where
          at : (length b.path < length p) ⊎ ((length b.path ≡ length p) × (b.number < i)) → Statement
          at (inl h) = outer b.number b.chunk b.path b.cell (omega arith) b.item b.there b.is
          at (inr h) = (let same = h.0 in let less = h.1 in inner b.number b.chunk b.path b.cell (omega arith) (omega arith) b.item b.there b.is)

      -- so among cells of one depth
      at_depth : (d : ℕ) → Outer d → (n : ℕ) → Inner d n
      at_depth d outer zero i c p cell e l j ij q = absurd (omega arith)
      at_depth d outer (suc n) i c p cell e l j ij q = step_back d n outer (at_depth d outer n) i p e l (cell_waits i c p cell j ij q)

      by_depth : (d : ℕ) → Outer d → (i c : ℕ) (p : List Step) → is_cell (entry C i).act ≡ true → (length p < d) ⊎ (length p ≡ d) → Finds i p c
      by_depth d outer i c p cell (inl h) j ij q = outer i c p cell h j ij q
      by_depth d outer i c p cell (inr h) j ij q = at_depth d outer (suc i) i c p cell h (omega arith) j ij q

      to_depth : (d : ℕ) → Outer d
      to_depth zero i c p cell l j ij q = absurd (omega arith)
      to_depth (suc d) i c p cell l j ij q = by_depth d (to_depth d) i c p cell (by_order (length p) d l) j ij q

      statement_left : (j : CodeItem) → In j s.items → Statement
      statement_left j ij = by_task j.task refl
        where
          by_kind : (i c : ℕ) (p : List Step) → j.task ≡ Item i p c → (counts (entry C i).act ≡ true) ⊎ ((is_cell (entry C i).act ≡ true) ⊎ ((entry C i).needs ≡ [])) → Statement
          by_kind i c p q (inl k) = record { item = j; there = ij; number = i; path = p; chunk = c; is = q; counted = k }
          by_kind i c p q (inr (inl k)) = to_depth (suc (length p)) i c p k (omega arith) j ij q
          by_kind i c p q (inr (inr e)) = not_enabled j ij i c p q e

          by_task : (t : Task) → j.task ≡ t → Statement
          by_task Main q = absurd (quiet.none_enabled j ij (λ n m. absurd (subst (λ (t : Task). In n (task_inputs C t)) q m)))
          by_task (Item i p c) q = by_kind i c p q (kind_is (entry C i).act (entry C i).needs (shape C I F i))

      -- where it is blocked
      header_is : (p : List Step) (h : Header) → IsHeaderKnown C (IsKnown (code_system C) s) p h ⊎ (IsHeaderKnown C (IsKnown (code_system C) s) p h → ⊥)
      header_is p h = by (all_known_is (code_system C) (code_laws C I) (sourced C I F) s log f (flat_map (inputs_at C p) h.needs))
        where
          by : (((n : Input Place Key) → In n (flat_map (inputs_at C p) h.needs) → IsKnown (code_system C) s n) ⊎ ((n : Input Place Key) × In n (flat_map (inputs_at C p) h.needs) × (IsKnown (code_system C) s n → ⊥))) → IsHeaderKnown C (IsKnown (code_system C) s) p h ⊎ (IsHeaderKnown C (IsKnown (code_system C) s) p h → ⊥)
          by (inl all) = inl (λ n i a b. all i (gather_in (inputs_at C p) h.needs n i a b))
          by (inr u) = inr (λ k. (let g = in_gather C (inputs_at C p) h.needs u.0 u.1 in u.2 (k g.0 u.0 g.1 g.2)))

      first_unknown : (p : List Step) (hs : List Header) → (h : Header) → In h hs → (IsHeaderKnown C (IsKnown (code_system C) s) p h → ⊥) → (at : ℕ) × FirstUnknown C (IsKnown (code_system C) s) p hs at
      first_unknown p [] h i n = absurd i
      first_unknown p (x ∷ hs) h i n = by (header_is p x) (λ j. first_unknown p hs h j n)
        where
          by : (IsHeaderKnown C (IsKnown (code_system C) s) p x ⊎ (IsHeaderKnown C (IsKnown (code_system C) s) p x → ⊥)) → (In h hs → (at : ℕ) × FirstUnknown C (IsKnown (code_system C) s) p hs at) → (at : ℕ) × FirstUnknown C (IsKnown (code_system C) s) p (x ∷ hs) at
          by (inr m) r = (x.at, inl (m, refl))
          by (inl k) r =
              elim i [
                | inl e ↦ absurd (n (subst (λ (y : Header). IsHeaderKnown C (IsKnown (code_system C) s) p y) (sym e) k))
                | inr j ↦ (let y = r j in (y.0, inr (k, y.1)))
              ]

      stands : (p : List Step) (a : Act) (ns : List Need) (own : ℕ) → has_shape a ns ≡ true → (n : Input Place Key) → In n (flat_map (inputs_at C p) ns) → (IsKnown (code_system C) s n → ⊥) → (at : ℕ) × IsBlockedAt C (IsKnown (code_system C) s) p a own at
      stands p (Wait hs b) ns own sh n m u =
          let g = in_gather C (inputs_at C p) ns n m in
          let h = needs_header hs ns sh g.0 g.1 in
          first_unknown p hs h.0 h.1 (λ k. u (k g.0 n h.2 g.2))
      stands p (Cell e) ns own sh n m u = (own, refl)
      stands p Read ns own sh n m u = (own, refl)
      stands p (Call b rs os) ns own sh n m u = (own, refl)
      stands p (Set r e) ns own sh n m u = (own, refl)
      stands p (Fill r es) ns own sh n m u = (own, refl)
      stands p (Copy r) ns own sh n m u = (own, refl)
      stands p (InsertElement r i e) ns own sh n m u = (own, refl)
      stands p (Print e) ns own sh n m u = (own, refl)
      stands p (Assert e) ns own sh n m u = (own, refl)
      stands p (If e b d) ns own sh n m u = (own, refl)
      stands p (Range l h st w) ns own sh n m u = (own, refl)
      stands p (Each w) ns own sh n m u = (own, refl)

      is_blocked : Statement → (at : ℕ) × (path : List Step) × Blocked C s at path
      is_blocked x = by (all_known_is (code_system C) (code_laws C I) (sourced C I F) s log f (task_inputs C (Item x.number x.path x.chunk)))
        where
          by : (((n : Input Place Key) → In n (task_inputs C (Item x.number x.path x.chunk)) → IsKnown (code_system C) s n) ⊎ ((n : Input Place Key) × In n (task_inputs C (Item x.number x.path x.chunk)) × (IsKnown (code_system C) s n → ⊥))) → (at : ℕ) × (path : List Step) × Blocked C s at path
          by (inl all) = absurd (quiet.none_enabled x.item x.there (λ n m. all n (subst (λ (t : Task). In n (task_inputs C t)) x.is m)))
          by (inr u) =
              let at = stands x.path (entry C x.number).act (entry C x.number).needs (entry C x.number).at (shape C I F x.number) u.0 u.1 u.2 in
              (at.0, x.path, record { item = x.item; there = x.there; number = x.number; chunk = x.chunk; is = x.is; counted = x.counted; stands = at.1 })

      pub blocked_left : (j : CodeItem) → In j s.items → (at : ℕ) × (path : List Step) × Blocked C s at path
      blocked_left j ij = is_blocked (statement_left j ij)

      pub none_left : ((at : ℕ) (path : List Step) → Blocked C s at path → ⊥) → s.items ≡ []
      none_left none = by s.items refl
        where
          by : (items : List CodeItem) → s.items ≡ items → s.items ≡ []
          by [] e = e
          by (j ∷ items) e = (let x = blocked_left j (subst (λ (l : List CodeItem). In j l) (sym e) (inl refl)) in absurd (none x.0 x.1 x.2))
