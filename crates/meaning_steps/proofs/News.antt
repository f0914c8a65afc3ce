-- What a round tells of the live statements is just what is new.
use Rattle.std.specs.Prelude.{◌≡◌, ◌≢◌, ◌⊎◌, ℕ, zero, suc, ◌<◌, ℤ, pos, Bool, true, false, ◌&&◌, List, [], ◌∷◌, ◌++◌, map, length, Option, Some, None, Result, Ok, Err, refl}
use Rattle.std.proofs.Common.{inl, inr, sym, ap, ◌∙◌, subst, arith}
use Rattle.std.proofs.lemmas.Bool.{and_from}
use Rattle.std.proofs.lemmas.Option.{same_Some}
use Rattle.values.specs.declared.fault.OpFault.{OpFault}
use Rattle.values.specs.declared.key.Key.{Key}
use Rattle.values.specs.declared.map.Element.{Element}
use Rattle.values.specs.declared.value.Scalar.{Scalar}
use Rattle.values.specs.declared.value.Value.{Value}
use Rattle.values.specs.declared.value.Value.TheVariants.{One, Many}
use Rattle.values.specs.Maps.{element as entry}
use Rattle.values.specs.Ranges.{range_count}
use Rattle.language.specs.Core.{Name, Cell, Call, Part, inner, calls, Outer, Stmt, stmt, Action, declare, call_alone, assign, fill, insert, print, assert, when, choose, range, each, wait, Block, Core}
use Rattle.language.specs.Facts.{Fault, operation, element_twice, too_deep, Fact, value, element, line, fault, Knowledge, IsKey, a_number, a_text, KnownAll, no_cell, next_cell}
use Rattle.language.specs.Meaning.{Ready, cells_known, source_closed, names_known, Gives, Comes, before, now, ComeAll, none_comes, next_comes, LiveStmt, New, cell_value, cell_fault, assigned, filled, inserted, printed, bad_range, too_deep_header, too_deep_call, written_twice}
use Rattle.language.specs.Members.{◌∈◌, first, later}
use Rattle.language.specs.Openings.{Bounds, bounds, Opens, then_alone, then_first, else_second, turn, item}
use Rattle.language.specs.Parts.{stmt_at, stmt_node, stmt_calls, cells, outers, outer_cells, outer_parts, part_cells}
use Rattle.language.specs.Places.{Path, Place, place, max_path_steps}
use Rattle.language.proofs.Members.{split_in, to_left, to_right, either}
use Rattle.meaning_steps.specs.Environment.{Sight, Sees, Outcome, outcome}
use Rattle.meaning_steps.specs.News.{Past, Recalls, unless, come_by, comes, cell_by, cell_told, cells_told, assigned_told, element_by, element_told, elements_told, filled_told, key_in, one_in, inserted_told, text_in, printed_told, with_value, comes_all, count_of, positive, some_turn, some_item, branch_by, items_by, opens_some, deep_by, deep_told, bad_by, bad_told, items_told, own_told, some_call, news, Wrote, by_fill, by_insert, Writer, IsSteady, ToldOf}
use Rattle.meaning_steps.proofs.Sights.{outcome_so, outcome_is}

-- LISTS AND TESTS

ok_values : {v u : Value} → ◌≡◌ {A = Result Value Fault} (Ok v) (Ok u) → v ≡ u
ok_values h = cc

both_true : (a b : Bool) → a && b ≡ true → (a ≡ true) × (b ≡ true)
both_true true b h = (refl, h)
both_true false b h = absurd (cc (h))

unless_in : (b : Bool) (f x : Fact) → x ∈ unless b f → x ≡ f
unless_in true f x i = elim i [ ]
unless_in false f x i = elim (split_in i) [ inl e ↦ e | inr j ↦ elim j [ ] ]

only_in : {f x : Fact} → x ∈ (f ∷ []) → x ≡ f
only_in i = elim (split_in i) [ inl e ↦ e | inr j ↦ elim j [ ] ]

part_right : (ps qs : List Part) (c : Cell) → c ∈ part_cells qs → c ∈ part_cells (ps ++ qs)
part_right [] qs c i = i
part_right (inner d ∷ ps) qs c i = later (part_right ps qs c i)
part_right (calls d ∷ ps) qs c i = part_right ps qs c i

outers_in : (os : List Outer) (c : Cell) → c ∈ map (λ o. o.cell) os → c ∈ part_cells (outer_parts os)
outers_in [] c i = elim i [ ]
outers_in (o ∷ os) c i = by (split_in i) (λ j. outers_in os c j)
  where
    by : (c ≡ o.cell) ⊎ (c ∈ map (λ o. o.cell) os) → (c ∈ map (λ o. o.cell) os → c ∈ part_cells (outer_parts os)) → c ∈ part_cells (o.parts ++ inner o.cell ∷ outer_parts os)
    by (inl e) f = part_right o.parts (inner o.cell ∷ outer_parts os) c (subst (λ (z : Cell). z ∈ (o.cell ∷ part_cells (outer_parts os))) (sym e) first)
    by (inr j) f = part_right o.parts (inner o.cell ∷ outer_parts os) c (later (f j))

-- the outermost cells are cells of the statement
outermost : (at n : ℕ) (a : Action) (c : Cell) → c ∈ outer_cells a → c ∈ cells (stmt at n a)
outermost at n (call_alone p ps d) c i = elim i [ ]
outermost at n (declare v) c i = elim i [ ]
outermost at n (assign x e) c i = outers_in (outers (assign x e)) c i
outermost at n (fill a e) c i = outers_in (outers (fill a e)) c i
outermost at n (insert a k e) c i = outers_in (outers (insert a k e)) c i
outermost at n (print p e) c i = outers_in (outers (print p e)) c i
outermost at n (assert p e) c i = outers_in (outers (assert p e)) c i
outermost at n (when e b) c i = outers_in (outers (when e b)) c i
outermost at n (choose e b d) c i = outers_in (outers (choose e b d)) c i
outermost at n (range lo hi st v k b) c i = outers_in (outers (range lo hi st v k b)) c i
outermost at n (each a v k b) c i = elim i [ ]
outermost at n (wait ns b) c i = elim i [ ]

call_some : {c : Call} {cs : List Call} → c ∈ cs → some_call cs ≡ true
call_some first = refl
call_some (later i) = refl

some_there : (cs : List Call) → some_call cs ≡ true → (c : Call) × (c ∈ cs)
some_there [] h = absurd (cc (h))
some_there (c ∷ cs) h = (c, first)

-- HEADERS THAT OPEN SOMETHING

branch_cases : (vs : List Value) (other : Bool) → branch_by vs other ≡ true → (vs ≡ One (Scalar.Truth true) ∷ []) ⊎ ((vs ≡ One (Scalar.Truth false) ∷ []) × (other ≡ true))
branch_cases (One (Scalar.Truth true) ∷ []) other h = inl refl
branch_cases (One (Scalar.Truth false) ∷ []) other h = inr (refl, h)
branch_cases _ other h = absurd (cc (h))

item_cases : (vs : List Value) → items_by vs ≡ true → (es : List Element) × (vs ≡ Many es ∷ []) × (some_item es ≡ true)
item_cases (Many es ∷ []) h = (es, refl, h)
item_cases _ h = absurd (cc (h))

first_item : (es : List Element) → some_item es ≡ true → (e : Element) × (e ∈ es)
first_item [] h = absurd (cc (h))
first_item (e ∷ es) h = (e, first)

item_some : {e : Element} {es : List Element} → e ∈ es → some_item es ≡ true
item_some first = refl
item_some (later i) = refl

positive_less : (n : ℕ) → positive n ≡ true → 0 < n
positive_less zero h = absurd (cc (h))
positive_less (suc n) h = omega arith

less_positive : (i n : ℕ) → i < n → positive n ≡ true
less_positive i zero h = absurd (omega arith)
less_positive i (suc n) h = refl

-- a header opens some block
Opened : Action → List Value → Type 0
Opened a vs = (k : Key) × (b : Block) × Opens a vs k b

turn_there : (lo hi : Outer) (st : Option Outer) (x : ℕ) (t : Option ℕ) (b : Block) (vs : List Value) (o : Option Bounds) → bounds vs ≡ o → some_turn (count_of o) ≡ true
    → (k : Key) × (d : Block) × Opens (range lo hi st x t b) vs k d
turn_there lo hi st x t b vs None e h = absurd (cc (h))
turn_there lo hi st x t b vs (Some r) e h = by (range_count r.low r.high r.step) refl h
  where
    by : (c : Result ℕ OpFault) → range_count r.low r.high r.step ≡ c → some_turn (Some c) ≡ true → (k : Key) × (d : Block) × Opens (range lo hi st x t b) vs k d
    by (Ok n) q l = (Key.Number (pos 0), b, turn e q (positive_less n l))
    by (Err f) q l = absurd (cc (l))

opens_there : (a : Action) (vs : List Value) → opens_some a vs ≡ true → (k : Key) × (b : Block) × Opens a vs k b
opens_there (when c b) vs h = elim (branch_cases vs false h) [
  | inl e ↦ (Key.Number (pos 0), b, subst (λ (z : List Value). Opens (when c b) z (Key.Number (pos 0)) b) (sym e) then_alone)
  | inr q ↦ absurd (cc (q.1))
]
opens_there (choose c b d) vs h = elim (branch_cases vs true h) [
  | inl e ↦ (Key.Number (pos 0), b, subst (λ (z : List Value). Opens (choose c b d) z (Key.Number (pos 0)) b) (sym e) then_first)
  | inr q ↦ (Key.Number (pos 1), d, subst (λ (z : List Value). Opens (choose c b d) z (Key.Number (pos 1)) d) (sym q.0) else_second)
]
opens_there (range lo hi st x t b) vs h = turn_there lo hi st x t b vs (bounds vs) refl h
opens_there (each a x t b) vs h =
    let q = item_cases vs h in
    let e = first_item q.0 q.2 in
    (e.0.key, b, subst (λ (z : List Value). Opens (each a x t b) z e.0.key b) (sym q.1) (item e.1))
opens_there (declare v) vs h = absurd (cc (h))
opens_there (call_alone p ps c) vs h = absurd (cc (h))
opens_there (assign x e) vs h = absurd (cc (h))
opens_there (fill a e) vs h = absurd (cc (h))
opens_there (insert a k e) vs h = absurd (cc (h))
opens_there (print p e) vs h = absurd (cc (h))
opens_there (assert p e) vs h = absurd (cc (h))
opens_there (wait ns b) vs h = absurd (cc (h))

opens_found : {a : Action} {vs : List Value} {k : Key} {b : Block} → Opens a vs k b → opens_some a vs ≡ true
opens_found then_alone = refl
opens_found then_first = refl
opens_found else_second = refl
opens_found (turn {n = n} {i = i} e q l) = ap (λ (z : Option Bounds). some_turn (count_of z)) e ∙ ap (λ (z : Result ℕ OpFault). some_turn (Some z)) q ∙ less_positive i n l
opens_found (item i) = item_some i

-- VALUES OF A KIND

key_there : (o : Option Value) (k : Key) → key_in o ≡ Some k → (u : Value) × (o ≡ Some u) × IsKey u k
key_there (Some (One (Scalar.Number z))) k h = (One (Scalar.Number z), refl, subst (λ (j : Key). IsKey (One (Scalar.Number z)) j) (same_Some _ _ h) a_number)
key_there (Some (One (Scalar.Text t))) k h = (One (Scalar.Text t), refl, subst (λ (j : Key). IsKey (One (Scalar.Text t)) j) (same_Some _ _ h) a_text)
key_there (Some (One (Scalar.Truth t))) k h = absurd (cc (h))
key_there (Some (Many es)) k h = absurd (cc (h))
key_there None k h = absurd (cc (h))

key_found : {u : Value} {k : Key} → IsKey u k → key_in (Some u) ≡ Some k
key_found a_number = refl
key_found a_text = refl

one_there : (o : Option Value) (v : Scalar) → one_in o ≡ Some v → o ≡ Some (One v)
one_there (Some (One u)) v h = ap (λ (z : Scalar). Some (One z)) (same_Some _ _ h)
one_there (Some (Many es)) v h = absurd (cc (h))
one_there None v h = absurd (cc (h))

text_there : (o : Option Value) (bytes : List ℕ) → text_in o ≡ Some bytes → o ≡ Some (One (Scalar.Text bytes))
text_there (Some (One (Scalar.Text t))) bytes h = ap (λ (z : List ℕ). Some (One (Scalar.Text z))) (same_Some _ _ h)
text_there (Some (One (Scalar.Number z))) bytes h = absurd (cc (h))
text_there (Some (One (Scalar.Truth t))) bytes h = absurd (cc (h))
text_there (Some (Many es)) bytes h = absurd (cc (h))
text_there None bytes h = absurd (cc (h))

module _ (s : Core) (K : Knowledge) (path : Path) (g : Sight) (m : Past) (h : Sees s K path g) (r : Recalls s K path m) where
  -- CELLS, SOUND

  come_so : (c : Cell) (v : Value) (o : Option Value) (x : Outcome) → g.cell c.node ≡ o → outcome g c.form ≡ x → come_by o x ≡ Some v → Comes s K path c v
  come_so c v (Some u) x e d q = before (subst (λ (z : Value). K (value (path, c.node) z)) (same_Some _ _ q) (h.cell_so c.node u e))
  come_so c v None (Some (Ok u)) e d q = now (subst (λ (z : Value). Gives s K path c.form (Ok z)) (same_Some _ _ q) (outcome_so s K path g h c.form (Ok u) d))
  come_so c v None (Some (Err f)) e d q = absurd (cc (q))
  come_so c v None None e d q = absurd (cc (q))

  comes_so : (c : Cell) (v : Value) → comes g c ≡ Some v → Comes s K path c v
  comes_so c v q = come_so c v (g.cell c.node) (outcome g c.form) refl refl q

  comes_all_so : (cs : List Cell) (vs : List Value) → comes_all g cs ≡ Some vs → ComeAll s K path cs vs
  comes_all_so [] vs q = subst (λ (z : List Value). ComeAll s K path [] z) (same_Some _ _ q) none_comes
  comes_all_so (c ∷ cs) vs q = by (comes g c) (comes_all g cs) refl q (λ us e. comes_all_so cs us e)
    where
      by : (o : Option Value) (os : Option (List Value)) → comes g c ≡ o → with_value o os ≡ Some vs → ((us : List Value) → os ≡ Some us → ComeAll s K path cs us) → ComeAll s K path (c ∷ cs) vs
      by (Some v) (Some us) e p f = subst (λ (z : List Value). ComeAll s K path (c ∷ cs) z) (same_Some _ _ p) (next_comes (comes_so c v e) (f us refl))
      by (Some v) None e p f = absurd (cc (p))
      by None os e p f = absurd (cc (p))

  cell_so : (st : Stmt) (c : Cell) (f : Fact) (o : Option Value) (x : Outcome) → LiveStmt s K path st → c ∈ cells st → outcome g c.form ≡ x
      → f ∈ cell_by m path (stmt_at st) c.node o x → New s K f
  cell_so st c f (Some v) x l j d i = elim i [ ]
  cell_so st c f None (Some (Ok v)) l j d i = subst (New s K) (sym (only_in i)) (cell_value l j (outcome_so s K path g h c.form (Ok v) d))
  cell_so st c f None (Some (Err e)) l j d i =
      subst (New s K) (sym (unless_in (m.faulted e (stmt_at st) c.node) (fault e (stmt_at st) (path, c.node)) f i)) (cell_fault l j (outcome_so s K path g h c.form (Err e) d))
  cell_so st c f None None l j d i = elim i [ ]

  cells_so : (st : Stmt) (cs : List Cell) (f : Fact) → LiveStmt s K path st → ((c : Cell) → c ∈ cs → c ∈ cells st) → f ∈ cells_told g m path (stmt_at st) cs → New s K f
  cells_so st [] f l all i = elim i [ ]
  cells_so st (c ∷ cs) f l all i = elim (either (cell_told g m path (stmt_at st) c) (cells_told g m path (stmt_at st) cs) i) [
    | inl j ↦ cell_so st c f (g.cell c.node) (outcome g c.form) l (all c first) refl j
    | inr j ↦ cells_so st cs f l (λ d k. all d (later k)) j
  ]

  -- WRITES, SOUND

  element_so : (st : Stmt) (a : Name) (k : Key) (v : Scalar) (f : Fact) (w t : Bool) → LiveStmt s K path st → m.written a k (stmt_node st) ≡ w → m.twice a k ≡ t
      → New s K (element (place s path a) k (path, stmt_node st) v) → f ∈ element_by s m path (stmt_at st) (stmt_node st) a k v w t → New s K f
  element_so st a k v f false t l e d x i = subst (New s K) (sym (only_in i)) x
  element_so st a k v f true false l e d x i = elim i [ ]
  element_so st a k v f true true l e d x i =
      let p = r.written_so a k (stmt_node st) e in
      let q = r.twice_so a k (stmt_node st) d in
      subst (New s K) (sym (unless_in (m.faulted element_twice (stmt_at st) (stmt_node st)) (fault element_twice (stmt_at st) (path, stmt_node st)) f i))
      (written_twice l p.1 q.2 q.3)

  elements_so : (at n : ℕ) (a : Name) (c : Outer) (es us : List Element) (f : Fact) → LiveStmt s K path (stmt at n (fill a c)) → Comes s K path c.cell (Many es)
      → ((e : Element) → e ∈ us → e ∈ es) → f ∈ elements_told s m path at n a us → New s K f
  elements_so at n a c es [] f l x all i = elim i [ ]
  elements_so at n a c es (u ∷ us) f l x all i = elim (either (element_told s m path at n a u.key u.value) (elements_told s m path at n a us) i) [
    | inl j ↦ element_so (stmt at n (fill a c)) a u.key u.value f (m.written a u.key n) (m.twice a u.key) l refl refl (filled l x (all u first)) j
    | inr j ↦ elements_so at n a c es us f l x (λ d k. all d (later k)) j
  ]

  -- HEADERS, SOUND

  deep_in : (at n : ℕ) (f : Fact) (b : Bool) → (b ≡ true → New s K (fault too_deep at (path, n))) → f ∈ deep_by m path at n b → New s K f
  deep_in at n f true x i = subst (New s K) (sym (unless_in (m.faulted too_deep at n) (fault too_deep at (path, n)) f i)) (x refl)
  deep_in at n f false x i = elim i [ ]

  header_deep : (at n : ℕ) (a : Action) (vs : List Value) → LiveStmt s K path (stmt at n a) → ComeAll s K path (outer_cells a) vs ⊎ Ready s K path a vs
      → m.deep && opens_some a vs ≡ true → New s K (fault too_deep at (path, n))
  header_deep at n a vs l x q =
      let p = both_true m.deep (opens_some a vs) q in
      let o = opens_there a vs p.1 in
      too_deep_header l x o.2 (r.deep_so p.0)

  cells_deep : (at n : ℕ) (a : Action) (f : Fact) (o : Option (List Value)) → LiveStmt s K path (stmt at n a) → comes_all g (outer_cells a) ≡ o
      → f ∈ deep_told m path at n a o → New s K f
  cells_deep at n a f (Some vs) l e i = deep_in at n f (m.deep && opens_some a vs) (λ q. header_deep at n a vs l (inl (comes_all_so (outer_cells a) vs e)) q) i
  cells_deep at n a f None l e i = elim i [ ]

  bad_in : (at n : ℕ) (f : Fact) (o : Option (Result ℕ OpFault)) → ((x : OpFault) → o ≡ Some (Err x) → New s K (fault (operation x) at (path, n))) → f ∈ bad_by m path at n o → New s K f
  bad_in at n f (Some (Err x)) y i = subst (New s K) (sym (unless_in (m.faulted (operation x) at n) (fault (operation x) at (path, n)) f i)) (y x refl)
  bad_in at n f (Some (Ok c)) y i = elim i [ ]
  bad_in at n f None y i = elim i [ ]

  bounds_bad : (at n x : ℕ) (lo hi : Outer) (st : Option Outer) (t : Option ℕ) (b : Block) (vs : List Value) (e : OpFault) (o : Option Bounds) → bounds vs ≡ o → count_of o ≡ Some (Err e)
      → LiveStmt s K path (stmt at n (range lo hi st x t b)) → ComeAll s K path (outer_cells (range lo hi st x t b)) vs → New s K (fault (operation e) at (path, n))
  bounds_bad at n x lo hi st t b vs e (Some z) d q l y = bad_range l y d (same_Some _ _ q)
  bounds_bad at n x lo hi st t b vs e None d q l y = absurd (cc (q))

  range_bad : (at n x : ℕ) (lo hi : Outer) (st : Option Outer) (t : Option ℕ) (b : Block) (f : Fact) (o : Option (List Value)) → LiveStmt s K path (stmt at n (range lo hi st x t b))
      → comes_all g (outer_cells (range lo hi st x t b)) ≡ o → f ∈ bad_told m path at n o → New s K f
  range_bad at n x lo hi st t b f (Some vs) l e i =
      bad_in at n f (count_of (bounds vs)) (λ z q. bounds_bad at n x lo hi st t b vs z (bounds vs) refl q l (comes_all_so (outer_cells (range lo hi st x t b)) vs e)) i
  range_bad at n x lo hi st t b f None l e i = elim i [ ]

  items_deep : (at n : ℕ) (a : Name) (x : ℕ) (t : Option ℕ) (b : Block) (f : Fact) (c : Bool) → LiveStmt s K path (stmt at n (each a x t b)) → g.closed a ≡ c
      → f ∈ items_told m path at n c (each a x t b) (g.elements a) → New s K f
  items_deep at n a x t b f true l e i =
      let z = h.closed_so a e in
      deep_in at n f (m.deep && opens_some (each a x t b) (Many (g.elements a) ∷ [])) (λ q. header_deep at n (each a x t b) (Many (g.elements a) ∷ []) l (inr (source_closed z (h.elements_so a z))) q) i
  items_deep at n a x t b f false l e i = elim i [ ]

  -- STATEMENTS, SOUND

  assigned_so : (at n : ℕ) (x : Name) (c : Outer) (f : Fact) (o : Option Value) → LiveStmt s K path (stmt at n (assign x c)) → comes g c.cell ≡ o → f ∈ assigned_told s m path x o → New s K f
  assigned_so at n x c f (Some v) l e i = subst (New s K) (sym (unless_in (m.valued x) (value (place s path x) v) f i)) (assigned l (comes_so c.cell v e))
  assigned_so at n x c f None l e i = elim i [ ]

  filled_so : (at n : ℕ) (a : Name) (c : Outer) (f : Fact) (o : Option Value) → LiveStmt s K path (stmt at n (fill a c)) → comes g c.cell ≡ o → f ∈ filled_told s m path at n a o → New s K f
  filled_so at n a c f (Some (Many es)) l e i = elements_so at n a c es es f l (comes_so c.cell (Many es) e) (λ d k. k) i
  filled_so at n a c f (Some (One v)) l e i = elim i [ ]
  filled_so at n a c f None l e i = elim i [ ]

  inserted_so : (at n : ℕ) (a : Name) (j c : Outer) (f : Fact) (p : Option Key) (o : Option Scalar) → LiveStmt s K path (stmt at n (insert a j c)) → key_in (comes g j.cell) ≡ p → one_in (comes g c.cell) ≡ o
      → f ∈ inserted_told s m path at n a p o → New s K f
  inserted_so at n a j c f (Some k) (Some v) l e d i =
      let u = key_there (comes g j.cell) k e in
      element_so (stmt at n (insert a j c)) a k v f (m.written a k n) (m.twice a k) l refl refl
      (inserted l (comes_so j.cell u.0 u.1) u.2 (comes_so c.cell (One v) (one_there (comes g c.cell) v d))) i
  inserted_so at n a j c f (Some k) None l e d i = elim i [ ]
  inserted_so at n a j c f None o l e d i = elim i [ ]

  printed_so : (at n : ℕ) (p : ℤ) (c : Outer) (f : Fact) (o : Option (List ℕ)) → LiveStmt s K path (stmt at n (print p c)) → text_in (comes g c.cell) ≡ o → f ∈ printed_told m path n o → New s K f
  printed_so at n p c f (Some bytes) l e i =
      subst (New s K) (sym (unless_in (m.lined n) (line (path, n) bytes) f i)) (printed l (comes_so c.cell (One (Scalar.Text bytes)) (text_there (comes g c.cell) bytes e)))
  printed_so at n p c f None l e i = elim i [ ]

  own_so : (at n : ℕ) (a : Action) (f : Fact) → LiveStmt s K path (stmt at n a) → f ∈ own_told s g m path at n a → New s K f
  own_so at n (assign x c) f l i = assigned_so at n x c f (comes g c.cell) l refl i
  own_so at n (fill a c) f l i = filled_so at n a c f (comes g c.cell) l refl i
  own_so at n (insert a j c) f l i = inserted_so at n a j c f (key_in (comes g j.cell)) (one_in (comes g c.cell)) l refl refl i
  own_so at n (print p c) f l i = printed_so at n p c f (text_in (comes g c.cell)) l refl i
  own_so at n (when c b) f l i = cells_deep at n (when c b) f (comes_all g (outer_cells (when c b))) l refl i
  own_so at n (choose c b d) f l i = cells_deep at n (choose c b d) f (comes_all g (outer_cells (choose c b d))) l refl i
  own_so at n (range lo hi st x t b) f l i =
      elim (either (bad_told m path at n (comes_all g (outer_cells (range lo hi st x t b)))) (deep_told m path at n (range lo hi st x t b) (comes_all g (outer_cells (range lo hi st x t b)))) i) [
        | inl j ↦ range_bad at n x lo hi st t b f (comes_all g (outer_cells (range lo hi st x t b))) l refl j
        | inr j ↦ cells_deep at n (range lo hi st x t b) f (comes_all g (outer_cells (range lo hi st x t b))) l refl j
      ]
  own_so at n (each a x t b) f l i = items_deep at n a x t b f (g.closed a) l refl i
  own_so at n (declare v) f l i = elim i [ ]
  own_so at n (call_alone p ps c) f l i = elim i [ ]
  own_so at n (assert p c) f l i = elim i [ ]
  own_so at n (wait ns b) f l i = elim i [ ]

  calls_so : (st : Stmt) (f : Fact) → LiveStmt s K path st → f ∈ deep_by m path (stmt_at st) (stmt_node st) (m.deep && some_call (stmt_calls st)) → New s K f
  calls_so st f l i =
      deep_in (stmt_at st) (stmt_node st) f (m.deep && some_call (stmt_calls st))
      (λ q. (let p = both_true m.deep (some_call (stmt_calls st)) q in let c = some_there (stmt_calls st) p.1 in too_deep_call l c.1 (r.deep_so p.0))) i

  -- WHAT IS TOLD IS NEW
  pub news_so : (st : Stmt) (f : Fact) → LiveStmt s K path st → f ∈ news s g m path st → New s K f
  news_so (stmt at n a) f l i =
      elim (either (cells_told g m path at (cells (stmt at n a))) (own_told s g m path at n a ++ deep_by m path at n (m.deep && some_call (stmt_calls (stmt at n a)))) i) [
        | inl j ↦ cells_so (stmt at n a) (cells (stmt at n a)) f l (λ c k. k) j
        | inr j ↦ elim (either (own_told s g m path at n a) (deep_by m path at n (m.deep && some_call (stmt_calls (stmt at n a)))) j) [
          | inl k ↦ own_so at n a f l k
          | inr k ↦ calls_so (stmt at n a) f l k
        ]
      ]

  module _ (y : IsSteady s K) where
    -- told now, or known
    Told : Fact → List Fact → Type 0
    Told f fs = (f ∈ fs) ⊎ K f

    unless_or : (b : Bool) (f : Fact) → (b ≡ true → K f) → (f ∈ unless b f) ⊎ K f
    unless_or true f k = inr (k refl)
    unless_or false f k = inl first

    told_fault : (e : Fault) (at n : ℕ) → (fault e at (path, n) ∈ unless (m.faulted e at n) (fault e at (path, n))) ⊎ K (fault e at (path, n))
    told_fault e at n = unless_or (m.faulted e at n) (fault e at (path, n)) (r.faulted_so e at n)

    -- in a longer list
    on_left : {f : Fact} (xs ys : List Fact) → (f ∈ xs) ⊎ K f → (f ∈ (xs ++ ys)) ⊎ K f
    on_left xs ys (inl i) = inl (to_left xs ys i)
    on_left xs ys (inr k) = inr k

    on_right : {f : Fact} (xs ys : List Fact) → (f ∈ ys) ⊎ K f → (f ∈ (xs ++ ys)) ⊎ K f
    on_right xs ys (inl i) = inl (to_right xs ys i)
    on_right xs ys (inr k) = inr k

    -- CELLS

    now_is : {st : Stmt} {c : Cell} {v : Value} → LiveStmt s K path st → c ∈ cells st → Gives s K path c.form (Ok v) → (o : Option Value) → g.cell c.node ≡ o → come_by o (outcome g c.form) ≡ Some v
    now_is {st} {c} {v} l i q (Some u) e = ap Some (sym (ok_values (y.cell_same path st c u (Ok v) l i (h.cell_so c.node u e) q)))
    now_is l i q None e = ap (come_by None) (outcome_is s K path g h q)

    comes_is : {st : Stmt} {c : Cell} {v : Value} → LiveStmt s K path st → c ∈ cells st → Comes s K path c v → comes g c ≡ Some v
    comes_is {c = c} {v = v} l i (before k) = ap (λ (z : Option Value). come_by z (outcome g c.form)) (h.cell_all c.node v k)
    comes_is {c = c} l i (now q) = now_is l i q (g.cell c.node) refl

    comes_all_is : {st : Stmt} {cs : List Cell} {vs : List Value} → LiveStmt s K path st → ((c : Cell) → c ∈ cs → c ∈ cells st) → ComeAll s K path cs vs → comes_all g cs ≡ Some vs
    comes_all_is l all none_comes = refl
    comes_all_is l all (next_comes {c = c} {cs = cs} {v = v} x xs) =
        ap (λ (z : Option Value). with_value z (comes_all g cs)) (comes_is l (all c first) x) ∙ ap (with_value (Some v)) (comes_all_is l (λ d k. all d (later k)) xs)

    value_by : {st : Stmt} {c : Cell} {v : Value} → LiveStmt s K path st → c ∈ cells st → Gives s K path c.form (Ok v) → (o : Option Value) → g.cell c.node ≡ o
        → (value (path, c.node) v ∈ cell_by m path (stmt_at st) c.node o (outcome g c.form)) ⊎ K (value (path, c.node) v)
    value_by {st} {c} {v} l i q (Some u) e =
        let k : K (value (path, c.node) u) = h.cell_so c.node u e in
        inr (subst (λ (z : Value). K (value (path, c.node) z)) (sym (ok_values (y.cell_same path st c u (Ok v) l i k q))) k)
    value_by {st} {c} {v} l i q None e =
        inl (subst (λ (z : Outcome). value (path, c.node) v ∈ cell_by m path (stmt_at st) c.node None z) (sym (outcome_is s K path g h q)) first)

    fault_by : {st : Stmt} {c : Cell} {f : Fault} → LiveStmt s K path st → c ∈ cells st → Gives s K path c.form (Err f) → (o : Option Value) → g.cell c.node ≡ o
        → (fault f (stmt_at st) (path, c.node) ∈ cell_by m path (stmt_at st) c.node o (outcome g c.form)) ⊎ K (fault f (stmt_at st) (path, c.node))
    fault_by {st} {c} {f} l i q (Some u) e = let z : ◌≡◌ {A = Result Value Fault} (Err f) (Ok u) = y.cell_same path st c u (Err f) l i (h.cell_so c.node u e) q in absurd (cc (z))
    fault_by {st} {c} {f} l i q None e =
        subst (λ (z : Outcome). (fault f (stmt_at st) (path, c.node) ∈ cell_by m path (stmt_at st) c.node None z) ⊎ K (fault f (stmt_at st) (path, c.node))) (sym (outcome_is s K path g h q))
        (told_fault f (stmt_at st) c.node)

    among : (at : ℕ) (cs : List Cell) (c : Cell) (f : Fact) → c ∈ cs → (f ∈ cell_told g m path at c) ⊎ K f → (f ∈ cells_told g m path at cs) ⊎ K f
    among at [] c f i x = elim i [ ]
    among at (d ∷ cs) c f first x = on_left (cell_told g m path at d) (cells_told g m path at cs) x
    among at (d ∷ cs) c f (later i) x = on_right (cell_told g m path at d) (cells_told g m path at cs) (among at cs c f i x)

    -- in the parts of what is told of a statement
    of_cells : (at n : ℕ) (a : Action) (f : Fact) → (f ∈ cells_told g m path at (cells (stmt at n a))) ⊎ K f → (f ∈ news s g m path (stmt at n a)) ⊎ K f
    of_cells at n a f x = on_left (cells_told g m path at (cells (stmt at n a))) (own_told s g m path at n a ++ deep_by m path at n (m.deep && some_call (stmt_calls (stmt at n a)))) x

    of_own : (at n : ℕ) (a : Action) (f : Fact) → (f ∈ own_told s g m path at n a) ⊎ K f → (f ∈ news s g m path (stmt at n a)) ⊎ K f
    of_own at n a f x =
        on_right (cells_told g m path at (cells (stmt at n a))) (own_told s g m path at n a ++ deep_by m path at n (m.deep && some_call (stmt_calls (stmt at n a))))
        (on_left (own_told s g m path at n a) (deep_by m path at n (m.deep && some_call (stmt_calls (stmt at n a)))) x)

    of_calls : (at n : ℕ) (a : Action) (f : Fact) → (f ∈ deep_by m path at n (m.deep && some_call (stmt_calls (stmt at n a)))) ⊎ K f → (f ∈ news s g m path (stmt at n a)) ⊎ K f
    of_calls at n a f x =
        on_right (cells_told g m path at (cells (stmt at n a))) (own_told s g m path at n a ++ deep_by m path at n (m.deep && some_call (stmt_calls (stmt at n a))))
        (on_right (own_told s g m path at n a) (deep_by m path at n (m.deep && some_call (stmt_calls (stmt at n a)))) x)

    cell_told_of : (st : Stmt) (c : Cell) (f : Fact) → c ∈ cells st → (f ∈ cell_told g m path (stmt_at st) c) ⊎ K f → (f ∈ news s g m path st) ⊎ K f
    cell_told_of (stmt at n a) c f i x = of_cells at n a f (among at (cells (stmt at n a)) c f i x)

    -- WRITES

    element_or : (st : Stmt) (a : Name) (k : Key) (v : Scalar) (w t : Bool) → LiveStmt s K path st → Wrote s K path st (place s path a) k v → m.written a k (stmt_node st) ≡ w
        → (element (place s path a) k (path, stmt_node st) v ∈ element_by s m path (stmt_at st) (stmt_node st) a k v w t) ⊎ K (element (place s path a) k (path, stmt_node st) v)
    element_or st a k v false t l x e = inl first
    element_or st a k v true t l x e =
        let p = r.written_so a k (stmt_node st) e in
        inr (subst (λ (z : Scalar). K (element (place s path a) k (path, stmt_node st) z)) (sym (y.element_same path st (place s path a) k v p.0 l x p.1)) p.1)

    twice_or : (st : Stmt) (a : Name) (k : Key) (v : Scalar) → m.written a k (stmt_node st) ≡ true → m.twice a k ≡ true
        → (fault element_twice (stmt_at st) (path, stmt_node st) ∈ element_told s m path (stmt_at st) (stmt_node st) a k v) ⊎ K (fault element_twice (stmt_at st) (path, stmt_node st))
    twice_or st a k v e d =
        let B : Bool → Bool → Type 0 = λ w t. (fault element_twice (stmt_at st) (path, stmt_node st) ∈ element_by s m path (stmt_at st) (stmt_node st) a k v w t) ⊎ K (fault element_twice (stmt_at st) (path, stmt_node st)) in
        subst (λ (w : Bool). B w (m.twice a k)) (sym e) (subst (λ (t : Bool). B true t) (sym d) (told_fault element_twice (stmt_at st) (stmt_node st)))

    among_elements : (at n : ℕ) (a : Name) (es : List Element) (k : Key) (v : Scalar) (f : Fact) → entry k v ∈ es → (f ∈ element_told s m path at n a k v) ⊎ K f → (f ∈ elements_told s m path at n a es) ⊎ K f
    among_elements at n a [] k v f i x = elim i [ ]
    among_elements at n a (e ∷ es) k v f i x = by (split_in i) (λ j. among_elements at n a es k v f j x)
      where
        by : (entry k v ≡ e) ⊎ (entry k v ∈ es) → (entry k v ∈ es → (f ∈ elements_told s m path at n a es) ⊎ K f) → (f ∈ elements_told s m path at n a (e ∷ es)) ⊎ K f
        by (inl q) rec = on_left (element_told s m path at n a e.key e.value) (elements_told s m path at n a es) (subst (λ (z : Element). (f ∈ element_told s m path at n a z.key z.value) ⊎ K f) q x)
        by (inr j) rec = on_right (element_told s m path at n a e.key e.value) (elements_told s m path at n a es) (rec j)

    fill_told : (at n : ℕ) (a : Name) (c : Outer) (es : List Element) (k : Key) (v : Scalar) (f : Fact) → LiveStmt s K path (stmt at n (fill a c)) → Comes s K path c.cell (Many es) → entry k v ∈ es
        → (f ∈ element_told s m path at n a k v) ⊎ K f → (f ∈ news s g m path (stmt at n (fill a c))) ⊎ K f
    fill_told at n a c es k v f l x i z =
        of_own at n (fill a c) f
        (subst (λ (o : Option Value). (f ∈ filled_told s m path at n a o) ⊎ K f) (sym (comes_is l (outermost at n (fill a c) c.cell first) x)) (among_elements at n a es k v f i z))

    insert_told : (at n : ℕ) (a : Name) (j c : Outer) (u : Value) (k : Key) (v : Scalar) (f : Fact) → LiveStmt s K path (stmt at n (insert a j c)) → Comes s K path j.cell u → IsKey u k → Comes s K path c.cell (One v)
        → (f ∈ element_told s m path at n a k v) ⊎ K f → (f ∈ news s g m path (stmt at n (insert a j c))) ⊎ K f
    insert_told at n a j c u k v f l x i w z =
        let p : key_in (comes g j.cell) ≡ Some k = ap key_in (comes_is l (outermost at n (insert a j c) j.cell first) x) ∙ key_found i in
        let q : one_in (comes g c.cell) ≡ Some v = ap one_in (comes_is l (outermost at n (insert a j c) c.cell (later first)) w) in
        of_own at n (insert a j c) f
        (subst (λ (o : Option Key). (f ∈ inserted_told s m path at n a o (one_in (comes g c.cell))) ⊎ K f) (sym p) (subst (λ (o : Option Scalar). (f ∈ inserted_told s m path at n a (Some k) o) ⊎ K f) (sym q) z))

    wrote_told : (st : Stmt) (a w : Place) (k : Key) (v u : Scalar) → LiveStmt s K path st → Wrote s K path st a k v → K (element a k (path, stmt_node st) v) → K (element a k w u) → w ≢ (path, stmt_node st)
        → (fault element_twice (stmt_at st) (path, stmt_node st) ∈ news s g m path st) ⊎ K (fault element_twice (stmt_at st) (path, stmt_node st))
    wrote_told st b w k v u l (by_fill {at = at} {n = n} {a = a} {c = c} {es = es} x i) p q d =
        fill_told at n a c es k v (fault element_twice at (path, n)) l x i
        (twice_or (stmt at n (fill a c)) a k v (r.written_all a k n v p) (r.twice_all a k n w v u p q d))
    wrote_told st b w k v u l (by_insert {at = at} {n = n} {a = a} {i = j} {c = c} {u = o} x i z) p q d =
        insert_told at n a j c o k v (fault element_twice at (path, n)) l x i z
        (twice_or (stmt at n (insert a j c)) a k v (r.written_all a k n v p) (r.twice_all a k n w v u p q d))

    -- HEADERS

    deep_or : (at n : ℕ) (b : Bool) → b ≡ true → (fault too_deep at (path, n) ∈ deep_by m path at n b) ⊎ K (fault too_deep at (path, n))
    deep_or at n b e = subst (λ (z : Bool). (fault too_deep at (path, n) ∈ deep_by m path at n z) ⊎ K (fault too_deep at (path, n))) (sym e) (told_fault too_deep at n)

    known_come : {cs : List Cell} {vs : List Value} → KnownAll K path cs vs → ComeAll s K path cs vs
    known_come no_cell = none_comes
    known_come (next_cell k ks) = next_comes (before k) (known_come ks)

    values_deep : (at n : ℕ) (a : Action) (vs : List Value) → LiveStmt s K path (stmt at n a) → ComeAll s K path (outer_cells a) vs → opens_some a vs ≡ true → length path ≡ max_path_steps
        → (fault too_deep at (path, n) ∈ deep_told m path at n a (comes_all g (outer_cells a))) ⊎ K (fault too_deep at (path, n))
    values_deep at n a vs l x o e =
        subst (λ (z : Option (List Value)). (fault too_deep at (path, n) ∈ deep_told m path at n a z) ⊎ K (fault too_deep at (path, n))) (sym (comes_all_is l (outermost at n a) x))
        (deep_or at n (m.deep && opens_some a vs) (and_from _ _ (r.deep_all e) o))

    ready_values : {a : Action} {vs : List Value} {A : Type 0} → ComeAll s K path (outer_cells a) vs ⊎ Ready s K path a vs → ((b : Name) (x : ℕ) (t : Option ℕ) (d : Block) → a ≡ each b x t d → A)
        → (ComeAll s K path (outer_cells a) vs → A) → A
    ready_values (inl x) f k = k x
    ready_values (inr (cells_known ks d)) f k = k (known_come ks)
    ready_values (inr (source_closed {a = a} {x = x} {t = t} {b = b} c es)) f k = f a x t b refl
    ready_values (inr (names_known cs)) f k = k none_comes

    items_or : (at n : ℕ) (a : Name) (x : ℕ) (t : Option ℕ) (b : Block) (vs : List Value) → LiveStmt s K path (stmt at n (each a x t b)) → Ready s K path (each a x t b) vs → opens_some (each a x t b) vs ≡ true
        → length path ≡ max_path_steps → (fault too_deep at (path, n) ∈ own_told s g m path at n (each a x t b)) ⊎ K (fault too_deep at (path, n))
    items_or at n a x t b vs l (cells_known ks d) o e = elim d [ ]
    items_or at n a x t b vs l (source_closed {es = es} c q) o e =
        let F : Bool → List Element → Type 0 = λ z us. (fault too_deep at (path, n) ∈ items_told m path at n z (each a x t b) us) ⊎ K (fault too_deep at (path, n)) in
        subst (λ (z : Bool). F z (g.elements a)) (sym (h.closed_all a c))
        (subst (λ (us : List Element). F true us) (h.elements_all a es c q) (deep_or at n (m.deep && some_item es) (and_from _ _ (r.deep_all e) o)))

    header_or : (at n : ℕ) (a : Action) (vs : List Value) (k : Key) (b : Block) → LiveStmt s K path (stmt at n a) → ComeAll s K path (outer_cells a) vs ⊎ Ready s K path a vs → Opens a vs k b → length path ≡ max_path_steps
        → (fault too_deep at (path, n) ∈ own_told s g m path at n a) ⊎ K (fault too_deep at (path, n))
    header_or at n (when c b) vs k d l x o e = ready_values x (λ y z t u q. absurd (cc (q))) (λ z. values_deep at n (when c b) vs l z (opens_found o) e)
    header_or at n (choose c b b') vs k d l x o e = ready_values x (λ y z t u q. absurd (cc (q))) (λ z. values_deep at n (choose c b b') vs l z (opens_found o) e)
    header_or at n (range lo hi st x' t b) vs k d l x o e =
        ready_values x (λ y z t u q. absurd (cc (q)))
        (λ z. on_right (bad_told m path at n (comes_all g (outer_cells (range lo hi st x' t b)))) (deep_told m path at n (range lo hi st x' t b) (comes_all g (outer_cells (range lo hi st x' t b))))
        (values_deep at n (range lo hi st x' t b) vs l z (opens_found o) e))
    header_or at n (each a x' t b) vs k d l (inr x) o e = items_or at n a x' t b vs l x (opens_found o) e
    header_or at n (each a x' t b) vs k d l (inl none_comes) o e = elim o [ ]
    header_or at n (declare v) vs k d l x o e = elim o [ ]
    header_or at n (call_alone p ps c) vs k d l x o e = elim o [ ]
    header_or at n (assign z c) vs k d l x o e = elim o [ ]
    header_or at n (fill a c) vs k d l x o e = elim o [ ]
    header_or at n (insert a i c) vs k d l x o e = elim o [ ]
    header_or at n (print p c) vs k d l x o e = elim o [ ]
    header_or at n (assert p c) vs k d l x o e = elim o [ ]
    header_or at n (wait ns b) vs k d l x o e = elim o [ ]

    bad_or : (at n x : ℕ) (lo hi : Outer) (st : Option Outer) (t : Option ℕ) (b : Block) (vs : List Value) (z : Bounds) (f : OpFault) → LiveStmt s K path (stmt at n (range lo hi st x t b))
        → ComeAll s K path (outer_cells (range lo hi st x t b)) vs → bounds vs ≡ Some z → range_count z.low z.high z.step ≡ Err f
        → (fault (operation f) at (path, n) ∈ bad_told m path at n (comes_all g (outer_cells (range lo hi st x t b)))) ⊎ K (fault (operation f) at (path, n))
    bad_or at n x lo hi st t b vs z f l c e q =
        let F : Option (Result ℕ OpFault) → Type 0 = λ o. (fault (operation f) at (path, n) ∈ bad_by m path at n o) ⊎ K (fault (operation f) at (path, n)) in
        subst (λ (o : Option (List Value)). (fault (operation f) at (path, n) ∈ bad_told m path at n o) ⊎ K (fault (operation f) at (path, n))) (sym (comes_all_is l (outermost at n (range lo hi st x t b)) c))
        (subst F (sym (ap count_of e ∙ ap Some q)) (told_fault (operation f) at n))

    -- WHAT IS NEW OF A STATEMENT AT A PATH

    assigned_or : (at n : ℕ) (x : Name) (c : Outer) (v : Value) → LiveStmt s K path (stmt at n (assign x c)) → Comes s K path c.cell v
        → (value (place s path x) v ∈ news s g m path (stmt at n (assign x c))) ⊎ K (value (place s path x) v)
    assigned_or at n x c v l q =
        of_own at n (assign x c) (value (place s path x) v)
        (subst (λ (o : Option Value). (value (place s path x) v ∈ assigned_told s m path x o) ⊎ K (value (place s path x) v)) (sym (comes_is l (outermost at n (assign x c) c.cell first) q))
        (unless_or (m.valued x) (value (place s path x) v)
        (λ e. (let p = r.valued_so x e in subst (λ (z : Value). K (value (place s path x) z)) (sym (y.assign_same path at n x c v p.0 l q p.1)) p.1))))

    printed_or : (at n : ℕ) (p : ℤ) (c : Outer) (bytes : List ℕ) → LiveStmt s K path (stmt at n (print p c)) → Comes s K path c.cell (One (Scalar.Text bytes))
        → (line (path, n) bytes ∈ news s g m path (stmt at n (print p c))) ⊎ K (line (path, n) bytes)
    printed_or at n p c bytes l q =
        of_own at n (print p c) (line (path, n) bytes)
        (subst (λ (o : Option Value). (line (path, n) bytes ∈ printed_told m path n (text_in o)) ⊎ K (line (path, n) bytes)) (sym (comes_is l (outermost at n (print p c) c.cell first) q))
        (unless_or (m.lined n) (line (path, n) bytes)
        (λ e. (let z = r.lined_so n e in subst (λ (b : List ℕ). K (line (path, n) b)) (sym (y.print_same path at n p c bytes z.0 l q z.1)) z.1))))

    call_or : (st : Stmt) (c : Call) → c ∈ stmt_calls st → length path ≡ max_path_steps → (fault too_deep (stmt_at st) (path, stmt_node st) ∈ news s g m path st) ⊎ K (fault too_deep (stmt_at st) (path, stmt_node st))
    call_or (stmt at n a) c i e = of_calls at n a (fault too_deep at (path, n)) (deep_or at n (m.deep && some_call (stmt_calls (stmt at n a))) (and_from _ _ (r.deep_all e) (call_some i)))

module _ (s : Core) (K : Knowledge) (g : Path → Sight) (m : Path → Past) (sees : (path : Path) → Sees s K path (g path)) (recalls : (path : Path) → Recalls s K path (m path)) (y : IsSteady s K) where
  told_at : {path : Path} {st : Stmt} {f : Fact} → LiveStmt s K path st → (f ∈ news s (g path) (m path) path st) ⊎ K f → ToldOf s K g m f ⊎ K f
  told_at {path} {st} l (inl i) = inl (record { path = path; st = st; live = l; told = i })
  told_at l (inr k) = inr k

  twice_at : {path : Path} {st : Stmt} {a w : Place} {k : Key} {v u : Scalar} → Writer s K path st a k v → K (element a k (path, stmt_node st) v) → K (element a k w u) → w ≢ (path, stmt_node st)
      → ToldOf s K g m (fault element_twice (stmt_at st) (path, stmt_node st)) ⊎ K (fault element_twice (stmt_at st) (path, stmt_node st))
  twice_at {path} {st} {a} {w} {k} {v} {u} x e f d =
      let e' : K (element a k (path, stmt_node x.writing) v) = subst (λ (z : ℕ). K (element a k (path, z) v)) (sym x.node_is) e in
      let d' : w ≢ (path, stmt_node x.writing) = λ q. d (q ∙ ap (λ (z : ℕ). (path, z)) x.node_is) in
      let told = told_at x.live (wrote_told s K path (g path) (m path) (sees path) (recalls path) y x.writing a w k v u x.live x.wrote e' f d') in
      subst (λ (z : ℕ). ToldOf s K g m (fault element_twice (stmt_at st) (path, z)) ⊎ K (fault element_twice (stmt_at st) (path, z))) x.node_is
      (subst (λ (z : ℕ). ToldOf s K g m (fault element_twice z (path, stmt_node x.writing)) ⊎ K (fault element_twice z (path, stmt_node x.writing))) x.at_is told)

  pub news_is : {f : Fact} → New s K f → ToldOf s K g m f ⊎ K f
  news_is (cell_value {path = p} {st = st} {c = c} {v = v} l i q) =
      told_at l (cell_told_of s K p (g p) (m p) (sees p) (recalls p) y st c (value (p, c.node) v) i (value_by s K p (g p) (m p) (sees p) (recalls p) y l i q ((g p).cell c.node) refl))
  news_is (cell_fault {path = p} {st = st} {c = c} {f = f} l i q) =
      told_at l (cell_told_of s K p (g p) (m p) (sees p) (recalls p) y st c (fault f (stmt_at st) (p, c.node)) i (fault_by s K p (g p) (m p) (sees p) (recalls p) y l i q ((g p).cell c.node) refl))
  news_is (assigned {path = p} {at = at} {n = n} {x = x} {c = c} {v = v} l q) = told_at l (assigned_or s K p (g p) (m p) (sees p) (recalls p) y at n x c v l q)
  news_is (filled {path = p} {at = at} {n = n} {a = a} {c = c} {es = es} {k = k} {v = v} l x i) =
      told_at l (fill_told s K p (g p) (m p) (sees p) (recalls p) y at n a c es k v (element (place s p a) k (p, n) v) l x i
      (element_or s K p (g p) (m p) (sees p) (recalls p) y (stmt at n (fill a c)) a k v ((m p).written a k n) ((m p).twice a k) l (by_fill x i) refl))
  news_is (inserted {path = p} {at = at} {n = n} {a = a} {i = j} {c = c} {u = u} {k = k} {v = v} l x i z) =
      told_at l (insert_told s K p (g p) (m p) (sees p) (recalls p) y at n a j c u k v (element (place s p a) k (p, n) v) l x i z
      (element_or s K p (g p) (m p) (sees p) (recalls p) y (stmt at n (insert a j c)) a k v ((m p).written a k n) ((m p).twice a k) l (by_insert x i z) refl))
  news_is (printed {path = p} {at = at} {n = n} {p = q} {c = c} {bytes = bytes} l x) = told_at l (printed_or s K p (g p) (m p) (sees p) (recalls p) y at n q c bytes l x)
  news_is (bad_range {path = p} {at = at} {n = n} {x = x} {lo = lo} {hi = hi} {st = st} {t = t} {b = b} {vs = vs} {r = z} {f = f} l c e q) =
      let whole = range lo hi st x t b in
      told_at l (of_own s K p (g p) (m p) (sees p) (recalls p) y at n (range lo hi st x t b) (fault (operation f) at (p, n))
      (on_left s K p (g p) (m p) (sees p) (recalls p) y (bad_told (m p) p at n (comes_all (g p) (outer_cells (range lo hi st x t b)))) (deep_told (m p) p at n (range lo hi st x t b) (comes_all (g p) (outer_cells (range lo hi st x t b))))
      (bad_or s K p (g p) (m p) (sees p) (recalls p) y at n x lo hi st t b vs z f l c e q)))
  news_is (too_deep_header {path = p} {at = at} {n = n} {header = a} {vs = vs} {k = k} {b = b} l x o e) =
      told_at l (of_own s K p (g p) (m p) (sees p) (recalls p) y at n a (fault too_deep at (p, n)) (header_or s K p (g p) (m p) (sees p) (recalls p) y at n a vs k b l x o e))
  news_is (too_deep_call {path = p} {st = st} {c = c} l i e) = told_at l (call_or s K p (g p) (m p) (sees p) (recalls p) y st c i e)
  news_is (written_twice {path = p} {st = st} {a = a} {w = w} {k = k} {v = v} {u = u} l x z d) = twice_at (y.wrote p st a k v l x) x z d
