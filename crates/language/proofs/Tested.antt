-- A test that a core keeps what an accepted script's core keeps.
use Rattle.std.specs.Prelude.{◌≡◌, ◌⊎◌, ℕ, zero, suc, Bool, true, false, not, ◌&&◌, ◌||◌, List, [], ◌∷◌, ◌++◌, Option, Some, None, cond, nat_eq, find, refl}
use Rattle.std.proofs.Common.{inl, inr, sym, ap, ◌∙◌, subst, arith}
use Rattle.std.proofs.lemmas.Bool.{eqb-true, or_cases, or_left, or_right, and_parts}
use Rattle.language.specs.Core.{Owned, local, input, output, Name, here, Cell, Call, Outer, Stmt, stmt, Action, declare, call_alone, assign, fill, insert, range, each, Block, Core}
use Rattle.language.specs.Distinct.{has, distinct}
use Rattle.language.specs.Members.{◌∈◌, first, later}
use Rattle.language.specs.Parts.{block_list, script_blocks, script_stmts, stmts_among, stmt_calls, part_calls, part_cells, parts, cells, by_name, calls_among, call_at, name_at, output_name}
use Rattle.language.specs.Places.{Path, Place, place, place_of}
use Rattle.language.specs.WellFormed.{Declares, Role, range_value_role, range_turn_role, each_value_role, each_key_role}
use Rattle.language.proofs.Members.{split_in, to_left, to_right, either}

-- LISTS OF NUMBERS

abbrev pub flat : {X : Type 0} → (X → List ℕ) → List X → List ℕ
flat f [] = []
flat f (x ∷ xs) = f x ++ flat f xs

not_true : (a : Bool) {A : Type 0} → not a ≡ true → a ≡ true → A
not_true true h k = absurd (cc (h))
not_true false h k = absurd (cc (k))

pub self_eq : (n : ℕ) → nat_eq n n ≡ true
self_eq n = grind arith

pub has_in : {n : ℕ} {xs : List ℕ} → n ∈ xs → has n xs ≡ true
has_in {n} {xs} first = or_left (nat_eq n n) _ (self_eq n)
has_in {n} (later {y = y} {xs = xs} m) = or_right (nat_eq n y) (has n xs) (has_in m)

pub in_has : (n : ℕ) (xs : List ℕ) → has n xs ≡ true → n ∈ xs
in_has n [] h = absurd (cc (h))
in_has n (x ∷ xs) h = elim (or_cases (nat_eq n x) (has n xs) h) [ inl e ↦ subst (λ (z : ℕ). n ∈ (z ∷ xs)) (eqb-true n x e) first | inr k ↦ later (in_has n xs k) ]

pub distinct_right : (xs ys : List ℕ) → distinct (xs ++ ys) ≡ true → distinct ys ≡ true
distinct_right [] ys h = h
distinct_right (x ∷ xs) ys h = distinct_right xs ys (and_parts (not (has x (xs ++ ys))) (distinct (xs ++ ys)) h).1

pub distinct_apart : (xs ys : List ℕ) {n : ℕ} {A : Type 0} → distinct (xs ++ ys) ≡ true → n ∈ xs → n ∈ ys → A
distinct_apart [] ys h m k = elim m [ ]
distinct_apart (x ∷ xs) ys h first k = not_true (has x (xs ++ ys)) (and_parts (not (has x (xs ++ ys))) (distinct (xs ++ ys)) h).0 (has_in (to_right xs ys k))
distinct_apart (x ∷ xs) ys h (later m) k = distinct_apart xs ys (and_parts (not (has x (xs ++ ys))) (distinct (xs ++ ys)) h).1 m k

distinct_left : (xs ys : List ℕ) → distinct (xs ++ ys) ≡ true → distinct xs ≡ true
distinct_left [] ys h = refl
distinct_left (x ∷ xs) ys h = and_true (not (has x xs)) (distinct xs) (fresh (has x xs) refl) (distinct_left xs ys (and_parts (not (has x (xs ++ ys))) (distinct (xs ++ ys)) h).1)
  where
    and_true : (a b : Bool) → a ≡ true → b ≡ true → (a && b) ≡ true
    and_true true b h k = k
    and_true false b h k = absurd (cc (h))

    fresh : (b : Bool) → has x xs ≡ b → not b ≡ true
    fresh false e = refl
    fresh true e = not_true (has x (xs ++ ys)) (and_parts (not (has x (xs ++ ys))) (distinct (xs ++ ys)) h).0 (has_in (to_left xs ys (in_has x xs e)))

pub flat_in : {X : Type 0} (f : X → List ℕ) {x : X} {n : ℕ} (xs : List X) → x ∈ xs → n ∈ f x → n ∈ flat f xs
flat_in f [] m i = elim m [ ]
flat_in f (x ∷ xs) first i = to_left (f x) (flat f xs) i
flat_in f (y ∷ xs) (later m) i = to_right (f y) (flat f xs) (flat_in f xs m i)

-- a number that stands once is of one member
pub flat_once : {X : Type 0} (f : X → List ℕ) {x y : X} {n : ℕ} (xs : List X) → distinct (flat f xs) ≡ true → x ∈ xs → y ∈ xs → n ∈ f x → n ∈ f y → x ≡ y
flat_once f [] h m k i j = elim m [ ]
flat_once f {x} {y} {n} (z ∷ xs) h m k i j = by (split_in m) (split_in k) (λ m' k'. flat_once f xs (distinct_right (f z) (flat f xs) h) m' k' i j)
  where
    by : ((x ≡ z) ⊎ (x ∈ xs)) → ((y ≡ z) ⊎ (y ∈ xs)) → (x ∈ xs → y ∈ xs → x ≡ y) → x ≡ y
    by (inl e) (inl q) rec = e ∙ sym q
    by (inl e) (inr k') rec = distinct_apart (f z) (flat f xs) h (subst (λ (w : _). n ∈ f w) e i) (flat_in f xs k' j)
    by (inr m') (inl q) rec = distinct_apart (f z) (flat f xs) h (subst (λ (w : _). n ∈ f w) q j) (flat_in f xs m' i)
    by (inr m') (inr k') rec = rec m' k'

flat_distinct : {X : Type 0} (f : X → List ℕ) {x : X} (xs : List X) → distinct (flat f xs) ≡ true → x ∈ xs → distinct (f x) ≡ true
flat_distinct f [] h m = elim m [ ]
flat_distinct f (x ∷ xs) h first = distinct_left (f x) (flat f xs) h
flat_distinct f (x ∷ xs) h (later m) = flat_distinct f xs (distinct_right (f x) (flat f xs) h) m

-- what a test says of each member
abbrev pub every : {X : Type 0} → (X → Bool) → List X → Bool
every p [] = true
every p (x ∷ xs) = p x && every p xs

pub every_in : {X : Type 0} (p : X → Bool) {x : X} (xs : List X) → every p xs ≡ true → x ∈ xs → p x ≡ true
every_in p [] h m = elim m [ ]
every_in p (x ∷ xs) h first = (and_parts (p x) (every p xs) h).0
every_in p (x ∷ xs) h (later m) = every_in p xs (and_parts (p x) (every p xs) h).1 m

pub among_split : (bs : List Block) {st : Stmt} → st ∈ stmts_among bs → (b : Block) × (b ∈ bs) × (st ∈ block_list b)
among_split [] m = elim m [ ]
among_split (b ∷ bs) m = elim (either (block_list b) (stmts_among bs) m) [ inl i ↦ (b, first, i) | inr i ↦ (let r = among_split bs i in (r.0, later r.1, r.2)) ]

-- WHAT EACH STATEMENT HAS

abbrev pub declared_of : Action → List ℕ
declared_of (declare v) = v ∷ []
declared_of _ = []

abbrev pub cell_nodes : List Cell → List ℕ
cell_nodes cs = flat (λ (c : Cell). c.node ∷ []) cs

abbrev pub with_turn : ℕ → Option ℕ → List ℕ
with_turn v None = v ∷ []
with_turn v (Some t) = v ∷ t ∷ []

abbrev pub roles_of : Action → List ℕ
roles_of (range lo hi st v t b) = with_turn v t
roles_of (each a v t b) = with_turn v t
roles_of _ = []

-- the calls that stand in expressions
abbrev pub hidden_calls : Action → List Call
hidden_calls (call_alone p ps c) = part_calls ps
hidden_calls a = part_calls (parts a)

abbrev pub local_node : Owned → List ℕ
local_node (local n) = n ∷ []
local_node _ = []

abbrev pub name_nodes : List Name → List ℕ
name_nodes xs = flat (λ x. local_node x.what) xs

abbrev pub hidden_of : Action → List ℕ
hidden_of a = flat (λ (c : Call). name_nodes c.outputs) (hidden_calls a)

-- the nodes of a statement: what it declares, its cells, its loop variables, the outputs of calls in its expressions
abbrev pub action_nodes : Action → List ℕ
action_nodes a = declared_of a ++ (cell_nodes (part_cells (parts a)) ++ (roles_of a ++ hidden_of a))

abbrev pub nodes : Stmt → List ℕ
nodes (stmt at n a) = action_nodes a

pub declared_node : (a : Action) {x : ℕ} → x ∈ declared_of a → x ∈ action_nodes a
declared_node a i = to_left (declared_of a) (cell_nodes (part_cells (parts a)) ++ (roles_of a ++ hidden_of a)) i

behind_declared : (a : Action) {x : ℕ} → x ∈ (cell_nodes (part_cells (parts a)) ++ (roles_of a ++ hidden_of a)) → x ∈ action_nodes a
behind_declared a i = to_right (declared_of a) (cell_nodes (part_cells (parts a)) ++ (roles_of a ++ hidden_of a)) i

cell_node : (a : Action) {c : Cell} → c ∈ part_cells (parts a) → c.node ∈ cell_nodes (part_cells (parts a))
cell_node a i = flat_in (λ (d : Cell). d.node ∷ []) (part_cells (parts a)) i first

cell_in : (a : Action) {c : Cell} → c ∈ part_cells (parts a) → c.node ∈ action_nodes a
cell_in a i = behind_declared a (to_left (cell_nodes (part_cells (parts a))) (roles_of a ++ hidden_of a) (cell_node a i))

role_node : (a : Action) {x : ℕ} → x ∈ roles_of a → x ∈ action_nodes a
role_node a i = behind_declared a (to_right (cell_nodes (part_cells (parts a))) (roles_of a ++ hidden_of a) (to_left (roles_of a) (hidden_of a) i))

pub hidden_node : (a : Action) {x : ℕ} → x ∈ hidden_of a → x ∈ action_nodes a
hidden_node a i = behind_declared a (to_right (cell_nodes (part_cells (parts a))) (roles_of a ++ hidden_of a) (to_right (roles_of a) (hidden_of a) i))

cells_of : (st : Stmt) {c : Cell} → c ∈ cells st → c.node ∈ nodes st
cells_of (stmt at n a) i = cell_in a i

role_number : {at n x : ℕ} {a : Action} {r : Bool} → Role (stmt at n a) x r → x ∈ roles_of a
role_number (range_value_role {t = None}) = first
role_number (range_value_role {t = Some t}) = first
role_number range_turn_role = later first
role_number (each_value_role {t = None}) = first
role_number (each_value_role {t = Some t}) = first
role_number each_key_role = later first

roles_in : (st : Stmt) {x : ℕ} {r : Bool} → Role st x r → x ∈ nodes st
roles_in (stmt at n a) i = role_node a (role_number i)

-- of one statement, a node is of one kind
pub declared_apart : (a : Action) {x : ℕ} {A : Type 0} → distinct (action_nodes a) ≡ true → x ∈ declared_of a → x ∈ (cell_nodes (part_cells (parts a)) ++ (roles_of a ++ hidden_of a)) → A
declared_apart a h i j = distinct_apart (declared_of a) (cell_nodes (part_cells (parts a)) ++ (roles_of a ++ hidden_of a)) h i j

cells_apart : (a : Action) {x : ℕ} {A : Type 0} → distinct (action_nodes a) ≡ true → x ∈ cell_nodes (part_cells (parts a)) → x ∈ (roles_of a ++ hidden_of a) → A
cells_apart a h i j = distinct_apart (cell_nodes (part_cells (parts a))) (roles_of a ++ hidden_of a) (distinct_right (declared_of a) (cell_nodes (part_cells (parts a)) ++ (roles_of a ++ hidden_of a)) h) i j

roles_apart : (a : Action) {x : ℕ} {A : Type 0} → distinct (action_nodes a) ≡ true → x ∈ roles_of a → x ∈ hidden_of a → A
roles_apart a h i j =
    distinct_apart (roles_of a) (hidden_of a) (distinct_right (cell_nodes (part_cells (parts a))) (roles_of a ++ hidden_of a) (distinct_right (declared_of a) (cell_nodes (part_cells (parts a)) ++ (roles_of a ++ hidden_of a)) h)) i j

cell_same : (a : Action) {c c' : Cell} → distinct (action_nodes a) ≡ true → c ∈ part_cells (parts a) → c' ∈ part_cells (parts a) → c.node ≡ c'.node → c ≡ c'
cell_same a {c} {c'} h i j e =
    flat_once (λ (d : Cell). d.node ∷ []) (part_cells (parts a))
    (distinct_left (cell_nodes (part_cells (parts a))) (roles_of a ++ hidden_of a) (distinct_right (declared_of a) (cell_nodes (part_cells (parts a)) ++ (roles_of a ++ hidden_of a)) h))
    i j first (subst (λ (n : ℕ). c.node ∈ (n ∷ [])) e first)

two_of_one : {v t : ℕ} {A : Type 0} → distinct (v ∷ t ∷ []) ≡ true → v ≡ t → A
two_of_one {v} {t} h e = distinct_apart (v ∷ []) (t ∷ []) h first (subst (λ (n : ℕ). v ∈ (n ∷ [])) e first)

roles_distinct : (a : Action) → distinct (action_nodes a) ≡ true → distinct (roles_of a) ≡ true
roles_distinct a h = distinct_left (roles_of a) (hidden_of a) (distinct_right (cell_nodes (part_cells (parts a))) (roles_of a ++ hidden_of a) (distinct_right (declared_of a) (cell_nodes (part_cells (parts a)) ++ (roles_of a ++ hidden_of a)) h))

pub hidden_distinct : (a : Action) → distinct (action_nodes a) ≡ true → distinct (hidden_of a) ≡ true
hidden_distinct a h = distinct_right (roles_of a) (hidden_of a) (distinct_right (cell_nodes (part_cells (parts a))) (roles_of a ++ hidden_of a) (distinct_right (declared_of a) (cell_nodes (part_cells (parts a)) ++ (roles_of a ++ hidden_of a)) h))

role_same : {at n x y : ℕ} {a : Action} {r r' : Bool} → distinct (roles_of a) ≡ true → Role (stmt at n a) x r → Role (stmt at n a) y r' → x ≡ y → r ≡ r'
role_same h range_value_role range_value_role e = refl
role_same h range_value_role range_turn_role e = two_of_one h e
role_same h range_turn_role range_value_role e = two_of_one h (sym e)
role_same h range_turn_role range_turn_role e = refl
role_same h each_value_role each_value_role e = refl
role_same h each_value_role each_key_role e = two_of_one h e
role_same h each_key_role each_value_role e = two_of_one h (sym e)
role_same h each_key_role each_key_role e = refl

abbrev pub block_nodes : Block → List ℕ
block_nodes b = flat nodes (block_list b)

abbrev pub writer_of : Stmt → List ℕ
writer_of (stmt at n (fill a c)) = n ∷ []
writer_of (stmt at n (insert a i c)) = n ∷ []
writer_of _ = []

module _ (s : Core) (once_zero : distinct (0 ∷ flat block_nodes (script_blocks s)) ≡ true) where
  once : distinct (flat block_nodes (script_blocks s)) ≡ true
  once = distinct_right (0 ∷ []) (flat block_nodes (script_blocks s)) once_zero

  node_of : {st : Stmt} {n : ℕ} → st ∈ script_stmts s → n ∈ nodes st → n ∈ flat block_nodes (script_blocks s)
  node_of m i = let r = among_split (script_blocks s) m in flat_in block_nodes (script_blocks s) r.1 (flat_in nodes (block_list r.0) r.2 i)

  -- a node is of one block
  block_once : {b b' : Block} {st st' : Stmt} {n : ℕ} → b ∈ script_blocks s → b' ∈ script_blocks s → st ∈ block_list b → st' ∈ block_list b' → n ∈ nodes st → n ∈ nodes st' → b ≡ b'
  block_once {b} {b'} m m' i i' j j' = flat_once block_nodes (script_blocks s) once m m' (flat_in nodes (block_list b) i j) (flat_in nodes (block_list b') i' j')

  -- and of one statement
  pub stmt_once : {st st' : Stmt} {n : ℕ} → st ∈ script_stmts s → st' ∈ script_stmts s → n ∈ nodes st → n ∈ nodes st' → st ≡ st'
  stmt_once {st} {st'} m m' j j' =
      let r = among_split (script_blocks s) m in
      let r' = among_split (script_blocks s) m' in
      let same = block_once r.1 r'.1 r.2 r'.2 j j' in
      flat_once nodes (block_list r'.0) (flat_distinct block_nodes (script_blocks s) once r'.1) (subst (λ (b : Block). st ∈ block_list b) same r.2) r'.2 j j'

  pub stmt_distinct : {st : Stmt} → st ∈ script_stmts s → distinct (nodes st) ≡ true
  stmt_distinct m =
      let r = among_split (script_blocks s) m in
      flat_distinct nodes (block_list r.0) (flat_distinct block_nodes (script_blocks s) once r.1) r.2

  no_zero : {st : Stmt} {A : Type 0} → st ∈ script_stmts s → 0 ∈ nodes st → A
  no_zero m i = distinct_apart (0 ∷ []) (flat block_nodes (script_blocks s)) once_zero first (node_of m i)

  pub cell_once : (st st' : Stmt) (c c' : Cell) → st ∈ script_stmts s → st' ∈ script_stmts s → c ∈ cells st → c' ∈ cells st' → c.node ≡ c'.node → (st ≡ st') × (c ≡ c')
  cell_once st st' c c' m m' i i' e =
      let same : st ≡ st' = stmt_once m m' (subst (λ (n : ℕ). n ∈ nodes st) e (cells_of st i)) (cells_of st' i') in
      (same, within st' (stmt_distinct m') (subst (λ (z : Stmt). c ∈ cells z) same i) i')
    where
      within : (z : Stmt) → distinct (nodes z) ≡ true → c ∈ cells z → c' ∈ cells z → c ≡ c'
      within (stmt at n a) h i j = cell_same a h i j e

  pub role_once : (st st' : Stmt) (x : ℕ) (r r' : Bool) → st ∈ script_stmts s → st' ∈ script_stmts s → Role st x r → Role st' x r' → (st ≡ st') × (r ≡ r')
  role_once st st' x r r' m m' i i' =
      let same : st ≡ st' = stmt_once m m' (roles_in st i) (roles_in st' i') in
      (same, within st' (stmt_distinct m') (subst (λ (z : Stmt). Role z x r) same i) i')
    where
      within : (z : Stmt) → distinct (nodes z) ≡ true → Role z x r → Role z x r' → r ≡ r'
      within (stmt at n a) h i j = role_same (roles_distinct a h) i j refl

  pub role_cells : (st st' : Stmt) (c : Cell) (r : Bool) → st ∈ script_stmts s → st' ∈ script_stmts s → c ∈ cells st → Role st' c.node r → ⊥
  role_cells st st' c r m m' i j =
      let same : st ≡ st' = stmt_once m m' (cells_of st i) (roles_in st' j) in
      within st' (stmt_distinct m') (subst (λ (z : Stmt). c ∈ cells z) same i) j
    where
      within : (z : Stmt) → distinct (nodes z) ≡ true → c ∈ cells z → Role z c.node r → ⊥
      within (stmt at n a) h i j = cells_apart a h (cell_node a i) (to_left (roles_of a) (hidden_of a) (role_number j))

  pub one_block : (b b' : Block) (what : Owned) → b ∈ script_blocks s → b' ∈ script_blocks s → Declares b what → Declares b' what → b ≡ b'
  one_block b b' what m m' d d' =
      let e : d.node ≡ d'.node = local_same (sym d.is ∙ d'.is) in
      block_once m m' d.there d'.there (declared_node (declare d.node) first) (subst (λ (n : ℕ). d.node ∈ action_nodes (declare n)) e (declared_node (declare d.node) first))
    where
      local_same : {m n : ℕ} → local m ≡ local n → m ≡ n
      local_same h = cc

-- WHERE TARGETS LIE

-- the nodes that a target may have: those that are declared, the outputs of calls in expressions, and 0
abbrev pub stmt_targets : Stmt → List ℕ
stmt_targets (stmt at n a) = declared_of a ++ hidden_of a

abbrev pub target_nodes : Core → List ℕ
target_nodes s = 0 ∷ flat stmt_targets (script_stmts s)

-- a name that may be a target
abbrev pub may_be : Core → Owned → Bool
may_be s (local n) = has n (target_nodes s)
may_be s (input i) = false
may_be s (output j) = true

abbrev pub may_be_target : Core → Name → Bool
may_be_target s x = may_be s x.what

-- the targets of a statement, and the outputs of its calls, may be targets
abbrev pub targets_fine : Core → Stmt → Bool
targets_fine s (stmt at n a) = every (may_be_target s) (by_name a) && every (λ (c : Call). every (may_be_target s) c.outputs) (stmt_calls (stmt at n a))

named_at : (p : Name → Bool) (xs : List Name) (j : ℕ) → every p xs ≡ true → p (here 0) ≡ true → p (name_at xs j) ≡ true
named_at p [] j h z = z
named_at p (x ∷ xs) zero h z = (and_parts (p x) (every p xs) h).0
named_at p (x ∷ xs) (suc j) h z = named_at p xs j (and_parts (p x) (every p xs) h).1 z

pub found_one : (p : Call → Bool) (cs : List Call) (c : Call) → find p cs ≡ Some c → c ∈ cs
found_one p [] c h = absurd (cc (h))
found_one p (d ∷ cs) c h = by (p d) h (λ e. found_one p cs c e)
  where
    some_same : {x y : Call} → ◌≡◌ {A = Option Call} (Some x) (Some y) → x ≡ y
    some_same e = cc

    by : (b : Bool) → cond b (Some d) (find p cs) ≡ Some c → (find p cs ≡ Some c → c ∈ cs) → c ∈ (d ∷ cs)
    by true e rec = subst (λ (z : Call). z ∈ (d ∷ cs)) (some_same e) first
    by false e rec = later (rec e)

pub among_calls : (ss : List Stmt) {c : Call} → c ∈ calls_among ss → (st : Stmt) × (st ∈ ss) × (c ∈ stmt_calls st)
among_calls [] m = elim m [ ]
among_calls (s ∷ ss) m = elim (either (stmt_calls s) (calls_among ss) m) [ inl i ↦ (s, first, i) | inr i ↦ (let r = among_calls ss i in (r.0, later r.1, r.2)) ]

pub call_among : (ss : List Stmt) {st : Stmt} {c : Call} → st ∈ ss → c ∈ stmt_calls st → c ∈ calls_among ss
call_among [] m i = elim m [ ]
call_among (s ∷ ss) first i = to_left (stmt_calls s) (calls_among ss) i
call_among (s ∷ ss) (later m) i = to_right (stmt_calls s) (calls_among ss) (call_among ss m i)

module _ (s : Core) (fine : every (targets_fine s) (script_stmts s) ≡ true) where
  outputs_fine : (st : Stmt) {c : Call} → st ∈ script_stmts s → c ∈ stmt_calls st → every (may_be_target s) c.outputs ≡ true
  outputs_fine (stmt at n a) m i =
      every_in (λ (c : Call). every (may_be_target s) c.outputs) (stmt_calls (stmt at n a)) (and_parts (every (may_be_target s) (by_name a)) (every (λ (c : Call). every (may_be_target s) c.outputs) (stmt_calls (stmt at n a))) (every_in (targets_fine s) (script_stmts s) fine m)).1 i

  target_fine : {at n : ℕ} {a : Action} {x : Name} → stmt at n a ∈ script_stmts s → x ∈ by_name a → may_be s x.what ≡ true
  target_fine {at} {n} {a} m i =
      every_in (may_be_target s) (by_name a) (and_parts (every (may_be_target s) (by_name a)) (every (λ (c : Call). every (may_be_target s) c.outputs) (stmt_calls (stmt at n a))) (every_in (targets_fine s) (script_stmts s) fine m)).0 i

  output_fine : (o : Option Call) (at j : ℕ) → call_at s at ≡ o → may_be s (output_name o j).what ≡ true
  output_fine None at j e = refl
  output_fine (Some c) at j e =
      let r = among_calls (script_stmts s) (found_one (λ d. nat_eq d.at at) (calls_among (script_stmts s)) c e) in
      named_at (may_be_target s) c.outputs j (outputs_fine r.0 r.1 r.2) refl

  -- a target's place has one of these nodes
  place_node : (path : Path) (up : ℕ) (what : Owned) → may_be s what ≡ true → (place_of s path up what).1 ∈ target_nodes s
  place_node [] up (local n) h = in_has n (target_nodes s) h
  place_node [] up (output j) h = first
  place_node [] up (input i) h = absurd (cc (h))
  place_node (t ∷ path) (suc up) what h = place_node path up what h
  place_node (t ∷ path) zero (local n) h = in_has n (target_nodes s) h
  place_node (t ∷ path) zero (input i) h = absurd (cc (h))
  place_node (t ∷ path) zero (output j) h = place_node path (output_name (call_at s t.0) j).up (output_name (call_at s t.0) j).what (output_fine (call_at s t.0) t.0 j refl)

pub split_flat : {X : Type 0} (f : X → List ℕ) (xs : List X) {n : ℕ} → n ∈ flat f xs → (x : X) × (x ∈ xs) × (n ∈ f x)
split_flat f [] m = elim m [ ]
split_flat f (x ∷ xs) m = elim (either (f x) (flat f xs) m) [ inl i ↦ (x, first, i) | inr i ↦ (let r = split_flat f xs i in (r.0, later r.1, r.2)) ]

module _ (s : Core) (once_zero : distinct (0 ∷ flat block_nodes (script_blocks s)) ≡ true) (fine : every (targets_fine s) (script_stmts s) ≡ true) where
  stmt_target : (st : Stmt) {n : ℕ} → n ∈ stmt_targets st → n ∈ nodes st
  stmt_target (stmt at m a) i = elim (either (declared_of a) (hidden_of a) i) [ inl j ↦ declared_node a j | inr j ↦ hidden_node a j ]

  -- no cell has a target's node
  cell_not_target : {st : Stmt} {c : Cell} {A : Type 0} → st ∈ script_stmts s → c ∈ cells st → c.node ∈ target_nodes s → A
  cell_not_target {st} {c} {A} m i j = by (split_in j)
    where
      apart : (z : Stmt) → distinct (nodes z) ≡ true → c ∈ cells z → c.node ∈ stmt_targets z → A
      apart (stmt at n a) h k l = elim (either (declared_of a) (hidden_of a) l) [
        | inl d ↦ declared_apart a h d (to_left (cell_nodes (part_cells (parts a))) (roles_of a ++ hidden_of a) (cell_node a k))
        | inr d ↦ cells_apart a h (cell_node a k) (to_right (roles_of a) (hidden_of a) d)
      ]

      by : ((c.node ≡ 0) ⊎ (c.node ∈ flat stmt_targets (script_stmts s))) → A
      by (inl e) = no_zero s once_zero m (subst (λ (n : ℕ). n ∈ nodes st) e (cells_of st i))
      by (inr k) =
          let r = split_flat stmt_targets (script_stmts s) k in
          let same : st ≡ r.0 = stmt_once s once_zero m r.1 (cells_of st i) (stmt_target r.0 r.2) in
          apart r.0 (stmt_distinct s once_zero r.1) (subst (λ (z : Stmt). c ∈ cells z) same i) r.2

  -- and no loop variable
  role_not_target : {st : Stmt} {x : ℕ} {r : Bool} {A : Type 0} → st ∈ script_stmts s → Role st x r → x ∈ target_nodes s → A
  role_not_target {st} {x} {r} {A} m i j = by (split_in j)
    where
      apart : (z : Stmt) → distinct (nodes z) ≡ true → Role z x r → x ∈ stmt_targets z → A
      apart (stmt at n a) h k l = elim (either (declared_of a) (hidden_of a) l) [
        | inl d ↦ declared_apart a h d (to_right (cell_nodes (part_cells (parts a))) (roles_of a ++ hidden_of a) (to_left (roles_of a) (hidden_of a) (role_number k)))
        | inr d ↦ roles_apart a h (role_number k) d
      ]

      by : ((x ≡ 0) ⊎ (x ∈ flat stmt_targets (script_stmts s))) → A
      by (inl e) = no_zero s once_zero m (subst (λ (n : ℕ). n ∈ nodes st) e (roles_in st i))
      by (inr k) =
          let q = split_flat stmt_targets (script_stmts s) k in
          let same : st ≡ q.0 = stmt_once s once_zero m q.1 (roles_in st i) (stmt_target q.0 q.2) in
          apart q.0 (stmt_distinct s once_zero q.1) (subst (λ (z : Stmt). Role z x r) same i) q.2

  pub assign_apart : (at n : ℕ) (x : Name) (o : Outer) (st : Stmt) (c : Cell) (path path' : Path) → stmt at n (assign x o) ∈ script_stmts s → st ∈ script_stmts s → c ∈ cells st → place s path x ≡ (path', c.node) → ⊥
  assign_apart at n x o st c path path' m m' i e =
      cell_not_target m' i (subst (λ (z : ℕ). z ∈ target_nodes s) (ap (λ (z : Place). z.1) e) (place_node s fine path x.up x.what (target_fine s fine m first)))

  pub role_assign : (at n : ℕ) (x : Name) (o : Outer) (st : Stmt) (y : ℕ) (r : Bool) (path path' : Path) → stmt at n (assign x o) ∈ script_stmts s → st ∈ script_stmts s → Role st y r → place s path x ≡ (path', y) → ⊥
  role_assign at n x o st y r path path' m m' i e =
      role_not_target m' i (subst (λ (z : ℕ). z ∈ target_nodes s) (ap (λ (z : Place). z.1) e) (place_node s fine path x.up x.what (target_fine s fine m first)))
