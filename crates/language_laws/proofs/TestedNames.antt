-- A test that names stand where they are declared, and that calls are found.
use Rattle.std.specs.Prelude.{◌≡◌, ◌⊎◌, ℕ, zero, suc, ◌<◌, Bool, true, false, not, ◌&&◌, ◌||◌, List, [], ◌∷◌, ◌++◌, length, Option, Some, None, ℤ, cond, nat_eq, nat_lt, find, slice_get, refl}
use Rattle.std.proofs.Common.{inl, inr, sym, ap, ◌∙◌, subst, arith}
use Rattle.std.proofs.lemmas.Bool.{eqb-true, ltb-true, or_cases, and_parts}
use Rattle.values.specs.Operators as op
use Rattle.values.specs.Operators.{literal}
use Rattle.language.specs.Core.{Owned, local, input, output, Name, here, literal as lit, name as nm, whole, operator, Form, compute, read, Call, Part, inner, calls, Outer, Stmt, stmt, Action, declare, call_alone, assign, fill, insert, print, assert, when, choose, range, each, wait, Block, no_stmts, stmts, Function, Core}
use Rattle.language.specs.Members.{◌∈◌, first, later}
use Rattle.language.specs.Parts.{block_list, script_blocks, script_stmts, stmt_calls, part_calls, parts, by_name, by_element, calls_among, call_at}
use Rattle.language.specs.WellFormed.{header_blocks, Declares, Uses, own, inside, in_wait, IsHidden, IsAlone, IsMany, a_list, a_copy, WellFormed}
use Rattle.language.proofs.Blocks.{among_script}
use Rattle.language_laws.proofs.Declared.{local_same}
use Rattle.language_laws.proofs.OneAssign.{function_in}
use Rattle.language.proofs.Members.{split_in, to_left, to_right, either}
use Rattle.language.proofs.Tested.{flat, has_in, in_has, self_eq, distinct_apart, distinct_right, flat_in, flat_once, every, every_in, declared_of, name_nodes, hidden_calls, hidden_of, nodes, block_nodes, writer_of, declared_node, hidden_node, stmt_once, stmt_distinct, cell_once, role_once, role_cells, one_block, targets_fine, call_among, assign_apart, role_assign, split_flat, among_split, hidden_distinct}
use Rattle.language.specs.Distinct.{has, distinct}

-- NAMES

abbrev pub declared_by : Stmt → List ℕ
declared_by (stmt at n a) = declared_of a

abbrev pub declared_in : Block → List ℕ
declared_in b = flat declared_by (block_list b)

abbrev pub declares : Block → Owned → Bool
declares b (local n) = has n (declared_in b)
declares b (input i) = false
declares b (output j) = false

abbrev pub is_here : ℕ → Bool
is_here zero = true
is_here (suc n) = false

abbrev pub lower : ℕ → Owned → List Name
lower zero what = []
lower (suc up) what = record { up = up; what = what } ∷ []

-- names that are seen from the block round this one
abbrev pub lowered : List Name → List Name
lowered [] = []
lowered (x ∷ xs) = lower x.up x.what ++ lowered xs

abbrev pub unless : Bool → Name → List Name
unless true x = []
unless false x = x ∷ []

-- names that the block does not declare
abbrev pub undeclared : Block → List Name → List Name
undeclared b [] = []
undeclared b (x ∷ xs) = unless (declares b x.what) x ++ undeclared b xs

-- the targets in a block and inside it, as seen from the block
abbrev mutual
  pub used : Block → List Name
  used no_stmts = []
  used (stmts s b) = used_in s ++ used b

  pub used_in : Stmt → List Name
  used_in (stmt at n a) = by_name a ++ (by_element a ++ used_below a)

  pub used_below : Action → List Name
  used_below (declare v) = []
  used_below (call_alone p ps c) = []
  used_below (assign x e) = []
  used_below (fill a e) = []
  used_below (insert a k e) = []
  used_below (print p e) = []
  used_below (assert p e) = []
  used_below (when c b) = lowered (used b)
  used_below (choose c b d) = lowered (used b) ++ lowered (used d)
  used_below (range lo hi st v t b) = lowered (used b)
  used_below (each a v t b) = lowered (used b)
  used_below (wait ns b) = undeclared b (used b)

lowered_in : (xs : List Name) {up : ℕ} {what : Owned} → record { up = suc up; what = what } ∈ xs → record { up = up; what = what } ∈ lowered xs
lowered_in (x ∷ xs) {up} {what} m = by (split_in m) (λ k. lowered_in xs k)
  where
    by : ((record { up = suc up; what = what } ≡ x) ⊎ (record { up = suc up; what = what } ∈ xs)) → (record { up = suc up; what = what } ∈ xs → record { up = up; what = what } ∈ lowered xs) → record { up = up; what = what } ∈ lowered (x ∷ xs)
    by (inl e) rec = to_left (lower x.up x.what) (lowered xs) (subst (λ (z : Name). record { up = up; what = what } ∈ lower z.up z.what) e first)
    by (inr k) rec = to_right (lower x.up x.what) (lowered xs) (rec k)
lowered_in [] m = elim m [ ]

pub declares_it : (b : Block) (what : Owned) → declares b what ≡ true → Declares b what
declares_it b (input i) h = absurd (cc (h))
declares_it b (output j) h = absurd (cc (h))
declares_it b (local n) h = of_stmts (block_list b) (λ st m. m) (in_has n (declared_in b) h)
  where
    of_stmts : (ss : List Stmt) → ((st : Stmt) → st ∈ ss → st ∈ block_list b) → n ∈ flat declared_by ss → Declares b (local n)
    of_stmts [] f m = elim m [ ]
    of_stmts (stmt at k a ∷ ss) f m = by a (f (stmt at k a) first) (either (declared_of a) (flat declared_by ss) m) (λ j. of_stmts ss (λ st i. f st (later i)) j)
      where
        by : (a : Action) → stmt at k a ∈ block_list b → ((n ∈ declared_of a) ⊎ (n ∈ flat declared_by ss)) → (n ∈ flat declared_by ss → Declares b (local n)) → Declares b (local n)
        by a i (inr j) rec = rec j
        by (declare v) i (inl j) rec = elim (split_in j) [
          | inl e ↦ record { node = v; at = at; stmt_node = k; is = ap local e; there = i }
          | inr x ↦ elim x [ ]
        ]
        by (call_alone p ps c) i (inl j) rec = elim j [ ]
        by (assign x e) i (inl j) rec = elim j [ ]
        by (fill a e) i (inl j) rec = elim j [ ]
        by (insert a k e) i (inl j) rec = elim j [ ]
        by (print p e) i (inl j) rec = elim j [ ]
        by (assert p e) i (inl j) rec = elim j [ ]
        by (when c b) i (inl j) rec = elim j [ ]
        by (choose c b d) i (inl j) rec = elim j [ ]
        by (range lo hi st v t b) i (inl j) rec = elim j [ ]
        by (each a v t b) i (inl j) rec = elim j [ ]
        by (wait ns b) i (inl j) rec = elim j [ ]

pub declared_it : (b : Block) (what : Owned) → Declares b what → declares b what ≡ true
declared_it b what d = subst (λ (o : Owned). declares b o ≡ true) (sym d.is) (has_in (flat_in declared_by (block_list b) d.there first))

undeclared_in : (b : Block) (xs : List Name) {x : Name} → x ∈ xs → (declares b x.what ≡ true → ⊥) → x ∈ undeclared b xs
undeclared_in b [] m h = elim m [ ]
undeclared_in b (y ∷ xs) {x} m h = by (split_in m) (λ k. undeclared_in b xs k h)
  where
    kept : (t : Bool) → (t ≡ true → ⊥) → x ∈ unless t x
    kept true n = absurd (n refl)
    kept false n = first

    by : ((x ≡ y) ⊎ (x ∈ xs)) → (x ∈ xs → x ∈ undeclared b xs) → x ∈ undeclared b (y ∷ xs)
    by (inl e) rec = to_left (unless (declares b y.what) y) (undeclared b xs) (subst (λ (z : Name). x ∈ unless (declares b z.what) z) e (kept (declares b x.what) h))
    by (inr k) rec = to_right (unless (declares b y.what) y) (undeclared b xs) (rec k)

in_used : (b : Block) {st : Stmt} {x : Name} → st ∈ block_list b → x ∈ used_in st → x ∈ used b
in_used no_stmts i m = elim i [ ]
in_used (stmts s b) {st} {x} i m = elim (split_in i) [
  | inl e ↦ to_left (used_in s) (used b) (subst (λ (z : Stmt). x ∈ used_in z) e m)
  | inr j ↦ to_right (used_in s) (used b) (in_used b j m)
]

one_block_used : {b c : Block} {x : Name} → c ∈ (b ∷ []) → x ∈ lowered (used c) → x ∈ lowered (used b)
one_block_used {b} {c} {x} m i = elim (split_in m) [ inl e ↦ subst (λ (z : Block). x ∈ lowered (used z)) e i | inr n ↦ elim n [ ] ]

below_used : (a : Action) {c : Block} {x : Name} → c ∈ header_blocks a → x ∈ lowered (used c) → x ∈ used_below a
below_used (declare v) m i = elim m [ ]
below_used (call_alone p ps c) m i = elim m [ ]
below_used (assign x e) m i = elim m [ ]
below_used (fill a e) m i = elim m [ ]
below_used (insert a k e) m i = elim m [ ]
below_used (print p e) m i = elim m [ ]
below_used (assert p e) m i = elim m [ ]
below_used (when c b) m i = one_block_used m i
below_used (choose c b d) {x = x} m i = elim (split_in m) [
  | inl e ↦ to_left (lowered (used b)) (lowered (used d)) (subst (λ (z : Block). x ∈ lowered (used z)) e i)
  | inr n ↦ to_right (lowered (used b)) (lowered (used d)) (one_block_used n i)
]
below_used (range lo hi st v t b) m i = one_block_used m i
below_used (each a v t b) m i = one_block_used m i
below_used (wait ns b) m i = elim m [ ]

-- each target in a block is among them
pub uses_used : {b : Block} {up : ℕ} {what : Owned} → Uses b up what → record { up = up; what = what } ∈ used b
uses_used {b} (own {a = a} i (inl m)) = in_used b i (to_left (by_name a) (by_element a ++ used_below a) m)
uses_used {b} (own {a = a} i (inr m)) = in_used b i (to_right (by_name a) (by_element a ++ used_below a) (to_left (by_element a) (used_below a) m))
uses_used {b} (inside {c = c} {a = a} i m u) = in_used b i (to_right (by_name a) (by_element a ++ used_below a) (to_right (by_element a) (used_below a) (below_used a m (lowered_in (used c) (uses_used u)))))
uses_used {b} (in_wait {c = c} {what = what} {ns = ns} i u n) = in_used b i (undeclared_in c (used c) (uses_used u) (λ h. n (declares_it c what h)))

-- THE TEST

abbrev pub implies : Bool → Bool → Bool
implies a b = not a || b

implied : (a b : Bool) → implies a b ≡ true → a ≡ true → b ≡ true
implied true b h k = h
implied false b h k = absurd (cc (k))

here_zero : (n : ℕ) → is_here n ≡ true → n ≡ 0
here_zero zero h = refl
here_zero (suc n) h = absurd (cc (h))

abbrev pub all_declared : Core → List ℕ
all_declared s = flat declared_by (script_stmts s)

abbrev pub is_declared : Core → Owned → Bool
is_declared s (local n) = has n (all_declared s)
is_declared s (input i) = true
is_declared s (output j) = true

abbrev pub named_fine : Core → Stmt → Bool
named_fine s (stmt at n a) = every (λ (x : Name). is_declared s x.what) (by_name a)

abbrev pub here_and_declared : Block → Name → Bool
here_and_declared b x = is_here x.up && declares b x.what

abbrev pub here_then_declared : Block → Name → Bool
here_then_declared b x = implies (is_here x.up) (declares b x.what)

abbrev pub declared_then_here : Block → Name → Bool
declared_then_here b x = implies (declares b x.what) (is_here x.up)

abbrev pub block_names : Block → Bool
block_names c = every (here_then_declared c) (used c)

abbrev pub headers_fine : Stmt → Bool
headers_fine (stmt at n a) = every block_names (header_blocks a)

abbrev pub waits_fine : Block → Bool
waits_fine c = every (declared_then_here c) (used c)

abbrev pub output_below : ℕ → Owned → Bool
output_below n (local m) = true
output_below n (input i) = true
output_below n (output j) = nat_lt j n

abbrev pub is_output : Owned → Bool
is_output (local m) = false
is_output (input i) = false
is_output (output j) = true

abbrev pub function_name : Function → Name → Bool
function_name f x = is_here x.up && ((declares f.body x.what || is_output x.what) && output_below f.outputs x.what)

abbrev pub function_fine : Function → Bool
function_fine f = every (function_name f) (used f.body)

abbrev pub counts_of : Option Function → Call → Bool
counts_of None c = true
counts_of (Some f) c = nat_eq (length c.outputs) f.outputs

abbrev pub call_fine : Core → Call → Bool
call_fine s c = counts_of (slice_get s.functions c.function) c

abbrev pub calls_fine : Core → Stmt → Bool
calls_fine s st = every (call_fine s) (stmt_calls st)

abbrev pub is_local : ℕ → Owned → Bool
is_local zero (local n) = true
is_local zero (input i) = false
is_local zero (output j) = false
is_local (suc up) what = false

abbrev pub one_hidden : List Name → Bool
one_hidden [] = false
one_hidden (x ∷ []) = is_local x.up x.what
one_hidden (x ∷ y ∷ xs) = false

abbrev pub hidden_fine : Stmt → Bool
hidden_fine (stmt at n a) = every (λ (c : Call). one_hidden c.outputs) (hidden_calls a)

abbrev pub is_many : Form → Bool
is_many (compute (operator literal es)) = true
is_many (compute (whole a)) = true
is_many _ = false

abbrev pub fill_fine : Stmt → Bool
fill_fine (stmt at n (fill a c)) = is_many c.cell.form
fill_fine _ = true

abbrev pub offset : Call → List ℕ
offset c = c.at ∷ []

-- a core passes the test
pub record Passes (s : Core) : Type 0 where
  pub nodes_once : distinct (0 ∷ flat block_nodes (script_blocks s)) ≡ true
  pub writers_once : distinct (flat writer_of (script_stmts s)) ≡ true
  pub offsets_once : distinct (flat offset (calls_among (script_stmts s))) ≡ true
  pub targets : every (targets_fine s) (script_stmts s) ≡ true
  pub named : every (named_fine s) (script_stmts s) ≡ true
  pub script_body : every (here_and_declared s.body) (used s.body) ≡ true
  pub headers : every headers_fine (script_stmts s) ≡ true
  pub waits : every waits_fine (script_blocks s) ≡ true
  pub functions : every function_fine s.functions ≡ true
  pub calls : every (calls_fine s) (script_stmts s) ≡ true
  pub hidden : every hidden_fine (script_stmts s) ≡ true
  pub fills : every fill_fine (script_stmts s) ≡ true

pub find_once : (cs : List Call) (c : Call) → distinct (flat offset cs) ≡ true → c ∈ cs → find (λ d. nat_eq d.at c.at) cs ≡ Some c
find_once [] c h m = elim m [ ]
find_once (d ∷ cs) c h m = by (nat_eq d.at c.at) refl (split_in m) (λ k. find_once cs c (distinct_right (d.at ∷ []) (flat offset cs) h) k)
  where
    by : (b : Bool) → nat_eq d.at c.at ≡ b → ((c ≡ d) ⊎ (c ∈ cs)) → (c ∈ cs → find (λ d. nat_eq d.at c.at) cs ≡ Some c) → cond b (Some d) (find (λ d. nat_eq d.at c.at) cs) ≡ Some c
    by true e (inl q) rec = ap (λ (z : Call). Some z) (sym q)
    by true e (inr k) rec = distinct_apart (d.at ∷ []) (flat offset cs) h first (subst (λ (n : ℕ). n ∈ flat offset cs) (sym (eqb-true d.at c.at e)) (flat_in offset cs k first))
    by false e (inr k) rec = rec k
    by false e (inl q) rec = absurd (no_self (sym e ∙ subst (λ (z : Call). nat_eq z.at c.at ≡ true) q (self_eq c.at)))
      where
        no_self : false ≡ true → ⊥
        no_self h = absurd (cc (h))

pub get_below : (xs : List Name) (j : ℕ) → j < length xs → (x : Name) × (slice_get xs j ≡ Some x)
get_below [] j h = absurd (omega arith)
get_below (x ∷ xs) zero h = (x, refl)
get_below (x ∷ xs) (suc j) h = get_below xs j (omega arith)

alone_calls : (ps : List Part) (c d : Call) → d ∈ part_calls (ps ++ calls c ∷ []) → (d ∈ part_calls ps) ⊎ (d ≡ c)
alone_calls [] c d m = elim (split_in m) [ inl e ↦ inr e | inr n ↦ elim n [ ] ]
alone_calls (inner x ∷ ps) c d m = alone_calls ps c d m
alone_calls (calls x ∷ ps) c d m = elim (split_in m) [ inl e ↦ inl (subst (λ (z : Call). d ∈ (z ∷ part_calls ps)) e first) | inr k ↦ elim (alone_calls ps c d k) [ inl i ↦ inl (later i) | inr e ↦ inr e ] ]

-- a call of a statement stands in an expression, or is the statement's own
pub record IsOwnCall (a : Action) (c : Call) : Type 0 where
  pub priority : ℤ
  pub parts : List Part
  pub is : a ≡ call_alone priority parts c

pub kinds : (a : Action) (c : Call) → c ∈ part_calls (parts a) → (c ∈ hidden_calls a) ⊎ IsOwnCall a c
kinds (declare v) c m = inl m
kinds (call_alone p ps d) c m = elim (alone_calls ps d c m) [ inl i ↦ inl i | inr e ↦ inr (record { priority = p; parts = ps; is = ap (λ (z : Call). call_alone p ps z) (sym e) }) ]
kinds (assign x e) c m = inl m
kinds (fill a e) c m = inl m
kinds (insert a k e) c m = inl m
kinds (print p e) c m = inl m
kinds (assert p e) c m = inl m
kinds (when e b) c m = inl m
kinds (choose e b d) c m = inl m
kinds (range lo hi st v t b) c m = inl m
kinds (each a v t b) c m = inl m
kinds (wait ns b) c m = inl m

pub hidden_shape : (xs : List Name) → one_hidden xs ≡ true → (n : ℕ) × (xs ≡ here n ∷ [])
hidden_shape [] h = absurd (cc (h))
hidden_shape (x ∷ []) h = by x.up x.what h
  where
    by : (up : ℕ) (what : Owned) → is_local up what ≡ true → (n : ℕ) × (record { up = up; what = what } ∷ [] ≡ here n ∷ [])
    by zero (local n) h = (n, refl)
    by zero (input i) h = absurd (cc (h))
    by zero (output j) h = absurd (cc (h))
    by (suc up) what h = absurd (cc (h))
hidden_shape (x ∷ y ∷ xs) h = absurd (cc (h))

pub is_many_form : (f : Form) → is_many f ≡ true → IsMany f
is_many_form (compute (whole a)) h = a_copy
is_many_form (compute (lit v)) h = absurd (cc (h))
is_many_form (compute (nm x)) h = absurd (cc (h))
is_many_form (read a i) h = absurd (cc (h))
is_many_form (compute (operator (op.sum_of ss) es)) h = absurd (cc (h))
is_many_form (compute (operator (op.product_of fs) es)) h = absurd (cc (h))
is_many_form (compute (operator (op.compare o) es)) h = absurd (cc (h))
is_many_form (compute (operator op.equal es)) h = absurd (cc (h))
is_many_form (compute (operator op.unequal es)) h = absurd (cc (h))
is_many_form (compute (operator op.all_true es)) h = absurd (cc (h))
is_many_form (compute (operator op.any_true es)) h = absurd (cc (h))
is_many_form (compute (operator op.not_true es)) h = absurd (cc (h))
is_many_form (compute (operator op.negate es)) h = absurd (cc (h))
is_many_form (compute (operator op.join es)) h = absurd (cc (h))
is_many_form (compute (operator op.from_int es)) h = absurd (cc (h))
is_many_form (compute (operator op.to_int es)) h = absurd (cc (h))
is_many_form (compute (operator op.size es)) h = absurd (cc (h))
is_many_form (compute (operator (op.printf ps) es)) h = absurd (cc (h))
is_many_form (compute (operator op.assert es)) h = absurd (cc (h))
is_many_form (compute (operator op.literal es)) h = a_list

abbrev pub hidden_of_stmt : Stmt → List ℕ
hidden_of_stmt (stmt at n a) = hidden_of a

abbrev hidden_of_action : Stmt → List Call
hidden_of_action (stmt at n a) = hidden_calls a

-- WRITERS: two that are the same have the same parts

pub fill_parts : {at n at' n' : ℕ} {x x' : Name} {c c' : Outer} → stmt at n (fill x c) ≡ stmt at' n' (fill x' c') → (x ≡ x') × (c ≡ c')
fill_parts h = (cc (h), cc (h))

pub insert_parts : {at n at' n' : ℕ} {x x' : Name} {i i' c c' : Outer} → stmt at n (insert x i c) ≡ stmt at' n' (insert x' i' c') → (i ≡ i') × (c ≡ c')
insert_parts h = (cc (h), cc (h))

pub fill_no_insert : {at n at' n' : ℕ} {x x' : Name} {i c c' : Outer} → stmt at n (fill x c) ≡ stmt at' n' (insert x' i c') → ⊥
fill_no_insert h = absurd (cc (h))

-- HIDDEN OUTPUTS: they are cells that no statement declares

module _ (s : Core) (once : distinct (0 ∷ flat block_nodes (script_blocks s)) ≡ true) (fine : every hidden_fine (script_stmts s) ≡ true) where
  no_number : {n : ℕ} {A : Type 0} → n ∈ [] → A
  no_number m = elim m [ ]

  declares_hidden : {at k v n : ℕ} {st : Stmt} {A : Type 0} → stmt at k (declare v) ∈ script_stmts s → st ∈ script_stmts s → v ≡ n → n ∈ hidden_of_stmt st → A
  declares_hidden {at} {k} {v} {n} {st} {A} i j e h =
      let same : stmt at k (declare v) ≡ st = stmt_once s once i j (subst (λ (z : ℕ). z ∈ nodes (stmt at k (declare v))) e (declared_node (declare v) first)) (in_nodes st h) in
      no_number (subst (λ (z : Stmt). n ∈ hidden_of_stmt z) (sym same) h)
    where
      in_nodes : (z : Stmt) → n ∈ hidden_of_stmt z → n ∈ nodes z
      in_nodes (stmt at n a) m = hidden_node a m

  hidden_of_call : {at n : ℕ} {a : Action} {c : Call} → stmt at n a ∈ script_stmts s → c ∈ hidden_calls a → IsHidden s c
  hidden_of_call {at} {n} {a} {c} i m =
      let r = hidden_shape c.outputs (every_in (λ (c : Call). one_hidden c.outputs) (hidden_calls a) (every_in hidden_fine (script_stmts s) fine i) m) in
      record {
        node = r.0;
        is = r.1;
        undeclared = λ b k d. declares_hidden (among_script s k d.there) i (local_same (sym d.is)) (flat_in (λ (d : Call). name_nodes d.outputs) (hidden_calls a) m (subst (λ (xs : List Name). r.0 ∈ name_nodes xs) (sym r.1) first));
      }

  pub kinds_of : (b : Block) (st : Stmt) (c : Call) → b ∈ script_blocks s → st ∈ block_list b → c ∈ stmt_calls st → IsAlone st c ⊎ IsHidden s c
  kinds_of b (stmt at n a) c k i m = elim (kinds a c m) [
    | inl h ↦ inr (hidden_of_call (among_script s k i) h)
    | inr o ↦ inl (record { at = at; node = n; priority = o.priority; parts = o.parts; is = ap (λ (z : Action). stmt at n z) o.is })
  ]

module _ (s : Core) (g : Passes s) where
  -- what nothing declares is no target by name
  alone_declared : {at n m : ℕ} {a : Action} → stmt at n a ∈ script_stmts s → here m ∈ by_name a → m ∈ all_declared s
  alone_declared {at} {n} {m} {a} i j = in_has m (all_declared s) (every_in (λ (x : Name). is_declared s x.what) (by_name a) (every_in (named_fine s) (script_stmts s) g.named i) j)

  declared_in_block : {m : ℕ} → m ∈ all_declared s → (b : Block) × (b ∈ script_blocks s) × Declares b (local m)
  declared_in_block {m} i =
      let r = split_flat declared_by (script_stmts s) i in
      let q = among_split (script_blocks s) r.1 in
      (q.0, q.1, declares_it q.0 (local m) (has_in (flat_in declared_by (block_list q.0) q.2 r.2)))

  hidden_once : (st st' : Stmt) (c c' : Call) (h : IsHidden s c) (h' : IsHidden s c') → st ∈ script_stmts s → st' ∈ script_stmts s → c ∈ stmt_calls st → c' ∈ stmt_calls st' → h.node ≡ h'.node → c ≡ c'
  hidden_once (stmt at n a) (stmt at' n' a') c c' h h' i i' m m' e = by (kinds a c m) (kinds a' c' m')
    where
      not_own : {at n : ℕ} {a : Action} {d : Call} {A : Type 0} (h : IsHidden s d) → stmt at n a ∈ script_stmts s → IsOwnCall a d → A
      not_own {at} {n} {a} {d} h i o =
          let j : here h.node ∈ by_name a = subst (λ (z : Action). here h.node ∈ by_name z) (sym o.is) (subst (λ (xs : List Name). here h.node ∈ xs) (sym h.is) first) in
          let r = declared_in_block (alone_declared i j) in
          absurd (h.undeclared r.0 r.1 r.2)

      by : ((c ∈ hidden_calls a) ⊎ IsOwnCall a c) → ((c' ∈ hidden_calls a') ⊎ IsOwnCall a' c') → c ≡ c'
      by (inr o) x = not_own h i o
      by (inl k) (inr o) = not_own h' i' o
      by (inl k) (inl k') =
          let f : Call → List ℕ = λ d. name_nodes d.outputs in
          let p : h.node ∈ name_nodes c.outputs = subst (λ (xs : List Name). h.node ∈ name_nodes xs) (sym h.is) first in
          let p' : h.node ∈ name_nodes c'.outputs = subst (λ (xs : List Name). h.node ∈ name_nodes xs) (sym h'.is) (subst (λ (z : ℕ). h.node ∈ (z ∷ [])) e first) in
          let same = stmt_once s g.nodes_once i i' (hidden_node a (flat_in f (hidden_calls a) k p)) (hidden_node a' (flat_in f (hidden_calls a') k' p')) in
          let k2 : c ∈ hidden_of_action (stmt at' n' a') = subst (λ (z : Stmt). c ∈ hidden_of_action z) same k in
          flat_once f (hidden_calls a') (hidden_distinct a' (stmt_distinct s g.nodes_once i')) k2 k' p p'

  fill_many : (at n : ℕ) (x : Name) (c : Outer) → stmt at n (fill x c) ∈ script_stmts s → IsMany c.cell.form
  fill_many at n x c i = is_many_form c.cell.form (every_in fill_fine (script_stmts s) g.fills i)

  writer_once : {st st' : Stmt} {n : ℕ} → st ∈ script_stmts s → st' ∈ script_stmts s → n ∈ writer_of st → n ∈ writer_of st' → st ≡ st'
  writer_once i j m k = flat_once writer_of (script_stmts s) g.writers_once i j m k

  used_script : (up : ℕ) (what : Owned) → Uses s.body up what → (up ≡ 0) × Declares s.body what
  used_script up what u =
      let r = and_parts (is_here up) (declares s.body what) (every_in (here_and_declared s.body) (used s.body) g.script_body (uses_used u)) in
      (here_zero up r.0, declares_it s.body what r.1)

  used_header : (b c : Block) (at n : ℕ) (a : Action) (what : Owned) → b ∈ script_blocks s → stmt at n a ∈ block_list b → c ∈ header_blocks a → Uses c 0 what → Declares c what
  used_header b c at n a what k i m u =
      declares_it c what (implied true (declares c what) (every_in (here_then_declared c) (used c) (every_in block_names (header_blocks a) (every_in headers_fine (script_stmts s) g.headers (among_script s k i)) m) (uses_used u)) refl)

  used_wait : (c : Block) (up : ℕ) (what : Owned) → c ∈ script_blocks s → Uses c up what → Declares c what → up ≡ 0
  used_wait c up what k u d =
      here_zero up (implied (declares c what) (is_here up) (every_in (declared_then_here c) (used c) (every_in waits_fine (script_blocks s) g.waits k) (uses_used u)) (declared_it c what d))

  used_function : (i : ℕ) (f : Function) {up : ℕ} {what : Owned} → slice_get s.functions i ≡ Some f → Uses f.body up what → function_name f (record { up = up; what = what }) ≡ true
  used_function i f e u = every_in (function_name f) (used f.body) (every_in function_fine s.functions g.functions (function_in s.functions i f e)) (uses_used u)

  function_names : (i : ℕ) (f : Function) (up : ℕ) (what : Owned) → slice_get s.functions i ≡ Some f → Uses f.body up what → (up ≡ 0) × (Declares f.body what ⊎ ((j : ℕ) × (what ≡ output j)))
  function_names i f up what e u =
      let r = and_parts (is_here up) ((declares f.body what || is_output what) && output_below f.outputs what) (used_function i f e u) in
      let q = and_parts (declares f.body what || is_output what) (output_below f.outputs what) r.1 in
      (here_zero up r.0, elim (or_cases (declares f.body what) (is_output what) q.0) [ inl d ↦ inl (declares_it f.body what d) | inr o ↦ inr (an_output what o) ])
    where
      an_output : (what : Owned) → is_output what ≡ true → (j : ℕ) × (what ≡ output j)
      an_output (output j) h = (j, refl)
      an_output (local n) h = absurd (cc (h))
      an_output (input j) h = absurd (cc (h))

  call_count : (b : Block) (st : Stmt) (c : Call) (f : Function) → b ∈ script_blocks s → st ∈ block_list b → c ∈ stmt_calls st → slice_get s.functions c.function ≡ Some f → length c.outputs ≡ f.outputs
  call_count b st c f k i m e =
      eqb-true (length c.outputs) f.outputs (subst (λ (o : Option Function). counts_of o c ≡ true) e (every_in (call_fine s) (stmt_calls st) (every_in (calls_fine s) (script_stmts s) g.calls (among_script s k i)) m))

  call_outputs : (b : Block) (st : Stmt) (c : Call) (f : Function) (j : ℕ) → b ∈ script_blocks s → st ∈ block_list b → c ∈ stmt_calls st → slice_get s.functions c.function ≡ Some f → Uses f.body 0 (output j) → (x : Name) × (slice_get c.outputs j ≡ Some x)
  call_outputs b st c f j k i m e u =
      let r = and_parts (declares f.body (output j) || is_output (output j)) (output_below f.outputs (output j)) (and_parts (is_here 0) ((declares f.body (output j) || is_output (output j)) && output_below f.outputs (output j)) (used_function c.function f e u)).1 in
      let l = ltb-true j f.outputs r.1 in
      let n = call_count b st c f k i m e in
      get_below c.outputs j (omega arith)

  call_found : (b : Block) (st : Stmt) (c : Call) → b ∈ script_blocks s → st ∈ block_list b → c ∈ stmt_calls st → call_at s c.at ≡ Some c
  call_found b st c k i m = find_once (calls_among (script_stmts s)) c g.offsets_once (call_among (script_stmts s) (among_script s k i) m)

  -- A CORE THAT PASSES KEEPS WHAT AN ACCEPTED SCRIPT'S CORE KEEPS
  pub well_formed : WellFormed s
  well_formed = record {
    names = record {
      one_block = one_block s g.nodes_once;
      script_names = used_script;
      header_names = used_header;
      wait_names = used_wait;
      function_names = function_names;
      call_found = call_found;
      call_outputs = call_outputs;
      call_count = call_count;
      call_kinds = kinds_of s g.nodes_once g.hidden;
    };
    calls = record { hidden_once = hidden_once };
    cells = record { cell_once = cell_once s g.nodes_once; assign_apart = assign_apart s g.nodes_once g.targets; fill_many = fill_many };
    loops = record { role_once = role_once s g.nodes_once; role_cells = role_cells s g.nodes_once; role_assign = role_assign s g.nodes_once g.targets };
    writers = record {
      fill_once = λ at n at' x x' c c' i j. fill_parts (writer_once i j first first);
      insert_once = λ at n at' x x' i i' c c' k l. insert_parts (writer_once k l first first);
      fill_insert = λ at n at' x x' i c c' k l. fill_no_insert (writer_once k l first first);
    };
  }
