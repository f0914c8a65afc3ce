-- What an entry of a body is for: a part of a statement of its block, or the statement itself.
use Rattle.std.proofs.Common.{◌≡◌, ◌⊎◌, inl, inr, ℕ, ℤ, pos, List, [], ◌∷◌, ◌++◌, sym, subst, Option, Some, None, refl}
use Rattle.std.specs.List.{flat_map}
use Rattle.dataflow.specs.System.{In}
use Rattle.dataflow.proofs.Lists.{in_split}
use Rattle.language.specs.Core.{Name, Form, compute, read, Cell, Call, Part, inner, calls, Outer, Awaited, Stmt, stmt, Action, declare, call_alone, assign, fill, insert, print, assert, when, choose, range, each, wait, Block}
use Rattle.language.specs.Members.{◌∈◌, first, later}
use Rattle.language.specs.Parts.{stmt_at, parts, part_cells, part_calls, cells, block_list}
use Rattle.language.proofs.Members.{split_in, to_left, to_right, either}
use Rattle.task_code.specs.Code.{Header, If, Range, Each, Wait, Code, entry}
use Rattle.code_rules.specs.CodeNames.{over, each_once}
use Rattle.code_rules.specs.IsCodeOf.{Layout, seen, own_priority, own_needs, simple_act, step_expr, IsSimple, IsEntry, PartAs, PartsAs, no_part, one_part, StmtAs, declares, calls_alone, simple, branch, branches, range_loop, array_loop, waits, WaitAs, BlockAs, no_stmt, one_stmt, BodyAs}
use Rattle.language_laws.specs.TypedValues.{own_cell, own_outer, own_parts}

-- PARTS

pub cell_among : {c : Cell} (ps : List Part) → inner c ∈ ps → c ∈ part_cells ps
cell_among [] h = elim h [ ]
cell_among (inner d ∷ ps) h = elim (split_in h) [ inl e ↦ (subst (λ (x : Cell). x ∈ (d ∷ part_cells ps)) (sym (inner_same e)) first) | inr i ↦ later (cell_among ps i) ]
  where
    inner_same : {x y : Cell} → inner x ≡ inner y → x ≡ y
    inner_same h = cc
cell_among (calls d ∷ ps) h = elim (split_in h) [ inl e ↦ absurd (cc (e)) | inr i ↦ cell_among ps i ]

pub among_cells : {c : Cell} (ps : List Part) → c ∈ part_cells ps → inner c ∈ ps
among_cells [] h = elim h [ ]
among_cells (inner d ∷ ps) first = first
among_cells (inner d ∷ ps) (later h) = later (among_cells ps h)
among_cells (calls d ∷ ps) h = later (among_cells ps h)

pub call_among : {c : Call} (ps : List Part) → calls c ∈ ps → c ∈ part_calls ps
call_among [] h = elim h [ ]
call_among (inner d ∷ ps) h = elim (split_in h) [ inl e ↦ absurd (cc (e)) | inr i ↦ call_among ps i ]
call_among (calls d ∷ ps) h = elim (split_in h) [ inl e ↦ subst (λ (x : Call). x ∈ (d ∷ part_calls ps)) (sym (calls_same e)) first | inr i ↦ later (call_among ps i) ]
  where
    calls_same : {x y : Call} → calls x ≡ calls y → x ≡ y
    calls_same h = cc

pub among_calls : {c : Call} (ps : List Part) → c ∈ part_calls ps → calls c ∈ ps
among_calls [] h = elim h [ ]
among_calls (inner d ∷ ps) h = later (among_calls ps h)
among_calls (calls d ∷ ps) first = first
among_calls (calls d ∷ ps) (later h) = later (among_calls ps h)

own_cell_in : (c : Cell) (f : Form) {x : Part} → x ∈ own_cell c f → x ∈ (inner c ∷ [])
own_cell_in c (compute e) h = elim h [ ]
own_cell_in c (read a i) h = h

own_outer_in : (o : Outer) {x : Part} → x ∈ own_outer o → x ∈ (o.parts ++ inner o.cell ∷ [])
own_outer_in o h = elim (either o.parts (own_cell o.cell o.cell.form) h) [ inl i ↦ to_left o.parts _ i | inr i ↦ to_right o.parts _ (own_cell_in o.cell o.cell.form i) ]

-- the parts that make entries are parts of the statement
pub part_of_stmt : (a : Action) {x : Part} → x ∈ own_parts a → x ∈ parts a
part_of_stmt (declare v) h = h
part_of_stmt (call_alone p ps c) h = h
part_of_stmt (assign y o) h = own_outer_in o h
part_of_stmt (fill b o) h = own_outer_in o h
part_of_stmt (insert b i o) h = h
part_of_stmt (print p o) h = own_outer_in o h
part_of_stmt (assert p o) h = own_outer_in o h
part_of_stmt (when c b) h = h
part_of_stmt (choose c b d) h = h
part_of_stmt (range lo hi st v t b) h = h
part_of_stmt (each b v t d) h = h
part_of_stmt (wait ns b) h = h

-- the parts of a statement
abbrev pub parts_of : Stmt → List Part
parts_of (stmt at n a) = parts a

-- and those that make entries before its own
abbrev pub own_of : Stmt → List Part
own_of (stmt at n a) = own_parts a

module _ (C : Code) (l : Layout) where
  -- an entry of a part of a statement
  pub record PartOf (k : ℕ) (st : Stmt) (j : ℕ) : Type 0 where
    pub all : List Part
    pub at : ℕ
    pub priority : ℤ
    pub part : Part
    pub numbers : List ℕ
    pub as_part : PartAs C l k all at priority part numbers
    pub there : In j numbers
    pub in_own : part ∈ own_of st
    pub in_stmt : part ∈ parts_of st
    pub cells_in : (d : Cell) → d ∈ part_cells all → d ∈ cells st
    pub at_is : at ≡ stmt_at st

  -- a statement's own entry
  pub data OwnAs (k : ℕ) : Stmt → ℕ → Type 0 where
    own_simple : {at n : ℕ} {a : Action} {j : ℕ} → IsSimple a → IsEntry (entry C j) at (own_priority a) (own_needs l k a) (simple_act l k (own_needs l k a) a) → (entry C j).node ≡ n → OwnAs k (stmt at n a) j
    own_branch : {at n t : ℕ} {c : Outer} {b : Block} {j : ℕ}
        → IsEntry (entry C j) at (pos 0) (own_needs l k (when c b)) (If (over k (own_needs l k (when c b)) (seen l c.cell)) t None) → (entry C j).offset ≡ at → BodyAs C l k b t → OwnAs k (stmt at n (when c b)) j
    own_branches : {at n t u : ℕ} {c : Outer} {b d : Block} {j : ℕ}
        → IsEntry (entry C j) at (pos 0) (own_needs l k (choose c b d)) (If (over k (own_needs l k (choose c b d)) (seen l c.cell)) t (Some u)) → (entry C j).offset ≡ at → BodyAs C l k b t → BodyAs C l k d u
        → OwnAs k (stmt at n (choose c b d)) j
    own_range : {at n t x : ℕ} {lo hi : Outer} {st : Option Outer} {y : Option ℕ} {b : Block} {j : ℕ}
        → IsEntry (entry C j) at (pos 0) (own_needs l k (range lo hi st x y b))
        (Range (over k (own_needs l k (range lo hi st x y b)) (seen l lo.cell)) (over k (own_needs l k (range lo hi st x y b)) (seen l hi.cell)) (over k (own_needs l k (range lo hi st x y b)) (step_expr l k st)) (record { body = t; value = x; turn = y }))
        → (entry C j).offset ≡ at → BodyAs C l k b t → OwnAs k (stmt at n (range lo hi st x y b)) j
    own_each : {at n t x : ℕ} {a : Name} {y : Option ℕ} {b : Block} {j : ℕ}
        → IsEntry (entry C j) at (pos 0) (own_needs l k (each a x y b)) (Each (record { body = t; value = x; turn = y })) → (entry C j).offset ≡ at → BodyAs C l k b t → OwnAs k (stmt at n (each a x y b)) j
    own_wait : {at n t : ℕ} {ns : List Awaited} {b : Block} {hs : List Header} {j : ℕ} → WaitAs C l k (stmt at n (wait ns b)) hs t
        → IsEntry (entry C j) at (pos 0) (each_once (flat_map (λ h. h.needs) hs)) (Wait hs t) → OwnAs k (stmt at n (wait ns b)) j

  pub record RoleIn (k : ℕ) (b : Block) (j : ℕ) : Type 0 where
    pub st : Stmt
    pub there : st ∈ block_list b
    pub role : PartOf k st j ⊎ OwnAs k st j

  part_role : {k at j : ℕ} {p : ℤ} {all xs : List Part} {js : List ℕ} (st : Stmt) → PartsAs C l k all at p xs js → In j js → ((x : Part) → x ∈ xs → x ∈ own_of st) → ((x : Part) → x ∈ xs → x ∈ parts_of st) → ((d : Cell) → d ∈ part_cells all → d ∈ cells st) → at ≡ stmt_at st → PartOf k st j
  part_role st no_part h o f g e = absurd h
  part_role {k} {at} {j} {p} {all} st (one_part {x = x} {is = is} {js = js} a as' q) h o f g e =
      elim (in_split j is js (subst (λ (l : List ℕ). In j l) q h)) [
        | inl i ↦ record { all = all; at = at; priority = p; part = x; numbers = is; as_part = a; there = i; in_own = o x first; in_stmt = f x first; cells_in = g; at_is = e }
        | inr i ↦ part_role st as' i (λ y m. o y (later m)) (λ y m. f y (later m)) g e
      ]

  cells_of : (at n : ℕ) (a : Action) (ps : List Part) → ((x : Part) → x ∈ ps → x ∈ parts a) → (d : Cell) → d ∈ part_cells ps → d ∈ cells (stmt at n a)
  cells_of at n a ps f d h = cell_among (parts a) (f (inner d) (among_cells ps h))

  one_more : {k : ℕ} {st : Stmt} {j i : ℕ} (is : List ℕ) → In j (is ++ i ∷ []) → (In j is → PartOf k st j) → (j ≡ i → OwnAs k st j) → PartOf k st j ⊎ OwnAs k st j
  one_more {j = j} {i = i} is h f g = elim (in_split j is (i ∷ []) h) [ inl m ↦ inl (f m) | inr m ↦ inr (g (elim m [ inl e ↦ e | inr z ↦ absurd z ])) ]

  pub stmt_role : {k : ℕ} {st : Stmt} {es : List ℕ} {j : ℕ} → StmtAs C l k st es → In j es → PartOf k st j ⊎ OwnAs k st j
  stmt_role declares h = absurd h
  stmt_role (calls_alone {at = at} {n = n} {p = p} {ps = ps} {c = c} as') h = inl (part_role (stmt at n (call_alone p ps c)) as' h (λ x m. m) (λ x m. m) (cells_of at n (call_alone p ps c) _ (λ x m. m)) refl)
  stmt_role {k} {j = j} (simple {at = at} {n = n} i {a = a} {is = is} z op as' e q r) h =
      one_more is (subst (λ (l : List ℕ). In j l) r h) (λ m. part_role (stmt at n a) as' m (λ x y. y) (λ x y. part_of_stmt a y) (cells_of at n a _ (λ x y. part_of_stmt a y)) refl)
      (λ m. subst (λ (x : ℕ). OwnAs k (stmt at n a) x) (sym m) (own_simple z e q))
  stmt_role {k} {j = j} (branch {at = at} {n = n} i {c = c} {b = b} {is = is} as' e m ba r) h =
      one_more is (subst (λ (l : List ℕ). In j l) r h) (λ m. part_role (stmt at n (when c b)) as' m (λ x y. y) (λ x y. y) (cells_of at n (when c b) _ (λ x y. y)) refl)
      (λ q. subst (λ (x : ℕ). OwnAs k (stmt at n (when c b)) x) (sym q) (own_branch e m ba))
  stmt_role {k} {j = j} (branches {at = at} {n = n} i {c = c} {b = b} {d = d} {is = is} as' e m ba bb r) h =
      one_more is (subst (λ (l : List ℕ). In j l) r h) (λ m. part_role (stmt at n (choose c b d)) as' m (λ x y. y) (λ x y. y) (cells_of at n (choose c b d) _ (λ x y. y)) refl)
      (λ q. subst (λ (x : ℕ). OwnAs k (stmt at n (choose c b d)) x) (sym q) (own_branches e m ba bb))
  stmt_role {k} {j = j} (range_loop {at = at} {n = n} {x = x} i {lo = lo} {hi = hi} {st = st} {y = y} {b = b} {is = is} as' e m ba r) h =
      one_more is (subst (λ (l : List ℕ). In j l) r h) (λ m. part_role (stmt at n (range lo hi st x y b)) as' m (λ x y. y) (λ x y. y) (cells_of at n (range lo hi st x y b) _ (λ x y. y)) refl)
      (λ q. subst (λ (z : ℕ). OwnAs k (stmt at n (range lo hi st x y b)) z) (sym q) (own_range e m ba))
  stmt_role {k} {j = j} (array_loop {at = at} {n = n} {x = x} i {a = a} {y = y} {b = b} e m ba r) h =
      elim (subst (λ (l : List ℕ). In j l) r h) [ inl q ↦ inr (subst (λ (z : ℕ). OwnAs k (stmt at n (each a x y b)) z) (sym q) (own_each e m ba)) | inr z ↦ absurd z ]
  stmt_role {k} {j = j} (waits {at = at} {n = n} i {ns = ns} {b = b} w e r) h =
      elim (subst (λ (l : List ℕ). In j l) r h) [ inl q ↦ inr (subst (λ (z : ℕ). OwnAs k (stmt at n (wait ns b)) z) (sym q) (own_wait w e)) | inr z ↦ absurd z ]

  -- each entry of a body has its role
  pub find_role : {k : ℕ} {b : Block} {es : List ℕ} {j : ℕ} → BlockAs C l k b es → In j es → RoleIn k b j
  find_role no_stmt h = absurd h
  find_role {j = j} (one_stmt {st = st} {is = is} {js = js} a as' q) h =
      elim (in_split j is js (subst (λ (l : List ℕ). In j l) q h)) [
        | inl i ↦ record { st = st; there = first; role = stmt_role a i }
        | inr i ↦ (let r = find_role as' i in record { st = r.st; there = later r.there; role = r.role })
      ]
