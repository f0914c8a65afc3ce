-- A scalar that an entry may read is read in the block of its body, or an entry of the body may write it.
use Rattle.std.proofs.Common.{◌≡◌, ◌⊎◌, inl, inr, ℕ, suc, ℤ, pos, Bool, true, false, List, [], ◌∷◌, ◌++◌, map, refl, sym, ap, ◌∙◌, subst, Option, Some, None}
use Rattle.std.specs.List.{flat_map}
use Rattle.dataflow.specs.System.{In}
use Rattle.dataflow.proofs.Lists.{in_left, in_right, in_split}
use Rattle.language.specs.Core as Co
use Rattle.language.specs.Core.{Owned, Name, Expr, Exprs, literal, whole, operator, none, also, Form, compute, read, Cell, Call, Part, inner, Outer, Awaited, Stmt, stmt, Action, declare, call_alone, assign, fill, insert, print, assert, when, choose, range, each, wait, Block, no_stmts, stmts, Core}
use Rattle.language.specs.Members.{◌∈◌, first, later}
use Rattle.language.specs.Parts.{block_list, blocks_below, blocks_in, blocks_of, stmts_within, parts, part_cells, outers, outer_parts}
use Rattle.language.specs.Single.{Reads, the_name, an_operand, ReadsSome, the_first, a_later, IsRead, in_cell, in_wait}
use Rattle.language.proofs.Blocks.{inner_below, header_inner, of_below, below_below, among}
use Rattle.language.proofs.Members.{split_in, to_left, to_right}
use Rattle.language.proofs.Tested.{among_split}
use Rattle.language_laws.specs.Scoped.{Scoped}
use Rattle.language_laws.specs.TypedValues.{own_outer, own_parts}
use Rattle.task_code.specs.Code as code
use Rattle.task_code.specs.Code.{Variable, Need, Stored, Closed, Argument, Named, Header, Act, Code, Way, InPlace, Through, Calling, entry, body, arguments, call_at, here, is_array_name, needed, scalar, targets, targets_of, ways}
use Rattle.task_code.specs.Exact.{Leads, itself, through, needs_of}
use Rattle.task_code.specs.Whole.{Declared, Seen}
use Rattle.code_rules.specs.CodeNames.{owned_as, name_as, wanted, wanted_all, each_once, awaited_need, header}
use Rattle.code_rules.specs.Emitted.{HasRights}
use Rattle.code_rules.specs.IsCodeOf.{Layout, seen_as, seen, own_form, own_expr, own_exprs, own_needs, IsSimple, CallAs, InputAs, of_literal, of_name, of_datum, of_array, InputsAs, no_input, one_input, IndexAs, at_literal, at_name, at_datum, PartAs, plain_literal, plain_name, a_cell, a_read, a_call, PartsAs, no_part, one_part}
use Rattle.code_rules.specs.Laying.{Kinds, Headers, one_header, more_headers}
use Rattle.code_rules.specs.Laid.{Table, StmtLaid, declares_laid, call_laid, simple_laid, branch_laid, branches_laid, range_laid, each_laid, wait_laid, StmtsLaid, none_laid, one_laid, IsLaid}
use Rattle.code_laws.proofs.Arguments.{arg_at, get_in}
use Rattle.code_laws.proofs.Bases.{only, of_needed, of_exprs, outer_in}
use Rattle.code_laws.proofs.Kept.{inner_among}
use Rattle.code_laws.proofs.Led.{cell_part}
use Rattle.code_laws.proofs.MadeWhole.{inner_same}
use Rattle.code_laws.proofs.Needs.{flag_of, of_once, of_flat}
use Rattle.code_laws.proofs.WholeOpenings.{OpensAs, opens_header, opens_wait, opens_call, opens_as, part_of_stmt}
use Rattle.code_laws.proofs.Roles.{own_of, OwnOf, own_simple, own_branch, own_branches, own_range, own_each, own_wait, Role}
use Rattle.code_laws.proofs.Shapes.{home_in, body_within}
use Rattle.code_rules.proofs.Members.{to_in}
use Rattle.code_laws.proofs.Counting.{read_outwards}
use Rattle.code_laws.proofs.Levels.{named_same}

-- BLOCKS

stmt_below : (b : Block) {st : Stmt} {c : Block} → st ∈ block_list b → c ∈ blocks_in st → c ∈ blocks_below b
stmt_below no_stmts m i = elim m [ ]
stmt_below (stmts s b) {st} {c} m i = elim (split_in m) [
  | inl e ↦ to_left (blocks_in s) (blocks_below b) (subst (λ (z : Stmt). c ∈ blocks_in z) e i)
  | inr j ↦ to_right (blocks_in s) (blocks_below b) (stmt_below b j i)
]

-- the content of waits lies in the first
headers_inside : {k : ℕ} {st : Stmt} {hs : List Header} {c : Block} → Headers k st hs c → c ∈ blocks_in st
headers_inside (one_header lone e) = first
headers_inside (more_headers {st = st} hd e) = later (to_left (blocks_in st) [] (headers_inside hd))

-- what stands in a wait stands in the block round it
content_within : (b : Block) {at n : ℕ} {ns : List Awaited} {c : Block} {st : Stmt} → stmt at n (wait ns c) ∈ stmts_within b → st ∈ block_list c → st ∈ stmts_within b
content_within b {c = c} m i =
    let r = among_split (blocks_of b) m in
    let h = inner_below r.0 r.2 first in
    among (blocks_of b) (of_below b (λ z. below_below b z h) r.1 h) i

-- EXPRESSIONS

-- a name is an array's, or a scalar's that the expression reads
abbrev IsNamedIn : ℕ → Expr → code.Name → Type 0
IsNamedIn k e r = (is_array_name r ≡ true) ⊎ ((x : Name) × (r ≡ name_as k false x) × Reads x.what e)

abbrev IsNamedAmong : ℕ → Exprs → code.Name → Type 0
IsNamedAmong k es r = (is_array_name r ≡ true) ⊎ ((x : Name) × (r ≡ name_as k false x) × ReadsSome x.what es)

array_named : (k : ℕ) (a : Name) (r : code.Name) → r ≡ name_as k true a → is_array_name r ≡ true
array_named k a r e = ap is_array_name e ∙ flag_of k true a

pub only_name : (r q : code.Name) (n m : Need) → n ≡ m → In r (needed n) → needed m ≡ q ∷ [] → r ≡ q
only_name r q n m e h f = only (subst (λ (zs : List code.Name). In r zs) f (subst (λ (z : Need). In r (needed z)) e h))

mutual
  expr_names : (k : ℕ) (e : Expr) (n : Need) (r : code.Name) → In n (wanted k e) → In r (needed n) → IsNamedIn k e r
  expr_names k (literal v) n r h i = absurd h
  expr_names k (Co.name x) n r h i = inr (x, only_name r (name_as k false x) n (Stored (name_as k false x)) (only h) i refl, the_name refl)
  expr_names k (whole a) n r h i = inl (array_named k a r (only_name r (name_as k true a) n (Closed (name_as k true a)) (only h) i refl))
  expr_names k (operator o es) n r h i = elim (exprs_name k es n r h i) [ inl a ↦ inl a | inr x ↦ inr (x.0, x.1, an_operand x.2) ]

  exprs_name : (k : ℕ) (es : Exprs) (n : Need) (r : code.Name) → In n (wanted_all k es) → In r (needed n) → IsNamedAmong k es r
  exprs_name k none n r h i = absurd h
  exprs_name k (also e es) n r h i = elim (in_split n (wanted k e) (wanted_all k es) h) [
    | inl j ↦ elim (expr_names k e n r j i) [ inl a ↦ inl a | inr x ↦ inr (x.0, x.1, the_first x.2) ]
    | inr j ↦ elim (exprs_name k es n r j i) [ inl a ↦ inl a | inr x ↦ inr (x.0, x.1, a_later x.2) ]
  ]

-- CELLS WITH ENTRIES

-- a cell has a datum, or reads an element
abbrev pub HasEntry : Layout → Cell → Type 0
HasEntry l c = (l.plain c.node ≡ false) ⊎ ((x : Name) × (i : ℕ) × (c.form ≡ read x i))

module _ (C : Code) (l : Layout) (T : Table) where
  -- an entry of these stores the cell's value
  abbrev pub StoredBy : List ℕ → Cell → Type 0
  StoredBy es c = (j : ℕ) × In j es × In (here (scalar c.node)) (targets (entry C j)) × ((entry C j).node ≡ c.node)

  no_entry : {A : Type 0} (c : Cell) (n : ℕ) (e : Expr) → HasEntry l c → inner c ≡ inner (record { node = n; form = compute e }) → l.plain n ≡ true → A
  no_entry c n e (inl h) q p =
      let z : l.plain n ≡ false = subst (λ (d : Cell). l.plain d.node ≡ false) (inner_same q) h in
      absurd (let y : true ≡ false = sym p ∙ z in cc (y))
  no_entry c n e (inr h) q p = absurd (let z : read h.0 h.1 ≡ compute e = sym h.2 ∙ ap (λ (d : Cell). d.form) (inner_same q) in cc (z))

  target_of : (j n : ℕ) (a : Act) → (entry C j).act ≡ a → (entry C j).node ≡ n → targets_of (entry C j).node a ≡ here (scalar (entry C j).node) ∷ [] → In (here (scalar n)) (targets (entry C j))
  target_of j n a e q t =
      subst (λ (z : Act). In (here (scalar n)) (targets_of (entry C j).node z)) (sym e)
      (subst (λ (zs : List code.Name). In (here (scalar n)) zs) (sym t) (inl (ap (λ (m : ℕ). here (scalar m)) (sym q))))

  part_stored : {k at : ℕ} {p : ℤ} {all : List Part} {x : Part} {is : List ℕ} (c : Cell) → HasEntry l c → PartAs C l k all at p x is → inner c ≡ x → StoredBy is c
  part_stored c h (plain_literal {n = n} {v = v} z) q = no_entry c n (literal v) h q z
  part_stored c h (plain_name {n = n} {x = x} z) q = no_entry c n (Co.name x) h q z
  part_stored c h (a_cell {n = n} {j = j} z nd en) q =
      let same : c.node ≡ n = ap (λ (d : Cell). d.node) (inner_same q) in
      (j, inl refl, target_of j c.node _ en.act_is (nd ∙ sym same) refl, nd ∙ sym same)
  part_stored c h (a_read {n = n} {j = j} z nd ix en) q =
      let same : c.node ≡ n = ap (λ (d : Cell). d.node) (inner_same q) in
      (j, inl refl, target_of j c.node _ en.act_is (nd ∙ sym same) refl, nd ∙ sym same)
  part_stored c h (a_call ca) q = absurd (cc (q))

  pub cell_stored : {k at : ℕ} {p : ℤ} {all xs : List Part} {es : List ℕ} (c : Cell) → HasEntry l c → PartsAs C l k all at p xs es → inner c ∈ xs → StoredBy es c
  cell_stored c h no_part m = elim m [ ]
  cell_stored c h (one_part {is = is} {js = js} x rest e) m = elim (split_in m) [
    | inl q ↦ (let r = part_stored c h x q in (r.0, subst (λ (z : List ℕ). In r.0 z) (sym e) (in_left r.0 is js r.1), r.2, r.3))
    | inr i ↦ (let r = cell_stored c h rest i in (r.0, subst (λ (z : List ℕ). In r.0 z) (sym e) (in_right r.0 is js r.1), r.2, r.3))
  ]

  -- the entries of a statement's parts
  pub record Parted (k : ℕ) (st : Stmt) (es : List ℕ) : Type 0 where
    pub at : ℕ
    pub priority : ℤ
    pub numbers : List ℕ
    pub parts_as : PartsAs C l k (own_of st) at priority (own_of st) numbers
    pub among_them : (j : ℕ) → In j numbers → In j es

  no_parts : {k : ℕ} {st : Stmt} {es : List ℕ} → own_of st ≡ [] → Parted k st es
  no_parts {k} {st} e = record { at = 0; priority = pos 0; numbers = []; parts_as = subst (λ (ps : List Part). PartsAs C l k ps 0 (pos 0) ps []) (sym e) no_part; among_them = λ j h. absurd h }

  before_last : (is : List ℕ) {es : List ℕ} (i : ℕ) → es ≡ is ++ i ∷ [] → (j : ℕ) → In j is → In j es
  before_last is i e j h = subst (λ (z : List ℕ). In j z) (sym e) (in_left j is (i ∷ []) h)

  stmt_parted : {k : ℕ} {st : Stmt} {es : List ℕ} {vs : List Variable} → StmtLaid C l T k st es vs → Parted k st es
  stmt_parted (declares_laid b) = no_parts refl
  stmt_parted (call_laid as') = record { at = _; priority = _; numbers = _; parts_as = as'; among_them = λ j h. h }
  stmt_parted (simple_laid j {is = is} z as' en q e) = record { at = _; priority = _; numbers = _; parts_as = as'; among_them = before_last is j e }
  stmt_parted (branch_laid j {is = is} as' en mk st e) = record { at = _; priority = _; numbers = _; parts_as = as'; among_them = before_last is j e }
  stmt_parted (branches_laid j {is = is} as' en mk st su e) = record { at = _; priority = _; numbers = _; parts_as = as'; among_them = before_last is j e }
  stmt_parted (range_laid j {is = is} as' en mk st e) = record { at = _; priority = _; numbers = _; parts_as = as'; among_them = before_last is j e }
  stmt_parted (each_laid j en mk st e) = no_parts refl
  stmt_parted (wait_laid j hd en st e) = no_parts refl

  more_parted : {k : ℕ} {st : Stmt} {is es : List ℕ} → ((j : ℕ) → In j is → In j es) → Parted k st is → Parted k st es
  more_parted f r = record { at = r.at; priority = r.priority; numbers = r.numbers; parts_as = r.parts_as; among_them = λ j h. f j (r.among_them j h) }

  pub parted : {k : ℕ} {sts : List Stmt} {es : List ℕ} {vs : List Variable} {st : Stmt} → StmtsLaid C l T k sts es vs → st ∈ sts → Parted k st es
  parted none_laid m = elim m [ ]
  parted {k} {st = st} (one_laid {st = u} {is = is} {js = js} {vs = vs} one rest e q) m = elim (split_in m) [
    | inl f ↦ more_parted (λ j h. subst (λ (z : List ℕ). In j z) (sym e) (in_left j is js h)) (stmt_parted (subst (λ (z : Stmt). StmtLaid C l T k z is vs) (sym f) one))
    | inr i ↦ more_parted (λ j h. subst (λ (z : List ℕ). In j z) (sym e) (in_right j is js h)) (parted rest i)
  ]

module _ {s : Core} {fs : List Kinds} {ds : List (ℕ × Bool)} (C : Code) (l : Layout) (L : IsLaid s fs ds C l) (R : HasRights C) (scoped : Scoped s) where
  abbrev T : Table
  T = L.table

  pub data Use (t : ℕ) (r : code.Name) : Type 0 where
    of_an_array : is_array_name r ≡ true → Use t r
    of_a_write : (j : ℕ) → In j (body C t).entries → In r (entry C j).writes → Use t r
    of_a_read : (o : Owned) → IsRead o (T.block_of t) → r.owned ≡ owned_as (T.inputs_of t) false o → Use t r

  -- IN A STATEMENT
  module _ (t at n : ℕ) (a : Action) (m : stmt at n a ∈ block_list (T.block_of t)) (P : Parted C l T (T.inputs_of t) (stmt at n a) (body C t).entries) where
    abbrev k : ℕ
    k = T.inputs_of t

    there : stmt at n a ∈ stmts_within (T.block_of t)
    there = among (blocks_of (T.block_of t)) first m

    of_target : (j : ℕ) (r : code.Name) → In j (body C t).entries → In r (targets (entry C j)) → Use t r
    of_target j r h i = of_a_write j h (R.all_writes j r (itself j r i))

    of_cell : (c : Cell) (r : code.Name) → inner c ∈ own_parts a → HasEntry l c → r ≡ name_as k false (Co.here c.node) → Use t r
    of_cell c r i h e =
        let q = cell_stored C l T c h P.parts_as i in
        of_target q.0 r (P.among_them q.0 q.1) (subst (λ (z : code.Name). In z (targets (entry C q.0))) (sym e) q.2)

    of_form : (c : Cell) (e : Expr) (q : Need) (r : code.Name) → c ∈ part_cells (parts a) → c.form ≡ compute e → In q (wanted k e) → In r (needed q) → Use t r
    of_form c e q r i f h u = elim (expr_names k e q r h u) [
      | inl z ↦ of_an_array z
      | inr x ↦ of_a_read (x.0).what (in_cell there (subst (λ (z : Form). record { node = c.node; form = z } ∈ part_cells (parts a)) f i) x.2) (ap (λ (z : code.Name). z.owned) x.1)
    ]

    in_parts : {c : Cell} → inner c ∈ own_parts a → c ∈ part_cells (parts a)
    in_parts i = inner_among (parts a) (part_of_stmt a i)

    of_here : (c : Cell) (q : Need) (r : code.Name) → inner c ∈ own_parts a → HasEntry l c → In q (wanted k (Co.name (Co.here c.node))) → In r (needed q) → Use t r
    of_here c q r i h u v = of_cell c r i h (only_name r (name_as k false (Co.here c.node)) q (Stored (name_as k false (Co.here c.node))) (only u) v refl)

    of_seen : (c : Cell) (q : Need) (r : code.Name) → inner c ∈ own_parts a → In q (wanted k (seen l c)) → In r (needed q) → Use t r
    of_seen c q r i u v = by (l.plain c.node) c.form refl refl u
      where
        by : (b : Bool) (f : Form) → l.plain c.node ≡ b → c.form ≡ f → In q (wanted k (seen_as b c.node f)) → Use t r
        by true (compute e) p z h = of_form c e q r (in_parts i) z h v
        by true (read x y) p z h = of_here c q r i (inr (x, y, z)) h v
        by false f p z h = of_here c q r i (inl p) h v

    of_own : (o : Outer) (q : Need) (r : code.Name) → own_outer o ≡ own_parts a → o.cell ∈ part_cells (parts a) → In q (wanted k (own_expr o)) → In r (needed q) → Use t r
    of_own o q r e i u v = by o.cell.form refl u
      where
        by : (f : Form) → o.cell.form ≡ f → In q (wanted k (own_form o.cell.node f)) → Use t r
        by (compute x) z h = of_form o.cell x q r i z h v
        by (read x y) z h =
            of_here o.cell q r (subst (λ (ps : List Part). inner o.cell ∈ ps) e (to_right o.parts _ (subst (λ (f : Form). inner o.cell ∈ Rattle.language_laws.specs.TypedValues.own_cell o.cell f) (sym z) first))) (inr (x, y, z)) h v

    of_index : {i : ℕ} {x : Name} {need : Need} → IndexAs C l k (own_parts a) x i need → (r : code.Name) → In r (needed need) → Use t r
    of_index {x = x} (at_literal i p) r h = of_an_array (array_named k x r (only h))
    of_index {x = x} (at_name i p) r (inl e) = of_an_array (array_named k x r e)
    of_index (at_name {n = j} {x = y} i p) r (inr h) = of_form (record { node = j; form = compute (Co.name y) }) (Co.name y) (Stored (name_as k false y)) r (in_parts (cell_part (own_parts a) i)) refl (inl refl) h
    of_index {x = x} (at_datum i p) r (inl e) = of_an_array (array_named k x r e)
    of_index (at_datum {c = c} i p) r (inr h) = of_cell c r (cell_part (own_parts a) i) (inl p) (only h)

    of_input : {x : Name} {y : Argument} → InputAs C l k (own_parts a) x y → (r : code.Name) → y ≡ Named r → Use t r
    of_input (of_literal i p) r e = absurd (cc (e))
    of_input (of_name {n = j} {x = y} i p) r e =
        of_form (record { node = j; form = compute (Co.name y) }) (Co.name y) (Stored (name_as k false y)) r (in_parts (cell_part (own_parts a) i)) refl (inl refl) (inl (sym (named_same e)))
    of_input (of_datum {c = c} i p) r e = of_cell c r (cell_part (own_parts a) i) (inl p) (sym (named_same e))
    of_input (of_array {x = y}) r e = of_an_array (array_named k y r (sym (named_same e)))

    of_inputs : {xs : List Name} {ys : List Argument} → InputsAs C l k (own_parts a) xs ys → (r : code.Name) → In (Named r) ys → Use t r
    of_inputs no_input r h = absurd h
    of_inputs (one_input x rest) r (inl e) = of_input x r (sym e)
    of_inputs (one_input x rest) r (inr h) = of_inputs rest r h

  -- the entry of a part
  by_needs : (j : ℕ) (ns : List Need) (q : Need) → (entry C j).needs ≡ ns → In q (entry C j).needs → In q ns
  by_needs j ns q e h = subst (λ (z : List Need). In q z) e h

  at_entry : {i j : ℕ} (q : Need) → In i (j ∷ []) → In q (entry C i).needs → In q (entry C j).needs
  at_entry q h u = subst (λ (z : ℕ). In q (entry C z).needs) (only h) u

  part_uses : {at' : ℕ} {p : ℤ} {x : Part} {js : List ℕ} (t at n : ℕ) (a : Action) (m : stmt at n a ∈ block_list (T.block_of t)) → Parted C l T (T.inputs_of t) (stmt at n a) (body C t).entries → (i : ℕ)
      → PartAs C l (T.inputs_of t) (own_parts a) at' p x js → x ∈ own_parts a → In i js → (q : Need) (r : code.Name) → In q (entry C i).needs → In r (needed q) → Use t r
  part_uses t at n a m P i (plain_literal z) k h q r u v = absurd h
  part_uses t at n a m P i (plain_name z) k h q r u v = absurd h
  part_uses t at n a m P i (a_cell {n = c} {j = j} {e = e} z nd en) k h q r u v =
      of_form t at n a m P (record { node = c; form = compute e }) e q r (in_parts t at n a m P k) refl (of_once q (wanted (T.inputs_of t) e) (by_needs j _ q en.needs_is (at_entry q h u))) v
  part_uses t at n a m P i (a_read {j = j} {need = need} z nd ix en) k h q r u v =
      of_index t at n a m P ix r (subst (λ (y : Need). In r (needed y)) (only (by_needs j (need ∷ []) q en.needs_is (at_entry q h u))) v)
  part_uses t at n a m P i (a_call {j = j} ca) k h q r u v = absurd (by_needs j [] q (ca.is).needs_is (at_entry q h u))

  -- waits
  awaited_uses : (k : ℕ) (ns : List Awaited) (q : Need) (r : code.Name) → In q (map (awaited_need k) ns) → In r (needed q) → (is_array_name r ≡ true) ⊎ ((x : Name) × (r ≡ name_as k false x) × (Co.scalar x ∈ ns))
  awaited_uses k [] q r h v = absurd h
  awaited_uses k (Co.scalar x ∷ ns) q r (inl e) v = inr (x, only_name r (name_as k false x) q (Stored (name_as k false x)) e v refl, first)
  awaited_uses k (Co.array x ∷ ns) q r (inl e) v = inl (array_named k x r (only_name r (name_as k true x) q (Closed (name_as k true x)) e v refl))
  awaited_uses k (Co.scalar x ∷ ns) q r (inr h) v = elim (awaited_uses k ns q r h v) [ inl a ↦ inl a | inr y ↦ inr (y.0, y.1, later y.2) ]
  awaited_uses k (Co.array x ∷ ns) q r (inr h) v = elim (awaited_uses k ns q r h v) [ inl a ↦ inl a | inr y ↦ inr (y.0, y.1, later y.2) ]

  one_wait_uses : (t at n : ℕ) (ns : List Awaited) (c : Block) (q : Need) (r : code.Name) → stmt at n (wait ns c) ∈ stmts_within (T.block_of t) → In q (map (awaited_need (T.inputs_of t)) ns) → In r (needed q) → Use t r
  one_wait_uses t at n ns c q r m h v = elim (awaited_uses (T.inputs_of t) ns q r h v) [
    | inl a ↦ of_an_array a
    | inr x ↦ of_a_read (x.0).what (in_wait m x.2 refl) (ap (λ (z : code.Name). z.owned) x.1)
  ]

  headers_use : {t : ℕ} {st : Stmt} {hs : List Header} {b : Block} → Headers (T.inputs_of t) st hs b → st ∈ stmts_within (T.block_of t) → (h : Header) (q : Need) (r : code.Name) → In h hs → In q h.needs → In r (needed q) → Use t r
  headers_use {t} (one_header {at = at} {n = n} {ns = ns} {b = b} lone e) m h q r i u v =
      one_wait_uses t at n ns b q r m (subst (λ (z : Header). In q z.needs) (only (subst (λ (z : List Header). In h z) e i)) u) v
  headers_use {t} (more_headers {at = at} {n = n} {ns = ns} {st = st} {gs = gs} hd e) m h q r i u v =
      by (subst (λ (z : List Header). In h z) e i) (λ j. headers_use hd (content_within (T.block_of t) m first) h q r j u v)
    where
      by : (h ≡ header (T.inputs_of t) at ns) ⊎ In h gs → (In h gs → Use t r) → Use t r
      by (inl f) rec = one_wait_uses t at n ns (stmts st no_stmts) q r m (subst (λ (z : Header). In q z.needs) f u) v
      by (inr j) rec = rec j

  -- a statement's own entry
  own_need : (t j : ℕ) (a : Action) (q : Need) → (entry C j).needs ≡ own_needs l (T.inputs_of t) a → In q (entry C j).needs → (e : Expr) × In e (own_exprs l (T.inputs_of t) a) × In q (wanted (T.inputs_of t) e)
  own_need t j a q e h = of_exprs (T.inputs_of t) q (own_exprs l (T.inputs_of t) a) (of_once q (flat_map (wanted (T.inputs_of t)) (own_exprs l (T.inputs_of t) a)) (by_needs j (own_needs l (T.inputs_of t) a) q e h))

  abbrev StandsAt : ℕ → ℕ → ℕ → Action → Type 0
  StandsAt t at n a = stmt at n a ∈ block_list (T.block_of t)

  abbrev HasParts : ℕ → ℕ → ℕ → Action → Type 0
  HasParts t at n a = Parted C l T (T.inputs_of t) (stmt at n a) (body C t).entries

  own_cell_in : (o : Outer) → o.cell ∈ part_cells (outer_parts (o ∷ []))
  own_cell_in o = inner_among (outer_parts (o ∷ [])) (to_right o.parts _ first)

  at_expr : (t : ℕ) (q : Need) {e x : Expr} → e ≡ x → In q (wanted (T.inputs_of t) e) → In q (wanted (T.inputs_of t) x)
  at_expr t q e h = subst (λ (z : Expr). In q (wanted (T.inputs_of t) z)) e h

  simple_uses : (t at n : ℕ) (a : Action) (m : StandsAt t at n a) → HasParts t at n a → IsSimple a → (e : Expr) (q : Need) (r : code.Name) → In e (own_exprs l (T.inputs_of t) a) → In q (wanted (T.inputs_of t) e) → In r (needed q) → Use t r
  simple_uses t at n (assign x o) m P z e q r h u v = of_own t at n (assign x o) m P o q r refl (own_cell_in o) (at_expr t q (only h) u) v
  simple_uses t at n (fill x o) m P z e q r h u v = of_own t at n (fill x o) m P o q r refl (own_cell_in o) (at_expr t q (only h) u) v
  simple_uses t at n (insert x i o) m P z e q r (inl h) u v = of_seen t at n (insert x i o) m P i.cell q r (outer_in (i ∷ o ∷ []) first) (at_expr t q h u) v
  simple_uses t at n (insert x i o) m P z e q r (inr h) u v = of_seen t at n (insert x i o) m P o.cell q r (outer_in (i ∷ o ∷ []) (later first)) (at_expr t q (only h) u) v
  simple_uses t at n (print p o) m P z e q r h u v = of_own t at n (print p o) m P o q r refl (own_cell_in o) (at_expr t q (only h) u) v
  simple_uses t at n (assert p o) m P z e q r h u v = of_own t at n (assert p o) m P o q r refl (own_cell_in o) (at_expr t q (only h) u) v
  simple_uses t at n (declare w) m P z e q r h u v = absurd z
  simple_uses t at n (call_alone p ps c) m P z e q r h u v = absurd z
  simple_uses t at n (when c b) m P z e q r h u v = absurd z
  simple_uses t at n (choose c b d) m P z e q r h u v = absurd z
  simple_uses t at n (range lo hi st x y b) m P z e q r h u v = absurd z
  simple_uses t at n (each a x y b) m P z e q r h u v = absurd z
  simple_uses t at n (wait ns b) m P z e q r h u v = absurd z

  range_uses : (t at n : ℕ) (lo hi : Outer) (st : Option Outer) (x : ℕ) (y : Option ℕ) (b : Block) (m : StandsAt t at n (range lo hi st x y b)) → HasParts t at n (range lo hi st x y b) → (e : Expr) (q : Need) (r : code.Name)
      → In e (own_exprs l (T.inputs_of t) (range lo hi st x y b)) → In q (wanted (T.inputs_of t) e) → In r (needed q) → Use t r
  range_uses t at n lo hi st x y b m P e q r (inl h) u v = of_seen t at n (range lo hi st x y b) m P lo.cell q r (outer_in (outers (range lo hi st x y b)) first) (at_expr t q h u) v
  range_uses t at n lo hi st x y b m P e q r (inr (inl h)) u v = of_seen t at n (range lo hi st x y b) m P hi.cell q r (outer_in (outers (range lo hi st x y b)) (later first)) (at_expr t q h u) v
  range_uses t at n lo hi None x y b m P e q r (inr (inr h)) u v = absurd (at_expr t q (only h) u)
  range_uses t at n lo hi (Some o) x y b m P e q r (inr (inr h)) u v = of_seen t at n (range lo hi (Some o) x y b) m P o.cell q r (outer_in (lo ∷ hi ∷ o ∷ []) (later (later first))) (at_expr t q (only h) u) v

  own_uses : (t at n : ℕ) (a : Action) (j : ℕ) (m : StandsAt t at n a) → HasParts t at n a → OwnOf C l T (T.inputs_of t) (stmt at n a) j → (q : Need) (r : code.Name) → In q (entry C j).needs → In r (needed q) → Use t r
  own_uses t at n a j m P (own_simple z en nd) q r h v = (let u = own_need t j a q en.needs_is h in simple_uses t at n a m P z u.0 q r u.1 u.2 v)
  own_uses t at n a j m P (own_branch {c = c} en mk st) q r h v = (let u = own_need t j a q en.needs_is h in of_seen t at n a m P c.cell q r (outer_in (c ∷ []) first) (at_expr t q (only u.1) u.2) v)
  own_uses t at n a j m P (own_branches {c = c} en mk st su) q r h v = (let u = own_need t j a q en.needs_is h in of_seen t at n a m P c.cell q r (outer_in (c ∷ []) first) (at_expr t q (only u.1) u.2) v)
  own_uses t at n a j m P (own_range {x = x} {lo = lo} {hi = hi} {st = st} {y = y} {b = b} en mk s) q r h v = (let u = own_need t j a q en.needs_is h in range_uses t at n lo hi st x y b m P u.0 q r u.1 u.2 v)
  own_uses t at n a j m P (own_each {a = x} en mk st) q r h v =
      let u = own_need t j a q en.needs_is h in
      of_an_array (array_named (T.inputs_of t) x r (only_name r (name_as (T.inputs_of t) true x) q (Closed (name_as (T.inputs_of t) true x)) (only (at_expr t q (only u.1) u.2)) v refl))
  own_uses t at n a j m P (own_wait {hs = hs} hd en st) q r h v =
      let u = of_flat hs q (of_once q (flat_map (λ (z : Header). z.needs) hs) (by_needs j (each_once (flat_map (λ (z : Header). z.needs) hs)) q en.needs_is h)) in
      headers_use hd (among (blocks_of (T.block_of t)) first m) u.0 q r u.1 u.2 v

  -- what an entry needs itself
  base_uses : (t j : ℕ) (r : code.Name) → In j (body C t).entries → In r (needs_of (entry C j)) → Use t r
  base_uses t j r h u = (let x = home_in C l L t j h in let n = of_needed r (entry C j).needs u in by (x.of).st (x.of).there x.role n.0 n.1 n.2)
    where
      by : (st : Stmt) → st ∈ block_list (T.block_of t) → Role C l T (T.inputs_of t) st j → (q : Need) → In q (entry C j).needs → In r (needed q) → Use t r
      by (stmt at n a) m role q i v =
          let P = parted C l T (L.bodies t (body_within C t j h)).stmts m in
          elim role [ inl p ↦ part_uses t at n a m P j p.as_part p.there p.among q r i v | inr o ↦ own_uses t at n a j m P o q r i v ]

  -- THROUGH A BODY THAT IS OPENED
  abbrev LeadsTo : ℕ → code.Name → Type 0
  LeadsTo j r = Leads C needs_of j r

  outside_block : {t b : ℕ} (i : ℕ) (w : Way) (r q : code.Name) → q.owned ≡ r.owned → T.block_of b ∈ blocks_below (T.block_of t) → T.inputs_of b ≡ T.inputs_of t → In i (body C t).entries → In {X = Way × ℕ} (w, b) (ways (entry C i).act)
      → (Declared C b q → ⊥) → Seen C (entry C i).offset w q r → Use b q → Use t r
  outside_block i w r q e m k h way nd seen (of_an_array z) = of_an_array (subst (λ (o : code.Owned). Rattle.task_code.specs.Code.is_array_owned o ≡ true) e z)
  outside_block {b = b} i w r q e m k h way nd seen (of_a_write j g right) = of_a_write i h (R.all_writes i r (through i j b w r q way g (R.writes j q right) nd seen))
  outside_block {t = t} i w r q e m k h way nd seen (of_a_read o rd z) = of_a_read o (read_outwards (T.block_of t) m rd) (sym e ∙ (z ∙ ap (λ (n : ℕ). owned_as n false o) k))

  step_owned : {r q : code.Name} → q ≡ record { up = suc r.up; owned = r.owned } → q.owned ≡ r.owned
  step_owned e = ap (λ (z : code.Name). z.owned) e

  of_arguments : {t at' : ℕ} {p : ℤ} {c : Call} (at n : ℕ) (a : Action) (i : ℕ) (r : code.Name) (m : StandsAt t at n a) → HasParts t at n a → In i (body C t).entries → (ca : CallAs C l (T.inputs_of t) (own_parts a) at' p c i) → In (Named r) (arguments (entry C i).act) → Use t r
  of_arguments {t} at n a i r m P h ca u =
      elim (in_split (Named r) ca.ins (map Named ca.outs) (subst (λ (z : Act). In (Named r) (arguments z)) (ca.is).act_is u)) [
        | inl j ↦ of_inputs t at n a m P ca.inputs r j
        | inr j ↦ of_target t at n a m P i r h (subst (λ (z : Act). In r (targets_of (entry C i).node z)) (sym (ca.is).act_is) (out_in ca.outs j))
      ]
    where
      out_in : (os : List code.Name) → In (Named r) (map Named os) → In r os
      out_in [] k = absurd k
      out_in (o ∷ os) (inl e) = inl (named_same e)
      out_in (o ∷ os) (inr k) = inr (out_in os k)

  step : (found : (i b : ℕ) → In {X = Way × ℕ} (Calling, b) (ways (entry C i).act) → call_at C (entry C i).offset ≡ i) → {t i b : ℕ} {u : Stmt} (w : Way) (r q : code.Name) → In i (body C t).entries → In {X = Way × ℕ} (w, b) (ways (entry C i).act) → OpensAs s C l T t i u w b → (Declared C b q → ⊥) → Seen C (entry C i).offset w q r → Use b q → Use t r
  step found {t} {i} {b} w r q h way (opens_header {a = a} vs roles m c mk st) nd seen x =
      outside_block i Through r q (step_owned seen) (subst (λ (z : Block). z ∈ blocks_below (T.block_of t)) (sym st.block) (inner_below (T.block_of t) m (header_inner a c))) st.inputs h way nd seen x
  step found {t} {i} w r q h way (opens_wait m hd st) nd seen x =
      outside_block i InPlace r q (ap (λ (z : code.Name). z.owned) seen) (subst (λ (z : Block). z ∈ blocks_below (T.block_of t)) (sym st.block) (stmt_below (T.block_of t) m (headers_inside hd))) st.inputs h way nd seen x
  step found {t} {i} {b} w r q h way (opens_call {st = u} {c = c} at p m k ca fn st e) nd seen x = of_stmt u m ca
    where
      of_stmt : (v : Stmt) → v ∈ block_list (T.block_of t) → CallAs C l (T.inputs_of t) (own_of v) at p c i → Use t r
      of_stmt (stmt at' n a) m ca =
          let z = arg_at (arguments (entry C (call_at C (entry C i).offset)).act) seen.0 seen.1 (Named r) seen.3 in
          of_arguments at' n a i r m (parted C l T (L.bodies t (body_within C t i h)).stmts m) h ca
          (subst (λ (y : ℕ). In (Named r) (arguments (entry C y).act)) (found i b way) (to_in (get_in (arguments (entry C (call_at C (entry C i).offset)).act) seen.0 (Named r) z.0)))

  -- WHAT AN ENTRY MAY READ
  pub uses : (found : (i b : ℕ) → In {X = Way × ℕ} (Calling, b) (ways (entry C i).act) → call_at C (entry C i).offset ≡ i) (t j : ℕ) (r : code.Name) → In j (body C t).entries → LeadsTo j r → Use t r
  uses found t j r h (itself i x u) = base_uses t j r h u
  uses found t j r h (through i j' b w x q way m ld nd seen) = step found w r q h way (opens_as C l L scoped t j b w h way).1 nd seen (uses found b j' q m ld)
