-- Which code is a core's code: the body of each block, and the entries of each statement and its cells. Numbers of
-- bodies and entries are left open, and so are rights and the offsets that a listing shows.
use Rattle.std.specs.Prelude.{◌≡◌, ℕ, ℤ, pos, Bool, true, false, List, [], ◌∷◌, ◌++◌, Option, Some, None, slice_get}
use Rattle.std.specs.List.{flat_map}
use Rattle.dataflow.specs.System.{In}
use Rattle.values.specs.declared.value.Scalar.{Scalar}
use Rattle.values.specs.declared.value.Scalar.TheVariants.{Number}
use Rattle.language.specs.Core.{Name, here, Expr, Exprs, literal, name, whole, operator, none, Form, compute, read, Cell, Call, Part, inner, calls, Outer, Awaited, Stmt, stmt, Action, declare, call_alone, assign, fill, insert, print, assert, when, choose, range, each, wait, Block, no_stmts, stmts, Function, Core}
use Rattle.language.specs.Members.{◌∈◌}
use Rattle.language.specs.Parts.{part_cells, parts, block_list}
use Rattle.language_laws.specs.TypedValues.{own_parts}
use Rattle.task_code.specs.Code as code
use Rattle.task_code.specs.Code.{Variable, Need, At, AtKey, Closed, Argument, Named, Fixed, Header, Loop, Act, Read, Set, Fill, Copy, InsertElement, Print, Assert, If, Range, Each, Wait, Entry, Code, entry, body, constant, no_operand}
use Rattle.task_code.specs.Compute.{key_of}
use Rattle.code_rules.specs.CodeNames.{name_as, wanted, each_once, over, all_over, header}

-- the open choices: which cells have no datum (the plain ones, and those that a statement's own entry computes), which
-- variables are arrays, which body stands for a function
pub record Layout : Type 0 where
  pub plain : ℕ → Bool
  pub array : ℕ → Bool
  pub body_of : ℕ → ℕ

-- a cell as others use it: a plain one as its expression, any other as the datum of its node
abbrev pub seen_as : Bool → ℕ → Form → Expr
seen_as true n (compute e) = e
seen_as true n (read a i) = name (here n)
seen_as false n f = name (here n)

abbrev pub seen : Layout → Cell → Expr
seen l c = seen_as (l.plain c.node) c.node c.form

-- the right side, arguments or condition that a statement's own entry computes itself
abbrev pub own_form : ℕ → Form → Expr
own_form n (compute e) = e
own_form n (read a i) = name (here n)

abbrev pub own_expr : Outer → Expr
own_expr o = own_form o.cell.node o.cell.form

-- the elements of a literal
abbrev pub elements_of : Expr → Exprs
elements_of (operator o es) = es
elements_of _ = none

abbrev pub own_priority : Action → ℤ
own_priority (call_alone p ps c) = p
own_priority (print p o) = p
own_priority (assert p o) = p
own_priority _ = pos 0

module _ (l : Layout) (k : ℕ) where
  abbrev pub step_expr : Option Outer → Expr
  step_expr None = literal (Number (pos 1))
  step_expr (Some o) = seen l o.cell

  -- the expressions that the own entry computes, in reading order
  abbrev pub own_exprs : Action → List Expr
  own_exprs (declare v) = []
  own_exprs (call_alone p ps c) = []
  own_exprs (assign x o) = own_expr o ∷ []
  own_exprs (fill a o) = own_expr o ∷ []
  own_exprs (insert a i o) = seen l i.cell ∷ seen l o.cell ∷ []
  own_exprs (print p o) = own_expr o ∷ []
  own_exprs (assert p o) = own_expr o ∷ []
  own_exprs (when c b) = seen l c.cell ∷ []
  own_exprs (choose c b d) = seen l c.cell ∷ []
  own_exprs (range lo hi st v t b) = seen l lo.cell ∷ seen l hi.cell ∷ step_expr st ∷ []
  own_exprs (each a v t b) = whole a ∷ []
  own_exprs (wait ns b) = []

  abbrev pub own_needs : Action → List Need
  own_needs a = each_once (flat_map (wanted k) (own_exprs a))

  abbrev pub fill_act : List Need → Name → Expr → Act
  fill_act ns a (whole b) = Copy (name_as k true a)
  fill_act ns a e = Fill (name_as k true a) (all_over k ns (elements_of e))

  abbrev pub simple_act : List Need → Action → Act
  simple_act ns (assign x o) = Set (name_as k false x) (over k ns (own_expr o))
  simple_act ns (fill a o) = fill_act ns a (own_expr o)
  simple_act ns (insert a i o) = InsertElement (name_as k true a) (over k ns (seen l i.cell)) (over k ns (seen l o.cell))
  simple_act ns (assert p o) = Assert (over k ns (own_expr o))
  simple_act ns (print p o) = Print (over k ns (own_expr o))
  simple_act ns a = Print (constant (Number (pos 0)))

-- the statements that a simple entry stands for
abbrev pub IsSimple : Action → Type 0
IsSimple (assign x o) = Unit {0}
IsSimple (fill a o) = Unit {0}
IsSimple (insert a i o) = Unit {0}
IsSimple (print p o) = Unit {0}
IsSimple (assert p o) = Unit {0}
IsSimple _ = ⊥

-- the cell that a statement's own entry computes has no datum
abbrev pub own_is_plain : Layout → Cell → Form → Type 0
own_is_plain l c (compute e) = l.plain c.node ≡ true
own_is_plain l c (read a i) = Unit {0}

abbrev pub OwnPlain : Layout → Action → Type 0
OwnPlain l (assign x o) = own_is_plain l o.cell o.cell.form
OwnPlain l (fill a o) = own_is_plain l o.cell o.cell.form
OwnPlain l (print p o) = own_is_plain l o.cell o.cell.form
OwnPlain l (assert p o) = own_is_plain l o.cell o.cell.form
OwnPlain l a = Unit {0}

-- the contents of an entry, except its node, the offset that a listing shows, and its rights
pub record IsEntry (e : Entry) (at : ℕ) (p : ℤ) (ns : List Need) (a : Act) : Type 0 where
  pub at_is : e.at ≡ at
  pub priority_is : e.priority ≡ p
  pub needs_is : e.needs ≡ ns
  pub act_is : e.act ≡ a

module _ (C : Code) (l : Layout) where
  -- the argument that a call passes for an input: the named cell, as others use it, or an array
  pub data InputAs (k : ℕ) (all : List Part) : Name → Argument → Type 0 where
    of_literal : {n : ℕ} {v : Scalar} → record { node = n; form = compute (literal v) } ∈ part_cells all → l.plain n ≡ true → InputAs k all (here n) (Fixed v)
    of_name : {n : ℕ} {x : Name} → record { node = n; form = compute (name x) } ∈ part_cells all → l.plain n ≡ true → InputAs k all (here n) (Named (name_as k false x))
    of_datum : {c : Cell} → c ∈ part_cells all → l.plain c.node ≡ false → InputAs k all (here c.node) (Named (name_as k false (here c.node)))
    of_array : {x : Name} → InputAs k all x (Named (name_as k true x))

  pub data InputsAs (k : ℕ) (all : List Part) : List Name → List Argument → Type 0 where
    no_input : InputsAs k all [] []
    one_input : {x : Name} {a : Argument} {xs : List Name} {ys : List Argument} → InputAs k all x a → InputsAs k all xs ys → InputsAs k all (x ∷ xs) (a ∷ ys)

  -- the variables that a call passes for its outputs
  pub data OutputsAs (k : ℕ) : List Name → List code.Name → Type 0 where
    no_output : OutputsAs k [] []
    one_output : (b : Bool) {x : Name} {xs : List Name} {ys : List code.Name} → OutputsAs k xs ys → OutputsAs k (x ∷ xs) (name_as k b x ∷ ys)

  pub record CallAs (k : ℕ) (all : List Part) (at : ℕ) (p : ℤ) (c : Call) (j : ℕ) : Type 0 where
    pub ins : List Argument
    pub outs : List code.Name
    pub is : IsEntry (entry C j) at p [] (code.Call (l.body_of c.function) ins outs)
    pub offset_is : (entry C j).offset ≡ c.at
    pub inputs : InputsAs k all c.inputs ins
    pub outputs : OutputsAs k c.outputs outs

  -- the element that a read needs, by the cell of its index
  pub data IndexAs (k : ℕ) (all : List Part) (a : Name) : ℕ → Need → Type 0 where
    at_literal : {n : ℕ} {v : Scalar} → record { node = n; form = compute (literal v) } ∈ part_cells all → l.plain n ≡ true → IndexAs k all a n (AtKey (name_as k true a) (key_of v))
    at_name : {n : ℕ} {x : Name} → record { node = n; form = compute (name x) } ∈ part_cells all → l.plain n ≡ true → IndexAs k all a n (At (name_as k true a) (name_as k false x))
    at_datum : {c : Cell} → c ∈ part_cells all → l.plain c.node ≡ false → IndexAs k all a c.node (At (name_as k true a) (name_as k false (here c.node)))

  -- the entry of a cell or call, or none for a plain cell; `all`: the parts of the statement, `at`: its offset, `p`:
  -- its priority
  pub data PartAs (k : ℕ) (all : List Part) (at : ℕ) (p : ℤ) : Part → List ℕ → Type 0 where
    plain_literal : {n : ℕ} {v : Scalar} → l.plain n ≡ true → PartAs k all at p (inner (record { node = n; form = compute (literal v) })) []
    plain_name : {n : ℕ} {x : Name} → l.plain n ≡ true → PartAs k all at p (inner (record { node = n; form = compute (name x) })) []
    a_cell : {n j : ℕ} {e : Expr} → l.plain n ≡ false → (entry C j).node ≡ n → IsEntry (entry C j) at p (each_once (wanted k e)) (code.Cell (over k (each_once (wanted k e)) e))
        → PartAs k all at p (inner (record { node = n; form = compute e })) (j ∷ [])
    a_read : {n i j : ℕ} {a : Name} {need : Need} → l.plain n ≡ false → (entry C j).node ≡ n → IndexAs k all a i need → IsEntry (entry C j) at p (need ∷ []) Read
        → PartAs k all at p (inner (record { node = n; form = read a i })) (j ∷ [])
    a_call : {c : Call} {j : ℕ} → CallAs k all at p c j → PartAs k all at p (calls c) (j ∷ [])

  pub data PartsAs (k : ℕ) (all : List Part) (at : ℕ) (p : ℤ) : List Part → List ℕ → Type 0 where
    no_part : PartsAs k all at p [] []
    one_part : {x : Part} {xs : List Part} {is js ks : List ℕ} → PartAs k all at p x is → PartsAs k all at p xs js → ks ≡ is ++ js → PartsAs k all at p (x ∷ xs) ks

  -- a body declares the block's variables; no plain cell has a datum
  pub record MakesAs (b : Block) (vs : List Variable) : Type 0 where
    pub declared : (at m n : ℕ) → stmt at m (declare n) ∈ block_list b → In (record { node = n; array = l.array n }) vs
    pub arrays : (n : ℕ) → In (record { node = n; array = true }) vs → (at : ℕ) × (m : ℕ) × (stmt at m (declare n) ∈ block_list b)
    pub kinds : (v : Variable) → In v vs → v.array ≡ l.array v.node
    pub real : (v : Variable) → In v vs → l.plain v.node ≡ false

  mutual
    -- the entries of a statement, its own entry last
    pub data StmtAs (k : ℕ) : Stmt → List ℕ → Type 0 where
      declares : {at n v : ℕ} → StmtAs k (stmt at n (declare v)) []
      calls_alone : {at n : ℕ} {p : ℤ} {ps : List Part} {c : Call} {es : List ℕ} → PartsAs k (parts (call_alone p ps c)) at p (parts (call_alone p ps c)) es → StmtAs k (stmt at n (call_alone p ps c)) es
      simple : {at n : ℕ} (j : ℕ) {a : Action} {es is : List ℕ} → IsSimple a → OwnPlain l a → PartsAs k (own_parts a) at (own_priority a) (own_parts a) is
          → IsEntry (entry C j) at (own_priority a) (own_needs l k a) (simple_act l k (own_needs l k a) a) → (entry C j).node ≡ n → es ≡ is ++ j ∷ []
          → StmtAs k (stmt at n a) es
      branch : {at n t : ℕ} (j : ℕ) {c : Outer} {b : Block} {es is : List ℕ} → PartsAs k (parts (when c b)) at (pos 0) (parts (when c b)) is
          → IsEntry (entry C j) at (pos 0) (own_needs l k (when c b)) (If (over k (own_needs l k (when c b)) (seen l c.cell)) t None) → (entry C j).offset ≡ at → BodyAs k b t → es ≡ is ++ j ∷ []
          → StmtAs k (stmt at n (when c b)) es
      branches : {at n t u : ℕ} (j : ℕ) {c : Outer} {b d : Block} {es is : List ℕ} → PartsAs k (parts (choose c b d)) at (pos 0) (parts (choose c b d)) is
          → IsEntry (entry C j) at (pos 0) (own_needs l k (choose c b d)) (If (over k (own_needs l k (choose c b d)) (seen l c.cell)) t (Some u)) → (entry C j).offset ≡ at → BodyAs k b t → BodyAs k d u → es ≡ is ++ j ∷ []
          → StmtAs k (stmt at n (choose c b d)) es
      range_loop : {at n t x : ℕ} (j : ℕ) {lo hi : Outer} {st : Option Outer} {y : Option ℕ} {b : Block} {es is : List ℕ}
          → PartsAs k (parts (range lo hi st x y b)) at (pos 0) (parts (range lo hi st x y b)) is
          → IsEntry (entry C j) at (pos 0) (own_needs l k (range lo hi st x y b))
          (Range (over k (own_needs l k (range lo hi st x y b)) (seen l lo.cell)) (over k (own_needs l k (range lo hi st x y b)) (seen l hi.cell)) (over k (own_needs l k (range lo hi st x y b)) (step_expr l k st)) (record { body = t; value = x; turn = y }))
          → (entry C j).offset ≡ at → BodyAs k b t → es ≡ is ++ j ∷ []
          → StmtAs k (stmt at n (range lo hi st x y b)) es
      array_loop : {at n t x : ℕ} (j : ℕ) {a : Name} {y : Option ℕ} {b : Block} {es : List ℕ}
          → IsEntry (entry C j) at (pos 0) (own_needs l k (each a x y b)) (Each (record { body = t; value = x; turn = y })) → (entry C j).offset ≡ at → BodyAs k b t → es ≡ j ∷ []
          → StmtAs k (stmt at n (each a x y b)) es
      waits : {at n t : ℕ} (j : ℕ) {ns : List Awaited} {b : Block} {hs : List Header} {es : List ℕ} → WaitAs k (stmt at n (wait ns b)) hs t
          → IsEntry (entry C j) at (pos 0) (each_once (flat_map (λ h. h.needs) hs)) (Wait hs t) → es ≡ j ∷ []
          → StmtAs k (stmt at n (wait ns b)) es

    -- one wait, or one whose content is exactly another wait
    pub data WaitAs (k : ℕ) : Stmt → List Header → ℕ → Type 0 where
      one_wait : {at n t : ℕ} {ns : List Awaited} {b : Block} {hs : List Header} → BodyAs k b t → hs ≡ header k at ns ∷ [] → WaitAs k (stmt at n (wait ns b)) hs t
      merged : {at n t : ℕ} {ns : List Awaited} {st : Stmt} {gs hs : List Header} → WaitAs k st gs t → hs ≡ header k at ns ∷ gs → WaitAs k (stmt at n (wait ns (stmts st no_stmts))) hs t

    -- the entries of a block, in the order of its statements
    pub data BlockAs (k : ℕ) : Block → List ℕ → Type 0 where
      no_stmt : BlockAs k no_stmts []
      one_stmt : {st : Stmt} {b : Block} {es is js : List ℕ} → StmtAs k st is → BlockAs k b js → es ≡ is ++ js → BlockAs k (stmts st b) es

    -- a body stands for a block
    pub data BodyAs (k : ℕ) : Block → ℕ → Type 0 where
      body_as : {b : Block} {t : ℕ} → BlockAs k b (body C t).entries → MakesAs b (body C t).makes → BodyAs k b t

-- code is a core's code
pub record IsCodeOf (s : Core) (C : Code) : Type 0 where
  pub layout : Layout
  pub script : BodyAs C layout 0 s.body 0
  pub functions : (i : ℕ) (f : Function) → slice_get s.functions i ≡ Some f → BodyAs C layout f.inputs f.body (layout.body_of i)
