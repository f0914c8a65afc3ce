-- In the core of a tree the cell that gives the index of a read stands before the read.
use Rattle.std.proofs.Common.{◌≡◌, inl, inr, ℕ, List, [], ◌∷◌, ◌++◌, refl, sym, ap, subst, Option, Some, None, option_map, append_assoc}
use Rattle.std.specs.Prelude.{ℤ, option_to_list}
use Rattle.language.specs.declared.tree.Shape.{Shape}
use Rattle.language.specs.Core.{Name, here, Form, compute, read, Cell, Part, inner, calls, Outer, stmt, Action, assign, Block}
use Rattle.language.specs.Members.{◌∈◌, first, later}
use Rattle.language.specs.Parts.{part_cells, outer_parts}
use Rattle.language.specs.Resolved.{number_of, Formed, Operands, Arguments, as_cell, as_operand, as_argument, variable_or_cell, call_form, call_to, form_of, form_in, operands_of, arguments_of, outer, after_first, plain_right, call_right, right_of, call_action, several, loop_action, core}
use Rattle.language.specs.Table as table
use Rattle.language.specs.Table.{Table, Callee, composite, built_in}
use Rattle.language.specs.Tree as T
use Rattle.language.specs.Tree.{expressions_of, Word, Expression, expression, number, text, truth, variable, element, call, prefixed, chain, Expressions, no_expressions, and_expression, RightSide, value, list, Over, Tree}
use Rattle.language.proofs.Members.{split_in, either}
use Rattle.language_laws.specs.TypedValues.{own_cell, own_parts}
use Rattle.language_laws.proofs.Each.{OfEach, holds_of_all}
use Rattle.code_rules.specs.Laying.{IndexesStand}
use Rattle.code_rules.specs.Emitted.{ReadsStand}

-- PARTS

-- a cell of a node stands among parts
abbrev HasCell : ℕ → List Part → Type 0
HasCell i ps = (c : Cell) × (c ∈ part_cells ps) × (c.node ≡ i)

-- the index of a form that reads stands before it
abbrev FormStands : List Part → Form → Type 0
FormStands ps (compute e) = Unit {0}
FormStands ps (read a i) = HasCell i ps

abbrev BothStand : List Part → Form → Type 0
BothStand ps f = IndexesStand ps × FormStands ps f

cells_left : (c : Cell) (ps qs : List Part) → c ∈ part_cells ps → c ∈ part_cells (ps ++ qs)
cells_left c [] qs m = elim m [ ]
cells_left c (inner d ∷ ps) qs m = elim (split_in m) [ inl e ↦ subst (λ (x : Cell). x ∈ (d ∷ part_cells (ps ++ qs))) (sym e) first | inr i ↦ later (cells_left c ps qs i) ]
cells_left c (calls d ∷ ps) qs m = cells_left c ps qs m

cells_right : (c : Cell) (ps qs : List Part) → c ∈ part_cells qs → c ∈ part_cells (ps ++ qs)
cells_right c [] qs m = m
cells_right c (inner d ∷ ps) qs m = later (cells_right c ps qs m)
cells_right c (calls d ∷ ps) qs m = cells_right c ps qs m

has_left : (i : ℕ) (ps qs : List Part) → HasCell i ps → HasCell i (ps ++ qs)
has_left i ps qs h = (h.0, cells_left h.0 ps qs h.1, h.2)

nothing_stands : IndexesStand []
nothing_stands n i a m = elim m [ ]

stand_both : (ps qs : List Part) → IndexesStand ps → IndexesStand qs → IndexesStand (ps ++ qs)
stand_both ps qs h g n i a m = elim (either ps qs m) [
  | inl j ↦ has_left i ps qs (h n i a j)
  | inr j ↦ (let r = g n i a j in (r.0, cells_right r.0 ps qs r.1, r.2))
]

same_form : {c d : Cell} → inner c ≡ inner d → c ≡ d
same_form e = cc

stand_inner : (n : ℕ) (ps : List Part) (f : Form) → BothStand ps f → IndexesStand (ps ++ inner (record { node = n; form = f }) ∷ [])
stand_inner n ps f h m i a j = elim (either ps (inner (record { node = n; form = f }) ∷ []) j) [
  | inl k ↦ has_left i ps (inner (record { node = n; form = f }) ∷ []) (h.0 m i a k)
  | inr k ↦ elim (split_in k) [ inl e ↦ has_left i ps (inner (record { node = n; form = f }) ∷ []) (by f h.1 (ap (λ (c : Cell). c.form) (same_form e))) | inr z ↦ elim z [ ] ]
]
  where
    index_same : {x y : Name} {p q : ℕ} → read x p ≡ read y q → p ≡ q
    index_same e = cc

    by : (g : Form) → FormStands ps g → read a i ≡ g → HasCell i ps
    by (compute x) st e = absurd (cc (e))
    by (read b q) st e = subst (λ (z : ℕ). HasCell z ps) (sym (index_same e)) st

stand_call : (ps : List Part) (c : _) → IndexesStand ps → IndexesStand (ps ++ calls c ∷ [])
stand_call ps c h n i a j = elim (either ps (calls c ∷ []) j) [ inl k ↦ has_left i ps (calls c ∷ []) (h n i a k) | inr k ↦ elim (split_in k) [ inl e ↦ absurd (cc (e)) | inr z ↦ elim z [ ] ] ]

cell_there : (n : ℕ) (ps : List Part) (f : Form) → HasCell n (ps ++ inner (record { node = n; form = f }) ∷ [])
cell_there n ps f = (record { node = n; form = f }, cells_right (record { node = n; form = f }) ps (inner (record { node = n; form = f }) ∷ []) first, refl)

-- EXPRESSIONS

cell_stands : (n : ℕ) (f : Formed) → BothStand f.0 f.1 → IndexesStand (as_cell n f)
cell_stands n f h = stand_inner n f.0 f.1 h

operand_stands : (n : ℕ) (f : Formed) → BothStand f.0 f.1 → IndexesStand (as_operand n f).0
operand_stands n (ps, compute e) h = h.0
operand_stands n (ps, read a i) h = stand_inner n ps (read a i) h

shape_stands : (n : ℕ) (sh : Shape) (t : Table) (w : Word) (f : Formed) → BothStand f.0 f.1 → IndexesStand (variable_or_cell sh t w n f).0
shape_stands n (Shape.Array κ) t w f h = nothing_stands
shape_stands n Shape.Scalar t w f h = cell_stands n f h

argument_stands : (t : Table) (e : Expression) (f : Formed) → BothStand f.0 f.1 → IndexesStand (as_argument t e f).0
argument_stands t (expression nd (variable w)) f h = shape_stands nd.number (t.shape_of w.number) t w f h
argument_stands t (expression nd (number z)) f h = cell_stands nd.number f h
argument_stands t (expression nd (text bytes)) f h = cell_stands nd.number f h
argument_stands t (expression nd (truth b)) f h = cell_stands nd.number f h
argument_stands t (expression nd (element w i)) f h = cell_stands nd.number f h
argument_stands t (expression nd (call w es)) f h = cell_stands nd.number f h
argument_stands t (expression nd (prefixed p x)) f h = cell_stands nd.number f h
argument_stands t (expression nd (chain os es)) f h = cell_stands nd.number f h

call_stands : (t : Table) (w : Word) (c : Callee) (es : Expressions) (xs : Arguments) (os : Operands) → IndexesStand xs.0 → IndexesStand os.0 → BothStand (call_form t w c es xs os).0 (call_form t w c es xs os).1
call_stands t w (composite i) es xs os h g = (stand_call xs.0 (call_to w i xs.1 (here w.number ∷ [])) h, tt)
call_stands t w (built_in table.size) es xs os h g = (nothing_stands, tt)
call_stands t w (built_in table.strcat) es xs os h g = (g, tt)
call_stands t w (built_in table.fromint) es xs os h g = (g, tt)
call_stands t w (built_in table.toint) es xs os h g = (g, tt)
call_stands t w (built_in table.printf) es xs os h g = (g, tt)
call_stands t w (built_in table.assert) es xs os h g = (g, tt)

mutual
  expression_stands : (t : Table) (e : Expression) → BothStand (form_of t e).0 (form_of t e).1
  expression_stands t (expression nd f) = form_stands t f

  form_stands : (t : Table) (f : T.Form) → BothStand (form_in t f).0 (form_in t f).1
  form_stands t (number z) = (nothing_stands, tt)
  form_stands t (text bytes) = (nothing_stands, tt)
  form_stands t (truth b) = (nothing_stands, tt)
  form_stands t (variable w) = (nothing_stands, tt)
  form_stands t (element w i) = (cell_stands (number_of i) (form_of t i) (expression_stands t i), cell_there (number_of i) (form_of t i).0 (form_of t i).1)
  form_stands t (call w es) = call_stands t w (t.callee_of w.number) es (arguments_of t es) (operands_of t es) (arguments_stand t es) (operands_stand t es)
  form_stands t (prefixed p e) = (operand_stands (number_of e) (form_of t e) (expression_stands t e), tt)
  form_stands t (chain os es) = (operands_stand t es, tt)

  operands_stand : (t : Table) (es : Expressions) → IndexesStand (operands_of t es).0
  operands_stand t no_expressions = nothing_stands
  operands_stand t (and_expression e es) = stand_both (as_operand (number_of e) (form_of t e)).0 (operands_of t es).0 (operand_stands (number_of e) (form_of t e) (expression_stands t e)) (operands_stand t es)

  arguments_stand : (t : Table) (es : Expressions) → IndexesStand (arguments_of t es).0
  arguments_stand t no_expressions = nothing_stands
  arguments_stand t (and_expression e es) = stand_both (as_argument t e (form_of t e)).0 (arguments_of t es).0 (argument_stands t e (form_of t e) (expression_stands t e)) (arguments_stand t es)

-- an outermost cell: alone, and as a statement's own
abbrev OuterStands : Outer → Type 0
OuterStands o = BothStand o.parts o.cell.form

own_stands : (n : ℕ) (ps : List Part) (f : Form) → BothStand ps f → IndexesStand (ps ++ own_cell (record { node = n; form = f }) f)
own_stands n ps (compute e) h = stand_both ps [] h.0 nothing_stands
own_stands n ps (read a i) h = stand_inner n ps (read a i) h

outers_stand : (os : List Outer) → ((o : Outer) → o ∈ os → OuterStands o) → IndexesStand (outer_parts os)
outers_stand [] h = nothing_stands
outers_stand (o ∷ os) h =
    subst IndexesStand (append_assoc o.parts (inner o.cell ∷ []) (outer_parts os))
    (stand_both (o.parts ++ inner o.cell ∷ []) (outer_parts os) (stand_inner o.cell.node o.parts o.cell.form (h o first)) (outers_stand os (λ x m. h x (later m))))

-- STATEMENTS

abbrev OwnStand : Action → Type 0
OwnStand a = IndexesStand (own_parts a)

outer_stands : (t : Table) (e : Expression) → OuterStands (outer t e)
outer_stands t e = expression_stands t e

assign_stands : (t : Table) (x : Name) (e : Expression) → OwnStand (assign x (outer t e))
assign_stands t x e = own_stands (number_of e) (form_of t e).0 (form_of t e).1 (expression_stands t e)

plain_stands : (t : Table) (x : Name) (a : Shape) (e : Expression) → OwnStand (plain_right t x a e)
plain_stands t x Shape.Scalar e = assign_stands t x e
plain_stands t x (Shape.Array κ) (expression nd (number z)) = assign_stands t x (expression nd (number z))
plain_stands t x (Shape.Array κ) (expression nd (text b)) = assign_stands t x (expression nd (text b))
plain_stands t x (Shape.Array κ) (expression nd (truth b)) = assign_stands t x (expression nd (truth b))
plain_stands t x (Shape.Array κ) (expression nd (variable w)) = nothing_stands
plain_stands t x (Shape.Array κ) (expression nd (element w i)) = assign_stands t x (expression nd (element w i))
plain_stands t x (Shape.Array κ) (expression nd (call w es)) = assign_stands t x (expression nd (call w es))
plain_stands t x (Shape.Array κ) (expression nd (prefixed p e)) = assign_stands t x (expression nd (prefixed p e))
plain_stands t x (Shape.Array κ) (expression nd (chain os es)) = assign_stands t x (expression nd (chain os es))

call_right_stands : (t : Table) (x : Name) (e : Expression) (w : Word) (es : Expressions) (c : Callee) → OwnStand (call_right t x e w es c)
call_right_stands t x e w es (composite i) = stand_call (arguments_of t es).0 (call_to w i (arguments_of t es).1 (x ∷ [])) (arguments_stand t es)
call_right_stands t x e w es (built_in b) = assign_stands t x e

right_stands : (t : Table) (x : Name) (a : Shape) (r : RightSide) → OwnStand (right_of t x a r)
right_stands t x a (value (expression nd (number z))) = plain_stands t x a (expression nd (number z))
right_stands t x a (value (expression nd (text b))) = plain_stands t x a (expression nd (text b))
right_stands t x a (value (expression nd (truth b))) = plain_stands t x a (expression nd (truth b))
right_stands t x a (value (expression nd (variable w))) = plain_stands t x a (expression nd (variable w))
right_stands t x a (value (expression nd (element w i))) = plain_stands t x a (expression nd (element w i))
right_stands t x a (value (expression nd (call w es))) = call_right_stands t x (expression nd (call w es)) w es (t.callee_of w.number)
right_stands t x a (value (expression nd (prefixed p e))) = plain_stands t x a (expression nd (prefixed p e))
right_stands t x a (value (expression nd (chain os es))) = plain_stands t x a (expression nd (chain os es))
right_stands t x a (list nd es) = stand_both (operands_of t (expressions_of es)).0 [] (operands_stand t (expressions_of es)) nothing_stands

assert_stands : (t : Table) (es : Expressions) → IndexesStand ((operands_of t es).0 ++ [])
assert_stands t es = stand_both (operands_of t es).0 [] (operands_stand t es) nothing_stands

call_action_stands : (t : Table) (p : ℤ) (n : ℕ) (w : Word) (es : Expressions) (c : Callee) → OwnStand (call_action t p n w es c)
call_action_stands t p n w es (composite i) = stand_call (arguments_of t es).0 (call_to w i (arguments_of t es).1 []) (arguments_stand t es)
call_action_stands t p n w es (built_in table.printf) = assert_stands t (after_first es)
call_action_stands t p n w es (built_in table.strcat) = assert_stands t es
call_action_stands t p n w es (built_in table.fromint) = assert_stands t es
call_action_stands t p n w es (built_in table.toint) = assert_stands t es
call_action_stands t p n w es (built_in table.size) = assert_stands t es
call_action_stands t p n w es (built_in table.assert) = assert_stands t es

several_stands : (t : Table) (n : ℕ) (w : Word) (es : Expressions) (xs : List Name) (c : Callee) → OwnStand (several t n w es xs c)
several_stands t n w es xs (composite i) = stand_call (arguments_of t es).0 (call_to w i (arguments_of t es).1 xs) (arguments_stand t es)
several_stands t n w es xs (built_in b) =
    let f = call_form t w (built_in b) es ([], []) (operands_of t es) in
    own_stands n f.0 f.1 (call_stands t w (built_in b) es ([], []) (operands_of t es) nothing_stands (operands_stand t es))

each_outer : (t : Table) (low high : Expression) (step : Option Expression) (o : Outer) → o ∈ (outer t low ∷ outer t high ∷ option_to_list (option_map (outer t) step)) → OuterStands o
each_outer t low high step o m = elim (split_in m) [
  | inl e ↦ subst OuterStands (sym e) (outer_stands t low)
  | inr m ↦ elim (split_in m) [ inl e ↦ subst OuterStands (sym e) (outer_stands t high) | inr m ↦ by step m ]
]
  where
    by : (step : Option Expression) → o ∈ option_to_list (option_map (outer t) step) → OuterStands o
    by None m = elim m [ ]
    by (Some e) m = elim (split_in m) [ inl q ↦ subst OuterStands (sym q) (outer_stands t e) | inr z ↦ elim z [ ] ]

loop_stands : (t : Table) (v : Word) (k : Option Word) (o : Over) (b : Block) → OwnStand (loop_action t v k o b)
loop_stands t v k (T.array w) b = nothing_stands
loop_stands t v k (T.range low high step) b = outers_stand (outer t low ∷ outer t high ∷ option_to_list (option_map (outer t) step)) (each_outer t low high step)

one_outer : (t : Table) (e : Expression) → IndexesStand (outer_parts (outer t e ∷ []))
one_outer t e = outers_stand (outer t e ∷ []) (λ o m. elim (split_in m) [ inl q ↦ subst OuterStands (sym q) (outer_stands t e) | inr z ↦ elim z [ ] ])

two_outers : (t : Table) (i e : Expression) → IndexesStand (outer_parts (outer t i ∷ outer t e ∷ []))
two_outers t i e = outers_stand (outer t i ∷ outer t e ∷ []) (λ o m. each_outer t i e None o m)

-- THE CORE OF A TREE

each_stands : (t : Table) → OfEach OwnStand t
each_stands t = record {
  declares = λ v. nothing_stands;
  rights = right_stands t;
  writes = λ x i e. two_outers t i e;
  severals = several_stands t;
  calleds = λ n p. call_action_stands t p n;
  whens = λ e d. one_outer t e;
  chooses = λ e d f. one_outer t e;
  loops = loop_stands t;
  waits = λ ws b. nothing_stands;
}

pub reads_stand : (t : Table) (tree : Tree) → ReadsStand (core t tree)
reads_stand t tree at n a h = holds_of_all OwnStand t (each_stands t) tree (stmt at n a) h
