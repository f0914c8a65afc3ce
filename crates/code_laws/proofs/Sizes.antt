-- The core of a tree has no more statements, cells, calls and names than twice the numbers of the tree.
use Rattle.std.specs.Prelude.{◌≡◌, ℕ, suc, ◌+◌, ◌*◌, ◌≤◌, ℤ, pos, List, [], ◌∷◌, ◌++◌, map, Option, Some, None, length, refl}
use Rattle.std.proofs.Common.{ap, arith}
use Rattle.std.proofs.lemmas.List.Sums.{sum_by-cons}
use Rattle.values.specs.Operators as op
use Rattle.language.specs.declared.tree.Shape.{Shape}
use Rattle.language.specs.Tree as T
use Rattle.language.specs.Tree.{Word, Expression, expression, number, text, truth, variable, element, call, prefixed, chain, Expressions, no_expressions, and_expression, expressions_of, RightSide, value, list, Over, Statement, statement, Command, choice, choice_else, loop, waits, Body, body, Statements, no_statements, and_statement, Part, Tree, import, function, single, Node}
use Rattle.language.specs.Core.{Name, here, compute, read, inner, calls, Outer, Action, declare, assign, insert, assert, when, choose, wait, Stmt, stmt, Block, stmts, Function}
use Rattle.language.specs.Core as core
use Rattle.language.specs.Parts.{stmts_among, script_stmts, parts, outer_parts, block_list, blocks_below, blocks_inside, blocks_of, function_blocks}
use Rattle.language.specs.Resolved as resolved
use Rattle.language.specs.Resolved.{refers, Formed, Operands, Arguments, form_of, form_in, operands_of, arguments_of, computes, call_form, call_to, number_of, outer_of, outer, after_first, composite_call, call_right, right_of, call_action, several, awaited, loop_action, stmt_of, block_of, block_in, with_statement, with_command, script_block, functions_of, format_of, sized, builtin_operation, prefix_operation, chain_operation, one_operand, with_operand, with_argument, as_cell, as_operand, as_argument, variable_or_cell}
use Rattle.language.specs.Table as table
use Rattle.language.specs.Table.{Table, Callee, composite, built_in}
use Rattle.language.specs.Numbered.{expression_size, form_size, expressions_size, right_size, over_size, statement_size, command_size, body_size, statements_size, part_size, tree_size}
use Rattle.syntax_trees.proofs.Numbering.{expressions_size-expressions_of}
use Rattle.language_laws.proofs.TreeStmts.{right_no_block, several_no_block, call_no_block, loop_block}
use Rattle.code_rules.specs.Emitted.{stmts_size, size_of}

-- NAMES

-- how many names stand in an expression, and in a cell's
abbrev mutual
  pub names : core.Expr → ℕ
  names (core.literal v) = 0
  names (core.name x) = 1
  names (core.whole a) = 1
  names (core.operator o es) = all_names es

  pub all_names : core.Exprs → ℕ
  all_names core.none = 0
  all_names (core.also e es) = names e + all_names es

abbrev pub form_names : core.Form → ℕ
form_names (compute e) = names e
form_names (read a i) = 0

-- a part with its names
abbrev pub part_weight : core.Part → ℕ
part_weight (inner c) = 1 + form_names c.form
part_weight (calls c) = 1

abbrev pub weight : List core.Part → ℕ
weight [] = 0
weight (p ∷ ps) = part_weight p + weight ps

-- PARTS

single_operand : (p : List core.Part × core.Expr) → weight (one_operand p).0 + all_names (one_operand p).1 ≡ weight p.0 + names p.1
single_operand (ps, e) = omega arith

pub append : (ps qs : List core.Part) → weight (ps ++ qs) ≡ weight ps + weight qs
append [] qs = omega arith
append (p ∷ ps) qs = let e = append ps qs in omega arith

cell_parts : (m : ℕ) (f : Formed) → weight (as_cell m f) ≡ weight f.0 + form_names f.1 + 1
cell_parts m f = let e = append f.0 (inner (record { node = m; form = f.1 }) ∷ []) in omega arith

operand_parts : (m : ℕ) (f : Formed) → weight (as_operand m f).0 + names (as_operand m f).1 ≤ weight f.0 + form_names f.1 + 2
operand_parts m (ps, compute e) = omega arith
operand_parts m (ps, read a i) = let c = cell_parts m (ps, read a i) in omega arith

shape_parts : (m : ℕ) (sh : Shape) (t : Table) (w : Word) (f : Formed) → weight (variable_or_cell sh t w m f).0 ≤ weight f.0 + form_names f.1 + 1
shape_parts m (Shape.Array κ) t w f = omega arith
shape_parts m Shape.Scalar t w f = let c = cell_parts m f in omega arith

argument_parts : (t : Table) (e : Expression) (f : Formed) → weight (as_argument t e f).0 ≤ weight f.0 + form_names f.1 + 1
argument_parts t (expression nd (variable w)) f = shape_parts nd.number (t.shape_of w.number) t w f
argument_parts t (expression nd (number z)) f = let c = cell_parts nd.number f in omega arith
argument_parts t (expression nd (text bytes)) f = let c = cell_parts nd.number f in omega arith
argument_parts t (expression nd (truth b)) f = let c = cell_parts nd.number f in omega arith
argument_parts t (expression nd (element w i)) f = let c = cell_parts nd.number f in omega arith
argument_parts t (expression nd (call w es)) f = let c = cell_parts nd.number f in omega arith
argument_parts t (expression nd (prefixed p x)) f = let c = cell_parts nd.number f in omega arith
argument_parts t (expression nd (chain os es)) f = let c = cell_parts nd.number f in omega arith

-- what is found of an expression: its parts and its own names
abbrev found : Formed → ℕ
found f = weight f.0 + form_names f.1

abbrev operands : Operands → ℕ
operands os = weight os.0 + all_names os.1

computed : (o : op.Operation) (os : Operands) → found (computes o os) ≡ operands os
computed o (ps, es) = refl

sized_names : (t : Table) (es : Expressions) → all_names (sized t es) ≤ 1
sized_names t (and_expression (expression nd (variable w)) es) = omega arith
sized_names t no_expressions = omega arith
sized_names t (and_expression (expression nd (number z)) es) = omega arith
sized_names t (and_expression (expression nd (text bytes)) es) = omega arith
sized_names t (and_expression (expression nd (truth b)) es) = omega arith
sized_names t (and_expression (expression nd (element w i)) es) = omega arith
sized_names t (and_expression (expression nd (call w fs)) es) = omega arith
sized_names t (and_expression (expression nd (prefixed p x)) es) = omega arith
sized_names t (and_expression (expression nd (chain os xs)) es) = omega arith

call_parts : (t : Table) (w : Word) (c : Callee) (es : Expressions) (xs : Arguments) (os : Operands) (k : ℕ) → weight xs.0 ≤ k → operands os ≤ k → found (call_form t w c es xs os) ≤ 2 + k
call_parts t w (composite i) es xs os k h g = let e = append xs.0 (calls (call_to w i xs.1 (here w.number ∷ [])) ∷ []) in omega arith
call_parts t w (built_in table.size) es xs os k h g = let z = sized_names t es in omega arith
call_parts t w (built_in table.strcat) es xs os k h g = let c = computed (builtin_operation table.strcat es) os in omega arith
call_parts t w (built_in table.fromint) es xs os k h g = let c = computed (builtin_operation table.fromint es) os in omega arith
call_parts t w (built_in table.toint) es xs os k h g = let c = computed (builtin_operation table.toint es) os in omega arith
call_parts t w (built_in table.printf) es xs os k h g = let c = computed (builtin_operation table.printf es) os in omega arith
call_parts t w (built_in table.assert) es xs os k h g = let c = computed (builtin_operation table.assert es) os in omega arith

one_more : (p : List core.Part × core.Expr) (os : Operands) → operands (with_operand p os) ≡ weight p.0 + names p.1 + operands os
one_more (ps, e) (qs, es) = let a = append ps qs in omega arith

first_argument : (p : List core.Part × Name) (xs : Arguments) → weight (with_argument p xs).0 ≡ weight p.0 + weight xs.0
first_argument (ps, x) (qs, xs) = append ps qs

mutual
  expression_parts : (t : Table) (e : Expression) → found (form_of t e) + 2 ≤ 2 * expression_size e
  expression_parts t (expression nd f) = let q = form_parts t f in omega arith

  form_parts : (t : Table) (f : T.Form) → found (form_in t f) ≤ 2 * form_size f
  form_parts t (number z) = omega arith
  form_parts t (text bytes) = omega arith
  form_parts t (truth b) = omega arith
  form_parts t (variable w) = omega arith
  form_parts t (element w i) = let q = expression_parts t i in let c = cell_parts (number_of i) (form_of t i) in omega arith
  form_parts t (call w es) =
      let q = call_parts t w (t.callee_of w.number) es (arguments_of t es) (operands_of t es) (2 * expressions_size es) (arguments_parts t es) (operands_parts t es) in
      omega arith
  form_parts t (prefixed p e) =
      let q = expression_parts t e in
      let c = operand_parts (number_of e) (form_of t e) in
      let o = single_operand (as_operand (number_of e) (form_of t e)) in
      let k = computed (prefix_operation p) (one_operand (as_operand (number_of e) (form_of t e))) in
      omega arith
  form_parts t (chain os es) = let q = operands_parts t es in let k = computed (chain_operation os) (operands_of t es) in omega arith

  operands_parts : (t : Table) (es : Expressions) → operands (operands_of t es) ≤ 2 * expressions_size es
  operands_parts t no_expressions = omega arith
  operands_parts t (and_expression e es) =
      let q = expression_parts t e in
      let c = operand_parts (number_of e) (form_of t e) in
      let r = operands_parts t es in
      let a = one_more (as_operand (number_of e) (form_of t e)) (operands_of t es) in
      omega arith

  arguments_parts : (t : Table) (es : Expressions) → weight (arguments_of t es).0 ≤ 2 * expressions_size es
  arguments_parts t no_expressions = omega arith
  arguments_parts t (and_expression e es) =
      let q = expression_parts t e in
      let c = argument_parts t e (form_of t e) in
      let r = arguments_parts t es in
      let a = first_argument (as_argument t e (form_of t e)) (arguments_of t es) in
      omega arith

outer_size : (o : Outer) (ps : List core.Part) → weight (o.parts ++ inner o.cell ∷ ps) ≡ weight o.parts + (1 + form_names o.cell.form) + weight ps
outer_size o ps = let e = append o.parts (inner o.cell ∷ ps) in omega arith

outer_found : (t : Table) (e : Expression) (ps : List core.Part) → weight ((outer t e).parts ++ inner (outer t e).cell ∷ ps) ≡ found (form_of t e) + 1 + weight ps
outer_found t e ps = by (number_of e) (form_of t e)
  where
    by : (n : ℕ) (f : Formed) → weight ((outer_of n f).parts ++ inner (outer_of n f).cell ∷ ps) ≡ found f + 1 + weight ps
    by n (qs, f) = let q = outer_size (outer_of n (qs, f)) ps in omega arith

outer_computed : (n : ℕ) (o : op.Operation) (os : Operands) → weight ((outer_of n (computes o os)).parts ++ inner (outer_of n (computes o os)).cell ∷ []) ≡ operands os + 1
outer_computed n o (qs, es) = let q = outer_size (outer_of n (computes o (qs, es))) [] in omega arith

outer_called : (n : ℕ) (f : Formed) → weight ((outer_of n f).parts ++ inner (outer_of n f).cell ∷ []) ≡ found f + 1
outer_called n (qs, f) = let q = outer_size (outer_of n (qs, f)) [] in omega arith

-- STATEMENTS

composite_parts : (p : ℤ) (w : Word) (i : ℕ) (xs : Arguments) (os : List Name) → weight (parts (composite_call p w i xs os)) ≡ weight xs.0 + 1
composite_parts p w i (ps, xs) os = append ps (calls (call_to w i xs os) ∷ [])

assign_parts : (t : Table) (x : Name) (e : Expression) → weight (parts (assign x (outer t e))) ≤ 2 * expression_size e
assign_parts t x e = let h = expression_parts t e in let q = outer_found t e [] in omega arith

right_parts : (t : Table) (x : Name) (sh : Shape) (r : RightSide) → weight (parts (right_of t x sh r)) ≤ 2 * right_size r
right_parts t x sh (value (expression nd (call w es))) = by (t.callee_of w.number)
  where
    by : (c : Callee) → weight (parts (call_right t x (expression nd (call w es)) w es c)) ≤ 2 * right_size (value (expression nd (call w es)))
    by (composite i) = let e = composite_parts (pos 0) w i (arguments_of t es) (x ∷ []) in let q = arguments_parts t es in omega arith
    by (built_in b) = assign_parts t x (expression nd (call w es))
right_parts t x (Shape.Array κ) (value (expression nd (variable w))) = omega arith
right_parts t x Shape.Scalar (value (expression nd (variable w))) = assign_parts t x (expression nd (variable w))
right_parts t x sh (list nd es) =
    let h = operands_parts t (expressions_of es) in
    let s = expressions_size-expressions_of es in
    let q = outer_computed nd.number op.literal (operands_of t (expressions_of es)) in
    omega arith
right_parts t x (Shape.Array κ) (value (expression nd (number z))) = assign_parts t x (expression nd (number z))
right_parts t x Shape.Scalar (value (expression nd (number z))) = assign_parts t x (expression nd (number z))
right_parts t x (Shape.Array κ) (value (expression nd (text bytes))) = assign_parts t x (expression nd (text bytes))
right_parts t x Shape.Scalar (value (expression nd (text bytes))) = assign_parts t x (expression nd (text bytes))
right_parts t x (Shape.Array κ) (value (expression nd (truth b))) = assign_parts t x (expression nd (truth b))
right_parts t x Shape.Scalar (value (expression nd (truth b))) = assign_parts t x (expression nd (truth b))
right_parts t x (Shape.Array κ) (value (expression nd (element w i))) = assign_parts t x (expression nd (element w i))
right_parts t x Shape.Scalar (value (expression nd (element w i))) = assign_parts t x (expression nd (element w i))
right_parts t x (Shape.Array κ) (value (expression nd (prefixed p e))) = assign_parts t x (expression nd (prefixed p e))
right_parts t x Shape.Scalar (value (expression nd (prefixed p e))) = assign_parts t x (expression nd (prefixed p e))
right_parts t x (Shape.Array κ) (value (expression nd (chain os es))) = assign_parts t x (expression nd (chain os es))
right_parts t x Shape.Scalar (value (expression nd (chain os es))) = assign_parts t x (expression nd (chain os es))

several_parts : (m : ℕ) (t : Table) (w : Word) (es : Expressions) (xs : List Name) (c : Callee) → weight (parts (several t m w es xs c)) ≤ 3 + 2 * expressions_size es
several_parts m t w es xs (composite i) = let e = composite_parts (pos 0) w i (arguments_of t es) xs in let q = arguments_parts t es in omega arith
several_parts m t w es xs (built_in b) =
    let q = operands_parts t es in
    let c = call_parts t w (built_in b) es ([], []) (operands_of t es) (2 * expressions_size es) (omega arith) q in
    let o = outer_called m (call_form t w (built_in b) es ([], []) (operands_of t es)) in
    omega arith

after_parts : (t : Table) (es : Expressions) → operands (operands_of t (after_first es)) ≤ 2 * expressions_size es
after_parts t no_expressions = omega arith
after_parts t (and_expression e es) = let q = operands_parts t es in omega arith

assert_parts : (m : ℕ) (t : Table) (p : ℤ) (es : Expressions) → weight (parts (assert p (outer_of m (computes op.assert (operands_of t es))))) ≤ 1 + 2 * expressions_size es
assert_parts m t p es = let h = operands_parts t es in let q = outer_computed m op.assert (operands_of t es) in omega arith

called_parts : (m : ℕ) (t : Table) (p : ℤ) (w : Word) (es : Expressions) (c : Callee) → weight (parts (call_action t p m w es c)) ≤ 1 + 2 * expressions_size es
called_parts m t p w es (composite i) = let e = composite_parts p w i (arguments_of t es) [] in let q = arguments_parts t es in omega arith
called_parts m t p w es (built_in table.printf) = let h = after_parts t es in let q = outer_computed m (op.printf (format_of es)) (operands_of t (after_first es)) in omega arith
called_parts m t p w es (built_in table.assert) = assert_parts m t p es
called_parts m t p w es (built_in table.strcat) = assert_parts m t p es
called_parts m t p w es (built_in table.fromint) = assert_parts m t p es
called_parts m t p w es (built_in table.toint) = assert_parts m t p es
called_parts m t p w es (built_in table.size) = assert_parts m t p es

loop_parts : (t : Table) (v : Word) (k : Option Word) (o : Over) (b : Block) → weight (parts (loop_action t v k o b)) ≤ 2 * over_size o
loop_parts t v k (T.array w) b = omega arith
loop_parts t v k (T.range low high None) b =
    let x = expression_parts t low in
    let y = expression_parts t high in
    let p = outer_found t low (outer_parts (outer t high ∷ [])) in
    let q = outer_found t high [] in
    omega arith
loop_parts t v k (T.range low high (Some step)) b =
    let x = expression_parts t low in
    let y = expression_parts t high in
    let z = expression_parts t step in
    let p = outer_found t low (outer_parts (outer t high ∷ outer t step ∷ [])) in
    let q = outer_found t high (outer_parts (outer t step ∷ [])) in
    let r = outer_found t step [] in
    omega arith

-- BLOCKS

-- a statement with its names
abbrev pub stmts_weight : List Stmt → ℕ
stmts_weight [] = 0
stmts_weight (stmt at n a ∷ ss) = suc (weight (parts a)) + stmts_weight ss

stmts_append : (xs ys : List Stmt) → stmts_weight (xs ++ ys) ≡ stmts_weight xs + stmts_weight ys
stmts_append [] ys = omega arith
stmts_append (stmt at n a ∷ xs) ys = let e = stmts_append xs ys in omega arith

pub among_append : (xs ys : List Block) → stmts_weight (stmts_among (xs ++ ys)) ≡ stmts_weight (stmts_among xs) + stmts_weight (stmts_among ys)
among_append [] ys = omega arith
among_append (b ∷ xs) ys =
    let e = among_append xs ys in
    let a = stmts_append (block_list b) (stmts_among (xs ++ ys)) in
    let c = stmts_append (block_list b) (stmts_among xs) in
    omega arith

-- a block with those inside it
abbrev pub inside : Block → ℕ
inside b = stmts_weight (block_list b) + stmts_weight (stmts_among (blocks_below b))

pub within : (b : Block) → stmts_weight (stmts_among (b ∷ blocks_below b)) ≡ inside b
within b = stmts_append (block_list b) (stmts_among (blocks_below b))

pub front : (at m : ℕ) (a : Action) (b : Block) → inside (stmts (stmt at m a) b) ≡ suc (weight (parts a)) + stmts_weight (stmts_among (blocks_inside a)) + inside b
front at m a b = let y = among_append (blocks_inside a) (blocks_below b) in omega arith

alone : (at m : ℕ) (a : Action) (b : Block) → blocks_inside a ≡ [] → inside (stmts (stmt at m a) b) ≡ suc (weight (parts a)) + inside b
alone at m a b e =
    let f = front at m a b in
    let q : stmts_weight (stmts_among (blocks_inside a)) ≡ 0 = ap (λ (bs : List Block). stmts_weight (stmts_among bs)) e in
    omega arith

mutual
  body_inside : (t : Table) (b : Body) → inside (block_of t b) ≤ 2 * body_size b
  body_inside t (body from ss) = statements_inside t ss

  statements_inside : (t : Table) (ss : Statements) → inside (block_in t ss) ≤ 2 * statements_size ss
  statements_inside t no_statements = omega arith
  statements_inside t (and_statement s ss) =
      let h = statement_inside t s (block_in t ss) in
      let k = statements_inside t ss in
      omega arith

  statement_inside : (t : Table) (s : Statement) (b : Block) → inside (with_statement t s b) ≤ 2 * statement_size s + inside b
  statement_inside t (statement nd c) b = let h = command_inside t nd c b in omega arith

  command_inside : (t : Table) (nd : Node) (c : Command) (b : Block) → inside (with_command t nd c b) ≤ 2 + 2 * command_size c + inside b
  command_inside t nd (T.declare d None) b = let f = alone nd.first.from nd.number (declare d.name.number) b refl in omega arith
  command_inside t nd (T.declare d (Some r)) b =
      let x = right_of t (here d.name.number) d.shape r in
      let f = alone nd.first.from nd.number (declare d.name.number) (stmts (stmt_of nd x) b) refl in
      let g = alone nd.first.from nd.number x b (right_no_block t (here d.name.number) d.shape r) in
      let h = right_parts t (here d.name.number) d.shape r in
      omega arith
  command_inside t nd (T.assign w r) b =
      let f = alone nd.first.from nd.number (right_of t (refers t w) (t.shape_of w.number) r) b (right_no_block t (refers t w) (t.shape_of w.number) r) in
      let h = right_parts t (refers t w) (t.shape_of w.number) r in
      omega arith
  command_inside t nd (T.write w i e) b =
      let f = alone nd.first.from nd.number (insert (refers t w) (outer t i) (outer t e)) b refl in
      let x = expression_parts t i in
      let y = expression_parts t e in
      let p = outer_found t i (outer_parts (outer t e ∷ [])) in
      let q = outer_found t e [] in
      omega arith
  command_inside t nd (T.assign_all ws c) b =
      let es = expressions_of c.arguments in
      let f = alone nd.first.from nd.number (several t c.node.number c.name es (map (refers t) ws) (t.callee_of c.name.number)) b (several_no_block t c.node.number c.name es (map (refers t) ws) (t.callee_of c.name.number)) in
      let h = several_parts c.node.number t c.name es (map (refers t) ws) (t.callee_of c.name.number) in
      let s = expressions_size-expressions_of c.arguments in
      omega arith
  command_inside t nd (T.calls p c) b =
      let es = expressions_of c.arguments in
      let f = alone nd.first.from nd.number (call_action t p c.node.number c.name es (t.callee_of c.name.number)) b (call_no_block t p c.node.number c.name es (t.callee_of c.name.number)) in
      let h = called_parts c.node.number t p c.name es (t.callee_of c.name.number) in
      let s = expressions_size-expressions_of c.arguments in
      omega arith
  command_inside t nd (choice e d) b =
      let f = front nd.first.from nd.number (when (outer t e) (block_of t d)) b in
      let x = expression_parts t e in
      let q = outer_found t e [] in
      let i = within (block_of t d) in
      let k = body_inside t d in
      omega arith
  command_inside t nd (choice_else e d other) b =
      let f = front nd.first.from nd.number (choose (outer t e) (block_of t d) (block_of t other)) b in
      let x = expression_parts t e in
      let q = outer_found t e [] in
      let i = within (block_of t d) in
      let j = within (block_of t other) in
      let k = body_inside t d in
      let l = body_inside t other in
      let m = among_append (block_of t d ∷ blocks_below (block_of t d)) (block_of t other ∷ blocks_below (block_of t other)) in
      omega arith
  command_inside t nd (loop v k o d) b =
      let f = front nd.first.from nd.number (loop_action t v k o (block_of t d)) b in
      let q : stmts_weight (stmts_among (blocks_inside (loop_action t v k o (block_of t d)))) ≡ stmts_weight (stmts_among (block_of t d ∷ blocks_below (block_of t d))) =
      ap (λ (bs : List Block). stmts_weight (stmts_among bs)) (loop_block t v k o (block_of t d)) in
      let h = loop_parts t v k o (block_of t d) in
      let i = within (block_of t d) in
      let l = body_inside t d in
      omega arith
  command_inside t nd (waits ws d) b =
      let f = front nd.first.from nd.number (wait (map (awaited t) ws) (block_of t d)) b in
      let i = within (block_of t d) in
      let k = body_inside t d in
      omega arith

-- SCRIPTS

abbrev functions_inside : List Function → ℕ
functions_inside fs = length fs + stmts_weight (stmts_among (function_blocks fs))

function_inside : (f : Function) (fs : List Function) → functions_inside (f ∷ fs) ≡ 1 + inside f.body + functions_inside fs
function_inside f fs = let a = among_append (f.body ∷ blocks_below f.body) (function_blocks fs) in let b = within f.body in omega arith

tree_inside : (t : Table) (ps : Tree) → inside (script_block t ps) + functions_inside (functions_of t ps) ≤ 2 * tree_size ps
tree_inside t [] = omega arith
tree_inside t (import sp ∷ ps) = let r = tree_inside t ps in let s = sum_by-cons part_size (import sp) ps in omega arith
tree_inside t (single x ∷ ps) = let h = statement_inside t x (script_block t ps) in let r = tree_inside t ps in let s = sum_by-cons part_size (single x) ps in omega arith
tree_inside t (function f ∷ ps) =
    let h = body_inside t f.body in
    let r = tree_inside t ps in
    let g = function_inside (record { inputs = length f.inputs; outputs = length f.outputs; body = block_of t f.body }) (functions_of t ps) in
    let s = sum_by-cons part_size (function f) ps in
    omega arith

-- the functions, statements, cells, calls and names
pub weight_within : (t : Table) (tree : Tree) → length (functions_of t tree) + stmts_weight (script_stmts (resolved.core t tree)) ≤ 2 * tree_size tree
weight_within t tree =
    let h = tree_inside t tree in
    let a = among_append (blocks_of (script_block t tree)) (function_blocks (functions_of t tree)) in
    let i = within (script_block t tree) in
    omega arith

light : (ps : List core.Part) → length ps ≤ weight ps
light [] = omega arith
light (inner c ∷ ps) = let e = light ps in omega arith
light (calls c ∷ ps) = let e = light ps in omega arith

stmts_light : (ss : List Stmt) → stmts_size ss ≤ stmts_weight ss
stmts_light [] = omega arith
stmts_light (stmt at n a ∷ ss) = let e = stmts_light ss in let p = light (parts a) in omega arith

pub size_within : (t : Table) (tree : Tree) → size_of (resolved.core t tree) ≤ 2 * tree_size tree
size_within t tree = let w = weight_within t tree in let l = stmts_light (script_stmts (resolved.core t tree)) in omega arith
