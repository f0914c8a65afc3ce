-- Where no called name and no header of a tree stands at the offset of another, no two calls and headers of its core have one offset.
use Rattle.std.specs.Prelude.{◌≡◌, ℕ, ◌+◌, ◌≤◌, ℤ, pos, true, List, [], ◌∷◌, ◌++◌, map, Option, Some, None, length, refl}
use Rattle.std.proofs.Common.{ap, ◌∙◌, arith}
use Rattle.values.specs.Operators as op
use Rattle.language.specs.declared.tree.Shape.{Shape}
use Rattle.language.specs.Tree as T
use Rattle.language.specs.Tree.{Word, Node, Declaration, Expression, expression, number, text, truth, variable, element, call, prefixed, chain, Expressions, no_expressions, and_expression, expressions_of, RightSide, value, list, Calling, Over, Statement, statement, Command, choice, choice_else, loop, waits, Body, body, Statements, no_statements, and_statement, Composite, Tree, import, function, single}
use Rattle.language.specs.Core.{Name, here, compute, read, Call, Part, inner, calls, Outer, Action, declare, assign, insert, assert, when, choose, range, each, wait, Stmt, stmt, Block, stmts, Function}
use Rattle.language.specs.Parts.{stmts_among, script_stmts, part_calls, parts, outer_parts, block_list, blocks_below, blocks_inside, blocks_of, function_blocks, calls_among}
use Rattle.language.specs.Resolved.{refers, Formed, Operands, Arguments, form_of, operands_of, arguments_of, computes, call_form, call_to, number_of, outer_of, outer, after_first, composite_call, call_right, right_of, call_action, several, awaited, loop_action, stmt_of, block_of, block_in, with_statement, with_command, script_block, functions_of, core, format_of}
use Rattle.language.specs.Table as table
use Rattle.language.specs.Table.{Table, Callee, composite, built_in}
use Rattle.language.proofs.Tested.{flat}
use Rattle.language.specs.Distinct.{distinct}
use Rattle.language.proofs.TreeNumbers.{hit, times, times-append, times-flat, few_distinct, distinct_few}
use Rattle.language_laws.specs.Offsets.{maybe_numbers, expression_offsets, form_offsets, expressions_offsets, right_offsets, calling_offsets, over_offsets, header_offsets, statement_offsets, command_offsets, body_offsets, statements_offsets, tree_offsets}
use Rattle.language.specs.Resolved.{form_in, as_cell, as_operand, as_argument, variable_or_cell}
use Rattle.language_laws.proofs.TestedNames.{offset}
use Rattle.language_laws.proofs.TreeCalls.{calls-append}
use Rattle.language_laws.proofs.TreeBlocks.{among-append, right_no_block, several_no_block, call_no_block, loop_block}

-- PARTS

abbrev at_times : ℕ → List Part → ℕ
at_times n ps = times n (flat offset (part_calls ps))

at-append : (n : ℕ) (ps qs : List Part) → at_times n (ps ++ qs) ≡ at_times n ps + at_times n qs
at-append n ps qs = ap (λ (cs : List Call). times n (flat offset cs)) (calls-append ps qs) ∙ times-flat offset n (part_calls ps) (part_calls qs)

cell_at : (n m : ℕ) (f : Formed) → at_times n (as_cell m f) ≡ at_times n f.0
cell_at n m f = let e = at-append n f.0 (inner (record { node = m; form = f.1 }) ∷ []) in omega arith

operand_at : (n m : ℕ) (f : Formed) → at_times n (as_operand m f).0 ≡ at_times n f.0
operand_at n m (ps, compute e) = refl
operand_at n m (ps, read a i) = cell_at n m (ps, read a i)

shape_at : (n m : ℕ) (sh : Shape) (t : Table) (w : Word) (f : Formed) → at_times n (variable_or_cell sh t w m f).0 ≤ at_times n f.0
shape_at n m (Shape.Array κ) t w f = omega arith
shape_at n m Shape.Scalar t w f = let e = cell_at n m f in omega arith

argument_at : (n : ℕ) (t : Table) (e : Expression) (f : Formed) → at_times n (as_argument t e f).0 ≤ at_times n f.0
argument_at n t (expression nd (variable w)) f = shape_at n nd.number (t.shape_of w.number) t w f
argument_at n t (expression nd (number z)) f = let e = cell_at n nd.number f in omega arith
argument_at n t (expression nd (text bytes)) f = let e = cell_at n nd.number f in omega arith
argument_at n t (expression nd (truth b)) f = let e = cell_at n nd.number f in omega arith
argument_at n t (expression nd (element w i)) f = let e = cell_at n nd.number f in omega arith
argument_at n t (expression nd (call w es)) f = let e = cell_at n nd.number f in omega arith
argument_at n t (expression nd (prefixed p x)) f = let e = cell_at n nd.number f in omega arith
argument_at n t (expression nd (chain os es)) f = let e = cell_at n nd.number f in omega arith

call_at_times : (n : ℕ) (t : Table) (w : Word) (c : Callee) (es : Expressions) (xs : Arguments) (os : Operands) (k : ℕ) → at_times n xs.0 ≤ k → at_times n os.0 ≤ k → at_times n (call_form t w c es xs os).0 ≤ hit n w.span.from + k
call_at_times n t w (composite i) es xs os k h g = let e = at-append n xs.0 (calls (call_to w i xs.1 (here w.number ∷ [])) ∷ []) in omega arith
call_at_times n t w (built_in table.size) es xs os k h g = omega arith
call_at_times n t w (built_in table.strcat) es xs os k h g = omega arith
call_at_times n t w (built_in table.fromint) es xs os k h g = omega arith
call_at_times n t w (built_in table.toint) es xs os k h g = omega arith
call_at_times n t w (built_in table.printf) es xs os k h g = omega arith
call_at_times n t w (built_in table.assert) es xs os k h g = omega arith

mutual
  expression_at : (n : ℕ) (t : Table) (e : Expression) → at_times n (form_of t e).0 ≤ times n (expression_offsets e)
  expression_at n t (expression nd f) = form_at n t f

  form_at : (n : ℕ) (t : Table) (f : T.Form) → at_times n (form_in t f).0 ≤ times n (form_offsets f)
  form_at n t (number z) = omega arith
  form_at n t (text bytes) = omega arith
  form_at n t (truth b) = omega arith
  form_at n t (variable w) = omega arith
  form_at n t (element w i) = let q = expression_at n t i in let c = cell_at n (number_of i) (form_of t i) in omega arith
  form_at n t (call w es) = call_at_times n t w (t.callee_of w.number) es (arguments_of t es) (operands_of t es) (times n (expressions_offsets es)) (arguments_at n t es) (operands_at n t es)
  form_at n t (prefixed p e) = let q = expression_at n t e in let c = operand_at n (number_of e) (form_of t e) in omega arith
  form_at n t (chain os es) = operands_at n t es

  operands_at : (n : ℕ) (t : Table) (es : Expressions) → at_times n (operands_of t es).0 ≤ times n (expressions_offsets es)
  operands_at n t no_expressions = omega arith
  operands_at n t (and_expression e es) =
      let q = expression_at n t e in
      let c = operand_at n (number_of e) (form_of t e) in
      let r = operands_at n t es in
      let a = at-append n (as_operand (number_of e) (form_of t e)).0 (operands_of t es).0 in
      let b = times-append n (expression_offsets e) (expressions_offsets es) in
      omega arith

  arguments_at : (n : ℕ) (t : Table) (es : Expressions) → at_times n (arguments_of t es).0 ≤ times n (expressions_offsets es)
  arguments_at n t no_expressions = omega arith
  arguments_at n t (and_expression e es) =
      let q = expression_at n t e in
      let c = argument_at n t e (form_of t e) in
      let r = arguments_at n t es in
      let a = at-append n (as_argument t e (form_of t e)).0 (arguments_of t es).0 in
      let b = times-append n (expression_offsets e) (expressions_offsets es) in
      omega arith

one_at : (n : ℕ) (o : Outer) → at_times n (o.parts ++ inner o.cell ∷ []) ≡ at_times n o.parts
one_at n o = let e = at-append n o.parts (inner o.cell ∷ []) in omega arith

more_at : (n : ℕ) (o : Outer) (ps : List Part) → at_times n (o.parts ++ inner o.cell ∷ ps) ≡ at_times n o.parts + at_times n ps
more_at n o ps = at-append n o.parts (inner o.cell ∷ ps)

-- STATEMENTS

-- the offset of a header that opens blocks under keys
abbrev pub branch_offset : ℕ → Action → List ℕ
branch_offset at (when c b) = at ∷ []
branch_offset at (choose c b d) = at ∷ []
branch_offset at (range lo hi st v k b) = at ∷ []
branch_offset at (each a v k b) = at ∷ []
branch_offset at _ = []

-- the offset of a header, and those of the calls of a statement
abbrev pub stmt_offsets : Stmt → List ℕ
stmt_offsets (stmt at n a) = branch_offset at a ++ flat offset (part_calls (parts a))

abbrev own_at : ℕ → Action → ℕ
own_at n a = times n (flat offset (part_calls (parts a)))

composite_at : (n : ℕ) (p : ℤ) (w : Word) (i : ℕ) (xs : Arguments) (os : List Name) → own_at n (composite_call p w i xs os) ≡ at_times n xs.0 + hit n w.span.from
composite_at n p w i xs os = let e = at-append n xs.0 (calls (call_to w i xs.1 os) ∷ []) in omega arith

assign_at : (n : ℕ) (t : Table) (x : Name) (e : Expression) → own_at n (assign x (outer t e)) ≤ times n (expression_offsets e)
assign_at n t x e = let h = expression_at n t e in let q = one_at n (outer t e) in omega arith

right_at : (n : ℕ) (t : Table) (x : Name) (sh : Shape) (r : RightSide) → own_at n (right_of t x sh r) ≤ times n (right_offsets r)
right_at n t x sh (value (expression nd (call w es))) = by (t.callee_of w.number)
  where
    by : (c : Callee) → own_at n (call_right t x (expression nd (call w es)) w es c) ≤ hit n w.span.from + times n (expressions_offsets es)
    by (composite i) = let e = composite_at n (pos 0) w i (arguments_of t es) (x ∷ []) in let q = arguments_at n t es in omega arith
    by (built_in b) = assign_at n t x (expression nd (call w es))
right_at n t x (Shape.Array κ) (value (expression nd (variable w))) = omega arith
right_at n t x Shape.Scalar (value (expression nd (variable w))) = assign_at n t x (expression nd (variable w))
right_at n t x sh (list nd es) = let h = operands_at n t (expressions_of es) in let q = one_at n (outer_of nd.number (computes op.literal (operands_of t (expressions_of es)))) in omega arith
right_at n t x (Shape.Array κ) (value (expression nd (number z))) = assign_at n t x (expression nd (number z))
right_at n t x Shape.Scalar (value (expression nd (number z))) = assign_at n t x (expression nd (number z))
right_at n t x (Shape.Array κ) (value (expression nd (text bytes))) = assign_at n t x (expression nd (text bytes))
right_at n t x Shape.Scalar (value (expression nd (text bytes))) = assign_at n t x (expression nd (text bytes))
right_at n t x (Shape.Array κ) (value (expression nd (truth b))) = assign_at n t x (expression nd (truth b))
right_at n t x Shape.Scalar (value (expression nd (truth b))) = assign_at n t x (expression nd (truth b))
right_at n t x (Shape.Array κ) (value (expression nd (element w i))) = assign_at n t x (expression nd (element w i))
right_at n t x Shape.Scalar (value (expression nd (element w i))) = assign_at n t x (expression nd (element w i))
right_at n t x (Shape.Array κ) (value (expression nd (prefixed p e))) = assign_at n t x (expression nd (prefixed p e))
right_at n t x Shape.Scalar (value (expression nd (prefixed p e))) = assign_at n t x (expression nd (prefixed p e))
right_at n t x (Shape.Array κ) (value (expression nd (chain os es))) = assign_at n t x (expression nd (chain os es))
right_at n t x Shape.Scalar (value (expression nd (chain os es))) = assign_at n t x (expression nd (chain os es))

several_at : (n m : ℕ) (t : Table) (w : Word) (es : Expressions) (xs : List Name) (c : Callee) → own_at n (several t m w es xs c) ≤ hit n w.span.from + times n (expressions_offsets es)
several_at n m t w es xs (composite i) = let e = composite_at n (pos 0) w i (arguments_of t es) xs in let q = arguments_at n t es in omega arith
several_at n m t w es xs (built_in b) =
    let q = operands_at n t es in
    let c = call_at_times n t w (built_in b) es ([], []) (operands_of t es) (times n (expressions_offsets es)) (omega arith) q in
    let o = one_at n (outer_of m (call_form t w (built_in b) es ([], []) (operands_of t es))) in
    omega arith

after_at : (n : ℕ) (t : Table) (es : Expressions) → at_times n (operands_of t (after_first es)).0 ≤ times n (expressions_offsets es)
after_at n t no_expressions = omega arith
after_at n t (and_expression e es) = let q = operands_at n t es in let a = times-append n (expression_offsets e) (expressions_offsets es) in omega arith

assert_at : (n m : ℕ) (t : Table) (p : ℤ) (es : Expressions) → own_at n (assert p (outer_of m (computes op.assert (operands_of t es)))) ≤ times n (expressions_offsets es)
assert_at n m t p es = let h = operands_at n t es in let q = one_at n (outer_of m (computes op.assert (operands_of t es))) in omega arith

called_at : (n m : ℕ) (t : Table) (p : ℤ) (w : Word) (es : Expressions) (c : Callee) → own_at n (call_action t p m w es c) ≤ hit n w.span.from + times n (expressions_offsets es)
called_at n m t p w es (composite i) = let e = composite_at n p w i (arguments_of t es) [] in let q = arguments_at n t es in omega arith
called_at n m t p w es (built_in table.printf) = let h = after_at n t es in let q = one_at n (outer_of m (computes (op.printf (format_of es)) (operands_of t (after_first es)))) in omega arith
called_at n m t p w es (built_in table.assert) = let h = assert_at n m t p es in omega arith
called_at n m t p w es (built_in table.strcat) = let h = assert_at n m t p es in omega arith
called_at n m t p w es (built_in table.fromint) = let h = assert_at n m t p es in omega arith
called_at n m t p w es (built_in table.toint) = let h = assert_at n m t p es in omega arith
called_at n m t p w es (built_in table.size) = let h = assert_at n m t p es in omega arith

loop_at : (n : ℕ) (t : Table) (v : Word) (k : Option Word) (o : Over) (b : Block) → own_at n (loop_action t v k o b) ≤ times n (over_offsets o)
loop_at n t v k (T.array w) b = omega arith
loop_at n t v k (T.range low high None) b =
    let x = expression_at n t low in
    let y = expression_at n t high in
    let p = more_at n (outer t low) (outer_parts (outer t high ∷ [])) in
    let q = one_at n (outer t high) in
    let a = times-append n (expression_offsets low) (expression_offsets high ++ []) in
    let c = times-append n (expression_offsets high) [] in
    omega arith
loop_at n t v k (T.range low high (Some step)) b =
    let x = expression_at n t low in
    let y = expression_at n t high in
    let z = expression_at n t step in
    let p = more_at n (outer t low) (outer_parts (outer t high ∷ outer t step ∷ [])) in
    let q = more_at n (outer t high) (outer_parts (outer t step ∷ [])) in
    let r = one_at n (outer t step) in
    let a = times-append n (expression_offsets low) (expression_offsets high ++ expression_offsets step) in
    let c = times-append n (expression_offsets high) (expression_offsets step) in
    omega arith

-- how often an offset is a call's in a block and inside it
abbrev block_at : ℕ → Block → ℕ
block_at n b = times n (flat stmt_offsets (block_list b)) + times n (flat stmt_offsets (stmts_among (blocks_below b)))

inner_at : (n : ℕ) (b : Block) → times n (flat stmt_offsets (stmts_among (b ∷ blocks_below b))) ≡ block_at n b
inner_at n b = times-flat stmt_offsets n (block_list b) (stmts_among (blocks_below b))

front_at : (n at m : ℕ) (a : Action) (b : Block)
    → block_at n (stmts (stmt at m a) b) ≡ ((times n (branch_offset at a) + own_at n a) + times n (flat stmt_offsets (stmts_among (blocks_inside a)))) + block_at n b
front_at n at m a b =
    let x = times-append n (stmt_offsets (stmt at m a)) (flat stmt_offsets (block_list b)) in
    let z = times-append n (branch_offset at a) (flat offset (part_calls (parts a))) in
    let y = among-append (blocks_inside a) (blocks_below b) n stmt_offsets in
    omega arith

no_branch : (n at : ℕ) (a : Action) → blocks_inside a ≡ [] → times n (branch_offset at a) ≡ 0
no_branch n at (when c b) e = absurd (cc (e))
no_branch n at (choose c b d) e = absurd (cc (e))
no_branch n at (range lo hi st v k b) e = absurd (cc (e))
no_branch n at (each a v k b) e = absurd (cc (e))
no_branch n at _ e = refl

loop_branch : (n at : ℕ) (t : Table) (v : Word) (k : Option Word) (o : Over) (b : Block) → times n (branch_offset at (loop_action t v k o b)) ≡ times n (at ∷ [])
loop_branch n at t v k (T.array w) b = refl
loop_branch n at t v k (T.range low high step) b = refl

alone_at : (n at m : ℕ) (a : Action) (b : Block) → blocks_inside a ≡ [] → block_at n (stmts (stmt at m a) b) ≡ own_at n a + block_at n b
alone_at n at m a b e =
    let f = front_at n at m a b in
    let g = no_branch n at a e in
    let q : times n (flat stmt_offsets (stmts_among (blocks_inside a))) ≡ 0 = ap (λ (bs : List Block). times n (flat stmt_offsets (stmts_among bs))) e in
    omega arith

mutual
  body_at : (n : ℕ) (t : Table) (b : Body) → block_at n (block_of t b) ≤ times n (body_offsets b)
  body_at n t (body from ss) = statements_at n t ss

  statements_at : (n : ℕ) (t : Table) (ss : Statements) → block_at n (block_in t ss) ≤ times n (statements_offsets ss)
  statements_at n t no_statements = omega arith
  statements_at n t (and_statement s ss) =
      let h = statement_at n t s (block_in t ss) in
      let k = statements_at n t ss in
      let a = times-append n (statement_offsets s) (statements_offsets ss) in
      omega arith

  statement_at : (n : ℕ) (t : Table) (s : Statement) (b : Block) → block_at n (with_statement t s b) ≤ times n (statement_offsets s) + block_at n b
  statement_at n t (statement nd c) b =
      let h = command_at n t nd c b in
      let a = times-append n (header_offsets nd.first.from c) (command_offsets c) in
      omega arith

  command_at : (n : ℕ) (t : Table) (nd : Node) (c : Command) (b : Block)
      → block_at n (with_command t nd c b) ≤ (times n (header_offsets nd.first.from c) + times n (command_offsets c)) + block_at n b
  command_at n t nd (T.declare d None) b = let f = alone_at n nd.first.from nd.number (declare d.name.number) b refl in omega arith
  command_at n t nd (T.declare d (Some r)) b =
      let x = right_of t (here d.name.number) d.shape r in
      let f = alone_at n nd.first.from nd.number (declare d.name.number) (stmts (stmt_of nd x) b) refl in
      let g = alone_at n nd.first.from nd.number x b (right_no_block t (here d.name.number) d.shape r) in
      let h = right_at n t (here d.name.number) d.shape r in
      omega arith
  command_at n t nd (T.assign w r) b =
      let f = alone_at n nd.first.from nd.number (right_of t (refers t w) (t.shape_of w.number) r) b (right_no_block t (refers t w) (t.shape_of w.number) r) in
      let h = right_at n t (refers t w) (t.shape_of w.number) r in
      omega arith
  command_at n t nd (T.write w i e) b =
      let f = alone_at n nd.first.from nd.number (insert (refers t w) (outer t i) (outer t e)) b refl in
      let x = expression_at n t i in
      let y = expression_at n t e in
      let p = more_at n (outer t i) (outer_parts (outer t e ∷ [])) in
      let q = one_at n (outer t e) in
      let a = times-append n (expression_offsets i) (expression_offsets e) in
      omega arith
  command_at n t nd (T.assign_all ws c) b =
      let f = alone_at n nd.first.from nd.number (several t c.node.number c.name (expressions_of c.arguments) (map (refers t) ws) (t.callee_of c.name.number)) b (several_no_block t c.node.number c.name (expressions_of c.arguments) (map (refers t) ws) (t.callee_of c.name.number)) in
      let h = several_at n c.node.number t c.name (expressions_of c.arguments) (map (refers t) ws) (t.callee_of c.name.number) in
      omega arith
  command_at n t nd (T.calls p c) b =
      let f = alone_at n nd.first.from nd.number (call_action t p c.node.number c.name (expressions_of c.arguments) (t.callee_of c.name.number)) b (call_no_block t p c.node.number c.name (expressions_of c.arguments) (t.callee_of c.name.number)) in
      let h = called_at n c.node.number t p c.name (expressions_of c.arguments) (t.callee_of c.name.number) in
      omega arith
  command_at n t nd (choice e d) b =
      let f = front_at n nd.first.from nd.number (when (outer t e) (block_of t d)) b in
      let x = expression_at n t e in
      let q = one_at n (outer t e) in
      let i = inner_at n (block_of t d) in
      let k = body_at n t d in
      let a = times-append n (expression_offsets e) (body_offsets d) in
      omega arith
  command_at n t nd (choice_else e d other) b =
      let f = front_at n nd.first.from nd.number (choose (outer t e) (block_of t d) (block_of t other)) b in
      let x = expression_at n t e in
      let q = one_at n (outer t e) in
      let i = inner_at n (block_of t d) in
      let j = inner_at n (block_of t other) in
      let k = body_at n t d in
      let l = body_at n t other in
      let m = among-append (block_of t d ∷ blocks_below (block_of t d)) (block_of t other ∷ blocks_below (block_of t other)) n stmt_offsets in
      let a = times-append n (expression_offsets e) (body_offsets d ++ body_offsets other) in
      let c = times-append n (body_offsets d) (body_offsets other) in
      omega arith
  command_at n t nd (loop v k o d) b =
      let f = front_at n nd.first.from nd.number (loop_action t v k o (block_of t d)) b in
      let q : times n (flat stmt_offsets (stmts_among (blocks_inside (loop_action t v k o (block_of t d))))) ≡ times n (flat stmt_offsets (stmts_among (block_of t d ∷ blocks_below (block_of t d)))) =
      ap (λ (bs : List Block). times n (flat stmt_offsets (stmts_among bs))) (loop_block t v k o (block_of t d)) in
      let h = loop_at n t v k o (block_of t d) in
      let u = loop_branch n nd.first.from t v k o (block_of t d) in
      let i = inner_at n (block_of t d) in
      let l = body_at n t d in
      let a = times-append n (over_offsets o) (body_offsets d) in
      omega arith
  command_at n t nd (waits ws d) b =
      let f = front_at n nd.first.from nd.number (wait (map (awaited t) ws) (block_of t d)) b in
      let i = inner_at n (block_of t d) in
      let k = body_at n t d in
      omega arith

abbrev functions_at : ℕ → List Function → ℕ
functions_at n fs = times n (flat stmt_offsets (stmts_among (function_blocks fs)))

function_at : (n : ℕ) (f : Function) (fs : List Function) → functions_at n (f ∷ fs) ≡ block_at n f.body + functions_at n fs
function_at n f fs = let a = among-append (f.body ∷ blocks_below f.body) (function_blocks fs) n stmt_offsets in let b = inner_at n f.body in omega arith

parts_at : (n : ℕ) (t : Table) (ps : Tree) → block_at n (script_block t ps) + functions_at n (functions_of t ps) ≤ times n (tree_offsets ps)
parts_at n t [] = omega arith
parts_at n t (import sp ∷ ps) = parts_at n t ps
parts_at n t (single s ∷ ps) = let h = statement_at n t s (script_block t ps) in let r = parts_at n t ps in let a = times-append n (statement_offsets s) (tree_offsets ps) in omega arith
parts_at n t (function f ∷ ps) =
    let h = body_at n t f.body in
    let r = parts_at n t ps in
    let g = function_at n (record { inputs = length f.inputs; outputs = length f.outputs; body = block_of t f.body }) (functions_of t ps) in
    let a = times-append n (body_offsets f.body) (tree_offsets ps) in
    omega arith

among_at : (n : ℕ) (ss : List Stmt) → times n (flat offset (calls_among ss)) ≤ times n (flat stmt_offsets ss)
among_at n [] = omega arith
among_at n (stmt at m x ∷ ss) =
    let e = among_at n ss in
    let a = times-flat offset n (part_calls (parts x)) (calls_among ss) in
    let c = times-append n (branch_offset at x) (flat offset (part_calls (parts x))) in
    let b = times-append n (stmt_offsets (stmt at m x)) (flat stmt_offsets ss) in
    omega arith

core_at : (n : ℕ) (t : Table) (tree : Tree) → times n (flat stmt_offsets (script_stmts (core t tree))) ≤ times n (tree_offsets tree)
core_at n t tree =
    let h = parts_at n t tree in
    let a = among-append (blocks_of (script_block t tree)) (function_blocks (functions_of t tree)) n stmt_offsets in
    let i = inner_at n (script_block t tree) in
    omega arith

-- where no called name and no header stands at the offset of another, no two calls and headers have one offset
pub stmts_once : (t : Table) (tree : Tree) → distinct (tree_offsets tree) ≡ true → distinct (flat stmt_offsets (script_stmts (core t tree))) ≡ true
stmts_once t tree h = few_distinct (flat stmt_offsets (script_stmts (core t tree))) (λ n. (let a = distinct_few (tree_offsets tree) h n in let b = core_at n t tree in omega arith))

-- where no called name stands at the offset of another, each call is found by its offset
pub offsets_once : (t : Table) (tree : Tree) → distinct (tree_offsets tree) ≡ true → distinct (flat offset (calls_among (script_stmts (core t tree)))) ≡ true
offsets_once t tree h = few_distinct (flat offset (calls_among (script_stmts (core t tree)))) (λ n. (let a = distinct_few (tree_offsets tree) h n in let b = core_at n t tree in let c = among_at n (script_stmts (core t tree)) in omega arith))
