-- Where no number stands twice in a tree, no node stands twice in its core.
use Rattle.std.specs.Prelude.{◌≡◌, ℕ, ◌+◌, ◌≤◌, ℤ, pos, true, List, [], ◌∷◌, ◌++◌, map, Option, Some, None, option_map, length, refl}
use Rattle.std.proofs.Common.{ap, arith}
use Rattle.values.specs.Operators as op
use Rattle.language.specs.declared.tree.Shape.{Shape}
use Rattle.language.specs.Tree as T
use Rattle.language.specs.Tree.{Word, Node, Declaration, Expression, expression, number, text, truth, variable, element, call, prefixed, chain, Expressions, no_expressions, and_expression, expressions_of, RightSide, value, list, Calling, Over, Statement, statement, Command, choice, choice_else, loop, waits, Body, body, Statements, no_statements, and_statement, Composite, Tree, import, function, single}
use Rattle.language.specs.Core.{Name, here, Call, Part, inner, calls, Outer, Action, declare, assign, insert, print, assert, when, choose, wait, Stmt, stmt, Block, stmts, Function}
use Rattle.language.specs.Parts.{part_cells, parts, stmts_among, script_stmts, block_list, blocks_below, blocks_inside, blocks_of, function_blocks, script_blocks}
use Rattle.language.specs.Resolved.{refers, Arguments, operands_of, arguments_of, computes, call_form, call_to, outer_of, outer, after_first, composite_call, call_right, right_of, call_action, several, awaited, loop_action, stmt_of, block_of, block_in, with_statement, with_command, script_block, functions_of, core, format_of}
use Rattle.language.specs.Table as table
use Rattle.language.specs.Table.{Table, Callee, composite, built_in}
use Rattle.language.proofs.Tested.{flat, cell_nodes, declared_of, roles_of, with_turn, hidden_of, action_nodes, block_nodes}
use Rattle.language.specs.Distinct.{distinct}
use Rattle.language.proofs.TreeNumbers.{hit, times, times-append, times-flat, few_distinct, distinct_few, expression_numbers, expressions_numbers, part_times, part-append, call_part, expression_part, operands_part, arguments_part}
use Rattle.language_laws.specs.Offsets.{maybe_numbers}
use Rattle.language_laws.proofs.TreeBlocks.{among-append, right_no_block, several_no_block, call_no_block, loop_block}

-- THE NUMBERS OF STATEMENTS

abbrev pub words_numbers : List Word → List ℕ
words_numbers [] = []
words_numbers (w ∷ ws) = w.number ∷ words_numbers ws

abbrev pub right_numbers : RightSide → List ℕ
right_numbers (value e) = expression_numbers e
right_numbers (list nd es) = nd.number ∷ expressions_numbers (expressions_of es)

abbrev pub calling_numbers : Calling → List ℕ
calling_numbers c = c.node.number ∷ c.name.number ∷ expressions_numbers (expressions_of c.arguments)

abbrev pub over_numbers : Over → List ℕ
over_numbers (T.array w) = w.number ∷ []
over_numbers (T.range low high step) = expression_numbers low ++ (expression_numbers high ++ maybe_numbers expression_numbers step)

abbrev pub word_numbers : Word → List ℕ
word_numbers w = w.number ∷ []

abbrev mutual
  pub statement_numbers : Statement → List ℕ
  statement_numbers (statement nd c) = nd.number ∷ command_numbers c

  pub command_numbers : Command → List ℕ
  command_numbers (T.declare d r) = d.name.number ∷ maybe_numbers right_numbers r
  command_numbers (T.assign w r) = w.number ∷ right_numbers r
  command_numbers (T.write w i e) = w.number ∷ (expression_numbers i ++ expression_numbers e)
  command_numbers (T.assign_all ws c) = words_numbers ws ++ calling_numbers c
  command_numbers (T.calls p c) = calling_numbers c
  command_numbers (choice e b) = expression_numbers e ++ body_numbers b
  command_numbers (choice_else e b other) = expression_numbers e ++ (body_numbers b ++ body_numbers other)
  command_numbers (loop v k o b) = v.number ∷ (maybe_numbers word_numbers k ++ (over_numbers o ++ body_numbers b))
  command_numbers (waits ws b) = words_numbers ws ++ body_numbers b

  pub body_numbers : Body → List ℕ
  body_numbers (body from ss) = statements_numbers ss

  pub statements_numbers : Statements → List ℕ
  statements_numbers no_statements = []
  statements_numbers (and_statement s ss) = statement_numbers s ++ statements_numbers ss

abbrev pub declarations_numbers : List Declaration → List ℕ
declarations_numbers [] = []
declarations_numbers (d ∷ ds) = d.name.number ∷ declarations_numbers ds

-- the numbers of a tree in reading order
abbrev pub tree_numbers : Tree → List ℕ
tree_numbers [] = []
tree_numbers (import sp ∷ ps) = tree_numbers ps
tree_numbers (function f ∷ ps) = f.node.number ∷ (declarations_numbers f.outputs ++ (f.name.number ∷ (declarations_numbers f.inputs ++ (body_numbers f.body ++ tree_numbers ps))))
tree_numbers (single s ∷ ps) = statement_numbers s ++ tree_numbers ps

-- THE NODES OF STATEMENTS

-- how often a number is a node of an action, and of the blocks inside it
abbrev own_times : ℕ → Action → ℕ
own_times n a = times n (declared_of a) + (times n (cell_nodes (part_cells (parts a))) + (times n (roles_of a) + times n (hidden_of a)))

abbrev whole_times : ℕ → Action → ℕ
whole_times n a = own_times n a + times n (flat block_nodes (blocks_inside a))

abbrev block_times : ℕ → Block → ℕ
block_times n b = times n (block_nodes b) + times n (flat block_nodes (blocks_below b))

own-append : (n : ℕ) (a : Action) → times n (action_nodes a) ≡ own_times n a
own-append n a =
    let x = times-append n (declared_of a) (cell_nodes (part_cells (parts a)) ++ (roles_of a ++ hidden_of a)) in
    let y = times-append n (cell_nodes (part_cells (parts a))) (roles_of a ++ hidden_of a) in
    let z = times-append n (roles_of a) (hidden_of a) in
    omega arith

-- a statement in front of a block
front : (n at m : ℕ) (a : Action) (b : Block) → block_times n (stmts (stmt at m a) b) ≡ whole_times n a + block_times n b
front n at m a b =
    let x = times-append n (action_nodes a) (block_nodes b) in
    let y = times-flat block_nodes n (blocks_inside a) (blocks_below b) in
    let z = own-append n a in
    omega arith

cells_alone : (n : ℕ) (ps : List Part) (c : Call) → times n (cell_nodes (part_cells (ps ++ calls c ∷ []))) ≡ times n (cell_nodes (part_cells ps))
cells_alone n [] c = refl
cells_alone n (inner d ∷ ps) c = let e = cells_alone n ps c in omega arith
cells_alone n (calls d ∷ ps) c = cells_alone n ps c

one_outer : (n : ℕ) (o : Outer) → part_times n (o.parts ++ inner o.cell ∷ []) ≡ part_times n o.parts + hit n o.cell.node
one_outer n o = let e = part-append n o.parts (inner o.cell ∷ []) in omega arith

two_outers : (n : ℕ) (o p : Outer) → part_times n (o.parts ++ inner o.cell ∷ (p.parts ++ inner p.cell ∷ [])) ≡ (part_times n o.parts + hit n o.cell.node) + (part_times n p.parts + hit n p.cell.node)
two_outers n o p = let e = part-append n o.parts (inner o.cell ∷ (p.parts ++ inner p.cell ∷ [])) in let f = one_outer n p in omega arith

three_outers : (n : ℕ) (o p q : Outer) → part_times n (o.parts ++ inner o.cell ∷ (p.parts ++ inner p.cell ∷ (q.parts ++ inner q.cell ∷ []))) ≡ (part_times n o.parts + hit n o.cell.node) + ((part_times n p.parts + hit n p.cell.node) + (part_times n q.parts + hit n q.cell.node))
three_outers n o p q = let e = part-append n o.parts (inner o.cell ∷ (p.parts ++ inner p.cell ∷ (q.parts ++ inner q.cell ∷ []))) in let f = two_outers n p q in omega arith

-- an expression as an outermost cell
outer_times : (n : ℕ) (t : Table) (e : Expression) → part_times n (outer t e).parts + hit n (outer t e).cell.node ≤ times n (expression_numbers e)
outer_times n t e = expression_part n t e

composite_times : (n : ℕ) (p : ℤ) (w : Word) (i : ℕ) (xs : Arguments) (os : List Name) → whole_times n (composite_call p w i xs os) ≡ part_times n xs.0
composite_times n p w i xs os = let e = cells_alone n xs.0 (call_to w i xs.1 os) in omega arith

call_right_times : (n : ℕ) (t : Table) (x : Name) (nd : Node) (w : Word) (es : Expressions) (c : Callee) → whole_times n (call_right t x (expression nd (call w es)) w es c) ≤ hit n nd.number + (hit n w.number + times n (expressions_numbers es))
call_right_times n t x nd w es (composite i) = let e = composite_times n (pos 0) w i (arguments_of t es) (x ∷ []) in let q = arguments_part n t es in omega arith
call_right_times n t x nd w es (built_in b) = let e = outer_times n t (expression nd (call w es)) in let q = one_outer n (outer t (expression nd (call w es))) in omega arith

assign_times : (n : ℕ) (t : Table) (x : Name) (e : Expression) → whole_times n (assign x (outer t e)) ≤ times n (expression_numbers e)
assign_times n t x e = let h = outer_times n t e in let q = one_outer n (outer t e) in omega arith

right_times : (n : ℕ) (t : Table) (x : Name) (sh : Shape) (r : RightSide) → whole_times n (right_of t x sh r) ≤ times n (right_numbers r)
right_times n t x sh (value (expression nd (call w es))) = call_right_times n t x nd w es (t.callee_of w.number)
right_times n t x (Shape.Array κ) (value (expression nd (variable w))) = omega arith
right_times n t x Shape.Scalar (value (expression nd (variable w))) = assign_times n t x (expression nd (variable w))
right_times n t x sh (list nd es) = let h = operands_part n t (expressions_of es) in let q = one_outer n (outer_of nd.number (computes op.literal (operands_of t (expressions_of es)))) in omega arith
right_times n t x (Shape.Array κ) (value (expression nd (number z))) = assign_times n t x (expression nd (number z))
right_times n t x Shape.Scalar (value (expression nd (number z))) = assign_times n t x (expression nd (number z))
right_times n t x (Shape.Array κ) (value (expression nd (text bytes))) = assign_times n t x (expression nd (text bytes))
right_times n t x Shape.Scalar (value (expression nd (text bytes))) = assign_times n t x (expression nd (text bytes))
right_times n t x (Shape.Array κ) (value (expression nd (truth b))) = assign_times n t x (expression nd (truth b))
right_times n t x Shape.Scalar (value (expression nd (truth b))) = assign_times n t x (expression nd (truth b))
right_times n t x (Shape.Array κ) (value (expression nd (element w i))) = assign_times n t x (expression nd (element w i))
right_times n t x Shape.Scalar (value (expression nd (element w i))) = assign_times n t x (expression nd (element w i))
right_times n t x (Shape.Array κ) (value (expression nd (prefixed p e))) = assign_times n t x (expression nd (prefixed p e))
right_times n t x Shape.Scalar (value (expression nd (prefixed p e))) = assign_times n t x (expression nd (prefixed p e))
right_times n t x (Shape.Array κ) (value (expression nd (chain os es))) = assign_times n t x (expression nd (chain os es))
right_times n t x Shape.Scalar (value (expression nd (chain os es))) = assign_times n t x (expression nd (chain os es))

after_times : (n : ℕ) (t : Table) (es : Expressions) → part_times n (operands_of t (after_first es)).0 ≤ times n (expressions_numbers es)
after_times n t no_expressions = omega arith
after_times n t (and_expression e es) = let q = operands_part n t es in let a = times-append n (expression_numbers e) (expressions_numbers es) in omega arith

print_times : (n m : ℕ) (t : Table) (p : ℤ) (es : Expressions) → whole_times n (print p (outer_of m (computes (op.printf (format_of es)) (operands_of t (after_first es))))) ≤ hit n m + times n (expressions_numbers es)
print_times n m t p es = let h = after_times n t es in let q = one_outer n (outer_of m (computes (op.printf (format_of es)) (operands_of t (after_first es)))) in omega arith

assert_times : (n m : ℕ) (t : Table) (p : ℤ) (es : Expressions) → whole_times n (assert p (outer_of m (computes op.assert (operands_of t es)))) ≤ hit n m + times n (expressions_numbers es)
assert_times n m t p es = let h = operands_part n t es in let q = one_outer n (outer_of m (computes op.assert (operands_of t es))) in omega arith

call_times : (n m : ℕ) (t : Table) (p : ℤ) (w : Word) (es : Expressions) (c : Callee) → whole_times n (call_action t p m w es c) ≤ hit n m + times n (expressions_numbers es)
call_times n m t p w es (composite i) = let e = composite_times n p w i (arguments_of t es) [] in let q = arguments_part n t es in omega arith
call_times n m t p w es (built_in table.printf) = print_times n m t p es
call_times n m t p w es (built_in table.assert) = assert_times n m t p es
call_times n m t p w es (built_in table.strcat) = assert_times n m t p es
call_times n m t p w es (built_in table.fromint) = assert_times n m t p es
call_times n m t p w es (built_in table.toint) = assert_times n m t p es
call_times n m t p w es (built_in table.size) = assert_times n m t p es

several_times : (n m : ℕ) (t : Table) (w : Word) (es : Expressions) (xs : List Name) (c : Callee) → whole_times n (several t m w es xs c) ≤ hit n m + (hit n w.number + times n (expressions_numbers es))
several_times n m t w es xs (composite i) = let e = composite_times n (pos 0) w i (arguments_of t es) xs in let q = arguments_part n t es in omega arith
several_times n m t w es xs (built_in b) =
    let q = operands_part n t es in
    let c = call_part n t w (built_in b) es ([], []) (operands_of t es) (times n (expressions_numbers es)) (omega arith) q in
    let o = one_outer n (outer_of m (call_form t w (built_in b) es ([], []) (operands_of t es))) in
    omega arith

roles_times : (n : ℕ) (v : Word) (k : Option Word) → times n (with_turn v.number (option_map (λ (x : Word). x.number) k)) ≡ hit n v.number + times n (maybe_numbers word_numbers k)
roles_times n v None = omega arith
roles_times n v (Some k) = omega arith

-- a block inside a statement counts whole
inner_times : (n : ℕ) (b : Block) → times n (flat block_nodes (b ∷ blocks_below b)) ≡ block_times n b
inner_times n b = times-append n (block_nodes b) (flat block_nodes (blocks_below b))

loop_times : (n : ℕ) (t : Table) (v : Word) (k : Option Word) (o : Over) (b : Block) → whole_times n (loop_action t v k o b) ≤ hit n v.number + (times n (maybe_numbers word_numbers k) + (times n (over_numbers o) + block_times n b))
loop_times n t v k (T.array w) b = let r = roles_times n v k in let i = inner_times n b in omega arith
loop_times n t v k (T.range low high None) b =
    let r = roles_times n v k in
    let i = inner_times n b in
    let x = outer_times n t low in
    let y = outer_times n t high in
    let z = two_outers n (outer t low) (outer t high) in
    let a = times-append n (expression_numbers low) (expression_numbers high ++ []) in
    let c = times-append n (expression_numbers high) [] in
    omega arith
loop_times n t v k (T.range low high (Some step)) b =
    let r = roles_times n v k in
    let i = inner_times n b in
    let x = outer_times n t low in
    let y = outer_times n t high in
    let u = outer_times n t step in
    let z = three_outers n (outer t low) (outer t high) (outer t step) in
    let a = times-append n (expression_numbers low) (expression_numbers high ++ expression_numbers step) in
    let c = times-append n (expression_numbers high) (expression_numbers step) in
    omega arith

when_times : (n : ℕ) (t : Table) (e : Expression) (d : Block) → whole_times n (when (outer t e) d) ≤ times n (expression_numbers e) + block_times n d
when_times n t e d = let x = outer_times n t e in let q = one_outer n (outer t e) in let i = inner_times n d in omega arith

choose_times : (n : ℕ) (t : Table) (e : Expression) (d f : Block) → whole_times n (choose (outer t e) d f) ≤ times n (expression_numbers e) + (block_times n d + block_times n f)
choose_times n t e d f =
    let x = outer_times n t e in
    let q = one_outer n (outer t e) in
    let i = inner_times n d in
    let j = inner_times n f in
    let k = times-flat block_nodes n (d ∷ blocks_below d) (f ∷ blocks_below f) in
    omega arith

write_times : (n : ℕ) (t : Table) (x : Name) (i e : Expression) → whole_times n (insert x (outer t i) (outer t e)) ≤ times n (expression_numbers i) + times n (expression_numbers e)
write_times n t x i e = let a = outer_times n t i in let c = outer_times n t e in let q = two_outers n (outer t i) (outer t e) in omega arith

-- SCRIPTS: the nodes of a core, beside numbers of its statements, each at most once of a statement, and of a definition once for both of its statements
module _ (head : Stmt → List ℕ) (few : (n at m : ℕ) (a : Action) → times n (head (stmt at m a)) ≤ hit n m)
    (pair : (n at m v : ℕ) (t : Table) (x : Name) (sh : Shape) (r : RightSide) → times n (head (stmt at m (declare v))) + times n (head (stmt at m (right_of t x sh r))) ≤ hit n m) where
  abbrev head_times : ℕ → Block → ℕ
  head_times n b = times n (flat head (block_list b)) + times n (flat head (stmts_among (blocks_below b)))

  abbrev both_times : ℕ → Block → ℕ
  both_times n b = head_times n b + block_times n b

  inner_heads : (n : ℕ) (b : Block) → times n (flat head (stmts_among (b ∷ blocks_below b))) ≡ head_times n b
  inner_heads n b = times-flat head n (block_list b) (stmts_among (blocks_below b))

  -- a statement in front of a block
  front_exact : (n at m : ℕ) (a : Action) (b : Block) → head_times n (stmts (stmt at m a) b) ≡ (times n (head (stmt at m a)) + times n (flat head (stmts_among (blocks_inside a)))) + head_times n b
  front_exact n at m a b =
      let x = times-append n (head (stmt at m a)) (flat head (block_list b)) in
      let y = among-append (blocks_inside a) (blocks_below b) n head in
      omega arith

  front_heads : (n at m : ℕ) (a : Action) (b : Block) → head_times n (stmts (stmt at m a) b) ≤ (hit n m + times n (flat head (stmts_among (blocks_inside a)))) + head_times n b
  front_heads n at m a b = let x = front_exact n at m a b in let z = few n at m a in omega arith

  none_inside : (n at m : ℕ) (a : Action) (b : Block) → blocks_inside a ≡ [] → head_times n (stmts (stmt at m a) b) ≤ hit n m + head_times n b
  none_inside n at m a b e =
      let f = front_heads n at m a b in
      let q : times n (flat head (stmts_among (blocks_inside a))) ≡ 0 = ap (λ (bs : List Block). times n (flat head (stmts_among bs))) e in
      omega arith

  mutual
    body_both : (n : ℕ) (t : Table) (b : Body) → both_times n (block_of t b) ≤ times n (body_numbers b)
    body_both n t (body from ss) = statements_both n t ss

    statements_both : (n : ℕ) (t : Table) (ss : Statements) → both_times n (block_in t ss) ≤ times n (statements_numbers ss)
    statements_both n t no_statements = omega arith
    statements_both n t (and_statement s ss) =
        let h = statement_both n t s (block_in t ss) in
        let k = statements_both n t ss in
        let a = times-append n (statement_numbers s) (statements_numbers ss) in
        omega arith

    statement_both : (n : ℕ) (t : Table) (s : Statement) (b : Block) → both_times n (with_statement t s b) ≤ times n (statement_numbers s) + both_times n b
    statement_both n t (statement nd c) b = let h = command_both n t nd c b in omega arith

    command_both : (n : ℕ) (t : Table) (nd : Node) (c : Command) (b : Block) → both_times n (with_command t nd c b) ≤ (hit n nd.number + times n (command_numbers c)) + both_times n b
    command_both n t nd (T.declare d None) b =
        let f = none_inside n nd.first.from nd.number (declare d.name.number) b refl in
        let x = front n nd.first.from nd.number (declare d.name.number) b in
        omega arith
    command_both n t nd (T.declare d (Some r)) b =
        let a = right_of t (here d.name.number) d.shape r in
        let f = front_exact n nd.first.from nd.number (declare d.name.number) (stmts (stmt_of nd a) b) in
        let g = front_exact n nd.first.from nd.number a b in
        let p = pair n nd.first.from nd.number d.name.number t (here d.name.number) d.shape r in
        let q : times n (flat head (stmts_among (blocks_inside a))) ≡ 0 = ap (λ (bs : List Block). times n (flat head (stmts_among bs))) (right_no_block t (here d.name.number) d.shape r) in
        let x = front n nd.first.from nd.number (declare d.name.number) (stmts (stmt_of nd a) b) in
        let y = front n nd.first.from nd.number a b in
        let z = right_times n t (here d.name.number) d.shape r in
        omega arith
    command_both n t nd (T.assign w r) b =
        let a = right_of t (refers t w) (t.shape_of w.number) r in
        let f = none_inside n nd.first.from nd.number a b (right_no_block t (refers t w) (t.shape_of w.number) r) in
        let x = front n nd.first.from nd.number a b in
        let y = right_times n t (refers t w) (t.shape_of w.number) r in
        omega arith
    command_both n t nd (T.write w i e) b =
        let f = none_inside n nd.first.from nd.number (insert (refers t w) (outer t i) (outer t e)) b refl in
        let x = front n nd.first.from nd.number (insert (refers t w) (outer t i) (outer t e)) b in
        let y = write_times n t (refers t w) i e in
        let a = times-append n (expression_numbers i) (expression_numbers e) in
        omega arith
    command_both n t nd (T.assign_all ws c) b =
        let es = expressions_of c.arguments in
        let a = several t c.node.number c.name es (map (refers t) ws) (t.callee_of c.name.number) in
        let f = none_inside n nd.first.from nd.number a b (several_no_block t c.node.number c.name es (map (refers t) ws) (t.callee_of c.name.number)) in
        let x = front n nd.first.from nd.number a b in
        let y = several_times n c.node.number t c.name es (map (refers t) ws) (t.callee_of c.name.number) in
        let z = times-append n (words_numbers ws) (calling_numbers c) in
        omega arith
    command_both n t nd (T.calls p c) b =
        let es = expressions_of c.arguments in
        let a = call_action t p c.node.number c.name es (t.callee_of c.name.number) in
        let f = none_inside n nd.first.from nd.number a b (call_no_block t p c.node.number c.name es (t.callee_of c.name.number)) in
        let x = front n nd.first.from nd.number a b in
        let y = call_times n c.node.number t p c.name es (t.callee_of c.name.number) in
        omega arith
    command_both n t nd (choice e d) b =
        let f = front_heads n nd.first.from nd.number (when (outer t e) (block_of t d)) b in
        let x = front n nd.first.from nd.number (when (outer t e) (block_of t d)) b in
        let y = when_times n t e (block_of t d) in
        let k = body_both n t d in
        let i = inner_heads n (block_of t d) in
        let a = times-append n (expression_numbers e) (body_numbers d) in
        omega arith
    command_both n t nd (choice_else e d other) b =
        let f = front_heads n nd.first.from nd.number (choose (outer t e) (block_of t d) (block_of t other)) b in
        let x = front n nd.first.from nd.number (choose (outer t e) (block_of t d) (block_of t other)) b in
        let y = choose_times n t e (block_of t d) (block_of t other) in
        let k = body_both n t d in
        let l = body_both n t other in
        let i = inner_heads n (block_of t d) in
        let j = inner_heads n (block_of t other) in
        let m = among-append (block_of t d ∷ blocks_below (block_of t d)) (block_of t other ∷ blocks_below (block_of t other)) n head in
        let a = times-append n (expression_numbers e) (body_numbers d ++ body_numbers other) in
        let c = times-append n (body_numbers d) (body_numbers other) in
        omega arith
    command_both n t nd (loop v k o d) b =
        let f = front_heads n nd.first.from nd.number (loop_action t v k o (block_of t d)) b in
        let x = front n nd.first.from nd.number (loop_action t v k o (block_of t d)) b in
        let y = loop_times n t v k o (block_of t d) in
        let q : times n (flat head (stmts_among (blocks_inside (loop_action t v k o (block_of t d))))) ≡ times n (flat head (stmts_among (block_of t d ∷ blocks_below (block_of t d)))) =
        ap (λ (bs : List Block). times n (flat head (stmts_among bs))) (loop_block t v k o (block_of t d)) in
        let i = inner_heads n (block_of t d) in
        let l = body_both n t d in
        let a = times-append n (maybe_numbers word_numbers k) (over_numbers o ++ body_numbers d) in
        let c = times-append n (over_numbers o) (body_numbers d) in
        omega arith
    command_both n t nd (waits ws d) b =
        let f = front_heads n nd.first.from nd.number (wait (map (awaited t) ws) (block_of t d)) b in
        let x = front n nd.first.from nd.number (wait (map (awaited t) ws) (block_of t d)) b in
        let y = inner_times n (block_of t d) in
        let k = body_both n t d in
        let i = inner_heads n (block_of t d) in
        let a = times-append n (words_numbers ws) (body_numbers d) in
        omega arith

  abbrev functions_both : ℕ → List Function → ℕ
  functions_both n fs = times n (flat head (stmts_among (function_blocks fs))) + times n (flat block_nodes (function_blocks fs))

  function_both : (n : ℕ) (f : Function) (fs : List Function) → functions_both n (f ∷ fs) ≡ both_times n f.body + functions_both n fs
  function_both n f fs =
      let a = among-append (f.body ∷ blocks_below f.body) (function_blocks fs) n head in
      let b = inner_heads n f.body in
      let c = times-flat block_nodes n (f.body ∷ blocks_below f.body) (function_blocks fs) in
      let d = inner_times n f.body in
      omega arith

  parts_both : (n : ℕ) (t : Table) (ps : Tree) → both_times n (script_block t ps) + functions_both n (functions_of t ps) ≤ times n (tree_numbers ps)
  parts_both n t [] = omega arith
  parts_both n t (import sp ∷ ps) = parts_both n t ps
  parts_both n t (single s ∷ ps) =
      let h = statement_both n t s (script_block t ps) in
      let r = parts_both n t ps in
      let a = times-append n (statement_numbers s) (tree_numbers ps) in
      omega arith
  parts_both n t (function f ∷ ps) =
      let h = body_both n t f.body in
      let r = parts_both n t ps in
      let g = function_both n (record { inputs = length f.inputs; outputs = length f.outputs; body = block_of t f.body }) (functions_of t ps) in
      let a = times-append n (declarations_numbers f.outputs) (f.name.number ∷ (declarations_numbers f.inputs ++ (body_numbers f.body ++ tree_numbers ps))) in
      let b = times-append n (declarations_numbers f.inputs) (body_numbers f.body ++ tree_numbers ps) in
      let c = times-append n (body_numbers f.body) (tree_numbers ps) in
      omega arith

  pub core_both : (n : ℕ) (t : Table) (tree : Tree) → times n (flat head (script_stmts (core t tree))) + times n (flat block_nodes (script_blocks (core t tree))) ≤ times n (tree_numbers tree)
  core_both n t tree =
      let h = parts_both n t tree in
      let a = among-append (blocks_of (script_block t tree)) (function_blocks (functions_of t tree)) n head in
      let i = inner_heads n (script_block t tree) in
      let b = times-flat block_nodes n (blocks_of (script_block t tree)) (function_blocks (functions_of t tree)) in
      let j = inner_times n (script_block t tree) in
      omega arith

-- where no number of a tree stands twice, no node of its core does
abbrev no_head : Stmt → List ℕ
no_head s = []

no_few : (n at m : ℕ) (a : Action) → times n (no_head (stmt at m a)) ≤ hit n m
no_few n at m a = omega arith

no_pair : (n at m v : ℕ) (t : Table) (x : Name) (sh : Shape) (r : RightSide) → times n (no_head (stmt at m (declare v))) + times n (no_head (stmt at m (right_of t x sh r))) ≤ hit n m
no_pair n at m v t x sh r = omega arith

pub nodes_once : (t : Table) (tree : Tree) → distinct (0 ∷ tree_numbers tree) ≡ true → distinct (0 ∷ flat block_nodes (script_blocks (core t tree))) ≡ true
nodes_once t tree h = few_distinct (0 ∷ flat block_nodes (script_blocks (core t tree))) (λ n. (let a = distinct_few (0 ∷ tree_numbers tree) h n in let b = core_both no_head no_few no_pair n t tree in omega arith))
