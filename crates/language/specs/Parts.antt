-- Functions of the core: its cells, calls, blocks, statements and targets. States docs/LANGUAGE.md: Cells; Calls.
use Rattle.std.specs.Prelude.{ℕ, zero, suc, List, [], ◌∷◌, ◌++◌, map, Option, Some, None, nat_eq, find, slice_get, option_to_list}
use Rattle.language.specs.Core.{Owned, Name, here, Cell, Call, Part, inner, calls, Outer, Stmt, stmt, Action, declare, call_alone, assign, fill, insert, print, assert, when, choose, range, each, wait, Block, no_stmts, stmts, Function, Core}

abbrev pub stmt_at : Stmt → ℕ
stmt_at (stmt at n a) = at

abbrev pub stmt_node : Stmt → ℕ
stmt_node (stmt at n a) = n

abbrev pub stmt_action : Stmt → Action
stmt_action (stmt at n a) = a

-- CELLS AND CALLS

-- the outermost cells in reading order
abbrev pub outers : Action → List Outer
outers (declare v) = []
outers (call_alone p ps c) = []
outers (assign x e) = e ∷ []
outers (fill a e) = e ∷ []
outers (insert a k e) = k ∷ e ∷ []
outers (print p e) = e ∷ []
outers (assert p e) = e ∷ []
outers (when c b) = c ∷ []
outers (choose c b d) = c ∷ []
outers (range lo hi st v k b) = lo ∷ hi ∷ option_to_list st
outers (each a v k b) = []
outers (wait ns b) = []

abbrev pub outer_cells : Action → List Cell
outer_cells a = map (λ o. o.cell) (outers a)

-- each outermost cell after its nested parts
abbrev pub outer_parts : List Outer → List Part
outer_parts [] = []
outer_parts (o ∷ os) = o.parts ++ inner o.cell ∷ outer_parts os

-- the cells and composite calls of a statement in reading order, inner ones before outer ones
abbrev pub parts : Action → List Part
parts (call_alone p ps c) = ps ++ calls c ∷ []
parts a = outer_parts (outers a)

abbrev pub part_cells : List Part → List Cell
part_cells [] = []
part_cells (inner c ∷ ps) = c ∷ part_cells ps
part_cells (calls c ∷ ps) = part_cells ps

abbrev pub part_calls : List Part → List Call
part_calls [] = []
part_calls (inner c ∷ ps) = part_calls ps
part_calls (calls c ∷ ps) = c ∷ part_calls ps

-- the cells of a statement
abbrev pub cells : Stmt → List Cell
cells (stmt at n a) = part_cells (parts a)

-- the composite calls of a statement
abbrev pub stmt_calls : Stmt → List Call
stmt_calls (stmt at n a) = part_calls (parts a)

-- BLOCKS AND STATEMENTS

abbrev pub block_list : Block → List Stmt
block_list no_stmts = []
block_list (stmts s b) = s ∷ block_list b

-- the blocks nested in a block, and those nested in a statement
abbrev mutual
  pub blocks_below : Block → List Block
  blocks_below no_stmts = []
  blocks_below (stmts s b) = blocks_in s ++ blocks_below b

  pub blocks_in : Stmt → List Block
  blocks_in (stmt at n a) = blocks_inside a

  pub blocks_inside : Action → List Block
  blocks_inside (declare v) = []
  blocks_inside (call_alone p ps c) = []
  blocks_inside (assign x e) = []
  blocks_inside (fill a e) = []
  blocks_inside (insert a k e) = []
  blocks_inside (print p e) = []
  blocks_inside (assert p e) = []
  blocks_inside (when c b) = b ∷ blocks_below b
  blocks_inside (choose c b d) = b ∷ (blocks_below b ++ d ∷ blocks_below d)
  blocks_inside (range lo hi st v k b) = b ∷ blocks_below b
  blocks_inside (each a v k b) = b ∷ blocks_below b
  blocks_inside (wait ns b) = b ∷ blocks_below b

-- a block and its nested blocks
abbrev pub blocks_of : Block → List Block
blocks_of b = b ∷ blocks_below b

abbrev pub function_blocks : List Function → List Block
function_blocks [] = []
function_blocks (f ∷ fs) = blocks_of f.body ++ function_blocks fs

-- every block of a script
abbrev pub script_blocks : Core → List Block
script_blocks s = blocks_of s.body ++ function_blocks s.functions

abbrev pub stmts_among : List Block → List Stmt
stmts_among [] = []
stmts_among (b ∷ bs) = block_list b ++ stmts_among bs

-- the statements of a block and of its nested blocks
abbrev pub stmts_within : Block → List Stmt
stmts_within b = stmts_among (blocks_of b)

-- every statement of a script
abbrev pub script_stmts : Core → List Stmt
script_stmts s = stmts_among (script_blocks s)

-- CALLED FUNCTIONS

abbrev pub calls_among : List Stmt → List Call
calls_among [] = []
calls_among (s ∷ ss) = stmt_calls s ++ calls_among ss

-- the call whose name stands at an offset
abbrev pub call_at : Core → ℕ → Option Call
call_at s at = find (λ c. nat_eq c.at at) (calls_among (script_stmts s))

abbrev pub name_at : List Name → ℕ → Name
name_at [] i = here 0
name_at (x ∷ xs) zero = x
name_at (x ∷ xs) (suc i) = name_at xs i

-- the name bound to the i-th input or output of the called body, as seen from the calling block
abbrev pub input_name : Option Call → ℕ → Name
input_name None i = here 0
input_name (Some c) i = name_at c.inputs i

abbrev pub output_name : Option Call → ℕ → Name
output_name None i = here 0
output_name (Some c) i = name_at c.outputs i

abbrev pub stmts_of : Option Function → List Stmt
stmts_of None = []
stmts_of (Some f) = block_list f.body

-- the statements of a function's body
abbrev pub function_body : Core → ℕ → List Stmt
function_body s f = stmts_of (slice_get s.functions f)

-- TARGETS

abbrev pub owners : List Name → List Owned
owners xs = map (λ x. x.what) xs

-- the names that a statement itself assigns, outside its nested blocks
abbrev pub by_name : Action → List Name
by_name (call_alone p ps c) = c.outputs
by_name (assign y e) = y ∷ []
by_name (fill a e) = a ∷ []
by_name _ = []

-- the arrays of which a statement itself writes an element, outside its nested blocks
abbrev pub by_element : Action → List Name
by_element (insert a i e) = a ∷ []
by_element _ = []

-- the targets of a statement and of its nested blocks
abbrev mutual
  pub targets : Stmt → List Owned
  targets (stmt at n a) = targets_of a

  pub targets_of : Action → List Owned
  targets_of (declare v) = []
  targets_of (call_alone p ps c) = owners c.outputs
  targets_of (assign x e) = x.what ∷ []
  targets_of (fill a e) = a.what ∷ []
  targets_of (insert a k e) = a.what ∷ []
  targets_of (print p e) = []
  targets_of (assert p e) = []
  targets_of (when c b) = targets_in b
  targets_of (choose c b d) = targets_in b ++ targets_in d
  targets_of (range lo hi st v k b) = targets_in b
  targets_of (each a v k b) = targets_in b
  targets_of (wait ns b) = targets_in b

  pub targets_in : Block → List Owned
  targets_in no_stmts = []
  targets_in (stmts s b) = targets s ++ targets_in b
