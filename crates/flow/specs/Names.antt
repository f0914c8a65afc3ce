-- The names that a statement uses, the nodes that it declares, and the blocks that it opens.
use Rattle.std.specs.Prelude.{ℕ, zero, List, [], ◌∷◌, ◌++◌, map, option_to_list}
use Rattle.std.specs.List.{flat_map}
use Rattle.language.specs.Core.{Owned, local, Name, here, Expr, Exprs, literal, name, whole, operator, none, also, Form, compute, read, Part, inner, calls, Awaited, scalar, array, Stmt, stmt, Action, declare, call_alone, assign, fill, insert, when, choose, range, each, wait, Block, no_stmts, stmts}
use Rattle.language.specs.Parts.{parts, outer_parts, outers}

-- NAMES THAT A STATEMENT USES

abbrev mutual
  pub expr_names : Expr → List Name
  expr_names (literal v) = []
  expr_names (name x) = x ∷ []
  expr_names (whole a) = a ∷ []
  expr_names (operator o es) = exprs_names es

  pub exprs_names : Exprs → List Name
  exprs_names none = []
  exprs_names (also e es) = expr_names e ++ exprs_names es

-- the index of an element that is read is a cell
abbrev pub form_names : Form → List Name
form_names (compute e) = expr_names e
form_names (read a i) = a ∷ here i ∷ []

abbrev pub part_names : Part → List Name
part_names (inner c) = form_names c.form
part_names (calls c) = c.inputs ++ c.outputs

abbrev pub awaited_name : Awaited → Name
awaited_name (scalar x) = x
awaited_name (array x) = x

-- names of a statement outside its cells and calls: those it assigns, iterates over or waits for
abbrev pub own_names : Action → List Name
own_names (assign x e) = x ∷ []
own_names (fill a e) = a ∷ []
own_names (insert a i e) = a ∷ []
own_names (each a v k b) = a ∷ []
own_names (wait xs b) = map awaited_name xs
own_names _ = []

abbrev pub names_used : Action → List Name
names_used a = own_names a ++ flat_map part_names (parts a)

-- NODES THAT A STATEMENT DECLARES

-- the node of a name that belongs to the block that uses it
abbrev pub nodes_here : (up : ℕ) → Owned → List ℕ
nodes_here zero (local n) = n ∷ []
nodes_here _ _ = []

abbrev pub here_nodes : Name → List ℕ
here_nodes x = nodes_here x.up x.what

-- a cell declares itself, a call in an expression its outputs
abbrev pub part_nodes : Part → List ℕ
part_nodes (inner c) = c.node ∷ []
part_nodes (calls c) = flat_map here_nodes c.outputs

-- a `wait` declares nothing: its content is a block of its own
abbrev pub action_nodes : Action → List ℕ
action_nodes (declare v) = v ∷ []
action_nodes (call_alone p ps c) = flat_map part_nodes ps
action_nodes a = flat_map part_nodes (outer_parts (outers a))

abbrev pub stmt_nodes : Stmt → List ℕ
stmt_nodes (stmt at n a) = action_nodes a

abbrev pub block_nodes : Block → List ℕ
block_nodes no_stmts = []
block_nodes (stmts s b) = stmt_nodes s ++ block_nodes b

-- BLOCKS THAT A STATEMENT OPENS

-- a block that a statement opens, with the variables of a loop
pub record Opened : Type 0 where
  pub variables : List ℕ
  pub block : Block

abbrev pub opens : Action → List Opened
opens (when c b) = record { variables = []; block = b } ∷ []
opens (choose c b d) = record { variables = []; block = b } ∷ record { variables = []; block = d } ∷ []
opens (range lo hi st v k b) = record { variables = v ∷ option_to_list k; block = b } ∷ []
opens (each a v k b) = record { variables = v ∷ option_to_list k; block = b } ∷ []
opens _ = []
