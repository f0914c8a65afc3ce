-- Single assignment: the assignments by name to a variable, counted along each control path (way) through its declaring
-- block. States docs/LANGUAGE.md: Single assignment.
use Rattle.std.specs.Prelude.{◌≡◌, ◌⊎◌, ℕ, suc, ◌+◌, ◌<◌, ◌≤◌, List, [], ◌∷◌, Option, Some}
use Rattle.values.specs.Operators.{Operation}
use Rattle.language.specs.Core.{Name, Owned, local, input, output, Expr, name, operator, Exprs, also, compute, Outer, Awaited, scalar, Stmt, stmt, Action, declare, when, choose, range, each, wait, Block, no_stmts, stmts, Function, Core}
use Rattle.language.specs.Members.{◌∈◌}
use Rattle.language.specs.Parts.{block_list, script_blocks, script_stmts, stmts_within, cells, stmt_action, by_name, by_element}

-- how often a variable occurs among names
pub data Times (x : Owned) : List Name → ℕ → Type 0 where
  nowhere : Times x [] 0
  here_too : {y : Name} {ys : List Name} {n : ℕ} → y.what ≡ x → Times x ys n → Times x (y ∷ ys) (suc n)
  not_here : {y : Name} {ys : List Name} {n : ℕ} → (y.what ≡ x → ⊥) → Times x ys n → Times x (y ∷ ys) n

-- a statement without nested blocks
abbrev pub IsSimple : Action → Type 0
IsSimple (when c b) = ⊥
IsSimple (choose c b d) = ⊥
IsSimple (range lo hi st v k b) = ⊥
IsSimple (each a v k b) = ⊥
IsSimple (wait ns b) = ⊥
IsSimple _ = Unit {0}

mutual
  -- some way through a block assigns the variable this often (docs/LANGUAGE.md, Single assignment)
  pub data Way (x : Owned) : Block → ℕ → Type 0 where
    way_end : Way x no_stmts 0
    way_on : {s : Stmt} {b : Block} {m n k : ℕ} → StmtWay x s m → Way x b n → k ≡ m + n → Way x (stmts s b) k

  -- statements add up, an `if` takes one branch, a `wait` counts its content; a loop has a rule of its own
  pub data StmtWay (x : Owned) : Stmt → ℕ → Type 0 where
    simple : {at n m : ℕ} {a : Action} → IsSimple a → Times x (by_name a) m → StmtWay x (stmt at n a) m
    taken : {at n m : ℕ} {c : Outer} {b : Block} → Way x b m → StmtWay x (stmt at n (when c b)) m
    skipped : {at n : ℕ} {c : Outer} {b : Block} → StmtWay x (stmt at n (when c b)) 0
    then_way : {at n m : ℕ} {c : Outer} {b d : Block} → Way x b m → StmtWay x (stmt at n (choose c b d)) m
    else_way : {at n m : ℕ} {c : Outer} {b d : Block} → Way x d m → StmtWay x (stmt at n (choose c b d)) m
    range_way : {at n v : ℕ} {lo hi : Outer} {st : Option Outer} {k : Option ℕ} {b : Block} → StmtWay x (stmt at n (range lo hi st v k b)) 0
    each_way : {at n v : ℕ} {a : Name} {k : Option ℕ} {b : Block} → StmtWay x (stmt at n (each a v k b)) 0
    wait_way : {at n m : ℕ} {ns : List Awaited} {b : Block} → Way x b m → StmtWay x (stmt at n (wait ns b)) m

-- the variable is assigned by name in a block or its nested blocks
pub record IsNamed (x : Owned) (b : Block) : Type 0 where
  pub st : Stmt
  pub target : Name
  pub there : st ∈ stmts_within b
  pub assigns : target ∈ by_name (stmt_action st)
  pub is : target.what ≡ x

-- an element of the variable is written in a block or its nested blocks
pub record IsWritten (x : Owned) (b : Block) : Type 0 where
  pub st : Stmt
  pub target : Name
  pub there : st ∈ stmts_within b
  pub writes : target ∈ by_element (stmt_action st)
  pub is : target.what ≡ x

mutual
  -- an expression reads a scalar variable
  pub data Reads (x : Owned) : Expr → Type 0 where
    the_name : {y : Name} → y.what ≡ x → Reads x (name y)
    an_operand : {o : Operation} {es : Exprs} → ReadsSome x es → Reads x (operator o es)

  pub data ReadsSome (x : Owned) : Exprs → Type 0 where
    the_first : {e : Expr} {es : Exprs} → Reads x e → ReadsSome x (also e es)
    a_later : {e : Expr} {es : Exprs} → ReadsSome x es → ReadsSome x (also e es)

-- a scalar's name is read in a block or its nested blocks: as an operand, an argument or a name of a `wait`
pub data IsRead (x : Owned) (b : Block) : Type 0 where
  in_cell : {s : Stmt} {n : ℕ} {e : Expr} → s ∈ stmts_within b → record { node = n; form = compute e } ∈ cells s → Reads x e → IsRead x b
  in_wait : {at n : ℕ} {ns : List Awaited} {d : Block} {y : Name} → stmt at n (wait ns d) ∈ stmts_within b → scalar y ∈ ns → y.what ≡ x → IsRead x b

-- a variable that has to be assigned, with its declaring block: one that a statement declares, or an output
pub data Owns (s : Core) : Owned → Block → Type 0 where
  declared_here : {b : Block} {at m n : ℕ} → b ∈ script_blocks s → stmt at m (declare n) ∈ block_list b → Owns s (local n) b
  an_output : {f : Function} {j : ℕ} → f ∈ s.functions → j < f.outputs → Owns s (output j) f.body

-- a variable that counts as assigned whole at its declaration: an input or a loop variable
pub data Given (s : Core) : Owned → Block → Type 0 where
  an_input : {f : Function} {j : ℕ} → f ∈ s.functions → j < f.inputs → Given s (input j) f.body
  range_value : {at n v : ℕ} {lo hi : Outer} {st : Option Outer} {k : Option ℕ} {b : Block} → stmt at n (range lo hi st v k b) ∈ script_stmts s
      → Given s (local v) b
  range_turn : {at n v k : ℕ} {lo hi : Outer} {st : Option Outer} {b : Block} → stmt at n (range lo hi st v (Some k) b) ∈ script_stmts s
      → Given s (local k) b
  each_value : {at n v : ℕ} {a : Name} {k : Option ℕ} {b : Block} → stmt at n (each a v k b) ∈ script_stmts s → Given s (local v) b
  each_key : {at n v k : ℕ} {a : Name} {b : Block} → stmt at n (each a v (Some k) b) ∈ script_stmts s → Given s (local k) b

-- the bodies of the loops in a block or its nested blocks
pub data LoopBody (b : Block) : Block → Type 0 where
  of_range : {at n v : ℕ} {lo hi : Outer} {st : Option Outer} {k : Option ℕ} {d : Block} → stmt at n (range lo hi st v k d) ∈ stmts_within b → LoopBody b d
  of_each : {at n v : ℕ} {a : Name} {k : Option ℕ} {d : Block} → stmt at n (each a v k d) ∈ stmts_within b → LoopBody b d

-- a script is singly assigned (docs/LANGUAGE.md, Single assignment)
pub record SinglyAssigned (s : Core) : Type 0 where
  -- S1: no way assigns a variable twice
  pub once : (x : Owned) (b : Block) (n : ℕ) → Owns s x b → Way x b n → n ≤ 1
  pub given_once : (x : Owned) (b : Block) (n : ℕ) → Given s x b → Way x b n → n ≡ 0
  -- S2: the branches of an `if` count alike
  pub alike : (x : Owned) (b : Block) (at n : ℕ) (c : Outer) (d e : Block) (i j : ℕ) → Owns s x b
      → stmt at n (choose c d e) ∈ stmts_within b → Way x d i → Way x e j → i ≡ j
  pub alone : (x : Owned) (b : Block) (at n : ℕ) (c : Outer) (d : Block) (i : ℕ) → Owns s x b
      → stmt at n (when c d) ∈ stmts_within b → Way x d i → i ≡ 0
  -- S3: a scalar that is read is assigned
  pub assigned : (x : Owned) (b : Block) → Owns s x b → IsRead x b → IsNamed x b
  -- S4: a variable is not assigned by name in a loop inside which it is not declared
  pub outside_loops : (x : Owned) (b d : Block) → Owns s x b ⊎ Given s x b → LoopBody b d → IsNamed x d → ⊥
  -- S5: an array is not assigned both whole and by elements
  pub one_form : (x : Owned) (b : Block) → Owns s x b → IsNamed x b → IsWritten x b → ⊥
  pub given_form : (x : Owned) (b : Block) → Given s x b → IsWritten x b → ⊥
  -- S6: an output is assigned, by name or by an element
  pub output_assigned : (f : Function) (j : ℕ) → f ∈ s.functions → j < f.outputs → IsNamed (output j) f.body ⊎ IsWritten (output j) f.body
