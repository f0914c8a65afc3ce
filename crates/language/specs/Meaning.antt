-- The meaning of a script: the facts that follow, round by round, from what is known. States docs/LANGUAGE.md:
-- Knowledge; Blocks and paths; Closing; Elements; Loops.
use Rattle.std.specs.Prelude.{◌≡◌, ◌≢◌, ◌⊎◌, ℕ, zero, suc, ◌<◌, ℤ, pos, List, [], ◌∷◌, length, Option, Some, Result, Ok, Err, slice_get}
use Rattle.values.specs.declared.fault.OpFault.{OpFault}
use Rattle.values.specs.declared.key.Key.{Key}
use Rattle.values.specs.declared.map.Element.{Element}
use Rattle.values.specs.declared.value.Scalar.{Scalar}
use Rattle.values.specs.declared.value.Value.{Value}
use Rattle.values.specs.declared.value.Value.TheVariants.{One, Many}
use Rattle.values.specs.Maps.{element as entry}
use Rattle.values.specs.Operators.{Operation, evaluated}
use Rattle.values.specs.Ranges.{range_count}
use Rattle.language.specs.Core.{Owned, local, output, Name, Expr, literal, name, whole, operator, Exprs, none, also, Form, compute, read, Cell, Call, Part, Outer, Awaited, scalar, array, Stmt, stmt, Action, declare, call_alone, assign, fill, insert, print, range, each, wait, Block, Function, Core}
use Rattle.language.specs.Facts.{Fault, operation, no_element, element_twice, too_deep, Fact, value, element, line, fault, Knowledge, IsKey, OneWrite, OneWriter, Elements, KnownAll}
use Rattle.language.specs.Members.{◌∈◌}
use Rattle.language.specs.Openings.{Bounds, bounds, Decides, Opens, InTurn, Branches}
use Rattle.language.specs.Parts.{stmt_at, stmt_node, outer_cells, cells, stmt_calls, block_list, function_body, targets}
use Rattle.language.specs.Places.{Path, Place, place, max_path_steps}

-- a variable is a target in a statement or in a block nested in it
abbrev pub IsTarget : Owned → Stmt → Type 0
IsTarget a st = a ∈ targets st

mutual
  -- a block is live at a path: the script's block; a block that a ready header opens; the content of a `wait`; the body
  -- of each call (docs/LANGUAGE.md, Blocks and paths)
  pub data Live (s : Core) (K : Knowledge) : Path → Block → Type 0 where
    script : Live s K [] s.body
    opened : {path : Path} {b c : Block} {at n : ℕ} {header : Action} {vs : List Value} {k : Key}
        → Live s K path b → stmt at n header ∈ block_list b
        → Ready s K path header vs → Opens header vs k c → length path < max_path_steps → Live s K ((at, k) ∷ path) c
    waited : {path : Path} {b c : Block} {at n : ℕ} {ns : List Awaited}
        → Live s K path b → stmt at n (wait ns c) ∈ block_list b → Ready s K path (wait ns c) [] → Live s K path c
    called : {path : Path} {b : Block} {f : Function} {st : Stmt} {c : Call}
        → Live s K path b → st ∈ block_list b → c ∈ stmt_calls st
        → slice_get s.functions c.function ≡ Some f → length path < max_path_steps → Live s K ((c.at, Key.Number (pos 0)) ∷ path) f.body

  -- an array is closed: its block is live, each statement of that block is finished for it, and no key has two writers
  -- (docs/LANGUAGE.md, Closing)
  pub data Closed (s : Core) (K : Knowledge) : Place → Type 0 where
    closed : {path : Path} {n at m : ℕ} {b : Block}
        → Live s K path b → stmt at m (declare n) ∈ block_list b
        → ((st : Stmt) → st ∈ block_list b → Finished s K (local n) path st)
        → OneWriter K (path, n)
        → Closed s K (path, n)

  -- a statement is finished for an array: it is no target there; the whole array or the element is written; every statement
  -- of each block that a call, a ready header or a `wait` opens is finished for it (docs/LANGUAGE.md, Closing)
  pub data Finished (s : Core) (K : Knowledge) : Owned → Path → Stmt → Type 0 where
    no_target : {a : Owned} {path : Path} {st : Stmt} → (IsTarget a st → ⊥) → Finished s K a path st
    value_known : {a : Owned} {path : Path} {at n : ℕ} {x : Name} {c : Outer} {v : Value}
        → K (value (path, c.cell.node) v) → Finished s K a path (stmt at n (fill x c))
    write_known : {a : Owned} {path : Path} {at n : ℕ} {x : Name} {i c : Outer} {k : Key} {v : Scalar}
        → K (element (place s path x) k (path, n) v) → Finished s K a path (stmt at n (insert x i c))
    body_finished : {a : Owned} {path : Path} {at n : ℕ} {p : ℤ} {ps : List Part} {c : Call}
        → length path < max_path_steps
        → ((j : ℕ) (x : Name) (st : Stmt) → slice_get c.outputs j ≡ Some x → x.what ≡ a → st ∈ function_body s c.function
        → Finished s K (output j) ((c.at, Key.Number (pos 0)) ∷ path) st)
        → Finished s K a path (stmt at n (call_alone p ps c))
    blocks_finished : {a : Owned} {path : Path} {at n : ℕ} {header : Action} {vs : List Value}
        → Branches header → Ready s K path header vs
        → ((k : Key) (b : Block) → Opens header vs k b → length path < max_path_steps)
        → ((k : Key) (b : Block) (st : Stmt) → Opens header vs k b → st ∈ block_list b → Finished s K a ((at, k) ∷ path) st)
        → Finished s K a path (stmt at n header)
    content_finished : {a : Owned} {path : Path} {at n : ℕ} {ns : List Awaited} {b : Block}
        → Ready s K path (wait ns b) []
        → ((st : Stmt) → st ∈ block_list b → Finished s K a path st)
        → Finished s K a path (stmt at n (wait ns b))

  -- the choice of a header is known (docs/LANGUAGE.md, Blocks and paths)
  pub data Ready (s : Core) (K : Knowledge) : Path → Action → List Value → Type 0 where
    cells_known : {path : Path} {header : Action} {vs : List Value}
        → KnownAll K path (outer_cells header) vs → Decides header vs → Ready s K path header vs
    source_closed : {path : Path} {a : Name} {x : ℕ} {t : Option ℕ} {b : Block} {es : List Element}
        → Closed s K (place s path a) → Elements K (place s path a) es
        → Ready s K path (each a x t b) (Many es ∷ [])
    names_known : {path : Path} {ns : List Awaited} {b : Block}
        → ((x : Awaited) → x ∈ ns → Come s K path x)
        → Ready s K path (wait ns b) []

  -- an awaited scalar or array is known (docs/LANGUAGE.md, Elements)
  pub data Come (s : Core) (K : Knowledge) : Path → Awaited → Type 0 where
    scalar_known : {path : Path} {x : Name} {v : Scalar} → HasValue s K (place s path x) v → Come s K path (scalar x)
    array_closed : {path : Path} {x : Name} → Closed s K (place s path x) → Come s K path (array x)

  -- the scalar at a place: a known value, or the value of a loop's variable in a turn that the loop opens
  -- (docs/LANGUAGE.md, Loops)
  pub data HasValue (s : Core) (K : Knowledge) : Place → Scalar → Type 0 where
    stored : {at : Place} {v : Scalar} → K (value at (One v)) → HasValue s K at v
    in_turn : {path : Path} {c : Block} {at n x : ℕ} {header : Action} {vs : List Value} {k : Key} {b : Block} {v : Scalar}
        → Live s K path c → stmt at n header ∈ block_list c → Ready s K path header vs → Opens header vs k b → InTurn header vs k x v → length path < max_path_steps
        → HasValue s K ((at, k) ∷ path, x) v

mutual
  -- the value of an expression under knowledge, once all its parts are known (docs/LANGUAGE.md, Cells)
  pub data ValueUnder (s : Core) (K : Knowledge) (path : Path) : Expr → Result Value OpFault → Type 0 where
    of_literal : {v : Scalar} → ValueUnder s K path (literal v) (Ok (One v))
    of_name : {x : Name} {v : Scalar} → HasValue s K (place s path x) v → ValueUnder s K path (name x) (Ok (One v))
    of_array : {a : Name} {es : List Element} → Closed s K (place s path a) → Elements K (place s path a) es
        → ValueUnder s K path (whole a) (Ok (Many es))
    of_operator : {o : Operation} {es : Exprs} {rs : List (Result Value OpFault)} {r : Result Value OpFault}
        → ValuesUnder s K path es rs → evaluated o rs ≡ r → ValueUnder s K path (operator o es) r

  pub data ValuesUnder (s : Core) (K : Knowledge) (path : Path) : Exprs → List (Result Value OpFault) → Type 0 where
    no_operand : ValuesUnder s K path none []
    operand : {e : Expr} {es : Exprs} {r : Result Value OpFault} {rs : List (Result Value OpFault)}
        → ValueUnder s K path e r → ValuesUnder s K path es rs → ValuesUnder s K path (also e es) (r ∷ rs)

-- the value or fault that a cell has under knowledge; a read element is of the key's one write, or there is none and
-- the array is closed (docs/LANGUAGE.md, Cells, Elements)
pub data Gives (s : Core) (K : Knowledge) (path : Path) : Form → Result Value Fault → Type 0 where
  computed : {e : Expr} {v : Value} → ValueUnder s K path e (Ok v) → Gives s K path (compute e) (Ok v)
  faulty : {e : Expr} {f : OpFault} → ValueUnder s K path e (Err f) → Gives s K path (compute e) (Err (operation f))
  found : {a : Name} {i : ℕ} {u : Value} {k : Key} {v : Scalar} → K (value (path, i) u) → IsKey u k
      → OneWrite K (place s path a) k v → Gives s K path (read a i) (Ok (One v))
  missing : {a : Name} {i : ℕ} {u : Value} {k : Key} → K (value (path, i) u) → IsKey u k → Closed s K (place s path a)
      → ((w : Place) (v : Scalar) → K (element (place s path a) k w v) → ⊥) → Gives s K path (read a i) (Err no_element)

-- the value that a cell has after the round: it was known before, or becomes known in the round
pub data Comes (s : Core) (K : Knowledge) (path : Path) : Cell → Value → Type 0 where
  before : {c : Cell} {v : Value} → K (value (path, c.node) v) → Comes s K path c v
  now : {c : Cell} {v : Value} → Gives s K path c.form (Ok v) → Comes s K path c v

-- the values that cells have after the round
pub data ComeAll (s : Core) (K : Knowledge) (path : Path) : List Cell → List Value → Type 0 where
  none_comes : ComeAll s K path [] []
  next_comes : {c : Cell} {cs : List Cell} {v : Value} {vs : List Value} → Comes s K path c v → ComeAll s K path cs vs
      → ComeAll s K path (c ∷ cs) (v ∷ vs)

-- a statement of a live block
pub data LiveStmt (s : Core) (K : Knowledge) : Path → Stmt → Type 0 where
  in_block : {path : Path} {b : Block} {st : Stmt} → Live s K path b → st ∈ block_list b → LiveStmt s K path st

-- the facts that a round adds: values and faults of cells; with the values of its outermost cells, what a statement
-- assigns, writes or prints; the fault of a range; a path that would be too long; two writes of one key
-- (docs/LANGUAGE.md, Knowledge)
pub data New (s : Core) (K : Knowledge) : Fact → Type 0 where
  cell_value : {path : Path} {st : Stmt} {c : Cell} {v : Value}
      → LiveStmt s K path st → c ∈ cells st → Gives s K path c.form (Ok v)
      → New s K (value (path, c.node) v)
  cell_fault : {path : Path} {st : Stmt} {c : Cell} {f : Fault}
      → LiveStmt s K path st → c ∈ cells st → Gives s K path c.form (Err f)
      → New s K (fault f (stmt_at st) (path, c.node))
  assigned : {path : Path} {at n : ℕ} {x : Name} {c : Outer} {v : Value}
      → LiveStmt s K path (stmt at n (assign x c)) → Comes s K path c.cell v
      → New s K (value (place s path x) v)
  filled : {path : Path} {at n : ℕ} {a : Name} {c : Outer} {es : List Element} {k : Key} {v : Scalar}
      → LiveStmt s K path (stmt at n (fill a c)) → Comes s K path c.cell (Many es) → entry k v ∈ es
      → New s K (element (place s path a) k (path, n) v)
  inserted : {path : Path} {at n : ℕ} {a : Name} {i c : Outer} {u : Value} {k : Key} {v : Scalar}
      → LiveStmt s K path (stmt at n (insert a i c)) → Comes s K path i.cell u → IsKey u k → Comes s K path c.cell (One v)
      → New s K (element (place s path a) k (path, n) v)
  printed : {path : Path} {at n : ℕ} {p : ℤ} {c : Outer} {bytes : List ℕ}
      → LiveStmt s K path (stmt at n (print p c)) → Comes s K path c.cell (One (Scalar.Text bytes))
      → New s K (line (path, n) bytes)
  bad_range : {path : Path} {at n x : ℕ} {lo hi : Outer} {st : Option Outer} {t : Option ℕ} {b : Block} {vs : List Value} {r : Bounds} {f : OpFault}
      → LiveStmt s K path (stmt at n (range lo hi st x t b)) → ComeAll s K path (outer_cells (range lo hi st x t b)) vs
      → bounds vs ≡ Some r → range_count r.low r.high r.step ≡ Err f
      → New s K (fault (operation f) at (path, n))
  too_deep_header : {path : Path} {at n : ℕ} {header : Action} {vs : List Value} {k : Key} {b : Block}
      → LiveStmt s K path (stmt at n header) → ComeAll s K path (outer_cells header) vs ⊎ Ready s K path header vs
      → Opens header vs k b → length path ≡ max_path_steps
      → New s K (fault too_deep at (path, n))
  too_deep_call : {path : Path} {st : Stmt} {c : Call}
      → LiveStmt s K path st → c ∈ stmt_calls st → length path ≡ max_path_steps
      → New s K (fault too_deep (stmt_at st) (path, stmt_node st))
  written_twice : {path : Path} {st : Stmt} {a w : Place} {k : Key} {v u : Scalar}
      → LiveStmt s K path st → K (element a k (path, stmt_node st) v) → K (element a k w u) → w ≢ (path, stmt_node st)
      → New s K (fault element_twice (stmt_at st) (path, stmt_node st))

-- one round: the facts known before, and the new ones (docs/LANGUAGE.md, Knowledge)
abbrev pub Round : Core → Knowledge → Knowledge
Round s K f = K f ⊎ New s K f

-- the facts known after n rounds (docs/LANGUAGE.md, Knowledge)
abbrev pub Known : Core → ℕ → Knowledge
Known s zero f = ⊥
Known s (suc n) f = Round s (Known s n) f

-- the meaning: the facts known after some round (docs/LANGUAGE.md, Knowledge)
abbrev pub Meaning : Core → Knowledge
Meaning s f = (n : ℕ) × Known s n f

-- one more round adds nothing
abbrev pub IsFinished : Core → ℕ → Type 0
IsFinished s n = (f : Fact) → Known s (suc n) f → Known s n f
